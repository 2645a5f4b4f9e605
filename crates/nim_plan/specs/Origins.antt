-- Where the content of a slot comes from, looking back over one command.
use Rattle.nim_base.specs.declared.number.Slot.{Slot}
use Rattle.nim_command.specs.Holds.{Content, content_at}
use Rattle.nim_plan.specs.declared.contents.Origin.{Origin}
use Rattle.nim_plan.specs.declared.contents.Origin.TheVariants.{Put, Before}

-- a version of the slot's object that was put there, or what a slot had before
abbrev pub content_from : Origin → (Slot → Content) → Slot → Content
content_from (Put version) before slot = content_at slot version
content_from (Before earlier) before slot = before earlier
