-- Past the end of a list of commands nothing changes any more.
use Rattle.std.proofs.Common.{◌≡◌, ℕ, zero, suc, ◌+◌, ◌≤◌, ◌<◌, ◌-◌, inl, inr, List, length, ap, sym, ◌∙◌, arith}
use Rattle.std.specs.Prelude.{◌⊎◌, min, Option}
use Rattle.std.specs.Option.{option_map_or}
use Rattle.std.proofs.lemmas.Bool.{cases_lt}
use Rattle.std.proofs.lemmas.Option.{slice_get_past}
use Rattle.nim_base.specs.declared.number.Slot.{Slot}
use Rattle.nim_command.specs.declared.command.Command.{Command}
use Rattle.nim_command.specs.Holds.{holds, left_by}

holds_more : (commands : List Command) (n : ℕ) (slot : Slot) → length commands ≤ n → holds commands (suc n) slot ≡ holds commands n slot
holds_more commands n slot past =
    ap (λ (o : Option Command). option_map_or (λ (c : Command). left_by c.kind (holds commands n) slot) o (holds commands n slot))
    (slice_get_past commands n past)

pub holds_past : (commands : List Command) (more : ℕ) (slot : Slot) → holds commands (length commands + more) slot ≡ holds commands (length commands) slot
holds_past commands zero slot = let same : length commands + 0 ≡ length commands = omega arith in ap (λ (n : ℕ). holds commands n slot) same
holds_past commands (suc more) slot =
    let next : length commands + suc more ≡ suc (length commands + more) = omega arith in
    ap (λ (n : ℕ). holds commands n slot) next ∙ holds_more commands (length commands + more) slot (omega arith) ∙ holds_past commands more slot

-- a place past the end is as good as the end
pub holds_cut : (commands : List Command) (place cut : ℕ) (slot : Slot) → cut ≡ min place (length commands)
    → holds commands cut slot ≡ holds commands place slot
holds_cut commands place cut slot is = either (cases_lt (length commands) place) where
  either : (length commands < place) ⊎ (place ≤ length commands) → holds commands cut slot ≡ holds commands place slot
  either (inl past) =
      let first : cut ≡ length commands = omega arith in
      let last : length commands + (place - length commands) ≡ place = omega arith in
      ap (λ (n : ℕ). holds commands n slot) first ∙ sym (holds_past commands (place - length commands) slot) ∙ ap (λ (n : ℕ). holds commands n slot) last
  either (inr within) = let same : cut ≡ place = omega arith in ap (λ (n : ℕ). holds commands n slot) same
