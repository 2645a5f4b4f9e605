-- What a listing of orders has, of what the orders come to.
use Rattle.std.specs.Prelude.{◌≡◌, ℕ, ◌==◌, Bool, false, if◌then◌else◌, List, ◌++◌, ◌+◌, length, map, Option, None, Some}
use Rattle.std.specs.Option.{option_map_or}
use Rattle.nim_command.specs.declared.command.Command.{Command}
use Rattle.nim_command.specs.Waits.{Member, members_of}
use Rattle.nim_message.specs.Orders.{Session}
use Rattle.nim_plan.specs.declared.listing.Listing.{Listing}
use Rattle.nim_plan.specs.Installed.{Has}

-- the commands of one order
abbrev pub members_at : ℕ → List Command → List Member
members_at group commands = map (λ command. record { group = group; command = command }) commands

-- the epoch since the last Reset
abbrev pub epoch_of : Session → Option ℕ
epoch_of session = if session.begun then Some session.epoch else None

-- whether an order counts, by the epoch that there is and the one that it names
abbrev pub is_epoch : Option ℕ → Option ℕ → Bool
is_epoch current named = option_map_or (λ (c : ℕ). option_map_or (λ (epoch : ℕ). epoch == c) named false) current false

-- a listing has what the orders come to
pub record IsListing (listing : Listing) (session : Session) : Type 0 where
  pub epoch : listing.epoch ≡ epoch_of session
  pub groups : listing.groups ≡ length session.groups
  pub members : listing.members.items ≡ members_of session.groups
  pub installed : Has listing.installed session.halves session.patches

-- a listing with one more group of these commands
pub record IsPushed (old : Listing) (commands : List Command) (new : Listing) : Type 0 where
  pub members : new.members.items ≡ old.members.items ++ members_at old.groups commands
  pub groups : new.groups ≡ old.groups + 1
  pub rest : new ≡ record old { members = new.members; groups = new.groups }
