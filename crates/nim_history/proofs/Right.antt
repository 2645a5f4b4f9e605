-- What stays through all that happens at a worker that is handed what is true.
use Rattle.std.proofs.Common.{◌≡◌, ℕ, ◌≤◌, true, false, refl, length, None, All}
use Rattle.std.specs.Prelude.{IfSome}
use Rattle.std.proofs.lemmas.Bool.{both_ways}
use Rattle.std.proofs.lemmas.List.Elements.{All-nil}
use Rattle.nim_base.specs.declared.number.Slot.{Slot}
use Rattle.nim_command.specs.Covered.{is_covered}
use Rattle.nim_command.specs.Holds.{Content}
use Rattle.nim_command.specs.Waits.{placed_commands}
use Rattle.nim_order.specs.Progress.{IsClosed, held_when, is_one_of}
use Rattle.nim_job.specs.declared.job.Job.{Job}
use Rattle.nim_history.specs.History.{WorkerState, new_state}
use Rattle.nim_history.specs.Truth.{IsGoodOut, IsTrueHeld, content_in}
use Rattle.nim_history.proofs.Inbox.{IsTrueInbox, empty_true}
use Rattle.nim_history.proofs.LegalOrders.{IsSound}
use Rattle.nim_history.proofs.Members.{versions}

-- all slots empty
abbrev pub nothing : Slot → Content
nothing slot = None

-- The commands that were asked for are legal and covered, those that are complete are closed under waits, the slots have
-- what these leave, with the values of the versions, and so have the frames; and what was given is true.
pub record IsRight (job : Job) (state : WorkerState) : Type 0 where
  pub sound : IsSound job state.session
  pub covered : is_covered (placed_commands state.session.groups) ≡ true
  pub closed : IsClosed (placed_commands state.session.groups) (is_one_of state.ran)
  pub within : (place : ℕ) → length (placed_commands state.session.groups) ≤ place → is_one_of state.ran place ≡ false
  pub contents : (slot : Slot) → content_in state.slots slot ≡ held_when versions nothing (placed_commands state.session.groups) (is_one_of state.ran) slot
  pub slots : (slot : Slot) → IfSome (state.slots slot) (IsTrueHeld job)
  pub inbox : IsTrueInbox job state.inbox
  pub gave : All (IsGoodOut job) state.gave

pub new_right : (job : Job) → IsRight job new_state
new_right job = record {
  sound = record { legal = tt; shapes = λ begun. absurd (both_ways false refl begun); none = λ unbegun. refl };
  covered = refl;
  closed = λ place is. absurd (both_ways false refl is);
  within = λ place past. refl;
  contents = λ slot. refl;
  slots = λ slot. tt;
  inbox = empty_true job;
  gave = All-nil (IsGoodOut job);
}
