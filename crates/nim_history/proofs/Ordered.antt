-- A worker is handed an order or a frame: all stays right.
use Rattle.std.proofs.Common.{◌≡◌, Bool, true, false, List, [], ◌∷◌, ◌++◌, drop, length, refl, ap, sym, subst, ◌∙◌, arith}
use Rattle.std.specs.Prelude.{nat_lt, if◌then◌else◌}
use Rattle.std.specs.FinMap as map
use Rattle.std.proofs.lemmas.Bool.{both_ways}
use Rattle.std.proofs.lemmas.List.{append-nil, length-append}
use Rattle.nim_command.specs.declared.command.Command.{Command}
use Rattle.nim_command.specs.declared.entry.Entry.{Entry}
use Rattle.nim_command.specs.Covered.{is_covered}
use Rattle.nim_command.specs.Edits.{edited_by}
use Rattle.nim_command.specs.Holds.{Content}
use Rattle.nim_command.specs.Waits.{Group, placed_commands, single_group}
use Rattle.nim_message.specs.declared.frame.Data.{Data}
use Rattle.nim_message.specs.declared.order.ToWorker.{ToWorker}
use Rattle.nim_message.specs.declared.order.ToWorker.TheVariants.{Single, InstallTemplate, Instantiate, InstallPatch, RunPatch, Reset, Stop}
use Rattle.nim_message.specs.Orders.{Session, after_order, instance_group, is_current, patch_group, with_group, with_half, with_patch}
use Rattle.nim_order.specs.Longer.{LongerStands}
use Rattle.nim_order.specs.Progress.{IsClosed, held_when, is_one_of}
use Rattle.nim_order.proofs.Longer.{any_longer, front_stays}
use Rattle.nim_job.specs.declared.job.Job.{Job}
use Rattle.nim_plan.specs.Good.{IsGoodFrame}
use Rattle.nim_plan.specs.Legal.{IsLegalOrder}
use Rattle.nim_store.specs.Keys.{key_of}
use Rattle.nim_history.specs.History.{WorkerState, framed, ordered}
use Rattle.nim_history.specs.InTurn.{is_reset}
use Rattle.nim_history.proofs.Inbox.{frame_true, retained_true}
use Rattle.nim_history.proofs.LegalOrders.{IsSound, sound_order}
use Rattle.nim_history.proofs.Members.{versions}
use Rattle.nim_history.proofs.Right.{IsRight, nothing}

-- a session with the same groups and more behind them
abbrev pub GrowsTo : Session → Session → Type 0
GrowsTo session after = (more : List Group) × (after.groups ≡ session.groups ++ more)

grows_if : (b : Bool) (session wider : Session) → GrowsTo session wider → GrowsTo session (if b then wider else session)
grows_if true session wider grows = grows
grows_if false session wider grows = ([], sym (append-nil session.groups))

-- so it is after each order but a Reset
pub order_grows : (session : Session) (order : ToWorker) → is_reset order ≡ false → GrowsTo session (after_order session order)
order_grows session (Single epoch instance commands) other =
    let group : Group = single_group epoch instance commands in
    grows_if (is_current session epoch) session (with_group session group) (group ∷ [], refl)
order_grows session (InstallTemplate epoch block entries) other =
    grows_if (is_current session epoch) session (with_half session block entries) ([], sym (append-nil session.groups))
order_grows session (Instantiate epoch instance block base args versions edits) other =
    let half : List Entry = edited_by edits (session.halves block) in
    let group : Group = instance_group epoch instance base args versions half in
    grows_if (is_current session epoch) session (with_group (with_half session block half) group) (group ∷ [], refl)
order_grows session (InstallPatch epoch patch copies) other =
    grows_if (is_current session epoch) session (with_patch session patch copies) ([], sym (append-nil session.groups))
order_grows session (RunPatch epoch instance patch versions) other =
    let group : Group = patch_group epoch instance versions (session.patches patch) in
    grows_if (is_current session epoch) session (with_group session group) (group ∷ [], refl)
order_grows session (Reset epoch worker workers shapes) other = absurd (both_ways true other refl)
order_grows session Stop other = ([], sym (append-nil session.groups))

-- more commands behind those that were asked for
longer_right : (job : Job) (state : WorkerState) (session : Session) → GrowsTo state.session session → IsSound job session
    → is_covered (placed_commands session.groups) ≡ true
    → IsRight job state → IsRight job (record state { session = session })
longer_right job state session grows sound covered right =
    let front : List Command = placed_commands state.session.groups in
    let rest : List Command = drop (length front) (placed_commands (state.session.groups ++ grows.0)) in
    let is : placed_commands session.groups ≡ front ++ rest = ap placed_commands grows.1 ∙ front_stays state.session.groups grows.0 in
    let stands : LongerStands versions nothing front rest (is_one_of state.ran) =
    any_longer Content versions nothing front rest (is_one_of state.ran) right.within in
    record {
      sound = sound;
      covered = covered;
      closed = subst (λ (commands : List Command). IsClosed commands (is_one_of state.ran)) (sym is) (stands.closed right.closed);
      within = λ place past. right.within place (omega (arith, past, ap length is, length-append front rest));
      contents = λ slot.
          right.contents slot ∙ sym (stands.held slot)
          ∙ ap (λ (commands : List Command). held_when versions nothing commands (is_one_of state.ran) slot) (sym is);
      slots = right.slots;
      inbox = right.inbox;
      gave = right.gave;
    }

-- one more order
pub ordered_right : (job : Job) (state : WorkerState) (order : ToWorker) → IsLegalOrder job state.session order
    → is_covered (placed_commands (after_order state.session order).groups) ≡ true → IsRight job state → IsRight job (ordered state order)
ordered_right job state (Single epoch instance commands) legal covered right =
    let order : ToWorker = Single epoch instance commands in
    longer_right job state (after_order state.session order) (order_grows state.session order refl)
    (sound_order job state.session order legal right.sound) covered right
ordered_right job state (InstallTemplate epoch block entries) legal covered right =
    let order : ToWorker = InstallTemplate epoch block entries in
    longer_right job state (after_order state.session order) (order_grows state.session order refl)
    (sound_order job state.session order legal right.sound) covered right
ordered_right job state (Instantiate epoch instance block base args versions edits) legal covered right =
    let order : ToWorker = Instantiate epoch instance block base args versions edits in
    longer_right job state (after_order state.session order) (order_grows state.session order refl)
    (sound_order job state.session order legal right.sound) covered right
ordered_right job state (InstallPatch epoch patch copies) legal covered right =
    let order : ToWorker = InstallPatch epoch patch copies in
    longer_right job state (after_order state.session order) (order_grows state.session order refl)
    (sound_order job state.session order legal right.sound) covered right
ordered_right job state (RunPatch epoch instance patch versions) legal covered right =
    let order : ToWorker = RunPatch epoch instance patch versions in
    longer_right job state (after_order state.session order) (order_grows state.session order refl)
    (sound_order job state.session order legal right.sound) covered right
ordered_right job state (Reset epoch worker workers shapes) legal covered right = record {
  sound = sound_order job state.session (Reset epoch worker workers shapes) legal right.sound;
  covered = covered;
  closed = λ place is. absurd (both_ways false refl is);
  within = λ place past. refl;
  contents = λ slot. refl;
  slots = λ slot. tt;
  inbox = retained_true job state.inbox epoch right.inbox;
  gave = right.gave;
}
ordered_right job state Stop legal covered right = right

-- what a worker is then, but after a Reset
pub ordered_is : (state : WorkerState) (order : ToWorker) → is_reset order ≡ false
    → ordered state order ≡ record state { session = after_order state.session order }
ordered_is state (Reset epoch worker workers shapes) other = absurd (both_ways true other refl)
ordered_is state order other = refl

-- what the session is then
pub ordered_session : (state : WorkerState) (order : ToWorker) → (ordered state order).session ≡ after_order state.session order
ordered_session state (Reset epoch worker workers shapes) = refl
ordered_session state order = refl

-- one more frame
pub framed_right : (job : Job) (state : WorkerState) (frame : Data) → IsGoodFrame job frame → IsRight job state → IsRight job (framed state frame)
framed_right job state frame good right = either (nat_lt frame.epoch state.session.epoch) where
  either : (b : Bool) → IsRight job (if b then state else record state { inbox = map.insert state.inbox (key_of frame) frame.value })
  either true = right
  either false = record {
    sound = right.sound;
    covered = right.covered;
    closed = right.closed;
    within = right.within;
    contents = right.contents;
    slots = right.slots;
    inbox = frame_true job state.inbox frame good right.inbox;
    gave = right.gave;
  }

pub framed_session : (state : WorkerState) (frame : Data) → (framed state frame).session ≡ state.session
framed_session state frame = either (nat_lt frame.epoch state.session.epoch) where
  either : (b : Bool) → (if b then state else record state { inbox = map.insert state.inbox (key_of frame) frame.value }).session ≡ state.session
  either true = refl
  either false = refl
