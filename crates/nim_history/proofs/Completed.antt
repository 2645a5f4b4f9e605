-- A worker completes a command that may be completed: it finds what it is to find, and all stays right.
use Rattle.std.proofs.Common.{◌≡◌, ℕ, Bool, true, false, List, [], ◌∷◌, ◌++◌, refl, ap, sym, subst, ◌∙◌, arith, Option, None, Some}
use Rattle.std.specs.Prelude.{◌==◌, IfSome, IsSomeAnd}
use Rattle.std.specs.FinMap as map
use Rattle.std.specs.Option.{is_some, option_and_then, option_map_or}
use Rattle.std.proofs.Math.Path.{fun_ext}
use Rattle.std.proofs.lemmas.Bool.{both_ways, ne_eqb, or_from, or_left}
use Rattle.std.proofs.lemmas.List.Elements.{All-append}
use Rattle.nim_base.specs.declared.number.Shape.{Shape}
use Rattle.nim_base.specs.declared.number.Slot.{Slot}
use Rattle.nim_base.specs.Value.{Grid}
use Rattle.nim_command.specs.declared.command.Command.{Command}
use Rattle.nim_command.specs.declared.command.Kind.{Kind}
use Rattle.nim_command.specs.declared.command.Kind.TheVariants.{Receive}
use Rattle.nim_command.specs.Holds.{Content, holds, left_by}
use Rattle.nim_command.specs.Slots.{does_read, does_touch, does_write, object_of}
use Rattle.nim_command.specs.Waits.{Group, commands_of, placed_commands}
use Rattle.nim_order.specs.Laws.{StepIsFree}
use Rattle.nim_order.specs.Progress.{GainsPlace, IsReleasedAt, held_when, is_one_of}
use Rattle.nim_order.proofs.AnyStep.{any_step}
use Rattle.nim_order.proofs.Orders.{one_more}
use Rattle.nim_order.proofs.Versions.{versions_are_local}
use Rattle.nim_job.specs.declared.job.Job.{Job}
use Rattle.nim_job.specs.Versions.{version_value}
use Rattle.nim_job.specs.Whole.{is_whole}
use Rattle.nim_plan.specs.Legal.{IsLegalKind}
use Rattle.nim_store.specs.declared.key.Key.{Key}
use Rattle.nim_store.specs.Keys.{key_cmp}
use Rattle.nim_history.specs.History.{Asked, MayComplete, WorkerState, after_asked, asked_at, completed, has_frame, key_for, key_received, outs_of, value_received}
use Rattle.nim_history.specs.Kept.{kept_by}
use Rattle.nim_history.specs.Truth.{FindsRight, IsGoodOut, content_in}
use Rattle.nim_history.proofs.Found.{legal_found}
use Rattle.nim_history.proofs.Inbox.{IsTrueAt, IsTrueInbox, removed_true}
use Rattle.nim_history.proofs.LeftTrue.{IsFrameFor, left_true}
use Rattle.nim_history.proofs.LegalOrders.{legal_at, shapes_there}
use Rattle.nim_history.proofs.Members.{leaves_there, listed_at, placed_at, placed_holds, touches_there, versions}
use Rattle.nim_history.proofs.Outs.{outs_good, reads_right}
use Rattle.nim_history.proofs.Right.{IsRight, nothing}
use Rattle.nim_history.proofs.TrueSlots.{IsTrueTo}

-- the slots have what they have, with the values of the versions
slots_true : (job : Job) (state : WorkerState) → IsRight job state → (slot : Slot) → IsTrueTo job (state.slots slot) (content_in state.slots slot)
slots_true job state right slot = record { same = refl; right = right.slots slot }

-- a step from where the worker is
step_free : (job : Job) (state : WorkerState) → IsRight job state → StepIsFree versions nothing (placed_commands state.session.groups) (is_one_of state.ran)
step_free job state right =
    any_step Content versions nothing (placed_commands state.session.groups) (is_one_of state.ran) versions_are_local.local right.covered right.closed

-- a command finds what those before it in the list leave
finds_right : (job : Job) (state : WorkerState) (place : ℕ) (asked : Asked) → IsRight job state → asked_at state.session.groups place ≡ Some asked
    → IsReleasedAt (placed_commands state.session.groups) (is_one_of state.ran) place → (slot : Slot) → does_touch asked.command.kind slot ≡ true
    → content_in state.slots slot ≡ holds (commands_of state.session.groups) place slot
finds_right job state place asked right there released slot touched =
    let commands : List Command = placed_commands state.session.groups in
    right.contents slot
    ∙ (step_free job state right).finds place slot released
    (touches_there commands place asked.command.kind slot (placed_at state.session.groups place asked there) ∙ touched)
    ∙ versions_are_local.same commands place slot ∙ placed_holds state.session.groups place slot

-- so it may be given where the slots have what they have
legal_now : (job : Job) (state : WorkerState) (place : ℕ) (asked : Asked) → IsRight job state → asked_at state.session.groups place ≡ Some asked
    → IsReleasedAt (placed_commands state.session.groups) (is_one_of state.ran) place → IsLegalKind job (content_in state.slots) asked.command.kind
legal_now job state place asked right there released =
    let kind : Kind = asked.command.kind in
    let commands : List Command = commands_of state.session.groups in
    legal_found job kind (holds commands place) (content_in state.slots)
    (λ slot reads. sym (finds_right job state place asked right there released slot (or_left (does_read kind slot) (does_write kind slot) reads)))
    (legal_at job commands place asked.command right.sound.legal (listed_at state.session.groups place asked there))

-- what a command that may be completed finds
pub found_right : (job : Job) (state : WorkerState) (place : ℕ) → is_whole job ≡ true → IsRight job state → MayComplete state place
    → IfSome (asked_at state.session.groups place) (FindsRight job state place)
found_right job state place whole right may = either (asked_at state.session.groups place) refl where
  either : (o : Option Asked) → asked_at state.session.groups place ≡ o → IfSome o (FindsRight job state place)
  either None is = tt
  either (Some asked) is = record {
    finds = finds_right job state place asked right is may.released;
    reads =
        reads_right job asked.command.kind state.slots (content_in state.slots) whole (legal_now job state place asked right is may.released)
        (slots_true job state right);
  }

-- the frame that it receives carries the value of the version that it names
received_right : (job : Job) (inbox : map.FinMap key_cmp Grid) (group : Group) (number : ℕ) (kind : Kind) → IsTrueInbox job inbox
    → option_map_or (λ (key : Key). map.contains_key inbox key) (key_received group number kind) true ≡ true
    → IsFrameFor job kind (option_and_then (λ (key : Key). map.get inbox key) (key_received group number kind))
received_right job inbox group number (Receive slot version) all there =
    let key : Key = record { epoch = group.epoch; instance = group.instance; entry = number; object = object_of slot; version = version } in
    either key (map.get inbox key) there (all key) where
      either : (key : Key) (o : Option Grid) → is_some o ≡ true → IfSome o (IsTrueAt job key)
          → IsSomeAnd o (λ value. value ≡ version_value job key.object key.version)
      either key None there is = absurd (both_ways false refl there)
      either key (Some value) there is = is.value
received_right job inbox group number kind all there = tt

-- and the other frames stay
inbox_right : (job : Job) (inbox : map.FinMap key_cmp Grid) (key : Option Key) → IsTrueInbox job inbox
    → IsTrueInbox job (option_map_or (λ (k : Key). map.remove inbox k) key inbox)
inbox_right job inbox None all = all
inbox_right job inbox (Some key) all = removed_true job inbox key all

-- the slots are then what the complete commands leave
left_right : (job : Job) (state : WorkerState) (place : ℕ) (asked : Asked) → is_whole job ≡ true → IsRight job state
    → asked_at state.session.groups place ≡ Some asked
    → IsReleasedAt (placed_commands state.session.groups) (is_one_of state.ran) place → has_frame state asked ≡ true → (slot : Slot)
    → IsTrueTo job (kept_by state.session.shapes (value_received state asked) asked.command.kind state.slots slot)
    (left_by asked.command.kind (content_in state.slots) slot)
left_right job state place asked whole right there released frame slot =
    let kind : Kind = asked.command.kind in
    subst
    (λ (shapes : List Shape). IsTrueTo job (kept_by shapes (value_received state asked) kind state.slots slot) (left_by kind (content_in state.slots) slot))
    (sym (shapes_there job state.session place asked.command right.sound (listed_at state.session.groups place asked there)))
    (left_true job (value_received state asked) kind state.slots (content_in state.slots) whole (legal_now job state place asked right there released)
    (received_right job state.inbox asked.group asked.command.id kind right.inbox frame) (slots_true job state right) slot)

-- which is what slots hold when this place is complete too
step_right : (job : Job) (state : WorkerState) (place : ℕ) (asked : Asked) → IsRight job state → asked_at state.session.groups place ≡ Some asked
    → IsReleasedAt (placed_commands state.session.groups) (is_one_of state.ran) place → (slot : Slot)
    → left_by asked.command.kind (content_in state.slots) slot
    ≡ held_when versions nothing (placed_commands state.session.groups) (is_one_of (state.ran ++ place ∷ [])) slot
step_right job state place asked right there released slot =
    let commands : List Command = placed_commands state.session.groups in
    let held : Slot → Content = held_when versions nothing commands (is_one_of state.ran) in
    let same : content_in state.slots ≡ held = fun_ext right.contents in
    ap (λ (now : Slot → Content). left_by asked.command.kind now slot) same
    ∙ ap (λ (left : Slot → Content). left slot) (sym (leaves_there commands place asked.command.kind held (placed_at state.session.groups place asked there)))
    ∙ sym ((step_free job state right).step place (is_one_of (state.ran ++ place ∷ [])) slot released (one_more state.ran place))

-- once it is complete
asked_right : (job : Job) (state : WorkerState) (place : ℕ) (asked : Asked) → is_whole job ≡ true → IsRight job state
    → asked_at state.session.groups place ≡ Some asked
    → IsReleasedAt (placed_commands state.session.groups) (is_one_of state.ran) place → has_frame state asked ≡ true
    → IsRight job (after_asked state place asked)
asked_right job state place asked whole right there released frame =
    let now : ℕ → Bool = is_one_of (state.ran ++ place ∷ []) in
    let gains : GainsPlace (is_one_of state.ran) place now = one_more state.ran place in
    record {
      sound = right.sound;
      covered = right.covered;
      closed = (step_free job state right).closed place now released gains;
      within = λ other past.
          gains other
          ∙ or_from (is_one_of state.ran other) (place == other) (right.within other past)
          (ne_eqb place other (λ same. absurd (omega (arith, same, past, released.within))));
      contents =
          λ slot. (left_right job state place asked whole right there released frame slot).same ∙ step_right job state place asked right there released slot;
      slots = λ slot. (left_right job state place asked whole right there released frame slot).right;
      inbox = inbox_right job state.inbox (key_for asked) right.inbox;
      gave = All-append (IsGoodOut job) state.gave (outs_of state place asked) right.gave
          (outs_good job state place asked (content_in state.slots) whole (legal_now job state place asked right there released) (slots_true job state right));
    }

-- one more command is complete
pub completed_right : (job : Job) (state : WorkerState) (place : ℕ) → is_whole job ≡ true → IsRight job state → MayComplete state place
    → IsRight job (completed state place)
completed_right job state place whole right may = either (asked_at state.session.groups place) refl may.frame where
  either : (o : Option Asked) → asked_at state.session.groups place ≡ o → option_map_or (has_frame state) o false ≡ true
      → IsRight job (option_map_or (after_asked state place) o state)
  either None is frame = right
  either (Some asked) is frame = asked_right job state place asked whole right is may.released frame

pub completed_session : (state : WorkerState) (place : ℕ) → (completed state place).session ≡ state.session
completed_session state place = either (asked_at state.session.groups place) where
  either : (o : Option Asked) → (option_map_or (after_asked state place) o state).session ≡ state.session
  either None = refl
  either (Some asked) = refl
