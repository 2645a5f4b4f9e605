-- Which commands a batch takes.
use Rattle.std.specs.Prelude.{ℕ, ◌==◌, Bool, false, not, ◌&&◌, ◌||◌, nat_lt, if◌then◌else◌, List, [], ◌∷◌, ◌++◌, length}
use Rattle.std.specs.List.{list_any, range_with_len}
use Rattle.std.specs.Option.{option_map_or}
use Rattle.nim_command.specs.declared.command.Kind.{Kind}
use Rattle.nim_command.specs.Slots.{does_touch, reads_of, writes_of}
use Rattle.nim_command.specs.Waits.{Group, members_of}
use Rattle.nim_order.specs.Progress.{is_one_of}
use Rattle.nim_queue.specs.Stands.{is_released}
use Rattle.nim_store.specs.declared.key.Key.{Key}
use Rattle.nim_history.specs.History.{Asked, WorkerState, asked_at, has_frame}
use Rattle.nim_history.specs.InTurn.{key_at}

-- whether two commands touch one slot
abbrev pub do_share : Kind → Kind → Bool
do_share one other = list_any (does_touch other) (reads_of one) || list_any (does_touch other) (writes_of one)

-- whether two keys are one
abbrev pub is_key : Key → Key → Bool
is_key one other =
    (one.epoch == other.epoch) && ((one.instance == other.instance) && ((one.entry == other.entry)
    && ((one.object.0 == other.object.0) && (one.version == other.version))))

-- whether the commands at two places receive one frame
abbrev pub have_one_frame : List Group → ℕ → ℕ → Bool
have_one_frame groups one other =
    option_map_or (λ (a : Key). option_map_or (is_key a) (key_at groups other) false) (key_at groups one) false

-- whether the commands at two places touch one slot
abbrev pub touch_one_slot : List Group → ℕ → ℕ → Bool
touch_one_slot groups one other =
    option_map_or
    (λ (a : Asked). option_map_or (λ (b : Asked). do_share a.command.kind b.command.kind) (asked_at groups other) false)
    (asked_at groups one)
    false

-- whether the commands at two places touch one slot or receive one frame
abbrev pub do_meet : List Group → ℕ → ℕ → Bool
do_meet groups one other = touch_one_slot groups one other || have_one_frame groups one other

-- whether the command at a place may be completed
abbrev pub may_complete : WorkerState → ℕ → Bool
may_complete state place =
    is_released state.session.groups (is_one_of state.ran) place
    && option_map_or (has_frame state) (asked_at state.session.groups place) false

-- whether some command may be completed
abbrev pub has_released : WorkerState → Bool
has_released state = list_any (may_complete state) (range_with_len 0 (length (members_of state.session.groups)))

-- whether it is taken behind the commands at these places
abbrev pub is_taken_behind : WorkerState → List ℕ → ℕ → Bool
is_taken_behind state taken place =
    may_complete state place && not (list_any (λ earlier. do_meet state.session.groups earlier place) taken)

-- those that are taken of some places behind those that are taken already, at most so many in all
abbrev pub taken_from : WorkerState → ℕ → List ℕ → List ℕ → List ℕ
taken_from state most taken [] = taken
taken_from state most taken (place ∷ places) =
    if nat_lt (length taken) most && is_taken_behind state taken place then taken_from state most
    (taken ++ place ∷ []) places
    else taken_from state most taken places

-- The places of the commands that a batch takes: in the order given each that may be completed and that meets none of
-- those taken before it, at most so many.
unfoldable pub taken_of : WorkerState → ℕ → List ℕ
taken_of state most = taken_from state most [] (range_with_len 0 (length (members_of state.session.groups)))
