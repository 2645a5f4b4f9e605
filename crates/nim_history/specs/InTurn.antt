-- Commands that are out at once, and may be completed in turn.
use Rattle.std.specs.Prelude.{◌≡◌, ◌≢◌, ℕ, ◌==◌, Bool, true, false, List, [], ◌∷◌, ◌++◌, map, All, Option, Some}
use Rattle.std.specs.List.{fold}
use Rattle.std.specs.Option.{option_and_then}
use Rattle.nim_command.specs.Waits.{Group}
use Rattle.nim_message.specs.declared.frame.Data.{Data}
use Rattle.nim_message.specs.declared.order.ToWorker.{ToWorker}
use Rattle.nim_message.specs.declared.order.ToWorker.TheVariants.{Reset}
use Rattle.nim_order.specs.Progress.{is_one_of}
use Rattle.nim_store.specs.declared.key.Key.{Key}
use Rattle.nim_history.specs.History.{MayAllHappen, MayComplete, WorkerState, Completed, after_happening, asked_at, framed, key_for, ordered}

-- the commands at these places may be completed in turn
abbrev pub MayAllComplete : WorkerState → List ℕ → Type 0
MayAllComplete state places = MayAllHappen state (map Completed places)

-- whether an order begins an epoch
abbrev pub is_reset : ToWorker → Bool
is_reset (Reset epoch worker workers shapes) = true
is_reset order = false

-- the key of the frame that the command at a place receives, if it receives one
abbrev pub key_at : List Group → ℕ → Option Key
key_at groups place = option_and_then key_for (asked_at groups place)

-- the commands at two places don't receive one frame
abbrev pub HaveOtherFrames : List Group → ℕ → ℕ → Type 0
HaveOtherFrames groups one other = (key : Key) → key_at groups one ≡ Some key → key_at groups other ≢ Some key

-- of two places the commands may be completed one after the other
pub record IsBeside (groups : List Group) (earlier later : ℕ) : Type 0 where
  pub other : (earlier == later) ≡ false
  pub frames : HaveOtherFrames groups earlier later

-- each of these and each behind it are beside each other
abbrev pub AreBeside : List Group → List ℕ → Type 0
AreBeside groups [] = Unit {0}
AreBeside groups (place ∷ places) = All (IsBeside groups place) places × AreBeside groups places

-- Commands may be completed in turn: what may come between, and what may come behind.
pub record InTurn : Type 0 where
  -- they still may once another order came
  pub orders : (state : WorkerState) (order : ToWorker) (places : List ℕ) → is_reset order ≡ false
      → MayAllComplete state places → MayAllComplete (ordered state order) places
  -- they are then the same commands
  pub same : (state : WorkerState) (order : ToWorker) (places : List ℕ) → is_reset order ≡ false
      → MayAllComplete state places
      → All (λ place. asked_at (ordered state order).session.groups place ≡ asked_at state.session.groups place) places
  -- they still may once another frame came
  pub frames : (state : WorkerState) (frame : Data) (places : List ℕ)
      → MayAllComplete state places → MayAllComplete (framed state frame) places
  -- one more may behind them that might be completed now, where it is none of them and none of them receives its frame
  pub more : (state : WorkerState) (places : List ℕ) (place : ℕ) → MayAllComplete state places → MayComplete state place
      → is_one_of places place ≡ false → All (λ earlier. HaveOtherFrames state.session.groups earlier place) places
      → MayAllComplete state (places ++ place ∷ [])
  -- those may that might each be completed now, where they are beside each other
  pub all : (state : WorkerState) (places : List ℕ) → All (MayComplete state) places
      → AreBeside state.session.groups places → MayAllComplete state places
  -- the session stays
  pub session : (state : WorkerState) (places : List ℕ)
      → (fold after_happening state (map Completed places)).session ≡ state.session
