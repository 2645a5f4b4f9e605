-- Any order that waits allow: whatever the order in which the commands of a covered list run, each finds in its slots
-- what the commands before it in the list leave. The contents may be of any kind.
use Rattle.std.specs.Prelude.{◌≡◌, ◌≢◌, ℕ, ◌<◌, ◌≤◌, Bool, true, false, List, [], length, None}
use Rattle.nim_base.specs.declared.number.Slot.{Slot}
use Rattle.nim_command.specs.declared.command.Command.{Command}
use Rattle.nim_command.specs.Covered.{is_covered}
use Rattle.nim_command.specs.Holds.{holds, left_by}
use Rattle.nim_order.specs.Contents.{IsLocal, Leave, held_after, held_before, left_at}
use Rattle.nim_order.specs.Progress.{GainsPlace, IsClosed, IsReleasedAt, MayRun, conflict_at, held_when, is_one_of, touches_at}

-- Some commands have run, in an order that waits allow.
pub record OrderIsFree {X : Type 0} (leave : Leave X) (start : Slot → X) (commands : List Command) (ran : List ℕ) : Type
    0 where
  -- one that may be next finds in each slot that it touches what the commands before it in the list leave
  pub next : (place : ℕ) (slot : Slot) → IsReleasedAt commands (is_one_of ran) place
      → touches_at commands place slot ≡ true
      → held_after leave commands ran start slot ≡ held_before leave start commands place slot
  -- the slots hold what the last complete writer left, as in the order of the list
  pub now : (slot : Slot) → held_after leave commands ran start slot
      ≡ held_when leave start commands (is_one_of ran) slot
  -- when all have run, the slots hold what the list leaves
  pub whole : ((place : ℕ) → place < length commands → is_one_of ran place ≡ true) → (slot : Slot)
      → held_after leave commands ran start slot ≡ held_before leave start commands (length commands) slot
  -- the same commands in another order leave the same
  pub same : (other : List ℕ) → MayRun commands [] other → ((place : ℕ) → is_one_of other place ≡ is_one_of ran place)
      → (slot : Slot)
      → held_after leave commands ran start slot ≡ held_after leave commands other start slot

-- Commands of a covered list may run in any order that waits allow.
abbrev pub AnyOrder : Type 0 → Type 0
AnyOrder X =
    (leave : Leave X) (start : Slot → X) (commands : List Command) (ran : List ℕ) → IsLocal leave
    → is_covered commands ≡ true → MayRun commands [] ran
    → OrderIsFree leave start commands ran

-- Two commands are released at one time.
pub record AreBothReleased (commands : List Command) (done : ℕ → Bool) (one other : ℕ) : Type 0 where
  pub first : IsReleasedAt commands done one
  pub second : IsReleasedAt commands done other
  pub distinct : one ≢ other

-- What one of two commands does is nothing to the other.
pub record AreApart {X : Type 0} (leave : Leave X) (start : Slot → X) (commands : List Command) (done : ℕ → Bool)
    (one other : ℕ) : Type 0 where
  -- they don't conflict
  pub conflict : conflict_at commands one other ≡ false
  -- when one is complete the other is still released
  pub still : (now : ℕ → Bool) → GainsPlace done one now → IsReleasedAt commands now other
  -- and each slot that it touches holds what it held
  pub undisturbed : (now : ℕ → Bool) (slot : Slot) → GainsPlace done one now → touches_at commands other slot ≡ true
      → held_when leave start commands now slot ≡ held_when leave start commands done slot

-- Some places of a covered list are complete, and closed under waits: a step of one that keeps what the slots hold.
pub record StepIsFree {X : Type 0} (leave : Leave X) (start : Slot → X) (commands : List Command) (done : ℕ → Bool) :
    Type 0 where
  -- a released command finds in each slot that it touches what the commands before it in the list leave
  pub finds : (place : ℕ) (slot : Slot) → IsReleasedAt commands done place → touches_at commands place slot ≡ true
      → held_when leave start commands done slot ≡ held_before leave start commands place slot
  -- to complete it changes what the slots hold as it does by itself
  pub step : (place : ℕ) (now : ℕ → Bool) (slot : Slot) → IsReleasedAt commands done place → GainsPlace done place now
      → held_when leave start commands now slot ≡ left_at leave commands place (held_when leave start commands done)
      slot
  -- and the complete places are closed again
  pub closed : (place : ℕ) (now : ℕ → Bool) → IsReleasedAt commands done place → GainsPlace done place now
      → IsClosed commands now
  -- of two that conflict the later is complete only where the earlier is: the complete writers of a slot are a front
  pub front : (earlier later : ℕ) → earlier < later → later < length commands
      → conflict_at commands earlier later ≡ true
      → done later ≡ true → done earlier ≡ true
  -- two that are released at one time may run at one time
  pub apart : (one other : ℕ) → AreBothReleased commands done one other → AreApart leave start commands done one other

-- Where the complete places of a covered list are closed under waits, each step is free.
abbrev pub AnyStep : Type 0 → Type 0
AnyStep X =
    (leave : Leave X) (start : Slot → X) (commands : List Command) (done : ℕ → Bool) → IsLocal leave
    → is_covered commands ≡ true → IsClosed commands done
    → StepIsFree leave start commands done

-- Where it begins and where it ends.
pub record HeldAtEnds {X : Type 0} (leave : Leave X) (start : Slot → X) (commands : List Command) (done : ℕ → Bool) :
    Type 0 where
  -- with nothing complete the slots hold what they held at first
  pub nothing : ((place : ℕ) → done place ≡ false) → (slot : Slot)
      → held_when leave start commands done slot ≡ start slot
  -- with everything complete they hold what the list leaves
  pub whole : ((place : ℕ) → place < length commands → done place ≡ true) → (slot : Slot)
      → held_when leave start commands done slot ≡ held_before leave start commands (length commands) slot

-- It begins and ends so for every list.
abbrev pub AtEnds : Type 0 → Type 0
AtEnds X =
    (leave : Leave X) (start : Slot → X) (commands : List Command) (done : ℕ → Bool) → IsLocal leave
    → HeldAtEnds leave start commands done

-- Where a command isn't complete, one is released that stands no later: waits alone never stop all.
abbrev pub NeverStuck : Type 0
NeverStuck =
    (commands : List Command) (done : ℕ → Bool) (place : ℕ) → place < length commands → done place ≡ false
    → (first : ℕ) × (first ≤ place) × IsReleasedAt commands done first

-- Objects with their versions are contents of this kind, and running in the order of the list is what slots hold.
pub record VersionsAreLocal : Type 0 where
  pub local : IsLocal (λ (c : Command). left_by c.kind)
  pub same : (commands : List Command) (place : ℕ) (slot : Slot)
      → held_before (λ (c : Command). left_by c.kind) (λ (s : Slot). None) commands place slot
      ≡ holds commands place slot
