-- The uses of slots, the lists and the released tickets after one more command.
use Rattle.std.proofs.Common.{◌≡◌, ℕ, ◌+◌, ◌≤◌, Bool, true, false, not, List, [], ◌∷◌, ◌++◌, length, map, refl, ap, sym, subst, ◌∙◌, arith, Option, None, Some, is_some}
use Rattle.std.specs.Prelude.{◌==◌, ◌&&◌, ◌||◌, if◌then◌else◌, unwrap_or}
use Rattle.std.specs.Option.{option_map}
use Rattle.std.proofs.lemmas.Bool.{false≢true}
use Rattle.std.proofs.lemmas.List.{append-nil, append_assoc, length-append}
use Rattle.nim_command.specs.declared.command.Command.{Command}
use Rattle.nim_queue.specs.declared.arrivals.Arrival.{Arrival}
use Rattle.std.proofs.lemmas.List.Folds.{list_any-append}
use Rattle.nim_base.specs.declared.number.Slot.{Slot}
use Rattle.nim_command.specs.Slots.{is_among}
use Rattle.nim_queue.specs.Arrived.{HasArrived, HaveArrived, commands_of, reading_of, sight_of}
use Rattle.nim_queue.specs.Counts.{AreWithin, is_in}
use Rattle.nim_queue.specs.Joined.{gathered_reads, more_read, rewritten}
use Rattle.nim_queue.specs.Stands.{is_reader, is_writer}
use Rattle.nim_queue.specs.declared.slot_use.SlotUse.{SlotUse}
use Rattle.nim_queue.specs.declared.waiting.Waiting.{Waiting}

both_false : (b : Bool) → (b && false) ≡ false
both_false true = refl
both_false false = refl

-- the readers that are added
pub added_readers : (t n : ℕ) (s : Slot) (slots : List Slot) → is_in t (gathered_reads s.0 (map (reading_of n) slots)) ≡ ((t == n) && is_among slots s)
added_readers t n s [] = sym (both_false (t == n))
added_readers t n s (x ∷ slots) = by (x.0 == s.0) (t == n) refl (added_readers t n s slots) where
  by : (b c : Bool) → (t == n) ≡ c → is_in t (gathered_reads s.0 (map (reading_of n) slots)) ≡ (c && is_among slots s)
      → is_in t ((if b then n ∷ [] else []) ++ gathered_reads s.0 (map (reading_of n) slots)) ≡ (c && (b || is_among slots s))
  by true true is rest = ap (λ (x : Bool). x || is_in t (gathered_reads s.0 (map (reading_of n) slots))) is
  by true false is rest = ap (λ (x : Bool). x || is_in t (gathered_reads s.0 (map (reading_of n) slots))) is ∙ rest
  by false c is rest = rest

-- the writer of a slot after one more command
pub writer_after : (t n : ℕ) (w : Bool) (more : List ℕ) (o : Option SlotUse) → (w ≡ true → is_some o ≡ true)
    → is_writer t (option_map (more_read more) (if w then option_map (rewritten n) o else o)) ≡ (if w then t == n else is_writer t o)
writer_after t n true more None there = absurd (false≢true (there refl))
writer_after t n true more (Some u) there = refl
writer_after t n false more None there = refl
writer_after t n false more (Some u) there = refl

pub reader_after : (t n : ℕ) (w r : Bool) (more : List ℕ) (o : Option SlotUse) → (w ≡ true → is_some o ≡ true) → (r ≡ true → is_some o ≡ true)
    → is_in t more ≡ ((t == n) && r)
    → is_reader t (option_map (more_read more) (if w then option_map (rewritten n) o else o)) ≡ ((not w && is_reader t o) || ((t == n) && r))
reader_after t n true r more None written read is = absurd (false≢true (written refl))
reader_after t n false true more None written read is = absurd (false≢true (read refl))
reader_after t n false false more None written read is = sym (both_false (t == n))
reader_after t n true r more (Some u) written read is = is
reader_after t n false r more (Some u) written read is =
    list_any-append (λ o. t == o) u.readers more ∙ ap (λ (b : Bool). is_in t u.readers || b) is

-- lists that get no longer than was counted
pub within_all : {X : Type 0} (own : X → List ℕ) (f : List ℕ → X → X) (kept next : ℕ → Option X) (more : ℕ → List ℕ) (most count : ℕ)
    → ((ms : List ℕ) (x : X) → own (f ms x) ≡ own x ++ ms) → ((t : ℕ) → next t ≡ option_map (f (more t)) (kept t)) → ((t : ℕ) → length (more t) ≤ count)
    → AreWithin own kept most → AreWithin own next (most + count)
within_all {X} own f kept next more most count adds is few within t w got = by (kept t) refl (sym (is t) ∙ got) where
  by : (o : Option X) → kept t ≡ o → option_map (f (more t)) o ≡ Some w → length (own w) ≤ most + count
  by None here made = absurd (false≢true (ap is_some made))
  by (Some v) here made =
      let same : own w ≡ own v ++ more t = sym (ap (λ (o : Option X). own (unwrap_or o v)) made) ∙ adds (more t) v in
      omega (arith, ap length same, length-append (own v) (more t), few t, within t v here)

-- the arrival at a place
pub arrived_at : (kept : ℕ → Option Waiting) (used : ℕ → Option SlotUse) (first : ℕ) (cs : List Command) (past rest : List Arrival) (a : Arrival)
    → HaveArrived kept used first cs (past ++ a ∷ rest) → HasArrived (sight_of kept used first (cs ++ commands_of past))
    (first + length (cs ++ commands_of past)) a
arrived_at kept used first cs [] rest a have =
    subst (λ (xs : List Command). HasArrived (sight_of kept used first xs) (first + length xs) a) (sym (append-nil cs)) have.0
arrived_at kept used first cs (b ∷ past) rest a have =
    subst (λ (xs : List Command). HasArrived (sight_of kept used first xs) (first + length xs) a) (append_assoc cs (b.command ∷ []) (commands_of past))
    (arrived_at kept used first (cs ++ b.command ∷ []) past rest a have.1)
