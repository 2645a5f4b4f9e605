-- The entries that an edit puts have numbers of its own task and of phases that it takes away, and they ascend. So an
-- edit changes nothing under other numbers.
use Rattle.std.proofs.Common.{◌≡◌, ℕ, ◌+◌, ◌≤◌, ◌<◌, Bool, true, false, List, [], ◌∷◌, ◌++◌, length, map, refl, ap, ap₂, sym, subst, ◌∙◌, arith}
use Rattle.std.proofs.Common.{Option, None, Some}
use Rattle.std.specs.Prelude.{◌*◌, ◌/◌, ◌%◌, ◌==◌, ◌&&◌, not, if◌then◌else◌}
use Rattle.std.specs.List.{filter, fold, list_any}
use Rattle.std.specs.Option.{is_some}
use Rattle.std.proofs.lemmas.Bool.{eq-eqb, false≢true}
use Rattle.std.proofs.lemmas.List.{length-append}
use Rattle.nim_base.specs.declared.number.Object.{Object}
use Rattle.nim_base.specs.declared.number.Worker.{Worker}
use Rattle.nim_command.specs.declared.edit.Edit.{Edit}
use Rattle.nim_command.specs.declared.edit.Edit.TheVariants.{Away, Here, Gone, Home}
use Rattle.nim_command.specs.declared.edit.Spec.{Spec}
use Rattle.nim_command.specs.declared.entry.Entry.{Entry}
use Rattle.nim_command.specs.declared.entry.EntryKind.{EntryKind}
use Rattle.nim_command.specs.Edits.{edited, first_reads, forward_receive, forward_send, is_of_number, is_read, entries_kept, put_by, return_receives, return_sends, run_over, with_entry}
use Rattle.nim_command.specs.Numbers.{entry_number, phase_of, task_of}
use Rattle.nim_command.specs.Ruled.{entries_by_rule}
use Rattle.nim_edit.specs.Cells.{kind_at}
use Rattle.nim_edit.proofs.Cells.{ArePut, Ascend, all_put, at_rest, filter_ascend, over, ruled_again, ruled_ascend, ruled_at, without_at}

-- ---- numbers

pub task_is : (task phase index : ℕ) → task < 1024 → phase < 8 → index < 8 → task_of (entry_number task phase index) ≡ task
task_is task phase index few phases reads = omega arith

pub phase_is : (task phase index : ℕ) → task < 1024 → phase < 8 → index < 8 → phase_of (entry_number task phase index) ≡ phase
phase_is task phase index few phases reads = omega arith

-- an entry of one of the phases
pub taken_own : (task phase index : ℕ) (phases : List ℕ) → task < 1024 → phase < 8 → index < 8 → list_any (λ (p : ℕ). phase == p) phases ≡ true
    → is_of_number task phases (entry_number task phase index) ≡ true
taken_own task phase index phases few below reads one =
    ap₂ (λ (t q : ℕ). (t == task) && list_any (λ (p : ℕ). q == p) phases) (task_is task phase index few below reads) (phase_is task phase index few below reads)
    ∙ ap₂ (λ (a b : Bool). a && b) (eq-eqb task task refl) one

-- entries of a task's phase, by index from one on
abbrev pub AreOf : ℕ → ℕ → ℕ → List Entry → Type 0
AreOf task phase low [] = low ≤ 8
AreOf task phase low (entry ∷ entries) =
    (index : ℕ) × (low ≤ index) × (index < 8) × (entry.id ≡ entry_number task phase index) × AreOf task phase (index + 1) entries

-- each number passes
abbrev pub Own : (ℕ → Bool) → List Entry → Type 0
Own q [] = Unit {0}
Own q (entry ∷ entries) = (q entry.id ≡ true) × Own q entries

pub own_none : (q : ℕ → Bool) (entries : List Entry) (number : ℕ) → Own q entries → q number ≡ false → kind_at entries number ≡ None
own_none q [] number own other = refl
own_none q (entry ∷ entries) number own other =
    at_rest entry entries number (λ same. false≢true (sym other ∙ sym (ap q same) ∙ own.0)) ∙ own_none q entries number own.1 other

own_append : (q : ℕ → Bool) (xs ys : List Entry) → Own q xs → Own q ys → Own q (xs ++ ys)
own_append q [] ys first second = second
own_append q (x ∷ xs) ys first second = (first.0, own_append q xs ys first.1 second)

own_of : (task phase low : ℕ) (phases : List ℕ) (entries : List Entry) → task < 1024 → phase < 8 → list_any (λ (p : ℕ). phase == p) phases ≡ true
    → AreOf task phase low entries → Own (is_of_number task phases) entries
own_of task phase low phases [] few below one are = tt
own_of task phase low phases (entry ∷ entries) few below one are = (
  ap (is_of_number task phases) are.3 ∙ taken_own task phase are.0 phases few below are.2 one,
  own_of task phase (are.0 + 1) phases entries few below one are.4,
)

-- entries ascend, and those behind them too
ascend_then : (task phase low : ℕ) (xs ys : List Entry) → task < 1024 → phase < 8 → AreOf task phase low xs → Ascend (64 * task + 8 * phase + 8) ys
    → Ascend (64 * task + 8 * phase + low) (xs ++ ys)
ascend_then task phase low [] ys few below are behind = lowered (64 * task + 8 * phase + low) (64 * task + 8 * phase + 8) ys (omega (arith, are)) behind where
  lowered : (less high : ℕ) (entries : List Entry) → less ≤ high → Ascend high entries → Ascend less entries
  lowered less high [] under all = tt
  lowered less high (entry ∷ entries) under all = (omega (arith, under, all.0), all.1)
ascend_then task phase low (x ∷ xs) ys few below are behind = (
  omega (arith, few, below, are.1, are.2, are.3),
  subst (λ (n : ℕ). Ascend n (xs ++ ys)) (omega (arith, few, below, are.2, are.3)) (ascend_then task phase (are.0 + 1) xs ys few below are.4 behind),
)

-- ---- what edits put

-- the type of what a list has
abbrev ItemOf : {X : Type 0} → List X → Type 0
ItemOf {X} items = X

abbrev pub FirstRead : Type 0
FirstRead = ItemOf (first_reads [] 0 [])

-- reads in order of their indices
abbrev pub Indexed : ℕ → List FirstRead → Type 0
Indexed low [] = low ≤ 8
Indexed low (read ∷ reads) = (low ≤ read.index) × (read.index < 8) × Indexed (read.index + 1) reads

lower_index : (less low : ℕ) (reads : List FirstRead) → less ≤ low → Indexed low reads → Indexed less reads
lower_index less low [] below are = omega (arith, below, are)
lower_index less low (read ∷ reads) below are = (omega (arith, below, are.0), are.1, are.2)

pub first_indexed : (past : List (Object × ℕ)) (mask low : ℕ) (reads : List (Object × ℕ)) → length past ≡ low → low + length reads ≤ 8
    → Indexed low (first_reads past mask reads)
first_indexed past mask low [] is few = omega (arith, few)
first_indexed past mask low (read ∷ reads) is few =
    either (is_read past read.0)
    (first_indexed (past ++ read ∷ []) (mask / 2) (low + 1) reads (length-append past (read ∷ []) ∙ (omega (arith, is))) (omega (arith, few))) where
      either : (b : Bool) → Indexed (low + 1) (first_reads (past ++ read ∷ []) (mask / 2) reads)
          → Indexed low
          (let rest : List FirstRead = first_reads (past ++ read ∷ []) (mask / 2) reads in
          if b then rest else record { index = length past; object = read.0; offset = read.1; there = mask % 2 == 1 } ∷ rest)
      either true rest = lower_index low (low + 1) (first_reads (past ++ read ∷ []) (mask / 2) reads) (omega arith) rest
      either false rest = (
        omega (arith, is),
        omega (arith, is, few),
        subst (λ (n : ℕ). Indexed (n + 1) (first_reads (past ++ read ∷ []) (mask / 2) reads)) (sym is) rest,
      )

pub filter_indexed : (p : FirstRead → Bool) (low : ℕ) (reads : List FirstRead) → Indexed low reads → Indexed low (filter p reads)
filter_indexed p low [] are = are
filter_indexed p low (read ∷ reads) are = either (p read) (filter_indexed p (read.index + 1) reads are.2) where
  either : (b : Bool) → Indexed (read.index + 1) (filter p reads) → Indexed low (if b then read ∷ filter p reads else filter p reads)
  either true rest = (are.0, are.1, rest)
  either false rest = lower_index low (read.index + 1) (filter p reads) (omega (arith, are.0)) rest

pub sends_of : (task : ℕ) (to : Worker) (low : ℕ) (reads : List FirstRead) → Indexed low reads → AreOf task 2 low (map (forward_send task to) reads)
sends_of task to low [] are = are
sends_of task to low (read ∷ reads) are = (read.index, are.0, are.1, refl, sends_of task to (read.index + 1) reads are.2)

pub receives_of : (task low : ℕ) (reads : List FirstRead) → Indexed low reads → AreOf task 3 low (map (forward_receive task) reads)
receives_of task low [] are = are
receives_of task low (read ∷ reads) are = (read.index, are.0, are.1, refl, receives_of task (read.index + 1) reads are.2)

pub return_receives_of : (task index : ℕ) (objects : List Object) → index + length objects ≤ 8 → AreOf task 6 index (return_receives task index objects)
return_receives_of task index [] few = omega (arith, few)
return_receives_of task index (object ∷ objects) few =
    (index, omega arith, omega (arith, few), refl, return_receives_of task (index + 1) objects (omega (arith, few)))

pub return_sends_of : (task : ℕ) (home : Worker) (index : ℕ) (objects : List Object) → index + length objects ≤ 8
    → AreOf task 5 index (return_sends task home index objects)
return_sends_of task home index [] few = omega (arith, few)
return_sends_of task home index (object ∷ objects) few =
    (index, omega arith, omega (arith, few), refl, return_sends_of task home (index + 1) objects (omega (arith, few)))

-- ---- an edit

-- which numbers an edit takes away
abbrev pub takes : Edit → ℕ → Bool
takes (Away task to mask spec) = is_of_number task (2 ∷ 4 ∷ 6 ∷ [])
takes (Here task from mask spec) = is_of_number task (3 ∷ 4 ∷ 5 ∷ [])
takes (Gone task) = is_of_number task (3 ∷ 4 ∷ 5 ∷ [])
takes (Home task spec) = is_of_number task (2 ∷ 4 ∷ 6 ∷ [])

-- what an edit puts ascends, under numbers that it takes away
pub record PutsItsOwn (edit : Edit) : Type 0 where
  pub ascend : Ascend 0 (put_by edit)
  pub own : Own (takes edit) (put_by edit)

-- few enough reads and writes
pub record IsShort (spec : Spec) : Type 0 where
  pub reads : length spec.reads ≤ 8
  pub writes : length spec.writes ≤ 2

from_zero : (low : ℕ) (entries : List Entry) → Ascend low entries → Ascend 0 entries
from_zero low [] are = tt
from_zero low (entry ∷ entries) are = (omega arith, are.1)

all_then : (low : ℕ) (xs : List Entry) → Ascend low (xs ++ []) → Ascend low xs
all_then low [] are = tt
all_then low (x ∷ xs) are = (are.0, all_then (x.id + 1) xs are.1)

pub away_own : (task : ℕ) (to : Worker) (mask : ℕ) (spec : Spec) → task < 1024 → IsShort spec → PutsItsOwn (Away task to mask spec)
away_own task to mask spec few short =
    let reads : List FirstRead = filter (λ (r : FirstRead). not r.there) (first_reads [] mask spec.reads) in
    let firsts : Indexed 0 (first_reads [] mask spec.reads) = first_indexed [] mask 0 spec.reads refl (omega (arith, short.reads)) in
    let sends : AreOf task 2 0 (map (forward_send task to) reads) =
    sends_of task to 0 reads (filter_indexed (λ (r : FirstRead). not r.there) 0 (first_reads [] mask spec.reads) firsts) in
    let returns : AreOf task 6 0 (return_receives task 0 spec.writes) = return_receives_of task 0 spec.writes (omega (arith, short.writes)) in
    let behind : Ascend (64 * task + 8 * 6 + 0) (return_receives task 0 spec.writes ++ []) =
    ascend_then task 6 0 (return_receives task 0 spec.writes) [] few (omega arith) returns tt in
    let after : Ascend (64 * task + 8 * 2 + 8) (return_receives task 0 spec.writes) =
    raised (64 * task + 8 * 2 + 8) (64 * task + 8 * 6 + 0) (return_receives task 0 spec.writes) (omega arith)
    (all_then (64 * task + 8 * 6 + 0) (return_receives task 0 spec.writes) behind) in
    record {
      ascend = from_zero (64 * task + 8 * 2 + 0) (put_by (Away task to mask spec))
          (ascend_then task 2 0 (map (forward_send task to) reads) (return_receives task 0 spec.writes) few (omega arith) sends after);
      own = own_append (is_of_number task (2 ∷ 4 ∷ 6 ∷ [])) (map (forward_send task to) reads) (return_receives task 0 spec.writes)
          (own_of task 2 0 (2 ∷ 4 ∷ 6 ∷ []) (map (forward_send task to) reads) few (omega arith) refl sends)
          (own_of task 6 0 (2 ∷ 4 ∷ 6 ∷ []) (return_receives task 0 spec.writes) few (omega arith) refl returns);
    } where
      raised : (less high : ℕ) (entries : List Entry) → less ≤ high → Ascend high entries → Ascend less entries
      raised less high [] under all = tt
      raised less high (entry ∷ entries) under all = (omega (arith, under, all.0), all.1)

pub here_own : (task : ℕ) (from : Worker) (mask : ℕ) (spec : Spec) → task < 1024 → IsShort spec → PutsItsOwn (Here task from mask spec)
here_own task from mask spec few short =
    let reads : List FirstRead = first_reads [] mask spec.reads in
    let receives : AreOf task 3 0 (map (forward_receive task) reads) =
    receives_of task 0 reads (first_indexed [] mask 0 spec.reads refl (omega (arith, short.reads))) in
    let sends : List Entry = return_sends task from 0 spec.writes in
    let returns : AreOf task 5 0 sends = return_sends_of task from 0 spec.writes (omega (arith, short.writes)) in
    let run : Entry = run_over true task spec in
    let last : Ascend (64 * task + 8 * 5 + 0) sends =
    all_then (64 * task + 8 * 5 + 0) sends (ascend_then task 5 0 sends [] few (omega arith) returns tt) in
    let runs : Ascend (64 * task + 8 * 3 + 8) (run ∷ sends) =
    (omega (arith, few), raised (run.id + 1) (64 * task + 8 * 5 + 0) sends (omega (arith, few)) last) in
    record {
      ascend = from_zero (64 * task + 8 * 3 + 0) (put_by (Here task from mask spec))
          (ascend_then task 3 0 (map (forward_receive task) reads) (run ∷ sends) few (omega arith) receives runs);
      own = own_append (is_of_number task (3 ∷ 4 ∷ 5 ∷ [])) (map (forward_receive task) reads) (run ∷ sends)
          (own_of task 3 0 (3 ∷ 4 ∷ 5 ∷ []) (map (forward_receive task) reads) few (omega arith) refl receives) (
            taken_own task 4 0 (3 ∷ 4 ∷ 5 ∷ []) few (omega arith) (omega arith) refl,
            own_of task 5 0 (3 ∷ 4 ∷ 5 ∷ []) sends few (omega arith) refl returns,
          );
    } where
      raised : (less high : ℕ) (entries : List Entry) → less ≤ high → Ascend high entries → Ascend less entries
      raised less high [] under all = tt
      raised less high (entry ∷ entries) under all = (omega (arith, under, all.0), all.1)

pub gone_own : (task : ℕ) → PutsItsOwn (Gone task)
gone_own task = record { ascend = tt; own = tt }

pub home_own : (task : ℕ) (spec : Spec) → task < 1024 → PutsItsOwn (Home task spec)
home_own task spec few = record {
  ascend = (omega arith, tt);
  own = (taken_own task 4 0 (2 ∷ 4 ∷ 6 ∷ []) few (omega arith) (omega arith) refl, tt);
}

kept_same : (edit : Edit) (half : List Entry) → entries_kept edit half ≡ filter (λ (e : Entry). not (takes edit e.id)) half
kept_same (Away task to mask spec) half = refl
kept_same (Here task from mask spec) half = refl
kept_same (Gone task) half = refl
kept_same (Home task spec) half = refl

-- What an edit makes of a half: it ascends, by the rule, and has what the edit puts under the numbers that it takes.
pub record IsEdited (edit : Edit) (before after : List Entry) : Type 0 where
  pub ascend : Ascend 0 after
  pub ruled : entries_by_rule [] after ≡ after
  pub at : (number : ℕ) → kind_at after number ≡ (if takes edit number then kind_at (put_by edit) number else kind_at before number)

pub edited_is : (edit : Edit) (half : List Entry) → Ascend 0 half → PutsItsOwn edit → IsEdited edit half (edited edit half)
edited_is edit half are puts = record {
  ascend = ruled_ascend 0 [] (fold with_entry (entries_kept edit half) (put_by edit)) put.ascend;
  ruled = ruled_again [] (fold with_entry (entries_kept edit half) (put_by edit));
  at = λ number. ruled_at [] (fold with_entry (entries_kept edit half) (put_by edit)) number ∙ put.at number ∙ chosen number (takes edit number) refl;
} where
  left_at : (number : ℕ) → kind_at (entries_kept edit half) number ≡ (if takes edit number then None else kind_at half number)
  left_at number = ap (λ (es : List Entry). kind_at es number) (kept_same edit half) ∙ without_at (takes edit) half number

  new : (number : ℕ) → is_some (kind_at (put_by edit) number) ≡ true → kind_at (entries_kept edit half) number ≡ None
  new number some = either (takes edit number) refl where
    either : (b : Bool) → takes edit number ≡ b → kind_at (entries_kept edit half) number ≡ None
    either true is = left_at number ∙ ap (λ (b : Bool). if b then None else kind_at half number) is
    either false is =
        absurd (false≢true (sym (ap (λ (o : Option EntryKind). is_some o) (own_none (takes edit) (put_by edit) number puts.own is)) ∙ some))

  kept_ascend : Ascend 0 (entries_kept edit half)
  kept_ascend = subst (Ascend 0) (sym (kept_same edit half)) (filter_ascend (λ (e : Entry). not (takes edit e.id)) 0 half are)

  put : ArePut (entries_kept edit half) (put_by edit) (fold with_entry (entries_kept edit half) (put_by edit))
  put = all_put 0 (entries_kept edit half) (put_by edit) kept_ascend puts.ascend new

  none_under : (o : Option EntryKind) → over o None ≡ o
  none_under None = refl
  none_under (Some kind) = refl

  chosen : (number : ℕ) (b : Bool) → takes edit number ≡ b
      → over (kind_at (put_by edit) number) (kind_at (entries_kept edit half) number)
      ≡ (if takes edit number then kind_at (put_by edit) number else kind_at half number)
  chosen number true is =
      ap (over (kind_at (put_by edit) number)) (left_at number ∙ ap (λ (b : Bool). if b then None else kind_at half number) is)
      ∙ none_under (kind_at (put_by edit) number)
      ∙ sym (ap (λ (b : Bool). if b then kind_at (put_by edit) number else kind_at half number) is)
  chosen number false is =
      ap₂ over (own_none (takes edit) (put_by edit) number puts.own is) (left_at number ∙ ap (λ (b : Bool). if b then None else kind_at half number) is)
      ∙ sym (ap (λ (b : Bool). if b then kind_at (put_by edit) number else kind_at half number) is)
