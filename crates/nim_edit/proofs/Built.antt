-- What is built is in form.
use Rattle.std.proofs.Common.{◌≡◌, ℕ, zero, suc, ◌+◌, ◌≤◌, ◌<◌, Bool, true, false, List, [], ◌∷◌, ◌++◌, length, map, take, get_or, refl, ap, ap₂, sym, ◌∙◌, arith}
use Rattle.std.proofs.Common.{None, inl, inr}
use Rattle.std.specs.Prelude.{◌*◌, ◌==◌, ◌&&◌, nat_le, nat_lt, if◌then◌else◌, slice_index_or}
use Rattle.std.specs.List.{flat_map, list_all, list_any, range_with_len}
use Rattle.std.proofs.lemmas.Bool.{cases_eq, eq-eqb, lt-ltb, ltb-true, ne_eqb}
use Rattle.std.proofs.lemmas.List.{get_or-map, length-map}
use Rattle.std.proofs.lemmas.List.FromFn.{get_or-map-range_with_len, length-map-range_with_len}
use Rattle.std.proofs.Math.Nat.{mul-le-mul_left}
use Rattle.nim_base.specs.declared.number.Object.{Object}
use Rattle.nim_base.specs.declared.number.Slot.{Slot}
use Rattle.nim_base.specs.declared.number.Worker.{Worker}
use Rattle.nim_base.specs.declared.task.TaskForm.{TaskForm}
use Rattle.nim_command.specs.declared.edit.Edit.{Edit}
use Rattle.nim_command.specs.declared.entry.Entry.{Entry}
use Rattle.nim_command.specs.declared.entry.EntryKind.{EntryKind}
use Rattle.nim_command.specs.declared.template.WorkerTemplate.{WorkerTemplate}
use Rattle.nim_command.specs.Edits.{edited_by, read_slots, run_over}
use Rattle.nim_command.specs.Numbers.{main_slot, phase_of, task_of}
use Rattle.nim_command.specs.Ruled.{entries_by_rule}
use Rattle.nim_place.specs.declared.placement.Placement.{Placement}
use Rattle.nim_place.specs.Versions.{is_current, no_versions}
use Rattle.nim_place.proofs.Places.{both_true}
use Rattle.nim_template.specs.declared.template.ControllerTemplate.{ControllerTemplate}
use Rattle.nim_template.specs.Built.{all_halves, all_slots, built, end_of, entries_for, half_for, needs_of}
use Rattle.nim_template.specs.Closing.{closing_entries, closings}
use Rattle.nim_template.specs.Fits.{are_below, is_fit}
use Rattle.nim_template.specs.Walk.{empty_walk, home_of}
use Rattle.nim_template.proofs.Again.{home_within}
use Rattle.nim_template.proofs.Numbers.{Between, built_ascend, closing_between, closings_apart, closings_few, filter_few, for_append, slots_long}
use Rattle.nim_edit.specs.Cells.{kind_at}
use Rattle.nim_edit.specs.Form.{IsInForm, is_worker_below}
use Rattle.nim_edit.specs.Halves.{edits_at, edited_half, halves_for}
use Rattle.nim_edit.specs.Moves.{no_task, read_behind, spec_of, worker_at}
use Rattle.nim_edit.proofs.Cells.{over, ruled_again, ruled_at}
use Rattle.nim_edit.proofs.Migrations.{same_list, with_home}
use Rattle.nim_edit.proofs.Runs.{HasRuns, joined_at, none_under, over_none, run_entry, walk_runs}

-- the types of a walk and of closing copies
abbrev TypeOf : {X : Type 0} → X → Type 0
TypeOf {X} x = X

abbrev Walk : Type 0
Walk = TypeOf (empty_walk 0 0)

abbrev Closings : Type 0
Closings = TypeOf (closings (no_versions 0 0) [])

-- ---- forms and workers

low_below : (objects : ℕ) (all : List Object) → objects ≤ 512 → are_below objects all ≡ true → are_below 512 all ≡ true
low_below objects [] few below = refl
low_below objects (object ∷ all) few below =
    let both = both_true (nat_lt object.0 objects) (are_below objects all) below in
    let less = ltb-true object.0 objects both.0 in
    ap₂ (λ (a b : Bool). a && b) (lt-ltb object.0 512 (omega (arith, less, few))) (low_below objects all few both.1)

-- one of so many objects is one of 512
form_fit : (objects : ℕ) (form : TaskForm) → objects ≤ 512 → is_fit objects form ≡ true → is_fit 512 form ≡ true
form_fit objects form few fit =
    let counts : Bool = nat_le 1 (length form.writes) && nat_le (length form.writes) 2 && nat_le (length form.reads) 8 in
    let both = both_true (counts && are_below objects form.writes) (are_below objects form.reads) fit in
    let front = both_true counts (are_below objects form.writes) both.0 in
    ap₂ (λ (a b : Bool). a && b)
    (ap₂ (λ (a b : Bool). a && b) front.0 (low_below objects form.writes few front.1))
    (low_below objects form.reads few both.1)

forms_fit : (objects : ℕ) (forms : List TaskForm) → objects ≤ 512 → list_all (is_fit objects) forms ≡ true → list_all (is_fit 512) forms ≡ true
forms_fit objects [] few fit = refl
forms_fit objects (form ∷ forms) few fit =
    let both = both_true (is_fit objects form) (list_all (is_fit objects) forms) fit in
    ap₂ (λ (a b : Bool). a && b) (form_fit objects form few both.0) (forms_fit objects forms few both.1)

all_homes : (place : Placement) (objects : ℕ) (live : List Bool) (forms : List TaskForm) (workers : ℕ) → list_any (λ (flag : Bool). flag) live ≡ true
    → workers ≡ length live → list_all (is_worker_below workers) (map (home_of place objects live) forms) ≡ true
all_homes place objects live [] workers some long = refl
all_homes place objects live (form ∷ forms) workers some long =
    let within = home_within place live some objects form in
    ap₂ (λ (a b : Bool). a && b) (lt-ltb (home_of place objects live form).0 workers (omega (arith, within, long)))
    (all_homes place objects live forms workers some long)

-- ---- halves as built

-- where each is as it is, all are
map_kept : {X : Type 0} (f : X → X) (g : ℕ → X) (from n : ℕ) → ((k : ℕ) → f (g k) ≡ g k) → map f (map g (range_with_len from n)) ≡ map g (range_with_len from n)
map_kept f g from zero each = refl
map_kept {X} f g from (suc n) each = ap₂ (λ (x : X) (xs : List X). x ∷ xs) (each from) (map_kept f g (from + 1) n each)

no_edits : (f : ℕ → List Edit) (from n : ℕ) → ((k : ℕ) → f k ≡ []) → flat_map f (range_with_len from n) ≡ []
no_edits f from zero none = refl
no_edits f from (suc n) none = ap₂ (λ (xs ys : List Edit). xs ++ ys) (none from) (no_edits f (from + 1) n none)

-- where each owner is the home, the halves are those that were built
pub at_home : (template : WorkerTemplate) → template.built ≡ halves_for template template.homes
at_home template =
    same_list [] template.built (halves_for template template.homes) (sym long)
    (λ i less. sym (get_or-map-range_with_len (λ (n : ℕ). edited_half template template.homes (record { 0 = n })) 0 (length template.built) i i [] less
    (omega arith)
    ∙ ap (λ (es : List Edit). edited_by es (slice_index_or template.built i [])) (none (record { 0 = i })))) where
      long : length (halves_for template template.homes) ≡ length template.built
      long = length-map-range_with_len (λ (n : ℕ). edited_half template template.homes (record { 0 = n })) 0 (length template.built)

      none : (worker : Worker) → flat_map (edits_at template template.homes worker) (range_with_len 0 (length template.forms)) ≡ []
      none worker =
          no_edits (edits_at template template.homes worker) 0 (length template.forms)
          (λ task. with_home template worker task (worker_at template.homes task)
          (eq-eqb (worker_at template.homes task).0 (worker_at template.homes task).0 refl))

-- ---- the runs

slots_same : (past : List TaskForm) (reads : List Object) → read_slots false (map (read_behind past) reads) ≡ map main_slot reads
slots_same past [] = refl
slots_same past (object ∷ reads) = ap (λ (slots : List Slot). main_slot object ∷ slots) (slots_same past reads)

run_same : (forms : List TaskForm) (task : ℕ) → run_entry task (slice_index_or forms task no_task) ≡ run_over false task (spec_of forms task)
run_same forms task =
    let form : TaskForm = slice_index_or forms task no_task in
    ap (λ (slots : List Slot). record (run_entry task form) { kind = EntryKind.Run form.func form.params slots (map main_slot form.writes) })
    (sym (slots_same (take task forms) form.reads))

-- either way round
same_worker : (a b number : ℕ) (entry : Entry) → (if a == b then kind_at (entry ∷ []) number else None) ≡ (if b == a then kind_at (entry ∷ []) number else None)
same_worker a b number entry = elim (cases_eq a b) [
  | inl same ↦ ap (λ (c : Bool). if c then kind_at (entry ∷ []) number else None) (eq-eqb a b same ∙ sym (eq-eqb b a (sym same)))
  | inr apart ↦ ap (λ (c : Bool). if c then kind_at (entry ∷ []) number else None) (ne_eqb a b apart ∙ sym (ne_eqb b a (λ same. apart (sym same))))
]

pub built_form : (place : Placement) (objects : ℕ) (live : List Bool) (template : ControllerTemplate) → list_any (λ (flag : Bool). flag) live ≡ true
    → length live ≤ 16 → objects ≤ 512 → length template.forms ≤ 1024 → list_all (is_fit objects) template.forms ≡ true
    → IsInForm (built place objects live template)
built_form place objects live template some workers_few objects_few few fit = record {
  many = few;
  fit = forms_fit objects forms objects_few fit;
  few = omega (arith, workers_few, wide);
  homes = length-map forms (home_of place objects live);
  owners = length-map forms (home_of place objects live);
  placed = all_homes place objects live forms (length (all_halves workers entries)) some wide;
  owned = all_homes place objects live forms (length (all_halves workers entries)) some wide;
  ascend = built_ascend place objects live template workers_few objects_few few fit;
  ruled = map_kept (entries_by_rule []) (λ (n : ℕ). half_for (record { 0 = n }) entries) 0 workers
      (λ n. ruled_again [] (entries_for (record { 0 = n }) entries));
  runs = λ worker number below within late. runs worker number (omega (arith, below, wide)) within late;
  halves = at_home (built place objects live template);
} where
  forms : List TaskForm
  forms = template.forms

  workers : ℕ
  workers = length live

  walk : Walk
  walk = end_of place objects live forms

  slots : List (Worker × Object)
  slots = all_slots workers objects

  needs : List (Worker × Object)
  needs = needs_of walk.needed slots

  copies : Closings
  copies = closings walk.offsets needs

  entries : List (Worker × Entry)
  entries = walk.entries ++ closing_entries 0 copies

  wide : length (all_halves workers entries) ≡ workers
  wide = length-map-range_with_len (λ (n : ℕ). half_for (record { 0 = n }) entries) 0 workers

  closed : (worker : Worker) → Between (65536 + 0) (65536 + 0 + length copies) (entries_for worker (closing_entries 0 copies))
  closed worker =
      let long : length slots ≡ workers * objects = slots_long objects 0 workers in
      let most : workers * objects ≤ workers * 512 = mul-le-mul_left workers objects_few in
      let filtered : length needs ≤ length slots = filter_few (λ (slot : Worker × Object). is_current walk.needed slot.1 slot.0) slots in
      let closed_few : length copies ≤ length needs = closings_few walk.offsets needs in
      closing_between worker 0 copies (closings_apart walk.offsets needs) (omega (arith, long, most, filtered, closed_few, workers_few))

  walked : (worker : Worker) → HasRuns place live objects worker 0 forms [] (entries_for worker walk.entries)
  walked worker = walk_runs place live objects worker 0 (empty_walk workers objects) forms refl (omega (arith, few)) fit (omega arith)

  item : (all : List TaskForm) (i : ℕ) → i < length all → slice_index_or all i no_task ≡ get_or all i (slice_index_or all i no_task)
  item [] i within = absurd (omega (arith, within))
  item (f ∷ fs) zero within = refl
  item (f ∷ fs) (suc i) within = item fs i (omega (arith, within))

  runs : (worker : Worker) (number : ℕ) → worker.0 < workers → task_of number < length forms → 2 ≤ phase_of number
      → kind_at (slice_index_or (all_halves workers entries) worker.0 []) number
      ≡ (if worker.0 == (worker_at (map (home_of place objects live) forms) (task_of number)).0
      then kind_at (run_over false (task_of number) (spec_of forms (task_of number)) ∷ []) number else None)
  runs worker number below within late =
      let task : ℕ = task_of number in
      let form : TaskForm = slice_index_or forms task no_task in
      let own : List Entry = entries_for worker walk.entries in
      let behind : List Entry = entries_for worker (closing_entries 0 copies) in
      ap (λ (es : List Entry). kind_at es number)
      (get_or-map-range_with_len (λ (n : ℕ). half_for (record { 0 = n }) entries) 0 workers worker.0 worker.0 [] below (omega arith))
      ∙ ruled_at [] (entries_for worker entries) number
      ∙ ap (λ (es : List Entry). kind_at es number) (for_append worker walk.entries (closing_entries 0 copies))
      ∙ joined_at own behind number
      ∙ ap (over (kind_at own number)) (none_under (65536 + 0) (65536 + 0 + length copies) number behind (closed worker) (omega (arith, within, few)))
      ∙ over_none (kind_at own number)
      ∙ (walked worker).runs number task form late (omega arith) within (item forms task within)
      ∙ same_worker (home_of place objects live form).0 worker.0 number (run_entry task form)
      ∙ ap (λ (home : Worker). if worker.0 == home.0 then kind_at (run_entry task form ∷ []) number else None)
      (sym (get_or-map (home_of place objects live) forms task no_task (record { 0 = 0 }) within))
      ∙ ap (λ (run : Entry). if worker.0 == (worker_at (map (home_of place objects live) forms) task).0 then kind_at (run ∷ []) number else None)
      (run_same forms task)
