-- A half of a template in form, task by task: of each task what was built of its first phases, and then what it has of the
-- later ones, by its home and its owner; behind the tasks what was built.
use Rattle.std.proofs.Common.{◌≡◌, ℕ, zero, suc, ◌+◌, ◌≤◌, ◌<◌, Bool, true, false, List, [], ◌∷◌, ◌++◌, length, map, refl, ap, ap₂, sym, ◌∙◌, arith}
use Rattle.std.proofs.Common.{Option, None}
use Rattle.std.specs.Prelude.{◌*◌, ◌==◌, nat_le, nat_lt, not, if◌then◌else◌, slice_index_or}
use Rattle.std.specs.List.{flat_map, range_with_len}
use Rattle.std.proofs.lemmas.Bool.{leb-false, leb-true, ltb-false, ltb-true}
use Rattle.std.proofs.lemmas.List.{map-append, append_assoc}
use Rattle.nim_base.specs.declared.number.Worker.{Worker}
use Rattle.nim_command.specs.declared.edit.Edit.{Edit}
use Rattle.nim_command.specs.declared.edit.Edit.TheVariants.{Away, Here}
use Rattle.nim_command.specs.declared.edit.Spec.{Spec}
use Rattle.nim_command.specs.declared.entry.Entry.{Entry}
use Rattle.nim_command.specs.declared.entry.EntryKind.{EntryKind}
use Rattle.nim_command.specs.declared.template.WorkerTemplate.{WorkerTemplate}
use Rattle.nim_command.specs.Edits.{put_by, run_over}
use Rattle.nim_command.specs.Numbers.{task_of}
use Rattle.nim_template.specs.Ascends.{does_ascend}
use Rattle.nim_edit.specs.Cells.{kind_at}
use Rattle.nim_edit.specs.Form.{IsInForm}
use Rattle.nim_edit.specs.Halves.{edits_at, edited_half}
use Rattle.nim_edit.specs.Moves.{mask_for, spec_of, worker_at}
use Rattle.nim_edit.proofs.Between.{HasBetween, cut_at, onward, under}
use Rattle.nim_edit.proofs.Cells.{Ascend, ascend_from, bare, filter_ascend, same_bare, without_at}
use Rattle.nim_edit.proofs.Migrations.{all_at, task_short, with_own}
use Rattle.nim_edit.proofs.Owners.{AreAll, act, after_tasks}
use Rattle.nim_edit.proofs.Puts.{IsShort, away_own, here_own, taken_own, takes}
use Rattle.nim_edit.proofs.Stays.{built_between, edited_between, late_of}

-- ---- a task

-- what a worker's half has of a task's later phases
abbrev pub late_half : WorkerTemplate → Worker → ℕ → Worker → List Entry
late_half template owner task worker =
    let home : Worker = worker_at template.homes task in
    let spec : Spec = spec_of template.forms task in
    if owner.0 == home.0 then (if worker.0 == home.0 then run_over false task spec ∷ [] else [])
    else if worker.0 == home.0 then put_by (Away task owner (mask_for template task owner) spec)
    else if worker.0 == owner.0 then put_by (Here task home (mask_for template task owner) spec)
    else []

-- what is true of a template's half
pub record IsHalf (template : WorkerTemplate) (worker : Worker) : Type 0 where
  pub form : IsInForm template
  pub below : worker.0 < length template.built

abbrev built_half : WorkerTemplate → Worker → List Entry
built_half template worker = slice_index_or template.built worker.0 []

built_ascends : (template : WorkerTemplate) (worker : Worker) → IsHalf template worker → Ascend 0 (built_half template worker)
built_ascends template worker is =
    ascend_from 0 (built_half template worker) (all_at (does_ascend 0) template.built worker.0 [] is.form.ascend is.below)

pub half_all : (template : WorkerTemplate) (worker : Worker) → IsHalf template worker
    → AreAll (edits_at template template.owners worker) 0 (length template.forms) (built_half template worker) (edited_half template template.owners worker)
half_all template worker is =
    after_tasks (edits_at template template.owners worker) 0 (length template.forms) (built_half template worker) (built_ascends template worker is)
    (λ t less. with_own template worker t (worker_at template.owners t) (omega (arith, less, is.form.many))
    (task_short template.forms t is.form.fit (omega (arith, less))))

-- under a number of a task
half_at : (template : WorkerTemplate) (worker : Worker) → IsHalf template worker → (task number : ℕ) → task < length template.forms
    → task_of number ≡ task
    → kind_at (edited_half template template.owners worker) number
    ≡ act (edits_at template template.owners worker task) number (kind_at (built_half template worker) number)
half_at template worker is task number within at =
    (half_all template worker is).at number (omega arith) (omega (arith, within, at))
    ∙ ap (λ (t : ℕ). act (edits_at template template.owners worker t) number (kind_at (built_half template worker) number)) at

-- of its first phases a half has what was built
pub early_same : (template : WorkerTemplate) (worker : Worker) → IsHalf template worker → (task number : ℕ) → task < length template.forms
    → 64 * task ≤ number → number < 64 * task + 16
    → kind_at (edited_half template template.owners worker) number ≡ kind_at (built_half template worker) number
early_same template worker is task number within above under =
    half_at template worker is task number within (omega (arith, above, under))
    ∙ chosen ((worker_at template.owners task).0 == home.0) (worker.0 == home.0) (worker.0 == (worker_at template.owners task).0) where
      home : Worker
      home = worker_at template.homes task

      owner : Worker
      owner = worker_at template.owners task

      spec : Spec
      spec = spec_of template.forms task

      mask : ℕ
      mask = mask_for template task owner

      old : Option EntryKind
      old = kind_at (built_half template worker) number

      untaken : (edit : Edit) → (takes edit number ≡ true → ⊥) → act (edit ∷ []) number old ≡ old
      untaken edit not_taken = either (takes edit number) refl where
        either : (b : Bool) → takes edit number ≡ b → (if b then kind_at (put_by edit) number else old) ≡ old
        either true taken = absurd (not_taken taken)
        either false taken = refl

      chosen : (a b c : Bool)
          → act (if a then [] else if b then Away task owner mask spec ∷ [] else if c then Here task home mask spec ∷ [] else []) number old ≡ old
      chosen true b c = refl
      chosen false true c =
          untaken (Away task owner mask spec) (λ taken. (let late = late_of task number (2 ∷ 4 ∷ 6 ∷ []) taken refl in omega (arith, late.0, under)))
      chosen false false true =
          untaken (Here task home mask spec) (λ taken. (let late = late_of task number (3 ∷ 4 ∷ 5 ∷ []) taken refl in omega (arith, late.0, under)))
      chosen false false false = refl

-- of the later ones it has what its home and its owner say
pub late_between : (template : WorkerTemplate) (worker : Worker) → IsHalf template worker → (task : ℕ) → task < length template.forms
    → HasBetween (64 * task + 16) (64 * task + 64) (edited_half template template.owners worker)
    (late_half template (worker_at template.owners task) task worker)
late_between template worker is task within =
    chosen (owner.0 == home.0) (worker.0 == home.0) refl (worker.0 == owner.0) (λ number above under. half_at template worker is task number within (omega
    (arith, above, under))) where
      home : Worker
      home = worker_at template.homes task

      owner : Worker
      owner = worker_at template.owners task

      spec : Spec
      spec = spec_of template.forms task

      mask : ℕ
      mask = mask_for template task owner

      half : List Entry
      half = edited_half template template.owners worker

      old : ℕ → Option EntryKind
      old number = kind_at (built_half template worker) number

      few : task < 1024
      few = omega (arith, within, is.form.many)

      short : IsShort spec
      short = task_short template.forms task is.form.fit within

      built : (b : Bool) → (worker.0 == home.0) ≡ b
          → HasBetween (64 * task + 16) (64 * task + 64) (built_half template worker) (if b then run_over false task spec ∷ [] else [])
      built b same = built_between template is.form worker task (built_half template worker) is.below within (λ number at. refl) b same

      unmoved : (those : List Entry) → HasBetween (64 * task + 16) (64 * task + 64) (built_half template worker) those
          → ((number : ℕ) → 64 * task + 16 ≤ number → number < 64 * task + 64 → kind_at half number ≡ old number)
          → HasBetween (64 * task + 16) (64 * task + 64) half those
      unmoved those has same = record {
        ascend = has.ascend;
        inside = λ number above under. same number above under ∙ has.inside number above under;
        before = has.before;
        behind = has.behind;
      }

      chosen : (a b : Bool) → (worker.0 == home.0) ≡ b → (c : Bool)
          → ((number : ℕ) → 64 * task + 16 ≤ number → number < 64 * task + 64
          → kind_at half number ≡ act (if a then [] else if b then Away task owner mask spec ∷ [] else if c then Here task home mask spec ∷ [] else [])
          number (old number))
          → HasBetween (64 * task + 16) (64 * task + 64) half
          (if a then (if b then run_over false task spec ∷ [] else [])
          else if b then put_by (Away task owner mask spec) else if c then put_by (Here task home mask spec) else [])
      chosen true b same c at = unmoved (if b then run_over false task spec ∷ [] else []) (built b same) at
      chosen false true same c at =
          edited_between task (Away task owner mask spec) (built_half template worker) half (run_over false task spec ∷ [])
          (away_own task owner mask spec few short) (λ number taken. late_of task number (2 ∷ 4 ∷ 6 ∷ []) taken refl) (built true same)
          (taken_own task 4 0 (2 ∷ 4 ∷ 6 ∷ []) few (omega arith) (omega arith) refl, tt) at
      chosen false false same true at =
          edited_between task (Here task home mask spec) (built_half template worker) half [] (here_own task home mask spec few short)
          (λ number taken. late_of task number (3 ∷ 4 ∷ 5 ∷ []) taken refl) (built false same) tt at
      chosen false false same false at = unmoved [] (built false same) at

-- ---- all tasks

-- the entries of a task's first phases
abbrev pub early_of : ℕ → List Entry → List Entry
early_of task half = under (64 * task + 16) (onward (64 * task) half)

-- of one task, and of all from one on
abbrev pub segment_of : WorkerTemplate → List Entry → Worker → ℕ → List Entry
segment_of template built worker task =
    map bare (early_of task built) ++ map bare (late_half template (worker_at template.owners task) task worker)

at_under : (high : ℕ) (entries : List Entry) (number : ℕ) → kind_at (under high entries) number ≡ (if nat_le high number then None else kind_at entries number)
at_under high entries number = without_at (nat_le high) entries number

at_onward : (low : ℕ) (entries : List Entry) (number : ℕ)
    → kind_at (onward low entries) number ≡ (if nat_lt number low then None else kind_at entries number)
at_onward low entries number = without_at (λ (n : ℕ). nat_lt n low) entries number

under_ascend : (high : ℕ) (entries : List Entry) → Ascend 0 entries → Ascend 0 (under high entries)
under_ascend high entries are = filter_ascend (λ (e : Entry). not (nat_le high e.id)) 0 entries are

onward_ascend : (low : ℕ) (entries : List Entry) → Ascend 0 entries → Ascend 0 (onward low entries)
onward_ascend low entries are = filter_ascend (λ (e : Entry). not (nat_lt e.id low)) 0 entries are

-- between two numbers, where two halves have the same there
same_range : (low high : ℕ) (xs ys : List Entry) → Ascend 0 xs → Ascend 0 ys
    → ((number : ℕ) → low ≤ number → number < high → kind_at xs number ≡ kind_at ys number)
    → map bare (under high (onward low xs)) ≡ map bare (under high (onward low ys))
same_range low high xs ys first second same =
    same_bare 0 (under high (onward low xs)) (under high (onward low ys)) (under_ascend high (onward low xs) (onward_ascend low xs first))
    (under_ascend high (onward low ys) (onward_ascend low ys second))
    (λ number. at number xs ∙ chosen number (nat_le high number) refl (nat_lt number low) refl ∙ sym (at number ys)) where
      at : (number : ℕ) (entries : List Entry)
          → kind_at (under high (onward low entries)) number
          ≡ (if nat_le high number then None else (if nat_lt number low then None else kind_at entries number))
      at number entries = at_under high (onward low entries) number ∙ ap (λ (o : Option EntryKind). if nat_le high number then None else o)
          (at_onward low entries number)

      chosen : (number : ℕ) (a : Bool) → nat_le high number ≡ a → (b : Bool) → nat_lt number low ≡ b
          → (if nat_le high number then None else (if nat_lt number low then None else kind_at xs number))
          ≡ (if nat_le high number then None else (if nat_lt number low then None else kind_at ys number))
      chosen number true is b other =
          ap (λ (c : Bool). if c then None else (if nat_lt number low then None else kind_at xs number)) is
          ∙ sym (ap (λ (c : Bool). if c then None else (if nat_lt number low then None else kind_at ys number)) is)
      chosen number false is true other =
          ap (λ (c : Bool). if nat_le high number then None else (if c then None else kind_at xs number)) other
          ∙ sym (ap (λ (c : Bool). if nat_le high number then None else (if c then None else kind_at ys number)) other)
      chosen number false is false other =
          ap (λ (o : Option EntryKind). if nat_le high number then None else (if nat_lt number low then None else o))
          (same number (ltb-false number low other) (leb-false high number is))

-- from a number on
same_onward : (low : ℕ) (xs ys : List Entry) → Ascend 0 xs → Ascend 0 ys → ((number : ℕ) → low ≤ number → kind_at xs number ≡ kind_at ys number)
    → map bare (onward low xs) ≡ map bare (onward low ys)
same_onward low xs ys first second same =
    same_bare 0 (onward low xs) (onward low ys) (onward_ascend low xs first) (onward_ascend low ys second)
    (λ number. at_onward low xs number ∙ chosen number (nat_lt number low) refl ∙ sym (at_onward low ys number)) where
      chosen : (number : ℕ) (b : Bool) → nat_lt number low ≡ b
          → (if nat_lt number low then None else kind_at xs number) ≡ (if nat_lt number low then None else kind_at ys number)
      chosen number true is =
          ap (λ (c : Bool). if c then None else kind_at xs number) is ∙ sym (ap (λ (c : Bool). if c then None else kind_at ys number) is)
      chosen number false is = ap (λ (o : Option EntryKind). if nat_lt number low then None else o) (same number (ltb-false number low is))

-- what is from a number on, where less is cut off already
onward_twice : (low from : ℕ) (entries : List Entry) → Ascend 0 entries → low ≤ from
    → map bare (onward from (onward low entries)) ≡ map bare (onward from entries)
onward_twice low from entries are above =
    same_onward from (onward low entries) entries (onward_ascend low entries are) are
    (λ number beyond. at_onward low entries number ∙ either number beyond (nat_lt number low) refl) where
      either : (number : ℕ) → from ≤ number → (b : Bool) → nat_lt number low ≡ b → (if b then None else kind_at entries number) ≡ kind_at entries number
      either number beyond true is = absurd (omega (arith, above, beyond, ltb-true number low is))
      either number beyond false is = refl

-- what is between two numbers, where less is cut off already
under_twice : (low from high : ℕ) (entries : List Entry) → Ascend 0 entries → low ≤ from
    → map bare (under high (onward from (onward low entries))) ≡ map bare (under high (onward from entries))
under_twice low from high entries are above =
    same_range from high (onward low entries) entries (onward_ascend low entries are) are
    (λ number beyond less. at_onward low entries number ∙ either number beyond (nat_lt number low) refl) where
      either : (number : ℕ) → from ≤ number → (b : Bool) → nat_lt number low ≡ b → (if b then None else kind_at entries number) ≡ kind_at entries number
      either number beyond true is = absurd (omega (arith, above, beyond, ltb-true number low is))
      either number beyond false is = refl

-- what is between two numbers is all that a half has there
between_is : (low high : ℕ) (half those : List Entry) → Ascend 0 half → HasBetween low high half those
    → map bare (under high (onward low half)) ≡ map bare those
between_is low high half those are has =
    same_bare 0 (under high (onward low half)) those (under_ascend high (onward low half) (onward_ascend low half are)) has.ascend
    (λ number. at_under high (onward low half) number
    ∙ ap (λ (o : Option EntryKind). if nat_le high number then None else o) (at_onward low half number)
    ∙ chosen number (nat_le high number) refl (nat_lt number low) refl) where
      chosen : (number : ℕ) (b : Bool) → nat_le high number ≡ b → (c : Bool) → nat_lt number low ≡ c
          → (if b then None else (if c then None else kind_at half number)) ≡ kind_at those number
      chosen number true is c other = sym (has.behind number (leb-true high number is))
      chosen number false is true other = sym (has.before number (ltb-true number low other))
      chosen number false is false other = has.inside number (ltb-false number low other) (leb-false high number is)

-- cut at two numbers
cut_twice : (low mid high : ℕ) (half : List Entry) → Ascend 0 half → low ≤ mid → mid ≤ high
    → map bare (onward low half)
    ≡ map bare (under mid (onward low half)) ++ (map bare (under high (onward mid half)) ++ map bare (onward high half))
cut_twice low mid high half are first second =
    let later : List Entry = onward low half in
    let last : List Entry = onward mid later in
    let later_ascend : Ascend 0 later = onward_ascend low half are in
    ap (map bare) (cut_at mid 0 later later_ascend)
    ∙ map-append bare (under mid later) last
    ∙ ap (λ (es : List Entry). map bare (under mid later) ++ es)
    (ap (map bare) (cut_at high 0 last (onward_ascend mid later later_ascend))
    ∙ map-append bare (under high last) (onward high last)
    ∙ ap₂ (λ (xs ys : List Entry). xs ++ ys) (under_twice low mid high half are first)
    (onward_twice mid high later later_ascend second ∙ onward_twice low high half are (omega (arith, first, second))))

-- Bare of before sets, a half is its tasks' segments in order, and what was built behind them.
pub segments : (template : WorkerTemplate) (worker : Worker) → IsHalf template worker → (from n : ℕ) → from + n ≡ length template.forms
    → map bare (onward (64 * from) (edited_half template template.owners worker))
    ≡ flat_map (segment_of template (slice_index_or template.built worker.0 []) worker) (range_with_len from n)
    ++ map bare (onward (64 * length template.forms) (slice_index_or template.built worker.0 []))
segments template worker is from zero all =
    ap (λ (t : ℕ). map bare (onward (64 * t) (edited_half template template.owners worker))) same
    ∙ same_onward (64 * length template.forms) (edited_half template template.owners worker) (built_half template worker) (half_all template worker is).ascend
    (built_ascends template worker is) (λ number beyond. (half_all template worker is).beyond number (omega (arith, beyond))) where
      same : from ≡ length template.forms
      same = omega (arith, all)
segments template worker is from (suc n) all =
    cut_twice (64 * from) (64 * from + 16) (64 * from + 64) half ascends (omega arith) (omega arith)
    ∙ ap₂ (λ (xs ys : List Entry). xs ++ ys)
    (same_range (64 * from) (64 * from + 16) half built ascends (built_ascends template worker is)
    (λ number above less. early_same template worker is from number within above less))
    (ap₂ (λ (xs ys : List Entry). xs ++ ys) (between_is (64 * from + 16) (64 * from + 64) half late ascends (late_between template worker is from within))
    (ap (λ (low : ℕ). map bare (onward low half)) next ∙ segments template worker is (from + 1) n (omega (arith, all))))
    ∙ sym (append_assoc (map bare (early_of from built)) (map bare late) (rest ++ behind))
    ∙ sym (append_assoc (map bare (early_of from built) ++ map bare late) rest behind) where
      half : List Entry
      half = edited_half template template.owners worker

      built : List Entry
      built = built_half template worker

      late : List Entry
      late = late_half template (worker_at template.owners from) from worker

      rest : List Entry
      rest = flat_map (segment_of template built worker) (range_with_len (from + 1) n)

      behind : List Entry
      behind = map bare (onward (64 * length template.forms) built)

      ascends : Ascend 0 half
      ascends = (half_all template worker is).ascend

      within : from < length template.forms
      within = omega (arith, all)

      next : 64 * from + 64 ≡ 64 * (from + 1)
      next = omega arith
