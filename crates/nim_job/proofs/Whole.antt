-- What a job that is whole gives: its variables, its stages, and the objects of its tasks.
use Rattle.std.proofs.Common.{◌≡◌, ℕ, ◌+◌, ◌%◌, ◌<◌, ◌≤◌, zero, suc, Bool, true, ◌&&◌, ℤ, List, [], ◌∷◌, length, take, map, replicate, get_or, refl, ap, sym, ◌∙◌, arith, All}
use Rattle.std.specs.Prelude.{slice_get, nat_lt}
use Rattle.std.specs.List.{list_all, range_with_len}
use Rattle.std.specs.Option.{option_map_or}
use Rattle.std.proofs.Math.Nat.{add-mod-mod}
use Rattle.std.proofs.lemmas.Bool.{and_parts, and_from, ltb-true, lt-ltb, cond_both}
use Rattle.std.proofs.lemmas.Bool.Decides.{nat_tests}
use Rattle.std.proofs.lemmas.List.{length-append, length-replicate, length-map}
use Rattle.std.proofs.lemmas.List.Elements.{All-append, All-nil, All-replicate}
use Rattle.std.proofs.lemmas.List.Folds.{list_all-map}
use Rattle.std.proofs.lemmas.List.Sums.{sum_by-cons, sum_by_more, sum_by-take-drop}
use Rattle.nim_base.specs.declared.number.Shape.{Shape}
use Rattle.nim_base.specs.declared.task.TaskForm.{TaskForm}
use Rattle.nim_base.specs.Apply.{has_counts}
use Rattle.nim_job.specs.declared.block.Place.{Place}
use Rattle.nim_job.specs.declared.block.Place.TheVariants.{Fixed, Plus, Minus}
use Rattle.nim_job.specs.declared.block.Ref.{Ref}
use Rattle.nim_job.specs.declared.block.Stage.{Stage}
use Rattle.nim_job.specs.declared.block.Block.{Block}
use Rattle.nim_job.specs.declared.job.Var.{Var}
use Rattle.nim_job.specs.declared.job.Job.{Job}
use Rattle.nim_job.specs.Objects.{parts_of, objects_of, first_object, shapes_of}
use Rattle.nim_job.specs.Tasks.{part_of, object_meant, form_of, task_count, stage_forms, stages_of, task_with_args, block_forms_of, block_tasks_of}
use Rattle.nim_job.specs.Whole.{is_var, are_vars, is_filled, is_place, is_ref, has_refs, are_distinct, has_distinct, is_stage, is_whole_block, is_checked, is_whole, is_object_within, is_whole_task}
use Rattle.nim_base.proofs.Lists.{all_weaker}
use Rattle.nim_job.proofs.Lists.{list_all-flat_map}

pub whole_checked : (job : Job) → is_whole job ≡ true → is_checked job ≡ true
whole_checked job whole = (and_parts (is_checked job) (list_all is_filled job.vars) whole).0

pub whole_inits : (job : Job) → is_whole job ≡ true → list_all is_filled job.vars ≡ true
whole_inits job whole = (and_parts (is_checked job) (list_all is_filled job.vars) whole).1

checked_parts : (job : Job) → is_checked job ≡ true → (are_vars job.vars ≡ true) × (list_all (is_whole_block job.vars) job.blocks ≡ true)
checked_parts job checked = grind (arith, nat_tests)

pub whole_vars : (job : Job) → is_whole job ≡ true → are_vars job.vars ≡ true
whole_vars job whole = (checked_parts job (whole_checked job whole)).0

pub whole_blocks : (job : Job) → is_whole job ≡ true → list_all (is_whole_block job.vars) job.blocks ≡ true
whole_blocks job whole = (checked_parts job (whole_checked job whole)).1

pub var_sizes : (v : Var) → is_var v ≡ true → (1 ≤ v.parts) × (v.parts ≤ 64) × (1 ≤ v.shape.width)
var_sizes v is = grind (arith, nat_tests)

pub vars_sizes : (vars : List Var) → are_vars vars ≡ true → (objects_of vars ≤ 512) × (list_all is_var vars ≡ true)
vars_sizes vars are = grind (arith, nat_tests)

block_stages : (vars : List Var) (block : Block) → is_whole_block vars block ≡ true → list_all (is_stage vars block.args) block.stages ≡ true
block_stages vars block is = grind (arith, nat_tests)

-- what a stage that is whole gives for its tasks
record HasShape (vars : List Var) (stage : Stage) : Type 0 where
  pub counts : has_counts stage.func (length stage.params) (length stage.reads) (length stage.writes) ≡ true
  pub reads : list_all (is_ref vars true) stage.reads ≡ true
  pub writes : list_all (is_ref vars true) stage.writes ≡ true
  pub distinct : has_distinct vars stage ≡ true

place_of : (place : Place) → is_place true place ≡ true
place_of (Fixed n) = refl
place_of (Plus n) = refl
place_of (Minus n) = refl

ref_of : (vars : List Var) (each : Bool) (ref : Ref) → is_ref vars each ref ≡ true → is_ref vars true ref ≡ true
ref_of vars each ref is =
    and_from (nat_lt ref.var (length vars)) (is_place true ref.place) (and_parts (nat_lt ref.var (length vars)) (is_place each ref.place) is).0
    (place_of ref.place)

-- with `each` or not, the variables are there
pub refs_of : (vars : List Var) (each : Bool) (refs : List Ref) → list_all (is_ref vars each) refs ≡ true → list_all (is_ref vars true) refs ≡ true
refs_of vars each refs are = all_weaker (is_ref vars each) (is_ref vars true) (ref_of vars each) refs are

stage_parts : (vars : List Var) (args : ℕ) (stage : Stage) → is_stage vars args stage ≡ true
    → (has_counts stage.func (length stage.params) (length stage.reads) (length stage.writes) ≡ true)
    × (list_all (is_ref vars stage.each) stage.reads ≡ true) × (list_all (is_ref vars stage.each) stage.writes ≡ true) × (has_distinct vars stage ≡ true)
stage_parts vars args stage is = grind (arith, nat_tests)

-- the test of a stage, apart from its parameters
abbrev has_shape : List Var → Stage → Bool
has_shape vars stage =
    has_counts stage.func (length stage.params) (length stage.reads) (length stage.writes) && (has_refs vars stage && has_distinct vars stage)

shape_parts : (vars : List Var) (stage : Stage) → has_shape vars stage ≡ true → HasShape vars stage
shape_parts vars stage is =
    let parts = and_parts (has_counts stage.func (length stage.params) (length stage.reads) (length stage.writes))
    (has_refs vars stage && has_distinct vars stage) is in
    let more = and_parts (has_refs vars stage) (has_distinct vars stage) parts.1 in
    let refs = and_parts (list_all (is_ref vars true) stage.reads) (list_all (is_ref vars true) stage.writes) more.0 in
    record { counts = parts.0; reads = refs.0; writes = refs.1; distinct = more.1 }

stage_shape : (vars : List Var) (args : ℕ) (stage : Stage) → is_stage vars args stage ≡ true → has_shape vars stage ≡ true
stage_shape vars args stage is =
    let parts = stage_parts vars args stage is in
    and_from (has_counts stage.func (length stage.params) (length stage.reads) (length stage.writes)) (has_refs vars stage && has_distinct vars stage) parts.0
    (and_from (has_refs vars stage) (has_distinct vars stage)
    (and_from (list_all (is_ref vars true) stage.reads) (list_all (is_ref vars true) stage.writes) (refs_of vars stage.each stage.reads parts.1)
    (refs_of vars stage.each stage.writes parts.2))
    parts.3)

stages_at : (vars : List Var) (blocks : List Block) (block : ℕ) → list_all (is_whole_block vars) blocks ≡ true
    → list_all (has_shape vars) (option_map_or (λ (b : Block). b.stages) (slice_get blocks block) []) ≡ true
stages_at vars [] block all = refl
stages_at vars (b ∷ blocks) zero all =
    all_weaker (is_stage vars b.args) (has_shape vars) (stage_shape vars b.args) b.stages
    (block_stages vars b (and_parts (is_whole_block vars b) (list_all (is_whole_block vars) blocks) all).0)
stages_at vars (b ∷ blocks) (suc block) all = stages_at vars blocks block (and_parts (is_whole_block vars b) (list_all (is_whole_block vars) blocks) all).1

shape_refs : (vars : List Var) (stage : Stage) → has_shape vars stage ≡ true → has_refs vars stage ≡ true
shape_refs vars stage is =
    let shape = shape_parts vars stage is in
    and_from (list_all (is_ref vars true) stage.reads) (list_all (is_ref vars true) stage.writes) shape.reads shape.writes

-- the stages of a block name variables that are there
pub stages_refs : (job : Job) (block : ℕ) → is_whole job ≡ true → list_all (has_refs job.vars) (stages_of job block) ≡ true
stages_refs job block whole =
    all_weaker (has_shape job.vars) (has_refs job.vars) (shape_refs job.vars) (stages_of job block)
    (stages_at job.vars job.blocks block (whole_blocks job whole))

-- the parts of a variable that is there
pub parts_there : (vars : List Var) (var : ℕ) → list_all is_var vars ≡ true → var < length vars
    → (1 ≤ parts_of vars var) × (parts_of vars var ≤ 64) × (first_object vars var + parts_of vars var ≤ objects_of vars)
parts_there [] var all there = absurd (omega arith)
parts_there (v ∷ vars) zero all there =
    let sizes = var_sizes v (and_parts (is_var v) (list_all is_var vars) all).0 in
    (sizes.0, sizes.1, omega (arith, sum_by-cons (λ (w : Var). w.parts) v vars))
parts_there (v ∷ vars) (suc var) all there =
    let rest = parts_there vars var (and_parts (is_var v) (list_all is_var vars) all).1 (omega arith) in
    (rest.0, rest.1, omega (arith, rest.2, sum_by-cons (λ (w : Var). w.parts) v vars, sum_by-cons (λ (w : Var). w.parts) v (take var vars)))

-- the number may be taken modulo the parts before it is added
pub plus_part : (i n parts : ℕ) → (i + n % parts) % parts ≡ (i + n) % parts
plus_part i n parts = add-mod-mod i n parts

pub part_below : (place : Place) (i parts : ℕ) → 1 ≤ parts → part_of place i parts < parts
part_below (Fixed n) i parts some = omega arith
part_below (Plus n) i parts some = omega arith
part_below (Minus n) i parts some = omega arith

-- the variable that a reference names is there
pub ref_there : (vars : List Var) (ref : Ref) → is_ref vars true ref ≡ true → ref.var < length vars
ref_there vars ref is = ltb-true ref.var (length vars) (and_parts (nat_lt ref.var (length vars)) (is_place true ref.place) is).0

-- the parts of the variable that a reference names, and the objects up to its last one
pub ref_fits : (vars : List Var) (ref : Ref) → are_vars vars ≡ true → is_ref vars true ref ≡ true
    → (1 ≤ parts_of vars ref.var) × (parts_of vars ref.var ≤ 64) × (first_object vars ref.var + parts_of vars ref.var ≤ 512)
ref_fits vars ref are is =
    let sizes = vars_sizes vars are in
    let there = parts_there vars ref.var sizes.1 (ref_there vars ref is) in
    (there.0, there.1, omega (arith, there.2, sizes.0))

object_there : (vars : List Var) (i : ℕ) (ref : Ref) → list_all is_var vars ≡ true → is_ref vars true ref ≡ true
    → is_object_within (objects_of vars) (object_meant vars i ref) ≡ true
object_there vars i ref all is =
    let parts = parts_there vars ref.var all (ref_there vars ref is) in
    let below = part_below ref.place i (parts_of vars ref.var) parts.0 in
    lt-ltb (first_object vars ref.var + part_of ref.place i (parts_of vars ref.var)) (objects_of vars) (omega (arith, parts.2, below))

objects_there : (vars : List Var) (i : ℕ) (refs : List Ref) → list_all is_var vars ≡ true → list_all (is_ref vars true) refs ≡ true
    → list_all (is_object_within (objects_of vars)) (map (object_meant vars i) refs) ≡ true
objects_there vars i refs all are =
    list_all-map (is_object_within (objects_of vars)) (object_meant vars i) refs
    ∙ all_weaker (is_ref vars true) (λ ref. is_object_within (objects_of vars) (object_meant vars i ref))
    (λ ref is. object_there vars i ref all is) refs are

task_there : (vars : List Var) (args : List ℤ) (stage : Stage) (i : ℕ) → list_all is_var vars ≡ true → HasShape vars stage
    → are_distinct (map (object_meant vars i) stage.writes) ≡ true
    → is_whole_task (objects_of vars) (task_with_args args (form_of vars stage i)) ≡ true
task_there vars args stage i all shape distinct =
    let counts = has_counts stage.func (length stage.params) (length stage.reads) (length stage.writes) in
    let reads = list_all (is_object_within (objects_of vars)) (map (object_meant vars i) stage.reads) in
    let writes = list_all (is_object_within (objects_of vars)) (map (object_meant vars i) stage.writes) in
    simp length-map (and_from (counts && reads && writes) (are_distinct (map (object_meant vars i) stage.writes))
    (and_from (counts && reads) writes (and_from counts reads shape.counts (objects_there vars i stage.reads all shape.reads))
    (objects_there vars i stage.writes all shape.writes)) distinct)

-- what a `do` runs fits the job: counts and objects
pub tasks_there : (job : Job) (block : ℕ) (args : List ℤ) → is_whole job ≡ true
    → list_all (is_whole_task (objects_of job.vars)) (block_tasks_of job block args) ≡ true
tasks_there job block args whole =
    let all = (vars_sizes job.vars (whole_vars job whole)).1 in
    let test = λ (form : TaskForm). is_whole_task (objects_of job.vars) (task_with_args args form) in
    list_all-map (is_whole_task (objects_of job.vars)) (task_with_args args) (block_forms_of job block)
    ∙ list_all-flat_map test (stage_forms job.vars) (has_shape job.vars)
    (λ stage is. list_all-map test (form_of job.vars stage) (range_with_len 0 (task_count job.vars stage))
    ∙ all_weaker (λ i. are_distinct (map (object_meant job.vars i) stage.writes)) (λ i. test (form_of job.vars stage i))
    (λ i. task_there job.vars args stage i all (shape_parts job.vars stage is)) (range_with_len 0 (task_count job.vars stage))
    (shape_parts job.vars stage is).distinct)
    (stages_of job block) (stages_at job.vars job.blocks block (whole_blocks job whole))

-- as many shapes as objects
pub length_shapes : (vars : List Var) → length (shapes_of vars) ≡ objects_of vars
length_shapes [] = refl
length_shapes (v ∷ vars) =
    omega (
      arith,
      length-append (replicate v.parts v.shape) (shapes_of vars),
      length-replicate v.parts v.shape,
      length_shapes vars,
      sum_by-cons
          (λ (w : Var). w.parts) v vars,
    )

-- each has a width
pub widths : (vars : List Var) → list_all is_var vars ≡ true → All (λ (s : Shape). 1 ≤ s.width) (shapes_of vars)
widths [] all = All-nil (λ (s : Shape). 1 ≤ s.width)
widths (v ∷ vars) all =
    let parts = and_parts (is_var v) (list_all is_var vars) all in
    All-append (λ (s : Shape). 1 ≤ s.width) (replicate v.parts v.shape) (shapes_of vars)
    (All-replicate (λ (s : Shape). 1 ≤ s.width) v.parts v.shape (var_sizes v parts.0).2) (widths vars parts.1)

first_few : (vars : List Var) (refs : List Ref) → list_all is_var vars ≡ true → list_all (is_ref vars true) refs ≡ true
    → option_map_or (λ (ref : Ref). parts_of vars ref.var) (slice_get refs 0) 0 ≤ 64
first_few vars [] all are = omega arith
first_few vars (ref ∷ refs) all are =
    (parts_there vars ref.var all (ref_there vars ref (and_parts (is_ref vars true ref) (list_all (is_ref vars true) refs) are).0)).1

-- a stage has at most as many tasks as a variable has parts
pub writes_few : (vars : List Var) (stage : Stage) → are_vars vars ≡ true → list_all (is_ref vars true) stage.writes ≡ true → task_count vars stage ≤ 64
writes_few vars stage are writes =
    cond_both stage.each (option_map_or (λ (ref : Ref). parts_of vars ref.var) (slice_get stage.writes 0) 0) 1 (λ count. count ≤ 64)
    (λ each. first_few vars stage.writes (vars_sizes vars are).1 writes) (λ once. omega arith)

pub tasks_few : (vars : List Var) (stage : Stage) → are_vars vars ≡ true → has_refs vars stage ≡ true → task_count vars stage ≤ 64
tasks_few vars stage are is = writes_few vars stage are (and_parts (list_all (is_ref vars true) stage.reads) (list_all (is_ref vars true) stage.writes) is).1

-- what the table of first objects needs at one more variable
pub objects_more : (vars : List Var) (i : ℕ) (v : Var) → i < length vars → v ≡ get_or vars i v
    → objects_of (take (i + 1) vars) ≡ objects_of (take i vars) + v.parts
objects_more vars i v within is = sum_by_more (λ (w : Var). w.parts) vars i v within ∙ ap (λ (w : Var). objects_of (take i vars) + w.parts) (sym is)

pub objects_some : (vars : List Var) (i : ℕ) → objects_of (take i vars) ≤ objects_of vars
objects_some vars i = omega (arith, sum_by-take-drop (λ (w : Var). w.parts) vars i)
