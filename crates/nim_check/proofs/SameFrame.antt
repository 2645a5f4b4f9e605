-- What loaded data leave as it was: the parts and shapes of variables, and so what makes a job checked.
use Rattle.std.proofs.Common.{◌≡◌, ℕ, zero, suc, ◌+◌, Bool, ◌&&◌, List, [], ◌∷◌, length, take, map, refl, sym, ap, ap₂, ◌∙◌, None, Some, Option}
use Rattle.std.specs.Prelude.{nat_le, nat_lt, slice_get, is_some, if◌then◌else◌}
use Rattle.std.specs.List.{list_all, range_with_len, sum_by}
use Rattle.std.specs.Option.{option_map_or}
use Rattle.std.proofs.Math.Path.{fun_ext}
use Rattle.std.proofs.lemmas.List.Sums.{sum_by-cons}
use Rattle.nim_base.specs.declared.number.Object.{Object}
use Rattle.nim_base.specs.Apply.{has_counts}
use Rattle.nim_base.specs.Value.{Grid}
use Rattle.nim_job.specs.declared.block.Block.{Block}
use Rattle.nim_job.specs.declared.block.Ref.{Ref}
use Rattle.nim_job.specs.declared.block.Stage.{Stage}
use Rattle.nim_job.specs.declared.job.Job.{Job}
use Rattle.nim_job.specs.declared.job.Var.{Var}
use Rattle.nim_job.specs.declared.stmt.Stmt.{fold-Stmt}
use Rattle.nim_job.specs.declared.stmt.Stmt.TheOpen.{Stmt-F}
use Rattle.nim_job.specs.Objects.{objects_of, parts_of}
use Rattle.nim_job.specs.Tasks.{object_meant, part_of, task_count}
use Rattle.nim_job.specs.Whole.{Scan, are_distinct, are_vars, cells_in, is_between, is_whole_block, is_checked, is_param, is_place, is_ref, set_at, is_stage, is_var, scalars_set, scan_all, scan_stmt}
use Rattle.nim_check.specs.Loading.{with_values_loaded, given_by, holding, values_left}

-- ---- variables

-- what doesn't read a variable's values
abbrev Keeps : {A : Type 0} → (Var → A) → Type 0
Keeps f = (v : Var) (var_parts : Option (List Grid)) → f (holding v var_parts) ≡ f v

keeps_parts : Keeps (λ v. v.parts)
keeps_parts v None = refl
keeps_parts v (Some values) = refl

keeps_cells : Keeps cells_in
keeps_cells v None = refl
keeps_cells v (Some values) = refl

keeps_var : Keeps is_var
keeps_var v None = refl
keeps_var v (Some values) = refl

same_length : (vars : List Var) (values : List Grid) → length (with_values_loaded vars values) ≡ length vars
same_length [] values = refl
same_length (v ∷ vars) values = ap (λ (n : ℕ). suc n) (same_length vars (values_left v values))

same_sum : (f : Var → ℕ) → Keeps f → (vars : List Var) (values : List Grid) → sum_by f (with_values_loaded vars values) ≡ sum_by f vars
same_sum f keeps [] values = refl
same_sum f keeps (v ∷ vars) values =
    sum_by-cons f (holding v (given_by v values)) (with_values_loaded vars (values_left v values))
    ∙ ap₂ (λ (n m : ℕ). n + m) (keeps v (given_by v values)) (same_sum f keeps vars (values_left v values))
    ∙ sym (sum_by-cons f v vars)

same_sum_before : (f : Var → ℕ) → Keeps f → (vars : List Var) (values : List Grid) (k : ℕ)
    → sum_by f (take k (with_values_loaded vars values)) ≡ sum_by f (take k vars)
same_sum_before f keeps vars values zero = refl
same_sum_before f keeps [] values (suc k) = refl
same_sum_before f keeps (v ∷ vars) values (suc k) =
    sum_by-cons f (holding v (given_by v values)) (take k (with_values_loaded vars (values_left v values)))
    ∙ ap₂ (λ (n m : ℕ). n + m) (keeps v (given_by v values)) (same_sum_before f keeps vars (values_left v values) k)
    ∙ sym (sum_by-cons f v (take k vars))

same_all : (p : Var → Bool) → Keeps p → (vars : List Var) (values : List Grid) → list_all p (with_values_loaded vars values) ≡ list_all p vars
same_all p keeps [] values = refl
same_all p keeps (v ∷ vars) values = ap₂ (λ (a b : Bool). a && b) (keeps v (given_by v values)) (same_all p keeps vars (values_left v values))

same_parts : (vars : List Var) (values : List Grid) (k : ℕ) → parts_of (with_values_loaded vars values) k ≡ parts_of vars k
same_parts [] values k = refl
same_parts (v ∷ vars) values zero = keeps_parts v (given_by v values)
same_parts (v ∷ vars) values (suc k) = same_parts vars (values_left v values) k

-- ---- limits

abbrev vars_by : ℕ → ℕ → ℕ → Bool → Bool
vars_by count objects cells all = nat_le count 32 && nat_le objects 512 && nat_le cells 1048576 && all

same_vars : (vars : List Var) (values : List Grid) → are_vars (with_values_loaded vars values) ≡ are_vars vars
same_vars vars values =
    ap (λ (n : ℕ). vars_by n (objects_of (with_values_loaded vars values)) (sum_by cells_in (with_values_loaded vars values))
    (list_all is_var (with_values_loaded vars values)))
    (same_length vars values)
    ∙ ap (λ (n : ℕ). vars_by (length vars) n (sum_by cells_in (with_values_loaded vars values)) (list_all is_var (with_values_loaded vars values)))
    (same_sum (λ (v : Var). v.parts) keeps_parts vars values)
    ∙ ap (λ (n : ℕ). vars_by (length vars) (objects_of vars) n (list_all is_var (with_values_loaded vars values))) (same_sum cells_in keeps_cells vars values)
    ∙ ap (λ (all : Bool). vars_by (length vars) (objects_of vars) (sum_by cells_in vars) all) (same_all is_var keeps_var vars values)

-- ---- blocks

same_object : (vars : List Var) (values : List Grid) → object_meant (with_values_loaded vars values) ≡ object_meant vars
same_object vars values = fun_ext (λ i. fun_ext (λ ref.
    ap₂ (λ (first parts : ℕ). record { 0 = first + part_of ref.place i parts }) (same_sum_before (λ (v : Var). v.parts) keeps_parts vars values ref.var)
    (same_parts vars values ref.var)))

same_turns : (vars : List Var) (values : List Grid) → task_count (with_values_loaded vars values) ≡ task_count vars
same_turns vars values = fun_ext (λ stage.
    ap (λ (parts : ℕ → ℕ). if stage.each then option_map_or (λ ref. parts ref.var) (slice_get stage.writes 0) 0 else 1) (fun_ext (same_parts vars values)))

same_ref : (vars : List Var) (values : List Grid) → is_ref (with_values_loaded vars values) ≡ is_ref vars
same_ref vars values = fun_ext (λ each. fun_ext (λ ref. ap (λ (n : ℕ). nat_lt ref.var n && is_place each ref.place) (same_length vars values)))

abbrev stage_by : (Bool → Ref → Bool) → (ℕ → Ref → Object) → (Stage → ℕ) → ℕ → Stage → Bool
stage_by is object turns args stage = has_counts stage.func (length stage.params) (length stage.reads) (length stage.writes)
    && list_all (is_param args) stage.params && list_all (is stage.each) stage.reads && list_all (is stage.each) stage.writes
    && list_all (λ i. are_distinct (map (object i) stage.writes)) (range_with_len 0 (turns stage))

same_stage : (vars : List Var) (values : List Grid) → is_stage (with_values_loaded vars values) ≡ is_stage vars
same_stage vars values = fun_ext (λ args. fun_ext (λ stage.
    ap (λ (is : Bool → Ref → Bool). stage_by is (object_meant (with_values_loaded vars values)) (task_count (with_values_loaded vars values)) args stage)
    (same_ref vars values)
    ∙ ap (λ (object : ℕ → Ref → Object). stage_by (is_ref vars) object (task_count (with_values_loaded vars values)) args stage) (same_object vars values)
    ∙ ap (λ (turns : Stage → ℕ). stage_by (is_ref vars) (object_meant vars) turns args stage) (same_turns vars values)))

abbrev block_by : (Stage → ℕ) → (ℕ → Stage → Bool) → Block → Bool
block_by turns is block = nat_le block.args 8 && nat_le (sum_by turns block.stages) 1024 && list_all (is block.args) block.stages

same_block : (vars : List Var) (values : List Grid) → is_whole_block (with_values_loaded vars values) ≡ is_whole_block vars
same_block vars values = fun_ext (λ block.
    ap (λ (turns : Stage → ℕ). block_by turns (is_stage (with_values_loaded vars values)) block) (same_turns vars values)
    ∙ ap (λ (is : ℕ → Stage → Bool). block_by (task_count vars) is block) (same_stage vars values))

-- ---- statements

same_scan_at : (job : Job) (vars : List Var) → length vars ≡ length job.vars
    → (stmt : Stmt-F Scan) (depth scalars : ℕ) → scan_stmt (record job { vars = vars }) stmt depth scalars ≡ scan_stmt job stmt depth scalars
same_scan_at job vars many (Stmt-F.Do block args) depth scalars = refl
same_scan_at job vars many (Stmt-F.Let s first rest) depth scalars = refl
same_scan_at job vars many (Stmt-F.Get s var part row cell) depth scalars = ap (λ (n : ℕ). if nat_lt var n then set_at scalars s else None) many
same_scan_at job vars many (Stmt-F.Loop turns body) depth scalars = refl
same_scan_at job vars many (Stmt-F.While cond body) depth scalars = refl
same_scan_at job vars many (Stmt-F.If cond first second) depth scalars = refl
same_scan_at job vars many Stmt-F.Checkpoint depth scalars = refl
same_scan_at job vars many (Stmt-F.Output var) depth scalars = ap (λ (n : ℕ). if nat_lt var n then Some scalars else None) many

same_scalars : (job : Job) (vars : List Var) → length vars ≡ length job.vars → scalars_set (record job { vars = vars }) ≡ scalars_set job
same_scalars job vars many =
    ap (λ (scan : Stmt-F Scan → Scan). scan_all (map (fold-Stmt Scan scan) job.body) 0 0)
    (fun_ext (λ stmt. fun_ext (λ depth. fun_ext (λ scalars. same_scan_at job vars many stmt depth scalars))))

-- ---- jobs

abbrev checked_by : Job → Bool → (Block → Bool) → Option ℕ → Bool
checked_by job are is scalars = is_between 1 1000000 job.steps && are && nat_le (length job.blocks) 32 && list_all is job.blocks && is_some scalars

pub same_checked : (job : Job) (values : List Grid) → is_checked (record job { vars = with_values_loaded job.vars values }) ≡ is_checked job
same_checked job values =
    ap (λ (are : Bool). checked_by job are (is_whole_block (with_values_loaded job.vars values))
    (scalars_set (record job { vars = with_values_loaded job.vars values })))
    (same_vars job.vars values)
    ∙ ap (λ (is : Block → Bool). checked_by job (are_vars job.vars) is (scalars_set (record job { vars = with_values_loaded job.vars values })))
    (same_block job.vars values)
    ∙ ap (λ (scalars : Option ℕ). checked_by job (are_vars job.vars) (is_whole_block job.vars) scalars)
    (same_scalars job (with_values_loaded job.vars values) (same_length job.vars values))
