-- The stages of a printed job: they are read back, no rule refuses their lines, and they can be printed.
use Rattle.std.proofs.Common.{◌≡◌, ℕ, ◌+◌, ◌≤◌, ◌<◌, Bool, true, false, not, List, [], ◌∷◌, ◌++◌, length, map, refl, ap, ap₂, sym, subst, ◌∙◌, arith, suc, Option, None}
use Rattle.std.specs.Prelude.{◌&&◌, nat_le, nat_lt, ◌==◌, is_none, slice_index_or, unwrap_or}
use Rattle.std.specs.List.{list_all, list_any, sum_by}
use Rattle.std.proofs.lemmas.Bool.{and_from, and_parts, eqb-true, le-ltb, ltb-true, not_from_true}
use Rattle.std.proofs.lemmas.List.{append_assoc, get_or_default, length-map, map-append, map_push}
use Rattle.std.proofs.lemmas.List.Folds.{list_all-map}
use Rattle.std.proofs.lemmas.List.Sums.{sum_by-append}
use Rattle.nim_base.specs.declared.task.Func.{Func}
use Rattle.nim_base.specs.declared.task.Func.TheVariants as func
use Rattle.nim_base.specs.declared.task.Param.{Param}
use Rattle.nim_base.specs.declared.task.Param.TheVariants as param
use Rattle.nim_base.specs.Apply.{fewest_reads, has_counts, most_reads, params_of, result_count}
use Rattle.nim_job.specs.declared.block.Place.{Place}
use Rattle.nim_job.specs.declared.block.Place.TheVariants.{Fixed, Plus, Minus}
use Rattle.nim_job.specs.declared.block.Ref.{Ref as job_ref}
use Rattle.nim_job.specs.declared.block.Stage.{Stage as job_stage}
use Rattle.nim_job.specs.declared.job.Var.{Var as job_var}
use Rattle.nim_job.specs.Tasks.{task_count}
use Rattle.nim_job.specs.Whole.{has_distinct, is_param, is_place, is_ref, is_stage}
use Rattle.nim_parse.specs.declared.sections.Block.{Block}
use Rattle.nim_parse.specs.declared.sections.Ref.{Ref}
use Rattle.nim_parse.specs.declared.sections.Stage.{Stage}
use Rattle.nim_parse.specs.declared.sections.Var.{Var}
use Rattle.nim_check.specs.Made.{param_of, place_of, ref_of, stage_of, var_names, var_of}
use Rattle.nim_check.specs.Names.{Word, func_of, has_twice, is_in}
use Rattle.nim_check.specs.Refusals.{first_refusal}
use Rattle.nim_check.specs.Rules.{is_known, is_own, refs_of, rule_45, rule_46, rule_47, rule_48, rule_49, rule_50, rule_51, rule_of}
use Rattle.nim_check.specs.DriverPlaces.{at_stage, places_of_stages}
use Rattle.nim_printed.specs.Lines.{stages_numbered}
use Rattle.nim_printed.specs.Printer.{argument_name, func_name, index_for, param_for, ref_for, stages_for, var_name}
use Rattle.nim_printed.specs.Spelled as spelled
use Rattle.nim_printed.specs.Spelled.{is_unreserved}
use Rattle.nim_printed.specs.Trees as trees
use Rattle.nim_job.proofs.Lists.{list_all_item}
use Rattle.nim_printed.proofs.JobLists.{all_both, all_mapped, all_of_both, all_parts, and_five_parts, and_four_parts, and_from_four, map_back, no_rule, none_mapped, passes_on, sum_same}
use Rattle.nim_printed.proofs.JobNames.{arguments_free, arguments_once, first_names, func_back, func_free, in_at, name_free, name_in, name_place, once_fewer, place_at}
use Rattle.nim_printed.proofs.JobPlaces.{distinct_unloaded, turns_unloaded}
use Rattle.nim_printed.proofs.JobVars.{names_of_vars, unloaded_vars}

-- the names of a block's arguments
abbrev pub arguments : ℕ → List Word
arguments args = first_names argument_name args

-- the line of a stage
abbrev pub stage_for : List job_var → ℕ → job_stage → Stage
stage_for vars line stage = record {
  line = line;
  function = func_name stage.func;
  reads = map (ref_for vars) stage.reads;
  writes = map (ref_for vars) stage.writes;
  parameters = map param_for stage.params;
  each = stage.each;
}

-- ---- read back

place_back : (place : Place) → place_of (index_for place) ≡ place
place_back (Fixed n) = refl
place_back (Plus n) = refl
place_back (Minus n) = refl

ref_back : (vars : List job_var) (each : Bool) → has_twice (names_of_vars vars) ≡ false → (ref : job_ref) → is_ref vars each ref ≡ true
    → ref_of (names_of_vars vars) (ref_for vars ref) ≡ ref
ref_back vars each once ref is =
    let there : ref.var < length vars = ltb-true ref.var (length vars) (and_parts (nat_lt ref.var (length vars)) (is_place each ref.place) is).0 in
    ap₂ (λ (var : ℕ) (place : Place). record ref { var = var; place = place })
    (place_at (names_of_vars vars) ref.var once (omega (arith, length-map vars (λ (v : job_var). v.name)))) (place_back ref.place)

pub arguments_apart : (args : ℕ) → args ≤ 8 → has_twice (arguments args) ≡ false
arguments_apart args few = once_fewer argument_name 8 args few arguments_once

param_back : (args : ℕ) → args ≤ 8 → (p : Param) → is_param args p ≡ true → param_of (arguments args) (param_for p) ≡ p
param_back args few (param.Const number) is = refl
param_back args few (param.Arg a) is = ap param.Arg (name_place argument_name args a (ltb-true a args is) (arguments_apart args few))

-- what a whole stage gives
record IsWhole (vars : List job_var) (args : ℕ) (stage : job_stage) : Type 0 where
  pub counts : has_counts stage.func (length stage.params) (length stage.reads) (length stage.writes) ≡ true
  pub params : list_all (is_param args) stage.params ≡ true
  pub reads : list_all (is_ref vars stage.each) stage.reads ≡ true
  pub writes : list_all (is_ref vars stage.each) stage.writes ≡ true
  pub distinct : has_distinct vars stage ≡ true

whole_stage : (vars : List job_var) (args : ℕ) (stage : job_stage) → is_stage vars args stage ≡ true → IsWhole vars args stage
whole_stage vars args stage is =
    let parts = and_five_parts (has_counts stage.func (length stage.params) (length stage.reads) (length stage.writes)) (list_all (is_param args) stage.params)
    (list_all (is_ref vars stage.each) stage.reads) (list_all (is_ref vars stage.each) stage.writes) (has_distinct vars stage) is in
    record { counts = parts.0; params = parts.1; reads = parts.2; writes = parts.3; distinct = parts.4 }

func_is : (f : Func) → unwrap_or (func_of (func_name f)) func.Set ≡ f
func_is f = ap (λ (found : Option Func). unwrap_or found func.Set) (func_back f)

stage_back : (vars : List job_var) (args line : ℕ) (stage : job_stage) → has_twice (names_of_vars vars) ≡ false → args ≤ 8 → is_stage vars args stage ≡ true
    → stage_of (names_of_vars vars) (arguments args) (stage_for vars line stage) ≡ stage
stage_back vars args line stage once few is =
    let whole = whole_stage vars args stage is in
    let names = names_of_vars vars in
    let reads = map (ref_of names) (map (ref_for vars) stage.reads) in
    let writes = map (ref_of names) (map (ref_for vars) stage.writes) in
    let params = map (param_of (arguments args)) (map param_for stage.params) in
    ap (λ (f : Func). record stage { func = f; reads = reads; writes = writes; params = params }) (func_is stage.func)
    ∙ ap (λ (rs : List job_ref). record stage { reads = rs; writes = writes; params = params })
    (map_back (ref_for vars) (ref_of names) (is_ref vars stage.each) (ref_back vars stage.each once) stage.reads whole.reads)
    ∙ ap (λ (ws : List job_ref). record stage { writes = ws; params = params })
    (map_back (ref_for vars) (ref_of names) (is_ref vars stage.each) (ref_back vars stage.each once) stage.writes whole.writes)
    ∙ ap (λ (ps : List Param). record stage { params = ps }) (map_back param_for (param_of (arguments args)) (is_param args) (param_back args few) stage.params
    whole.params)

pub stages_back : (vars : List job_var) (args line : ℕ) (stages : List job_stage) → has_twice (names_of_vars vars) ≡ false → args ≤ 8
    → list_all (is_stage vars args) stages ≡ true
    → map (stage_of (names_of_vars vars) (arguments args)) (stages_for vars line stages) ≡ stages
stages_back vars args line [] once few all = refl
stages_back vars args line (stage ∷ stages) once few all =
    let parts = and_parts (is_stage vars args stage) (list_all (is_stage vars args) stages) all in
    ap₂ (λ (x : job_stage) (xs : List job_stage). x ∷ xs) (stage_back vars args line stage once few parts.0)
    (stages_back vars args (line + 1) stages once few parts.1)

-- ---- no rule refuses them

ref_in : (vars : List job_var) (each : Bool) (ref : job_ref) → is_ref vars each ref ≡ true → is_in (names_of_vars vars) (var_name vars ref.var) ≡ true
ref_in vars each ref is =
    let there : ref.var < length vars = ltb-true ref.var (length vars) (and_parts (nat_lt ref.var (length vars)) (is_place each ref.place) is).0 in
    in_at (names_of_vars vars) ref.var (omega (arith, length-map vars (λ (v : job_var). v.name)))

place_own : (place : Place) → is_place false place ≡ true → is_own (index_for place) ≡ false
place_own (Fixed n) is = refl
place_own (Plus n) is = sym is
place_own (Minus n) is = sym is

-- the task's own number stands in no reference of a stage without `each`
none_own : (vars : List job_var) (each : Bool) (refs : List job_ref) → list_all (is_ref vars each) refs ≡ true
    → (not each && list_any (λ (ref : Ref). is_own ref.index) (map (ref_for vars) refs)) ≡ false
none_own vars true refs are = refl
none_own vars false refs are =
    none_mapped (λ (ref : Ref). is_own ref.index) (ref_for vars) (is_ref vars false)
    (λ ref is. place_own ref.place (and_parts (nat_lt ref.var (length vars)) (is_place false ref.place) is).1) refs are

param_known : (args : ℕ) (p : Param) → is_param args p ≡ true → is_known (arguments args) (param_for p) ≡ true
param_known args (param.Const number) is = refl
param_known args (param.Arg a) is = name_in argument_name args a (ltb-true a args is)

-- what the rules ask of a stage
record IsSound (vars : List Var) (block : Block) (before : List Stage) (stage : Stage) : Type 0 where
  pub function : is_none (func_of stage.function) ≡ false
  pub counts : has_counts (unwrap_or (func_of stage.function) func.Set) (length stage.parameters) (length stage.reads) (length stage.writes) ≡ true
  pub variables : list_all (λ (ref : Ref). is_in (var_names vars) ref.name) (refs_of stage) ≡ true
  pub own : (not stage.each && list_any (λ (ref : Ref). is_own ref.index) (refs_of stage)) ≡ false
  pub distinct : has_distinct (map var_of vars) (stage_of (var_names vars) block.arguments stage) ≡ true
  pub known : list_all (is_known block.arguments) stage.parameters ≡ true
  pub tasks : sum_by (task_count (map var_of vars)) (map (stage_of (var_names vars) block.arguments) (before ++ stage ∷ [])) ≤ 1024

stage_passes : (vars : List Var) (block : Block) (before : List Stage) (stage : Stage) → IsSound vars block before stage
    → rule_of (at_stage vars block before stage) ≡ None
unfolding rule_of
stage_passes vars block before stage sound =
    let driver_place = at_stage vars block before stage in
    no_rule (rule_45 driver_place) 45 _ sound.function
    (no_rule (rule_46 driver_place) 46 _ (not_from_true (has_counts (unwrap_or (func_of stage.function) func.Set) (length stage.parameters) (length stage.reads)
    (length stage.writes)) sound.counts)
    (no_rule (rule_47 driver_place) 47 _ (not_from_true (list_all (λ (ref : Ref). is_in (var_names vars) ref.name) (refs_of stage)) sound.variables)
    (no_rule (rule_48 driver_place) 48 _ sound.own
    (no_rule (rule_49 driver_place) 49 _ (not_from_true (has_distinct (map var_of vars) (stage_of (var_names vars) block.arguments stage)) sound.distinct)
    (no_rule (rule_50 driver_place) 50 _ (not_from_true (list_all (is_known block.arguments) stage.parameters) sound.known)
    (no_rule (rule_51 driver_place) 51 _
    (le-ltb 1024 (sum_by (task_count (map var_of vars)) (map (stage_of (var_names vars) block.arguments) (before ++ stage ∷ [])))
    sound.tasks) refl))))))

-- what the variables before a block are
pub record AreThere (tree_vars : List Var) (vars : List job_var) : Type 0 where
  pub named : var_names tree_vars ≡ names_of_vars vars
  pub back : map var_of tree_vars ≡ unloaded_vars vars
  pub once : has_twice (names_of_vars vars) ≡ false

sound_stage : (tree_vars : List Var) (vars : List job_var) (block : Block) (args : ℕ) (before : List Stage) (done : List job_stage) (line : ℕ)
    (stage : job_stage) → AreThere tree_vars vars
    → block.arguments ≡ arguments args → args ≤ 8 → map (stage_of (var_names tree_vars) block.arguments) before ≡ done → is_stage vars args stage ≡ true
    → sum_by (task_count vars) (done ++ stage ∷ []) ≤ 1024 → IsSound tree_vars block before (stage_for vars line stage)
sound_stage tree_vars vars block args before done line stage there takes few is_done is total =
    let whole = whole_stage vars args stage is in
    let s = stage_for vars line stage in
    let counts = ap (λ (f : Func). has_counts f (length s.parameters) (length s.reads) (length s.writes)) (func_is stage.func)
    ∙ ap (λ (n : ℕ). has_counts stage.func n (length s.reads) (length s.writes)) (length-map stage.params param_for)
    ∙ ap₂ (λ (n m : ℕ). has_counts stage.func (length stage.params) n m) (length-map stage.reads (ref_for vars)) (length-map stage.writes (ref_for vars))
    ∙ whole.counts in
    let is_named = λ (ref : Ref). is_in (names_of_vars vars) ref.name in
    let back : stage_of (var_names tree_vars) block.arguments s ≡ stage =
    ap₂ (λ (names args : List Word). stage_of names args s) there.named takes ∙ stage_back vars args line stage there.once few is in
    let sums = ap (sum_by (task_count (map var_of tree_vars)))
    (map_push (stage_of (var_names tree_vars) block.arguments) before s ∙ ap₂ (λ (xs : List job_stage) (x : job_stage). xs ++ x ∷ []) is_done back)
    ∙ ap (λ (vs : List job_var). sum_by (task_count vs) (done ++ stage ∷ [])) there.back
    ∙ sum_same (task_count (unloaded_vars vars)) (task_count vars) (turns_unloaded vars) (done ++ stage ∷ []) in
    record {
      function = ap is_none (func_back stage.func);
      counts = counts;
      variables = ap (λ (names : List Word). list_all (λ (ref : Ref). is_in names ref.name) (refs_of s)) there.named
          ∙ all_both is_named s.reads s.writes (all_mapped is_named (ref_for vars) (is_ref vars stage.each) (ref_in vars stage.each) stage.reads whole.reads)
          (all_mapped is_named (ref_for vars) (is_ref vars stage.each) (ref_in vars stage.each) stage.writes whole.writes);
      own = ap (λ (refs : List Ref). not stage.each && list_any (λ (ref : Ref). is_own ref.index) refs)
          (sym (map-append (ref_for vars) stage.reads stage.writes))
          ∙ none_own vars stage.each (stage.reads ++ stage.writes) (all_both (is_ref vars stage.each) stage.reads stage.writes whole.reads whole.writes);
      distinct = ap₂ has_distinct there.back back ∙ distinct_unloaded vars stage ∙ whole.distinct;
      known = ap (λ (args : List Word). list_all (is_known args) s.parameters) takes
          ∙ all_mapped (is_known (arguments args)) param_for (is_param args) (param_known args) stage.params whole.params;
      tasks = subst (λ (n : ℕ). n ≤ 1024) (sym sums) total;
    }

pub stages_pass : (tree_vars : List Var) (vars : List job_var) (block : Block) (args : ℕ) (before : List Stage) (done stages : List job_stage) (line : ℕ)
    → AreThere tree_vars vars
    → block.arguments ≡ arguments args → args ≤ 8 → map (stage_of (var_names tree_vars) block.arguments) before ≡ done
    → list_all (is_stage vars args) stages ≡ true
    → sum_by (task_count vars) (done ++ stages) ≤ 1024 → first_refusal (places_of_stages tree_vars block before (stages_for vars line stages)) ≡ None
stages_pass tree_vars vars block args before done [] line there takes few is_done all total = refl
stages_pass tree_vars vars block args before done (stage ∷ stages) line there takes few is_done all total =
    let parts = and_parts (is_stage vars args stage) (list_all (is_stage vars args) stages) all in
    let s = stage_for vars line stage in
    let read = stage_of (var_names tree_vars) block.arguments in
    let back : read s ≡ stage =
    ap₂ (λ (names args : List Word). stage_of names args s) there.named takes ∙ stage_back vars args line stage there.once few parts.0 in
    let next : map read (before ++ s ∷ []) ≡ done ++ stage ∷ [] =
    map_push read before s ∙ ap₂ (λ (xs : List job_stage) (x : job_stage). xs ++ x ∷ []) is_done back in
    let total_next : sum_by (task_count vars) ((done ++ stage ∷ []) ++ stages) ≤ 1024 =
    subst (λ (xs : List job_stage). sum_by (task_count vars) xs ≤ 1024) (sym (append_assoc done (stage ∷ []) stages)) total in
    let total_here : sum_by (task_count vars) (done ++ stage ∷ []) ≤ 1024 =
    omega (arith, total_next, sum_by-append (task_count vars) (done ++ stage ∷ []) stages) in
    passes_on (at_stage tree_vars block before s) (places_of_stages tree_vars block (before ++ s ∷ []) (stages_for vars (line + 1) stages))
    (stage_passes tree_vars block before s (sound_stage tree_vars vars block args before done line stage there takes few is_done parts.0 total_here))
    (stages_pass tree_vars vars block args (before ++ s ∷ []) (done ++ stage ∷ []) stages (line + 1) there takes few next parts.1 total_next)

-- ---- they can be printed, and have their numbers

pub free_at : (names : List Word) (k : ℕ) → k < length names → list_all is_unreserved names ≡ true → is_unreserved (slice_index_or names k []) ≡ true
free_at names k there free = list_all_item is_unreserved names k (slice_index_or names k []) free there
    (get_or_default names k [] (slice_index_or names k []) there)

index_printed : (place : Place) → spelled.is_spelled_place place ≡ true → trees.is_index (index_for place) ≡ true
index_printed (Fixed n) is = is
index_printed (Plus n) is = is
index_printed (Minus n) is = is

ref_printed : (vars : List job_var) (each : Bool) → list_all is_unreserved (names_of_vars vars) ≡ true → (ref : job_ref) → is_ref vars each ref ≡ true
    → spelled.is_spelled_place ref.place ≡ true
    → trees.is_printable_ref (ref_for vars ref) ≡ true
ref_printed vars each free ref is place =
    let there : ref.var < length vars = ltb-true ref.var (length vars) (and_parts (nat_lt ref.var (length vars)) (is_place each ref.place) is).0 in
    and_from (is_unreserved (var_name vars ref.var)) (trees.is_index (index_for ref.place))
    (free_at (names_of_vars vars) ref.var (omega (arith, length-map vars (λ (v : job_var). v.name))) free) (index_printed ref.place place)

param_printed : (args : ℕ) → args ≤ 8 → (p : Param) → is_param args p ≡ true → spelled.is_spelled_param p ≡ true → trees.is_printable_atom (param_for p) ≡ true
param_printed args few (param.Const number) is int = int
param_printed args few (param.Arg a) is int =
    let there : a < args = ltb-true a args is in
    name_free argument_name 8 a (omega arith) arguments_free

writes_some : (f : Func) → 1 ≤ result_count f
writes_some func.Split = omega arith
writes_some f = omega arith

some_refs : (f : Func) (refs : List Ref) → (length refs == result_count f) ≡ true → list_all trees.is_printable_ref refs ≡ true → trees.is_some_refs refs ≡ true
some_refs f [] counts all = absurd (omega (arith, eqb-true 0 (result_count f) counts, writes_some f))
some_refs f (ref ∷ refs) counts all = all

all_refs : (vars : List job_var) (each : Bool) → list_all is_unreserved (names_of_vars vars) ≡ true → (refs : List job_ref)
    → list_all (is_ref vars each) refs ≡ true
    → list_all (λ (ref : job_ref). spelled.is_spelled_place ref.place) refs ≡ true → list_all trees.is_printable_ref (map (ref_for vars) refs) ≡ true
all_refs vars each free refs are places =
    list_all-map trees.is_printable_ref (ref_for vars) refs
    ∙ all_of_both (is_ref vars each) (λ (ref : job_ref). spelled.is_spelled_place ref.place) (λ ref. trees.is_printable_ref (ref_for vars ref))
    (ref_printed vars each free) refs
    are places

stage_printed : (vars : List job_var) (args line : ℕ) (stage : job_stage) → list_all is_unreserved (names_of_vars vars) ≡ true → args ≤ 8
    → is_stage vars args stage ≡ true → spelled.is_spelled_stage stage ≡ true
    → trees.is_printable_stage (stage_for vars line stage) ≡ true
stage_printed vars args line stage free few is spells =
    let whole = whole_stage vars args stage is in
    let s = stage_for vars line stage in
    let spelled_parts =
    and_parts (list_all (λ (ref : job_ref). spelled.is_spelled_place ref.place) (stage.reads ++ stage.writes))
    (list_all spelled.is_spelled_param stage.params) spells in
    let places = all_parts (λ (ref : job_ref). spelled.is_spelled_place ref.place) stage.reads stage.writes spelled_parts.0 in
    let counts = and_four_parts (length stage.params == params_of stage.func) (nat_le (fewest_reads stage.func) (length stage.reads))
    (nat_le (length stage.reads) (most_reads stage.func))
    (length stage.writes == result_count stage.func) whole.counts in
    let written : (length s.writes == result_count stage.func) ≡ true =
    ap (λ (n : ℕ). n == result_count stage.func) (length-map stage.writes (ref_for vars)) ∙ counts.3 in
    and_from_four (is_unreserved (func_name stage.func)) (list_all trees.is_printable_ref s.reads) (trees.is_some_refs s.writes)
    (list_all trees.is_printable_atom s.parameters)
    (func_free stage.func)
    (all_refs vars stage.each free stage.reads whole.reads places.0)
    (some_refs stage.func s.writes written (all_refs vars stage.each free stage.writes whole.writes places.1))
    (list_all-map trees.is_printable_atom param_for stage.params
    ∙ all_of_both (is_param args) spelled.is_spelled_param (λ p. trees.is_printable_atom (param_for p))
    (param_printed args few) stage.params whole.params spelled_parts.1)

pub stages_printed : (vars : List job_var) (args line : ℕ) (stages : List job_stage) → list_all is_unreserved (names_of_vars vars) ≡ true → args ≤ 8
    → list_all (is_stage vars args) stages ≡ true
    → list_all spelled.is_spelled_stage stages ≡ true → list_all trees.is_printable_stage (stages_for vars line stages) ≡ true
stages_printed vars args line [] free few all spells = refl
stages_printed vars args line (stage ∷ stages) free few all spells =
    let parts = and_parts (is_stage vars args stage) (list_all (is_stage vars args) stages) all in
    let spelled_parts = and_parts (spelled.is_spelled_stage stage) (list_all spelled.is_spelled_stage stages) spells in
    and_from (trees.is_printable_stage (stage_for vars line stage)) (list_all trees.is_printable_stage (stages_for vars (line + 1) stages))
    (stage_printed vars args line stage free few parts.0 spelled_parts.0) (stages_printed vars args (line + 1) stages free few parts.1 spelled_parts.1)

pub stages_at_lines : (vars : List job_var) (line : ℕ) (stages : List job_stage)
    → stages_numbered line (stages_for vars line stages) ≡ stages_for vars line stages
stages_at_lines vars line [] = refl
stages_at_lines vars line (stage ∷ stages) = ap (λ (rest : List Stage). stage_for vars line stage ∷ rest) (stages_at_lines vars (line + 1) stages)

pub stages_length : (vars : List job_var) (line : ℕ) (stages : List job_stage) → length (stages_for vars line stages) ≡ length stages
stages_length vars line [] = refl
stages_length vars line (stage ∷ stages) = ap suc (stages_length vars (line + 1) stages)
