-- The variables of a printed job: they are read back, no rule refuses their lines, and they can be printed.
use Rattle.std.proofs.Common.{◌≡◌, ℕ, ◌+◌, ◌≤◌, suc, true, false, List, [], ◌∷◌, ◌++◌, length, map, refl, ap, ap₂, sym, ◌∙◌, arith, None}
use Rattle.std.specs.List.{list_all, sum_by}
use Rattle.std.proofs.lemmas.Bool.{and_from, and_parts, le-leb, not_from_true, or_from}
use Rattle.std.proofs.lemmas.Bool.Decides.{nat_tests}
use Rattle.std.proofs.lemmas.List.{append_assoc, length-append, length-map, map_push}
use Rattle.std.proofs.lemmas.List.Folds.{fold-map}
use Rattle.std.proofs.lemmas.List.Sums.{sum_by-append}
use Rattle.nim_job.specs.declared.job.Init.{Init as job_init}
use Rattle.nim_job.specs.declared.job.Init.TheVariants as init
use Rattle.nim_job.specs.declared.job.Var.{Var as job_var}
use Rattle.nim_job.specs.Objects.{objects_of}
use Rattle.nim_job.specs.Whole.{cells_in, is_var}
use Rattle.nim_parse.specs.declared.sections.Var.{Var}
use Rattle.nim_check.specs.Made.{init_of, var_names, var_of}
use Rattle.nim_check.specs.Names.{Word, has_twice, is_in, reserved}
use Rattle.nim_check.specs.Refusals.{first_refusal}
use Rattle.nim_check.specs.Rules.{are_few, rule_41, rule_42, rule_43, rule_44, rule_of}
use Rattle.nim_check.specs.DriverPlaces.{at_var, places_of_vars}
use Rattle.nim_printed.specs.Lines.{vars_numbered}
use Rattle.nim_printed.specs.Printer.{init_for, vars_for}
use Rattle.nim_printed.specs.Spelled.{is_unreserved, is_spelled_init, is_small, without_data}
use Rattle.nim_printed.specs.Trees as trees
use Rattle.nim_base.proofs.Lists.{and_from_five}
use Rattle.nim_printed.proofs.JobLists.{no_rule, passes_on}
use Rattle.nim_printed.proofs.JobNames.{apart, not_reserved, text_same}

abbrev pub without : job_var → job_var
without v = record v { init = without_data v.init }

abbrev pub unloaded_vars : List job_var → List job_var
unloaded_vars vars = map without vars

abbrev pub names_of_vars : List job_var → List Word
names_of_vars vars = map (λ (v : job_var). v.name) vars

-- the line of a variable
abbrev pub var_for : ℕ → job_var → Var
var_for line v = record { line = line; name = v.name; parts = v.parts; width = v.shape.width; rows = v.shape.rows; init = init_for v.init }

-- ---- read back

init_back : (i : job_init) → init_of (init_for i) ≡ without_data i
init_back (init.Fill number) = refl
init_back init.Iota = refl
init_back (init.Loaded values) = refl

var_back : (line : ℕ) (v : job_var) → is_unreserved v.name ≡ true → var_of (var_for line v) ≡ without v
var_back line v free = ap₂ (λ (name : Word) (i : job_init). record v { name = name; init = i }) (text_same v.name free) (init_back v.init)

pub vars_back : (line : ℕ) (vars : List job_var) → list_all is_unreserved (names_of_vars vars) ≡ true → map var_of (vars_for line vars) ≡ unloaded_vars vars
vars_back line [] free = refl
vars_back line (v ∷ vars) free =
    let parts = and_parts (is_unreserved v.name) (list_all is_unreserved (names_of_vars vars)) free in
    ap₂ (λ (x : job_var) (xs : List job_var). x ∷ xs) (var_back line v parts.0) (vars_back (line + 1) vars parts.1)

pub vars_named : (line : ℕ) (vars : List job_var) → var_names (vars_for line vars) ≡ names_of_vars vars
vars_named line [] = refl
vars_named line (v ∷ vars) = ap (λ (names : List Word). v.name ∷ names) (vars_named (line + 1) vars)

-- ---- how many there may be

few_parts : (vars : List job_var) → are_few vars ≡ true → (length vars ≤ 32) × (objects_of vars ≤ 512) × (sum_by cells_in vars ≤ 1048576)
few_parts vars few = grind (arith, nat_tests)

few_from : (vars : List job_var) → length vars ≤ 32 → objects_of vars ≤ 512 → sum_by cells_in vars ≤ 1048576 → are_few vars ≡ true
few_from vars number objects cells = grind (arith, nat_tests)

few_front : (xs ys : List job_var) → are_few (xs ++ ys) ≡ true → are_few xs ≡ true
few_front xs ys few =
    let parts = few_parts (xs ++ ys) few in
    few_from xs (omega (arith, parts.0, length-append xs ys)) (omega (arith, parts.1, sum_by-append (λ (v : job_var). v.parts) xs ys))
    (omega (arith, parts.2, sum_by-append cells_in xs ys))

pub objects_unloaded : (vars : List job_var) → objects_of (unloaded_vars vars) ≡ objects_of vars
objects_unloaded vars = fold-map (λ (a : ℕ) (v : job_var). a + v.parts) without 0 vars

few_unloaded : (vars : List job_var) → are_few vars ≡ true → are_few (unloaded_vars vars) ≡ true
few_unloaded vars few =
    let parts = few_parts vars few in
    few_from (unloaded_vars vars) (omega (arith, parts.0, length-map vars without)) (omega (arith, parts.1, objects_unloaded vars))
    (omega (arith, parts.2, fold-map (λ (a : ℕ) (v : job_var). a + cells_in v) without 0 vars))

-- ---- no rule refuses them

var_passes : (before : List Var) (v : Var) → is_in reserved v.name ≡ false → is_in (var_names before) v.name ≡ false → is_var (var_of v) ≡ true
    → are_few (map var_of (before ++ v ∷ [])) ≡ true → rule_of (at_var before v) ≡ None
unfolding rule_of
var_passes before v free new sized few =
    no_rule (rule_41 (at_var before v)) 41 _ (or_from (is_in reserved v.name) false free refl)
    (no_rule (rule_42 (at_var before v)) 42 _ new
    (no_rule (rule_43 (at_var before v)) 43 _ (not_from_true (is_var (var_of v)) sized)
    (no_rule (rule_44 (at_var before v)) 44 _ (not_from_true (are_few (map var_of (before ++ v ∷ []))) few) refl)))

pub vars_pass : (before : List Var) (done vars : List job_var) (line : ℕ) → var_names before ≡ names_of_vars done → map var_of before ≡ unloaded_vars done
    → list_all is_unreserved (names_of_vars vars) ≡ true → has_twice (names_of_vars done ++ names_of_vars vars) ≡ false → list_all is_var vars ≡ true
    → are_few (done ++ vars) ≡ true
    → first_refusal (places_of_vars before (vars_for line vars)) ≡ None
vars_pass before done [] line named back free once sized few = refl
vars_pass before done (v ∷ vars) line named back free once sized few =
    let w = var_for line v in
    let frees = and_parts (is_unreserved v.name) (list_all is_unreserved (names_of_vars vars)) free in
    let sizes = and_parts (is_var v) (list_all is_var vars) sized in
    let pushed : names_of_vars (done ++ v ∷ []) ≡ names_of_vars done ++ v.name ∷ [] = map_push (λ (x : job_var). x.name) done v in
    let named_next : var_names (before ++ w ∷ []) ≡ names_of_vars (done ++ v ∷ []) =
    map_push (λ (x : Var). x.name) before w ∙ ap (λ (names : List Word). names ++ v.name ∷ []) named ∙ sym pushed in
    let back_next : map var_of (before ++ w ∷ []) ≡ unloaded_vars (done ++ v ∷ []) =
    map_push var_of before w ∙ ap₂ (λ (xs : List job_var) (x : job_var). xs ++ x ∷ []) back (var_back line v frees.0) ∙ sym (map_push without done v) in
    let few_next : are_few ((done ++ v ∷ []) ++ vars) ≡ true = ap are_few (append_assoc done (v ∷ []) vars) ∙ few in
    let once_next : has_twice (names_of_vars (done ++ v ∷ []) ++ names_of_vars vars) ≡ false =
    ap (λ (names : List Word). has_twice (names ++ names_of_vars vars)) pushed
    ∙ ap has_twice (append_assoc (names_of_vars done) (v.name ∷ []) (names_of_vars vars)) ∙ once in
    passes_on (at_var before w) (places_of_vars (before ++ w ∷ []) (vars_for (line + 1) vars))
    (var_passes before w (not_reserved v.name frees.0) (ap (λ (names : List Word). is_in names v.name) named
    ∙ apart (names_of_vars done) v.name (names_of_vars vars) once)
    (ap is_var (var_back line v frees.0) ∙ sizes.0) (ap are_few back_next ∙ few_unloaded (done ++ v ∷ []) (few_front (done ++ v ∷ []) vars few_next)))
    (vars_pass (before ++ w ∷ []) (done ++ v ∷ []) vars (line + 1) named_next back_next frees.1 once_next sizes.1 few_next)

-- ---- they can be printed, and have their numbers

init_printed : (i : job_init) → is_spelled_init i ≡ true → trees.is_printable_init (init_for i) ≡ true
init_printed (init.Fill number) is = is
init_printed init.Iota is = refl
init_printed (init.Loaded values) is = refl

sizes_small : (v : job_var) → is_var v ≡ true → (v.parts ≤ 64) × (v.shape.width ≤ 65536) × (v.shape.rows ≤ 65536)
sizes_small v is = grind (arith, nat_tests)

pub small : (n : ℕ) → n ≤ 1000000 → is_small n ≡ true
small n few = le-leb n 9223372036854775808 (omega arith)

pub vars_printed : (line : ℕ) (vars : List job_var) → list_all is_unreserved (names_of_vars vars) ≡ true → list_all is_var vars ≡ true
    → list_all (λ (v : job_var). is_spelled_init v.init) vars ≡ true
    → list_all trees.is_printable_var (vars_for line vars) ≡ true
vars_printed line [] free sized inits = refl
vars_printed line (v ∷ vars) free sized inits =
    let frees = and_parts (is_unreserved v.name) (list_all is_unreserved (names_of_vars vars)) free in
    let sizes = and_parts (is_var v) (list_all is_var vars) sized in
    let spelled = and_parts (is_spelled_init v.init) (list_all (λ (w : job_var). is_spelled_init w.init) vars) inits in
    let few = sizes_small v sizes.0 in
    and_from (trees.is_printable_var (var_for line v)) (list_all trees.is_printable_var (vars_for (line + 1) vars))
    (and_from_five (is_unreserved v.name) (is_small v.parts) (is_small v.shape.width) (is_small v.shape.rows) (trees.is_printable_init (init_for v.init))
    frees.0
    (small v.parts (omega (arith, few.0))) (small v.shape.width (omega (arith, few.1))) (small v.shape.rows (omega (arith, few.2)))
    (init_printed v.init spelled.0))
    (vars_printed (line + 1) vars frees.1 sizes.1 spelled.1)

pub vars_at_lines : (line : ℕ) (vars : List job_var) → vars_numbered line (vars_for line vars) ≡ vars_for line vars
vars_at_lines line [] = refl
vars_at_lines line (v ∷ vars) = ap (λ (rest : List Var). var_for line v ∷ rest) (vars_at_lines (line + 1) vars)

pub vars_length : (line : ℕ) (vars : List job_var) → length (vars_for line vars) ≡ length vars
vars_length line [] = refl
vars_length line (v ∷ vars) = ap suc (vars_length (line + 1) vars)
