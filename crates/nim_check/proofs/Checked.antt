-- The statements of a driver that no rule refuses are whole: from the last line on, the bodies that aren't opened yet can be
-- scanned.
use Rattle.std.proofs.Common.{◌≡◌, ◌∙◌, ℕ, ◌≤◌, cond, Bool, true, false, List, [], ◌∷◌, length, map, refl, ap, sym, subst, arith, None, Some}
use Rattle.std.specs.Prelude.{Option, nat_le, nat_lt, not, ◌&&◌, ◌==◌, is_some, slice_get}
use Rattle.std.specs.List.{list_all}
use Rattle.std.specs.Option.{option_and_then, option_map, option_map_or, option_or}
use Rattle.std.proofs.lemmas.Bool.{and_from}
use Rattle.std.proofs.lemmas.Bool.Decides.{nat_tests}
use Rattle.std.proofs.lemmas.List.{length-map}
use Rattle.std.proofs.lemmas.Option.{slice_get-map}
use Rattle.nim_lex.specs.declared.fault.Refusal.{Refusal}
use Rattle.nim_lex.proofs.Refusals.{later, passes}
use Rattle.nim_job.specs.declared.block.Block.{Block as job_block}
use Rattle.nim_job.specs.declared.job.Job.{Job}
use Rattle.nim_job.specs.declared.stmt.Stmt.{Stmt}
use Rattle.nim_job.specs.declared.stmt.Stmt.TheVariants as stmt
use Rattle.nim_job.specs.Whole.{are_vars, is_atom, is_between, is_whole_block, is_call, is_checked, scan_all, scan_of, scalars_set}
use Rattle.nim_parse.specs.declared.nest.Open.{Open}
use Rattle.nim_parse.specs.declared.nest.Open.TheVariants as opening
use Rattle.nim_parse.specs.declared.sections.Atom.{Atom}
use Rattle.nim_parse.specs.declared.sections.Block.{Block}
use Rattle.nim_parse.specs.declared.sections.Line.{Line}
use Rattle.nim_parse.specs.declared.sections.Statement.{Statement}
use Rattle.nim_parse.specs.declared.sections.Statement.TheVariants.{Do, Let, Get, Loop, While, If, Else, End, Checkpoint, Output}
use Rattle.nim_parse.specs.declared.sections.Sections.{Sections}
use Rattle.nim_parse.specs.Nesting.{may_stand, nested, open_after}
use Rattle.nim_check.specs.declared.body.Names.{Names}
use Rattle.nim_check.specs.declared.scope.Scope.{Scope}
use Rattle.nim_check.specs.Body.{Body, atom_of, bodies_of, body_of, cond_of, first_body, first_of, no_body, rest_of, with_line}
use Rattle.nim_check.specs.Made.{block_names, block_of, var_names}
use Rattle.nim_check.specs.Names.{Word, place_in}
use Rattle.nim_check.specs.Refusals.{first_refusal}
use Rattle.nim_check.specs.Rules.{has_block, has_variable, is_known, opens, read_by, rule_41, rule_44, rule_47, rule_52, rule_53, rule_54, rule_of}
use Rattle.nim_check.specs.DriverPlaces.{at_statement, empty_scope, places_of_statements, scope_of, scope_with}
use Rattle.nim_base.proofs.Lists.{and_from_five}
use Rattle.nim_check.proofs.Counts.{Begins, known_atoms, known_cond, known_value, one_known, read_begins, set_begins, sets}
use Rattle.nim_check.proofs.Scanned.{Fits, checkpoint_scan, do_scan, else_fits, else_scan, end_fits, get_scan, if_bodies, if_scan, let_scan, loop_scan, no_second, opened_fits, output_scan, put_fits, put_scan, scan_bodies, turns_scan, while_scan}

-- ---- one line

-- a job that has a tree's variables and blocks
pub record Ties (tree : Sections) (job : Job) : Type 0 where
  pub vars : length job.vars ≡ length (var_names tree.vars)
  pub blocks : job.blocks ≡ map (block_of (var_names tree.vars)) tree.blocks

abbrev pub names_for : Sections → List Word → Names
names_for tree all = record { vars = var_names tree.vars; blocks = block_names tree.blocks; scalars = all }

-- what the rules leave of a statement
record Sound (tree : Sections) (scope : Scope) (s : Statement) : Type 0 where
  pub few : nat_lt 64 (length (scope_with scope s).scalars) ≡ false
  pub named : has_variable (var_names tree.vars) s ≡ true
  pub called : has_block tree.blocks s ≡ true
  pub set : list_all (is_known scope.scalars) (read_by s) ≡ true
  pub deep : (opens s && nat_le 16 scope.depth) ≡ false

not_false : (b : Bool) → not b ≡ false → b ≡ true
not_false true h = refl
not_false false h = cc

sound : (tree : Sections) (scope : Scope) (line : Line) → rule_of (at_statement tree scope line) ≡ None → Sound tree scope line.statement
unfolding rule_of
sound tree scope line h =
    let place = at_statement tree scope line in
    let a = later (rule_41 place) 41 _ h in
    let b = later (rule_44 place) 44 _ a in
    let d = later (rule_47 place) 47 _ b in
    let e = later (rule_52 place) 52 _ d in
    let f = later (rule_53 place) 53 _ e in
    record {
      few = passes (rule_44 place) 44 _ a;
      named = not_false _ (passes (rule_47 place) 47 _ b);
      called = not_false _ (passes (rule_52 place) 52 _ d);
      set = not_false _ (passes (rule_53 place) 53 _ e);
      deep = passes (rule_54 place) 54 _ f;
    }

shallow : (depth d n : ℕ) → depth ≡ n → d ≡ n → nat_le 16 depth ≡ false → nat_lt d 16 ≡ true
shallow depth d n is there not_deep = grind (arith, nat_tests)

args_of : (vars : List Word) (n : ℕ) (o : Option Block) → option_map_or (λ (b : job_block). n == b.args) (option_map (block_of vars) o) false
    ≡ option_map_or (λ (b : Block). n == length b.arguments) o false
args_of vars n None = refl
args_of vars n (Some b) = refl

called_there : (tree : Sections) (job : Job) (names : Names) (block : Word) (atoms : List Atom) → Ties tree job → has_block tree.blocks (Do block atoms) ≡ true
    → is_call job (place_in (block_names tree.blocks) block) (length (map (atom_of names) atoms)) ≡ true
called_there tree job names block atoms ties is =
    let p = place_in (block_names tree.blocks) block in
    ap (λ n. is_call job p n) (length-map atoms (atom_of names))
    ∙ ap (λ (bs : List job_block). option_map_or (λ (b : job_block). length atoms == b.args) (slice_get bs p) false) ties.blocks
    ∙ ap (λ (o : Option job_block). option_map_or (λ (b : job_block). length atoms == b.args) o false)
    (slice_get-map (block_of (var_names tree.vars)) tree.blocks p)
    ∙ args_of (var_names tree.vars) (length atoms) (slice_get tree.blocks p)
    ∙ is

var_there : (tree : Sections) (job : Job) (w : Word) → Ties tree job → nat_lt (place_in (var_names tree.vars) w) (length (var_names tree.vars)) ≡ true
    → nat_lt (place_in (var_names tree.vars) w) (length job.vars) ≡ true
var_there tree job w ties is = ap (λ n. nat_lt (place_in (var_names tree.vars) w) n) ties.vars ∙ is

step_fits : (names : Names) (os : List Open) (s : Statement) (bs : List Body) → may_stand os s ≡ true → Fits (nested s os) bs → Fits os (with_line names s bs)
step_fits names os (Do block arguments) bs may f = put_fits (stmt.Do (place_in names.blocks block) (map (atom_of names) arguments)) os bs f
step_fits names os (Let name value) bs may f = put_fits (stmt.Let (place_in names.scalars name) (first_of names value) (rest_of names value)) os bs f
step_fits names os (Get name variable part row column) bs may f =
    put_fits (stmt.Get (place_in names.scalars name) (place_in names.vars variable) part row column) os bs f
step_fits names os (Loop turns) bs may f = opened_fits (λ (b : Body). stmt.Loop (atom_of names turns) b.first) opening.Turns os bs f
step_fits names os (While condition) bs may f = opened_fits (λ (b : Body). stmt.While (cond_of names condition) b.first) opening.Turns os bs f
step_fits names os (If condition) bs may f = opened_fits (λ (b : Body). stmt.If (cond_of names condition) b.first b.second) opening.If os bs f
step_fits names [] Else bs may f = cc
step_fits names (opening.Turns ∷ os) Else bs may f = cc
step_fits names (opening.If ∷ os) Else bs may f = else_fits os bs f
step_fits names (opening.Else ∷ os) Else bs may f = cc
step_fits names [] End bs may f = cc
step_fits names (o ∷ os) End bs may f = end_fits o os bs f
step_fits names os Checkpoint bs may f = put_fits stmt.Checkpoint os bs f
step_fits names os (Output variable) bs may f = put_fits (stmt.Output (place_in names.vars variable)) os bs f

step_scan : (tree : Sections) (job : Job) (all : List Word) (scope : Scope) (os : List Open) (s : Statement) (bs : List Body) → Ties tree job
    → Sound tree scope s
    → Begins (scope_with scope s).scalars all → scope.depth ≡ length os → may_stand os s ≡ true → Fits (nested s os) bs
    → scan_bodies job (with_line (names_for tree all) s bs) (length scope.scalars) ≡ scan_bodies job bs (length (scope_with scope s).scalars)
step_scan tree job all scope os (Do block arguments) bs ties sound begins deep may f =
    let names = names_for tree all in
    let p = place_in (block_names tree.blocks) block in
    put_scan job (stmt.Do p (map (atom_of names) arguments)) os bs (length scope.scalars) (length scope.scalars) f
    (λ d. do_scan job p (map (atom_of names) arguments) d (length scope.scalars)
    (and_from (is_call job p (length (map (atom_of names) arguments))) (list_all (is_atom (length scope.scalars)) (map (atom_of names) arguments))
    (called_there tree job names block arguments ties sound.called) (known_atoms names scope.scalars arguments begins sound.set)))
step_scan tree job all scope os (Let name value) bs ties sound begins deep may f =
    let names = names_for tree all in
    put_scan job (stmt.Let (place_in all name) (first_of names value) (rest_of names value)) os bs (length scope.scalars)
    (length (scope_with scope (Let name value)).scalars) f
    (λ d. let_scan job (place_in all name) (first_of names value) (rest_of names value) d (length scope.scalars)
    (known_value names scope.scalars value (read_begins scope (Let name value) all begins) sound.set)
    ∙ sets scope.scalars all name begins sound.few)
step_scan tree job all scope os (Get name variable part row column) bs ties sound begins deep may f =
    put_scan job (stmt.Get (place_in all name) (place_in (var_names tree.vars) variable) part row column) os bs (length scope.scalars)
    (length (scope_with scope (Get name variable part row column)).scalars) f
    (λ d. get_scan job (place_in all name) (place_in (var_names tree.vars) variable) part row column d (length scope.scalars)
    (var_there tree job variable ties sound.named)
    ∙ sets scope.scalars all name begins sound.few)
step_scan tree job all scope os (Loop turns) bs ties sound begins deep may f =
    let names = names_for tree all in
    turns_scan job (λ (b : Body). stmt.Loop (atom_of names turns) b.first) os bs (length scope.scalars) f
    (λ b d there. loop_scan job (atom_of names turns) b.first d (length scope.scalars) (one_known names scope.scalars turns begins sound.set)
    (shallow scope.depth d (length os) deep there sound.deep))
step_scan tree job all scope os (While condition) bs ties sound begins deep may f =
    let names = names_for tree all in
    turns_scan job (λ (b : Body). stmt.While (cond_of names condition) b.first) os bs (length scope.scalars) f
    (λ b d there. while_scan job (cond_of names condition) b.first d (length scope.scalars) (known_cond names scope.scalars condition begins sound.set)
    (shallow scope.depth d (length os) deep there sound.deep))
step_scan tree job all scope os (If condition) bs ties sound begins deep may f =
    let names = names_for tree all in
    if_bodies job (λ (b : Body). stmt.If (cond_of names condition) b.first b.second) os bs (length scope.scalars) f
    (λ b d there. if_scan job (cond_of names condition) b.first b.second d (length scope.scalars) (known_cond names scope.scalars condition begins sound.set)
    (shallow scope.depth d (length os) deep there sound.deep))
step_scan tree job all scope [] Else bs ties sound begins deep may f = cc
step_scan tree job all scope (opening.Turns ∷ os) Else bs ties sound begins deep may f = cc
step_scan tree job all scope (opening.If ∷ os) Else bs ties sound begins deep may f = else_scan job os bs (length scope.scalars) f
step_scan tree job all scope (opening.Else ∷ os) Else bs ties sound begins deep may f = cc
step_scan tree job all scope os End bs ties sound begins deep may f = refl
step_scan tree job all scope os Checkpoint bs ties sound begins deep may f =
    put_scan job stmt.Checkpoint os bs (length scope.scalars) (length scope.scalars) f (λ d. checkpoint_scan job d (length scope.scalars))
step_scan tree job all scope os (Output variable) bs ties sound begins deep may f =
    put_scan job (stmt.Output (place_in (var_names tree.vars) variable)) os bs (length scope.scalars) (length scope.scalars) f
    (λ d. output_scan job (place_in (var_names tree.vars) variable) d (length scope.scalars) (var_there tree job variable ties sound.named))

step_depth : (scope : Scope) (s : Statement) (os : List Open) → scope.depth ≡ length os → may_stand os s ≡ true
    → (scope_with scope s).depth ≡ length (nested s os)
step_depth scope (Do block arguments) os is may = is
step_depth scope (Let name value) os is may = is
step_depth scope (Get name variable part row column) os is may = is
step_depth scope (Loop turns) os is may = omega arith
step_depth scope (While condition) os is may = omega arith
step_depth scope (If condition) os is may = omega arith
step_depth scope Else [] is may = cc
step_depth scope Else (o ∷ os) is may = is
step_depth scope End [] is may = cc
step_depth scope End (o ∷ os) is may = omega arith
step_depth scope Checkpoint os is may = is
step_depth scope (Output variable) os is may = is

-- ---- all lines

no_rule : (line : ℕ) (rule : Option ℕ) (rest : Option Refusal) → option_or (option_map (λ (r : ℕ). record { line = line; rule = r }) rule) rest ≡ None
    → (rule ≡ None) × (rest ≡ None)
no_rule line None rest h = (refl, h)
no_rule line (Some r) rest h = cc

stands : (b : Bool) (rest : Option (List Open)) → cond b rest None ≡ Some [] → (b ≡ true) × (rest ≡ Some [])
stands true rest h = (refl, h)
stands false rest h = cc

all_lines : (tree : Sections) (job : Job) (all : List Word) (lines : List Line) (scope : Scope) (os : List Open) → Ties tree job
    → all ≡ (scope_of scope lines).scalars
    → scope.depth ≡ length os → first_refusal (places_of_statements tree scope lines) ≡ None → open_after os lines ≡ Some []
    → Fits os (bodies_of (names_for tree all) lines) × (scan_bodies job (bodies_of (names_for tree all) lines) (length scope.scalars) ≡ Some (length all))
all_lines tree job all [] scope os ties ends deep none nests =
    let closed : os ≡ [] = cc in
    (subst (λ (o : List Open). Fits o (no_body ∷ [])) (sym closed) refl, ap (λ (l : List Word). Some (length l)) (sym ends))
all_lines tree job all (line ∷ lines) scope os ties ends deep none nests =
    let s = line.statement in
    let first = no_rule line.line (rule_of (at_statement tree scope line)) (first_refusal (places_of_statements tree (scope_with scope s) lines)) none in
    let may = stands (may_stand os s) (open_after (nested s os) lines) nests in
    let rest = all_lines tree job all lines (scope_with scope s) (nested s os) ties ends (step_depth scope s os deep may.0) first.1 may.1 in (
      step_fits (names_for tree all) os s (bodies_of (names_for tree all) lines) may.0 rest.0,
      step_scan tree job all scope os s (bodies_of (names_for tree all) lines) ties (sound tree scope line first.0) (set_begins scope line lines all ends) deep
          may.0 rest.0 ∙ rest.1,
    )

and_some : (job : Job) (o : Option ℕ) → option_and_then (scan_bodies job []) o ≡ o
and_some job None = refl
and_some job (Some n) = refl

last_body_scans : (job : Job) (bs : List Body) (k : ℕ) → Fits [] bs → scan_bodies job bs 0 ≡ Some k → scan_all (map (scan_of job) (first_body bs)) 0 0 ≡ Some k
last_body_scans job [] k f h = absurd f
last_body_scans job (b ∷ []) k f h =
    let o : Option ℕ = scan_all (map (scan_of job) b.first) 0 0 in
    sym (and_some job o) ∙ sym (no_second job b.second 0 (scan_bodies job []) o f) ∙ h
last_body_scans job (b ∷ c ∷ bs) k f h = absurd f

-- the statements of a tree that no rule refuses
pub body_whole : (tree : Sections) (job : Job) → Ties tree job
    → job.body ≡ body_of (names_for tree (scope_of empty_scope tree.statements).scalars) tree.statements
    → open_after [] tree.statements ≡ Some [] → first_refusal (places_of_statements tree empty_scope tree.statements) ≡ None → is_some (scalars_set job) ≡ true
body_whole tree job ties body nests none =
    let all = (scope_of empty_scope tree.statements).scalars in
    let both = all_lines tree job all tree.statements empty_scope [] ties refl refl none nests in
    ap (λ (b : List Stmt). is_some (scan_all (map (scan_of job) b) 0 0)) body
    ∙ ap is_some (last_body_scans job (bodies_of (names_for tree all) tree.statements) (length all) both.0 both.1)

between : (n : ℕ) → 1 ≤ n → n ≤ 1000000 → is_between 1 1000000 n ≡ true
between n low high = grind (arith, nat_tests)

few : (n : ℕ) → n ≤ 32 → nat_le n 32 ≡ true
few n is = grind (arith, nat_tests)

-- the parts of a whole job
pub job_whole : (job : Job) → 1 ≤ job.steps → job.steps ≤ 1000000 → are_vars job.vars ≡ true → length job.blocks ≤ 32
    → list_all (is_whole_block job.vars) job.blocks ≡ true
    → is_some (scalars_set job) ≡ true → is_checked job ≡ true
job_whole job low high vars blocks each body =
    and_from_five (is_between 1 1000000 job.steps) (are_vars job.vars) (nat_le (length job.blocks) 32) (list_all (is_whole_block job.vars) job.blocks)
    (is_some (scalars_set job))
    (between job.steps low high) vars (few (length job.blocks) blocks) each body
