-- Each statement of a checked and spelled job is shown by its lines.
use Rattle.std.proofs.Common.{◌≡◌, ℕ, ◌+◌, ◌≤◌, ◌<◌, zero, suc, Bool, true, false, cond, List, [], ◌∷◌, ◌++◌, length, map, refl, ap, ap₂, subst, sym, ◌∙◌, arith, Option, None, Some}
use Rattle.std.specs.Prelude.{◌&&◌, ◌==◌, nat_lt, slice_get}
use Rattle.std.specs.List.{list_all}
use Rattle.std.specs.Option.{option_map_or}
use Rattle.std.proofs.Math.Path.{fun_ext}
use Rattle.std.proofs.lemmas.Bool.{and_from, and_parts, false≢true, lt-leb, ltb-true}
use Rattle.std.proofs.lemmas.List.{append-nil, length-map}
use Rattle.std.proofs.lemmas.Option.{none-some}
use Rattle.nim_job.specs.declared.block.Block.{Block as job_block}
use Rattle.nim_job.specs.declared.job.Job.{Job}
use Rattle.nim_job.specs.declared.job.Var.{Var as job_var}
use Rattle.nim_job.specs.declared.stmt.Arith.{Arith}
use Rattle.nim_job.specs.declared.stmt.Atom.{Atom as job_atom}
use Rattle.nim_job.specs.declared.stmt.Cond.{Cond}
use Rattle.nim_job.specs.declared.stmt.Stmt.{Stmt, roll-Stmt}
use Rattle.nim_job.specs.declared.stmt.Stmt.TheOpen.{Stmt-F}
use Rattle.nim_job.specs.declared.stmt.Stmt.TheVariants.{rolls-Do, rolls-Let, rolls-Get, rolls-Loop, rolls-While, rolls-If, rolls-Checkpoint, rolls-Output}
use Rattle.nim_job.specs.Whole as whole
use Rattle.nim_job.specs.Whole.{Scan, is_call, scan_all, scan_body, scan_of, scan_stmt}
use Rattle.nim_parse.specs.declared.nest.Open.{Open}
use Rattle.nim_parse.specs.declared.nest.Open.TheVariants as opening
use Rattle.nim_parse.specs.declared.sections.Block.{Block}
use Rattle.nim_parse.specs.declared.sections.Statement.{Statement}
use Rattle.nim_parse.specs.declared.sections.Statement.TheVariants.{Do, Let, Get, Loop, While, If, Checkpoint, Output}
use Rattle.nim_check.specs.Body.{Body, atom_of, cond_of, first_of, onto, opened, rest_of}
use Rattle.nim_check.specs.Made.{block_names}
use Rattle.nim_check.specs.Names.{Word, has_twice, place_in}
use Rattle.nim_check.specs.Rules.{is_known}
use Rattle.nim_printed.specs.Printer.{atom_for, block_name, condition_for, else_for, joined, scalar_name, statements_of, value_for, var_name}
use Rattle.nim_printed.specs.Spelled as spelled
use Rattle.nim_printed.specs.Spelled.{all_true, is_unreserved, is_small, is_stmt}
use Rattle.nim_printed.specs.Trees as trees
use Rattle.nim_base.proofs.Lists.{and_from_five}
use Rattle.nim_printed.proofs.JobAtoms.{atom_back, atom_known, atom_printed, cond_back, cond_known, cond_printed, first_back, names_at, rest_back, scalars, scalars_length, scope_at, set_free, sets, value_known, value_printed}
use Rattle.nim_printed.proofs.JobBlocks.{names_of_blocks}
use Rattle.nim_printed.proofs.JobLines.{opened_after}
use Rattle.nim_printed.proofs.JobLists.{all_mapped, all_of_both, map_back}
use Rattle.nim_printed.proofs.JobNames.{in_at, name_place, place_at, scalar_free, scalars_apart}
use Rattle.nim_printed.proofs.JobStages.{free_at}
use Rattle.nim_printed.proofs.JobStmts.{Holds, Opens, Says, Shows, body_with, holds_part, holds_parts, shows_both}
use Rattle.nim_printed.proofs.JobVars.{names_of_vars}

-- what the statements of a job may name, and how its blocks stand in the tree
pub record Named (job : Job) (blocks : List Block) : Type 0 where
  pub vars_once : has_twice (names_of_vars job.vars) ≡ false
  pub blocks_once : has_twice (names_of_blocks job.blocks) ≡ false
  pub vars_free : list_all is_unreserved (names_of_vars job.vars) ≡ true
  pub blocks_free : list_all is_unreserved (names_of_blocks job.blocks) ≡ true
  pub named : block_names blocks ≡ names_of_blocks job.blocks
  pub takes : (block n : ℕ) → is_call job block n ≡ true → option_map_or (λ (b : Block). n == length b.arguments) (slice_get blocks block) false ≡ true

-- ---- tests that gave a number

pub taken : (test : Bool) (x : Option ℕ) (y : ℕ) → cond test x None ≡ Some y → (test ≡ true) × (x ≡ Some y)
taken true x y is = (refl, is)
taken false x y is = absurd (none-some y is)

-- ---- statements, rolled

put_rolled : {rolled made : Stmt} (bodies : List Body) → rolled ≡ made → onto made bodies ≡ onto rolled bodies
put_rolled bodies same = ap (λ (s : Stmt). onto s bodies) (sym same)

open_rolled : {rolled made : Body → Stmt} (bodies : List Body) → ((body : Body) → rolled body ≡ made body) → opened made bodies ≡ opened rolled bodies
open_rolled bodies same = ap (λ (opens : Body → Stmt). opened opens bodies) (fun_ext (λ body. sym (same body)))

-- ---- what is open

open_cases : (P : List Open → Type 0) → P [] → ((kind : Open) (more : List Open) → P (kind ∷ more)) → (open_now : List Open) → P open_now
open_cases P none some [] = none
open_cases P none some (kind ∷ more) = some kind more

-- ---- names of variables and blocks

var_there : (job : Job) (var : ℕ) → nat_lt var (length job.vars) ≡ true → var < length (names_of_vars job.vars)
var_there job var there = omega (arith, ltb-true var (length job.vars) there, length-map job.vars (λ (v : job_var). v.name))

call_there : (blocks : List job_block) (block n : ℕ) → option_map_or (λ (b : job_block). n == b.args) (slice_get blocks block) false ≡ true
    → block < length blocks
call_there [] block n is = absurd (false≢true is)
call_there (b ∷ blocks) zero n is = omega arith
call_there (b ∷ blocks) (suc block) n is =
    let rest = call_there blocks block n is in
    omega arith

block_there : (job : Job) (block n : ℕ) → is_call job block n ≡ true → block < length (names_of_blocks job.blocks)
block_there job block n is = omega (arith, call_there job.blocks block n is, length-map job.blocks (λ (b : job_block). b.name))

-- ---- statements of one line

pub do_says : (job : Job) (blocks : List Block) (depth k block : ℕ) (args : List job_atom) → Named job blocks → k ≤ 64 → is_call job block (length args) ≡ true
    → list_all (whole.is_atom k) args ≡ true → list_all spelled.is_spelled_atom args ≡ true
    → Says job blocks depth k k (Do (block_name job.blocks block) (map atom_for args)) (roll-Stmt (Stmt-F.Do block args))
do_says job blocks depth k block args named within call known spells =
    let name = block_name job.blocks block in
    let there = block_there job block (length args) call in
    let place : place_in (block_names blocks) name ≡ block =
    ap (λ (names : List Word). place_in names name) named.named ∙ place_at (names_of_blocks job.blocks) block named.blocks_once there in
    record {
      grows = omega arith;
      few = within;
      scope = refl;
      sound = record {
        free = refl;
        few = omega (arith, within, scalars_length k);
        variable = refl;
        block = ap₂ (λ (n at : ℕ). option_map_or (λ (b : Block). n == length b.arguments) (slice_get blocks at) false) (length-map args atom_for) place
            ∙ named.takes block (length args) call;
        known = all_mapped (is_known (scalars k)) atom_for (whole.is_atom k) (atom_known k) args known;
        shallow = refl;
      };
      read =
          λ n more most bodies. put_rolled bodies (rolls-Do (place_in (names_of_blocks job.blocks) name) (map (atom_of (names_at job n)) (map atom_for args)))
          ∙ ap₂ (λ (at : ℕ) (xs : List job_atom). onto (roll-Stmt (Stmt-F.Do at xs)) bodies)
          (place_at (names_of_blocks job.blocks) block named.blocks_once there)
          (map_back atom_for (atom_of (names_at job n)) (whole.is_atom k) (atom_back job k n more most) args known);
      printed = and_from (is_unreserved name) (list_all trees.is_printable_atom (map atom_for args))
          (free_at (names_of_blocks job.blocks) block there named.blocks_free)
          (all_mapped trees.is_printable_atom atom_for (λ a. whole.is_atom k a && spelled.is_spelled_atom a)
          (λ a both. let parts = and_parts (whole.is_atom k a) (spelled.is_spelled_atom a) both in atom_printed k within a parts.0 parts.1) args
          (all_of_both (whole.is_atom k) spelled.is_spelled_atom (λ a. whole.is_atom k a && spelled.is_spelled_atom a)
          (λ a x y. and_from (whole.is_atom k a) (spelled.is_spelled_atom a) x y) args known spells));
      nests = λ open_now rest. open_cases (λ op. opened_after op (Do name (map atom_for args) ∷ rest) ≡ opened_after op rest) refl (λ kind more. refl) open_now;
    }

pub let_says : (job : Job) (blocks : List Block) (depth k behind s : ℕ) (first : job_atom) (rest : Option (Arith × job_atom)) → k ≤ 64
    → whole.is_atom k first ≡ true → whole.is_rest k rest ≡ true
    → whole.set_at k s ≡ Some behind → spelled.is_spelled_atom first ≡ true → spelled.is_spelled_rest rest ≡ true
    → Says job blocks depth k behind (Let (scalar_name s) (value_for first rest)) (roll-Stmt (Stmt-F.Let s first rest))
let_says job blocks depth k behind s first rest within is rest_is set spells rest_spells =
    let new = sets k s behind within set in
    record {
      grows = new.grows;
      few = new.few;
      scope = ap (λ (names : List Word). record (scope_at depth k) { scalars = names }) new.scalars_are;
      sound = record {
        free = set_free s behind new.there new.few;
        few = omega (arith, new.few, scalars_length behind, ap length new.scalars_are);
        variable = refl;
        block = refl;
        known = value_known k first rest is rest_is;
        shallow = refl;
      };
      read = λ n more most bodies.
          let place : place_in (scalars n) (scalar_name s) ≡ s = name_place scalar_name n s (omega (arith, new.there, more)) (scalars_apart n most) in
          let within_n : k ≤ n = omega (arith, new.grows, more) in
          put_rolled bodies (rolls-Let (place_in (scalars n) (scalar_name s)) (first_of (names_at job n) (value_for first rest))
          (rest_of (names_at job n) (value_for first rest)))
          ∙ ap (λ (at : ℕ). onto (roll-Stmt (Stmt-F.Let at (first_of (names_at job n) (value_for first rest))
          (rest_of (names_at job n) (value_for first rest)))) bodies) place
          ∙ ap₂ (λ (a : job_atom) (r : Option (Arith × job_atom)). onto (roll-Stmt (Stmt-F.Let s a r)) bodies) (first_back job k n within_n most first rest is)
          (rest_back job k n within_n most first rest rest_is);
      printed = and_from (is_unreserved (scalar_name s)) (trees.is_printable_value (value_for first rest)) (scalar_free s (omega (arith, new.there, new.few)))
          (value_printed k within first rest is rest_is spells rest_spells);
      nests = λ open_now more. open_cases (λ op. opened_after op (Let (scalar_name s) (value_for first rest) ∷ more) ≡ opened_after op more) refl
          (λ kind others. refl) open_now;
    }

pub get_says : (job : Job) (blocks : List Block) (depth k behind s var part row cell : ℕ) → Named job blocks → k ≤ 64 → nat_lt var (length job.vars) ≡ true
    → whole.set_at k s ≡ Some behind
    → (is_small part ≡ true) × (is_small row ≡ true) × (is_small cell ≡ true)
    → Says job blocks depth k behind (Get (scalar_name s) (var_name job.vars var) part row cell) (roll-Stmt (Stmt-F.Get s var part row cell))
get_says job blocks depth k behind s var part row cell named within there set small =
    let new = sets k s behind within set in
    let at = var_there job var there in
    let name = var_name job.vars var in
    record {
      grows = new.grows;
      few = new.few;
      scope = ap (λ (names : List Word). record (scope_at depth k) { scalars = names }) new.scalars_are;
      sound = record {
        free = set_free s behind new.there new.few;
        few = omega (arith, new.few, scalars_length behind, ap length new.scalars_are);
        variable = in_at (names_of_vars job.vars) var at;
        block = refl;
        known = refl;
        shallow = refl;
      };
      read = λ n more most bodies.
          let place : place_in (scalars n) (scalar_name s) ≡ s = name_place scalar_name n s (omega (arith, new.there, more)) (scalars_apart n most) in
          put_rolled bodies (rolls-Get (place_in (scalars n) (scalar_name s)) (place_in (names_of_vars job.vars) name) part row cell)
          ∙ ap₂ (λ (scalar v : ℕ). onto (roll-Stmt (Stmt-F.Get scalar v part row cell)) bodies) place
          (place_at (names_of_vars job.vars) var named.vars_once at);
      printed =
          and_from_five (is_unreserved (scalar_name s)) (is_unreserved name) (is_small part) (is_small row) (is_small cell)
          (scalar_free s (omega (arith, new.there, new.few)))
          (free_at (names_of_vars job.vars) var at named.vars_free) small.0 small.1 small.2;
      nests = λ open_now more. open_cases (λ op. opened_after op (Get (scalar_name s) name part row cell ∷ more) ≡ opened_after op more) refl
          (λ kind others. refl) open_now;
    }

pub checkpoint_says : (job : Job) (blocks : List Block) (depth k : ℕ) → k ≤ 64 → Says job blocks depth k k Checkpoint (roll-Stmt Stmt-F.Checkpoint)
checkpoint_says job blocks depth k within = record {
  grows = omega arith;
  few = within;
  scope = refl;
  sound = record { free = refl; few = omega (arith, within, scalars_length k); variable = refl; block = refl; known = refl; shallow = refl };
  read = λ n more most bodies. put_rolled bodies rolls-Checkpoint;
  printed = refl;
  nests = λ open_now more. open_cases (λ op. opened_after op (Checkpoint ∷ more) ≡ opened_after op more) refl (λ kind others. refl) open_now;
}

pub output_says : (job : Job) (blocks : List Block) (depth k var : ℕ) → Named job blocks → k ≤ 64 → nat_lt var (length job.vars) ≡ true
    → Says job blocks depth k k (Output (var_name job.vars var)) (roll-Stmt (Stmt-F.Output var))
output_says job blocks depth k var named within there =
    let at = var_there job var there in
    record {
      grows = omega arith;
      few = within;
      scope = refl;
      sound = record {
        free = refl;
        few = omega (arith, within, scalars_length k);
        variable = in_at (names_of_vars job.vars) var at;
        block = refl;
        known =
            refl;
        shallow = refl;
      };
      read = λ n more most bodies. put_rolled bodies (rolls-Output (place_in (names_of_vars job.vars) (var_name job.vars var)))
          ∙ ap (λ (v : ℕ). onto (roll-Stmt (Stmt-F.Output v)) bodies) (place_at (names_of_vars job.vars) var named.vars_once at);
      printed = free_at (names_of_vars job.vars) var at named.vars_free;
      nests = λ open_now more. open_cases (λ op. opened_after op (Output (var_name job.vars var) ∷ more) ≡ opened_after op more) refl (λ kind others. refl)
          open_now;
    }

-- ---- lines that open a body

pub loop_opens : (job : Job) (blocks : List Block) (depth k : ℕ) (turns : job_atom) → k ≤ 64 → depth < 16 → whole.is_atom k turns ≡ true
    → spelled.is_spelled_atom turns ≡ true
    → Opens job blocks opening.Turns depth k (Loop (atom_for turns)) (λ body. roll-Stmt (Stmt-F.Loop turns body.first))
loop_opens job blocks depth k turns within shallow is spells = record {
  scope = refl;
  sound = record {
    free = refl;
    few = omega (arith, within, scalars_length k);
    variable = refl;
    block = refl;
    known = and_from (is_known (scalars k) (atom_for turns)) true (atom_known k turns is) refl;
    shallow = lt-leb 16 depth shallow;
  };
  read = λ n more most bodies. open_rolled bodies (λ body. rolls-Loop (atom_of (names_at job n) (atom_for turns)) body.first)
      ∙ ap (λ (t : job_atom). opened (λ (body : Body). roll-Stmt (Stmt-F.Loop t body.first)) bodies) (atom_back job k n more most turns is);
  printed = atom_printed k within turns is spells;
  nests = λ open_now rest. open_cases (λ op. opened_after op (Loop (atom_for turns) ∷ rest) ≡ opened_after (opening.Turns ∷ op) rest) refl (λ kind others. refl)
      open_now;
}

pub while_opens : (job : Job) (blocks : List Block) (depth k : ℕ) (c : Cond) → k ≤ 64 → depth < 16 → whole.is_cond k c ≡ true → spelled.is_spelled_cond c ≡ true
    → Opens job blocks opening.Turns depth k (While (condition_for c)) (λ body. roll-Stmt (Stmt-F.While c body.first))
while_opens job blocks depth k c within shallow is spells = record {
  scope = refl;
  sound = record {
    free = refl;
    few = omega (arith, within, scalars_length k);
    variable = refl;
    block = refl;
    known = cond_known k c is;
    shallow = lt-leb 16 depth shallow;
  };
  read = λ n more most bodies. open_rolled bodies (λ body. rolls-While (cond_of (names_at job n) (condition_for c)) body.first)
      ∙ ap (λ (x : Cond). opened (λ (body : Body). roll-Stmt (Stmt-F.While x body.first)) bodies) (cond_back job k n more most c is);
  printed = cond_printed k within c is spells;
  nests = λ open_now rest. open_cases (λ op. opened_after op (While (condition_for c) ∷ rest) ≡ opened_after (opening.Turns ∷ op) rest) refl
      (λ kind others. refl) open_now;
}

pub if_opens : (job : Job) (blocks : List Block) (depth k : ℕ) (c : Cond) → k ≤ 64 → depth < 16 → whole.is_cond k c ≡ true → spelled.is_spelled_cond c ≡ true
    → Opens job blocks opening.If depth k (If (condition_for c)) (λ body. roll-Stmt (Stmt-F.If c body.first body.second))
if_opens job blocks depth k c within shallow is spells = record {
  scope = refl;
  sound = record {
    free = refl;
    few = omega (arith, within, scalars_length k);
    variable = refl;
    block = refl;
    known = cond_known k c is;
    shallow = lt-leb 16 depth shallow;
  };
  read = λ n more most bodies. open_rolled bodies (λ body. rolls-If (cond_of (names_at job n) (condition_for c)) body.first body.second)
      ∙ ap (λ (x : Cond). opened (λ (body : Body). roll-Stmt (Stmt-F.If x body.first body.second)) bodies) (cond_back job k n more most c is);
  printed = cond_printed k within c is spells;
  nests = λ open_now rest. open_cases (λ op. opened_after op (If (condition_for c) ∷ rest) ≡ opened_after (opening.If ∷ op) rest) refl (λ kind others. refl)
      open_now;
}

-- an `else` stands only where something stands behind it
pub if_holds : (job : Job) (blocks : List Block) (depth k between behind : ℕ) (xs : List Statement) (ss ts : List Stmt)
    → Shows job blocks (depth + 1) k between xs ss
    → Shows job blocks (depth + 1) between behind (joined (map (statements_of job) ts)) ts
    → Holds job blocks opening.If depth k behind (xs ++ else_for (map (statements_of job) ts)) (body_with ss ts)
if_holds job blocks depth k between behind xs ss [] first second =
    subst (λ (stmts : List Stmt). Holds job blocks opening.If depth k behind (xs ++ []) (body_with stmts [])) (append-nil ss)
    (holds_part job blocks opening.If depth k behind (xs ++ []) (ss ++ []) (shows_both job blocks (depth + 1) k between behind xs [] ss [] first second))
if_holds job blocks depth k between behind xs ss (t ∷ ts) first second =
    holds_parts job blocks depth k between behind xs (joined (map (statements_of job) (t ∷ ts))) ss (t ∷ ts) first second
