-- Statements with all that they hold are shown by their lines.
use Rattle.std.proofs.Common.{◌≡◌, ℕ, ◌+◌, ◌≤◌, Bool, true, List, [], ◌∷◌, ◌++◌, length, map, ap, sym, subst, ◌∙◌, arith, Some}
use Rattle.std.specs.Prelude.{◌&&◌, nat_lt}
use Rattle.std.specs.List.{flat_map, list_all}
use Rattle.std.specs.Option.{option_and_then}
use Rattle.std.proofs.lemmas.Bool.{and_parts, ltb-true}
use Rattle.std.proofs.lemmas.List.{map-id}
use Rattle.std.proofs.lemmas.List.Folds.{flat_map-map, list_all-map}
use Rattle.std.proofs.lemmas.Option.{same_Some}
use Rattle.nim_job.specs.declared.job.Job.{Job}
use Rattle.nim_job.specs.declared.stmt.Stmt.{Stmt, fold-Stmt, fold-roll-Stmt, ind-Stmt, map-Stmt, roll-Stmt}
use Rattle.nim_job.specs.declared.stmt.Stmt.TheOpen.{Stmt-F}
use Rattle.nim_job.specs.Whole as whole
use Rattle.nim_job.specs.Whole.{Scan, is_call, scalars_set, scan_all, scan_body, scan_of, scan_stmt}
use Rattle.nim_parse.specs.declared.nest.Open.TheVariants as opening
use Rattle.nim_parse.specs.declared.sections.Block.{Block}
use Rattle.nim_parse.specs.declared.sections.Statement.{Statement}
use Rattle.nim_parse.specs.declared.sections.Statement.TheVariants.{Do, Let, Get, Loop, While, If, Checkpoint, Output}
use Rattle.nim_printed.specs.Printer.{atom_for, block_name, condition_for, else_for, joined, scalar_name, statements_of, stmt_for, value_for, var_name}
use Rattle.nim_printed.specs.Spelled as spelled
use Rattle.nim_printed.specs.Spelled.{all_true, is_small, is_stmt}
use Rattle.nim_job.proofs.Sound.{then_parts}
use Rattle.nim_printed.proofs.JobCases.{Named, checkpoint_says, do_says, get_says, if_holds, if_opens, let_says, loop_opens, output_says, taken, while_opens}
use Rattle.nim_printed.proofs.JobLists.{and_three_parts}
use Rattle.nim_printed.proofs.JobStmts.{Shows, body_with, holds_part, shows_both, shows_none, shows_opened, shows_said}

-- a statement that is whole where it stands is shown by its lines
abbrev Shown : Job → List Block → Stmt → Type 0
Shown job blocks stmt = (depth k behind : ℕ) → k ≤ 64 → scan_of job stmt depth k ≡ Some behind → fold-Stmt Bool is_stmt stmt ≡ true
    → Shows job blocks depth k behind (statements_of job stmt) (stmt ∷ [])

-- the same of statements one after another, each of which has its own proof beside it
all_shown : (job : Job) (blocks : List Block) {E : Type 0} (stmt_of : E → Stmt) → ((e : E) → Shown job blocks (stmt_of e)) → (es : List E) (depth k behind : ℕ)
    → k ≤ 64
    → scan_all (map (scan_of job) (map stmt_of es)) depth k ≡ Some behind → all_true (map (fold-Stmt Bool is_stmt) (map stmt_of es)) ≡ true
    → Shows job blocks depth k behind (joined (map (statements_of job) (map stmt_of es))) (map stmt_of es)
all_shown job blocks stmt_of shown [] depth k behind within set spells =
    subst (λ (n : ℕ). Shows job blocks depth k n [] []) (same_Some k behind set) (shows_none job blocks depth k within)
all_shown job blocks stmt_of shown (e ∷ es) depth k behind within set spells =
    let found = then_parts (λ (n : ℕ). scan_all (map (scan_of job) (map stmt_of es)) depth n) (scan_of job (stmt_of e) depth k) behind set in
    let parts = and_parts (fold-Stmt Bool is_stmt (stmt_of e)) (all_true (map (fold-Stmt Bool is_stmt) (map stmt_of es))) spells in
    let first = shown e depth k found.0 within found.1 parts.0 in
    shows_both job blocks depth k found.0 behind (statements_of job (stmt_of e)) (joined (map (statements_of job) (map stmt_of es))) (stmt_of e ∷ [])
    (map stmt_of es) first
    (all_shown job blocks stmt_of shown es depth found.0 behind first.few found.2 parts.1)

-- what a statement is of its parts
abbrev ShownOut : Job → List Block → Stmt-F Stmt → Type 0
ShownOut job blocks x = (depth k behind : ℕ) → k ≤ 64 → scan_stmt job (map-Stmt Stmt Scan (scan_of job) x) depth k ≡ Some behind
    → is_stmt (map-Stmt Stmt Bool (fold-Stmt Bool is_stmt) x) ≡ true
    → Shows job blocks depth k behind (stmt_for job (map-Stmt Stmt (List Statement) (statements_of job) x)) (roll-Stmt x ∷ [])

rolled : (job : Job) (blocks : List Block) (x : Stmt-F Stmt) → ShownOut job blocks x → Shown job blocks (roll-Stmt x)
rolled job blocks x shown = λ depth k behind within set spells.
    subst (λ (lines : List Statement). Shows job blocks depth k behind lines (roll-Stmt x ∷ [])) (sym (fold-roll-Stmt (List Statement) (stmt_for job) x))
    (shown depth k behind within (sym (ap (λ (scan : Scan). scan depth k) (fold-roll-Stmt Scan (scan_stmt job) x)) ∙ set)
    (sym (fold-roll-Stmt Bool is_stmt x) ∙ spells))

-- a part with its proof
abbrev Part : Job → List Block → Type 0
Part job blocks = (stmt : Stmt) × Shown job blocks stmt

shown_by_parts : (job : Job) (blocks : List Block) → Named job blocks → (y : Stmt-F (Part job blocks))
    → Shown job blocks (roll-Stmt (map-Stmt (Part job blocks) Stmt (λ e. e.0) y))
shown_by_parts job blocks named (Stmt-F.Do block args) =
    rolled job blocks (Stmt-F.Do block args) (λ depth k behind within set spells.
    let found = taken (is_call job block (length args) && list_all (whole.is_atom k) args) (Some k) behind set in
    let parts = and_parts (is_call job block (length args)) (list_all (whole.is_atom k) args) found.0 in
    let line = Do (block_name job.blocks block) (map atom_for args) in
    let stmt = roll-Stmt (Stmt-F.Do block args) in
    subst (λ (n : ℕ). Shows job blocks depth k n (line ∷ []) (stmt ∷ [])) (same_Some k behind found.1)
    (shows_said job blocks depth k k line stmt (do_says job blocks depth k block args named within parts.0 parts.1 spells)))
shown_by_parts job blocks named (Stmt-F.Let s first rest) =
    rolled job blocks (Stmt-F.Let s first rest) (λ depth k behind within set spells.
    let found = taken (whole.is_atom k first && whole.is_rest k rest) (whole.set_at k s) behind set in
    let parts = and_parts (whole.is_atom k first) (whole.is_rest k rest) found.0 in
    let spelled_parts = and_parts (spelled.is_spelled_atom first) (spelled.is_spelled_rest rest) spells in
    shows_said job blocks depth k behind (Let (scalar_name s) (value_for first rest)) (roll-Stmt (Stmt-F.Let s first rest))
    (let_says job blocks depth k behind s first rest within parts.0 parts.1 found.1 spelled_parts.0 spelled_parts.1))
shown_by_parts job blocks named (Stmt-F.Get s var part row cell) =
    rolled job blocks (Stmt-F.Get s var part row cell) (λ depth k behind within set spells.
    let found = taken (nat_lt var (length job.vars)) (whole.set_at k s) behind set in
    shows_said job blocks depth k behind (Get (scalar_name s) (var_name job.vars var) part row cell) (roll-Stmt (Stmt-F.Get s var part row cell))
    (get_says job blocks depth k behind s var part row cell named within found.0 found.1
    (and_three_parts (is_small part) (is_small row) (is_small cell) spells)))
shown_by_parts job blocks named (Stmt-F.Loop turns es) =
    let stmts = map (λ (e : Part job blocks). e.0) es in
    rolled job blocks (Stmt-F.Loop turns stmts) (λ depth k behind within set spells.
    let found = taken (whole.is_atom k turns) (scan_body (map (scan_of job) stmts) depth k) behind set in
    let deep = taken (nat_lt depth 16) (scan_all (map (scan_of job) stmts) (depth + 1) k) behind found.1 in
    let spelled_parts = and_parts (spelled.is_spelled_atom turns) (all_true (map (fold-Stmt Bool is_stmt) stmts)) spells in
    let lines = joined (map (statements_of job) stmts) in
    shows_opened job blocks opening.Turns depth k behind (Loop (atom_for turns)) (λ body. roll-Stmt (Stmt-F.Loop turns body.first)) lines (body_with stmts [])
    (loop_opens job blocks depth k turns within (ltb-true depth 16 deep.0) found.0 spelled_parts.0)
    (holds_part job blocks opening.Turns depth k behind lines stmts
    (all_shown job blocks (λ (e : Part job blocks). e.0) (λ e. e.1) es (depth + 1) k behind within deep.1 spelled_parts.1)))
shown_by_parts job blocks named (Stmt-F.While c es) =
    let stmts = map (λ (e : Part job blocks). e.0) es in
    rolled job blocks (Stmt-F.While c stmts) (λ depth k behind within set spells.
    let found = taken (whole.is_cond k c) (scan_body (map (scan_of job) stmts) depth k) behind set in
    let deep = taken (nat_lt depth 16) (scan_all (map (scan_of job) stmts) (depth + 1) k) behind found.1 in
    let spelled_parts = and_parts (spelled.is_spelled_cond c) (all_true (map (fold-Stmt Bool is_stmt) stmts)) spells in
    let lines = joined (map (statements_of job) stmts) in
    shows_opened job blocks opening.Turns depth k behind (While (condition_for c)) (λ body. roll-Stmt (Stmt-F.While c body.first)) lines (body_with stmts [])
    (while_opens job blocks depth k c within (ltb-true depth 16 deep.0) found.0 spelled_parts.0)
    (holds_part job blocks opening.Turns depth k behind lines stmts
    (all_shown job blocks (λ (e : Part job blocks). e.0) (λ e. e.1) es (depth + 1) k behind within deep.1 spelled_parts.1)))
shown_by_parts job blocks named (Stmt-F.If c es fs) =
    let firsts = map (λ (e : Part job blocks). e.0) es in
    let seconds = map (λ (e : Part job blocks). e.0) fs in
    rolled job blocks (Stmt-F.If c firsts seconds) (λ depth k behind within set spells.
    let found = taken (whole.is_cond k c) (option_and_then (λ (n : ℕ). scan_body (map (scan_of job) seconds) depth n)
    (scan_body (map (scan_of job) firsts) depth k)) behind set in
    let between = then_parts (λ (n : ℕ). scan_body (map (scan_of job) seconds) depth n) (scan_body (map (scan_of job) firsts) depth k) behind found.1 in
    let deep = taken (nat_lt depth 16) (scan_all (map (scan_of job) firsts) (depth + 1) k) between.0 between.1 in
    let deep_again = taken (nat_lt depth 16) (scan_all (map (scan_of job) seconds) (depth + 1) between.0) behind between.2 in
    let spelled_parts =
    and_three_parts (spelled.is_spelled_cond c) (all_true (map (fold-Stmt Bool is_stmt) firsts)) (all_true (map (fold-Stmt Bool is_stmt) seconds)) spells in
    let lines = joined (map (statements_of job) firsts) in
    let first = all_shown job blocks (λ (e : Part job blocks). e.0) (λ e. e.1) es (depth + 1) k between.0 within deep.1 spelled_parts.1 in
    let second = all_shown job blocks (λ (e : Part job blocks). e.0) (λ e. e.1) fs (depth + 1) between.0 behind first.few deep_again.1 spelled_parts.2 in
    shows_opened job blocks opening.If depth k behind (If (condition_for c)) (λ body. roll-Stmt (Stmt-F.If c body.first body.second))
    (lines ++ else_for (map (statements_of job) seconds)) (body_with firsts seconds)
    (if_opens job blocks depth k c within (ltb-true depth 16 deep.0) found.0 spelled_parts.0)
    (if_holds job blocks depth k between.0 behind lines firsts seconds first second))
shown_by_parts job blocks named Stmt-F.Checkpoint =
    rolled job blocks Stmt-F.Checkpoint (λ depth k behind within set spells.
    subst (λ (n : ℕ). Shows job blocks depth k n (Checkpoint ∷ []) (roll-Stmt Stmt-F.Checkpoint ∷ [])) (same_Some k behind set)
    (shows_said job blocks depth k k Checkpoint (roll-Stmt Stmt-F.Checkpoint) (checkpoint_says job blocks depth k within)))
shown_by_parts job blocks named (Stmt-F.Output var) =
    rolled job blocks (Stmt-F.Output var) (λ depth k behind within set spells.
    let found = taken (nat_lt var (length job.vars)) (Some k) behind set in
    let line = Output (var_name job.vars var) in
    let stmt = roll-Stmt (Stmt-F.Output var) in
    subst (λ (n : ℕ). Shows job blocks depth k n (line ∷ []) (stmt ∷ [])) (same_Some k behind found.1)
    (shows_said job blocks depth k k line stmt (output_says job blocks depth k var named within found.0)))

every_shown : (job : Job) (blocks : List Block) → Named job blocks → (stmt : Stmt) → Shown job blocks stmt
every_shown job blocks named = ind-Stmt (Shown job blocks)
    (λ x y is. subst (λ (z : Stmt-F Stmt). Shown job blocks (roll-Stmt z)) is (shown_by_parts job blocks named y))

-- the whole body of a job
pub body_shown : (job : Job) (blocks : List Block) (behind : ℕ) → Named job blocks → scalars_set job ≡ Some behind
    → list_all (λ (stmt : Stmt). fold-Stmt Bool is_stmt stmt) job.body ≡ true → Shows job blocks 0 0 behind (flat_map (statements_of job) job.body) job.body
body_shown job blocks behind named set spells =
    let same = map-id job.body in
    let spells_all : all_true (map (fold-Stmt Bool is_stmt) job.body) ≡ true = list_all-map (λ part. part) (fold-Stmt Bool is_stmt) job.body ∙ spells in
    let shows = all_shown job blocks (λ (stmt : Stmt). stmt) (every_shown job blocks named) job.body 0 0 behind (omega arith)
    (ap (λ (xs : List Stmt). scan_all (map (scan_of job) xs) 0 0) same ∙ set)
    (ap (λ (xs : List Stmt). all_true (map (fold-Stmt Bool is_stmt) xs)) same ∙ spells_all) in
    subst (λ (lines : List Statement). Shows job blocks 0 0 behind lines job.body) (flat_map-map (λ (part : List Statement). part) (statements_of job) job.body)
    (subst (λ (xs : List Stmt). Shows job blocks 0 0 behind (joined (map (statements_of job) xs)) xs) same shows)
