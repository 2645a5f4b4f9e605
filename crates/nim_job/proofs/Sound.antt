-- What a whole job's statements name is there, and they nest at most 16 deep.
use Rattle.std.proofs.Common.{◌≡◌, ℕ, ◌+◌, ◌≤◌, Bool, true, false, List, [], ◌∷◌, length, map, refl, ap, sym, subst, ◌∙◌, arith, Option, None, Some}
use Rattle.std.specs.Prelude.{◌&&◌, if◌then◌else◌, is_some, nat_lt}
use Rattle.std.specs.List.{list_all}
use Rattle.std.specs.Option.{option_and_then}
use Rattle.std.proofs.lemmas.Bool.{and_from, and_parts, ltb-true}
use Rattle.std.proofs.lemmas.Bool.Decides.{nat_tests}
use Rattle.std.proofs.lemmas.List.{map-id}
use Rattle.std.proofs.lemmas.List.Folds.{list_all-map}
use Rattle.nim_job.specs.declared.job.Job.{Job}
use Rattle.nim_job.specs.declared.stmt.Stmt.{Stmt, fold-Stmt, fold-roll-Stmt, ind-Stmt, map-Stmt, roll-Stmt}
use Rattle.nim_job.specs.declared.stmt.Stmt.TheOpen.{Stmt-F}
use Rattle.nim_job.specs.Levels.{depth_in, depth_of, greatest, stmt_depth}
use Rattle.nim_job.specs.Whole.{Scan, is_atom, is_call, is_checked, is_cond, is_whole, scalars_set, scan_all, scan_body, scan_of, scan_stmt, set_at}
use Rattle.nim_job.proofs.Whole.{whole_checked}

-- whether what a statement names is there, of its parts
abbrev pub sound_stmt : Job → Stmt-F Bool → Bool
sound_stmt job (Stmt-F.Do block args) = is_call job block (length args)
sound_stmt job (Stmt-F.Get s var part row cell) = nat_lt var (length job.vars)
sound_stmt job (Stmt-F.Loop turns body) = list_all (λ is. is) body
sound_stmt job (Stmt-F.While cond body) = list_all (λ is. is) body
sound_stmt job (Stmt-F.If cond first second) = list_all (λ is. is) first && list_all (λ is. is) second
sound_stmt job (Stmt-F.Output var) = nat_lt var (length job.vars)
sound_stmt job _ = true

abbrev pub is_sound : Job → Stmt → Bool
is_sound job stmt = fold-Stmt Bool (sound_stmt job) stmt

-- a statement that is whole where it stands is sound, and nests no deeper than it may
abbrev Fine : Job → Stmt → Type 0
Fine job stmt = (depth k behind : ℕ) → depth ≤ 16 → scan_of job stmt depth k ≡ Some behind → (is_sound job stmt ≡ true) × (depth + depth_of stmt ≤ 16)

pub then_parts : (f : ℕ → Option ℕ) (o : Option ℕ) (behind : ℕ) → option_and_then f o ≡ Some behind → (n : ℕ) × (o ≡ Some n) × (f n ≡ Some behind)
then_parts f None behind is = absurd cc
then_parts f (Some n) behind is = (n, refl, is)

taken : (b : Bool) (o : Option ℕ) (behind : ℕ) → (if b then o else None) ≡ Some behind → (b ≡ true) × (o ≡ Some behind)
taken true o behind is = (refl, is)
taken false o behind is = absurd cc

-- statements one after another, each of which has its own proof beside it
abbrev AllFine : Job → List Stmt → ℕ → Type 0
AllFine job stmts depth = (list_all (λ is. is) (map (is_sound job) stmts) ≡ true) × (depth + greatest (map depth_of stmts) ≤ 16)

all_fine : (job : Job) {E : Type 0} (stmt_of : E → Stmt) → ((e : E) → Fine job (stmt_of e)) → (es : List E) (depth k behind : ℕ) → depth ≤ 16
    → scan_all (map (scan_of job) (map stmt_of es)) depth k ≡ Some behind → AllFine job (map stmt_of es) depth
all_fine job stmt_of fine [] depth k behind within set = (refl, omega arith)
all_fine job stmt_of fine (e ∷ es) depth k behind within set =
    let found = then_parts (λ (n : ℕ). scan_all (map (scan_of job) (map stmt_of es)) depth n) (scan_of job (stmt_of e) depth k) behind set in
    let first = fine e depth k found.0 within found.1 in
    let others = all_fine job stmt_of fine es depth found.0 behind within found.2 in
    (and_from (is_sound job (stmt_of e)) (list_all (λ is. is) (map (is_sound job) (map stmt_of es))) first.0 others.0, omega (arith, first.1, others.1))

-- a body further in
body_fine : (job : Job) {E : Type 0} (stmt_of : E → Stmt) → ((e : E) → Fine job (stmt_of e)) → (es : List E) (depth k behind : ℕ)
    → scan_body (map (scan_of job) (map stmt_of es)) depth k ≡ Some behind → AllFine job (map stmt_of es) (depth + 1)
body_fine job stmt_of fine es depth k behind set =
    let deep = taken (nat_lt depth 16) (scan_all (map (scan_of job) (map stmt_of es)) (depth + 1) k) behind set in
    let below = ltb-true depth 16 deep.0 in
    all_fine job stmt_of fine es (depth + 1) k behind (omega (arith, below)) deep.1

-- a statement, of its parts
abbrev FineOut : Job → Stmt-F Stmt → Type 0
FineOut job x = (depth k behind : ℕ) → depth ≤ 16 → scan_stmt job (map-Stmt Stmt Scan (scan_of job) x) depth k ≡ Some behind
    → (sound_stmt job (map-Stmt Stmt Bool (is_sound job) x) ≡ true) × (depth + stmt_depth (map-Stmt Stmt ℕ depth_of x) ≤ 16)

rolled : (job : Job) (x : Stmt-F Stmt) → FineOut job x → Fine job (roll-Stmt x)
rolled job x fine = λ depth k behind within set.
    let out = fine depth k behind within (sym (ap (λ (scan : Scan). scan depth k) (fold-roll-Stmt Scan (scan_stmt job) x)) ∙ set) in
    (fold-roll-Stmt Bool (sound_stmt job) x ∙ out.0, omega (arith, out.1, fold-roll-Stmt ℕ stmt_depth x))

-- a part with its proof
abbrev Part : Job → Type 0
Part job = (stmt : Stmt) × Fine job stmt

fine_by_parts : (job : Job) (y : Stmt-F (Part job)) → Fine job (roll-Stmt (map-Stmt (Part job) Stmt (λ e. e.0) y))
fine_by_parts job (Stmt-F.Do block args) =
    rolled job (Stmt-F.Do block args) (λ depth k behind within set.
    let found = taken (is_call job block (length args) && list_all (is_atom k) args) (Some k) behind set in
    ((and_parts (is_call job block (length args)) (list_all (is_atom k) args) found.0).0, omega (arith, within)))
fine_by_parts job (Stmt-F.Let s first rest) = rolled job (Stmt-F.Let s first rest) (λ depth k behind within set. (refl, omega (arith, within)))
fine_by_parts job (Stmt-F.Get s var part row cell) =
    rolled job (Stmt-F.Get s var part row cell) (λ depth k behind within set.
    ((taken (nat_lt var (length job.vars)) (set_at k s) behind set).0, omega (arith, within)))
fine_by_parts job (Stmt-F.Loop turns es) =
    let stmts = map (λ (e : Part job). e.0) es in
    rolled job (Stmt-F.Loop turns stmts) (λ depth k behind within set.
    let found = taken (is_atom k turns) (scan_body (map (scan_of job) stmts) depth k) behind set in
    let inner = body_fine job (λ (e : Part job). e.0) (λ e. e.1) es depth k behind found.1 in
    (inner.0, omega (arith, inner.1)))
fine_by_parts job (Stmt-F.While cond es) =
    let stmts = map (λ (e : Part job). e.0) es in
    rolled job (Stmt-F.While cond stmts) (λ depth k behind within set.
    let found = taken (is_cond k cond) (scan_body (map (scan_of job) stmts) depth k) behind set in
    let inner = body_fine job (λ (e : Part job). e.0) (λ e. e.1) es depth k behind found.1 in
    (inner.0, omega (arith, inner.1)))
fine_by_parts job (Stmt-F.If cond es fs) =
    let firsts = map (λ (e : Part job). e.0) es in
    let seconds = map (λ (e : Part job). e.0) fs in
    rolled job (Stmt-F.If cond firsts seconds) (λ depth k behind within set.
    let found = taken (is_cond k cond) (option_and_then (λ (n : ℕ). scan_body (map (scan_of job) seconds) depth n)
    (scan_body (map (scan_of job) firsts) depth k)) behind set in
    let between = then_parts (λ (n : ℕ). scan_body (map (scan_of job) seconds) depth n) (scan_body (map (scan_of job) firsts) depth k) behind found.1 in
    let first = body_fine job (λ (e : Part job). e.0) (λ e. e.1) es depth k between.0 between.1 in
    let second = body_fine job (λ (e : Part job). e.0) (λ e. e.1) fs depth between.0 behind between.2 in (
      and_from (list_all (λ is. is) (map (is_sound job) firsts)) (list_all (λ is. is) (map (is_sound job) seconds)) first.0 second.0,
      omega
          (arith, first.1, second.1),
    ))
fine_by_parts job Stmt-F.Checkpoint = rolled job Stmt-F.Checkpoint (λ depth k behind within set. (refl, omega (arith, within)))
fine_by_parts job (Stmt-F.Output var) =
    rolled job (Stmt-F.Output var) (λ depth k behind within set. ((taken (nat_lt var (length job.vars)) (Some k) behind set).0, omega (arith, within)))

every_fine : (job : Job) (stmt : Stmt) → Fine job stmt
every_fine job = ind-Stmt (Fine job) (λ x y is. subst (λ (z : Stmt-F Stmt). Fine job (roll-Stmt z)) is (fine_by_parts job y))

pub set_some : (o : Option ℕ) → is_some o ≡ true → (n : ℕ) × (o ≡ Some n)
set_some None is = absurd cc
set_some (Some n) is = (n, refl)

checked_body : (job : Job) → is_checked job ≡ true → is_some (scalars_set job) ≡ true
checked_body job checked = grind (arith, nat_tests)

body_whole : (job : Job) → is_whole job ≡ true → AllFine job job.body 0
body_whole job whole =
    let set = set_some (scalars_set job) (checked_body job (whole_checked job whole)) in
    let same = map-id job.body in
    subst (λ (stmts : List Stmt). AllFine job stmts 0) same
    (all_fine job (λ (stmt : Stmt). stmt) (every_fine job) job.body 0 0 set.0 (omega arith)
    (ap (λ (xs : List Stmt). scan_all (map (scan_of job) xs) 0 0) same ∙ set.1))

-- the statements of a whole job name what is there
pub body_sound : (job : Job) → is_whole job ≡ true → list_all (is_sound job) job.body ≡ true
body_sound job whole = sym (list_all-map (λ is. is) (is_sound job) job.body) ∙ (body_whole job whole).0

-- and they nest at most 16 deep
pub body_shallow : (job : Job) → is_whole job ≡ true → depth_in job.body ≤ 16
body_shallow job whole = let deep = (body_whole job whole).1 in omega (arith, deep)
