-- The bodies that aren't opened yet, and their scan: each at the depth of the bodies around it.
use Rattle.std.proofs.Common.{◌≡◌, ◌∙◌, ℕ, suc, ◌+◌, true, List, [], ◌∷◌, length, map, refl, ap, sym, add-one, None, Some}
use Rattle.std.specs.Prelude.{Option, nat_lt, ◌&&◌}
use Rattle.std.specs.List.{list_all}
use Rattle.std.specs.Option.{option_and_then}
use Rattle.std.proofs.lemmas.Bool.{cond-true}
use Rattle.nim_job.specs.declared.job.Job.{Job}
use Rattle.nim_job.specs.declared.stmt.Arith.{Arith}
use Rattle.nim_job.specs.declared.stmt.Atom.{Atom as job_atom}
use Rattle.nim_job.specs.declared.stmt.Cond.{Cond}
use Rattle.nim_job.specs.declared.stmt.Stmt.{Stmt, fold-roll-Stmt}
use Rattle.nim_job.specs.declared.stmt.Stmt.TheOpen.{Stmt-F}
use Rattle.nim_job.specs.declared.stmt.Stmt.TheVariants as stmt
use Rattle.nim_job.specs.Whole.{Scan, is_atom, is_call, is_cond, is_rest, scan_all, scan_body, scan_of, scan_stmt, set_at}
use Rattle.nim_parse.specs.declared.nest.Open.{Open}
use Rattle.nim_parse.specs.declared.nest.Open.TheVariants as opening
use Rattle.nim_check.specs.Body.{Body, no_body, onto, opened, parted}
use Rattle.nim_check.specs.Rules.{opens}

-- ---- one statement's scan

pub do_scan : (job : Job) (block : ℕ) (args : List job_atom) (d n : ℕ) → (is_call job block (length args) && list_all (is_atom n) args) ≡ true
    → scan_of job (stmt.Do block args) d n ≡ Some n
do_scan job block args d n is =
    ap (λ (s : Stmt). scan_of job s d n) (sym (stmt.rolls-Do block args))
    ∙ ap (λ (scan : Scan). scan d n) (fold-roll-Stmt Scan (scan_stmt job) (Stmt-F.Do block args))
    ∙ cond-true _ (Some n) None is

pub let_scan : (job : Job) (s : ℕ) (first : job_atom) (rest : Option (Arith × job_atom)) (d n : ℕ) → (is_atom n first && is_rest n rest) ≡ true
    → scan_of job (stmt.Let s first rest) d n ≡ set_at n s
let_scan job s first rest d n is =
    ap (λ (t : Stmt). scan_of job t d n) (sym (stmt.rolls-Let s first rest))
    ∙ ap (λ (scan : Scan). scan d n) (fold-roll-Stmt Scan (scan_stmt job) (Stmt-F.Let s first rest))
    ∙ cond-true _ (set_at n s) None is

pub get_scan : (job : Job) (s var part row cell d n : ℕ) → nat_lt var (length job.vars) ≡ true → scan_of job (stmt.Get s var part row cell) d n ≡ set_at n s
get_scan job s var part row cell d n is =
    ap (λ (t : Stmt). scan_of job t d n) (sym (stmt.rolls-Get s var part row cell))
    ∙ ap (λ (scan : Scan). scan d n) (fold-roll-Stmt Scan (scan_stmt job) (Stmt-F.Get s var part row cell))
    ∙ cond-true _ (set_at n s) None is

pub checkpoint_scan : (job : Job) (d n : ℕ) → scan_of job stmt.Checkpoint d n ≡ Some n
checkpoint_scan job d n =
    ap (λ (t : Stmt). scan_of job t d n) (sym stmt.rolls-Checkpoint)
    ∙ ap (λ (scan : Scan). scan d n) (fold-roll-Stmt Scan (scan_stmt job) Stmt-F.Checkpoint)

pub output_scan : (job : Job) (var d n : ℕ) → nat_lt var (length job.vars) ≡ true → scan_of job (stmt.Output var) d n ≡ Some n
output_scan job var d n is =
    ap (λ (t : Stmt). scan_of job t d n) (sym (stmt.rolls-Output var))
    ∙ ap (λ (scan : Scan). scan d n) (fold-roll-Stmt Scan (scan_stmt job) (Stmt-F.Output var))
    ∙ cond-true _ (Some n) None is

-- what a body's scan is where it isn't too deep
body_scan : (job : Job) (body : List Stmt) (d n : ℕ) → nat_lt d 16 ≡ true → scan_body (map (scan_of job) body) d n ≡ scan_all (map (scan_of job) body) (suc d) n
body_scan job body d n few =
    cond-true (nat_lt d 16) (scan_all (map (scan_of job) body) (d + 1) n) None few ∙ ap (λ e. scan_all (map (scan_of job) body) e n) (add-one d)

pub loop_scan : (job : Job) (turns : job_atom) (body : List Stmt) (d n : ℕ) → is_atom n turns ≡ true → nat_lt d 16 ≡ true
    → scan_of job (stmt.Loop turns body) d n ≡ scan_all (map (scan_of job) body) (suc d) n
loop_scan job turns body d n is few =
    ap (λ (t : Stmt). scan_of job t d n) (sym (stmt.rolls-Loop turns body))
    ∙ ap (λ (scan : Scan). scan d n) (fold-roll-Stmt Scan (scan_stmt job) (Stmt-F.Loop turns body))
    ∙ cond-true (is_atom n turns) (scan_body (map (scan_of job) body) d n) None is
    ∙ body_scan job body d n few

pub while_scan : (job : Job) (test : Cond) (body : List Stmt) (d n : ℕ) → is_cond n test ≡ true → nat_lt d 16 ≡ true
    → scan_of job (stmt.While test body) d n ≡ scan_all (map (scan_of job) body) (suc d) n
while_scan job test body d n is few =
    ap (λ (t : Stmt). scan_of job t d n) (sym (stmt.rolls-While test body))
    ∙ ap (λ (scan : Scan). scan d n) (fold-roll-Stmt Scan (scan_stmt job) (Stmt-F.While test body))
    ∙ cond-true (is_cond n test) (scan_body (map (scan_of job) body) d n) None is
    ∙ body_scan job body d n few

two_scans : (job : Job) (first second : List Stmt) (d n : ℕ) → nat_lt d 16 ≡ true
    → option_and_then (λ m. scan_body (map (scan_of job) second) d m) (scan_body (map (scan_of job) first) d n)
    ≡ option_and_then (λ m. scan_all (map (scan_of job) second) (suc d) m) (scan_all (map (scan_of job) first) (suc d) n)
two_scans job first second d n few =
    ap (option_and_then (λ m. scan_body (map (scan_of job) second) d m)) (body_scan job first d n few)
    ∙ each (scan_all (map (scan_of job) first) (suc d) n)
  where
    each : (o : Option ℕ) → option_and_then (λ m. scan_body (map (scan_of job) second) d m) o
        ≡ option_and_then (λ m. scan_all (map (scan_of job) second) (suc d) m) o
    each None = refl
    each (Some m) = body_scan job second d m few

pub if_scan : (job : Job) (test : Cond) (first second : List Stmt) (d n : ℕ) → is_cond n test ≡ true → nat_lt d 16 ≡ true
    → scan_of job (stmt.If test first second) d n
    ≡ option_and_then (λ m. scan_all (map (scan_of job) second) (suc d) m) (scan_all (map (scan_of job) first) (suc d) n)
if_scan job test first second d n is few =
    ap (λ (t : Stmt). scan_of job t d n) (sym (stmt.rolls-If test first second))
    ∙ ap (λ (scan : Scan). scan d n) (fold-roll-Stmt Scan (scan_stmt job) (Stmt-F.If test first second))
    ∙ cond-true (is_cond n test) (option_and_then (λ m. scan_body (map (scan_of job) second) d m) (scan_body (map (scan_of job) first) d n)) None is
    ∙ two_scans job first second d n few

-- ---- the scan of the bodies that aren't opened yet

-- each body at the depth of those around it, and for an `if` what is behind its `else`
abbrev pub scan_bodies : Job → List Body → ℕ → Option ℕ
scan_bodies job [] n = Some n
scan_bodies job (b ∷ bs) n =
    option_and_then (λ m. option_and_then (scan_bodies job bs) (scan_all (map (scan_of job) b.second) (length bs) m))
    (scan_all (map (scan_of job) b.first) (length bs) n)

-- a body for each that is open, and the driver's own; a second part only where an `if` without its `else` is open
abbrev pub Fits : List Open → List Body → Type 0
Fits [] [] = ⊥
Fits [] (b ∷ []) = b.second ≡ []
Fits [] (b ∷ c ∷ bs) = ⊥
Fits (o ∷ os) [] = ⊥
Fits (opening.Turns ∷ os) (b ∷ bs) = (b.second ≡ []) × Fits os bs
Fits (opening.If ∷ os) (b ∷ bs) = Fits os bs
Fits (opening.Else ∷ os) (b ∷ bs) = (b.second ≡ []) × Fits os bs

none_fits : (os : List Open) → Fits os [] → ⊥
none_fits [] f = f
none_fits (o ∷ os) f = f

fits_length : (os : List Open) (b : Body) (bs : List Body) → Fits os (b ∷ bs) → length bs ≡ length os
fits_length [] b [] f = refl
fits_length [] b (c ∷ bs) f = absurd f
fits_length (opening.Turns ∷ os) b [] f = absurd (none_fits os f.1)
fits_length (opening.If ∷ os) b [] f = absurd (none_fits os f)
fits_length (opening.Else ∷ os) b [] f = absurd (none_fits os f.1)
fits_length (opening.Turns ∷ os) b (c ∷ bs) f = ap suc (fits_length os c bs f.1)
fits_length (opening.If ∷ os) b (c ∷ bs) f = ap suc (fits_length os c bs f)
fits_length (opening.Else ∷ os) b (c ∷ bs) f = ap suc (fits_length os c bs f.1)

and_assoc : (f g : ℕ → Option ℕ) (o : Option ℕ) → option_and_then g (option_and_then f o) ≡ option_and_then (λ m. option_and_then g (f m)) o
and_assoc f g None = refl
and_assoc f g (Some m) = refl

pub put_fits : (s : Stmt) (os : List Open) (bs : List Body) → Fits os bs → Fits os (onto s bs)
put_fits s os [] f = f
put_fits s [] (b ∷ []) f = f
put_fits s [] (b ∷ c ∷ bs) f = f
put_fits s (opening.Turns ∷ os) (b ∷ bs) f = f
put_fits s (opening.If ∷ os) (b ∷ bs) f = f
put_fits s (opening.Else ∷ os) (b ∷ bs) f = f

pub put_scan : (job : Job) (s : Stmt) (os : List Open) (bs : List Body) (n m : ℕ) → Fits os bs → ((d : ℕ) → scan_of job s d n ≡ Some m)
    → scan_bodies job (onto s bs) n ≡ scan_bodies job bs m
put_scan job s os [] n m f h = absurd (none_fits os f)
put_scan job s os (b ∷ bs) n m f h =
    ap (λ o. option_and_then (λ k. option_and_then (scan_bodies job bs) (scan_all (map (scan_of job) b.second) (length bs) k))
    (option_and_then (λ behind. scan_all (map (scan_of job) b.first) (length bs) behind) o)) (h (length bs))

-- what opens goes into the body around it
pub opened_fits : (opens : Body → Stmt) (o : Open) (os : List Open) (bs : List Body) → Fits (o ∷ os) bs → Fits os (opened opens bs)
opened_fits opens o os [] f = absurd f
opened_fits opens opening.Turns os (b ∷ bs) f = put_fits (opens b) os bs f.1
opened_fits opens opening.If os (b ∷ bs) f = put_fits (opens b) os bs f
opened_fits opens opening.Else os (b ∷ bs) f = put_fits (opens b) os bs f.1

pub no_second : (job : Job) (second : List Stmt) (d : ℕ) (g : ℕ → Option ℕ) (o : Option ℕ) → second ≡ []
    → option_and_then (λ m. option_and_then g (scan_all (map (scan_of job) second) d m)) o ≡ option_and_then g o
no_second job second d g None none = refl
no_second job second d g (Some m) none = ap (λ (s : List Stmt). option_and_then g (scan_all (map (scan_of job) s) d m)) none

pub turns_scan : (job : Job) (opens : Body → Stmt) (os : List Open) (bs : List Body) (n : ℕ) → Fits (opening.Turns ∷ os) bs
    → ((b : Body) (d : ℕ) → d ≡ length os → scan_of job (opens b) d n ≡ scan_all (map (scan_of job) b.first) (suc d) n)
    → scan_bodies job (opened opens bs) n ≡ scan_bodies job bs n
turns_scan job opens os [] n f h = absurd f
turns_scan job opens os (b ∷ []) n f h = absurd (none_fits os f.1)
turns_scan job opens os (b ∷ c ∷ bs) n f h =
    let rest : ℕ → Option ℕ = λ k. option_and_then (scan_bodies job bs) (scan_all (map (scan_of job) c.second) (length bs) k) in
    let own : ℕ → Option ℕ = λ m. scan_all (map (scan_of job) c.first) (length bs) m in
    ap (λ o. option_and_then rest (option_and_then own o)) (h b (length bs) (fits_length os c bs f.1))
    ∙ and_assoc own rest (scan_all (map (scan_of job) b.first) (suc (length bs)) n)
    ∙ sym (no_second job b.second (suc (length bs)) (scan_bodies job (c ∷ bs)) (scan_all (map (scan_of job) b.first) (suc (length bs)) n) f.0)

pub if_bodies : (job : Job) (opens : Body → Stmt) (os : List Open) (bs : List Body) (n : ℕ) → Fits (opening.If ∷ os) bs
    → ((b : Body) (d : ℕ) → d ≡ length os → scan_of job (opens b) d n
    ≡ option_and_then (λ m. scan_all (map (scan_of job) b.second) (suc d) m) (scan_all (map (scan_of job) b.first) (suc d) n))
    → scan_bodies job (opened opens bs) n ≡ scan_bodies job bs n
if_bodies job opens os [] n f h = absurd f
if_bodies job opens os (b ∷ []) n f h = absurd (none_fits os f)
if_bodies job opens os (b ∷ c ∷ bs) n f h =
    let d = suc (length bs) in
    let rest : ℕ → Option ℕ = λ k. option_and_then (scan_bodies job bs) (scan_all (map (scan_of job) c.second) (length bs) k) in
    let own : ℕ → Option ℕ = λ m. scan_all (map (scan_of job) c.first) (length bs) m in
    let second : ℕ → Option ℕ = λ m. scan_all (map (scan_of job) b.second) d m in
    let first : Option ℕ = scan_all (map (scan_of job) b.first) d n in
    ap (λ o. option_and_then rest (option_and_then own o)) (h b (length bs) (fits_length os c bs f))
    ∙ and_assoc own rest (option_and_then second first)
    ∙ and_assoc second (λ m. option_and_then rest (own m)) first

pub else_scan : (job : Job) (os : List Open) (bs : List Body) (n : ℕ) → Fits (opening.Else ∷ os) bs → scan_bodies job (parted bs) n ≡ scan_bodies job bs n
else_scan job os [] n f = absurd f
else_scan job os (b ∷ bs) n f = sym (no_second job b.second (length bs) (scan_bodies job bs) (scan_all (map (scan_of job) b.first) (length bs) n) f.0)

pub else_fits : (os : List Open) (bs : List Body) → Fits (opening.Else ∷ os) bs → Fits (opening.If ∷ os) (parted bs)
else_fits os [] f = f
else_fits os (b ∷ bs) f = f.1

pub end_fits : (o : Open) (os : List Open) (bs : List Body) → Fits os bs → Fits (o ∷ os) (no_body ∷ bs)
end_fits opening.Turns os bs f = (refl, f)
end_fits opening.If os bs f = f
end_fits opening.Else os bs f = (refl, f)
