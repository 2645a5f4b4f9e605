-- One more variable adds one, its parts and its cells to the room that variables take.
use Rattle.std.proofs.Common.{◌≡◌, ◌∙◌, ℕ, ◌+◌, ◌*◌, List, [], ◌∷◌, ◌++◌, length, map, ap}
use Rattle.std.specs.Prelude.{◌&&◌, nat_le}
use Rattle.std.specs.List.{sum_by}
use Rattle.std.proofs.lemmas.List.{length-map, length_push, map_push}
use Rattle.std.proofs.lemmas.List.Sums.{sum_by_push}
use Rattle.nim_job.specs.declared.job.Var.{Var as job_var}
use Rattle.nim_job.specs.Objects.{objects_of}
use Rattle.nim_job.specs.Whole.{cells_in}
use Rattle.nim_parse.specs.declared.sections.Var.{Var}
use Rattle.nim_check.specs.Made.{var_of}
use Rattle.nim_check.specs.Rules.{are_few}

sum_push : (f : job_var → ℕ) (vars : List job_var) (v : job_var) → sum_by f (vars ++ v ∷ []) ≡ sum_by f vars + f v
sum_push f vars v = sum_by_push f vars v

length_more : (vars : List Var) (v : Var) → length (map var_of (vars ++ v ∷ [])) ≡ length vars + 1
length_more vars v = length-map (vars ++ v ∷ []) var_of ∙ length_push vars v

sum_more : (f : job_var → ℕ) (vars : List Var) (v : Var) → sum_by f (map var_of (vars ++ v ∷ [])) ≡ sum_by f (map var_of vars) + f (var_of v)
sum_more f vars v = ap (sum_by f) (map_push var_of vars v) ∙ sum_push f (map var_of vars) (var_of v)

pub few_more : (vars : List Var) (v : Var) → are_few (map var_of (vars ++ v ∷ []))
    ≡ (nat_le (length vars + 1) 32 && nat_le (objects_of (map var_of vars) + v.parts) 512
    && nat_le (sum_by cells_in (map var_of vars) + v.parts * (v.width * v.rows)) 1048576)
few_more vars v =
    ap (λ n. nat_le n 32 && nat_le (objects_of (map var_of (vars ++ v ∷ []))) 512 && nat_le (sum_by cells_in (map var_of (vars ++ v ∷ []))) 1048576)
    (length_more vars v)
    ∙ ap (λ n. nat_le (length vars + 1) 32 && nat_le n 512 && nat_le (sum_by cells_in (map var_of (vars ++ v ∷ []))) 1048576)
    (sum_more (λ (w : job_var). w.parts) vars v)
    ∙ ap (λ n. nat_le (length vars + 1) 32 && nat_le (objects_of (map var_of vars) + v.parts) 512 && nat_le n 1048576) (sum_more cells_in vars v)
