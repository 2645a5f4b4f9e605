-- The stages of a job mean the same where loaded data aren't there.
use Rattle.std.proofs.Common.{◌≡◌, ℕ, ◌+◌, zero, suc, List, [], ◌∷◌, take, map, refl, ap, ap₂, ◌∙◌, Option, None, Some}
use Rattle.std.specs.Prelude.{slice_get, if◌then◌else◌}
use Rattle.std.specs.List.{list_all, range_with_len}
use Rattle.std.specs.Option.{option_map_or}
use Rattle.std.proofs.lemmas.List.{take-map}
use Rattle.nim_base.specs.declared.number.Object.{Object}
use Rattle.nim_job.specs.declared.block.Ref.{Ref as job_ref}
use Rattle.nim_job.specs.declared.block.Stage.{Stage as job_stage}
use Rattle.nim_job.specs.declared.job.Var.{Var as job_var}
use Rattle.nim_job.specs.Objects.{first_object, objects_of, parts_of}
use Rattle.nim_job.specs.Tasks.{object_meant, part_of, task_count}
use Rattle.nim_job.specs.Whole.{are_distinct, has_distinct}
use Rattle.nim_base.proofs.Lists.{all_same}
use Rattle.nim_printed.proofs.JobLists.{map_same}
use Rattle.nim_printed.proofs.JobVars.{objects_unloaded, unloaded_vars, without}

parts_unloaded : (vars : List job_var) (var : ℕ) → parts_of (unloaded_vars vars) var ≡ parts_of vars var
parts_unloaded [] var = refl
parts_unloaded (v ∷ vars) zero = refl
parts_unloaded (v ∷ vars) (suc var) = parts_unloaded vars var

first_unloaded : (vars : List job_var) (var : ℕ) → first_object (unloaded_vars vars) var ≡ first_object vars var
first_unloaded vars var = ap objects_of (take-map without var vars) ∙ objects_unloaded (take var vars)

object_unloaded : (vars : List job_var) (i : ℕ) (ref : job_ref) → object_meant (unloaded_vars vars) i ref ≡ object_meant vars i ref
object_unloaded vars i ref =
    ap₂ (λ (first parts : ℕ). let object : Object = record { 0 = first + part_of ref.place i parts } in object) (first_unloaded vars ref.var)
    (parts_unloaded vars ref.var)

written_unloaded : (vars : List job_var) (ref : Option job_ref)
    → option_map_or (λ (r : job_ref). parts_of (unloaded_vars vars) r.var) ref 0 ≡ option_map_or (λ (r : job_ref). parts_of vars r.var) ref 0
written_unloaded vars None = refl
written_unloaded vars (Some ref) = parts_unloaded vars ref.var

pub turns_unloaded : (vars : List job_var) (stage : job_stage) → task_count (unloaded_vars vars) stage ≡ task_count vars stage
turns_unloaded vars stage = ap (λ (n : ℕ). if stage.each then n else 1) (written_unloaded vars (slice_get stage.writes 0))

pub distinct_unloaded : (vars : List job_var) (stage : job_stage) → has_distinct (unloaded_vars vars) stage ≡ has_distinct vars stage
distinct_unloaded vars stage =
    ap (λ (turns : ℕ). list_all (λ i. are_distinct (map (object_meant (unloaded_vars vars) i) stage.writes)) (range_with_len 0 turns))
    (turns_unloaded vars stage)
    ∙ all_same (λ i. are_distinct (map (object_meant (unloaded_vars vars) i) stage.writes)) (λ i. are_distinct (map (object_meant vars i) stage.writes))
    (λ i. ap are_distinct (map_same (object_meant (unloaded_vars vars) i) (object_meant vars i) (object_unloaded vars i) stage.writes))
    (range_with_len 0 (task_count vars stage))
