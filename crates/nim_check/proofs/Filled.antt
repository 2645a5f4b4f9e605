-- Parts that no rule refuses fill the loaded variables.
use Rattle.std.proofs.Common.{◌≡◌, ℕ, zero, suc, ◌+◌, true, List, [], ◌∷◌, ◌++◌, length, take, drop, refl, ap, ◌∙◌, None, Some, arith, eq-eqb}
use Rattle.std.specs.Prelude.{◌==◌, if◌then◌else◌}
use Rattle.std.specs.List.{list_all}
use Rattle.std.proofs.lemmas.Bool.{and_from}
use Rattle.std.proofs.lemmas.Bool.Decides.{nat_tests}
use Rattle.nim_base.specs.declared.number.Shape.{Shape}
use Rattle.nim_lex.proofs.Refusals.{no_rule}
use Rattle.nim_job.specs.declared.job.Init.{Init}
use Rattle.nim_job.specs.declared.job.Init.TheVariants.{Fill, Iota, Loaded}
use Rattle.nim_job.specs.declared.job.Job.{Job}
use Rattle.nim_job.specs.declared.job.Var.{Var}
use Rattle.nim_job.specs.Whole.{is_checked, is_filled, is_loaded, is_whole}
use Rattle.nim_data.specs.declared.wanted.Wanted.{Wanted}
use Rattle.nim_data.specs.Parts.{Part}
use Rattle.nim_data.specs.Wanted.{first_fault, part_header, header_rule, values_of}
use Rattle.nim_check.specs.Loading.{with_values_loaded, given_by, holding, is_load, values_left, want, wanted, wanted_of, wants}
use Rattle.nim_check.proofs.SameFrame.{same_checked}

-- a part that no rule refuses
fits_part : (w : Wanted) (part : Part) → header_rule w (part_header part) ≡ None → is_loaded w.shape part.value ≡ true
unfolding header_rule
fits_part w part sound = grind (arith, nat_tests)

-- what parts of a variable leave: its values are whole, and the parts behind them are those that other variables want
record Takes (end : ℕ) (shape : Shape) (n : ℕ) (ws : List Wanted) (parts : List Part) : Type 0 where
  pub count : length (take n (values_of parts)) ≡ n
  pub whole : list_all (is_loaded shape) (take n (values_of parts)) ≡ true
  pub later : first_fault end ws (drop n parts) ≡ None

takes : (end : ℕ) (v : Var) (i n : ℕ) (ws : List Wanted) (parts : List Part) → first_fault end (wants v i n ++ ws) parts ≡ None → Takes end v.shape n ws parts
takes end v i zero ws parts sound = record { count = refl; whole = refl; later = sound }
takes end v i (suc n) ws [] sound = absurd (let some : Some (record { line = end; rule = 73 }) ≡ None = sound in cc)
takes end v i (suc n) ws (part ∷ parts) sound =
    let now = no_rule part.line (header_rule (want v i) (part_header part)) (first_fault end (wants v (i + 1) n ++ ws) parts) sound in
    let rest = takes end v (i + 1) n ws parts now.1 in
    record {
      count = ap (λ (k : ℕ). suc k) rest.count;
      whole = and_from (is_loaded v.shape part.value) (list_all (is_loaded v.shape) (take n (values_of parts))) (fits_part (want v i) part now.0) rest.whole;
      later = rest.later;
    }

values-drop : (n : ℕ) (parts : List Part) → drop n (values_of parts) ≡ values_of (drop n parts)
values-drop zero parts = refl
values-drop (suc n) [] = refl
values-drop (suc n) (part ∷ parts) = values-drop n parts

-- the parts behind those of a variable
abbrev behind : Var → List Part → List Part
behind v parts = if is_load v.init then drop v.parts parts else parts

record Fills (end : ℕ) (v : Var) (ws : List Wanted) (parts : List Part) : Type 0 where
  pub filled : is_filled (holding v (given_by v (values_of parts))) ≡ true
  pub left : values_left v (values_of parts) ≡ values_of (behind v parts)
  pub later : first_fault end ws (behind v parts) ≡ None

fills : (end : ℕ) (v : Var) (init : Init) (ws : List Wanted) (parts : List Part)
    → first_fault end (wanted_of (record v { init = init }) ++ ws) parts ≡ None → Fills end (record v { init = init }) ws parts
fills end v (Fill number) ws parts sound = record { filled = refl; left = refl; later = sound }
fills end v Iota ws parts sound = record { filled = refl; left = refl; later = sound }
fills end v (Loaded values) ws parts sound =
    let taken = takes end v 0 v.parts ws parts sound in
    record {
      filled = and_from (length (take v.parts (values_of parts)) == v.parts) (list_all (is_loaded v.shape) (take v.parts (values_of parts)))
          (eq-eqb (length (take v.parts (values_of parts))) v.parts taken.count) taken.whole;
      left = values-drop v.parts parts;
      later = taken.later;
    }

all_filled : (end : ℕ) (vars : List Var) (parts : List Part) → first_fault end (wanted vars) parts ≡ None
    → list_all is_filled (with_values_loaded vars (values_of parts)) ≡ true
all_filled end [] parts sound = refl
all_filled end (v ∷ vars) parts sound =
    let here = fills end v v.init (wanted vars) parts sound in
    and_from (is_filled (holding v (given_by v (values_of parts)))) (list_all is_filled (with_values_loaded vars (values_left v (values_of parts)))) here.filled
    (rw here.left (all_filled end vars (behind v parts) here.later))

-- a checked job is whole with its data
pub loaded_whole : (end : ℕ) (job : Job) (parts : List Part) → is_checked job ≡ true → first_fault end (wanted job.vars) parts ≡ None
    → is_whole (record job { vars = with_values_loaded job.vars (values_of parts) }) ≡ true
loaded_whole end job parts checked sound =
    and_from (is_checked (record job { vars = with_values_loaded job.vars (values_of parts) }))
    (list_all is_filled (with_values_loaded job.vars (values_of parts)))
    (same_checked job (values_of parts) ∙ checked)
    (all_filled end job.vars parts sound)
