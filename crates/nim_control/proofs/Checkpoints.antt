-- What objects hold at first is what they hold at the start of a job.
use Rattle.std.proofs.Common.{◌≡◌, ℕ, ◌+◌, zero, suc, true, List, [], ◌∷◌, length, map, replicate, get_or, refl, ap, ap₂, sym, ◌∙◌, arith}
use Rattle.std.specs.Prelude.{◌==◌}
use Rattle.std.specs.List.{list_all, range_with_len}
use Rattle.std.proofs.lemmas.Bool.{and_parts, eqb-true}
use Rattle.nim_base.specs.declared.number.Object.{Object}
use Rattle.nim_base.specs.Value.{empty_grid, filled}
use Rattle.nim_job.specs.declared.job.Init.{Init}
use Rattle.nim_job.specs.declared.job.Init.TheVariants.{Fill, Iota, Loaded}
use Rattle.nim_job.specs.declared.job.Job.{Job}
use Rattle.nim_job.specs.declared.job.Var.{Var}
use Rattle.nim_job.specs.Machine.{Machine, start_machine}
use Rattle.nim_job.specs.Objects.{initial_parts, initial_values, objects_of}
use Rattle.nim_job.specs.Saved.{driver_in}
use Rattle.nim_job.specs.Serial.{driver_at}
use Rattle.nim_job.specs.Step.{State, start}
use Rattle.nim_job.specs.Whole.{has_init, is_loaded, is_whole}
use Rattle.nim_job.proofs.Whole.{whole_inits}
use Rattle.nim_control.specs.declared.checkpoint.Checkpoint.{Checkpoint}
use Rattle.nim_control.specs.Checkpoints.{IsCheckpointAt, at_first, first_value, version_read}
use Rattle.nim_control.specs.Given.{objects_from}
use Rattle.nim_job.proofs.TaskLeaves.{length-initial, length-parts}

-- ---- lists

-- one thing, as often as there are numbers
same_each : {X Y : Type 0} (f : X → Y) (x : X) (a n : ℕ) → map (λ (k : ℕ). f x) (range_with_len a n) ≡ map f (replicate n x)
same_each f x a zero = refl
same_each {X} {Y} f x a (suc n) = ap (λ (ys : List Y). f x ∷ ys) (same_each f x (a + 1) n)

-- a function of what a function of numbers gives
of_each : {X Y : Type 0} (f : X → Y) (g : ℕ → X) (ks : List ℕ) → map (λ (k : ℕ). f (g k)) ks ≡ map f (map g ks)
of_each f g [] = refl
of_each {X} {Y} f g (k ∷ ks) = ap (λ (ys : List Y). f (g k) ∷ ys) (of_each f g ks)

-- a function of the items is one of their numbers
by_number : {X Y : Type 0} (f : X → Y) (g : ℕ → Y) (d : X) (xs : List X) (a : ℕ) → ((k : ℕ) → g (a + k) ≡ f (get_or xs k d))
    → map g (range_with_len a (length xs)) ≡ map f xs
by_number f g d [] a are = refl
by_number {X} {Y} f g d (x ∷ xs) a are =
    let here : a + 0 ≡ a = omega arith in
    ap₂ (λ (y : Y) (ys : List Y). y ∷ ys) (ap g (sym here) ∙ are 0)
    (by_number f g d xs (a + 1) (λ k. let next : a + 1 + k ≡ a + suc k = omega arith in ap g next ∙ are (suc k)))

-- ---- what objects hold at first

-- the parts of a variable by their numbers
pub parts_by_number : (v : Var) (init : Init) → has_init v.parts v.shape init ≡ true
    → map (λ (part : ℕ). at_first (first_value v.shape init part)) (range_with_len 0 v.parts) ≡ map at_first (initial_parts v init)
parts_by_number v (Fill number) is = same_each at_first (filled v.shape number) 0 v.parts
parts_by_number v Iota is = of_each at_first (first_value v.shape Iota) (range_with_len 0 v.parts)
parts_by_number v (Loaded values) is =
    let count = eqb-true (length values) v.parts (and_parts (length values == v.parts) (list_all (is_loaded v.shape) values) is).0 in
    ap (λ (n : ℕ). map (λ (part : ℕ). at_first (first_value v.shape (Loaded values) part)) (range_with_len 0 n)) (sym count)
    ∙ by_number at_first (λ (part : ℕ). at_first (first_value v.shape (Loaded values) part)) empty_grid values 0
    (λ k. let same : 0 + k ≡ k = omega arith in ap (λ (part : ℕ). at_first (first_value v.shape (Loaded values) part)) same)

-- ---- the start

starts : (job : Job) → driver_at job 0 ≡ start job
unfolding driver_at
starts job = refl

-- what the first task would read of an object
read_first : (job : Job) (k : ℕ) → version_read job 0 (record { 0 = 0 + (0 + k) }) ≡ at_first (get_or (initial_values job.vars) k empty_grid)
read_first job k =
    let same : 0 + (0 + k) ≡ k = omega arith in
    ap (λ (n : ℕ). version_read job 0 (record { 0 = n })) same

-- of all objects
all_read : (job : Job) → is_whole job ≡ true → map (version_read job 0) (objects_from 0 (objects_of job.vars)) ≡ map at_first (initial_values job.vars)
all_read job whole =
    let object : ℕ → Object = λ (part : ℕ). record { 0 = 0 + part } in
    sym (of_each (version_read job 0) object (range_with_len 0 (objects_of job.vars)))
    ∙ ap (λ (n : ℕ). map (λ (part : ℕ). version_read job 0 (object part)) (range_with_len 0 n)) (sym (length-initial job.vars (whole_inits job whole)))
    ∙ by_number at_first (λ (part : ℕ). version_read job 0 (object part)) empty_grid (initial_values job.vars) 0 (read_first job)

-- a checkpoint whose driver is the machine's of a job that was just made, with what the objects hold at first
pub is_first : (job : Job) (m : Machine) (checkpoint : Checkpoint) → is_whole job ≡ true → m ≡ start_machine job
    → driver_in m.body checkpoint.state ≡ m.driver → checkpoint.position ≡ 0 → checkpoint.objects ≡ map at_first (initial_values job.vars)
    → IsCheckpointAt job 0 checkpoint
is_first job m checkpoint whole is stands none holds = record {
  state = ap (λ body. driver_in body checkpoint.state) (sym (ap (λ (n : Machine). n.body) is)) ∙ stands
      ∙ ap (λ (n : Machine). n.driver) is ∙ ap (λ (s : State). s.driver) (sym (starts job));
  position = none ∙ ap (λ (s : State). s.position) (sym (starts job));
  objects = holds ∙ sym (all_read job whole)
      ∙ ap (λ (s : State). map (version_read job s.position) (objects_from 0 (objects_of job.vars))) (sym (starts job));
}
