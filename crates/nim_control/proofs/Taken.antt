-- What is left of a list of commands once those of a worker are taken out of it.
use Rattle.std.proofs.Common.{◌≡◌, ℕ, Bool, true, false, List, [], ◌∷◌, map, refl, ap, sym, ◌∙◌}
use Rattle.std.specs.Prelude.{◌==◌, not, if◌then◌else◌}
use Rattle.std.specs.List.{filter}
use Rattle.std.proofs.lemmas.Bool.{eqb-true, ne_eqb}
use Rattle.nim_base.specs.declared.number.Worker.{Worker}
use Rattle.nim_command.specs.declared.command.Command.{Command}
use Rattle.nim_place.specs.Stands.{commands_for}

-- whether a command is another worker's
abbrev pub is_other : ℕ → Worker × Command → Bool
is_other number c = not (c.0.0 == number)

-- the first command is the worker's, or it isn't
for_own : (worker : Worker) (c : Worker × Command) (cs : List (Worker × Command)) → (c.0.0 == worker.0) ≡ true
    → commands_for worker (c ∷ cs) ≡ c.1 ∷ commands_for worker cs
for_own worker c cs own =
    let mine : List (Worker × Command) = filter (λ (one : Worker × Command). one.0.0 == worker.0) cs in
    ap (λ (b : Bool). map (λ (one : Worker × Command). one.1) (if b then c ∷ mine else mine)) own

for_other : (worker : Worker) (c : Worker × Command) (cs : List (Worker × Command)) → (c.0.0 == worker.0) ≡ false
    → commands_for worker (c ∷ cs) ≡ commands_for worker cs
for_other worker c cs other =
    let mine : List (Worker × Command) = filter (λ (one : Worker × Command). one.0.0 == worker.0) cs in
    ap (λ (b : Bool). map (λ (one : Worker × Command). one.1) (if b then c ∷ mine else mine)) other

others_own : (number : ℕ) (c : Worker × Command) (cs : List (Worker × Command)) → (c.0.0 == number) ≡ true
    → filter (is_other number) (c ∷ cs) ≡ filter (is_other number) cs
others_own number c cs own =
    let rest : List (Worker × Command) = filter (is_other number) cs in
    ap (λ (b : Bool). if not b then c ∷ rest else rest) own

others_other : (number : ℕ) (c : Worker × Command) (cs : List (Worker × Command)) → (c.0.0 == number) ≡ false
    → filter (is_other number) (c ∷ cs) ≡ c ∷ filter (is_other number) cs
others_other number c cs other =
    let rest : List (Worker × Command) = filter (is_other number) cs in
    ap (λ (b : Bool). if not b then c ∷ rest else rest) other

-- one more of them in front
kept_front : (number : ℕ) (worker : Worker) (c : Worker × Command) (cs : List (Worker × Command))
    → commands_for worker (filter (is_other number) cs) ≡ commands_for worker cs
    → commands_for worker (c ∷ filter (is_other number) cs) ≡ commands_for worker (c ∷ cs)
kept_front number worker c cs same = either (c.0.0 == worker.0) refl where
  either : (b : Bool) → (c.0.0 == worker.0) ≡ b → commands_for worker (c ∷ filter (is_other number) cs) ≡ commands_for worker (c ∷ cs)
  either true own =
      for_own worker c (filter (is_other number) cs) own ∙ ap (λ (ts : List Command). c.1 ∷ ts) same ∙ sym (for_own worker c cs own)
  either false other = for_other worker c (filter (is_other number) cs) other ∙ same ∙ sym (for_other worker c cs other)

-- another worker's commands are still there
pub others_there : (number : ℕ) (worker : Worker) (cs : List (Worker × Command)) → (worker.0 ≡ number → ⊥)
    → commands_for worker (filter (is_other number) cs) ≡ commands_for worker cs
others_there number worker [] apart = refl
others_there number worker (c ∷ cs) apart = either (others_there number worker cs apart) (c.0.0 == number) refl where
  either : commands_for worker (filter (is_other number) cs) ≡ commands_for worker cs → (b : Bool) → (c.0.0 == number) ≡ b
      → commands_for worker (filter (is_other number) (c ∷ cs)) ≡ commands_for worker (c ∷ cs)
  either rest true own =
      let is : c.0.0 ≡ number = eqb-true c.0.0 number own in
      ap (commands_for worker) (others_own number c cs own) ∙ rest
      ∙ sym (for_other worker c cs (ne_eqb c.0.0 worker.0 (λ same. apart (sym same ∙ is))))
  either rest false other = ap (commands_for worker) (others_other number c cs other) ∙ kept_front number worker c cs rest
