-- One command alone among directed orders.
use Rattle.std.proofs.Common.{◌≡◌, ℕ, Bool, true, false, List, [], ◌∷◌, ◌++◌, map, refl, ap, ◌∙◌}
use Rattle.std.specs.Prelude.{◌==◌, if◌then◌else◌}
use Rattle.std.proofs.Math.Path.{fun_ext}
use Rattle.nim_base.specs.declared.number.Worker.{Worker}
use Rattle.nim_command.specs.declared.command.Command.{Command}
use Rattle.nim_message.specs.declared.order.ToWorker.{ToWorker}
use Rattle.nim_place.specs.Extends.{longer, single_with, singles_of}
use Rattle.nim_place.specs.Directed.{Directed, by_number, orders_to}
use Rattle.nim_place.proofs.Directed.{to_append}
use Rattle.nim_course.specs.OrdersGiven.{no_instance, single_for}

-- one command more, alone
one_alone : (epoch number : ℕ) (c : Worker × Command)
    → orders_to number (single_for epoch c ∷ []) ≡ singles_of epoch no_instance (c ∷ []) number
one_alone epoch number c = either (c.0.0 == number) where
  either : (b : Bool)
      → map (λ (d : Directed). d.1) (if b then single_for epoch c ∷ [] else [])
      ≡ single_with epoch no_instance (map (λ (d : Worker × Command). d.1) (if b then c ∷ [] else []))
  either true = refl
  either false = refl

pub more_alone : (given : List Directed) (epoch : ℕ) (c : Worker × Command)
    → by_number (given ++ single_for epoch c ∷ []) ≡ longer (by_number given) (singles_of epoch no_instance (c ∷ []))
more_alone given epoch c =
    fun_ext (λ number. to_append number given (single_for epoch c ∷ [])
    ∙ ap (λ (xs : List ToWorker). orders_to number given ++ xs) (one_alone epoch number c))
