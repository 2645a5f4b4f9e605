-- A machine asks, and is answered: what it counts, and what is unanswered then.
use Rattle.std.proofs.Common.{◌≡◌, ℕ, ◌+◌, ◌<◌, ◌≤◌, Bool, true, false, List, [], ◌∷◌, ◌++◌, length, refl, ◌∙◌, arith, None}
use Rattle.std.specs.Prelude.{nat_le, if◌then◌else◌}
use Rattle.nim_job.specs.declared.item.Item.{Item}
use Rattle.nim_job.specs.Driver.{output_limit}
use Rattle.nim_job.specs.Machine.{Machine, after_ask, appended, ask_of, asked_now, before_ask, item_asked, items_asked}
use Rattle.nim_job.specs.Quiet.{quiet_step}
use Rattle.nim_course.proofs.Asking.{before_kept, goes_on, now_after}

-- asking leaves the most that are counted
items_steps : (m : Machine) (items : List Item) → (items_asked m items).steps ≡ m.steps
items_steps m [] = refl
items_steps m (item ∷ rest) = either (nat_le m.steps m.driver.count) where
  either : (b : Bool) → (if b then m else record m { driver = quiet_step m.driver; asked = item_asked item }).steps ≡ m.steps
  either true = refl
  either false = refl

now_steps : (m : Machine) → (asked_now m).steps ≡ m.steps
now_steps m = either m.full where
  either : (b : Bool) → (if b then m else items_asked m m.driver.todo).steps ≡ m.steps
  either true = refl
  either false = items_steps m m.driver.todo

-- What is left to be counted once a machine has asked: where something is asked for it is less.
pub record CountsOn (m after : Machine) (counted : Bool) : Type 0 where
  pub steps : after.steps ≡ m.steps
  pub more : m.driver.count ≤ after.driver.count
  pub counts : counted ≡ true → (m.driver.count < after.driver.count) × (after.driver.count ≤ m.steps)

pub asking : (m : Machine) → CountsOn m (after_ask m) (goes_on (ask_of m))
asking m =
    let before = before_kept m in
    let after = now_after (before_ask m) in
    record {
      steps = now_steps (before_ask m) ∙ before.steps;
      more = omega (arith, before.driver.count, after.fewer);
      counts = λ goes. (
        omega (arith, before.driver.count, (after.counted goes).0),
        omega (arith, before.steps, (after.counted goes).0, (after.counted goes).1),
      );
    }

-- a text is no statement
pub appending : (m : Machine) (text : List ℕ) → CountsOn m (appended m text) false
appending m text = either (nat_le (length m.driver.output + length text) output_limit) where
  either : (b : Bool)
      → CountsOn m (if b then record m { driver = record m.driver { output = m.driver.output ++ text }; asked = None }
      else record m { asked = None; full = true }) false
  either true = record { steps = refl; more = omega arith; counts = λ counted. absurd cc }
  either false = record { steps = refl; more = omega arith; counts = λ counted. absurd cc }
