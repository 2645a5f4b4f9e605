-- A machine takes the items in front that ask nothing, one after another.
use Rattle.std.proofs.Common.{◌≡◌, ℕ, ◌+◌, ◌-◌, ◌<◌, ◌≤◌, zero, suc, true, false, refl, ap, sym, ◌∙◌, arith}
use Rattle.std.proofs.lemmas.Bool.{cond-false, cond-true, cond_both, false_from_ne_true}
use Rattle.nim_job.specs.Driver.{Driver}
use Rattle.nim_job.specs.Machine.{Machine, before_ask, quiet_steps}
use Rattle.nim_job.specs.Quiet.{is_quiet, quiet_step}
use Rattle.nim_job.proofs.Steps.{quiet_end}

open_before : (m : Machine) → m.full ≡ false → before_ask m ≡ record m { driver = quiet_steps (m.steps - m.driver.count) m.driver }
open_before m open_still = cond-false m.full m (record m { driver = quiet_steps (m.steps - m.driver.count) m.driver }) open_still

-- one item was taken
pub settle_more : (m : Machine) → m.full ≡ false → m.driver.count < m.steps → is_quiet m.driver.todo ≡ true
    → before_ask (record m { driver = quiet_step m.driver }) ≡ before_ask m
settle_more m open_still room quiet =
    let left = m.steps - (m.driver.count + 1) in
    let more : m.steps - m.driver.count ≡ suc left = omega (arith, room) in
    open_before (record m { driver = quiet_step m.driver }) open_still
    ∙ sym (open_before m open_still ∙ ap (λ (k : ℕ). record m { driver = quiet_steps k m.driver }) more
    ∙ ap (λ (d : Driver). record m { driver = d }) (cond-true (is_quiet m.driver.todo) (quiet_steps left (quiet_step m.driver)) m.driver quiet))

asks_once : (k : ℕ) (driver : Driver) → is_quiet driver.todo ≡ false → quiet_steps k driver ≡ driver
asks_once zero driver asks = refl
asks_once (suc k) driver asks = cond-false (is_quiet driver.todo) (quiet_steps k (quiet_step driver)) driver asks

-- an item that asks comes first
pub settle_none : (m : Machine) → is_quiet m.driver.todo ≡ false → before_ask m ≡ m
settle_none m asks =
    cond_both m.full m (record m { driver = quiet_steps (m.steps - m.driver.count) m.driver }) (λ (b : Machine). b ≡ m) (λ full. refl)
    (λ open_still. ap (λ (d : Driver). record m { driver = d }) (asks_once (m.steps - m.driver.count) m.driver asks))

-- no more may be counted
pub settle_full : (m : Machine) → m.steps ≤ m.driver.count → before_ask m ≡ m
settle_full m past =
    let none : m.steps - m.driver.count ≡ 0 = omega (arith, past) in
    cond_both m.full m (record m { driver = quiet_steps (m.steps - m.driver.count) m.driver }) (λ (b : Machine). b ≡ m) (λ full. refl)
    (λ open_still. ap (λ (k : ℕ). record m { driver = quiet_steps k m.driver }) none)

-- where more may be counted afterwards, an item that asks comes first
pub settle_asks : (m b : Machine) → m.full ≡ false → b ≡ before_ask m → b.driver.count < b.steps → is_quiet b.driver.todo ≡ false
settle_asks m b open_still is room =
    let k = m.steps - m.driver.count in
    let same = is ∙ open_before m open_still in
    let count : b.driver.count ≡ (quiet_steps k m.driver).count = ap (λ (x : Machine). x.driver.count) same in
    let steps : b.steps ≡ m.steps = ap (λ (x : Machine). x.steps) same in
    false_from_ne_true (is_quiet b.driver.todo)
    (λ quiet. let end = quiet_end k m.driver (sym (ap (λ (x : Machine). is_quiet x.driver.todo) same) ∙ quiet) in
    absurd (omega (arith, end, count, steps, room)))
