-- Orders that begin an epoch once: the first order to each worker is its Reset, and no other is one.
use Rattle.std.proofs.Common.{◌≡◌, ℕ, ◌<◌, Bool, true, false, ℤ, List, [], ◌∷◌, ◌++◌, length, map, refl, ap, ap₂, sym, subst, ◌∙◌}
use Rattle.std.specs.Prelude.{All, if◌then◌else◌}
use Rattle.std.specs.List.{AllByRecursion}
use Rattle.std.proofs.Math.ListN.{get_or-eq_default}
use Rattle.std.proofs.lemmas.Bool.{both_ways}
use Rattle.std.proofs.lemmas.List.Elements.{All-append, All-from_recursion}
use Rattle.nim_command.specs.declared.entry.Entry.{Entry}
use Rattle.nim_message.specs.declared.order.ToWorker.{ToWorker}
use Rattle.nim_message.specs.declared.order.ToWorker.TheVariants.{Reset}
use Rattle.nim_job.specs.Machine.{ask_of}
use Rattle.nim_job.specs.Objects.{shapes_of}
use Rattle.nim_job.specs.Tasks.{block_tasks_of}
use Rattle.nim_place.specs.Directed.{Directed, by_number, directed, orders_to}
use Rattle.nim_place.specs.Extends.{is_live, longer, worker_of}
use Rattle.nim_place.specs.Orders.{resets_of}
use Rattle.nim_place.specs.Versions.{latest_of}
use Rattle.nim_place.proofs.Directed.{more_directed, to_append}
use Rattle.nim_template.specs.Given.{instance_with}
use Rattle.nim_template.specs.Instance.{half_of}
use Rattle.nim_patch.specs.Patches.{after_copies}
use Rattle.nim_reuse.specs.Decisions.{is_recorded}
use Rattle.nim_course.specs.declared.pending.Pending.{Pending}
use Rattle.nim_course.specs.declared.pending.Pending.TheVariants.{Begin, Idle, Block}
use Rattle.nim_course.specs.Controller.{Controller}
use Rattle.nim_course.specs.Moves.{orders_asked, orders_of_block, orders_with}
use Rattle.nim_course.specs.OrdersGiven.{epoch_orders, first_commands, instance_orders, single_for}
use Rattle.nim_course.specs.PutLists.{is_begin}
use Rattle.nim_history.specs.InTurn.{is_reset}
use Rattle.nim_base.proofs.Lists.{each_append}
use Rattle.nim_lockstep.proofs.Reused.{before_each, copies_for, order_last, orders_before, reused_to, template_for}
use Rattle.nim_lockstep.proofs.Singles.{asked_each, each_to, instance_each, singles_each}
use Rattle.nim_lockstep.proofs.UnderWay.{BeginOnce}

-- ---- orders that begin an epoch once

-- the first of these orders is a Reset, and no other is
abbrev pub HasBegun : List ToWorker → Type 0
HasBegun [] = ⊥
HasBegun (order ∷ orders) = (is_reset order ≡ true) × All (λ (later : ToWorker). is_reset later ≡ false) orders

pub begun_once : (pending : Pending) (orders : List ToWorker) → is_begin pending ≡ false → HasBegun orders → BeginOnce pending orders
begun_once Begin orders is has = absurd (both_ways true is refl)
begun_once Idle [] is has = has
begun_once Idle (order ∷ orders) is has = has
begun_once pending [] is has = has
begun_once pending (order ∷ orders) is has = has

pub once_begun : (pending : Pending) (orders : List ToWorker) → is_begin pending ≡ false → BeginOnce pending orders → HasBegun orders
once_begun Begin orders is once = absurd (both_ways true is refl)
once_begun Idle [] is once = once
once_begun Idle (order ∷ orders) is once = once
once_begun pending [] is once = once
once_begun pending (order ∷ orders) is once = once

-- an order is no Reset
abbrev pub IsPlain : ToWorker → Type 0
IsPlain order = is_reset order ≡ false

pub more_begun : (orders more : List ToWorker) → HasBegun orders → AllByRecursion IsPlain more → HasBegun (orders ++ more)
more_begun [] more has none = absurd has
more_begun (order ∷ orders) more has none =
    let Plain : ToWorker → Type 0 = λ later. is_reset later ≡ false in
    (has.0, All-append Plain orders more has.1 (All-from_recursion Plain more none))

-- ---- which orders are Resets

-- no order of an instance of a block is one
block_plain : (recorded : Bool) (c : Controller) (block : ℕ) (args : List ℤ) (number : ℕ) → number < length c.live
    → AllByRecursion IsPlain (orders_to number (orders_of_block recorded c block args))
block_plain false c block args number below =
    each_to IsPlain number (instance_orders c 0 c.versions (block_tasks_of c.job block args))
    (instance_each IsPlain (λ epoch instance commands. refl) c 0 c.versions (block_tasks_of c.job block args))
block_plain true c block args number below =
    subst (AllByRecursion IsPlain) (sym (reused_to c block args number below))
    (each_append IsPlain (orders_before c block number) (order_last c block args number)
    (before_each IsPlain
    (record { template = λ epoch b half. refl; patch = λ epoch patch parts. refl; run = λ epoch instance patch versions. refl }) c block number)
    (last_plain (half_of (template_for c block) number))) where
      last_plain : (half : List Entry)
          → AllByRecursion IsPlain
          (instance_with c.epoch c.instance (template_for c block).block c.position args (latest_of (after_copies c.versions (copies_for c block))) half)
      last_plain [] = tt
      last_plain (entry ∷ half) = (refl, tt)

-- once the epoch is begun no move gives one
pub move_plain : (c : Controller) (pending : Pending) (number : ℕ) → number < length c.live → is_begin pending ≡ false
    → AllByRecursion IsPlain (orders_to number (orders_with c pending))
move_plain c Begin number below is = absurd (both_ways true is refl)
move_plain c Idle number below is =
    each_to IsPlain number (orders_asked c (ask_of c.machine)) (asked_each IsPlain (λ epoch instance commands. refl) c (ask_of c.machine))
move_plain c (Block block args) number below is = block_plain (is_recorded c.decisions block) c block args number below
move_plain c pending number below is = tt

-- each live worker gets its Reset
resets_to : (c : Controller) (number : ℕ) → is_live c.live (worker_of number) ≡ true
    → orders_to number (directed (length c.live) (resets_of c.live c.epoch (length c.live) (shapes_of c.job.vars)))
    ≡ Reset c.epoch (worker_of number) (length c.live) (shapes_of c.job.vars) ∷ []
resets_to c number there =
    let reset : ToWorker = Reset c.epoch (worker_of number) (length c.live) (shapes_of c.job.vars) in
    let resets : ℕ → List ToWorker = resets_of c.live c.epoch (length c.live) (shapes_of c.job.vars) in
    let all : by_number ([] ++ directed (length c.live) resets) ≡ longer (by_number []) resets =
    more_directed [] (length c.live) resets
    (λ n past. ap (λ (b : Bool). if b then Reset c.epoch (worker_of n) (length c.live) (shapes_of c.job.vars) ∷ [] else [])
    (get_or-eq_default c.live false past)) in
    ap (λ (lists : ℕ → List ToWorker). lists number) all ∙ ap (λ (b : Bool). if b then reset ∷ [] else []) there

-- the first orders to a live worker
pub epoch_to : (c : Controller) (given : List Directed) (number : ℕ) → is_live c.live (worker_of number) ≡ true → orders_to number given ≡ []
    → orders_to number (given ++ epoch_orders c)
    ≡ Reset c.epoch (worker_of number) (length c.live) (shapes_of c.job.vars) ∷ orders_to number (map (single_for c.epoch) (first_commands c 0 c.job.vars))
epoch_to c given number there none =
    let resets : List Directed = directed (length c.live) (resets_of c.live c.epoch (length c.live) (shapes_of c.job.vars)) in
    let singles : List Directed = map (single_for c.epoch) (first_commands c 0 c.job.vars) in
    to_append number given (resets ++ singles)
    ∙ ap₂ (λ (xs ys : List ToWorker). xs ++ ys) none
    (to_append number resets singles ∙ ap (λ (xs : List ToWorker). xs ++ orders_to number singles) (resets_to c number there))

pub epoch_begins : (c : Controller) (given : List Directed) (number : ℕ) → is_live c.live (worker_of number) ≡ true → orders_to number given ≡ []
    → HasBegun (orders_to number (given ++ epoch_orders c))
epoch_begins c given number there none =
    let singles : List Directed = map (single_for c.epoch) (first_commands c 0 c.job.vars) in
    let has : HasBegun (Reset c.epoch (worker_of number) (length c.live) (shapes_of c.job.vars) ∷ orders_to number singles) = (
      refl,
      All-from_recursion IsPlain (orders_to number singles) (each_to IsPlain number singles
          (singles_each IsPlain (λ epoch instance commands. refl) c.epoch (first_commands c 0 c.job.vars))),
    ) in
    subst HasBegun (sym (epoch_to c given number there none)) has
