-- Moves, one after another: how far it still is to the end of a turn, and what they have come to.
use Rattle.std.proofs.Common.{◌≡◌, ℕ, ◌+◌, ◌-◌, ◌*◌, ◌<◌, zero, suc, Bool, true, false, ℤ, List, [], ◌++◌, refl, ap, ap₂, sym, subst, ◌∙◌, arith, Option, None, Some}
use Rattle.std.specs.Prelude.{Result, Ok, Err, OnErr}
use Rattle.std.proofs.lemmas.Bool.{false≢true}
use Rattle.nim_job.specs.declared.ask.Ask.{Ask}
use Rattle.nim_job.specs.Machine.{Machine, after_ask, ask_of}
use Rattle.nim_job.specs.Tasks.{block_tasks_of}
use Rattle.nim_reuse.specs.Decisions.{is_recorded}
use Rattle.nim_course.specs.declared.outcome.Outcome.{Outcome}
use Rattle.nim_course.specs.declared.pending.Pending.{Pending}
use Rattle.nim_course.specs.declared.pending.Pending.TheVariants.{Begin, Idle, Block, Cell, Parts, Ended}
use Rattle.nim_course.specs.Controller.{Controller}
use Rattle.nim_place.specs.Directed.{Directed}
use Rattle.nim_course.specs.Moves.{AreFree, IsMoved, after_moves, asked, does_wait, after_pending, is_held_up, moved, orders_of_moves, orders_of, text_told, with_block, with_instance, with_reused}
use Rattle.nim_course.proofs.Asking.{goes_on}
use Rattle.nim_course.proofs.Standing.{held_parts}
use Rattle.nim_control.specs.Keeps.{Keeps}
use Rattle.nim_control.proofs.Asking.{appending, asking}

-- ---- how far it still is

-- what is pending, by how many moves it takes at most until one more statement is counted
abbrev pub rank : Pending → ℕ
rank Ended = 1
rank Idle = 2
rank pending = 3

abbrev pub left_for : Option Outcome → Machine → Pending → ℕ
left_for None m pending = 3 * (m.steps - m.driver.count) + rank pending
left_for (Some outcome) m pending = 0

-- no more moves than this are left
abbrev pub left_of : Controller → ℕ
left_of c = left_for c.outcome c.machine c.pending

abbrev before : Machine → ℕ → ℕ
before m rank = 3 * (m.steps - m.driver.count) + rank

-- where there is no outcome
left_is : (o : Option Outcome) (m : Machine) (pending : Pending) → o ≡ None → left_for o m pending ≡ before m (rank pending)
left_is o m pending none = ap (λ (outcome : Option Outcome). left_for outcome m pending) none

ask_down : (c : Controller) (ask : Ask) → c.outcome ≡ None → c.pending ≡ Idle → ask_of c.machine ≡ ask → left_of (asked c ask) < before c.machine 2
ask_down c (Ask.Run block args) none idle is =
    let on = asking c.machine in
    omega (arith, left_is c.outcome (after_ask c.machine) (Block block args) none, on.steps, on.counts (ap goes_on is))
ask_down c (Ask.Get object row cell) none idle is =
    let on = asking c.machine in
    omega (arith, left_is c.outcome (after_ask c.machine) (Cell row cell) none, on.steps, on.counts (ap goes_on is))
ask_down c Ask.Checkpoint none idle is =
    let on = asking c.machine in
    let next : Controller = asked c Ask.Checkpoint in
    omega (
      arith,
      left_is c.outcome next.machine c.pending none,
      ap rank idle,
      on.steps,
      on.counts (ap goes_on is),
    )
ask_down c (Ask.Output var) none idle is =
    let on = asking c.machine in
    omega (arith, left_is c.outcome (after_ask c.machine) (Parts var) none, on.steps, on.counts (ap goes_on is))
ask_down c Ask.Finished none idle is =
    let on = asking c.machine in
    omega (arith, left_is c.outcome (after_ask c.machine) Ended none, on.steps, on.more)
ask_down c Ask.Limit none idle is = omega arith

block_down : (c : Controller) (block : ℕ) (args : List ℤ) (recorded : Bool) → c.outcome ≡ None
    → left_of (with_block recorded c block args) < before c.machine 3
block_down c block args true none =
    let next : Controller = with_reused c block in
    omega (arith, left_is c.outcome next.machine Idle none)
block_down c block args false none =
    let next : Controller = with_instance c block (block_tasks_of c.job block args) in
    omega (arith, left_is c.outcome next.machine Idle none)

move_down : (c : Controller) (pending : Pending) → c.outcome ≡ None → c.pending ≡ pending → left_of (after_pending c pending) < before c.machine (rank pending)
move_down c Begin none is = omega (arith, left_is c.outcome c.machine Idle none)
move_down c Idle none is = ask_down c (ask_of c.machine) none is refl
move_down c (Block block args) none is = block_down c block args (is_recorded c.decisions block) none
move_down c (Cell row cell) none is =
    let next : Controller = after_pending c (Cell row cell) in
    omega (arith, left_is c.outcome next.machine Idle none)
move_down c (Parts var) none is =
    let next : Controller = after_pending c (Parts var) in
    let on = appending c.machine (text_told c var) in
    omega (arith, left_is c.outcome next.machine Idle none, on.steps, on.more)
move_down c Ended none is = omega arith

-- each move takes less than is left
pub left_down : (c next : Controller) → is_held_up c ≡ false → next ≡ moved c → left_of next < left_of c
left_down c next free is =
    let parts = held_parts c.outcome (does_wait c c.pending) free in
    omega (arith, ap left_of is, move_down c c.pending parts.0 refl, left_is c.outcome c.machine c.pending parts.0)

-- ---- what moves have come to

-- one move more
pub one_moved : (first now next : Controller) (given more : List Directed) → is_held_up now ≡ false → more ≡ given ++ orders_of now
    → next ≡ moved now → IsMoved first given now → IsMoved first more next
one_moved first now next given more free gave is so_far = record {
  count = suc so_far.count;
  free = (so_far.free, subst (λ (c : Controller). is_held_up c ≡ false) so_far.state free);
  gave = gave ∙ ap₂ (λ (os : List Directed) (c : Controller). os ++ orders_of c) so_far.gave so_far.state;
  state = is ∙ ap moved so_far.state;
}

-- what was free to move to where it is free to move was so before
free_first : (count : ℕ) (c : Controller) → AreFree count c → is_held_up (after_moves count c) ≡ false → is_held_up c ≡ false
free_first zero c all free = free
free_first (suc count) c all free = free_first count c all.0 all.1

pub moved_free : (first now : Controller) (given : List Directed) → IsMoved first given now → is_held_up now ≡ false → is_held_up first ≡ false
moved_free first now given so_far free =
    free_first so_far.count first so_far.free (subst (λ (c : Controller). is_held_up c ≡ false) so_far.state free)

pub keeps_on : (a b c : Controller) → Keeps a b → Keeps b c → Keeps a c
keeps_on a b c one two = record {
  job = two.job ∙ one.job;
  place = two.place ∙ one.place;
  live = two.live ∙ one.live;
  epoch = two.epoch ∙ one.epoch;
}

-- what holds anyway holds where memory was refused
pub on_err : {X E : Type 0} (result : Result X E) {P : Type 0} → P → OnErr result P
on_err (Ok x) p = tt
on_err (Err e) p = p

-- where none was free none were made
pub none_given : (first now : Controller) (given : List Directed) → IsMoved first given now → is_held_up first ≡ true → given ≡ []
none_given first now given so_far held = so_far.gave ∙ either so_far.count so_far.free where
  either : (count : ℕ) → AreFree count first → orders_of_moves count first ≡ []
  either zero all = refl
  either (suc count) all = absurd (false≢true (sym (free_first count first all.0 all.1) ∙ held))
