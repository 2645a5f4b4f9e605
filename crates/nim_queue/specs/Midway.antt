-- A queue that takes in the commands of a group, one after the other.
use Rattle.std.specs.Prelude.{◌≡◌, ℕ, ◌+◌, ◌≤◌, ◌<◌, ◌^◌, ◌++◌, ◌∷◌, [], Bool, true, List, length, is_some, nat_eq}
use Rattle.std.specs.HashMap.{get, spare}
use Rattle.std.specs.List.{list_all}
use Rattle.std.specs.VecDeque.{deque_capacity}
use Rattle.nim_command.specs.Waits.{Group}
use Rattle.nim_queue.specs.Used.{used_in}
use Rattle.nim_queue.specs.Arrived.{HaveArrived, commands_of}
use Rattle.nim_queue.specs.Counts.{kept_ones}
use Rattle.nim_queue.specs.Joined.{are_covered, link_count}
use Rattle.nim_queue.specs.Stands.{KeepsGroups}
use Rattle.nim_queue.specs.declared.arrivals.Arrival.{Arrival}
use Rattle.nim_queue.specs.declared.queue.BeforeQueue.{BeforeQueue}

-- There is room for what has arrived.
pub record HasRoomForArrived (start : BeforeQueue) (all : List Arrival) : Type 0 where
  pub arrived : HaveArrived (get nat_eq start.waiting) (used_in start.slots.items) start.given [] all
  pub covered : list_all (are_covered (used_in start.slots.items)) all ≡ true
  pub few : start.links + link_count all < 2 ^ 62
  pub spare : length all ≤ spare start.waiting
  pub room : length (kept_ones (get nat_eq start.waiting) start.given) + length all
      ≤ deque_capacity start.released.items

-- What the queue stands for once so many of the group's commands have joined it.
pub record IsMidway (start now : BeforeQueue) (past : List Arrival) (groups : List Group) (done : ℕ → Bool) : Type 0
  where
    pub stands : (next : Group) → next.commands ≡ commands_of past
        → KeepsGroups (record now { groups = length groups + 1; links = start.links + link_count past })
        (groups ++ next ∷ [])
        done
    pub given : now.given ≡ start.given + length past
    pub spare : spare start.waiting ≤ spare now.waiting + length past
    pub capacity : deque_capacity start.released.items ≤ deque_capacity now.released.items
    pub count : length (kept_ones (get nat_eq now.waiting) now.given)
        ≤ length (kept_ones (get nat_eq start.waiting) start.given) + length past
    pub covered : (slot : ℕ) → is_some (used_in start.slots.items slot) ≡ true
        → is_some (used_in now.slots.items slot) ≡ true
    pub number : now.groups ≡ start.groups
