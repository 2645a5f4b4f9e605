-- A queue takes in the commands of a group that have arrived: none of them, and one more.
use Rattle.std.proofs.Common.{◌≡◌, ℕ, suc, ◌+◌, ◌<◌, ◌≤◌, ◌^◌, Bool, true, not, List, [], ◌∷◌, ◌++◌, length, map, refl, ap, ap₂, sym, subst, ◌∙◌, arith, Option, None, is_some}
use Rattle.std.specs.Prelude.{◌==◌, ◌&&◌, ◌||◌, if◌then◌else◌, nat_eq, slice_get}
use Rattle.std.specs.HashMap.{get, spare}
use Rattle.std.specs.List.{list_all}
use Rattle.std.specs.Option.{option_map}
use Rattle.std.specs.VecDeque.{deque_capacity, deque_len}
use Rattle.std.proofs.lemmas.Bool.{and_parts}
use Rattle.std.proofs.lemmas.List.{append-nil, length-append, length-map, map-append}
use Rattle.std.proofs.lemmas.List.Sums.{sum_by-append, sum_by-cons}
use Rattle.nim_base.specs.declared.number.Slot.{Slot}
use Rattle.nim_command.specs.declared.command.Command.{Command}
use Rattle.nim_command.specs.declared.command.Kind.{Kind}
use Rattle.nim_command.specs.Slots.{does_read, does_write, is_among, reads_of, writes_of}
use Rattle.nim_command.specs.Waits.{Group, Member, members_of}
use Rattle.nim_queue.specs.Used.{used_in}
use Rattle.nim_queue.specs.Arrived.{HasArrived, as_members, commands_of, link_to, reading_of, sight_of}
use Rattle.nim_queue.specs.Counts.{AreBrief, AreShort, IsRising, is_in, kept_ones, put_in}
use Rattle.nim_queue.specs.Joined.{are_covered, link_count, gathered, gathered_reads, kept_new, more_read, rewritten}
use Rattle.nim_queue.specs.Midway.{HasRoomForArrived, IsMidway}
use Rattle.nim_queue.specs.Stands.{KeepsGroups, does_use_last, is_reader, is_writer, kept_at, open_waits}
use Rattle.nim_queue.specs.declared.arrivals.Arrival.{Arrival}
use Rattle.nim_queue.specs.declared.arrivals.Reading.{Reading}
use Rattle.nim_queue.specs.declared.queue.BeforeQueue.{BeforeQueue}
use Rattle.nim_queue.specs.declared.slot_use.SlotUse.{SlotUse}
use Rattle.nim_queue.proofs.Counting.{same_ways}
use Rattle.nim_queue.proofs.Growing.{HasEntered, among_all, kept_count, length_gathered, length_gathered_reads, released_joined, short_joined, use_stays}
use Rattle.nim_queue.proofs.Joining.{joined}
use Rattle.nim_queue.proofs.Linking.{brief_written}
use Rattle.nim_queue.proofs.Reaching.{reached_open}
use Rattle.nim_queue.proofs.Stepping.{covered_at, members_more, one_member}
use Rattle.nim_queue.proofs.Uses.{added_readers, arrived_at, reader_after, within_all, writer_after}

-- what those before one, it and those behind it have
counted_at : (past rest : List Arrival) (a : Arrival)
    → link_count (past ++ a ∷ rest) ≡ link_count past + (length a.waits.items + length a.reads.items + link_count rest)
counted_at past rest a =
    let own : Arrival → ℕ = λ x. length x.waits.items + length x.reads.items in
    sum_by-append own past (a ∷ rest) ∙ ap (λ (n : ℕ). link_count past + n) (sum_by-cons own a rest)

no_counted : link_count [] ≡ 0
no_counted = refl

-- a group without commands has no member
no_member : (groups : List Group) (next : Group) → next.commands ≡ [] → members_of (groups ++ next ∷ []) ≡ members_of groups
no_member groups next is =
    members_more groups next ∙ ap (λ (cs : List Command). members_of groups ++ as_members (length groups) cs) is ∙ append-nil (members_of groups)

-- none has joined
pub begun_midway : (start : BeforeQueue) (groups : List Group) (done : ℕ → Bool) → KeepsGroups start groups done → IsMidway start start [] groups done
begun_midway start groups done s = record {
  stands = λ next is.
      let same : members_of groups ≡ members_of (groups ++ next ∷ []) = sym (no_member groups next is) in
      let links : start.links ≡ start.links + link_count [] = omega (arith, no_counted) in
      record {
        waits = s.waits;
        followers = s.followers;
        kept = λ t.
            s.kept t ∙ ap (λ (ms : List Member). if done t then None else option_map (kept_at s.waits s.followers t) (slice_get ms t)) same;
        left = λ t e now. s.left t e now ∙ ap (λ (ms : List Member). is_in e (open_waits ms done t)) same;
        mirrored = s.mirrored;
        released = s.released;
        written = λ t x now. s.written t x now ∙ ap (λ (ms : List Member). does_use_last does_write ms t (record { 0 = x })) same;
        read = λ t x now. s.read t x now ∙ ap (λ (ms : List Member). does_use_last does_read ms t (record { 0 = x })) same;
        short = subst (AreShort (get nat_eq start.waiting)) links s.short;
        brief = subst (AreBrief (used_in start.slots.items)) links s.brief;
        given = s.given ∙ ap length same;
        numbered = sym (length-append groups (next ∷ []));
        later = λ t from. s.later t (omega (arith, from, ap length same));
      };
  given = omega arith;
  spare = omega arith;
  capacity = omega arith;
  count = omega arith;
  covered = λ slot there. there;
  number = refl;
}

-- one more has joined
pub stepped : (start now after : BeforeQueue) (past rest : List Arrival) (a : Arrival) (groups : List Group) (done : ℕ → Bool) (any : Group)
    → HasRoomForArrived start (past ++ a ∷ rest) → KeepsGroups start groups done → IsMidway start now past groups done
    → ((k : ℕ) (d : List ℕ) → AreShort (get nat_eq now.waiting) k → a.waits.items ≡ map (link_to now.given) d → k + length d < 2 ^ 63 → 0 < spare now.waiting
    → HasEntered (get nat_eq now.waiting) (get nat_eq after.waiting) (λ t. gathered t (map (link_to now.given) d)) now.given
    (kept_new now.groups a.command (length d)))
    → ((k : ℕ) (d : List Slot) → AreBrief (used_in now.slots.items) k → a.reads.items ≡ map (reading_of now.given) d → k + length d < 2 ^ 63 → (s : ℕ)
    → used_in after.slots.items s ≡ option_map (more_read (gathered_reads s a.reads.items))
    (if is_among (writes_of a.command.kind) (record { 0 = s }) then option_map (rewritten now.given) (used_in now.slots.items s)
    else used_in now.slots.items s))
    → (IsRising now.released.items.items → deque_len now.released.items < deque_capacity now.released.items
    → after.released.items.items ≡ (if length a.waits.items == 0 then put_in now.given now.released.items.items else now.released.items.items))
    → deque_capacity now.released.items ≤ deque_capacity after.released.items → spare now.waiting ≤ spare after.waiting + 1 → after.given ≡ now.given + 1
    → after.groups ≡ now.groups → IsMidway start after (past ++ a ∷ []) groups done
stepped start now after past rest a groups done any room began mid waiting slots released capacity free given number = record {
  stands = λ next is.
      let prev : Group = record next { commands = commands_of past } in
      let stood = mid.stands prev refl in
      joined (record now { groups = length groups + 1; links = before })
      (record after { groups = length groups + 1; links = start.links + link_count (past ++ a ∷ []) })
      (groups ++ prev ∷ []) (groups ++ next ∷ []) done m d stood
      (one_member groups prev next a.command (is ∙ map-append (λ (x : Arrival). x.command) past (a ∷ [])))
      (λ e.
      has.reached e ∙ reached_open start groups done (commands_of past) a.command e began
      ∙ ap₂ (λ (ms : List Member) (n : ℕ). is_in e (open_waits (ms ++ m ∷ []) done n)) (sym (members_more groups prev)) (sym ticket))
      entered
      (λ t s. ap (is_writer t) (slots_are s) ∙ writer_after t now.given (does_write kind (record { 0 = s })) (gathered_reads s a.reads.items)
      (used_in now.slots.items s) (written_use s)
      ∙ ap (λ (b : Bool). if does_write kind (record { 0 = s }) then b else is_writer t (used_in now.slots.items s)) (same_ways t now.given))
      (λ t s.
      ap (is_reader t) (slots_are s)
      ∙ reader_after t now.given (does_write kind (record { 0 = s })) (does_read kind (record { 0 = s })) (gathered_reads s a.reads.items)
      (used_in now.slots.items s)
      (written_use s) (read_use s)
      (ap (λ (rs : List Reading). is_in t (gathered_reads s rs)) reads ∙ added_readers t now.given (record { 0 = s }) (reads_of kind))
      ∙ ap (λ (b : Bool). (not (does_write kind (record { 0 = s })) && is_reader t (used_in now.slots.items s)) || (b && does_read kind (record { 0 = s })))
      (same_ways t now.given))
      (released_joined (get nat_eq now.waiting) (get nat_eq after.waiting) (λ t. gathered t (map (link_to now.given) d)) now.released after.released now.given
      (kept_new (length groups) a.command (length d)) stood.released entered
      (λ rises fits.
      released rises fits
      ∙ ap (λ (n : ℕ). if n == 0 then put_in now.given now.released.items.items else now.released.items.items) waits_count)
      capacity (omega (arith, mid.count, room.room, mid.capacity, long_all)))
      (subst (AreShort (get nat_eq after.waiting)) total
      (short_joined (get nat_eq now.waiting) (get nat_eq after.waiting) (λ t. gathered t (map (link_to now.given) d)) now.given
      (kept_new (length groups) a.command (length d))
      before own refl entered (λ t. omega (arith, length_gathered now.given t d, waits_count)) stood.short))
      (subst (AreBrief (used_in after.slots.items)) total
      (within_all (λ (u : SlotUse). u.readers) more_read (λ s. rewrites s (used_in now.slots.items s)) (used_in after.slots.items)
      (λ s. gathered_reads s a.reads.items) before own
      (λ ms u. refl) slots_are (λ s. omega (
        arith,
        ap (λ (rs : List Reading). length (gathered_reads s rs)) reads,
        length_gathered_reads now.given s
            (reads_of kind),
        reads_count,
      ))
      (brief_written (used_in now.slots.items) (λ s. rewrites s (used_in now.slots.items s)) (λ s. is_among (writes_of kind) (record { 0 = s })) now.given
      before (λ s. refl)
      stood.brief)))
      given (sym (length-append groups (next ∷ [])));
  given = omega (arith, given, mid.given, long);
  spare = omega (arith, mid.spare, free, long);
  capacity = omega (arith, mid.capacity, capacity);
  count =
      omega (
        arith,
        mid.count,
        long,
        ap (λ (n : ℕ). length (kept_ones (get nat_eq after.waiting) n)) given,
        kept_count (get nat_eq now.waiting) (get nat_eq after.waiting) (λ t. gathered t (map (link_to now.given) d)) now.given
            (kept_new (length groups) a.command (length d)) entered,
      );
  covered = λ s there.
      ap is_some (slots_are s) ∙ use_stays now.given (does_write kind (record { 0 = s })) (gathered_reads s a.reads.items) (used_in now.slots.items s)
      ∙ mid.covered s there;
  number = number ∙ mid.number;
}
  where
    kind : Kind
    kind = a.command.kind

    m : Member
    m = record { group = length groups; command = a.command }

    before : ℕ
    before = start.links + link_count past

    own : ℕ
    own = length a.waits.items + length a.reads.items

    has : HasArrived (sight_of (get nat_eq start.waiting) (used_in start.slots.items) start.given (commands_of past)) (start.given + length (commands_of past))
        a
    has = arrived_at (get nat_eq start.waiting) (used_in start.slots.items) start.given [] past rest a room.arrived

    d : List ℕ
    d = has.waits

    ticket : now.given ≡ start.given + length (commands_of past)
    ticket = omega (arith, mid.given, length-map past (λ (x : Arrival). x.command))

    links : a.waits.items ≡ map (link_to now.given) d
    links = has.links ∙ ap (λ (n : ℕ). map (link_to n) d) (sym ticket)

    reads : a.reads.items ≡ map (reading_of now.given) (reads_of kind)
    reads = has.reads ∙ ap (λ (n : ℕ). map (reading_of n) (reads_of kind)) (sym ticket)

    waits_count : length a.waits.items ≡ length d
    waits_count = ap length links ∙ length-map d (link_to now.given)

    reads_count : length a.reads.items ≡ length (reads_of kind)
    reads_count = ap length reads ∙ length-map (reads_of kind) (reading_of now.given)

    long_all : length (past ++ a ∷ rest) ≡ length past + suc (length rest)
    long_all = length-append past (a ∷ rest)

    long : length (past ++ a ∷ []) ≡ length past + 1
    long = length-append past (a ∷ [])

    total : before + own ≡ start.links + link_count (past ++ a ∷ [])
    total = omega (arith, counted_at past [] a, no_counted)

    standing : KeepsGroups (record now { groups = length groups + 1; links = before }) (groups ++ record any { commands = commands_of past } ∷ []) done
    standing = mid.stands (record any { commands = commands_of past }) refl

    of_group : kept_new now.groups a.command (length d) ≡ kept_new (length groups) a.command (length d)
    of_group = ap (λ (g : ℕ). kept_new g a.command (length d)) (mid.number ∙ began.numbered)

    entered : HasEntered (get nat_eq now.waiting) (get nat_eq after.waiting) (λ t. gathered t (map (link_to now.given) d)) now.given
        (kept_new (length groups) a.command (length d))
    entered =
        subst (HasEntered (get nat_eq now.waiting) (get nat_eq after.waiting) (λ t. gathered t (map (link_to now.given) d)) now.given) of_group
        (waiting before d standing.short links (omega (arith, room.few, counted_at past rest a, waits_count)) (omega (arith, mid.spare, room.spare, long_all)))

    rewrites : ℕ → Option SlotUse → Option SlotUse
    rewrites s o = if is_among (writes_of a.command.kind) (record { 0 = s }) then option_map (rewritten now.given) o else o

    slots_are : (s : ℕ) → used_in after.slots.items s ≡ option_map (more_read (gathered_reads s a.reads.items)) (rewrites s (used_in now.slots.items s))
    slots_are = slots before (reads_of kind) standing.brief reads (omega (arith, room.few, counted_at past rest a, reads_count))

    covers : are_covered (used_in start.slots.items) a ≡ true
    covers = covered_at (are_covered (used_in start.slots.items)) past rest a room.covered

    both : (list_all (λ (slot : Slot). is_some (used_in start.slots.items slot.0)) (reads_of a.command.kind) ≡ true)
        × (list_all (λ (slot : Slot). is_some (used_in start.slots.items slot.0)) (writes_of a.command.kind) ≡ true)
    both =
        and_parts (list_all (λ (slot : Slot). is_some (used_in start.slots.items slot.0)) (reads_of a.command.kind))
        (list_all (λ (slot : Slot). is_some (used_in start.slots.items slot.0)) (writes_of a.command.kind)) covers

    written_use : (s : ℕ) → does_write a.command.kind (record { 0 = s }) ≡ true → is_some (used_in now.slots.items s) ≡ true
    written_use s is = mid.covered s (among_all (λ k. is_some (used_in start.slots.items k)) (writes_of a.command.kind) s both.1 is)

    read_use : (s : ℕ) → does_read a.command.kind (record { 0 = s }) ≡ true → is_some (used_in now.slots.items s) ≡ true
    read_use s is = mid.covered s (among_all (λ k. is_some (used_in start.slots.items k)) (reads_of a.command.kind) s both.0 is)
