-- Room that is made for what has arrived leaves a queue what it is.
use Rattle.std.proofs.Common.{◌≡◌, ℕ, zero, suc, ◌+◌, ◌≤◌, Bool, true, false, not, List, [], ◌∷◌, ◌++◌, length, refl, ap, ap₂, sym, subst, ◌∙◌, arith, Option, None, Some, is_some}
use Rattle.std.specs.Prelude.{◌==◌, ◌&&◌, ◌||◌, if◌then◌else◌, drop, nat_eq, slice_get}
use Rattle.std.specs.Cmp.{nat_eq_equiv}
use Rattle.std.specs.HashMap.{get, hash_map_len}
use Rattle.std.specs.List.{IsDistinct, filter, list_any, range_with_len}
use Rattle.std.specs.Option.{option_map, option_map_or}
use Rattle.std.specs.VecDeque.{deque_capacity}
use Rattle.std.proofs.Math.Path.{fun_ext}
use Rattle.std.proofs.lemmas.Bool.{and_parts, false≢true}
use Rattle.std.proofs.lemmas.List.{append-nil}
use Rattle.std.proofs.lemmas.Map.Keys.{IsDistinct-from_apart, IsDistinct-push}
use Rattle.std.proofs.lemmas.Map.Steps.{length-le_from_keys}
use Rattle.nim_base.specs.declared.number.Slot.{Slot}
use Rattle.nim_command.specs.declared.command.Command.{Command}
use Rattle.nim_command.specs.Slots.{does_read, reads_of, writes_of}
use Rattle.nim_command.specs.Waits.{Group, Member, is_written_by, members_of}
use Rattle.nim_queue.specs.Used.{used_in}
use Rattle.nim_queue.specs.Arrived.{HasArrived, HaveArrived, Sight, is_user_met, sight_of}
use Rattle.nim_queue.specs.Counts.{AreBrief, AreReleased, free_ones, is_in, kept_ones}
use Rattle.nim_queue.specs.Joined.{HaveSameUses}
use Rattle.nim_queue.specs.Stands.{KeepsGroups, does_use_last, is_reader, is_writer, kept_at}
use Rattle.nim_queue.specs.declared.arrivals.Arrival.{Arrival}
use Rattle.nim_queue.specs.declared.queue.BeforeQueue.{BeforeQueue}
use Rattle.nim_queue.specs.declared.slot_use.SlotUse.{SlotUse}
use Rattle.nim_queue.specs.declared.tickets.Tickets.{Tickets}
use Rattle.nim_queue.specs.declared.waiting.Waiting.{Waiting}
use Rattle.nim_base.proofs.Lists.{any_same}
use Rattle.nim_queue.proofs.Completing.{stands_still}
use Rattle.nim_queue.proofs.Counting.{in_filter}
use Rattle.nim_queue.proofs.Joining.{none_in}
use Rattle.nim_queue.proofs.Rising.{range_last}

met_same : (kept : ℕ → Option Waiting) (old new : ℕ → Option SlotUse) (named : ℕ → List ℕ) (written : ℕ → Bool) (is_user : ℕ → Option SlotUse → Bool)
    (slots : List Slot) (e : ℕ)
    → ((t s : ℕ) → is_some (kept t) ≡ true → is_user t (new s) ≡ is_user t (old s))
    → is_user_met (record { kept = kept; used = old; named = named; written = written }) is_user slots e
    ≡ is_user_met (record { kept = kept; used = new; named = named; written = written }) is_user slots e
met_same kept old new named written is_user slots e same =
    any_same (λ (slot : Slot). not (written slot.0) && (is_user e (old slot.0) && is_some (kept e)))
    (λ (slot : Slot). not (written slot.0) && (is_user e (new slot.0) && is_some (kept e)))
    (λ slot. ap (λ (b : Bool). not (written slot.0) && b) (where_kept (is_some (kept e)) (is_user e (old slot.0)) (is_user e (new slot.0)) (same e slot.0)))
    slots
  where
    where_kept : (k a b : Bool) → (k ≡ true → b ≡ a) → (a && k) ≡ (b && k)
    where_kept true a b same = ap (λ (x : Bool). x && true) (sym (same refl))
    where_kept false true true same = refl
    where_kept false true false same = refl
    where_kept false false true same = refl
    where_kept false false false same = refl

-- the same commands are met in uses that are the same
arrival_same : (kept : ℕ → Option Waiting) (old new : ℕ → Option SlotUse) (first : ℕ) (past : List Command) (ticket : ℕ) (a : Arrival)
    → HaveSameUses kept old new
    → HasArrived (sight_of kept old first past) ticket a → HasArrived (sight_of kept new first past) ticket a
arrival_same kept old new first past ticket a same has =
    let before : Sight = sight_of kept old first past in
    let named : ℕ → Bool = λ e. list_any (λ number. list_any (λ other. e == other) (before.named number)) a.command.before in
    record {
      reads = has.reads;
      waits = has.waits;
      links = has.links;
      reached = λ e.
          has.reached e
          ∙ ap₂ (λ (x y : Bool). ((named e || x) || y) || is_user_met before is_reader (writes_of a.command.kind) e)
          (met_same kept old new before.named before.written is_writer (reads_of a.command.kind) e (λ t s some. same.written t s))
          (met_same kept old new before.named before.written is_writer (writes_of a.command.kind) e (λ t s some. same.written t s))
          ∙ ap
          (λ (z : Bool).
          ((named e || is_user_met (sight_of kept new first past) is_writer (reads_of a.command.kind) e)
          || is_user_met (sight_of kept new first past) is_writer (writes_of a.command.kind) e)
          || z)
          (met_same kept old new before.named before.written is_reader (writes_of a.command.kind) e same.read);
    }

pub arrivals_same : (kept : ℕ → Option Waiting) (old new : ℕ → Option SlotUse) (first : ℕ) (past : List Command) (all : List Arrival)
    → HaveSameUses kept old new
    → HaveArrived kept old first past all → HaveArrived kept new first past all
arrivals_same kept old new first past [] same have = have
arrivals_same kept old new first past (a ∷ rest) same have =
    (arrival_same kept old new first past (first + length past) a same have.0, arrivals_same kept old new first (past ++ a.command ∷ []) rest same have.1)

-- more room for the same tickets
released_roomier : (kept next : ℕ → Option Waiting) (old new : Tickets) (n : ℕ) → AreReleased kept old n → ((t : ℕ) → next t ≡ kept t)
    → new.items.items ≡ old.items.items → deque_capacity old.items ≤ deque_capacity new.items → AreReleased next new n
released_roomier kept next old new n are same items capacity =
    let all : next ≡ kept = fun_ext same in
    record {
      items = items ∙ are.items ∙ ap (λ (k : ℕ → Option Waiting). free_ones k n) (sym all);
      room = omega (arith, are.room, capacity, ap (λ (k : ℕ → Option Waiting). length (kept_ones k n)) all);
      past = λ t from. same t ∙ are.past t from;
    }

-- a command that isn't complete and isn't kept was never given
never_kept : (queue : BeforeQueue) (groups : List Group) (done : ℕ → Bool) (t : ℕ) (slot : Slot) → KeepsGroups queue groups done → done t ≡ false
    → is_some (get nat_eq queue.waiting t) ≡ false → does_use_last does_read (members_of groups) t slot ≡ false
never_kept queue groups done t slot stands now none =
    by (slice_get (members_of groups) t)
    (sym
    (ap is_some (stands.kept t)
    ∙ ap (λ (d : Bool). is_some (if d then None else option_map (kept_at stands.waits stands.followers t) (slice_get (members_of groups) t))) now)
    ∙ none)
  where
    by : (o : Option Member) → is_some (option_map (kept_at stands.waits stands.followers t) o) ≡ false
        → option_map_or (λ (m : Member). does_read m.command.kind slot && not (is_written_by (drop (t + 1) (members_of groups)) slot)) o false ≡ false
    by None none = refl
    by (Some m) none = absurd (false≢true (sym none))

-- what a queue stands for stays
pub still_stands : (old new : BeforeQueue) (groups : List Group) (done : ℕ → Bool) → KeepsGroups old groups done
    → ((t : ℕ) → get nat_eq new.waiting t ≡ get nat_eq old.waiting t)
    → HaveSameUses (get nat_eq old.waiting) (used_in old.slots.items) (used_in new.slots.items)
    → new.released.items.items ≡ old.released.items.items → deque_capacity old.released.items ≤ deque_capacity new.released.items → new.links ≡ old.links
    → new.given ≡ old.given → new.groups ≡ old.groups → KeepsGroups new groups done
still_stands old new groups done stands waiting uses items capacity links given numbered =
    stands_still old new groups done stands waiting uses.written
    (λ t s now. either_read t s now (is_some (get nat_eq old.waiting t)) refl)
    (released_roomier (get nat_eq old.waiting) (get nat_eq new.waiting) old.released new.released old.given stands.released waiting items capacity)
    (subst (AreBrief (used_in new.slots.items)) (sym links) (uses.brief old.links stands.brief)) links given numbered
  where
    either_read : (t s : ℕ) → done t ≡ false → (b : Bool) → is_some (get nat_eq old.waiting t) ≡ b
        → is_reader t (used_in new.slots.items s) ≡ is_reader t (used_in old.slots.items s)
    either_read t s now true some = uses.read t s some
    either_read t s now false none =
        let unused : is_reader t (used_in old.slots.items s) ≡ false = stands.read t s now ∙ never_kept old groups done t (record { 0 = s }) stands now none in
        uses.fewer t s unused ∙ sym unused

distinct : (p : ℕ → Bool) (n : ℕ) → IsDistinct nat_eq (filter p (range_with_len 0 n))
distinct p zero = IsDistinct-from_apart nat_eq [] (λ i j d less within. absurd (omega (arith, within)))
distinct p (suc n) =
    let count : n + 1 ≡ suc n = omega arith in
    subst (IsDistinct nat_eq) (sym (range_last p n) ∙ ap (λ (k : ℕ). filter p (range_with_len 0 k)) count) (by (p n) (distinct p n))
  where
    by : (b : Bool) → IsDistinct nat_eq (filter p (range_with_len 0 n)) → IsDistinct nat_eq (filter p (range_with_len 0 n) ++ (if b then n ∷ [] else []))
    by true before =
        IsDistinct-push nat_eq_equiv (filter p (range_with_len 0 n)) n before
        (in_filter p n (range_with_len 0 n) ∙ ap (λ (b : Bool). b && p n) (none_in 0 n n (omega arith)))
    by false before = subst (IsDistinct nat_eq) (sym (append-nil (filter p (range_with_len 0 n)))) before

-- no more tickets are kept than the map has entries
pub kept_at_most : (queue : BeforeQueue) (n : ℕ) → length (kept_ones (get nat_eq queue.waiting) n) ≤ hash_map_len queue.waiting
kept_at_most queue n =
    length-le_from_keys nat_eq_equiv (kept_ones (get nat_eq queue.waiting) n) queue.waiting.entries (distinct (λ t. is_some (get nat_eq queue.waiting t)) n)
    (λ q is.
    (and_parts (is_in q (range_with_len 0 n)) (is_some (get nat_eq queue.waiting q))
    (sym (in_filter (λ t. is_some (get nat_eq queue.waiting t)) q (range_with_len 0 n)) ∙ is)).1)
