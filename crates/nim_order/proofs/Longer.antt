-- A list of commands gets longer.
use Rattle.std.proofs.Common.{◌≡◌, ℕ, zero, suc, ◌+◌, ◌-◌, ◌<◌, ◌≤◌, Bool, true, false, List, [], ◌∷◌, ◌++◌, length, take, drop, refl, ap, ap₂, map, sym, subst, ◌∙◌, arith, Option, inl, inr}
use Rattle.std.specs.Prelude.{◌==◌, ◌&&◌, ◌||◌, nat_lt, not, slice_get, slice_range}
use Rattle.std.specs.List.{filter, list_all, list_any, range_with_len}
use Rattle.std.specs.Option.{option_map_or}
use Rattle.std.proofs.lemmas.Bool.{and_left, both_ways, cases_lt, ltb-true}
use Rattle.std.proofs.lemmas.List.{drop-append-le, drop_at, length-append, length-drop, take-append-le, append_assoc}
use Rattle.nim_base.specs.declared.number.Slot.{Slot}
use Rattle.nim_command.specs.declared.command.Command.{Command}
use Rattle.nim_command.specs.Covered.{do_conflict, is_kept_in_order, is_reached, waits_at}
use Rattle.nim_command.specs.Waits.{Group, Member, is_waited, members_from, members_of, placed, placed_commands, waits_for, waits_of}
use Rattle.nim_order.specs.Contents.{Leave}
use Rattle.nim_order.specs.Longer.{AnyLonger, FrontIsCovered, FrontStays}
use Rattle.nim_order.specs.Progress.{IsClosed, IsReleasedAt, held_when, writes_at}
use Rattle.nim_base.proofs.Lists.{any_filter, any_same, get_front, guarded}
use Rattle.nim_order.proofs.Held.{before_front, held_below_front, held_down}
use Rattle.nim_order.proofs.Items.{all_in_range, all_of_range, filter_range}

held_longer : {X : Type 0} (leave : Leave X) (start : Slot → X) (commands more : List Command) (done : ℕ → Bool)
    → ((place : ℕ) → length commands ≤ place → done place ≡ false) → (slot : Slot)
    → held_when leave start (commands ++ more) done slot ≡ held_when leave start commands done slot
held_longer leave start commands more done none slot =
    let within : length commands ≤ length (commands ++ more) = omega (arith, length-append commands more) in
    held_down leave start (commands ++ more) done (length (commands ++ more)) (length commands) slot within
    (λ k from to. and_left (done k) (writes_at (commands ++ more) k slot) (none k from))
    ∙ held_below_front leave start commands more done (length commands) slot (omega arith)

waits_front : (commands more : List Command) (place : ℕ) → place < length commands → waits_at (commands ++ more) place ≡ waits_at commands place
waits_front commands more place within =
    ap (λ (o : Option Command). filter (λ earlier. nat_lt earlier place) (option_map_or (λ (c : Command). c.before) o []))
    (get_front commands more place within)

closed_longer : (commands more : List Command) (done : ℕ → Bool) → ((place : ℕ) → length commands ≤ place → done place ≡ false) → IsClosed commands done
    → IsClosed (commands ++ more) done
closed_longer commands more done none closed place complete =
    elim (cases_lt place (length commands)) [
      | inl within ↦ subst (λ (waits : List ℕ). list_all done waits ≡ true) (sym (waits_front commands more place within)) (closed place complete)
      | inr past ↦ absurd (both_ways (done place) (none place past) complete)
    ]

pub released_longer : (commands more : List Command) (done : ℕ → Bool) (place : ℕ) → IsReleasedAt commands done place
    → IsReleasedAt (commands ++ more) done place
released_longer commands more done place released = record {
  within = omega (arith, released.within, length-append commands more);
  waiting = released.waiting;
  waits = subst (λ (waits : List ℕ). list_all done waits ≡ true) (sym (waits_front commands more place released.within)) released.waits;
}

pub any_longer : (X : Type 0) → AnyLonger X
any_longer X leave start commands more done none = record {
  held = held_longer leave start commands more done none;
  before = λ place slot within. ap (λ (now : Slot → X). now slot) (before_front leave start commands more place within);
  closed = closed_longer commands more done none;
  released = released_longer commands more done;
}

reached_front : (commands more : List Command) (n place earlier : ℕ) → place < length commands
    → is_reached n (commands ++ more) place earlier ≡ is_reached n commands place earlier
reached_front commands more zero place earlier within = refl
reached_front commands more (suc n) place earlier within =
    let numbers : List ℕ = option_map_or (λ (c : Command). c.before) (slice_get commands place) [] in
    ap (λ (waits : List ℕ). list_any (λ x. (x == earlier) || is_reached n (commands ++ more) x earlier) waits) (waits_front commands more place within)
    ∙ any_filter (λ x. (x == earlier) || is_reached n (commands ++ more) x earlier) (λ x. nat_lt x place) numbers
    ∙ any_same (λ x. nat_lt x place && ((x == earlier) || is_reached n (commands ++ more) x earlier))
    (λ x. nat_lt x place && ((x == earlier) || is_reached n commands x earlier))
    (λ x. guarded (nat_lt x place) ((x == earlier) || is_reached n (commands ++ more) x earlier) ((x == earlier) || is_reached n commands x earlier)
    (λ less. ap (λ (b : Bool). (x == earlier) || b) (reached_front commands more n x earlier (omega (arith, ltb-true x place less)))))
    numbers
    ∙ sym (any_filter (λ x. (x == earlier) || is_reached n commands x earlier) (λ x. nat_lt x place) numbers)

kept_front : (commands more : List Command) (later earlier : ℕ) → later < length commands → earlier < later
    → is_kept_in_order (commands ++ more) later earlier ≡ is_kept_in_order commands later earlier
kept_front commands more later earlier within before =
    ap₂ (λ (conflict known : Bool). not conflict || known)
    (ap₂ (λ (o p : Option Command). option_map_or (λ (e : Command). option_map_or (λ (l : Command). do_conflict e.kind l.kind) p false) o false)
    (get_front commands more earlier (omega arith)) (get_front commands more later within))
    (reached_front commands more later later earlier within)

pub front_covered : FrontIsCovered
front_covered commands more covered =
    all_of_range (λ later. list_all (is_kept_in_order commands later) (range_with_len 0 later)) 0 (length commands)
    (λ later from to. all_of_range (is_kept_in_order commands later) 0 later
    (λ earlier low high.
    let row : list_all (is_kept_in_order (commands ++ more) later) (range_with_len 0 later) ≡ true =
    all_in_range (λ l. list_all (is_kept_in_order (commands ++ more) l) (range_with_len 0 l)) 0 (length (commands ++ more)) covered later (omega arith)
    (omega (arith, length-append commands more)) in
    sym (kept_front commands more later earlier (omega arith) (omega arith))
    ∙ all_in_range (is_kept_in_order (commands ++ more) later) 0 later row earlier low high))

-- the members of more groups
pub members_append : (number : ℕ) (groups more : List Group)
    → members_from number (groups ++ more) ≡ members_from number groups ++ members_from (number + length groups) more
members_append number [] more = let same : number ≡ number + 0 = omega arith in ap (λ (n : ℕ). members_from n more) same
members_append number (group ∷ groups) more =
    let front : List Member = map (λ (command : Command). record { group = number; command = command }) group.commands in
    let same : number + 1 + length groups ≡ number + suc (length groups) = omega arith in
    ap (λ (rest : List Member). front ++ rest)
    (members_append (number + 1) groups more ∙ ap (λ (n : ℕ). members_from (number + 1) groups ++ members_from n more) same)
    ∙ sym (append_assoc front (members_from (number + 1) groups) (members_from (number + suc (length groups)) more))

-- what stands between two places is the same in a longer list
pub range_front : {X : Type 0} (xs ys : List X) (a b : ℕ) → a ≤ b → b ≤ length xs → slice_range (xs ++ ys) a b ≡ slice_range xs a b
range_front xs ys a b less within =
    ap (take (b - a)) (drop-append-le a xs ys (omega arith)) ∙ take-append-le (b - a) (drop a xs) ys (omega (arith, length-drop a xs))

-- what one waits for stays when more come behind
pub waits_for_front : (xs ys : List Member) (later earlier : ℕ) → later < length xs → earlier < later
    → waits_for (xs ++ ys) later earlier ≡ waits_for xs later earlier
waits_for_front xs ys later earlier within before =
    let waits : List Member → Option Member → Option Member → Bool =
    λ between o p. option_map_or (λ (l : Member). option_map_or (λ (e : Member). is_waited e between l) p false) o false in
    ap (λ (between : List Member). waits between (slice_get (xs ++ ys) later) (slice_get (xs ++ ys) earlier))
    (range_front xs ys (earlier + 1) later (omega arith) (omega arith))
    ∙ ap₂ (waits (slice_range xs (earlier + 1) later)) (get_front xs ys later within) (get_front xs ys earlier (omega arith))

pub waits_of_front : (xs ys : List Member) (place : ℕ) → place < length xs → waits_of (xs ++ ys) place ≡ waits_of xs place
waits_of_front xs ys place within =
    filter_range (waits_for (xs ++ ys) place) (waits_for xs place) 0 place (λ k from to. waits_for_front xs ys place k within (omega arith))

placed_append : (all : List Member) (a : ℕ) (xs ys : List Member)
    → placed all (range_with_len a (length (xs ++ ys))) (xs ++ ys)
    ≡ placed all (range_with_len a (length xs)) xs ++ placed all (range_with_len (a + length xs) (length ys)) ys
placed_append all a [] ys = let same : a ≡ a + 0 = omega arith in ap (λ (n : ℕ). placed all (range_with_len n (length ys)) ys) same
placed_append all a (x ∷ xs) ys =
    let same : a + 1 + length xs ≡ a + suc (length xs) = omega arith in
    ap (λ (rest : List Command). record x.command { id = a; before = waits_of all a } ∷ rest)
    (placed_append all (a + 1) xs ys
    ∙ ap (λ (n : ℕ). placed all (range_with_len (a + 1) (length xs)) xs ++ placed all (range_with_len n (length ys)) ys) same)

placed_same : (all other : List Member) (a : ℕ) (ms : List Member) → ((k : ℕ) → a ≤ k → k < a + length ms → waits_of all k ≡ waits_of other k)
    → placed all (range_with_len a (length ms)) ms ≡ placed other (range_with_len a (length ms)) ms
placed_same all other a [] same = refl
placed_same all other a (m ∷ ms) same =
    ap₂ (λ (waits : List ℕ) (rest : List Command). record m.command { id = a; before = waits } ∷ rest) (same a (omega arith) (omega arith))
    (placed_same all other (a + 1) ms (λ k from to. same k (omega arith) (omega arith)))

placed_front : (xs ys : List Member)
    → placed (xs ++ ys) (range_with_len 0 (length (xs ++ ys))) (xs ++ ys)
    ≡ placed xs (range_with_len 0 (length xs)) xs ++ placed (xs ++ ys) (range_with_len (0 + length xs) (length ys)) ys
placed_front xs ys =
    placed_append (xs ++ ys) 0 xs ys
    ∙ ap (λ (front : List Command). front ++ placed (xs ++ ys) (range_with_len (0 + length xs) (length ys)) ys)
    (placed_same (xs ++ ys) xs 0 xs (λ k from to. waits_of_front xs ys k (omega arith)))

-- a list that begins with another one is that one and the rest behind it
split : {X : Type 0} (all front rest : List X) → all ≡ front ++ rest → all ≡ front ++ drop (length front) all
split all front rest is = is ∙ ap (λ ys. front ++ ys) (sym (ap (drop (length front)) is ∙ drop_at front rest (length front) refl))

pub front_stays : FrontStays
front_stays groups more =
    let xs : List Member = members_of groups in
    let ys : List Member = members_from (0 + length groups) more in
    split (placed_commands (groups ++ more)) (placed_commands groups) (placed (xs ++ ys) (range_with_len (0 + length xs) (length ys)) ys)
    (ap (λ (all : List Member). placed all (range_with_len 0 (length all)) all) (members_append 0 groups more) ∙ placed_front xs ys)
