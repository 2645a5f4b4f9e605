-- The released tickets, the waiting commands and the lists after one more command.
use Rattle.std.proofs.Common.{◌≡◌, ℕ, suc, ◌+◌, ◌<◌, ◌≤◌, Bool, true, false, List, [], ◌∷◌, ◌++◌, length, map, refl, ap, sym, subst, ◌∙◌, arith, Option, None, Some, is_some}
use Rattle.std.specs.Prelude.{◌==◌, ◌||◌, if◌then◌else◌, unwrap_or}
use Rattle.std.specs.List.{filter, list_all, range_with_len}
use Rattle.std.specs.Option.{option_map}
use Rattle.std.specs.VecDeque.{deque_capacity, deque_len}
use Rattle.std.proofs.lemmas.Bool.{and_parts, eq-eqb, eqb-true, false≢true, ne_eqb}
use Rattle.std.proofs.lemmas.List.{append-nil, length-append}
use Rattle.nim_base.specs.declared.number.Slot.{Slot}
use Rattle.nim_command.specs.Slots.{is_among}
use Rattle.nim_order.proofs.Items.{filter_range}
use Rattle.nim_queue.specs.Arrived.{link_to, reading_of}
use Rattle.nim_queue.specs.Counts.{AreReleased, AreShort, IsRising, free_ones, is_free, kept_ones, put_in}
use Rattle.nim_queue.specs.Joined.{followed, gathered, gathered_reads, more_read, rewritten}
use Rattle.nim_queue.specs.declared.slot_use.SlotUse.{SlotUse}
use Rattle.nim_queue.specs.declared.tickets.Tickets.{Tickets}
use Rattle.nim_queue.specs.declared.waiting.Waiting.{Waiting}
use Rattle.nim_queue.proofs.Counting.{fewer_pass}
use Rattle.nim_queue.proofs.Freeing.{free_some}
use Rattle.nim_queue.proofs.Rising.{one_more, range_last, rising}

-- one more command waits, and those that it waits for are followed by it
abbrev pub HasEntered : (ℕ → Option Waiting) → (ℕ → Option Waiting) → (ℕ → List ℕ) → ℕ → Waiting → Type 0
HasEntered kept next more n w = (t : ℕ) → next t ≡ (if n == t then Some w else option_map (followed (more t)) (kept t))

free_followed : (more : List ℕ) (o : Option Waiting) → is_free (option_map (followed more) o) ≡ is_free o
free_followed more None = refl
free_followed more (Some w) = refl

some_followed : (more : List ℕ) (o : Option Waiting) → is_some (option_map (followed more) o) ≡ is_some o
some_followed more None = refl
some_followed more (Some w) = refl

entered_other : (kept next : ℕ → Option Waiting) (more : ℕ → List ℕ) (n : ℕ) (w : Waiting) (x : ℕ) → HasEntered kept next more n w → (n == x) ≡ false
    → next x ≡ option_map (followed (more x)) (kept x)
entered_other kept next more n w x has other = has x ∙ ap (λ (b : Bool). if b then Some w else option_map (followed (more x)) (kept x)) other

entered_here : (kept next : ℕ → Option Waiting) (more : ℕ → List ℕ) (n : ℕ) (w : Waiting) → HasEntered kept next more n w → next n ≡ Some w
entered_here kept next more n w has = has n ∙ ap (λ (b : Bool). if b then Some w else option_map (followed (more n)) (kept n)) (eq-eqb n n refl)

one_at_most : (b : Bool) (n : ℕ) → length (if b then n ∷ [] else []) ≤ 1
one_at_most true n = omega arith
one_at_most false n = omega arith

-- one more waits at most
pub kept_count : (kept next : ℕ → Option Waiting) (more : ℕ → List ℕ) (n : ℕ) (w : Waiting) → HasEntered kept next more n w
    → length (kept_ones next (n + 1)) ≤ length (kept_ones kept n) + 1
kept_count kept next more n w has =
    let front : kept_ones next n ≡ kept_ones kept n =
    filter_range (λ t. is_some (next t)) (λ t. is_some (kept t)) 0 n
    (λ x from to.
    ap is_some (entered_other kept next more n w x has (ne_eqb n x (λ is. omega (arith, is, to)))) ∙ some_followed (more x) (kept x)) in
    let last : List ℕ = if is_some (next n) then n ∷ [] else [] in
    omega (arith, ap length (range_last (λ t. is_some (next t)) n), length-append (kept_ones next n) last, ap length front, one_at_most (is_some (next n)) n)

pub released_joined : (kept next : ℕ → Option Waiting) (more : ℕ → List ℕ) (old new : Tickets) (n : ℕ) (w : Waiting) → AreReleased kept old n
    → HasEntered kept next more n w
    → (IsRising old.items.items → deque_len old.items < deque_capacity old.items
    → new.items.items ≡ (if w.pending == 0 then put_in n old.items.items else old.items.items))
    → deque_capacity old.items ≤ deque_capacity new.items → length (kept_ones kept n) + 1 ≤ deque_capacity old.items → AreReleased next new (n + 1)
released_joined kept next more old new n w are has put capacity room = record {
  items = by (w.pending == 0) refl (put rises fits);
  room = omega (arith, kept_count kept next more n w has, capacity, room);
  past = λ t from.
      entered_other kept next more n w t has (ne_eqb n t (λ is. omega (arith, is, from)))
      ∙ ap (option_map (followed (more t))) (are.past t (omega (arith, from)));
}
  where
    p : ℕ → Bool
    p t = is_free (kept t)

    q : ℕ → Bool
    q t = is_free (next t)

    rises : IsRising old.items.items
    rises = subst IsRising (sym are.items) (rising (λ t. is_free (kept t)) n)

    fits : deque_len old.items < deque_capacity old.items
    fits =
        omega (
          arith,
          room,
          old.items.ok.0,
          ap length are.items,
          fewer_pass (λ t. is_free (kept t)) (λ t. is_some (kept t)) (λ t free. free_some (kept t) free) (range_with_len 0 n),
        )

    other : (x : ℕ) → (n == x) ≡ false → is_free (next x) ≡ is_free (kept x)
    other x apart = ap is_free (entered_other kept next more n w x has apart) ∙ free_followed (more x) (kept x)

    here : is_free (next n) ≡ (w.pending == 0)
    here = ap is_free (entered_here kept next more n w has)

    none_yet : is_free (kept n) ≡ false
    none_yet = ap is_free (are.past n (omega arith))

    -- none of the old ones is at the new place
    old_ones : filter (λ t. is_free (kept t)) (range_with_len 0 (n + 1)) ≡ free_ones kept n
    old_ones =
        range_last (λ t. is_free (kept t)) n ∙ ap (λ (b : Bool). free_ones kept n ++ (if b then n ∷ [] else [])) none_yet ∙ append-nil (free_ones kept n)

    same_at : (w.pending == 0) ≡ false → (x : ℕ) (b : Bool) → (n == x) ≡ b → is_free (kept x) ≡ is_free (next x)
    same_at busy x true is = subst (λ (k : ℕ). is_free (kept k) ≡ is_free (next k)) (eqb-true n x is) (none_yet ∙ sym (here ∙ busy))
    same_at busy x false is = sym (other x is)

    by : (b : Bool) → (w.pending == 0) ≡ b → new.items.items ≡ (if b then put_in n old.items.items else old.items.items)
        → new.items.items ≡ free_ones next (n + 1)
    by true is items =
        items ∙ ap (put_in n) (are.items ∙ sym old_ones)
        ∙ one_more (λ t. is_free (kept t)) (λ t. is_free (next t)) n (n + 1) (omega arith) none_yet (here ∙ is) other
    by false is items =
        items ∙ are.items ∙ sym old_ones
        ∙ filter_range (λ t. is_free (kept t)) (λ t. is_free (next t)) 0 (n + 1) (λ x from to. same_at is x (n == x) refl)

pub length_gathered : (n t : ℕ) (d : List ℕ) → length (gathered t (map (link_to n) d)) ≤ length d
length_gathered n t [] = omega arith
length_gathered n t (e ∷ d) = by (e == t) (length_gathered n t d) where
  by : (b : Bool) → length (gathered t (map (link_to n) d)) ≤ length d → length ((if b then n ∷ [] else []) ++ gathered t (map (link_to n) d)) ≤ suc (length d)
  by true less = omega (arith, less)
  by false less = omega (arith, less)

pub length_gathered_reads : (n s : ℕ) (slots : List Slot) → length (gathered_reads s (map (reading_of n) slots)) ≤ length slots
length_gathered_reads n s [] = omega arith
length_gathered_reads n s (x ∷ slots) = by (x.0 == s) (length_gathered_reads n s slots) where
  by : (b : Bool) → length (gathered_reads s (map (reading_of n) slots)) ≤ length slots
      → length ((if b then n ∷ [] else []) ++ gathered_reads s (map (reading_of n) slots)) ≤ suc (length slots)
  by true less = omega (arith, less)
  by false less = omega (arith, less)

-- no command has more followers than were counted
pub short_joined : (kept next : ℕ → Option Waiting) (more : ℕ → List ℕ) (n : ℕ) (w : Waiting) (most count : ℕ) → w.followers ≡ []
    → HasEntered kept next more n w
    → ((t : ℕ) → length (more t) ≤ count) → AreShort kept most → AreShort next (most + count)
short_joined kept next more n w most count none has few short t v got = by (n == t) (kept t) refl (sym (has t) ∙ got) where
  by : (b : Bool) (o : Option Waiting) → kept t ≡ o → (if b then Some w else option_map (followed (more t)) o) ≡ Some v → length v.followers ≤ most + count
  by true o here made = omega (arith, ap (λ (x : Option Waiting). length (followers_of x)) (sym made), ap length none) where
    followers_of : Option Waiting → List ℕ
    followers_of None = []
    followers_of (Some x) = x.followers
  by false None here made = absurd (false≢true (ap is_some made))
  by false (Some x) here made =
      let same : v.followers ≡ x.followers ++ more t = sym (ap (λ (o : Option Waiting). (unwrap_or o w).followers) made) in
      omega (arith, ap length same, length-append x.followers (more t), few t, short t x here)

-- a slot that is among some passes what all of them pass
pub among_all : (p : ℕ → Bool) (xs : List Slot) (s : ℕ) → list_all (λ (x : Slot). p x.0) xs ≡ true → is_among xs (record { 0 = s }) ≡ true → p s ≡ true
among_all p [] s all is = absurd (false≢true is)
among_all p (x ∷ xs) s all is =
    by (x.0 == s) refl (and_parts (p x.0) (list_all (λ (y : Slot). p y.0) xs) all).0
    (among_all p xs s (and_parts (p x.0) (list_all (λ (y : Slot). p y.0) xs) all).1) is
  where
    by : (b : Bool) → (x.0 == s) ≡ b → p x.0 ≡ true → (is_among xs (record { 0 = s }) ≡ true → p s ≡ true) → (b || is_among xs (record { 0 = s })) ≡ true
        → p s ≡ true
    by true here passes rest is = ap p (sym (eqb-true x.0 s here)) ∙ passes
    by false other passes rest is = rest is

-- a slot keeps its use
pub use_stays : (n : ℕ) (w : Bool) (more : List ℕ) (o : Option SlotUse)
    → is_some (option_map (more_read more) (if w then option_map (rewritten n) o else o)) ≡ is_some o
use_stays n true more None = refl
use_stays n true more (Some u) = refl
use_stays n false more None = refl
use_stays n false more (Some u) = refl
