-- The released tickets when a command is complete, and when one of the waits of another is.
use Rattle.std.proofs.Common.{◌≡◌, ℕ, ◌+◌, ◌<◌, ◌≤◌, Bool, true, false, not, List, ◌∷◌, length, refl, ap, sym, subst, ◌∙◌, arith, Option, None, Some, inl, inr}
use Rattle.std.specs.Prelude.{◌==◌, if◌then◌else◌, is_some, nat_lt}
use Rattle.std.specs.List.{range_with_len}
use Rattle.std.specs.Option.{option_map, option_map_or}
use Rattle.std.specs.VecDeque.{deque_capacity, deque_len}
use Rattle.std.proofs.lemmas.Bool.{cases_lt, eq-eqb, eqb-true, false≢true}
use Rattle.std.proofs.lemmas.List.{length-append}
use Rattle.std.proofs.lemmas.List.Filters.{length-filter_both}
use Rattle.nim_order.proofs.Items.{filter_range}
use Rattle.nim_queue.specs.Counts.{AreReleased, IsRising, below, fewer, free_ones, is_free, kept_ones, not_below, put_in, taken_out}
use Rattle.nim_queue.specs.declared.tickets.Tickets.{Tickets}
use Rattle.nim_queue.specs.declared.waiting.Waiting.{Waiting}
use Rattle.nim_queue.proofs.Counting.{fewer_none, fewer_pass, free_same, was_last}
use Rattle.nim_queue.proofs.Rising.{one_fewer, one_more, rising}

-- a ticket that is kept is below the number
kept_within : (kept : ℕ → Option Waiting) (n u : ℕ) → ((t : ℕ) → n ≤ t → kept t ≡ None) → is_some (kept u) ≡ true → u < n
kept_within kept n u past some =
    elim (cases_lt u n) [ inl within ↦ within | inr from ↦ absurd (false≢true (sym (ap is_some (past u from)) ∙ some)) ]

-- one that is complete
pub removed : (kept next : ℕ → Option Waiting) (old new : Tickets) (n u : ℕ) (w : Waiting) → AreReleased kept old n → kept u ≡ Some w
    → ((t : ℕ) → next t ≡ (if u == t then None else kept t))
    → (IsRising old.items.items → new.items.items ≡ (if w.pending == 0 then taken_out u old.items.items else old.items.items))
    → deque_capacity new.items ≡ deque_capacity old.items → AreReleased next new n
removed kept next old new n u w are found gone items room = record {
  items = by (w.pending == 0) refl (items (subst IsRising (sym are.items) (rising (λ t. is_free (kept t)) n)));
  room = omega (
    arith,
    are.room,
    room,
    fewer_pass (λ t. is_some (next t)) (λ t. is_some (kept t)) (λ t some. was_some t (u == t) (gone t) some)
        (range_with_len 0 n),
  );
  past = λ t from. gone t ∙ ap (λ (o : Option Waiting). if u == t then None else o) (are.past t from) ∙ either_none (u == t);
}
  where
    within : u < n
    within = kept_within kept n u are.past (ap is_some found)

    either_none : (b : Bool) → (if b then None else None) ≡ (let none : Option Waiting = None in none)
    either_none true = refl
    either_none false = refl

    was_some : (t : ℕ) (b : Bool) → next t ≡ (if b then None else kept t) → is_some (next t) ≡ true → is_some (kept t) ≡ true
    was_some t true is some = absurd (false≢true (sym (ap is_some is) ∙ some))
    was_some t false is some = sym (ap is_some is) ∙ some

    other : (x : ℕ) → (u == x) ≡ false → is_free (next x) ≡ is_free (kept x)
    other x apart = ap is_free (gone x ∙ ap (λ (b : Bool). if b then None else kept x) apart)

    here : is_free (next u) ≡ false
    here = ap is_free (gone u ∙ ap (λ (b : Bool). if b then None else kept u) (eq-eqb u u refl))

    same_at : (x : ℕ) (b : Bool) → (u == x) ≡ b → (w.pending == 0) ≡ false → is_free (kept x) ≡ is_free (next x)
    same_at x true is busy = subst (λ (k : ℕ). is_free (kept k) ≡ is_free (next k)) (eqb-true u x is) (ap is_free found ∙ busy ∙ sym here)
    same_at x false is busy = sym (other x is)

    by : (b : Bool) → (w.pending == 0) ≡ b → new.items.items ≡ (if b then taken_out u old.items.items else old.items.items) → new.items.items ≡ free_ones next n
    by true is items =
        items ∙ ap (taken_out u) are.items
        ∙ one_fewer (λ t. is_free (kept t)) (λ t. is_free (next t)) u n within (ap is_free found ∙ is) here other
    by false is items =
        items ∙ are.items ∙ filter_range (λ t. is_free (kept t)) (λ t. is_free (next t)) 0 n (λ x from to. same_at x (u == x) refl is)

-- one of the waits of a command, where it is there
abbrev pub HasOneFewer : (ℕ → Option Waiting) → (ℕ → Option Waiting) → ℕ → Type 0
HasOneFewer kept next u = (t : ℕ) → next t ≡ option_map (fewer (if u == t then 1 else 0)) (kept t)

some_same : (k : ℕ) (o : Option Waiting) → is_some (option_map (fewer k) o) ≡ is_some o
some_same k None = refl
some_same k (Some w) = refl

at_other : (kept next : ℕ → Option Waiting) (u x : ℕ) → HasOneFewer kept next u → (u == x) ≡ false → next x ≡ kept x
at_other kept next u x has apart = has x ∙ ap (λ (b : Bool). option_map (fewer (if b then 1 else 0)) (kept x)) apart ∙ fewer_none (kept x)

at_one : (kept next : ℕ → Option Waiting) (u : ℕ) → HasOneFewer kept next u → next u ≡ option_map (fewer 1) (kept u)
at_one kept next u has = has u ∙ ap (λ (b : Bool). option_map (fewer (if b then 1 else 0)) (kept u)) (eq-eqb u u refl)

kept_same : (kept next : ℕ → Option Waiting) (u n : ℕ) → HasOneFewer kept next u → kept_ones next n ≡ kept_ones kept n
kept_same kept next u n has =
    filter_range (λ t. is_some (next t)) (λ t. is_some (kept t)) 0 n
    (λ x from to. ap is_some (has x) ∙ some_same (if u == x then 1 else 0) (kept x))

past_same : (kept next : ℕ → Option Waiting) (u n : ℕ) → HasOneFewer kept next u → ((t : ℕ) → n ≤ t → kept t ≡ None) → (t : ℕ) → n ≤ t → next t ≡ None
past_same kept next u n has past t from = has t ∙ ap (option_map (fewer (if u == t then 1 else 0))) (past t from)

-- it wasn't the last
pub counted_other : (kept next : ℕ → Option Waiting) (old : Tickets) (n u : ℕ) → AreReleased kept old n → HasOneFewer kept next u
    → option_map_or (λ (w : Waiting). w.pending == 1) (kept u) false ≡ false → AreReleased next old n
counted_other kept next old n u are has not_last = record {
  items = are.items ∙ filter_range (λ t. is_free (kept t)) (λ t. is_free (next t)) 0 n (λ x from to. same_at x (u == x) refl);
  room = subst (λ (ts : List ℕ). length ts ≤ deque_capacity old.items) (sym (kept_same kept next u n has)) are.room;
  past = past_same kept next u n has are.past;
}
  where
    same_at : (x : ℕ) (b : Bool) → (u == x) ≡ b → is_free (kept x) ≡ is_free (next x)
    same_at x true is =
        subst (λ (k : ℕ). is_free (kept k) ≡ is_free (next k)) (eqb-true u x is) (sym (ap is_free (at_one kept next u has) ∙ free_same (kept u) not_last))
    same_at x false is = ap is_free (sym (at_other kept next u x has is))

pub free_some : (o : Option Waiting) → is_free o ≡ true → is_some o ≡ true
free_some None free = free
free_some (Some w) free = refl

length_put : (u : ℕ) (xs : List ℕ) → length (put_in u xs) ≡ length xs + 1
length_put u xs =
    omega (arith, length-append (below u xs) (u ∷ not_below u xs), length-filter_both (λ x. nat_lt x u) (λ x. not (nat_lt x u)) (λ x. refl) xs)

-- it was the last
pub counted_last : (kept next : ℕ → Option Waiting) (old new : Tickets) (n u : ℕ) → AreReleased kept old n → HasOneFewer kept next u
    → option_map_or (λ (w : Waiting). w.pending == 1) (kept u) false ≡ true
    → (IsRising old.items.items → deque_len old.items < deque_capacity old.items → new.items.items ≡ put_in u old.items.items)
    → deque_capacity old.items ≤ deque_capacity new.items → AreReleased next new n
counted_last kept next old new n u are has last put room =
    let was = was_last (kept u) last in
    let within : u < n = kept_within kept n u are.past was.2 in
    let more : put_in u (free_ones kept n) ≡ free_ones next n =
    one_more (λ t. is_free (kept t)) (λ t. is_free (next t)) u n within was.0 (ap is_free (at_one kept next u has) ∙ was.1)
    (λ x apart. ap is_free (at_other kept next u x has apart)) in
    let rises : IsRising old.items.items = subst IsRising (sym are.items) (rising (λ t. is_free (kept t)) n) in
    let most : length (free_ones next n) ≤ length (kept_ones next n) =
    fewer_pass (λ t. is_free (next t)) (λ t. is_some (next t)) (λ t free. free_some (next t) free) (range_with_len 0 n) in
    let long : length (free_ones next n) ≡ length (free_ones kept n) + 1 = ap length (sym more) ∙ length_put u (free_ones kept n) in
    let len : deque_len old.items ≡ length (free_ones kept n) = old.items.ok.0 ∙ ap length are.items in
    let all : length (kept_ones next n) ≡ length (kept_ones kept n) = ap length (kept_same kept next u n has) in
    let fits : deque_len old.items < deque_capacity old.items = omega (arith, most, long, len, all, are.room) in
    record {
      items = put rises fits ∙ ap (put_in u) are.items ∙ more;
      room = omega (arith, all, are.room, room);
      past = past_same kept next u n has are.past;
    }
