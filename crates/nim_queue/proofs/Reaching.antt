-- Whom a command of a group that arrives waits for.
use Rattle.std.proofs.Common.{◌≡◌, ℕ, zero, suc, ◌+◌, ◌-◌, ◌<◌, ◌≤◌, Bool, true, false, not, List, [], ◌∷◌, ◌++◌, drop, take, get_or, length, map, ◌⊎◌, refl, ap, ap₂, sym, ◌∙◌, arith, Option, None, Some, inl, inr, is_some}
use Rattle.std.specs.Prelude.{◌==◌, ◌&&◌, ◌||◌, if◌then◌else◌, nat_eq, slice_get, slice_range}
use Rattle.std.specs.HashMap.{get}
use Rattle.std.specs.List.{list_any, range_with_len}
use Rattle.std.specs.Option.{option_map, option_map_or}
use Rattle.std.proofs.lemmas.Bool.{cases_eq, cases_lt, eq-eqb, eqb-true, false≢true, ne_eqb}
use Rattle.std.proofs.lemmas.List.{drop-append-le, length-append, length-drop, length-map, take-append-le, take_all}
use Rattle.std.proofs.lemmas.List.Folds.{list_any-append}
use Rattle.std.proofs.lemmas.Option.{slice_get-map, slice_get_cases}
use Rattle.nim_base.specs.declared.number.Slot.{Slot}
use Rattle.nim_command.specs.declared.command.Command.{Command}
use Rattle.nim_command.specs.Slots.{does_read, does_touch, does_write, is_among, reads_of, writes_of}
use Rattle.nim_command.specs.Waits.{Group, Member, is_border, is_waited, is_written_by, members_from, members_of, waits_for, waits_of}
use Rattle.nim_command.proofs.Lists.{any_nothing}
use Rattle.nim_queue.specs.Used.{used_in}
use Rattle.nim_queue.specs.Arrived.{Sight, as_members, is_user_met, does_await, is_written_in, named_in, sight_of}
use Rattle.nim_queue.specs.Counts.{is_in}
use Rattle.nim_queue.specs.Stands.{KeepsGroups, is_reader, is_writer, kept_at, open_waits}
use Rattle.nim_queue.specs.declared.queue.BeforeQueue.{BeforeQueue}
use Rattle.nim_queue.specs.declared.slot_use.SlotUse.{SlotUse}
use Rattle.nim_base.proofs.Lists.{any_same, get_front}
use Rattle.nim_queue.proofs.Counting.{in_filter, same_ways}
use Rattle.nim_queue.proofs.Joining.{not_before}
use Rattle.nim_queue.proofs.Lists.{get_at}

named_below : (first : ℕ) (past : List Command) (n e : ℕ) → e < first → is_in e (named_in first past n) ≡ false
named_below first [] n e less = refl
named_below first (c ∷ past) n e less = by (c.id == n) (named_below (first + 1) past n e (omega (arith, less))) where
  by : (b : Bool) → is_in e (named_in (first + 1) past n) ≡ false → is_in e (if b then first ∷ named_in (first + 1) past n else named_in (first + 1) past n)
      ≡ false
  by true rest = ap₂ (λ (x y : Bool). x || y) (ne_eqb e first (λ is. omega (arith, is, less))) rest
  by false rest = rest

named_past : (first : ℕ) (past : List Command) (n e : ℕ) → first + length past ≤ e → is_in e (named_in first past n) ≡ false
named_past first [] n e behind = refl
named_past first (c ∷ past) n e behind = by (c.id == n) (named_past (first + 1) past n e (omega (arith, behind))) where
  by : (b : Bool) → is_in e (named_in (first + 1) past n) ≡ false → is_in e (if b then first ∷ named_in (first + 1) past n else named_in (first + 1) past n)
      ≡ false
  by true rest = ap₂ (λ (x y : Bool). x || y) (ne_eqb e first (λ is. omega (arith, is, behind))) rest
  by false rest = rest

named_at : (first : ℕ) (past : List Command) (n k e : ℕ) (c : Command) → slice_get past k ≡ Some c → e ≡ first + k
    → is_in e (named_in first past n) ≡ (c.id == n)
named_at first [] n k e c got is = absurd (false≢true (ap is_some got))
named_at first (x ∷ past) n zero e c got is =
    by (x.id == n) (named_below (first + 1) past n e (omega (arith, is))) ∙ ap (λ (o : Option Command). option_map_or (λ (y : Command). y.id == n) o false) got
  where
    by : (b : Bool) → is_in e (named_in (first + 1) past n) ≡ false
        → is_in e (if b then first ∷ named_in (first + 1) past n else named_in (first + 1) past n) ≡ b
    by true rest = ap (λ (b : Bool). b || is_in e (named_in (first + 1) past n)) (eq-eqb e first (omega (arith, is)))
    by false rest = rest
named_at first (x ∷ past) n (suc k) e c got is = by (x.id == n) ∙ named_at (first + 1) past n k e c got (omega (arith, is)) where
  by : (b : Bool) → is_in e (if b then first ∷ named_in (first + 1) past n else named_in (first + 1) past n) ≡ is_in e (named_in (first + 1) past n)
  by true = ap (λ (b : Bool). b || is_in e (named_in (first + 1) past n)) (ne_eqb e first (λ here. omega (arith, here, is)))
  by false = refl

-- nobody is met who isn't kept
none_met : (sight : Sight) (is_user : ℕ → Option SlotUse → Bool) (slots : List Slot) (e : ℕ) → is_some (sight.kept e) ≡ false
    → is_user_met sight is_user slots e ≡ false
none_met sight is_user slots e gone =
    any_nothing (λ (s : Slot). not (sight.written s.0) && (is_user e (sight.used s.0) && is_some (sight.kept e)))
    (λ s. ap (λ (b : Bool). not (sight.written s.0) && (is_user e (sight.used s.0) && b)) gone ∙ both (not (sight.written s.0)) (is_user e (sight.used s.0)))
    slots
  where
    both : (a b : Bool) → (a && (b && false)) ≡ false
    both true true = refl
    both true false = refl
    both false b = refl

in_range : (k n e : ℕ) → k ≤ e → e < k + n → is_in e (range_with_len k n) ≡ true
in_range k zero e from to = absurd (omega (arith, from, to))
in_range k (suc n) e from to =
    elim (cases_eq e k) [
      | inl here ↦ ap (λ (b : Bool). b || is_in e (range_with_len (k + 1) n)) (eq-eqb e k here)
      | inr other ↦
          ap (λ (b : Bool). b || is_in e (range_with_len (k + 1) n)) (ne_eqb e k other)
          ∙ in_range (k + 1) n e (elim (cases_lt k e) [ inl less ↦ omega (arith, less) | inr over ↦ absurd (other (omega (arith, from, over))) ])
          (omega (arith, to))
    ]

-- whether the last one waits for an earlier one that isn't complete
open_at : (ms : List Member) (done : ℕ → Bool) (n e : ℕ) → e < n → is_in e (open_waits ms done n) ≡ (waits_for ms n e && not (done e))
open_at ms done n e less =
    in_filter (λ x. not (done x)) e (waits_of ms n)
    ∙ ap (λ (b : Bool). b && not (done e)) (in_filter (waits_for ms n) e (range_with_len 0 n)
    ∙ ap (λ (b : Bool). b && waits_for ms n e) (in_range 0 n e (omega arith) (omega (arith, less))))

-- the group of a member is one of the groups
group_within : (number : ℕ) (groups : List Group) (t : ℕ) (x : Member) → slice_get (members_from number groups) t ≡ Some x → x.group < number + length groups
group_within number [] t x got = absurd (false≢true (ap is_some got))
group_within number (g ∷ groups) t x got = within g.commands t (λ k found. group_within (number + 1) groups k x found) got where
  within : (cs : List Command) (k : ℕ) → ((j : ℕ) → slice_get (members_from (number + 1) groups) j ≡ Some x → x.group < number + 1 + length groups)
      → slice_get (map (λ (c : Command). let m : Member = record { group = number; command = c } in m) cs ++ members_from (number + 1) groups) k ≡ Some x
      → x.group < number + suc (length groups)
  within [] k later got = omega (arith, later k got)
  within (c ∷ cs) zero later got =
      let is : number ≡ x.group = ap (λ (o : Option Member). option_map_or (λ (m : Member). m.group) o number) got in omega (arith, is)
  within (c ∷ cs) (suc k) later got = within cs k later got

-- a test of slots that are in two lists
among_both : (q : Slot → Bool) (xs ys : List Slot)
    → list_any (λ s. is_among ys s && q s) xs ≡ list_any (λ s. is_among xs s && q s) ys
among_both q [] ys = sym (any_nothing (λ (s : Slot). false) (λ s. refl) ys)
among_both q (x ∷ xs) ys =
    ap₂ (λ (a b : Bool). a || b) (one_among ys) (among_both q xs ys)
    ∙ either ys
  where
    one_among : (zs : List Slot) → (is_among zs x && q x) ≡ list_any (λ (s : Slot). (x.0 == s.0) && q s) zs
    one_among [] = refl
    one_among (z ∷ zs) = by (z.0 == x.0) (x.0 == z.0) (same_ways z.0 x.0) (q z) (λ is. ap q (slot_of (eqb-true z.0 x.0 is))) (one_among zs) where
      slot_of : {a b : ℕ} → a ≡ b → let s : Slot = record { 0 = a } in let t : Slot = record { 0 = b } in s ≡ t
      slot_of is = ap (λ (n : ℕ). let s : Slot = record { 0 = n } in s) is

      by : (b c : Bool) → b ≡ c → (qz : Bool) → (b ≡ true → qz ≡ q x) → (is_among zs x && q x) ≡ list_any (λ (s : Slot). (x.0 == s.0) && q s) zs
          → ((b || is_among zs x) && q x) ≡ ((c && qz) || list_any (λ (s : Slot). (x.0 == s.0) && q s) zs)
      by true true is qz same rest = first (q x) qz (is_among zs x) (sym (same refl)) rest where
        first : (qx qz a : Bool) → qx ≡ qz → (a && qx) ≡ list_any (λ (s : Slot). (x.0 == s.0) && q s) zs
            → qx ≡ (qz || list_any (λ (s : Slot). (x.0 == s.0) && q s) zs)
        first true true a is rest = refl
        first true false a is rest = absurd (false≢true (sym is))
        first false true a is rest = absurd (false≢true is)
        first false false a is rest = sym (and_false a) ∙ rest where
          and_false : (b : Bool) → (b && false) ≡ false
          and_false true = refl
          and_false false = refl
      by false false is qz same rest = rest
      by true false is qz same rest = absurd (false≢true (sym is))
      by false true is qz same rest = absurd (false≢true is)

    spread : (a b c : Bool) → ((a && c) || (b && c)) ≡ ((a || b) && c)
    spread true true true = refl
    spread true true false = refl
    spread true false true = refl
    spread true false false = refl
    spread false b c = refl

    four : (a b c d : Bool) → ((a || b) || (c || d)) ≡ ((a || c) || (b || d))
    four true b c d = refl
    four false true true d = refl
    four false true false d = refl
    four false false c d = refl

    either : (zs : List Slot) → (list_any (λ (s : Slot). (x.0 == s.0) && q s) zs || list_any (λ s. is_among xs s && q s) zs)
        ≡ list_any (λ s. is_among (x ∷ xs) s && q s) zs
    either [] = refl
    either (z ∷ zs) =
        four ((x.0 == z.0) && q z) (list_any (λ (s : Slot). (x.0 == s.0) && q s) zs) (is_among xs z && q z) (list_any (λ s. is_among xs s && q s) zs)
        ∙ ap₂ (λ (a b : Bool). a || b) (spread (x.0 == z.0) (is_among xs z) (q z)) (either zs)

get_behind : {X : Type 0} (xs ys : List X) (e k : ℕ) → e ≡ length xs + k → slice_get (xs ++ ys) e ≡ slice_get ys k
get_behind [] ys e k is = let same : e ≡ k = omega (arith, is) in ap (slice_get ys) same
get_behind (x ∷ xs) ys zero k is = absurd (omega (arith, is))
get_behind (x ∷ xs) ys (suc e) k is = get_behind xs ys e k (omega (arith, is))

between_is : (all : List Member) (m : Member) (e n : ℕ) → e < n → n ≡ length all → slice_range (all ++ m ∷ []) (e + 1) n ≡ drop (e + 1) all
between_is all m e n less is =
    ap (take (n - (e + 1))) (drop-append-le (e + 1) all (m ∷ []) (omega (arith, less, is)))
    ∙ take-append-le (n - (e + 1)) (drop (e + 1) all) (m ∷ []) (omega (arith, length-drop (e + 1) all, is))
    ∙ take_all (n - (e + 1)) (drop (e + 1) all) (omega (arith, length-drop (e + 1) all, is))

written_as : (g : ℕ) (past : List Command) (s : Slot) → is_written_by (as_members g past) s ≡ is_written_in past s.0
written_as g [] s = refl
written_as g (c ∷ past) s = ap (λ (b : Bool). does_write c.kind s || b) (written_as g past s)

any_or : (p q : Slot → Bool) (xs : List Slot) → list_any (λ s. p s || q s) xs ≡ (list_any p xs || list_any q xs)
any_or p q [] = refl
any_or p q (x ∷ xs) = ap (λ (b : Bool). (p x || q x) || b) (any_or p q xs) ∙ four (p x) (q x) (list_any p xs) (list_any q xs) where
  four : (a b c d : Bool) → ((a || b) || (c || d)) ≡ ((a || c) || (b || d))
  four true b c d = refl
  four false true true d = refl
  four false true false d = refl
  four false false c d = refl

met_at : (a b w k : Bool) → k ≡ true → (not a && ((w && not b) && k)) ≡ (w && not (b || a))
met_at a b w true is = by a b w where
  by : (a b w : Bool) → (not a && ((w && not b) && true)) ≡ (w && not (b || a))
  by true true true = refl
  by true true false = refl
  by true false true = refl
  by true false false = refl
  by false true true = refl
  by false true false = refl
  by false false true = refl
  by false false false = refl
met_at a b w false is = absurd (false≢true is)

shut : (a b c d : Bool) → a ≡ false → b ≡ false → c ≡ false → d ≡ false → (((a || b) || c) || d) ≡ false
shut a b c d is_a is_b is_c is_d =
    ap₂ (λ (x y : Bool). ((x || y) || c) || d) is_a is_b ∙ ap₂ (λ (x y : Bool). x || y) is_c is_d

only_first : (a b c d : Bool) → b ≡ false → c ≡ false → d ≡ false → (((a || b) || c) || d) ≡ a
only_first a b c d is_b is_c is_d =
    ap₂ (λ (x y : Bool). ((a || x) || y) || d) is_b is_c ∙ ap (λ (x : Bool). ((a || false) || false) || x) is_d ∙ by a
  where
    by : (a : Bool) → (((a || false) || false) || false) ≡ a
    by true = refl
    by false = refl

none_named : (first : ℕ) (past : List Command) (e : ℕ) (numbers : List ℕ) → ((n : ℕ) → is_in e (named_in first past n) ≡ false)
    → list_any (λ number. is_in e (named_in first past number)) numbers ≡ false
none_named first past e numbers none = any_nothing (λ number. is_in e (named_in first past number)) none numbers

-- the border by the last writers and readers of slots
border_met : (x : Member) (rest : List Member) (g : ℕ) (past : List Command) (c : Command) (sight : Sight) (e : ℕ) → is_some (sight.kept e) ≡ true
    → sight.written ≡ is_written_in past
    → ((s : Slot) → is_writer e (sight.used s.0) ≡ (does_write x.command.kind s && not (is_written_by rest s)))
    → ((s : Slot) → is_reader e (sight.used s.0) ≡ (does_read x.command.kind s && not (is_written_by rest s)))
    → ((is_user_met sight is_writer (reads_of c.kind) e || is_user_met sight is_writer (writes_of c.kind) e) || is_user_met sight is_reader
    (writes_of c.kind) e)
    ≡ is_border x (rest ++ as_members g past) (record { group = g; command = c })
border_met x rest g past c sight e kept written writer reader =
    let q : Slot → Bool = λ s. not (is_written_by (rest ++ as_members g past) s) in
    let q_is : (s : Slot) → q s ≡ not (is_written_by rest s || is_written_in past s.0) =
    λ s.
    ap not
    (list_any-append (λ (k : Member). does_write k.command.kind s) rest (as_members g past)
    ∙ ap (λ (b : Bool). is_written_by rest s || b) (written_as g past s)) in
    let met : (is_user : ℕ → Option SlotUse → Bool) (uses : Slot → Bool) (slots : List Slot)
    → ((s : Slot) → is_user e (sight.used s.0) ≡ (uses s && not (is_written_by rest s)))
    → is_user_met sight is_user slots e ≡ list_any (λ s. uses s && q s) slots =
    λ is_user uses slots is.
    any_same (λ (s : Slot). not (sight.written s.0) && (is_user e (sight.used s.0) && is_some (sight.kept e))) (λ s. uses s && q s)
    (λ s.
    ap₂ (λ (a b : Bool). not a && (b && is_some (sight.kept e))) (ap (λ (f : ℕ → Bool). f s.0) written) (is s)
    ∙ met_at (is_written_in past s.0) (is_written_by rest s) (uses s) (is_some (sight.kept e)) kept
    ∙ ap (λ (b : Bool). uses s && b) (sym (q_is s)))
    slots in
    let writes : List Slot = writes_of x.command.kind in
    let reads : List Slot = reads_of x.command.kind in
    let touched : list_any (λ s. does_touch c.kind s && q s) writes
    ≡ (list_any (λ s. is_among writes s && q s) (reads_of c.kind) || list_any (λ s. is_among writes s && q s) (writes_of c.kind)) =
    any_same (λ s. does_touch c.kind s && q s) (λ s. (does_read c.kind s && q s) || (does_write c.kind s && q s))
    (λ s. spread (does_read c.kind s) (does_write c.kind s) (q s)) writes
    ∙ any_or (λ s. does_read c.kind s && q s) (λ s. does_write c.kind s && q s) writes
    ∙ ap₂ (λ (a b : Bool). a || b) (among_both q writes (reads_of c.kind)) (among_both q writes (writes_of c.kind)) in
    ap₂ (λ (a b : Bool). a || b)
    (ap₂ (λ (a b : Bool). a || b) (met is_writer (does_write x.command.kind) (reads_of c.kind) writer)
    (met is_writer (does_write x.command.kind) (writes_of c.kind) writer)
    ∙ sym touched)
    (met is_reader (does_read x.command.kind) (writes_of c.kind) reader ∙ sym (among_both q reads (writes_of c.kind)))
  where
    spread : (a b c : Bool) → ((a || b) && c) ≡ ((a && c) || (b && c))
    spread true true true = refl
    spread true true false = refl
    spread true false true = refl
    spread true false false = refl
    spread false b c = refl

without_named : (a b c d : Bool) → a ≡ false → (((a || b) || c) || d) ≡ ((b || c) || d)
without_named a b c d is = ap (λ (x : Bool). ((x || b) || c) || d) is

and_true : (b : Bool) → (b && true) ≡ b
and_true true = refl
and_true false = refl

and_false : (b : Bool) → (b && false) ≡ false
and_false true = refl
and_false false = refl

pub reached_open : (queue : BeforeQueue) (groups : List Group) (done : ℕ → Bool) (past : List Command) (c : Command) (e : ℕ) → KeepsGroups queue groups done
    → does_await (sight_of (get nat_eq queue.waiting) (used_in queue.slots.items) queue.given past) c e
    ≡ is_in e (open_waits ((members_of groups ++ as_members (length groups) past) ++ record { group = length groups; command = c } ∷ []) done
    (queue.given + length past))
reached_open queue groups done past c e stands =
    elim (cases_lt e last) [
      | inl within ↦ elim (cases_lt e queue.given) [
        | inl early ↦ before early within (done e) refl
        | inr later ↦ own later within (slice_get_cases past (e - queue.given)).1
      ]
      | inr behind ↦
          shut _ _ _ _ (none_named queue.given past e c.before (λ n. named_past queue.given past n e behind))
          (gone is_writer (reads_of c.kind) (unkept e (omega (arith, behind))))
          (gone is_writer (writes_of c.kind) (unkept e (omega (arith, behind)))) (gone is_reader (writes_of c.kind) (unkept e (omega (arith, behind))))
          ∙ sym (not_before ms done e last behind)
    ]
  where
    g : ℕ
    g = length groups

    last : ℕ
    last = queue.given + length past

    sight : Sight
    sight = sight_of (get nat_eq queue.waiting) (used_in queue.slots.items) queue.given past

    before_all : List Member
    before_all = members_of groups ++ as_members (length groups) past

    m : Member
    m = record { group = length groups; command = c }

    ms : List Member
    ms = before_all ++ m ∷ []

    long : last ≡ length before_all
    long = omega (
      arith,
      stands.given,
      length-append (members_of groups) (as_members g past),
      length-map past
          (λ (k : Command). let x : Member = record { group = g; command = k } in x),
    )

    unkept : (t : ℕ) → queue.given ≤ t → is_some (get nat_eq queue.waiting t) ≡ false
    unkept t from = ap is_some (stands.released.past t from)

    gone : (is_user : ℕ → Option SlotUse → Bool) (slots : List Slot) → is_some (get nat_eq queue.waiting e) ≡ false → is_user_met sight is_user slots e ≡ false
    gone is_user slots none = none_met sight is_user slots e none

    waits_at : (x : Member) → slice_get ms e ≡ Some x → waits_for ms last e ≡ is_waited x (slice_range ms (e + 1) last) m
    waits_at x got =
        ap₂ (λ (o p : Option Member). option_map_or (λ (l : Member). option_map_or (λ (y : Member). is_waited y (slice_range ms (e + 1) last) l) p false) o
        false)
        (ap (slice_get ms) long ∙ get_at before_all [] m) got

    own : queue.given ≤ e → e < last
        → ((x : Command) × (e - queue.given < length past) × (slice_get past (e - queue.given) ≡ Some x) × (get_or past (e - queue.given) x ≡ x))
        ⊎ ((length past ≤ e - queue.given) × (slice_get past (e - queue.given) ≡ None))
        → does_await sight c e ≡ is_in e (open_waits ms done last)
    own later within (inr none) = absurd (omega (arith, later, within, none.0))
    own later within (inl found) =
        let k : ℕ = e - queue.given in
        let x : Member = record { group = g; command = found.0 } in
        let got : slice_get ms e ≡ Some x =
        get_front before_all (m ∷ []) e (omega (arith, within, long))
        ∙ get_behind (members_of groups) (as_members g past) e k (omega (arith, later, stands.given))
        ∙ slice_get-map (λ (y : Command). let z : Member = record { group = g; command = y } in z) past k
        ∙ ap (option_map (λ (y : Command). let z : Member = record { group = g; command = y } in z)) found.2 in
        let here : done e ≡ false = stands.later e (omega (arith, later, stands.given)) in
        only_first _ _ _ _ (gone is_writer (reads_of c.kind) (unkept e later)) (gone is_writer (writes_of c.kind) (unkept e later))
        (gone is_reader (writes_of c.kind) (unkept e later))
        ∙ any_same (λ number. is_in e (named_in queue.given past number)) (λ number. number == found.0.id)
        (λ number. named_at queue.given past number k e found.0 found.2 (omega (arith, later)) ∙ same_ways found.0.id number) c.before
        ∙ sym
        (open_at ms done last e within
        ∙ ap₂ (λ (a b : Bool). a && not b)
        (waits_at x got
        ∙ ap (λ (b : Bool). if b then list_any (λ number. number == found.0.id) c.before else is_border x (slice_range ms (e + 1) last) m) (eq-eqb g g refl))
        here
        ∙ and_true (list_any (λ number. number == found.0.id) c.before))

    bordered : e < queue.given → e < last → done e ≡ false
        → ((x : Member) × (e < length (members_of groups)) × (slice_get (members_of groups) e ≡ Some x) × (get_or (members_of groups) e x ≡ x))
        ⊎ ((length (members_of groups) ≤ e) × (slice_get (members_of groups) e ≡ None))
        → does_await sight c e ≡ is_in e (open_waits ms done last)
    bordered early within here (inr none) = absurd (omega (arith, early, none.0, stands.given))
    bordered early within here (inl found) =
        let x : Member = found.0 in
        let rest : List Member = drop (e + 1) (members_of groups) in
        let got : slice_get ms e ≡ Some x =
        get_front before_all (m ∷ []) e (omega (arith, within, long)) ∙ get_front (members_of groups) (as_members g past) e found.1 ∙ found.2 in
        let kept : is_some (get nat_eq queue.waiting e) ≡ true =
        ap is_some (stands.kept e)
        ∙ ap₂ (λ (b : Bool) (o : Option Member). is_some (if b then None else option_map (kept_at stands.waits stands.followers e) o)) here found.2 in
        let user : (uses : Slot → Bool) (s : Slot) → Bool = λ uses s. uses s && not (is_written_by rest s) in
        let writer : (s : Slot) → is_writer e (used_in queue.slots.items s.0) ≡ (does_write x.command.kind s && not (is_written_by rest s)) =
        λ s.
        stands.written e s.0 here
        ∙ ap (λ (o : Option Member). option_map_or (λ (y : Member). does_write y.command.kind s && not (is_written_by rest s)) o false) found.2 in
        let reader : (s : Slot) → is_reader e (used_in queue.slots.items s.0) ≡ (does_read x.command.kind s && not (is_written_by rest s)) =
        λ s.
        stands.read e s.0 here
        ∙ ap (λ (o : Option Member). option_map_or (λ (y : Member). does_read y.command.kind s && not (is_written_by rest s)) o false) found.2 in
        let between : slice_range ms (e + 1) last ≡ rest ++ as_members g past =
        between_is before_all m e last within long ∙ drop-append-le (e + 1) (members_of groups) (as_members g past) (omega (arith, found.1)) in
        let apart : (x.group == g) ≡ false = ne_eqb x.group g (λ is. omega (arith, is, group_within 0 groups e x found.2)) in
        without_named _ _ _ _ (none_named queue.given past e c.before (λ n. named_below queue.given past n e early))
        ∙ border_met x rest g past c sight e kept refl writer reader
        ∙ sym
        (open_at ms done last e within
        ∙ ap₂ (λ (a b : Bool). a && not b)
        (waits_at x got
        ∙ ap₂ (λ (b : Bool) (between : List Member). if b then list_any (λ number. number == x.command.id) c.before else is_border x between m) apart between)
        here
        ∙ and_true (is_border x (rest ++ as_members g past) m))

    before : e < queue.given → e < last → (d : Bool) → done e ≡ d → does_await sight c e ≡ is_in e (open_waits ms done last)
    before early within true complete =
        let none : is_some (get nat_eq queue.waiting e) ≡ false =
        ap is_some (stands.kept e)
        ∙ ap (λ (b : Bool). is_some (if b then None else option_map (kept_at stands.waits stands.followers e) (slice_get (members_of groups) e))) complete in
        shut _ _ _ _ (none_named queue.given past e c.before (λ n. named_below queue.given past n e early)) (gone is_writer (reads_of c.kind) none)
        (gone is_writer (writes_of c.kind) none) (gone is_reader (writes_of c.kind) none)
        ∙ sym (open_at ms done last e within ∙ ap (λ (b : Bool). waits_for ms last e && not b) complete ∙ and_false (waits_for ms last e))
    before early within false open_still = bordered early within open_still (slice_get_cases (members_of groups) e).1
