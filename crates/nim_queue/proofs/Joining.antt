-- What a queue stands for when one more command joins it.
use Rattle.std.proofs.Common.{◌≡◌, ℕ, zero, suc, ◌+◌, ◌≤◌, Bool, true, false, not, List, [], ◌∷◌, ◌++◌, drop, length, map, refl, ap, ap₂, sym, subst, ◌∙◌, arith, zero-add, Option, None, Some, inl, inr}
use Rattle.std.specs.Prelude.{◌==◌, ◌&&◌, ◌||◌, if◌then◌else◌, nat_eq, slice_get}
use Rattle.std.specs.HashMap.{get}
use Rattle.std.specs.List.{filter, range_with_len}
use Rattle.std.specs.Option.{option_map, option_map_or}
use Rattle.std.proofs.lemmas.Bool.{cases_lt, eq-eqb, eqb-true, false≢true, ne_eqb}
use Rattle.std.proofs.lemmas.List.{drop-append-le, drop_all, length-append}
use Rattle.std.proofs.lemmas.List.Elements.{filter-append}
use Rattle.std.proofs.lemmas.List.Folds.{list_any-append}
use Rattle.std.proofs.lemmas.Option.{slice_get_past}
use Rattle.nim_base.specs.declared.number.Slot.{Slot}
use Rattle.nim_command.specs.declared.command.Kind.{Kind}
use Rattle.nim_command.specs.Slots.{does_read, does_write}
use Rattle.nim_command.specs.Waits.{Group, Member, is_written_by, members_of, waits_for, waits_of}
use Rattle.nim_order.proofs.Longer.{waits_of_front}
use Rattle.nim_queue.specs.Used.{used_in}
use Rattle.nim_queue.specs.Arrived.{link_to}
use Rattle.nim_queue.specs.Counts.{AreBrief, AreReleased, AreShort, is_in, times}
use Rattle.nim_queue.specs.Joined.{followed, gathered}
use Rattle.nim_queue.specs.Stands.{KeepsGroups, does_use_last, is_reader, is_writer, kept_at, open_waits}
use Rattle.nim_queue.specs.declared.queue.BeforeQueue.{BeforeQueue}
use Rattle.nim_queue.specs.declared.waiting.Waiting.{Waiting}
use Rattle.nim_base.proofs.Lists.{get_front}
use Rattle.nim_queue.proofs.Lists.{get_at}
use Rattle.nim_queue.proofs.Looking.{waits_none}
use Rattle.nim_queue.proofs.Counting.{in_filter, same_ways}

-- one that isn't among tickets is there no time
no_times : (t : ℕ) (xs : List ℕ) → is_in t xs ≡ false → times t xs ≡ 0
no_times t [] none = refl
no_times t (x ∷ xs) none = by (t == x) (is_in t xs) none (no_times t xs) where
  by : (b c : Bool) → (b || c) ≡ false → (c ≡ false → times t xs ≡ 0) → length (if b then x ∷ filter (λ o. t == o) xs else filter (λ o. t == o) xs) ≡ 0
  by true c none rest = absurd (false≢true (sym none))
  by false c none rest = rest none

-- a new command's place beside the others
beside : {X : Type 0} (xs : List X) (x : X) (t : ℕ) → (length xs == t) ≡ false → slice_get (xs ++ x ∷ []) t ≡ slice_get xs t
beside xs x t other =
    elim (cases_lt t (length xs)) [
      | inl within ↦ get_front xs (x ∷ []) t within
      | inr past ↦
          let apart : (length xs ≡ t → ⊥) = λ is. false≢true (sym other ∙ eq-eqb (length xs) t is) in
          slice_get_past (xs ++ x ∷ []) t (omega (arith, past, length-append xs (x ∷ []), above (length xs) t past apart))
          ∙ sym (slice_get_past xs t past)
    ]
  where
    above : (a b : ℕ) → a ≤ b → (a ≡ b → ⊥) → a + 1 ≤ b
    above a b less apart = elim (cases_lt a b) [ inl below ↦ omega (arith, below) | inr over ↦ absurd (apart (omega (arith, less, over))) ]

-- what the other commands wait for stays
same_waits : (all : List Member) (m : Member) (t : ℕ) → (length all == t) ≡ false → waits_of (all ++ m ∷ []) t ≡ waits_of all t
same_waits all m t other =
    elim (cases_lt t (length all)) [
      | inl within ↦ waits_of_front all (m ∷ []) t within
      | inr past ↦
          let none : slice_get all t ≡ None = slice_get_past all t past in
          waits_none (all ++ m ∷ []) t (beside all m t other ∙ none) ∙ sym (waits_none all t none)
    ]

-- what is kept of each command when one joins
kept_joined : (waits followers : ℕ → List ℕ) (more : ℕ → List ℕ) (n t : ℕ) (d : Bool) (o : Option Member) (kept : Option Waiting)
    → kept ≡ (if d then None else option_map (kept_at waits followers t) o)
    → option_map (followed (more t)) kept ≡ (if d then None else option_map (kept_at waits (λ e. followers e ++ more e) t) o)
kept_joined waits followers more n t true o kept is = ap (option_map (followed (more t))) is
kept_joined waits followers more n t false None kept is = ap (option_map (followed (more t))) is
kept_joined waits followers more n t false (Some m) kept is = ap (option_map (followed (more t))) is

copies : (n t : ℕ) (d : List ℕ) (l : ℕ) → times l (gathered t (map (link_to n) d)) ≡ (if l == n then times t d else 0)
copies n t [] l = none (l == n) 0 where
  none : (b : Bool) (k : ℕ) → k ≡ (if b then k else k)
  none true k = refl
  none false k = refl
copies n t (e ∷ d) l = by (e == t) (same_ways e t) (l == n) refl (copies n t d l) where
  by : (b : Bool) → b ≡ (t == e) → (c : Bool) → (l == n) ≡ c → times l (gathered t (map (link_to n) d)) ≡ (if c then times t d else 0)
      → times l ((if b then n ∷ [] else []) ++ gathered t (map (link_to n) d)) ≡ (if c then times t (e ∷ d) else 0)
  by true is true here rest =
      ap (λ (x : Bool). length (if x then n ∷ filter (λ o. l == o) (gathered t (map (link_to n) d)) else filter (λ o. l == o) (gathered t (map (link_to n) d))))
      here
      ∙ ap suc rest
      ∙ ap (λ (x : Bool). length (if x then e ∷ filter (λ o. t == o) d else filter (λ o. t == o) d)) is
  by true is false here rest =
      ap (λ (x : Bool). length (if x then n ∷ filter (λ o. l == o) (gathered t (map (link_to n) d)) else filter (λ o. l == o) (gathered t (map (link_to n) d))))
      here
      ∙ rest
  by false is true here rest = rest ∙ ap (λ (x : Bool). length (if x then e ∷ filter (λ o. t == o) d else filter (λ o. t == o) d)) is
  by false is false here rest = rest

last_joined : (uses : Kind → Slot → Bool) (all : List Member) (m : Member) (t : ℕ) (slot : Slot) → (length all == t) ≡ false
    → does_use_last uses (all ++ m ∷ []) t slot ≡ (does_use_last uses all t slot && not (does_write m.command.kind slot))
last_joined uses all m t slot other =
    elim (cases_lt t (length all)) [
      | inl within ↦
          let at : List Member → Option Member → Bool =
          λ rest o. option_map_or (λ (x : Member). uses x.command.kind slot && not (is_written_by rest slot)) o false in
          ap₂ at (drop-append-le (t + 1) all (m ∷ []) (omega (arith, within))) (beside all m t other)
          ∙ split_at (slice_get all t) (drop (t + 1) all)
      | inr past ↦
          let none : slice_get all t ≡ None = slice_get_past all t past in
          let at : List Member → Option Member → Bool =
          λ rest o. option_map_or (λ (x : Member). uses x.command.kind slot && not (is_written_by rest slot)) o false in
          ap (at (drop (t + 1) (all ++ m ∷ []))) (beside all m t other ∙ none)
          ∙ sym (ap (λ (o : Option Member). at (drop (t + 1) all) o && not (does_write m.command.kind slot)) none)
    ]
  where
    three : (a b c : Bool) → (a && not (b || (c || false))) ≡ ((a && not b) && not c)
    three true true c = refl
    three true false true = refl
    three true false false = refl
    three false b c = refl

    split_at : (o : Option Member) (rest : List Member)
        → option_map_or (λ (x : Member). uses x.command.kind slot && not (is_written_by (rest ++ m ∷ []) slot)) o false
        ≡ (option_map_or (λ (x : Member). uses x.command.kind slot && not (is_written_by rest slot)) o false && not (does_write m.command.kind slot))
    split_at None rest = refl
    split_at (Some x) rest =
        ap (λ (b : Bool). uses x.command.kind slot && not b) (list_any-append (λ (k : Member). does_write k.command.kind slot) rest (m ∷ []))
        ∙ three (uses x.command.kind slot) (is_written_by rest slot) (does_write m.command.kind slot)

last_new : (uses : Kind → Slot → Bool) (all : List Member) (m : Member) (t : ℕ) (slot : Slot) → length all ≡ t
    → does_use_last uses (all ++ m ∷ []) t slot ≡ uses m.command.kind slot
last_new uses all m t slot is =
    let at : List Member → Option Member → Bool =
    λ rest o. option_map_or (λ (x : Member). uses x.command.kind slot && not (is_written_by rest slot)) o false in
    let none : drop (t + 1) (all ++ m ∷ []) ≡ [] = drop_all (t + 1) (all ++ m ∷ []) (omega (arith, is, length-append all (m ∷ []))) in
    ap₂ at none (ap (slice_get (all ++ m ∷ [])) (sym is) ∙ get_at all [] m) ∙ and_true (uses m.command.kind slot)
  where
    and_true : (b : Bool) → (b && true) ≡ b
    and_true true = refl
    and_true false = refl

-- a place behind all has no use
unused_past : (uses : Kind → Slot → Bool) (all : List Member) (t : ℕ) (slot : Slot) → length all ≤ t → does_use_last uses all t slot ≡ false
unused_past uses all t slot past =
    ap (λ (o : Option Member). option_map_or (λ (x : Member). uses x.command.kind slot && not (is_written_by (drop (t + 1) all) slot)) o false)
    (slice_get_past all t past)

written_joined : (dw same old new last : Bool) → new ≡ (if dw then same else old) → (same ≡ true → old ≡ false) → (same ≡ true → last ≡ dw)
    → (same ≡ false → last ≡ (old && not dw)) → new ≡ last
written_joined true true old new last is none here other = is ∙ sym (here refl)
written_joined false true old new last is none here other = is ∙ none refl ∙ sym (here refl)
written_joined true false old new last is none here other = is ∙ sym (and_false old) ∙ sym (other refl) where
  and_false : (b : Bool) → (b && false) ≡ false
  and_false true = refl
  and_false false = refl
written_joined false false old new last is none here other = is ∙ sym (and_true old) ∙ sym (other refl) where
  and_true : (b : Bool) → (b && true) ≡ b
  and_true true = refl
  and_true false = refl

read_joined : (dw dr same old new last : Bool) → new ≡ ((not dw && old) || (same && dr)) → (same ≡ true → old ≡ false) → (same ≡ true → last ≡ dr)
    → (same ≡ false → last ≡ (old && not dw)) → new ≡ last
read_joined dw dr true old new last is none here other =
    is ∙ ap (λ (b : Bool). (not dw && b) || dr) (none refl) ∙ dropped dw dr ∙ sym (here refl)
  where
    dropped : (a b : Bool) → ((not a && false) || b) ≡ b
    dropped true b = refl
    dropped false b = refl
read_joined dw dr false old new last is none here other = is ∙ swapped dw old ∙ sym (other refl) where
  swapped : (a b : Bool) → ((not a && b) || false) ≡ (b && not a)
  swapped true true = refl
  swapped true false = refl
  swapped false true = refl
  swapped false false = refl

-- nothing waits for a command that isn't there
none_waits : (all : List Member) (done : ℕ → Bool) (t e : ℕ) → slice_get all t ≡ None → is_in e (open_waits all done t) ≡ false
none_waits all done t e none = ap (λ (ts : List ℕ). is_in e (filter (λ x. not (done x)) ts)) (waits_none all t none)

pub none_in : (a k n : ℕ) → a + k ≤ n → is_in n (range_with_len a k) ≡ false
none_in a zero n past = refl
none_in a (suc k) n past =
    ap₂ (λ (b c : Bool). b || c) (ne_eqb n a (λ is. omega (arith, is, past))) (none_in (a + 1) k n (omega (arith, past)))

-- none waits for itself or for a later one
pub not_before : (all : List Member) (done : ℕ → Bool) (n t : ℕ) → t ≤ n → is_in n (open_waits all done t) ≡ false
not_before all done n t less =
    in_filter (λ x. not (done x)) n (waits_of all t)
    ∙ ap (λ (b : Bool). b && not (done n))
    (in_filter (waits_for all t) n (range_with_len 0 t) ∙ ap (λ (b : Bool). b && waits_for all t n) (none_in 0 t n (omega (arith, less))))

-- nobody waits for one that is yet to come
not_awaited : (all : List Member) (done : ℕ → Bool) (n t : ℕ) → length all ≤ n → is_in n (open_waits all done t) ≡ false
not_awaited all done n t past =
    elim (cases_lt t (length all)) [
      | inl within ↦ not_before all done n t (omega (arith, within, past))
      | inr behind ↦ none_waits all done t n (slice_get_past all t behind)
    ]

times_both : (l : ℕ) (xs ys : List ℕ) → times l (xs ++ ys) ≡ times l xs + times l ys
times_both l xs ys = ap length (filter-append (λ o. l == o) xs ys) ∙ length-append (filter (λ o. l == o) xs) (filter (λ o. l == o) ys)

mirror_step : (n l e : ℕ) (d follows awaits : List ℕ) (b c : Bool) → (n == e) ≡ b → (n == l) ≡ c → (b ≡ true → c ≡ true → times e d ≡ 0)
    → (b ≡ true → c ≡ false → times e awaits ≡ 0) → (b ≡ false → c ≡ true → times l follows ≡ 0) → (b ≡ false → c ≡ false → times l follows ≡ times e awaits)
    → times l (if b then [] else follows ++ gathered e (map (link_to n) d)) ≡ times e (if c then d else awaits)
mirror_step n l e d follows awaits true true is same one two three four = sym (one refl refl)
mirror_step n l e d follows awaits true false is same one two three four = sym (two refl refl)
mirror_step n l e d follows awaits false true is same one two three four =
    let at : (l == n) ≡ true = eq-eqb l n (sym (eqb-true n l same)) in
    times_both l follows (gathered e (map (link_to n) d))
    ∙ ap₂ (λ (x y : ℕ). x + y) (three refl refl) (copies n e d l ∙ ap (λ (b : Bool). if b then times e d else 0) at)
    ∙ zero-add (times e d)
mirror_step n l e d follows awaits false false is same one two three four =
    let at : (l == n) ≡ false = ne_eqb l n (λ here. false≢true (sym same ∙ eq-eqb n l (sym here))) in
    let none : times l (gathered e (map (link_to n) d)) ≡ 0 = copies n e d l ∙ ap (λ (b : Bool). if b then times e d else 0) at in
    times_both l follows (gathered e (map (link_to n) d)) ∙ omega (arith, none, four refl refl)

-- what is kept of a command that joins
abbrev pub as_kept : Member → ℕ → Waiting
as_kept m pending = record { group = m.group; command = m.command; pending = pending; followers = [] }

-- one more command
pub joined : (old new : BeforeQueue) (groups more : List Group) (done : ℕ → Bool) (m : Member) (d : List ℕ) → KeepsGroups old groups done
    → members_of more ≡ members_of groups ++ m ∷ []
    → ((e : ℕ) → is_in e d ≡ is_in e (open_waits (members_of groups ++ m ∷ []) done old.given))
    → ((t : ℕ) → get nat_eq new.waiting t
    ≡ (if old.given == t then Some (as_kept m (length d)) else option_map (followed (gathered t (map (link_to old.given) d))) (get nat_eq old.waiting t)))
    → ((t s : ℕ) → is_writer t (used_in new.slots.items s)
    ≡ (if does_write m.command.kind (record { 0 = s }) then old.given == t else is_writer t (used_in old.slots.items s)))
    → ((t s : ℕ) → is_reader t (used_in new.slots.items s)
    ≡ ((not (does_write m.command.kind (record { 0 = s })) && is_reader t (used_in old.slots.items s))
    || ((old.given == t) && does_read m.command.kind (record { 0 = s }))))
    → AreReleased (get nat_eq new.waiting) new.released (old.given + 1) → AreShort (get nat_eq new.waiting) new.links
    → AreBrief (used_in new.slots.items) new.links → new.given ≡ old.given + 1 → new.groups ≡ length more → KeepsGroups new more done
joined old new groups more done m d stands members reached waiting written read released short brief given numbered =
    let all : List Member = members_of groups in
    let n : ℕ = old.given in
    let long : length all ≡ n = sym stands.given in
    let apart : (t : ℕ) → (n == t) ≡ false → (length all == t) ≡ false = λ t other. ap (λ (k : ℕ). k == t) long ∙ other in
    let at_n : (t : ℕ) → (n == t) ≡ true → n ≡ t = λ t same. eqb-true n t same in
    let past : (t : ℕ) → (n == t) ≡ true → length all ≤ t = λ t same. omega (arith, long, at_n t same) in
    let no_wait : (t e : ℕ) → (n == t) ≡ true → done t ≡ false → times e (stands.waits t) ≡ 0 =
    λ t e same here. no_times e (stands.waits t) (stands.left t e here ∙ none_waits all done t e (slice_get_past all t (past t same))) in
    record {
      waits = λ t. if n == t then d else stands.waits t;
      followers = λ t. if n == t then [] else stands.followers t ++ gathered t (map (link_to n) d);
      kept = λ t. kept_case t (n == t) refl (waiting t);
      left = λ t e here. left_case t e here (n == t) refl;
      mirrored = λ e l first second.
          mirror_step n l e d (stands.followers e) (stands.waits l) (n == e) (n == l) refl refl
          (λ same also. no_times e d (reached e ∙ not_before (all ++ m ∷ []) done e n (omega (arith, at_n e same))))
          (λ same other. no_times e (stands.waits l) (stands.left l e second ∙ not_awaited all done e l (past e same)))
          (λ other same. stands.mirrored e l first second ∙ no_wait l e same second)
          (λ other also. stands.mirrored e l first second);
      released = subst (λ (k : ℕ). AreReleased (get nat_eq new.waiting) new.released k) (sym given) released;
      written = λ t s here.
          let slot : Slot = record { 0 = s } in
          written_joined (does_write m.command.kind slot) (n == t) (is_writer t (used_in old.slots.items s)) (is_writer t (used_in new.slots.items s))
          (does_use_last does_write (members_of more) t slot) (written t s)
          (λ same. stands.written t s here ∙ unused_past does_write all t slot (past t same))
          (λ same. ap (λ (ms : List Member). does_use_last does_write ms t slot) members ∙ last_new does_write all m t slot (long ∙ at_n t same))
          (λ other.
          ap (λ (ms : List Member). does_use_last does_write ms t slot) members ∙ last_joined does_write all m t slot (apart t other)
          ∙ ap (λ (b : Bool). b && not (does_write m.command.kind slot)) (sym (stands.written t s here)));
      read = λ t s here.
          let slot : Slot = record { 0 = s } in
          read_joined (does_write m.command.kind slot) (does_read m.command.kind slot) (n == t) (is_reader t (used_in old.slots.items s))
          (is_reader t (used_in new.slots.items s)) (does_use_last does_read (members_of more) t slot) (read t s)
          (λ same. stands.read t s here ∙ unused_past does_read all t slot (past t same))
          (λ same. ap (λ (ms : List Member). does_use_last does_read ms t slot) members ∙ last_new does_read all m t slot (long ∙ at_n t same))
          (λ other.
          ap (λ (ms : List Member). does_use_last does_read ms t slot) members ∙ last_joined does_read all m t slot (apart t other)
          ∙ ap (λ (b : Bool). b && not (does_write m.command.kind slot)) (sym (stands.read t s here)));
      short = short;
      brief = brief;
      given = given ∙ omega (arith, long, ap length members, length-append all (m ∷ []));
      numbered = numbered;
      later = λ t from. stands.later t (omega (arith, from, ap length members, length-append all (m ∷ [])));
    }
  where
    shape_of : ℕ → Bool → Bool → Option Member → Option Waiting
    shape_of t dn here o = if dn then None else option_map
        (λ (x : Member). let w : Waiting = record {
          group = x.group;
          command = x.command;
          pending = length (if here then d else stands.waits t);
          followers = if here then [] else stands.followers t ++ gathered t (map (link_to old.given) d);
        } in w)
        o

    kept_case : (t : ℕ) (b : Bool) → (old.given == t) ≡ b
        → get nat_eq new.waiting t
        ≡ (if b then Some (as_kept m (length d)) else option_map (followed (gathered t (map (link_to old.given) d))) (get nat_eq old.waiting t))
        → get nat_eq new.waiting t
        ≡ (if done t then None else option_map
        (kept_at (λ t. if old.given == t then d else stands.waits t) (λ t. if old.given == t then [] else stands.followers t
        ++ gathered t (map (link_to old.given) d)) t)
        (slice_get (members_of more) t))
    kept_case t true same now =
        let shape : Bool → Bool → Option Member → Option Waiting = shape_of t in
        now
        ∙ sym
        (ap (λ (dn : Bool). shape dn (old.given == t) (slice_get (members_of more) t))
        (stands.later t (omega (arith, sym stands.given, eqb-true old.given t same)))
        ∙ ap (λ (here : Bool). shape false here (slice_get (members_of more) t)) same
        ∙ ap (shape false true)
        (ap₂ (λ (ms : List Member) (k : ℕ). slice_get ms k) members (sym (eqb-true old.given t same) ∙ stands.given) ∙ get_at (members_of groups) [] m))
    kept_case t false other now =
        let shape : Bool → Bool → Option Member → Option Waiting = shape_of t in
        let apart : (length (members_of groups) == t) ≡ false = ap (λ (k : ℕ). k == t) (sym stands.given) ∙ other in
        now
        ∙ kept_joined stands.waits stands.followers (λ k. gathered k (map (link_to old.given) d)) old.given t (done t) (slice_get (members_of groups) t)
        (get nat_eq old.waiting t) (stands.kept t)
        ∙ ap (shape (done t) false) (sym (ap (λ (ms : List Member). slice_get ms t) members ∙ beside (members_of groups) m t apart))
        ∙ ap (λ (here : Bool). shape (done t) here (slice_get (members_of more) t)) (sym other)

    left_case : (t e : ℕ) → done t ≡ false → (b : Bool) → (old.given == t) ≡ b
        → is_in e (if b then d else stands.waits t) ≡ is_in e (open_waits (members_of more) done t)
    left_case t e here true same =
        reached e ∙ ap₂ (λ (ms : List Member) (k : ℕ). is_in e (open_waits ms done k)) (sym members) (eqb-true old.given t same)
    left_case t e here false other =
        let apart : (length (members_of groups) == t) ≡ false = ap (λ (k : ℕ). k == t) (sym stands.given) ∙ other in
        stands.left t e here
        ∙ ap (λ (ts : List ℕ). is_in e (filter (λ x. not (done x)) ts)) (sym (same_waits (members_of groups) m t apart))
        ∙ ap (λ (ms : List Member). is_in e (open_waits ms done t)) (sym members)
