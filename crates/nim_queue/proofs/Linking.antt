-- What links and readings add, one after the other.
use Rattle.std.proofs.Common.{◌≡◌, ℕ, ◌+◌, ◌<◌, ◌≤◌, Bool, true, false, List, [], ◌∷◌, ◌++◌, length, map, refl, ap, sym, ◌∙◌, arith, Option, None, Some, is_some}
use Rattle.std.specs.Prelude.{◌==◌, if◌then◌else◌, slice_get, unwrap_or}
use Rattle.std.specs.Option.{option_map}
use Rattle.std.proofs.lemmas.Bool.{false≢true}
use Rattle.std.proofs.lemmas.List.{append-nil, append_assoc, length-append, length-map, nil_from_length}
use Rattle.std.proofs.lemmas.Option.{slice_get-map}
use Rattle.nim_queue.specs.Joined.{AreWithin, followed, gathered_by, more_read, rewritten}
use Rattle.nim_queue.specs.declared.slot_use.SlotUse.{SlotUse}
use Rattle.nim_queue.specs.declared.waiting.Waiting.{Waiting}
use Rattle.nim_queue.proofs.Lists.{get_at}

pub gathered_more : {X : Type 0} (key : X → ℕ) (own : X → List ℕ) (t : ℕ) (xs : List X) (x : X)
    → gathered_by key own t (xs ++ x ∷ []) ≡ gathered_by key own t xs ++ (if key x == t then own x else [])
gathered_more key own t [] x = append-nil (if key x == t then own x else [])
gathered_more key own t (y ∷ xs) x =
    let first : List ℕ = if key y == t then own y else [] in
    ap (λ (rest : List ℕ). first ++ rest) (gathered_more key own t xs x)
    ∙ sym (append_assoc first (gathered_by key own t xs) (if key x == t then own x else []))

own_of : {X A : Type 0} (f : A → X) (own : X → List ℕ) (n : ℕ) (x : X) → ((a : A) → own (f a) ≡ n ∷ []) → (o : Option A) → option_map f o ≡ Some x
    → own x ≡ n ∷ []
own_of f own n x single None is = absurd (false≢true (ap is_some is))
own_of {X} f own n x single (Some a) is = sym (ap (λ (o : Option X). own (unwrap_or o (f a))) is) ∙ single a

-- one of those that were made from a list
pub made_from : {X A : Type 0} (f : A → X) (own : X → List ℕ) (n : ℕ) (d : List A) (xs ys : List X) (x : X) → ((a : A) → own (f a) ≡ n ∷ [])
    → xs ++ x ∷ ys ≡ map f d → (own x ≡ n ∷ []) × (length xs < length d)
made_from {X} f own n d xs ys x single is =
    let got : option_map f (slice_get d (length xs)) ≡ Some x =
    sym (slice_get-map f d (length xs)) ∙ ap (λ (zs : List X). slice_get zs (length xs)) (sym is) ∙ get_at xs ys x in
    (own_of f own n x single (slice_get d (length xs)) got, omega (arith, length-append xs (x ∷ ys), ap length is, length-map d f))

pub within_more : {X : Type 0} (own : X → List ℕ) (f : List ℕ → X → X) (kept next : ℕ → Option X) (more : ℕ → List ℕ) (most : ℕ)
    → ((ms : List ℕ) (x : X) → own (f ms x) ≡ own x ++ ms) → ((t : ℕ) → next t ≡ option_map (f (more t)) (kept t)) → ((t : ℕ) → length (more t) ≤ 1)
    → AreWithin own kept most → AreWithin own next (most + 1)
within_more {X} own f kept next more most adds is few within t w got = by (kept t) refl (sym (is t) ∙ got) where
  by : (o : Option X) → kept t ≡ o → option_map (f (more t)) o ≡ Some w → length (own w) ≤ most + 1
  by None here made = absurd (false≢true (ap is_some made))
  by (Some v) here made =
      let same : own w ≡ own v ++ more t = sym (ap (λ (o : Option X). own (unwrap_or o v)) made) ∙ adds (more t) v in
      omega (arith, ap length same, length-append (own v) (more t), few t, within t v here)

one_at_most : (b : Bool) (n : ℕ) (xs : List ℕ) → xs ≡ n ∷ [] → length (if b then xs else []) ≤ 1
one_at_most true n xs is = omega (arith, ap length is)
one_at_most false n xs is = omega arith

pub few_at : {X : Type 0} (key : X → ℕ) (own : X → List ℕ) (n : ℕ) (x : X) → own x ≡ n ∷ [] → (t : ℕ) → length (if key x == t then own x else []) ≤ 1
few_at key own n x is t = one_at_most (key x == t) n (own x) is

pub followed_twice : (a b c : List ℕ) (o : Option Waiting) → c ≡ a ++ b → option_map (followed b) (option_map (followed a) o) ≡ option_map (followed c) o
followed_twice a b c None is = refl
followed_twice a b c (Some w) is =
    ap (λ (ts : List ℕ). Some (record w { followers = ts })) (append_assoc w.followers a b ∙ ap (λ (ts : List ℕ). w.followers ++ ts) (sym is))

pub read_twice : (a b c : List ℕ) (o : Option SlotUse) → c ≡ a ++ b → option_map (more_read b) (option_map (more_read a) o) ≡ option_map (more_read c) o
read_twice a b c None is = refl
read_twice a b c (Some u) is =
    ap (λ (ts : List ℕ). Some (record u { readers = ts })) (append_assoc u.readers a b ∙ ap (λ (ts : List ℕ). u.readers ++ ts) (sym is))

-- a slot that is written has no readers
pub brief_written : (old new : ℕ → Option SlotUse) (among : ℕ → Bool) (n most : ℕ)
    → ((s : ℕ) → new s ≡ (if among s then option_map (rewritten n) (old s) else old s)) → AreWithin (λ (u : SlotUse). u.readers) old most
    → AreWithin (λ (u : SlotUse). u.readers) new most
brief_written old new among n most is brief s v got = by (among s) (old s) refl (sym (is s) ∙ got) where
  by : (b : Bool) (o : Option SlotUse) → old s ≡ o → (if b then option_map (rewritten n) o else o) ≡ Some v → length v.readers ≤ most
  by true None here made = absurd (false≢true (ap is_some made))
  by true (Some u) here made =
      let same : v ≡ rewritten n u = ap (λ (x : Option SlotUse). unwrap_or x (rewritten n u)) (sym made) in
      omega (arith, ap (λ (x : SlotUse). length x.readers) same)
  by false o here made = brief s v (here ∙ made)
