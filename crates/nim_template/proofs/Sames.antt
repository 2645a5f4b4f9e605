-- Commands that are each worker's in the same order, before sets aside, leave the same.
use Rattle.std.proofs.Common.{◌≡◌, ℕ, zero, suc, ◌+◌, ◌<◌, ◌≤◌, Bool, true, false, List, [], ◌∷◌, ◌++◌, map, refl, ap, ap₂, sym, subst, ◌∙◌, arith}
use Rattle.std.proofs.Common.{Option, None, Some}
use Rattle.std.specs.Prelude.{◌*◌, ◌/◌, ◌%◌, ◌==◌, ◌&&◌, if◌then◌else◌, max, nat_lt, slice_index_or}
use Rattle.std.specs.List.{filter, fold}
use Rattle.std.proofs.lemmas.Bool.{eq-eqb}
use Rattle.std.proofs.lemmas.List.{ext_get_or}
use Rattle.std.proofs.lemmas.Nat.{div-add-mod', div_below}
use Rattle.std.proofs.Math.Nat.{mod-lt, mul_comm}
use Rattle.nim_base.specs.declared.number.Object.{Object}
use Rattle.nim_base.specs.declared.number.Slot.{Slot}
use Rattle.nim_base.specs.declared.number.Worker.{Worker}
use Rattle.nim_command.specs.declared.command.Command.{Command}
use Rattle.nim_command.specs.Numbers.{main_slot}
use Rattle.nim_command.specs.Slots.{is_among}
use Rattle.nim_place.specs.Stands.{commands_for, greater_put}
use Rattle.nim_place.specs.Versions.{Versions, after_commands, after_kind, held_at, is_kept, latest_of, place_of, puts_of, version_of}
use Rattle.nim_place.proofs.Puts.{IsPut, IsWhole, kept_for, put_all, whole_after}
use Rattle.nim_template.specs.Tasks.{without_before}

-- ---- what commands leave, worker by worker

-- what a slot has behind commands of its worker, by what it had before
abbrev pub own_held : Slot → Option ℕ → List Command → Option ℕ
own_held slot before commands =
    fold (λ (b : Option ℕ) (c : Command). if is_among (puts_of c.kind) slot then Some (version_of c.kind) else b) before commands

-- each is a command of one of so many workers
abbrev pub AllBelow : ℕ → List (Worker × Command) → Type 0
AllBelow workers [] = Unit {0}
AllBelow workers (c ∷ cs) = (c.0.0 < workers) × AllBelow workers cs

pub below_append : (workers : ℕ) (xs ys : List (Worker × Command)) → AllBelow workers xs → AllBelow workers ys → AllBelow workers (xs ++ ys)
below_append workers [] ys first second = second
below_append workers (x ∷ xs) ys first second = (first.0, below_append workers xs ys first.1 second)

pub record AreLeft (versions : Versions) (cs : List (Worker × Command)) (after : Versions) : Type 0 where
  pub whole : IsWhole after
  pub workers : after.workers ≡ versions.workers
  pub objects : after.objects ≡ versions.objects
  pub held : (worker : Worker) (slot : Slot) → is_kept versions worker slot ≡ true
      → held_at after worker slot ≡ own_held slot (held_at versions worker slot) (commands_for worker cs)
  pub latest : (object : Object) → object.0 < versions.objects
      → latest_of after object ≡ fold (greater_put (main_slot object)) (latest_of versions object) cs

chosen : (a : Bool) (x y : Option ℕ) → (if a && true then x else y) ≡ (if a then x else y)
chosen true x y = refl
chosen false x y = refl

unchosen : (a : Bool) (x y : Option ℕ) → (if a && false then x else y) ≡ y
unchosen true x y = refl
unchosen false x y = refl

one_held : (slot : Slot) (c : Worker × Command) (others : List (Worker × Command)) (old new : Option ℕ) (b : Bool)
    → new ≡ (if is_among (puts_of c.1.kind) slot && b then Some (version_of c.1.kind) else old)
    → own_held slot new (map (λ (d : Worker × Command). d.1) others)
    ≡ own_held slot old (map (λ (d : Worker × Command). d.1) (if b then c ∷ others else others))
one_held slot c others old new true is =
    ap (λ (o : Option ℕ). own_held slot o (map (λ (d : Worker × Command). d.1) others))
    (is ∙ chosen (is_among (puts_of c.1.kind) slot) (Some (version_of c.1.kind)) old)
one_held slot c others old new false is =
    ap (λ (o : Option ℕ). own_held slot o (map (λ (d : Worker × Command). d.1) others))
    (is ∙ unchosen (is_among (puts_of c.1.kind) slot) (Some (version_of c.1.kind)) old)

pub left : (versions : Versions) (cs : List (Worker × Command)) → IsWhole versions → AllBelow versions.workers cs
    → AreLeft versions cs (after_commands versions cs)
left versions [] whole below = record { whole = whole; workers = refl; objects = refl; held = λ worker slot kept. refl; latest = λ object there. refl }
left versions (c ∷ cs) whole below =
    let next : Versions = after_kind c.0 versions c.1.kind in
    let put : IsPut versions c.0 (version_of c.1.kind) (puts_of c.1.kind) next =
    put_all versions c.0 (version_of c.1.kind) (puts_of c.1.kind) whole below.0 in
    let rest : AreLeft next cs (after_commands next cs) =
    left next cs (whole_after versions c.0 (version_of c.1.kind) (puts_of c.1.kind) next put whole)
    (subst (λ (n : ℕ). AllBelow n cs) (sym put.workers) below.1) in
    record {
      whole = rest.whole;
      workers = rest.workers ∙ put.workers;
      objects = rest.objects ∙ put.objects;
      held = λ worker slot kept.
          rest.held worker slot (ap₂ (λ (n m : ℕ). nat_lt worker.0 n && nat_lt slot.0 m) put.workers put.objects ∙ kept)
          ∙ one_held slot c (filter (λ (d : Worker × Command). d.0.0 == worker.0) cs) (held_at versions worker slot) (held_at next worker slot)
          (c.0.0 == worker.0) (put.held worker slot kept);
      latest = λ object there.
          rest.latest object (omega (arith, put.objects, there))
          ∙ ap (λ (n : ℕ). fold (greater_put (main_slot object)) n cs) (put.latest object there);
    }

-- ---- the same commands

-- each worker's commands are the same in order, before sets aside
abbrev pub AreSame : List (Worker × Command) → List (Worker × Command) → Type 0
AreSame xs ys = (worker : Worker) → map without_before (commands_for worker xs) ≡ map without_before (commands_for worker ys)

own_bare : (slot : Slot) (before : Option ℕ) (cs : List Command) → own_held slot before (map without_before cs) ≡ own_held slot before cs
own_bare slot before [] = refl
own_bare slot before (c ∷ cs) = own_bare slot (if is_among (puts_of c.kind) slot then Some (version_of c.kind) else before) cs

-- each puts at most this version into a slot
abbrev pub PutAtMost : Slot → ℕ → List Command → Type 0
PutAtMost slot top [] = Unit {0}
PutAtMost slot top (c ∷ cs) = (is_among (puts_of c.kind) slot ≡ true → version_of c.kind ≤ top) × PutAtMost slot top cs

bare_most : (slot : Slot) (top : ℕ) (cs : List Command) → PutAtMost slot top cs → PutAtMost slot top (map without_before cs)
bare_most slot top [] most = tt
bare_most slot top (c ∷ cs) most = (most.0, bare_most slot top cs most.1)

most_bare : (slot : Slot) (top : ℕ) (cs : List Command) → PutAtMost slot top (map without_before cs) → PutAtMost slot top cs
most_bare slot top [] most = tt
most_bare slot top (c ∷ cs) most = (most.0, most_bare slot top cs most.1)

pub most_for : (slot : Slot) (top : ℕ) (worker : Worker) (cs : List (Worker × Command)) → PutAtMost slot top (map (λ (c : Worker × Command). c.1) cs)
    → PutAtMost slot top (commands_for worker cs)
most_for slot top worker [] most = tt
most_for slot top worker (c ∷ cs) most = either (c.0.0 == worker.0) (most_for slot top worker cs most.1) where
  others : List (Worker × Command)
  others = filter (λ (d : Worker × Command). d.0.0 == worker.0) cs

  either : (b : Bool) → PutAtMost slot top (commands_for worker cs)
      → PutAtMost slot top (map (λ (d : Worker × Command). d.1) (if b then c ∷ others else others))
  either true rest = (most.0, rest)
  either false rest = rest

most_all : (slot : Slot) (top : ℕ) (cs : List (Worker × Command)) → ((worker : Worker) → PutAtMost slot top (commands_for worker cs))
    → PutAtMost slot top (map (λ (c : Worker × Command). c.1) cs)
most_all slot top [] each = tt
most_all slot top (c ∷ cs) each =
    (first (c.0.0 == c.0.0) (eq-eqb c.0.0 c.0.0 refl) (each c.0), most_all slot top cs (λ worker. rest worker (c.0.0 == worker.0) (each worker))) where
      others : Worker → List (Worker × Command)
      others worker = filter (λ (d : Worker × Command). d.0.0 == worker.0) cs

      first : (b : Bool) → b ≡ true → PutAtMost slot top (map (λ (d : Worker × Command). d.1) (if b then c ∷ others c.0 else others c.0))
          → is_among (puts_of c.1.kind) slot ≡ true → version_of c.1.kind ≤ top
      first true is most = most.0
      first false is most = absurd cc

      rest : (worker : Worker) (b : Bool)
          → PutAtMost slot top (map (λ (d : Worker × Command). d.1) (if b then c ∷ others worker else others worker))
          → PutAtMost slot top (commands_for worker cs)
      rest worker true most = most.1
      rest worker false most = most

lower_still : (slot : Slot) (top more : ℕ) (cs : List Command) → top ≤ more → PutAtMost slot top cs → PutAtMost slot more cs
lower_still slot top more [] above most = tt
lower_still slot top more (c ∷ cs) above most = ((λ among. let one = most.0 among in omega (arith, one, above)), lower_still slot top more cs above most.1)

greater_one : (b : Bool) (start version : ℕ) → (start ≤ (if b then max start version else start)) × (b ≡ true
    → version ≤ (if b then max start version else start))
greater_one true start version = (omega arith, λ is. omega arith)
greater_one false start version = (omega arith, λ is. absurd cc)

-- the greatest is above all
greatest_most : (slot : Slot) (start : ℕ) (cs : List (Worker × Command))
    → (start ≤ fold (greater_put slot) start cs) × PutAtMost slot (fold (greater_put slot) start cs) (map (λ (c : Worker × Command). c.1) cs)
greatest_most slot start [] = (omega arith, tt)
greatest_most slot start (c ∷ cs) =
    let one = greater_one (is_among (puts_of c.1.kind) slot) start (version_of c.1.kind) in
    let rest = greatest_most slot (greater_put slot start c) cs in
    let first = one.0 in
    let above = rest.0 in
    (omega (arith, first, above), ((λ among. let under = one.1 among in omega (arith, under, above)), rest.1))

under_one : (b : Bool) (start version top : ℕ) → start ≤ top → (b ≡ true → version ≤ top) → (if b then max start version else start) ≤ top
under_one true start version top below under = let one = under refl in omega (arith, one, below)
under_one false start version top below under = below

-- and below all that is
pub greatest_least : (slot : Slot) (start top : ℕ) (cs : List (Worker × Command)) → start ≤ top → PutAtMost slot top (map (λ (c : Worker × Command). c.1) cs)
    → fold (greater_put slot) start cs ≤ top
greatest_least slot start top [] below most = below
greatest_least slot start top (c ∷ cs) below most =
    greatest_least slot (greater_put slot start c) top cs (under_one (is_among (puts_of c.1.kind) slot) start (version_of c.1.kind) top below most.0) most.1

greatest_under : (slot : Slot) (start : ℕ) (xs ys : List (Worker × Command)) → AreSame xs ys
    → fold (greater_put slot) start xs ≤ fold (greater_put slot) start ys
greatest_under slot start xs ys same =
    let top : ℕ = fold (greater_put slot) start ys in
    let all = greatest_most slot start ys in
    greatest_least slot start top xs all.0
    (most_all slot top xs
    (λ worker. most_bare slot top (commands_for worker xs)
    (subst (PutAtMost slot top) (sym (same worker)) (bare_most slot top (commands_for worker ys) (most_for slot top worker ys all.1)))))

pub greatest_same : (slot : Slot) (start : ℕ) (xs ys : List (Worker × Command)) → AreSame xs ys
    → fold (greater_put slot) start xs ≡ fold (greater_put slot) start ys
greatest_same slot start xs ys same =
    let first = greatest_under slot start xs ys same in
    let second = greatest_under slot start ys xs (λ worker. sym (same worker)) in
    omega (arith, first, second)

-- ---- the same map

pub record IsMap (first second : Versions) : Type 0 where
  pub whole : IsWhole first
  pub also : IsWhole second
  pub workers : first.workers ≡ second.workers
  pub objects : first.objects ≡ second.objects
  pub held : (worker : Worker) (object : Object) → worker.0 < second.workers → object.0 < second.objects
      → held_at first worker (main_slot object) ≡ held_at second worker (main_slot object)
  pub latest : (object : Object) → object.0 < second.objects → latest_of first object ≡ latest_of second object

pub map_same : (first second third : Versions) → IsMap first second → IsMap third second → IsMap first third
map_same first second third one other = record {
  whole = one.whole;
  also = other.whole;
  workers = one.workers ∙ sym other.workers;
  objects = one.objects ∙ sym other.objects;
  held = λ worker object below there.
      let lower : worker.0 < second.workers = omega (arith, other.workers, below) in
      let inside : object.0 < second.objects = omega (arith, other.objects, there) in
      one.held worker object lower inside ∙ sym (other.held worker object lower inside);
  latest = λ object there.
      let inside : object.0 < second.objects = omega (arith, other.objects, there) in one.latest object inside ∙ sym (other.latest object inside);
}

kept_read : (versions : Versions) (worker : Worker) (slot : Slot) → is_kept versions worker slot ≡ true
    → held_at versions worker slot ≡ slice_index_or versions.held (place_of versions worker slot) None
kept_read versions worker slot kept = ap (λ (b : Bool). if b then slice_index_or versions.held (place_of versions worker slot) None else None) kept

abbrev of_parts : ℕ → ℕ → List (Option ℕ) → List ℕ → Versions
of_parts workers objects held latest = record { workers = workers; objects = objects; held = held; latest = latest }

some_of : (objects workers i : ℕ) → i < objects * workers → 0 < objects
some_of zero workers i within = absurd (omega (arith, within))
some_of (suc objects) workers i within = omega arith

pub maps_equal : (first second : Versions) → IsMap first second → first ≡ second
maps_equal first second is =
    let slots : first.held ≡ second.held =
    ext_get_or None first.held second.held (is.whole.slots ∙ ap₂ (λ (n m : ℕ). n * m) is.objects is.workers ∙ sym is.also.slots)
    (λ i within. place i (omega (arith, within, is.whole.slots))) in
    let all : first.latest ≡ second.latest =
    ext_get_or 0 first.latest second.latest (is.whole.all ∙ is.objects ∙ sym is.also.all)
    (λ i within. is.latest (record { 0 = i }) (omega (arith, within, is.whole.all, is.objects))) in
    ap₂ (λ (n m : ℕ). of_parts n m first.held first.latest) is.workers is.objects
    ∙ ap₂ (λ (h : List (Option ℕ)) (l : List ℕ). of_parts second.workers second.objects h l) slots all where
      place : (i : ℕ) → i < first.objects * first.workers → slice_index_or first.held i None ≡ slice_index_or second.held i None
      place i within =
          let worker : Worker = record { 0 = i / first.objects } in
          let object : Object = record { 0 = i % first.objects } in
          let some : 0 < first.objects = some_of first.objects first.workers i within in
          let below : worker.0 < first.workers =
          div_below i first.objects first.workers some (subst (λ (n : ℕ). i < n) (mul_comm first.objects first.workers) within) in
          let there : object.0 < first.objects = mod-lt i some in
          let at : worker.0 * first.objects + object.0 ≡ i = div-add-mod' i first.objects in
          let same : place_of second worker (main_slot object) ≡ i = ap (λ (n : ℕ). worker.0 * n + object.0) (sym is.objects) ∙ at in
          ap (λ (n : ℕ). slice_index_or first.held n None) (sym at)
          ∙ sym (kept_read first worker (main_slot object) (kept_for first worker (main_slot object) below there))
          ∙ is.held worker object (omega (arith, is.workers, below)) (omega (arith, is.objects, there))
          ∙ kept_read second worker (main_slot object)
          (kept_for second worker (main_slot object) (omega (arith, is.workers, below)) (omega (arith, is.objects, there)))
          ∙ ap (λ (n : ℕ). slice_index_or second.held n None) same

-- commands that are the same leave the same map
pub same_left : (versions : Versions) (xs ys : List (Worker × Command)) → IsWhole versions → AllBelow versions.workers xs → AllBelow versions.workers ys
    → AreSame xs ys → after_commands versions xs ≡ after_commands versions ys
same_left versions xs ys whole first second same =
    let one : AreLeft versions xs (after_commands versions xs) = left versions xs whole first in
    let two : AreLeft versions ys (after_commands versions ys) = left versions ys whole second in
    maps_equal (after_commands versions xs) (after_commands versions ys) (record {
      whole = one.whole;
      also = two.whole;
      workers = one.workers ∙ sym two.workers;
      objects = one.objects ∙ sym two.objects;
      held = λ worker object below there.
          let slot : Slot = main_slot object in
          let kept : is_kept versions worker slot ≡ true =
          kept_for versions worker slot (omega (arith, two.workers, below)) (omega (arith, two.objects, there)) in
          one.held worker slot kept
          ∙ sym (own_bare slot (held_at versions worker slot) (commands_for worker xs))
          ∙ ap (own_held slot (held_at versions worker slot)) (same worker)
          ∙ own_bare slot (held_at versions worker slot) (commands_for worker ys)
          ∙ sym (two.held worker slot kept);
      latest = λ object there.
          let inside : object.0 < versions.objects = omega (arith, two.objects, there) in
          one.latest object inside ∙ greatest_same (main_slot object) (latest_of versions object) xs ys same ∙ sym (two.latest object inside);
    })
