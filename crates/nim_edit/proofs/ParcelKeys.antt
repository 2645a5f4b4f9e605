-- The keys of what is sent and received in turn: those of each worker's commands, each once.
use Rattle.std.proofs.Common.{◌≡◌, ℕ, ◌+◌, ◌<◌, ◌≤◌, Bool, true, false, List, [], ◌∷◌, ◌++◌, length, map, refl, ap, ap₂, sym, subst, ◌∙◌, arith}
use Rattle.std.specs.Prelude.{◌*◌, ◌==◌, ◌&&◌, cond, count_by, if◌then◌else◌}
use Rattle.std.specs.List.{AllByRecursion, filter, flat_map}
use Rattle.std.proofs.Math.Path.{fun_ext}
use Rattle.std.proofs.lemmas.Bool.{eq-eqb, eqb-true, false≢true}
use Rattle.std.proofs.lemmas.List.{map-append}
use Rattle.std.proofs.lemmas.List.Elements.{filter-append, recursion_from_All}
use Rattle.nim_base.specs.declared.number.Object.{Object}
use Rattle.nim_base.specs.declared.number.Slot.{Slot}
use Rattle.nim_base.specs.declared.number.Worker.{Worker}
use Rattle.nim_command.specs.declared.command.Command.{Command}
use Rattle.nim_command.specs.declared.command.Kind.{Kind}
use Rattle.nim_command.specs.declared.command.Kind.TheVariants.{Create, Load, Send, Receive, Copy, Run, Fetch}
use Rattle.nim_command.specs.Holds.{Content, holds, left_by}
use Rattle.nim_command.specs.Slots.{object_of}
use Rattle.nim_command.specs.Waits.{Group}
use Rattle.nim_plan.specs.Paired.{Key, is_key, entry_key, received, sent}
use Rattle.nim_place.specs.Extends.{is_live}
use Rattle.nim_place.specs.Sound.{is_end}
use Rattle.nim_place.specs.Stands.{commands_for}
use Rattle.nim_base.proofs.Lists.{each_append, each_two}
use Rattle.nim_place.proofs.History.{holds_last}
use Rattle.nim_place.proofs.Keys.{new_received, new_sent}
use Rattle.nim_place.proofs.Pairs.{count_append, count_first, same_keys}
use Rattle.nim_place.proofs.TaskPairs.{itself}
use Rattle.nim_template.proofs.ByRank.{RanksAscend, for_step, order_of}
use Rattle.nim_template.proofs.RankedEnds.{ends_once, ends_received}
use Rattle.nim_edit.proofs.Ascending.{order_bounds}
use Rattle.nim_edit.proofs.Parcels.{Held, Parcel, held_with, parcel, parcels, step_at, taking, takings, version_in}

-- the key of a frame in a group
abbrev pub key_at : Group → Parcel → Key
key_at group p = entry_key group p.1 p.2 p.3

-- the frames for one worker
abbrev pub for_to : Worker → List Parcel → List Parcel
for_to to ps = filter (λ (p : Parcel). p.0.0 == to.0) ps

abbrev pub keys_to : Group → Worker → List Parcel → List Key
keys_to group to ps = map (key_at group) (for_to to ps)

-- the frames that one worker sends
abbrev pub parcels_from : Worker → Held → List (Worker × Command) → List Parcel
parcels_from worker held [] = []
parcels_from worker held (c ∷ cs) = (if c.0.0 == worker.0 then parcel held c.0 c.1.kind else []) ++ parcels_from worker (held_with c held) cs

keys_append : (group : Group) (to : Worker) (xs ys : List Parcel) → keys_to group to (xs ++ ys) ≡ keys_to group to xs ++ keys_to group to ys
keys_append group to xs ys =
    ap (map (key_at group)) (filter-append (λ (p : Parcel). p.0.0 == to.0) xs ys) ∙ map-append (key_at group) (for_to to xs) (for_to to ys)

-- ---- worker by worker

one_sent : (group : Group) (to from : Worker) (held : Held) (before : Slot → Content) (kind : Kind) → held from ≡ before
    → sent to group before kind ≡ keys_to group to (parcel held from kind)
one_sent group to from held before (Send slot peer entry) is =
    either (peer.0 == to.0)
    ∙ ap (λ (h : Slot → Content). keys_to group to ((peer, entry, object_of slot, version_in (h slot)) ∷ [])) (sym is) where
      key : Key
      key = entry_key group entry (object_of slot) (version_in (before slot))

      either : (b : Bool) → (if b then key ∷ [] else []) ≡ map (key_at group) (if b then (peer, entry, object_of slot, version_in (before slot)) ∷ [] else [])
      either true = refl
      either false = refl
one_sent group to from held before (Create slot iota first) is = refl
one_sent group to from held before (Load slot version value) is = refl
one_sent group to from held before (Receive slot version) is = refl
one_sent group to from held before (Copy first second) is = refl
one_sent group to from held before (Run position func params reads writes) is = refl
one_sent group to from held before (Fetch slot ticket) is = refl

pub sent_for : (group : Group) (to worker : Worker) (held : Held) (past : List Command) (cs : List (Worker × Command)) → held worker ≡ holds past (length past)
    → new_sent to group past (commands_for worker cs) ≡ keys_to group to (parcels_from worker held cs)
sent_for group to worker held past [] is = refl
sent_for group to worker held past (c ∷ cs) is =
    either (c.0.0 == worker.0) refl (λ more held_is. sent_for group to worker (held_with c held) more cs held_is) where
      rest : List Parcel
      rest = parcels_from worker (held_with c held) cs

      either : (b : Bool) → (c.0.0 == worker.0) ≡ b
          → ((more : List Command) → held_with c held worker ≡ holds more (length more)
          → new_sent to group more (commands_for worker cs) ≡ keys_to group to rest)
          → new_sent to group past (commands_for worker (c ∷ cs)) ≡ keys_to group to ((if c.0.0 == worker.0 then parcel held c.0 c.1.kind else []) ++ rest)
      either true here goes =
          ap (new_sent to group past) (for_step worker c cs true here)
          ∙ ap₂ (λ (xs ys : List Key). xs ++ ys)
          (one_sent group to c.0 held (holds past (length past)) c.1.kind
          (ap (λ (n : ℕ). held (record { 0 = n })) (eqb-true c.0.0 worker.0 here) ∙ is))
          (goes (past ++ c.1 ∷ []) (fun_ext (λ slot.
          step_at c held worker slot true here ∙ ap (λ (h : Slot → Content). left_by c.1.kind h slot) is ∙ sym (holds_last past c.1 slot))))
          ∙ sym (keys_append group to (parcel held c.0 c.1.kind) rest)
          ∙ ap (λ (b : Bool). keys_to group to ((if b then parcel held c.0 c.1.kind else []) ++ rest)) (sym here)
      either false apart goes =
          ap (new_sent to group past) (for_step worker c cs false apart)
          ∙ goes past (fun_ext (λ slot. step_at c held worker slot false apart ∙ ap (λ (h : Slot → Content). h slot) is))
          ∙ ap (λ (b : Bool). keys_to group to ((if b then parcel held c.0 c.1.kind else []) ++ rest)) (sym apart)

one_taken : (group : Group) (to worker : Worker) (number : ℕ) (kind : Kind) (b : Bool) → (worker.0 == to.0) ≡ b
    → (if b then received group number kind else []) ≡ keys_to group to (taking worker number kind)
one_taken group to worker number (Receive slot version) b is =
    either b ∙ ap (λ (d : Bool). map (key_at group) (if d then (worker, number, object_of slot, version) ∷ [] else [])) (sym is) where
      either : (d : Bool) → (if d then entry_key group number (object_of slot) version ∷ [] else [])
          ≡ map (key_at group) (if d then (worker, number, object_of slot, version) ∷ [] else [])
      either true = refl
      either false = refl
one_taken group to worker number (Send slot peer entry) true is = refl
one_taken group to worker number (Send slot peer entry) false is = refl
one_taken group to worker number (Create slot iota first) true is = refl
one_taken group to worker number (Create slot iota first) false is = refl
one_taken group to worker number (Load slot version value) true is = refl
one_taken group to worker number (Load slot version value) false is = refl
one_taken group to worker number (Copy first second) true is = refl
one_taken group to worker number (Copy first second) false is = refl
one_taken group to worker number (Run position func params reads writes) true is = refl
one_taken group to worker number (Run position func params reads writes) false is = refl
one_taken group to worker number (Fetch slot ticket) true is = refl
one_taken group to worker number (Fetch slot ticket) false is = refl

pub received_for : (group : Group) (to : Worker) (cs : List (Worker × Command)) → new_received group (commands_for to cs) ≡ keys_to group to (takings cs)
received_for group to [] = refl
received_for group to (c ∷ cs) = either (c.0.0 == to.0) refl (received_for group to cs) where
  either : (b : Bool) → (c.0.0 == to.0) ≡ b → new_received group (commands_for to cs) ≡ keys_to group to (takings cs)
      → new_received group (commands_for to (c ∷ cs)) ≡ keys_to group to (taking c.0 c.1.id c.1.kind ++ takings cs)
  either true here rest =
      ap (new_received group) (for_step to c cs true here)
      ∙ ap₂ (λ (xs ys : List Key). xs ++ ys) (one_taken group to c.0 c.1.id c.1.kind true here) rest
      ∙ sym (keys_append group to (taking c.0 c.1.id c.1.kind) (takings cs))
  either false apart rest =
      ap (new_received group) (for_step to c cs false apart)
      ∙ ap₂ (λ (xs ys : List Key). xs ++ ys) (one_taken group to c.0 c.1.id c.1.kind false apart) rest
      ∙ sym (keys_append group to (taking c.0 c.1.id c.1.kind) (takings cs))

-- what is true of all that is sent is true of what one worker sends
each_one : (P : Parcel → Type 0) (b : Bool) (xs : List Parcel) → AllByRecursion P xs → AllByRecursion P (if b then xs else [])
each_one P true xs all = all
each_one P false xs all = tt

each_first : (P : Parcel → Type 0) (xs ys : List Parcel) → AllByRecursion P (xs ++ ys) → AllByRecursion P xs × AllByRecursion P ys
each_first P [] ys all = (tt, all)
each_first P (x ∷ xs) ys all = (let rest = each_first P xs ys all.1 in ((all.0, rest.0), rest.1))

pub each_from : (P : Parcel → Type 0) (worker : Worker) (held : Held) (cs : List (Worker × Command)) → AllByRecursion P (parcels held cs)
    → AllByRecursion P (parcels_from worker held cs)
each_from P worker held [] all = tt
each_from P worker held (c ∷ cs) all =
    let parts = each_first P (parcel held c.0 c.1.kind) (parcels (held_with c held) cs) all in
    each_append P (if c.0.0 == worker.0 then parcel held c.0 c.1.kind else []) (parcels_from worker (held_with c held) cs)
    (each_one P (c.0.0 == worker.0) (parcel held c.0 c.1.kind) parts.0) (each_from P worker (held_with c held) cs parts.1)

-- and of the keys to one worker
pub each_to : (P : Key → Type 0) (group : Group) (to : Worker) (ps : List Parcel)
    → AllByRecursion (λ (p : Parcel). (p.0.0 == to.0) ≡ true → P (key_at group p)) ps → AllByRecursion P (keys_to group to ps)
each_to P group to [] all = tt
each_to P group to (p ∷ ps) all = either (p.0.0 == to.0) refl (each_to P group to ps all.1) where
  either : (b : Bool) → (p.0.0 == to.0) ≡ b → AllByRecursion P (keys_to group to ps)
      → AllByRecursion P (map (key_at group) (if b then p ∷ for_to to ps else for_to to ps))
  either true here rest = (all.0 here, rest)
  either false apart rest = rest

-- ---- counts

count_two : (p : Key → Bool) (f g : Worker → List Key) (workers : List Worker)
    → count_by p (flat_map (λ (w : Worker). f w ++ g w) workers) ≡ count_by p (flat_map f workers) + count_by p (flat_map g workers)
count_two p f g [] = refl
count_two p f g (w ∷ workers) =
    omega (
      arith,
      count_append p (f w ++ g w) (flat_map (λ (v : Worker). f v ++ g v) workers),
      count_append p (f w) (g w),
      count_append p (f w) (flat_map f workers),
      count_append p (g w) (flat_map g workers),
      count_two p f g workers,
    )

pick_none : (p : Key → Bool) (mine : Worker → Bool) (keys : List Key) (workers : List Worker) → count_by mine workers ≡ 0
    → count_by p (flat_map (λ (w : Worker). if mine w then keys else []) workers) ≡ 0
pick_none p mine keys [] none = refl
pick_none p mine keys (w ∷ workers) none =
    either (mine w) (count_first mine w workers (mine w) refl) (λ few. pick_none p mine keys workers few) where
      rest : List Key
      rest = flat_map (λ (v : Worker). if mine v then keys else []) workers

      either : (b : Bool) → count_by mine (w ∷ workers) ≡ cond b 1 0 + count_by mine workers → (count_by mine workers ≡ 0 → count_by p rest ≡ 0)
          → count_by p ((if b then keys else []) ++ rest) ≡ 0
      either true first later = absurd (omega (arith, first, none))
      either false first later = later (omega (arith, first, none))

pick_one : (p : Key → Bool) (mine : Worker → Bool) (keys : List Key) (workers : List Worker) → count_by mine workers ≡ 1
    → count_by p (flat_map (λ (w : Worker). if mine w then keys else []) workers) ≡ count_by p keys
pick_one p mine keys [] one = absurd (omega (arith, one))
pick_one p mine keys (w ∷ workers) one =
    either (mine w) (count_first mine w workers (mine w) refl) (λ few. pick_one p mine keys workers few) where
      rest : List Key
      rest = flat_map (λ (v : Worker). if mine v then keys else []) workers

      either : (b : Bool) → count_by mine (w ∷ workers) ≡ cond b 1 0 + count_by mine workers
          → (count_by mine workers ≡ 1 → count_by p rest ≡ count_by p keys) → count_by p ((if b then keys else []) ++ rest) ≡ count_by p keys
      either true first later =
          let none = pick_none p mine keys workers (omega (arith, first, one)) in
          let both = count_append p keys rest in
          omega (arith, both, none)
      either false first later = later (omega (arith, first, one))

keys_if : (group : Group) (to : Worker) (b : Bool) (ps : List Parcel) → keys_to group to (if b then ps else []) ≡ (if b then keys_to group to ps else [])
keys_if group to true ps = refl
keys_if group to false ps = refl

none_sent : (p : Key → Bool) (workers : List Worker) → count_by p (flat_map (λ (w : Worker). []) workers) ≡ 0
none_sent p [] = refl
none_sent p (w ∷ workers) = none_sent p workers

-- what each live worker sends is all that is sent
pub all_posted : (p : Key → Bool) (group : Group) (to : Worker) (workers : List Worker) (held : Held) (cs : List (Worker × Command))
    → AllByRecursion (λ (c : Worker × Command). count_by (λ (w : Worker). c.0.0 == w.0) workers ≡ 1) cs
    → count_by p (flat_map (λ (w : Worker). keys_to group to (parcels_from w held cs)) workers) ≡ count_by p (keys_to group to (parcels held cs))
all_posted p group to workers held [] once = none_sent p workers
all_posted p group to workers held (c ∷ cs) once =
    let mine : Worker → Bool = λ w. c.0.0 == w.0 in
    let first : List Parcel = parcel held c.0 c.1.kind in
    let rest : Worker → List Parcel = λ w. parcels_from w (held_with c held) cs in
    let all : List Parcel = parcels (held_with c held) cs in
    let parted : flat_map (λ (w : Worker). keys_to group to ((if mine w then first else []) ++ rest w)) workers
    ≡ flat_map (λ (w : Worker). (if mine w then keys_to group to first else []) ++ keys_to group to (rest w)) workers =
    ap (λ (f : Worker → List Key). flat_map f workers)
    (fun_ext (λ w. keys_append group to (if mine w then first else []) (rest w)
    ∙ ap (λ (keys : List Key). keys ++ keys_to group to (rest w)) (keys_if group to (mine w) first))) in
    let whole = ap (count_by p) parted in
    let both = count_two p (λ (w : Worker). if mine w then keys_to group to first else []) (λ (w : Worker). keys_to group to (rest w)) workers in
    let here = pick_one p mine (keys_to group to first) workers once.0 in
    let later = all_posted p group to workers (held_with c held) cs once.1 in
    let sums = ap (count_by p) (keys_append group to first all) ∙ count_append p (keys_to group to first) (keys_to group to all) in
    omega (arith, whole, both, here, later, sums)

-- ---- each once

abbrev end_of : Parcel → Worker × ℕ × Object
end_of p = (p.0, p.1, p.2)

ends_are : (cs : List (Worker × Command)) → ends_received cs ≡ map end_of (takings cs)
ends_are [] = refl
ends_are (c ∷ cs) = either c.1.kind (ends_are cs) where
  either : (kind : Kind) → ends_received cs ≡ map end_of (takings cs)
      → ends_received ((c.0, record { id = c.1.id; kind = kind; before = c.1.before }) ∷ cs) ≡ map end_of (taking c.0 c.1.id kind ++ takings cs)
  either (Receive slot version) rest = ap (λ (es : List (Worker × ℕ × Object)). (c.0, c.1.id, object_of slot) ∷ es) rest
  either (Send slot peer entry) rest = rest
  either (Create slot iota first) rest = rest
  either (Load slot version value) rest = rest
  either (Copy first second) rest = rest
  either (Run position func params reads writes) rest = rest
  either (Fetch slot ticket) rest = rest

-- one key is of one end
key_end : (group : Group) (to : Worker) (one other : Parcel) → (one.0.0 == to.0) ≡ true → (other.0.0 == to.0) ≡ true
    → is_key (key_at group one) (key_at group other) ≡ true → is_end (end_of one) (end_of other) ≡ true
key_end group to one other mine also is =
    let same : key_at group one ≡ key_at group other = same_keys (key_at group one) (key_at group other) is in
    ap₂ (λ (a b : Bool). a && b)
    (ap₂ (λ (a b : Bool). a && b)
    (eq-eqb one.0.0 other.0.0 (eqb-true one.0.0 to.0 mine ∙ sym (eqb-true other.0.0 to.0 also)))
    (eq-eqb one.1 other.1 (ap (λ (k : Key). k.entry) same)))
    (eq-eqb one.2.0 other.2.0 (ap (λ (k : Key). k.object.0) same))

-- keys are no more than ends
keys_most : (group : Group) (to : Worker) (one : Parcel) (ps : List Parcel) → (one.0.0 == to.0) ≡ true
    → count_by (is_key (key_at group one)) (keys_to group to ps) ≤ count_by (is_end (end_of one)) (map end_of ps)
keys_most group to one [] mine = omega arith
keys_most group to one (p ∷ ps) mine = either (p.0.0 == to.0) refl (keys_most group to one ps mine) where
  ends : ℕ
  ends = count_by (is_end (end_of one)) (map end_of ps)

  either : (b : Bool) → (p.0.0 == to.0) ≡ b → count_by (is_key (key_at group one)) (keys_to group to ps) ≤ ends
      → count_by (is_key (key_at group one)) (map (key_at group) (if b then p ∷ for_to to ps else for_to to ps))
      ≤ count_by (is_end (end_of one)) (end_of p ∷ map end_of ps)
  either false apart rest =
      let first = count_first (is_end (end_of one)) (end_of p) (map end_of ps) (is_end (end_of one) (end_of p)) refl in
      omega (arith, first, rest)
  either true here rest = chosen (is_key (key_at group one) (key_at group p)) refl where
    chosen : (d : Bool) → is_key (key_at group one) (key_at group p) ≡ d
        → count_by (is_key (key_at group one)) (key_at group p ∷ keys_to group to ps) ≤ count_by (is_end (end_of one)) (end_of p ∷ map end_of ps)
    chosen true is =
        let first = count_first (is_key (key_at group one)) (key_at group p) (keys_to group to ps) true is in
        let also = count_first (is_end (end_of one)) (end_of p) (map end_of ps) true (key_end group to one p mine here is) in
        omega (arith, first, also, rest)
    chosen false is =
        let first = count_first (is_key (key_at group one)) (key_at group p) (keys_to group to ps) false is in
        let also = count_first (is_end (end_of one)) (end_of p) (map end_of ps) (is_end (end_of one) (end_of p)) refl in
        omega (arith, first, also, rest)

-- and each is there
keys_least : (group : Group) (to : Worker) (all : List Key) (ps : List Parcel)
    → ((p : Key → Bool) → count_by p (keys_to group to ps) ≤ count_by p all)
    → AllByRecursion (λ (p : Parcel). (p.0.0 == to.0) ≡ true → 1 ≤ count_by (is_key (key_at group p)) all) ps
keys_least group to all [] within = tt
keys_least group to all (p ∷ ps) within = (λ mine. first mine, keys_least group to all ps (λ q. later q (p.0.0 == to.0) refl)) where
  first : (p.0.0 == to.0) ≡ true → 1 ≤ count_by (is_key (key_at group p)) all
  first mine =
      let there = within (is_key (key_at group p)) in
      let is = ap (λ (b : Bool). count_by (is_key (key_at group p)) (map (key_at group) (if b then p ∷ for_to to ps else for_to to ps))) mine in
      let one = count_first (is_key (key_at group p)) (key_at group p) (keys_to group to ps) true (itself (key_at group p)) in
      omega (arith, there, is, one)

  later : (q : Key → Bool) (b : Bool) → (p.0.0 == to.0) ≡ b → count_by q (keys_to group to ps) ≤ count_by q all
  later q true here =
      let there = within q in
      let is = ap (λ (b : Bool). count_by q (map (key_at group) (if b then p ∷ for_to to ps else for_to to ps))) here in
      let one = count_first q (key_at group p) (keys_to group to ps) (q (key_at group p)) refl in
      omega (arith, there, is, one)
  later q false apart =
      let there = within q in
      let is = ap (λ (b : Bool). count_by q (map (key_at group) (if b then p ∷ for_to to ps else for_to to ps))) apart in
      omega (arith, there, is)

ends_each : (es : List (Worker × ℕ × Object)) (ps : List Parcel)
    → AllByRecursion (λ (e : Worker × ℕ × Object). count_by (is_end e) es ≡ 1) (map end_of ps)
    → AllByRecursion (λ (p : Parcel). count_by (is_end (end_of p)) es ≡ 1) ps
ends_each es [] all = tt
ends_each es (p ∷ ps) all = (all.0, ends_each es ps all.1)

-- what is received in the order of ranks is received once
pub taken_once : (group : Group) (to : Worker) (low high : ℕ) (cs : List (Worker × Command)) → RanksAscend low high cs
    → AllByRecursion (λ (p : Parcel). (p.0.0 == to.0) ≡ true → count_by (is_key (key_at group p)) (keys_to group to (takings cs)) ≡ 1) (takings cs)
taken_once group to low high cs are =
    each_two (λ (p : Parcel). (p.0.0 == to.0) ≡ true → 1 ≤ count_by (is_key (key_at group p)) (keys_to group to ts))
    (λ (p : Parcel). count_by (is_end (end_of p)) (map end_of ts) ≡ 1)
    (λ (p : Parcel). (p.0.0 == to.0) ≡ true → count_by (is_key (key_at group p)) (keys_to group to ts) ≡ 1)
    (λ p least one mine.
    (let most = keys_most group to p ts mine in
    let some = least mine in
    omega (arith, most, some, one)))
    ts (keys_least group to (keys_to group to ts) ts (λ q. omega arith))
    (ends_each (map end_of ts) ts
    (subst (λ (es : List (Worker × ℕ × Object)). AllByRecursion (λ (e : Worker × ℕ × Object). count_by (is_end e) es ≡ 1) es) (ends_are cs)
    (recursion_from_All (λ (e : Worker × ℕ × Object). count_by (is_end e) (ends_received cs) ≡ 1) (ends_received cs) (ends_once low high cs are)))) where
      ts : List Parcel
      ts = takings cs

-- ---- numbers and workers

ranks_end : (low high : ℕ) (cs : List (Worker × Command)) → RanksAscend low high cs → low ≤ high
ranks_end low high [] are = are
ranks_end low high (c ∷ cs) are =
    let rest = ranks_end (order_of c.1 + 1) high cs are.2 in
    let first = are.1 in
    omega (arith, rest, first)

-- the entries that receive are below a number
pub takings_below : (low high most : ℕ) (cs : List (Worker × Command)) → RanksAscend low high cs → high ≤ 2 * most
    → AllByRecursion (λ (p : Parcel). p.1 < most) (takings cs)
takings_below low high most [] are few = tt
takings_below low high most (c ∷ cs) are few =
    either c.1.kind (takings_below (order_of c.1 + 1) high most cs are.2 few) where
      small : c.1.id < most
      small =
          let last = ranks_end (order_of c.1 + 1) high cs are.2 in
          let bounds = order_bounds c.1 in
          let least = bounds.0 in
          omega (arith, last, least, few)

      either : (kind : Kind) → AllByRecursion (λ (p : Parcel). p.1 < most) (takings cs)
          → AllByRecursion (λ (p : Parcel). p.1 < most) (taking c.0 c.1.id kind ++ takings cs)
      either (Receive slot version) rest = (small, rest)
      either (Send slot peer entry) rest = rest
      either (Create slot iota first) rest = rest
      either (Load slot version value) rest = rest
      either (Copy first second) rest = rest
      either (Run position func params reads writes) rest = rest
      either (Fetch slot ticket) rest = rest

some_first : {X : Type 0} (x : X) (xs : List X) → x ∷ xs ≡ [] → ⊥
some_first {X} x xs is = false≢true (sym (ap there is)) where
  there : List X → Bool
  there [] = false
  there (y ∷ ys) = true

-- where no other worker has commands all are of live ones
pub all_of_live : (live : List Bool) (cs : List (Worker × Command)) → ((worker : Worker) → is_live live worker ≡ false → commands_for worker cs ≡ [])
    → AllByRecursion (λ (c : Worker × Command). is_live live c.0 ≡ true) cs
all_of_live live [] none = tt
all_of_live live (c ∷ cs) none = (lives (is_live live c.0) refl, all_of_live live cs (λ worker dead. others worker dead (c.0.0 == worker.0) refl)) where
  lives : (b : Bool) → is_live live c.0 ≡ b → b ≡ true
  lives true is = refl
  lives false is =
      absurd (some_first c.1 (commands_for c.0 cs) (sym (for_step c.0 c cs true (eq-eqb c.0.0 c.0.0 refl)) ∙ none c.0 is))

  others : (worker : Worker) → is_live live worker ≡ false → (b : Bool) → (c.0.0 == worker.0) ≡ b → commands_for worker cs ≡ []
  others worker dead true here =
      absurd (some_first c.1 (commands_for worker cs) (sym (for_step worker c cs true here) ∙ none worker dead))
  others worker dead false apart = sym (for_step worker c cs false apart) ∙ none worker dead
