-- What a queue stands for after a command is complete.
use Rattle.std.proofs.Common.{◌≡◌, ℕ, zero, suc, ◌-◌, ◌<◌, ◌≤◌, Bool, true, false, not, List, [], ◌∷◌, length, refl, ap, ap₂, sym, subst, ◌∙◌, ◌⊎◌, arith, Option, None, Some, inl, inr}
use Rattle.std.specs.Prelude.{◌==◌, ◌&&◌, ◌||◌, if◌then◌else◌, is_some, nat_eq, slice_get, unwrap_or}
use Rattle.std.specs.HashMap.{get}
use Rattle.std.specs.List.{filter}
use Rattle.std.specs.Option.{option_map}
use Rattle.std.proofs.lemmas.Bool.{cases_lt, eqb-true, false≢true, le-ltb, lt-ltb, ne_eqb, or_from, or_parts}
use Rattle.std.proofs.Math.Path.{fun_ext}
use Rattle.nim_command.specs.Waits.{Group, Member, members_of, waits_of}
use Rattle.nim_queue.specs.Used.{used_in}
use Rattle.nim_queue.specs.Counts.{AreBrief, AreReleased, fewer, is_in, times}
use Rattle.nim_queue.specs.Stands.{KeepsGroups, command_count, done_with, is_reader, is_writer, kept_at, open_waits}
use Rattle.nim_queue.specs.declared.queue.BeforeQueue.{BeforeQueue}
use Rattle.nim_queue.specs.declared.waiting.Waiting.{Waiting}
use Rattle.nim_queue.proofs.Counting.{in_filter, length_without, times_other}

-- what is complete with one more
abbrev pub with_one : (ℕ → Bool) → ℕ → ℕ → Bool
with_one done ticket place = done place || (ticket == place)

-- the waits of each command without a ticket
abbrev without : ℕ → (ℕ → List ℕ) → ℕ → List ℕ
without ticket waits place = filter (λ earlier. not (ticket == earlier)) (waits place)

and_not : (a d b : Bool) → ((a && not d) && not b) ≡ (a && not (d || b))
and_not true true b = refl
and_not true false b = refl
and_not false d b = refl

-- the waits that are left are the open ones
open_without : (members : List Member) (done : ℕ → Bool) (waits : ℕ → List ℕ) (u t e : ℕ)
    → is_in e (waits t) ≡ is_in e (open_waits members done t) → is_in e (without u waits t) ≡ is_in e (open_waits members (with_one done u) t)
open_without members done waits u t e left =
    in_filter (λ x. not (u == x)) e (waits t)
    ∙ ap (λ (b : Bool). b && not (u == e)) (left ∙ in_filter (λ x. not (done x)) e (waits_of members t))
    ∙ and_not (is_in e (waits_of members t)) (done e) (u == e)
    ∙ sym (in_filter (λ x. not (with_one done u x)) e (waits_of members t))

kept_fewer : (waits followers : ℕ → List ℕ) (u t : ℕ) (o : Option Member) → times t (followers u) ≡ times u (waits t)
    → option_map (fewer (times t (followers u))) (option_map (kept_at waits followers t) o) ≡ option_map (kept_at (without u waits) followers t) o
kept_fewer waits followers u t None mirrored = refl
kept_fewer waits followers u t (Some m) mirrored =
    let left : length (waits t) - times t (followers u) ≡ length (without u waits t) =
    ap (λ (n : ℕ). length (waits t) - n) mirrored ∙ sym (length_without u (waits t)) in
    ap (λ (n : ℕ). Some (record (kept_at waits followers t m) { pending = n })) left

-- what is kept of each command
kept_after : (waits followers : ℕ → List ℕ) (u t count : ℕ) (done : ℕ → Bool) (now kept : Option Waiting) (o : Option Member) (d same : Bool)
    → now ≡ option_map (fewer count) (if same then None else kept) → kept ≡ (if d then None else option_map (kept_at waits followers t) o)
    → count ≡ times t (followers u) → (d ≡ false → times t (followers u) ≡ times u (waits t))
    → now ≡ (if d || same then None else option_map (kept_at (without u waits) followers t) o)
kept_after waits followers u t count done now kept o true true is was counts mirrored = is
kept_after waits followers u t count done now kept o true false is was counts mirrored = is ∙ ap (option_map (fewer count)) was
kept_after waits followers u t count done now kept o false true is was counts mirrored = is
kept_after waits followers u t count done now kept o false false is was counts mirrored =
    is ∙ ap₂ (λ (n : ℕ) (k : Option Waiting). option_map (fewer n) k) counts was ∙ kept_fewer waits followers u t o (mirrored refl)

-- one that is kept isn't complete, and has its followers
found_kept : (waits followers : ℕ → List ℕ) (u : ℕ) (w : Waiting) (d : Bool) (o : Option Member)
    → (if d then None else option_map (kept_at waits followers u) o) ≡ Some w → (d ≡ false) × (w.followers ≡ followers u)
found_kept waits followers u w true o is = absurd (cc)
found_kept waits followers u w false None is = absurd (cc)
found_kept waits followers u w false (Some m) is = (refl, ap (λ (x : Option Waiting). followers_of x) (sym is)) where
  followers_of : Option Waiting → List ℕ
  followers_of None = []
  followers_of (Some x) = x.followers

-- counting down leaves the followers
still_short : (k most : ℕ) (o : Option Waiting) (v : Waiting) (b : Bool) → ((x : Waiting) → o ≡ Some x → length x.followers ≤ most)
    → option_map (fewer k) (if b then None else o) ≡ Some v → length v.followers ≤ most
still_short k most o v true short is = absurd (false≢true (ap is_some is))
still_short k most None v false short is = absurd (false≢true (ap is_some is))
still_short k most (Some x) v false short is =
    let same : v ≡ fewer k x = ap (λ (p : Option Waiting). unwrap_or p x) (sym is) in
    subst (λ (ts : List ℕ). length ts ≤ most) (sym (ap (λ (y : Waiting). y.followers) same)) (short x refl)

pub completed : (old new : BeforeQueue) (groups : List Group) (done : ℕ → Bool) (u : ℕ) (w : Waiting) → KeepsGroups old groups done
    → get nat_eq old.waiting u ≡ Some w
    → ((t : ℕ) → get nat_eq new.waiting t ≡ option_map (fewer (times t w.followers)) (if u == t then None else get nat_eq old.waiting t))
    → AreReleased (get nat_eq new.waiting) new.released old.given → ((s : ℕ) → used_in new.slots.items s ≡ used_in old.slots.items s)
    → new.links ≡ old.links → new.given ≡ old.given → new.groups ≡ old.groups → KeepsGroups new groups (done_with groups done u)
completed old new groups done u w stands found waiting released slots links given numbered =
    let members : List Member = members_of groups in
    let facts = found_kept stands.waits stands.followers u w (done u) (slice_get members u) (sym (stands.kept u) ∙ found) in
    let was : (t : ℕ) → with_one done u t ≡ false → done t ≡ false = λ t now. (or_parts (done t) (u == t) now).0 in
    let now : KeepsGroups new groups (with_one done u) = record {
      waits = without u stands.waits;
      followers = stands.followers;
      kept = λ t.
          kept_after stands.waits stands.followers u t (times t w.followers) done (get nat_eq new.waiting t) (get nat_eq old.waiting t) (slice_get members t)
          (done t) (u == t) (waiting t) (stands.kept t) (ap (times t) facts.1) (λ here. stands.mirrored u t facts.0 here);
      left = λ t e now. open_without members done stands.waits u t e (stands.left t e (was t now));
      mirrored = λ e t first second.
          stands.mirrored e t (was e first) (was t second) ∙ sym (times_other u e (stands.waits t) (or_parts (done e) (u == e) first).1);
      released = subst (λ (n : ℕ). AreReleased (get nat_eq new.waiting) new.released n) (sym given) released;
      written = λ t s now. ap (is_writer t) (slots s) ∙ stands.written t s (was t now);
      read = λ t s now. ap (is_reader t) (slots s) ∙ stands.read t s (was t now);
      short = λ t v got.
          subst (λ (most : ℕ). length v.followers ≤ most) (sym links)
          (still_short (times t w.followers) old.links (get nat_eq old.waiting t) v (u == t) (λ x is. stands.short t x is) (sym (waiting t) ∙ got));
      brief = λ s v got. subst (λ (most : ℕ). length v.readers ≤ most) (sym links) (stands.brief s v (sym (slots s) ∙ got));
      given = given ∙ stands.given;
      numbered = numbered ∙ stands.numbered;
      later = λ place from. or_from (done place) (u == place) (stands.later place from) (ne_eqb u place (λ is. omega (arith, is, from, inside)));
    } in
    subst (KeepsGroups new groups) (sym (ap (λ (b : Bool). if b then with_one done u else done) (lt-ltb u (command_count groups) inside))) now
  where
    inside : u < command_count groups
    inside =
        elim (cases_lt u (command_count groups)) [
          | inl within ↦ within
          | inr from ↦ absurd (false≢true (ap is_some (sym (stands.released.past u (omega (arith, from, stands.given))) ∙ found)))
        ]

-- a command that isn't kept was complete, or was never given
same_done : (waits followers : ℕ → List ℕ) (done : ℕ → Bool) (u t : ℕ) (d same : Bool) (o : Option Member) → (u == t) ≡ same → done u ≡ d → is_some o ≡ true
    → (if d then None else option_map (kept_at waits followers u) o) ≡ None → (done t || same) ≡ done t
same_done waits followers done u t true true o is complete some none =
    let here : done t ≡ true = ap done (sym (eqb-true u t is)) ∙ complete in ap (λ (b : Bool). b || true) here ∙ sym here
same_done waits followers done u t d false o is complete some none = or_false (done t) where
  or_false : (b : Bool) → (b || false) ≡ b
  or_false true = refl
  or_false false = refl
same_done waits followers done u t false true None is complete some none = absurd (false≢true some)
same_done waits followers done u t false true (Some m) is complete some none = absurd (false≢true (sym (ap is_some none)))

pub option_cases : {X : Type 0} (o : Option X) → (o ≡ None) ⊎ ((x : X) × (o ≡ Some x))
option_cases None = inl refl
option_cases (Some x) = inr (x, refl)

-- a queue that has the same commands, slots and counts
pub stands_still : (old new : BeforeQueue) (groups : List Group) (done : ℕ → Bool) → KeepsGroups old groups done
    → ((t : ℕ) → get nat_eq new.waiting t ≡ get nat_eq old.waiting t)
    → ((t s : ℕ) → is_writer t (used_in new.slots.items s) ≡ is_writer t (used_in old.slots.items s))
    → ((t s : ℕ) → done t ≡ false → is_reader t (used_in new.slots.items s) ≡ is_reader t (used_in old.slots.items s))
    → AreReleased (get nat_eq new.waiting) new.released old.given → AreBrief (used_in new.slots.items) new.links → new.links ≡ old.links
    → new.given ≡ old.given → new.groups ≡ old.groups → KeepsGroups new groups done
stands_still old new groups done stands waiting written read released brief links given numbered = record {
  waits = stands.waits;
  followers = stands.followers;
  kept = λ t. waiting t ∙ stands.kept t;
  left = stands.left;
  mirrored = stands.mirrored;
  released = subst (λ (n : ℕ). AreReleased (get nat_eq new.waiting) new.released n) (sym given) released;
  written = λ t s now. written t s ∙ stands.written t s now;
  read = λ t s now. read t s now ∙ stands.read t s now;
  short = λ t w got. subst (λ (most : ℕ). length w.followers ≤ most) (sym links) (stands.short t w (sym (waiting t) ∙ got));
  brief = brief;
  given = given ∙ stands.given;
  numbered = numbered ∙ stands.numbered;
  later = stands.later;
}

pub nothing_kept : (queue : BeforeQueue) (groups : List Group) (done : ℕ → Bool) (u : ℕ) → KeepsGroups queue groups done → get nat_eq queue.waiting u ≡ None
    → done_with groups done u ≡ done
nothing_kept queue groups done u stands none =
    elim (cases_lt u (command_count groups)) [
      | inl within ↦
          let some : is_some (slice_get (members_of groups) u) ≡ true = is_there (members_of groups) u within in
          ap (λ (b : Bool). if b then with_one done u else done) (lt-ltb u (command_count groups) within)
          ∙ fun_ext
          (λ t.
          same_done stands.waits stands.followers done u t (done u) (u == t) (slice_get (members_of groups) u) refl refl some (sym (stands.kept u) ∙ none))
      | inr past ↦ ap (λ (b : Bool). if b then with_one done u else done) (le-ltb u (command_count groups) past)
    ]
  where
    is_there : {X : Type 0} (xs : List X) (i : ℕ) → i < length xs → is_some (slice_get xs i) ≡ true
    is_there [] i within = absurd (omega (arith, within))
    is_there (x ∷ xs) zero within = refl
    is_there (x ∷ xs) (suc i) within = is_there xs i (omega (arith, within))
