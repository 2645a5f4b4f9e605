-- Which event is the next by the default rule, and events one after another.
use Rattle.std.proofs.Common.{◌≡◌, ℕ, zero, suc, ◌+◌, ◌-◌, ◌<◌, Bool, true, false, List, [], ◌∷◌, ◌++◌, cond, get_or, length, map, take, refl, ap, sym, subst, ◌∙◌, arith, Option, None, Some}
use Rattle.std.specs.List.{find, flat_map, range_with_len}
use Rattle.std.specs.Option.{option_or}
use Rattle.std.proofs.lemmas.List.Folds.{find-append}
use Rattle.nim_schedule.specs.declared.event.Event.{Event}
use Rattle.nim_schedule.specs.declared.event.Line.{Line}
use Rattle.nim_lockstep.specs.Cluster.{ClusterState}
use Rattle.nim_lockstep.specs.Events.{is_enabled}
use Rattle.nim_lockstep.specs.Schedules.{AreLines, IsLine, Reaches, frames_of, in_order, next_of}
use Rattle.nim_cluster.specs.declared.cluster.Cluster.{Cluster}
use Rattle.nim_cluster.specs.declared.running.Moving.{Moving}
use Rattle.nim_cluster.specs.declared.running.Moving.TheVariants as moving
use Rattle.nim_cluster.specs.Runs.{event_of}
use Rattle.nim_cluster.specs.Stands.{ClusterStands}

-- ---- the first that is enabled

range_on : (k n : ℕ) → k < n → range_with_len k (n - k) ≡ k ∷ range_with_len (k + 1) (n - (k + 1))
range_on k n below = let next : n - k ≡ suc (n - (k + 1)) = omega (arith, below) in ap (range_with_len k) next

-- of the events of numbers from one on
pub first_on : (test : Event → Bool) (f : ℕ → Event) (k n : ℕ) → k < n
    → find test (map f (range_with_len k (n - k))) ≡ cond (test (f k)) (Some (f k)) (find test (map f (range_with_len (k + 1) (n - (k + 1)))))
first_on test f k n below = ap (λ (ks : List ℕ). find test (map f ks)) (range_on k n below)

pub frame_on : (test : Event → Bool) (f : ℕ → List Event) (k n : ℕ) → k < n
    → find test (flat_map f (range_with_len k (n - k))) ≡ option_or (find test (f k)) (find test (flat_map f (range_with_len (k + 1) (n - (k + 1)))))
frame_on test f k n below =
    ap (λ (ks : List ℕ). find test (flat_map f ks)) (range_on k n below)
    ∙ find-append test (f k) (flat_map f (range_with_len (k + 1) (n - (k + 1))))

pub first_here : (test : Event → Bool) (f : ℕ → Event) (k n : ℕ) → k < n → test (f k) ≡ true
    → find test (map f (range_with_len k (n - k))) ≡ Some (f k)
first_here test f k n below does =
    first_on test f k n below ∙ ap (λ (b : Bool). cond b (Some (f k)) (find test (map f (range_with_len (k + 1) (n - (k + 1)))))) does

pub first_later : (test : Event → Bool) (f : ℕ → Event) (k n : ℕ) → k < n → test (f k) ≡ false
    → find test (map f (range_with_len k (n - k))) ≡ find test (map f (range_with_len (k + 1) (n - (k + 1))))
first_later test f k n below not =
    first_on test f k n below ∙ ap (λ (b : Bool). cond b (Some (f k)) (find test (map f (range_with_len (k + 1) (n - (k + 1)))))) not

pub frame_here : (test : Event → Bool) (f : ℕ → List Event) (k n : ℕ) (event : Event) → k < n → find test (f k) ≡ Some event
    → find test (flat_map f (range_with_len k (n - k))) ≡ Some event
frame_here test f k n event below is =
    frame_on test f k n below ∙ ap (λ (o : Option Event). option_or o (find test (flat_map f (range_with_len (k + 1) (n - (k + 1)))))) is

pub frame_later : (test : Event → Bool) (f : ℕ → List Event) (k n : ℕ) → k < n → find test (f k) ≡ None
    → find test (flat_map f (range_with_len k (n - k))) ≡ find test (flat_map f (range_with_len (k + 1) (n - (k + 1))))
frame_later test f k n below none =
    frame_on test f k n below ∙ ap (λ (o : Option Event). option_or o (find test (flat_map f (range_with_len (k + 1) (n - (k + 1)))))) none

-- the first of all kinds, one kind after another
pub next_as : (test : Event → Bool) (reports finishes orders frames begins : List Event)
    → find test (reports ++ finishes ++ orders ++ frames ++ begins)
    ≡ option_or (find test reports) (option_or (find test finishes) (option_or (find test orders) (option_or (find test frames) (find test begins))))
next_as test reports finishes orders frames begins =
    find-append test (reports ++ finishes ++ orders ++ frames) begins
    ∙ ap (λ (o : Option Event). option_or o (find test begins))
    (find-append test (reports ++ finishes ++ orders) frames
    ∙ ap (λ (o : Option Event). option_or o (find test frames))
    (find-append test (reports ++ finishes) orders
    ∙ ap (λ (o : Option Event). option_or o (find test orders)) (find-append test reports finishes)))
    ∙ either (find test reports) (find test finishes) (find test orders) (find test frames) (find test begins) where
      either : (a b c d e : Option Event) → option_or (option_or (option_or (option_or a b) c) d) e ≡ option_or a (option_or b (option_or c (option_or d e)))
      either (Some a) b c d e = refl
      either None (Some b) c d e = refl
      either None None (Some c) d e = refl
      either None None None (Some d) e = refl
      either None None None None e = refl

-- the first of a kind, and the first frame of data
abbrev pub first_by : ClusterState → Moving → Option Event
first_by s kind = find (is_enabled s) (map (event_of kind) (range_with_len 0 s.setup.workers))

abbrev pub frame_by : ClusterState → Option Event
frame_by s = find (is_enabled s) (flat_map (frames_of s.setup.workers) (range_with_len 0 s.setup.workers))

pub next_by : (s : ClusterState) → length s.nodes ≡ s.setup.workers
    → next_of s ≡ option_or (first_by s moving.Report) (option_or (first_by s moving.Finish) (option_or (first_by s moving.Order)
    (option_or (frame_by s) (first_by s moving.Begin))))
next_by s count =
    let numbers : List ℕ = range_with_len 0 s.setup.workers in
    ap (λ (n : ℕ). find (is_enabled s) (in_order n)) count
    ∙ next_as (is_enabled s) (map (event_of moving.Report) numbers) (map (event_of moving.Finish) numbers) (map (event_of moving.Order) numbers)
    (flat_map (frames_of s.setup.workers) numbers) (map (event_of moving.Begin) numbers)

pub take_it : (a b : Option Event) (event : Event) → a ≡ Some event → option_or a b ≡ Some event
take_it a b event is = ap (λ (o : Option Event). option_or o b) is

pub skip_it : (a b : Option Event) → a ≡ None → option_or a b ≡ b
skip_it a b none = ap (λ (o : Option Event). option_or o b) none

-- the first that passes a test passes it
pub found_passes : (test : Event → Bool) (events : List Event) (event : Event) → find test events ≡ Some event → test event ≡ true
found_passes test [] event is = absurd cc
found_passes test (x ∷ xs) event is = either (test x) refl (found_passes test xs event) is where
  either : (b : Bool) → test x ≡ b → (find test xs ≡ Some event → test event ≡ true) → cond b (Some x) (find test xs) ≡ Some event → test event ≡ true
  either true does rest is = let same : x ≡ event = cc in ap test (sym same) ∙ does
  either false not rest is = rest is

-- ---- lines, one after another

pub take_more : {X : Type 0} (xs : List X) (i : ℕ) (x : X) → i < length xs → x ≡ get_or xs i x → take (i + 1) xs ≡ take i xs ++ x ∷ []
take_more {X} [] i x below is = absurd (omega (arith, below))
take_more {X} (y ∷ ys) zero x below is = ap (λ (z : X). z ∷ []) (sym is)
take_more {X} (y ∷ ys) (suc i) x below is =
    let next : suc i + 1 ≡ suc (i + 1) = omega arith in
    ap (λ (n : ℕ). take n (y ∷ ys)) next ∙ ap (λ (rest : List X). y ∷ rest) (take_more ys i x (omega (arith, below)) is)

pub lines_more : (lines : List Line) (line : Line) (before between after : ClusterState) → AreLines lines before between → IsLine line between after
    → AreLines (lines ++ line ∷ []) before after
lines_more [] line before between after are is = (after, (subst (λ (s : ClusterState). IsLine line s after) are is, refl))
lines_more (l ∷ lines) line before between after are is = (are.0, (are.1.0, lines_more lines line are.0 between after are.1.1 is))

-- events by the default rule led to what a cluster has come to
pub record HasReached (before : ClusterState) (cluster : Cluster) : Type 0 where
  pub count : ℕ
  pub after : ClusterState
  pub reaches : Reaches count before after
  pub stands : ClusterStands cluster after
