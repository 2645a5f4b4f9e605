-- Commands that may be completed in turn still may when more orders and frames come, and others behind them.
use Rattle.std.proofs.Common.{◌≡◌, ◌≢◌, ℕ, ◌+◌, Bool, true, false, cond, List, [], ◌∷◌, ◌++◌, length, map, refl, ap, sym, subst, ◌∙◌, Option, None, Some, All}
use Rattle.std.specs.Prelude.{◌==◌, nat_lt, if◌then◌else◌, slice_get}
use Rattle.std.specs.FinMap as map
use Rattle.std.specs.FinMap.{get-insert, get-remove}
use Rattle.std.specs.List.{fold}
use Rattle.std.specs.Option.{is_some, option_and_then, option_map, option_map_or}
use Rattle.std.specs.Ordering.{is_eq}
use Rattle.std.proofs.lemmas.Bool.{both_ways, or_from, or_left, or_parts}
use Rattle.std.proofs.lemmas.List.{append-nil}
use Rattle.std.proofs.lemmas.List.Elements.{All-cons, All-head, All-nil, All-tail, All-weaker}
use Rattle.std.proofs.lemmas.Option.{slice_get_within}
use Rattle.nim_base.specs.Value.{Grid}
use Rattle.nim_command.specs.declared.command.Command.{Command}
use Rattle.nim_command.specs.Covered.{waits_at}
use Rattle.nim_command.specs.Waits.{Group, Member, members_from, members_of, placed_commands}
use Rattle.nim_message.specs.declared.frame.Data.{Data}
use Rattle.nim_message.specs.declared.order.ToWorker.{ToWorker}
use Rattle.nim_message.specs.Orders.{Session}
use Rattle.nim_order.specs.Progress.{GainsPlace, IsReleasedAt, is_one_of}
use Rattle.nim_order.proofs.Longer.{front_stays, members_append, released_longer}
use Rattle.nim_order.proofs.Orders.{one_more}
use Rattle.nim_store.specs.declared.key.Key.{Key}
use Rattle.nim_store.specs.Keys.{key_cmp, key_of}
use Rattle.nim_store.proofs.Frames.{exact_keys, keys_total}
use Rattle.nim_history.specs.History.{Asked, MayComplete, WorkerState, Completed, after_asked, after_happening, asked_at, completed, framed, has_frame, key_for, ordered}
use Rattle.nim_history.specs.InTurn.{AreBeside, HaveOtherFrames, InTurn, IsBeside, MayAllComplete, is_reset, key_at}
use Rattle.nim_base.proofs.Lists.{all_weaker, get_front, is_equal}
use Rattle.nim_history.proofs.Completed.{completed_session}
use Rattle.nim_history.proofs.Ordered.{GrowsTo, order_grows, ordered_is}

-- A worker that has come further than another: more was asked for behind the same, the same commands are complete, and
-- the frames that were there are.
record IsFurther (first second : WorkerState) : Type 0 where
  groups : GrowsTo first.session second.session
  ran : second.ran ≡ first.ran
  frames : (key : Key) → map.contains_key first.inbox key ≡ true → map.contains_key second.inbox key ≡ true

-- the command at a place is the same when more is asked for behind it
there_still : {X : Type 0} (xs ys : List X) (i : ℕ) (x : X) → slice_get xs i ≡ Some x → slice_get (xs ++ ys) i ≡ Some x
there_still xs ys i x there = get_front xs ys i (slice_get_within xs i x there) ∙ there

of_group_still : (groups more : List Group) (m : Member) (asked : Asked)
    → option_map (λ (group : Group). record { number = m.group; group = group; command = m.command }) (slice_get groups m.group) ≡ Some asked
    → option_map (λ (group : Group). record { number = m.group; group = group; command = m.command }) (slice_get (groups ++ more) m.group) ≡ Some asked
of_group_still groups more m asked = either (slice_get groups m.group) refl where
  either : (o : Option Group) → slice_get groups m.group ≡ o
      → option_map (λ (group : Group). record { number = m.group; group = group; command = m.command }) o ≡ Some asked
      → option_map (λ (group : Group). record { number = m.group; group = group; command = m.command }) (slice_get (groups ++ more) m.group) ≡ Some asked
  either None there is = absurd cc
  either (Some g) there is =
      ap (option_map (λ (group : Group). record { number = m.group; group = group; command = m.command })) (there_still groups more m.group g there) ∙ is

abbrev found_in : List Group → Option Member → Option Asked
found_in groups member =
    option_and_then
    (λ (m : Member). option_map (λ (group : Group). record { number = m.group; group = group; command = m.command }) (slice_get groups m.group)) member

-- what a place asks for is the same when more is asked for behind it
pub asked_still : (groups more : List Group) (place : ℕ) (asked : Asked) → asked_at groups place ≡ Some asked → asked_at (groups ++ more) place ≡ Some asked
asked_still groups more place asked = either (slice_get (members_of groups) place) refl where
  either : (o : Option Member) → slice_get (members_of groups) place ≡ o → found_in groups o ≡ Some asked → asked_at (groups ++ more) place ≡ Some asked
  either None there is = absurd cc
  either (Some m) there is =
      ap (λ (ms : List Member). found_in (groups ++ more) (slice_get ms place)) (members_append 0 groups more)
      ∙ ap (found_in (groups ++ more)) (there_still (members_of groups) (members_from (0 + length groups) more) place m there)
      ∙ of_group_still groups more m asked is

asked_further : (first second : WorkerState) (place : ℕ) (asked : Asked) → IsFurther first second → asked_at first.session.groups place ≡ Some asked
    → asked_at second.session.groups place ≡ Some asked
asked_further first second place asked further is =
    ap (λ (groups : List Group). asked_at groups place) further.groups.1 ∙ asked_still first.session.groups further.groups.0 place asked is

-- its frame is still there
frame_there : (first second : WorkerState) (asked : Asked) → IsFurther first second → has_frame first asked ≡ true → has_frame second asked ≡ true
frame_there first second asked further = either (key_for asked) where
  either : (o : Option Key) → option_map_or (λ (key : Key). map.contains_key first.inbox key) o true ≡ true
      → option_map_or (λ (key : Key). map.contains_key second.inbox key) o true ≡ true
  either None there = refl
  either (Some key) there = further.frames key there

frame_further : (first second : WorkerState) (place : ℕ) → IsFurther first second
    → option_map_or (has_frame first) (asked_at first.session.groups place) false ≡ true
    → option_map_or (has_frame second) (asked_at second.session.groups place) false ≡ true
frame_further first second place further = either (asked_at first.session.groups place) refl where
  either : (o : Option Asked) → asked_at first.session.groups place ≡ o → option_map_or (has_frame first) o false ≡ true
      → option_map_or (has_frame second) (asked_at second.session.groups place) false ≡ true
  either None is there = absurd (both_ways false refl there)
  either (Some asked) is there =
      ap (λ (o : Option Asked). option_map_or (has_frame second) o false) (asked_further first second place asked further is)
      ∙ frame_there first second asked further there

may_further : (first second : WorkerState) (place : ℕ) → IsFurther first second → MayComplete first place → MayComplete second place
may_further first second place further may =
    let longer : placed_commands second.session.groups ≡ placed_commands first.session.groups ++ _ =
    ap placed_commands further.groups.1 ∙ front_stays first.session.groups further.groups.0 in
    record {
      released = subst (λ (ran : List ℕ). IsReleasedAt (placed_commands second.session.groups) (is_one_of ran) place) (sym further.ran)
          (subst (λ (commands : List Command). IsReleasedAt commands (is_one_of first.ran) place) (sym longer)
          (released_longer (placed_commands first.session.groups) _ (is_one_of first.ran) place may.released));
      frame = frame_further first second place further may.frame;
    }

-- what a worker has once a command is complete that may be
completed_is : (state : WorkerState) (place : ℕ) (asked : Asked) → asked_at state.session.groups place ≡ Some asked
    → completed state place ≡ after_asked state place asked
completed_is state place asked is = ap (λ (o : Option Asked). option_map_or (after_asked state place) o state) is

-- one frame is gone, and the others are there as they were
cond_none : {X : Type 0} (b : Bool) (o : Option X) → is_some (cond b None o) ≡ true → (b ≡ false) × (is_some o ≡ true)
cond_none true o there = absurd (both_ways false refl there)
cond_none false o there = (refl, there)

kept_there : {X : Type 0} (b : Bool) (o : Option X) → b ≡ false → is_some o ≡ true → is_some (cond b None o) ≡ true
kept_there true o other there = absurd (both_ways true other refl)
kept_there false o other there = there

removed_there : (inbox : map.FinMap key_cmp Grid) (gone key : Key) → is_eq (key_cmp key gone) ≡ false → map.contains_key inbox key ≡ true
    → map.contains_key (map.remove inbox gone) key ≡ true
removed_there inbox gone key other there =
    ap is_some (get-remove keys_total inbox gone key) ∙ kept_there (is_eq (key_cmp key gone)) (map.get inbox key) other there

removed_was : (inbox : map.FinMap key_cmp Grid) (gone key : Key) → map.contains_key (map.remove inbox gone) key ≡ true
    → (is_eq (key_cmp key gone) ≡ false) × (map.contains_key inbox key ≡ true)
removed_was inbox gone key there =
    cond_none (is_eq (key_cmp key gone)) (map.get inbox key) (sym (ap is_some (get-remove keys_total inbox gone key)) ∙ there)

without_frame : (first second : WorkerState) (gone : Option Key)
    → ((key : Key) → map.contains_key first.inbox key ≡ true → map.contains_key second.inbox key ≡ true)
    → (key : Key) → map.contains_key (option_map_or (λ (k : Key). map.remove first.inbox k) gone first.inbox) key ≡ true
    → map.contains_key (option_map_or (λ (k : Key). map.remove second.inbox k) gone second.inbox) key ≡ true
without_frame first second None frames key there = frames key there
without_frame first second (Some gone) frames key there =
    let was = removed_was first.inbox gone key there in removed_there second.inbox gone key was.0 (frames key was.1)

-- a worker that came further stays further when both complete the same command
asked_both : (first second : WorkerState) (place : ℕ) (asked : Asked) → IsFurther first second → asked_at first.session.groups place ≡ Some asked
    → IsFurther (completed first place) (completed second place)
asked_both first second place asked further is =
    subst (λ (state : WorkerState). IsFurther state (completed second place)) (sym (completed_is first place asked is))
    (subst (λ (state : WorkerState). IsFurther (after_asked first place asked) state)
    (sym (completed_is second place asked (asked_further first second place asked further is)))
    (record {
      groups = further.groups;
      ran = ap (λ (ran : List ℕ). ran ++ place ∷ []) further.ran;
      frames = without_frame first second (key_for asked) further.frames;
    }))

both_further : (first second : WorkerState) (place : ℕ) → IsFurther first second → MayComplete first place
    → IsFurther (completed first place) (completed second place)
both_further first second place further may = either (asked_at first.session.groups place) refl may.frame where
  either : (o : Option Asked) → asked_at first.session.groups place ≡ o → option_map_or (has_frame first) o false ≡ true
      → IsFurther (completed first place) (completed second place)
  either None is frame = absurd (both_ways false refl frame)
  either (Some asked) is frame = asked_both first second place asked further is

all_further : (first second : WorkerState) (places : List ℕ) → IsFurther first second → MayAllComplete first places → MayAllComplete second places
all_further first second [] further may = tt
all_further first second (place ∷ places) further may = (
  may_further first second place further may.0,
  all_further (completed first place) (completed second place) places
      (both_further first second place further may.0) may.1,
)

-- an order that isn't a Reset
ordered_further : (state : WorkerState) (order : ToWorker) → is_reset order ≡ false → IsFurther state (ordered state order)
ordered_further state order other =
    subst (λ (now : WorkerState). IsFurther state now) (sym (ordered_is state order other))
    (record { groups = order_grows state.session order other; ran = refl; frames = λ key there. there })

-- a frame
inserted_there : {X : Type 0} (b : Bool) (x : X) (o : Option X) → is_some o ≡ true → is_some (cond b (Some x) o) ≡ true
inserted_there true x o there = refl
inserted_there false x o there = there

framed_further : (state : WorkerState) (frame : Data) → IsFurther state (framed state frame)
framed_further state frame = either (nat_lt frame.epoch state.session.epoch) where
  either : (b : Bool) → IsFurther state (if b then state else record state { inbox = map.insert state.inbox (key_of frame) frame.value })
  either true = record { groups = ([], sym (append-nil state.session.groups)); ran = refl; frames = λ key there. there }
  either false = record {
    groups = ([], sym (append-nil state.session.groups));
    ran = refl;
    frames = λ key there.
        ap is_some (get-insert keys_total state.inbox (key_of frame) frame.value key)
        ∙ inserted_there (is_eq (key_cmp key (key_of frame))) frame.value (map.get state.inbox key) there;
  }

-- the session stays through completions
pub session_stays : (state : WorkerState) (places : List ℕ) → (fold after_happening state (map Completed places)).session ≡ state.session
session_stays state [] = refl
session_stays state (place ∷ places) = session_stays (completed state place) places ∙ completed_session state place

-- each of the commands that may be completed in turn is there
there_in : (state : WorkerState) (place : ℕ) → MayComplete state place → is_some (asked_at state.session.groups place) ≡ true
there_in state place may = either (asked_at state.session.groups place) may.frame where
  either : (o : Option Asked) → option_map_or (has_frame state) o false ≡ true → is_some o ≡ true
  either None frame = absurd (both_ways false refl frame)
  either (Some asked) frame = refl

all_there : (state : WorkerState) (groups : List Group) (places : List ℕ) → state.session.groups ≡ groups → MayAllComplete state places
    → All (λ place. is_some (asked_at groups place) ≡ true) places
all_there state groups [] same may = All-nil (λ place. is_some (asked_at groups place) ≡ true)
all_there state groups (place ∷ places) same may =
    All-cons (λ p. is_some (asked_at groups p) ≡ true) place places
    (subst (λ (all : List Group). is_some (asked_at all place) ≡ true) same (there_in state place may.0))
    (all_there (completed state place) groups places (ap (λ (session : Session). session.groups) (completed_session state place) ∙ same) may.1)

same_asked : (first second : WorkerState) (place : ℕ) → IsFurther first second → is_some (asked_at first.session.groups place) ≡ true
    → asked_at second.session.groups place ≡ asked_at first.session.groups place
same_asked first second place further = either (asked_at first.session.groups place) refl where
  either : (o : Option Asked) → asked_at first.session.groups place ≡ o → is_some o ≡ true → asked_at second.session.groups place ≡ o
  either None is there = absurd (both_ways false refl there)
  either (Some asked) is there = asked_further first second place asked further is

asked_stay : (state : WorkerState) (order : ToWorker) (places : List ℕ) → is_reset order ≡ false → MayAllComplete state places
    → All (λ place. asked_at (ordered state order).session.groups place ≡ asked_at state.session.groups place) places
asked_stay state order places other may =
    All-weaker (λ place. is_some (asked_at state.session.groups place) ≡ true)
    (λ place. asked_at (ordered state order).session.groups place ≡ asked_at state.session.groups place)
    (λ place. same_asked state (ordered state order) place (ordered_further state order other)) places
    (all_there state state.session.groups places refl may)

-- one that may be completed still may once another one is complete that receives another frame
frame_stays : (state : WorkerState) (gone : Option Key) (place : ℕ) → ((key : Key) → gone ≡ Some key → key_at state.session.groups place ≢ Some key)
    → option_map_or (has_frame state) (asked_at state.session.groups place) false ≡ true
    → option_map_or
    (λ (asked : Asked). option_map_or (λ (key : Key). map.contains_key (option_map_or (λ (k : Key). map.remove state.inbox k) gone state.inbox) key)
    (key_for asked) true)
    (asked_at state.session.groups place) false ≡ true
frame_stays state None place others there = there
frame_stays state (Some gone) place others there = either (asked_at state.session.groups place) refl there where
  keyed : (o : Option Key) → o ≢ Some gone → option_map_or (λ (key : Key). map.contains_key state.inbox key) o true ≡ true
      → option_map_or (λ (key : Key). map.contains_key (map.remove state.inbox gone) key) o true ≡ true
  keyed None other there = refl
  keyed (Some key) other there = removed_there state.inbox gone key (apart (is_eq (key_cmp key gone)) refl) there where
    apart : (b : Bool) → is_eq (key_cmp key gone) ≡ b → b ≡ false
    apart true same = absurd (other (ap Some (exact_keys key gone (is_equal (key_cmp key gone) same))))
    apart false same = refl

  either : (o : Option Asked) → asked_at state.session.groups place ≡ o → option_map_or (has_frame state) o false ≡ true
      → option_map_or (λ (asked : Asked). option_map_or (λ (key : Key). map.contains_key (map.remove state.inbox gone) key) (key_for asked) true) o false ≡ true
  either None is there = absurd (both_ways false refl there)
  either (Some asked) is there = keyed (key_for asked) (λ same. others gone refl (ap (option_and_then key_for) is ∙ same)) there

still_may : (state : WorkerState) (place other : ℕ) (asked : Asked) → asked_at state.session.groups place ≡ Some asked → (place == other) ≡ false
    → HaveOtherFrames state.session.groups place other → MayComplete state other → MayComplete (after_asked state place asked) other
still_may state place other asked is apart frames may =
    let gains : GainsPlace (is_one_of state.ran) place (is_one_of (state.ran ++ place ∷ [])) = one_more state.ran place in
    record {
      released = record {
        within = may.released.within;
        waiting = gains other ∙ or_from (is_one_of state.ran other) (place == other) may.released.waiting apart;
        waits = all_weaker (is_one_of state.ran) (is_one_of (state.ran ++ place ∷ [])) (λ p done. gains p ∙ or_left (is_one_of state.ran p) (place == p) done)
            (waits_at (placed_commands state.session.groups) other) may.released.waits;
      };
      frame = frame_stays state (key_for asked) other (λ key same. frames key (ap (option_and_then key_for) is ∙ same)) may.frame;
    }

still_completes : (state : WorkerState) (place other : ℕ) → MayComplete state place → (place == other) ≡ false
    → HaveOtherFrames state.session.groups place other
    → MayComplete state other → MayComplete (completed state place) other
still_completes state place other first apart frames may = either (asked_at state.session.groups place) refl first.frame where
  either : (o : Option Asked) → asked_at state.session.groups place ≡ o → option_map_or (has_frame state) o false ≡ true
      → MayComplete (completed state place) other
  either None is frame = absurd (both_ways false refl frame)
  either (Some asked) is frame =
      subst (λ (now : WorkerState). MayComplete now other) (sym (completed_is state place asked is)) (still_may state place other asked is apart frames may)

-- one more behind commands that may be completed in turn
more_from : (state : WorkerState) (groups : List Group) (places : List ℕ) (place : ℕ) → state.session.groups ≡ groups → MayAllComplete state places
    → MayComplete state place
    → is_one_of places place ≡ false → All (λ earlier. HaveOtherFrames groups earlier place) places → MayAllComplete state (places ++ place ∷ [])
more_from state groups [] place same all may apart frames = (may, tt)
more_from state groups (first ∷ places) place same all may apart frames =
    let parts = or_parts (first == place) (is_one_of places place) apart in
    let other : HaveOtherFrames state.session.groups first place =
    subst (λ (g : List Group). HaveOtherFrames g first place) (sym same) (All-head (λ earlier. HaveOtherFrames groups earlier place) first places frames) in (
      all.0,
      more_from (completed state first) groups places place (ap (λ (session : Session). session.groups) (completed_session state first) ∙ same) all.1
          (still_completes state first place all.0 parts.0 other may) parts.1 (All-tail (λ earlier. HaveOtherFrames groups earlier place) first places frames),
    )

-- what holds of each item by two facts
by_two : {X : Type 0} (P Q R : X → Type 0) (xs : List X) → ((x : X) → P x → Q x → R x) → All P xs → All Q xs → All R xs
by_two P Q R [] both first second = All-nil R
by_two P Q R (x ∷ xs) both first second =
    All-cons R x xs (both x (All-head P x xs first) (All-head Q x xs second)) (by_two P Q R xs both (All-tail P x xs first) (All-tail Q x xs second))

all_beside : (state : WorkerState) (groups : List Group) (places : List ℕ) → state.session.groups ≡ groups → All (MayComplete state) places
    → AreBeside groups places
    → MayAllComplete state places
all_beside state groups [] same may beside = tt
all_beside state groups (place ∷ places) same may beside =
    let first : MayComplete state place = All-head (MayComplete state) place places may in (
      first,
      all_beside (completed state place) groups places (ap (λ (session : Session). session.groups) (completed_session state place) ∙ same)
          (by_two (MayComplete state) (IsBeside groups place) (MayComplete (completed state place)) places
          (λ later may_later is.
          still_completes state place later first is.other (subst (λ (g : List Group). HaveOtherFrames g place later) (sym same) is.frames) may_later)
          (All-tail (MayComplete state) place places may) beside.0)
          beside.1,
    )

pub commands_in_turn : InTurn
commands_in_turn = record {
  orders = λ state order places other. all_further state (ordered state order) places (ordered_further state order other);
  same = asked_stay;
  frames = λ state frame places. all_further state (framed state frame) places (framed_further state frame);
  more = λ state places place all may apart frames. more_from state state.session.groups places place refl all may apart frames;
  all = λ state places may beside. all_beside state state.session.groups places refl may beside;
  session = session_stays;
}
