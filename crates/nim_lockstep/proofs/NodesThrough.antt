-- An instance that is through: all Runs of its group were performed, and so they are when more is asked for behind it.
use Rattle.std.proofs.Common.{◌≡◌, ℕ, zero, suc, ◌+◌, ◌<◌, ◌≤◌, Bool, true, false, not, List, [], ◌∷◌, ◌++◌, length, map, refl, ap, sym, subst, ◌∙◌, arith, Option, None, Some, All, inl, inr}
use Rattle.std.specs.Prelude.{◌==◌, ◌&&◌, if◌then◌else◌, slice_get}
use Rattle.std.specs.List.{filter, range_with_len}
use Rattle.std.specs.Option.{option_and_then, option_map, option_map_or}
use Rattle.std.proofs.lemmas.Bool.{both_ways, cases_eq, cases_lt, eq-eqb}
use Rattle.std.proofs.lemmas.List.Elements.{All-append, All-cons, All-nil}
use Rattle.std.proofs.lemmas.List.Sums.{fold-append}
use Rattle.std.proofs.lemmas.Option.{none-some, same_Some, slice_get-get_or, slice_get_within}
use Rattle.nim_command.specs.declared.command.Command.{Command}
use Rattle.nim_command.specs.Waits.{Group, Member, members_from, members_of}
use Rattle.nim_message.specs.declared.order.ToWorker.{ToWorker}
use Rattle.nim_message.specs.declared.report.FromWorker.{FromWorker}
use Rattle.nim_message.specs.declared.report.FromWorker.TheVariants.{Ran, Through}
use Rattle.nim_message.specs.Orders.{Session, after_order, no_session, session_of}
use Rattle.nim_order.specs.Progress.{is_one_of}
use Rattle.nim_order.proofs.Longer.{members_append}
use Rattle.nim_course.specs.declared.pending.Pending.{Pending}
use Rattle.nim_place.specs.TaskRuns.{position_run}
use Rattle.nim_history.specs.History.{Asked, asked_at, is_of_group, left_in_group}
use Rattle.nim_history.proofs.InTurn.{asked_still}
use Rattle.nim_history.proofs.Left.{asked_is}
use Rattle.nim_lockstep.specs.declared.ran.Ran.{Ran as ran_type}
use Rattle.nim_lockstep.specs.InStep.{was_run}
use Rattle.nim_base.proofs.Lists.{All_behind, get_front}
use Rattle.nim_lockstep.proofs.NodesOnce.{NoReset, groups_grow, once_of, position_in}
use Rattle.nim_lockstep.proofs.UnderWay.{BeginOnce, IsThrough, IsThroughOf, IsTold, is_from_instance}

-- ---- the group of what is asked for at a place

-- the member at a place, with its group
pub record IsAsked (groups : List Group) (place : ℕ) (asked : Asked) : Type 0 where
  pub member : Member
  pub there : slice_get (members_of groups) place ≡ Some member
  pub number : member.group ≡ asked.number
  pub group : slice_get groups asked.number ≡ Some asked.group

pub is_asked : (groups : List Group) (place : ℕ) (asked : Asked) → asked_at groups place ≡ Some asked → IsAsked groups place asked
is_asked groups place asked = either (slice_get (members_of groups) place) refl where
  inner : (m : Member) → slice_get (members_of groups) place ≡ Some m → (o : Option Group) → slice_get groups m.group ≡ o
      → option_map (λ (group : Group). record { number = m.group; group = group; command = m.command }) o ≡ Some asked → IsAsked groups place asked
  inner m there None at is = absurd (none-some asked is)
  inner m there (Some g) at is =
      let same : record { number = m.group; group = g; command = m.command } ≡ asked =
      same_Some (record { number = m.group; group = g; command = m.command }) asked is in
      let number : m.group ≡ asked.number = ap (λ (a : Asked). a.number) same in
      record {
        member = m;
        there = there;
        number = number;
        group = ap (slice_get groups) (sym number) ∙ at ∙ ap (λ (a : Asked). Some a.group) same;
      }

  either : (o : Option Member) → slice_get (members_of groups) place ≡ o
      → option_and_then
      (λ (m : Member). option_map (λ (group : Group). record { number = m.group; group = group; command = m.command }) (slice_get groups m.group)) o
      ≡ Some asked
      → IsAsked groups place asked
  either None there is = absurd (none-some asked is)
  either (Some m) there is = inner m there (slice_get groups m.group) refl is

-- ---- more groups behind

of_number : (number : ℕ) (commands : List Command)
    → All (λ (m : Member). number ≤ m.group) (map (λ command. record { group = number; command = command }) commands)
of_number number [] = All-nil (λ (m : Member). number ≤ m.group)
of_number number (command ∷ commands) =
    All-cons (λ (m : Member). number ≤ m.group) (record { group = number; command = command })
    (map (λ command. record { group = number; command = command }) commands) (omega arith) (of_number number commands)

-- members of later groups have later numbers
members_later : (least number : ℕ) (groups : List Group) → least ≤ number → All (λ (m : Member). least ≤ m.group) (members_from number groups)
members_later least number [] low = All-nil (λ (m : Member). least ≤ m.group)
members_later least number (group ∷ groups) low =
    All-append (λ (m : Member). least ≤ m.group) (map (λ command. record { group = number; command = command }) group.commands)
    (members_from (number + 1) groups)
    (λ k d within. let from = of_number number group.commands k d within in omega (arith, from, low))
    (members_later least (number + 1) groups (omega (arith, low)))

-- what stands behind the front of a list is one of the rest
behind_front : {X : Type 0} (P : X → Type 0) (xs ys : List X) (k : ℕ) (x : X) → length xs ≤ k → slice_get (xs ++ ys) k ≡ Some x → All P ys → P x
behind_front P [] ys k x past there all =
    subst P (same_Some _ x (sym (slice_get-get_or ys k x (slice_get_within ys k x there)) ∙ there)) (all k x (slice_get_within ys k x there))
behind_front P (first ∷ xs) ys zero x past there all = absurd (omega (arith, past))
behind_front P (first ∷ xs) ys (suc k) x past there all = behind_front P xs ys k x (omega (arith, past)) there all

-- what is asked of a group was asked before more came behind it
pub asked_before : (groups more : List Group) (place : ℕ) (asked : Asked) → asked.number < length groups → asked_at (groups ++ more) place ≡ Some asked
    → asked_at groups place ≡ Some asked
asked_before groups more place asked early is =
    let of : IsAsked (groups ++ more) place asked = is_asked (groups ++ more) place asked is in
    let front : List Member = members_of groups in
    let behind : List Member = members_from (0 + length groups) more in
    let there : slice_get (front ++ behind) place ≡ Some of.member =
    ap (λ (ms : List Member). slice_get ms place) (sym (members_append 0 groups more)) ∙ of.there in
    elim (cases_lt place (length front)) [
      | inl within ↦
          let found = asked_is groups place of.member (sym (get_front front behind place within) ∙ there) in
          found.2 ∙ sym (asked_still groups more place (record { number = of.member.group; group = found.0; command = of.member.command }) found.2) ∙ is
      | inr past ↦
          let late : length groups ≤ of.member.group =
          behind_front (λ (m : Member). length groups ≤ m.group) front behind place of.member past there
          (members_later (length groups) (0 + length groups) more (omega arith)) in
          absurd (omega (arith, late, early, of.number))
    ]

through_groups : (groups more : List Group) (trace : List ran_type) (instance : ℕ) → IsThroughOf groups trace instance
    → IsThroughOf (groups ++ more) trace instance
through_groups groups more trace instance is =
    let early : is.number < length groups = slice_get_within groups is.number is.group is.there in
    record {
      number = is.number;
      group = is.group;
      there = get_front groups more is.number early ∙ is.there;
      is = is.is;
      whole = is.whole;
      all = λ place asked position at same run.
          is.all place asked position (asked_before groups more place asked (omega (arith, same, early)) at) same run;
    }

-- ---- more orders behind

through_front : (pending : Pending) (front rest : List ToWorker) (trace : List ran_type) (instance : ℕ) → BeginOnce pending (front ++ rest)
    → IsThrough front trace instance → IsThrough (front ++ rest) trace instance
through_front pending [] rest trace instance once is = absurd (none-some is.group is.there)
through_front pending (first ∷ front) rest trace instance once is =
    let none : All NoReset rest = All_behind NoReset front rest (once_of pending first (front ++ rest) once).1 in
    let grows = groups_grow (session_of (first ∷ front)) rest none in
    let all : (session_of (first ∷ (front ++ rest))).groups ≡ (session_of (first ∷ front)).groups ++ grows.0 =
    ap (λ (s : Session). s.groups) (fold-append after_order no_session (first ∷ front) rest) ∙ grows.1 in
    subst (λ (groups : List Group). IsThroughOf groups trace instance) (sym all)
    (through_groups (session_of (first ∷ front)).groups grows.0 trace instance is)

-- what is told stays true when more orders are sent
pub told_front : (pending : Pending) (front rest : List ToWorker) (trace : List ran_type) (report : FromWorker) → BeginOnce pending (front ++ rest)
    → IsTold front trace report → IsTold (front ++ rest) trace report
told_front pending front rest trace (Ran epoch position reads) once told = told
told_front pending front rest trace (Through epoch instance) once told = through_front pending front rest trace instance once told
told_front pending front rest trace report once told = tt

-- ---- an instance that is through

-- all Runs at these places were performed
abbrev pub AllRun : List ran_type → List Group → List ℕ → Type 0
AllRun trace groups places =
    (place position : ℕ) → is_one_of places place ≡ true → position_in groups place ≡ position ∷ [] → was_run trace position ≡ true

-- a number that passes a test is counted
none_kept : (p : ℕ → Bool) (from count k : ℕ) → length (filter p (range_with_len from count)) ≡ 0 → from ≤ k → k < from + count → p k ≡ false
none_kept p from zero k none low high = absurd (omega (arith, low, high))
none_kept p from (suc count) k none low high =
    either (p from) refl none (λ rest past. none_kept p (from + 1) count k rest past (omega (arith, high))) where
      either : (b : Bool) → p from ≡ b
          → length (if b then from ∷ filter p (range_with_len (from + 1) count) else filter p (range_with_len (from + 1) count)) ≡ 0
          → (length (filter p (range_with_len (from + 1) count)) ≡ 0 → from + 1 ≤ k → p k ≡ false) → p k ≡ false
      either true passes some later = absurd (omega (arith, some))
      either false fails rest later = elim (cases_eq from k) [
        | inl same ↦ ap p (sym same) ∙ fails
        | inr other ↦ later rest (omega (arith, low, other))
      ]

among_left : (b c : Bool) → b ≡ true → (b && not c) ≡ false → c ≡ true
among_left true true is none = refl
among_left true false is none = absurd (both_ways true none refl)
among_left false c is none = absurd (both_ways false refl is)

-- where none of a group is left, each of its places is complete
none_left : (groups : List Group) (ran : List ℕ) (place : ℕ) (asked : Asked) → left_in_group groups asked.number ran ≡ 0
    → asked_at groups place ≡ Some asked → is_one_of ran place ≡ true
none_left groups ran place asked none at =
    let of : IsAsked groups place asked = is_asked groups place asked at in
    let within : place < length (members_of groups) = slice_get_within (members_of groups) place of.member of.there in
    among_left (is_of_group groups asked.number place) (is_one_of ran place)
    (ap (λ (o : Option Member). option_map_or (λ (m : Member). m.group == asked.number) o false) of.there ∙ eq-eqb of.member.group asked.number of.number)
    (none_kept (λ (p : ℕ). is_of_group groups asked.number p && not (is_one_of ran p)) 0 (length (members_of groups)) place none (omega arith)
    (omega (arith, within)))

-- where the Runs at all complete places were performed, an instance with none left is through
pub through_of : (trace : List ran_type) (groups : List Group) (ran : List ℕ) (place : ℕ) (asked : Asked) → asked_at groups place ≡ Some asked
    → is_from_instance asked.group.source ≡ true → left_in_group groups asked.number ran ≡ 0 → AllRun trace groups ran
    → IsThroughOf groups trace asked.group.instance
through_of trace groups ran place asked at whole none have = record {
  number = asked.number;
  group = asked.group;
  there = (is_asked groups place asked at).group;
  is = refl;
  whole = whole;
  all = λ other o position there same run.
      have other position
      (none_left groups ran other o (ap (λ (number : ℕ). left_in_group groups number ran) same ∙ none) there)
      (ap (λ (x : Option Asked). option_map_or (λ (a : Asked). position_run a.command.kind) x []) there ∙ run);
}
