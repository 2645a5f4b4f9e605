-- The table of the groups that aren't complete, when a group comes and when a command is complete.
use Rattle.std.proofs.Common.{◌≡◌, ◌≢◌, ℕ, suc, zero, ◌+◌, ◌-◌, ◌<◌, ◌≤◌, Bool, true, false, List, [], ◌∷◌, ◌++◌, length, refl, ap, ap₂, sym, subst, ◌∙◌, arith, Option, None, Some, inl, inr}
use Rattle.std.specs.Prelude.{◌==◌, ◌||◌, ◌&&◌, ◌⊎◌, nat_lt, if◌then◌else◌, slice_get, OnErr, OnOk, Result, Ok, Err}
use Rattle.std.specs.BTreeMap.{BTreeMap, get}
use Rattle.std.specs.Option.{option_and_then, option_map, option_map_or}
use Rattle.std.specs.Ordering.{nat_cmp}
use Rattle.std.proofs.Math.Path.{fun_ext}
use Rattle.std.proofs.lemmas.Bool.{cases_eq, cases_lt, cond-true, cond-false, eq-eqb, eqb-false, eqb-true, lt-ltb, ne_eqb}
use Rattle.std.proofs.lemmas.List.{length-append}
use Rattle.std.proofs.lemmas.Option.{none-some, same_Some, slice_get_past, slice_get_within}
use Rattle.nim_command.specs.declared.command.Command.{Command}
use Rattle.nim_command.specs.Waits.{Group, Member, members_of}
use Rattle.nim_order.specs.Progress.{is_one_of}
use Rattle.nim_order.proofs.Orders.{one_more}
use Rattle.nim_queue.specs.Stands as queue
use Rattle.nim_history.specs.History.{Asked, asked_at, is_of_group, left_in_group}
use Rattle.nim_history.proofs.Left.{asked_is, left_before, left_less, left_of_next, left_same}
use Rattle.nim_worker.specs.declared.admitted.Admitted.{Admitted}
use Rattle.nim_worker.specs.declared.admitted.OpenGroup.{OpenGroup}
use Rattle.nim_worker.specs.declared.head.GroupHead.{GroupHead}
use Rattle.nim_worker.specs.Admitted.{Closes, CountsDown, IsAdmitted, IsGroupOf, Opens, ended_at, head_at, group_head, is_told, one_less, open_of, open_with, while_left}
use Rattle.nim_base.proofs.Lists.{get_front, get_last}

-- The command of a ticket isn't complete: its group is in the table, and so many are left of it once this one is complete too.
record IsOpen (groups : List Group) (ran : List ℕ) (ticket number : ℕ) : Type 0 where
  group : Group
  command : Command
  waiting : is_one_of ran ticket ≡ false
  within : ticket < length (members_of groups)
  member : slice_get (members_of groups) ticket ≡ Some (record { group = number; command = command })
  there : slice_get groups number ≡ Some group
  asked : asked_at groups ticket ≡ Some (record { number = number; group = group; command = command })
  of : is_of_group groups number ticket ≡ true
  left : left_in_group groups number ran ≡ suc (left_in_group groups number (ran ++ ticket ∷ []))

is_open : (groups : List Group) (ran : List ℕ) (ticket number : ℕ) → queue.outstanding_group groups (is_one_of ran) ticket ≡ Some number
    → IsOpen groups ran ticket number
is_open groups ran ticket number = either (is_one_of ran ticket) refl (slice_get (members_of groups) ticket) refl where
  either : (b : Bool) → is_one_of ran ticket ≡ b → (o : Option Member) → slice_get (members_of groups) ticket ≡ o
      → (if b then None else option_map (λ (m : Member). m.group) o) ≡ Some number → IsOpen groups ran ticket number
  either true done o there is = absurd cc
  either false done None there is = absurd cc
  either false done (Some m) there is =
      let same : m.group ≡ number = same_Some m.group number is in
      let member : slice_get (members_of groups) ticket ≡ Some (record { group = number; command = m.command }) =
      there ∙ ap (λ (n : ℕ). Some (record { group = n; command = m.command })) same in
      let found = asked_is groups ticket (record { group = number; command = m.command }) member in
      let within : ticket < length (members_of groups) = slice_get_within (members_of groups) ticket m there in
      let of : is_of_group groups number ticket ≡ true =
      ap (λ (o : Option Member). option_map_or (λ (x : Member). x.group == number) o false) member ∙ eq-eqb number number refl in
      let less = left_less groups number ran ticket within done of in
      record {
        group = found.0;
        command = m.command;
        waiting = done;
        within = within;
        member = member;
        there = found.1;
        asked = found.2;
        of = of;
        left = omega (arith, less);
      }

-- what the table has at its group
abbrev entry_of : Group → ℕ → OpenGroup
entry_of group left = record { head = group_head group; told = is_told group.source; left = left }

entry_there : (groups : List Group) (ran : List ℕ) (ticket number : ℕ) (entry : IsOpen groups ran ticket number)
    → open_of groups ran number ≡ Some (entry_of entry.group (suc (left_in_group groups number (ran ++ ticket ∷ []))))
entry_there groups ran ticket number entry =
    ap (λ (o : Option Group). option_and_then (λ (group : Group). open_with group (left_in_group groups number ran)) o) entry.there
    ∙ ap (open_with entry.group) entry.left

-- the head of the group of a command that isn't complete
pub head_there : (admitted : Admitted) (groups : List Group) (ran : List ℕ) (ticket number : ℕ) → IsAdmitted admitted groups ran
    → queue.outstanding_group groups (is_one_of ran) ticket ≡ Some number
    → option_map (λ (group : OpenGroup). group.head) (get nat_cmp admitted.unfinished number) ≡ head_at groups ran ticket
head_there admitted groups ran ticket number is known =
    let entry : IsOpen groups ran ticket number = is_open groups ran ticket number known in
    ap (option_map (λ (group : OpenGroup). group.head)) (is.table number ∙ entry_there groups ran ticket number entry)
    ∙ sym (ap₂ (λ (b : Bool) (o : Option Asked). if b then None else option_map (λ (asked : Asked). group_head asked.group) o) entry.waiting entry.asked)

-- the group that is counted down
counted_is : (admitted : Admitted) (groups : List Group) (ran : List ℕ) (ticket number : ℕ) (entry : IsOpen groups ran ticket number)
    → IsAdmitted admitted groups ran
    → option_map one_less (get nat_cmp admitted.unfinished number) ≡ Some (entry_of entry.group (left_in_group groups number (ran ++ ticket ∷ [])))
counted_is admitted groups ran ticket number entry is =
    let left : ℕ = left_in_group groups number (ran ++ ticket ∷ []) in
    let less : suc left - 1 ≡ left = omega arith in
    ap (option_map one_less) (is.table number ∙ entry_there groups ran ticket number entry) ∙ ap (λ (n : ℕ). Some (entry_of entry.group n)) less

-- what is known of a command that has become complete
pub ended_is : (admitted : Admitted) (groups : List Group) (ran : List ℕ) (ticket number : ℕ) (command : Command) (group : OpenGroup) (through : Bool)
    → IsAdmitted admitted groups ran
    → queue.outstanding_group groups (is_one_of ran) ticket ≡ Some number → queue.outstanding_command groups (is_one_of ran) ticket ≡ Some command
    → option_map one_less (get nat_cmp admitted.unfinished number) ≡ Some group → through ≡ (group.told && (group.left == 0))
    → Some (record { command = command; head = group.head; through = through }) ≡ ended_at groups ran ticket
ended_is admitted groups ran ticket number command group through is known gave counted tells =
    let entry : IsOpen groups ran ticket number = is_open groups ran ticket number known in
    let left : ℕ = left_in_group groups number (ran ++ ticket ∷ []) in
    let here : queue.outstanding_command groups (is_one_of ran) ticket ≡ Some entry.command =
    ap₂ (λ (b : Bool) (o : Option Member). if b then None else option_map (λ (m : Member). m.command) o) entry.waiting entry.member in
    let same_command : command ≡ entry.command = same_Some command entry.command (sym gave ∙ here) in
    let same : group ≡ entry_of entry.group left =
    same_Some group (entry_of entry.group left) (sym counted ∙ counted_is admitted groups ran ticket number entry is) in
    ap₂ (λ (c : Command) (g : OpenGroup). Some (record { command = c; head = g.head; through = through })) same_command same
    ∙ ap (λ (b : Bool). Some (record { command = entry.command; head = group_head entry.group; through = b }))
    (tells ∙ ap (λ (g : OpenGroup). g.told && (g.left == 0)) same)
    ∙ sym (ap (option_map (λ (asked : Asked). record {
      command = asked.command;
      head = group_head asked.group;
      through = is_told asked.group.source && (left_in_group groups asked.number (ran ++ ticket ∷ []) == 0);
    })) entry.asked)

-- it can't be that its group isn't there
not_none : {X Y : Type 0} (f : X → Y) (xs : List X) (k : ℕ) → k < length xs → option_map f (slice_get xs k) ≡ None → ⊥
not_none f [] k below is = omega (arith, below)
not_none f (x ∷ xs) zero below is = none-some (f x) (sym is)
not_none f (x ∷ xs) (suc k) below is = not_none f xs k (omega (arith, below)) is

-- a command that isn't complete is there, and so is its group
pub is_there : {Y : Type 0} (of : Member → Y) (groups : List Group) (ran : List ℕ) (ticket : ℕ) (A : Type 0) → ticket < queue.command_count groups
    → is_one_of ran ticket ≡ false
    → (if is_one_of ran ticket then None else option_map of (slice_get (members_of groups) ticket)) ≡ None → A
is_there of groups ran ticket A below waiting none =
    absurd (not_none of (members_of groups) ticket below
    (sym (cond-false (is_one_of ran ticket) None (option_map of (slice_get (members_of groups) ticket)) waiting) ∙ none))

pub is_counted : (admitted : Admitted) (groups : List Group) (ran : List ℕ) (ticket number : ℕ) (A : Type 0) → IsAdmitted admitted groups ran
    → queue.outstanding_group groups (is_one_of ran) ticket ≡ Some number → option_map one_less (get nat_cmp admitted.unfinished number) ≡ None → A
is_counted admitted groups ran ticket number A is known none =
    let entry : IsOpen groups ran ticket number = is_open groups ran ticket number known in
    absurd (none-some _ (sym none ∙ counted_is admitted groups ran ticket number entry is))

-- the entry that is left, where some are
left_entry : (group : Group) (left : ℕ) → while_left (one_less (entry_of group (suc left))) ≡ open_with group left
left_entry group zero = refl
left_entry group (suc left) =
    let less : suc (suc left) - 1 ≡ suc left = omega arith in
    rw less (cond-false (suc left == 0) None (Some (entry_of group (suc left))) (ne_eqb (suc left) 0 (λ same. absurd (omega (arith, same)))))

table_down : (old new : BTreeMap ℕ OpenGroup) (groups : List Group) (ran : List ℕ) (ticket number : ℕ) → ((n : ℕ) → get nat_cmp old n ≡ open_of groups ran n)
    → IsOpen groups ran ticket number → CountsDown old number new → (other : ℕ) → get nat_cmp new other ≡ open_of groups (ran ++ ticket ∷ []) other
table_down old new groups ran ticket number table entry down other = down other ∙ either (other == number) refl where
  left : ℕ
  left = left_in_group groups number (ran ++ ticket ∷ [])

  of_it : option_and_then (λ (group : OpenGroup). while_left (one_less group)) (get nat_cmp old number) ≡ open_of groups (ran ++ ticket ∷ []) number
  of_it =
      ap (option_and_then (λ (group : OpenGroup). while_left (one_less group))) (table number ∙ entry_there groups ran ticket number entry)
      ∙ left_entry entry.group left ∙ sym (ap (λ (o : Option Group). option_and_then (λ (group : Group). open_with group left) o) entry.there)

  of_other : (number ≡ other → ⊥) → get nat_cmp old other ≡ open_of groups (ran ++ ticket ∷ []) other
  of_other apart =
      let not_of : is_of_group groups other ticket ≡ false =
      ap (λ (o : Option Member). option_map_or (λ (x : Member). x.group == other) o false) entry.member ∙ ne_eqb number other apart in
      table other
      ∙ ap (λ (n : ℕ). option_and_then (λ (group : Group). open_with group n) (slice_get groups other)) (sym (left_same groups other ran ticket not_of))

  either : (b : Bool) → (other == number) ≡ b
      → (if b then option_and_then (λ (group : OpenGroup). while_left (one_less group)) (get nat_cmp old number) else get nat_cmp old other)
      ≡ open_of groups (ran ++ ticket ∷ []) other
  either true same = of_it ∙ ap (open_of groups (ran ++ ticket ∷ [])) (sym (eqb-true other number same))
  either false apart = of_other (λ same. absurd (eqb-false other number apart (sym same)))

-- a command is complete
pub completed_stands : (old new : Admitted) (groups : List Group) (ran : List ℕ) (ticket number : ℕ) → IsAdmitted old groups ran
    → queue.outstanding_group groups (is_one_of ran) ticket ≡ Some number
    → queue.StandsForGroups new.queue groups (queue.done_with groups (is_one_of ran) ticket)
    → new.given ≡ old.given
    → CountsDown old.unfinished number new.unfinished → IsAdmitted new groups (ran ++ ticket ∷ [])
completed_stands old new groups ran ticket number is known stands given down =
    let entry : IsOpen groups ran ticket number = is_open groups ran ticket number known in
    let done : queue.done_with groups (is_one_of ran) ticket ≡ is_one_of (ran ++ ticket ∷ []) =
    cond-true (nat_lt ticket (queue.command_count groups)) (λ place. is_one_of ran place || (ticket == place)) (is_one_of ran)
    (lt-ltb ticket (queue.command_count groups) entry.within)
    ∙ fun_ext (λ place. sym (one_more ran ticket place)) in
    record {
      queue = subst (queue.StandsForGroups new.queue groups) done stands;
      given = given ∙ is.given;
      table = table_down old.unfinished new.unfinished groups ran ticket number is.table entry down;
    }

-- a group that isn't there has no entry
none_yet : (groups : List Group) (ran : List ℕ) (number : ℕ) → length groups ≤ number → open_of groups ran number ≡ None
none_yet groups ran number past = ap (option_and_then (λ (group : Group). open_with group (left_in_group groups number ran)))
    (slice_get_past groups number past)

-- the entry of a group that comes
next_entry : (next : Group) (left : ℕ) (before : Option OpenGroup) → before ≡ None
    → (if true && nat_lt 0 left then Some (entry_of next left) else before) ≡ open_with next left
next_entry next zero before is = is
next_entry next (suc left) before is = cond-true (nat_lt 0 (suc left)) (Some (entry_of next (suc left))) before (lt-ltb 0 (suc left) (omega arith))

table_up : (old new : BTreeMap ℕ OpenGroup) (groups : List Group) (ran : List ℕ) (next : Group) (left : ℕ)
    → ((n : ℕ) → get nat_cmp old n ≡ open_of groups ran n)
    → ((place : ℕ) → queue.command_count groups ≤ place → is_one_of ran place ≡ false) → left ≡ length next.commands
    → Opens old (length groups) (entry_of next left) new → (other : ℕ) → get nat_cmp new other ≡ open_of (groups ++ next ∷ []) ran other
table_up old new groups ran next left table later many opens other = opens other ∙ either (cases_eq other (length groups)) where
  longer : List Group
  longer = groups ++ next ∷ []

  of_next : (if true && nat_lt 0 left then Some (entry_of next left) else get nat_cmp old (length groups)) ≡ open_of longer ran (length groups)
  of_next =
      next_entry next left (get nat_cmp old (length groups)) (table (length groups) ∙ none_yet groups ran (length groups) (omega arith))
      ∙ ap (open_with next) (many ∙ sym (left_of_next groups next ran later))
      ∙ sym
      (ap (λ (o : Option Group). option_and_then (λ (group : Group). open_with group (left_in_group longer (length groups) ran)) o) (get_last groups next))

  of_front : other < length groups → get nat_cmp old other ≡ open_of longer ran other
  of_front within =
      table other
      ∙ ap₂ (λ (n : ℕ) (o : Option Group). option_and_then (λ (group : Group). open_with group n) o) (sym (left_before groups next other ran within))
      (sym (get_front groups (next ∷ []) other within))

  of_none : length groups < other → get nat_cmp old other ≡ open_of longer ran other
  of_none past =
      table other ∙ none_yet groups ran other (omega (arith, past))
      ∙ sym (none_yet longer ran other (omega (arith, past, length-append groups (next ∷ []))))

  either : (other ≡ length groups) ⊎ (other ≢ length groups)
      → (if (other == length groups) && nat_lt 0 left then Some (entry_of next left) else get nat_cmp old other) ≡ open_of longer ran other
  either (inl same) =
      subst (λ (n : ℕ). (if (n == length groups) && nat_lt 0 left then Some (entry_of next left) else get nat_cmp old n) ≡ open_of longer ran n) (sym same)
      (ap (λ (b : Bool). if b && nat_lt 0 left then Some (entry_of next left) else get nat_cmp old (length groups))
      (eq-eqb (length groups) (length groups) refl) ∙ of_next)
  either (inr apart) =
      ap (λ (b : Bool). if b && nat_lt 0 left then Some (entry_of next left) else get nat_cmp old other) (ne_eqb other (length groups) apart)
      ∙ (elim (cases_lt other (length groups)) [
        | inl within ↦ of_front within
        | inr past ↦ of_none (omega (arith, past, apart))
      ])

-- a group came
pub admitted_ok : {T E : Type 0} (r : Result T E) (old between new : Admitted) (groups : List Group) (ran : List ℕ) (head : GroupHead) (told : Bool)
    (commands : List Command)
    (left : ℕ) (next : Group) → IsAdmitted old groups ran → IsGroupOf head told commands next → left ≡ length commands
    → Opens old.unfinished old.given (record { head = head; told = told; left = left }) between.unfinished
    → between.given ≡ old.given → OnOk r (queue.StandsForGroups new.queue (groups ++ next ∷ []) (is_one_of ran)) → OnOk r (new.given ≡ between.given + 1)
    → OnOk r (new.unfinished ≡ between.unfinished) → OnOk r (IsAdmitted new (groups ++ next ∷ []) ran)
admitted_ok (Err e) old between new groups ran head told commands left next is group many opens same stands given table = tt
admitted_ok (Ok x) old between new groups ran head told commands left next is group many opens same stands given table =
    let opened : Opens old.unfinished (length groups) (entry_of next left) between.unfinished =
    subst (λ (n : ℕ). Opens old.unfinished n (entry_of next left) between.unfinished) is.given
    (subst (λ (g : OpenGroup). Opens old.unfinished old.given g between.unfinished)
    (ap₂ (λ (h : GroupHead) (t : Bool). record { head = h; told = t; left = left }) group.head group.told) opens) in
    record {
      queue = stands;
      given = omega (arith, given, same, is.given, length-append groups (next ∷ []));
      table = subst (λ (map : BTreeMap ℕ OpenGroup). (other : ℕ) → get nat_cmp map other ≡ open_of (groups ++ next ∷ []) ran other) (sym table)
          (table_up old.unfinished between.unfinished groups ran next left is.table is.queue.later (many ∙ sym (ap length group.commands)) opened);
    }

-- no group came
table_back : (old between new : BTreeMap ℕ OpenGroup) (groups : List Group) (ran : List ℕ) (group : OpenGroup)
    → ((n : ℕ) → get nat_cmp old n ≡ open_of groups ran n)
    → Opens old (length groups) group between → Closes between (length groups) new → (other : ℕ) → get nat_cmp new other ≡ open_of groups ran other
table_back old between new groups ran group table opens closes other = closes other ∙ either (cases_eq other (length groups)) where
  either : (other ≡ length groups) ⊎ (other ≢ length groups) → (if other == length groups then None else get nat_cmp between other) ≡ open_of groups ran other
  either (inl same) =
      cond-true (other == length groups) None (get nat_cmp between other) (eq-eqb other (length groups) same)
      ∙ sym (none_yet groups ran other (omega (arith, same)))
  either (inr apart) =
      cond-false (other == length groups) None (get nat_cmp between other) (ne_eqb other (length groups) apart) ∙ opens other
      ∙ ap (λ (b : Bool). if b && nat_lt 0 group.left then Some group else get nat_cmp old other) (ne_eqb other (length groups) apart) ∙ table other

pub admitted_err : {T E : Type 0} (r : Result T E) (old between new : Admitted) (groups : List Group) (ran : List ℕ) (group : OpenGroup)
    → IsAdmitted old groups ran
    → Opens old.unfinished old.given group between.unfinished → between.given ≡ old.given → OnErr r (queue.StandsForGroups new.queue groups (is_one_of ran))
    → OnErr r (new.given ≡ between.given) → OnErr r (Closes between.unfinished between.given new.unfinished) → OnErr r (IsAdmitted new groups ran)
admitted_err (Ok x) old between new groups ran group is opens same stands given closes = tt
admitted_err (Err e) old between new groups ran group is opens same stands given closes = record {
  queue = stands;
  given = given ∙ same ∙ is.given;
  table = table_back old.unfinished between.unfinished new.unfinished groups ran group is.table
      (subst (λ (n : ℕ). Opens old.unfinished n group between.unfinished) is.given opens)
      (subst (λ (n : ℕ). Closes between.unfinished n new.unfinished) (same ∙ is.given) closes);
}
