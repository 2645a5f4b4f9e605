-- How many commands of a group are left, when a group comes behind and when a command is complete.
use Rattle.std.proofs.Common.{◌≡◌, ◌≢◌, ℕ, suc, zero, ◌+◌, ◌-◌, ◌<◌, ◌≤◌, Bool, true, false, List, [], ◌∷◌, ◌++◌, length, map, refl, ap, ap₂, sym, subst, ◌∙◌, arith, Option, None, Some, inl, inr}
use Rattle.std.specs.Prelude.{◌==◌, ◌||◌, ◌&&◌, ◌⊎◌, not, if◌then◌else◌, slice_get}
use Rattle.std.specs.List.{filter, range_with_len}
use Rattle.std.specs.Option.{option_map_or}
use Rattle.std.proofs.lemmas.Bool.{cases_eq, cond-true, cond-false, eq-eqb, ne_eqb}
use Rattle.std.proofs.lemmas.List.{append-nil, length-append, length-map}
use Rattle.std.proofs.lemmas.List.Elements.{filter-append}
use Rattle.std.proofs.lemmas.Option.{none-some, same_Some, slice_get_within}
use Rattle.nim_command.specs.declared.command.Command.{Command}
use Rattle.nim_command.specs.Waits.{Group, Member, members_from, members_of}
use Rattle.nim_order.specs.Progress.{is_one_of}
use Rattle.nim_order.proofs.Items.{filter_range}
use Rattle.nim_order.proofs.Longer.{members_append}
use Rattle.nim_order.proofs.Orders.{one_more}
use Rattle.nim_history.specs.History.{asked_at, is_of_group, left_in_group}
use Rattle.nim_base.proofs.Lists.{get_behind, get_front, range_append}

-- a group that a member is of
record IsIn (number : ℕ) (groups : List Group) (m : Member) : Type 0 where
  behind : ℕ
  group : Group
  is : m.group ≡ number + behind
  there : slice_get groups behind ≡ Some group

-- a member of the first group, or of a later one
first_or_later : (number : ℕ) (commands : List Command) (rest : List Member) (place : ℕ) (m : Member)
    → slice_get (map (λ command. record { group = number; command = command }) commands ++ rest) place ≡ Some m
    → (m.group ≡ number) ⊎ ((later : ℕ) × (slice_get rest later ≡ Some m))
first_or_later number [] rest place m there = inr (place, there)
first_or_later number (command ∷ commands) rest zero m there =
    inl (sym (ap (λ (x : Member). x.group) (same_Some (record { group = number; command = command }) m there)))
first_or_later number (command ∷ commands) rest (suc place) m there = first_or_later number commands rest place m there

is_in : (number : ℕ) (groups : List Group) (place : ℕ) (m : Member) → slice_get (members_from number groups) place ≡ Some m → IsIn number groups m
is_in number [] place m there = absurd (none-some m there)
is_in number (group ∷ groups) place m there =
    elim (first_or_later number group.commands (members_from (number + 1) groups) place m there) [
      | inl same ↦ record { behind = 0; group = group; is = omega (arith, same); there = refl }
      | inr later ↦
          let rest : IsIn (number + 1) groups m = is_in (number + 1) groups later.0 m later.1 in
          record { behind = suc rest.behind; group = rest.group; is = omega (arith, rest.is); there = rest.there }
    ]

-- the group of a member is there
pub group_of : (groups : List Group) (place : ℕ) (m : Member) → slice_get (members_of groups) place ≡ Some m
    → (group : Group) × (slice_get groups m.group ≡ Some group)
group_of groups place m there =
    let found : IsIn 0 groups m = is_in 0 groups place m there in
    let same : found.behind ≡ m.group = omega (arith, found.is) in
    (found.group, subst (λ (n : ℕ). slice_get groups n ≡ Some found.group) same found.there)

-- which command stands at a place, with its group
pub asked_is : (groups : List Group) (place : ℕ) (m : Member) → slice_get (members_of groups) place ≡ Some m
    → (group : Group) × (slice_get groups m.group ≡ Some group)
    × (asked_at groups place ≡ Some (record { number = m.group; group = group; command = m.command }))
asked_is groups place m there =
    let found : (group : Group) × (slice_get groups m.group ≡ Some group) = group_of groups place m there in
    (found.0, found.1, rw (there, found.1) refl)

pub asked_none : (groups : List Group) (place : ℕ) → slice_get (members_of groups) place ≡ None → asked_at groups place ≡ None
asked_none groups place none = rw none refl

none_pass : (p : ℕ → Bool) (a n : ℕ) → ((k : ℕ) → a ≤ k → k < a + n → p k ≡ false) → length (filter p (range_with_len a n)) ≡ 0
none_pass p a zero none = refl
none_pass p a (suc n) none =
    ap length (cond-false (p a) (a ∷ filter p (range_with_len (a + 1) n)) (filter p (range_with_len (a + 1) n)) (none a (omega arith) (omega arith)))
    ∙ none_pass p (a + 1) n (λ k from to. none k (omega arith) (omega arith))

all_pass : (p : ℕ → Bool) (a n : ℕ) → ((k : ℕ) → a ≤ k → k < a + n → p k ≡ true) → length (filter p (range_with_len a n)) ≡ n
all_pass p a zero all = refl
all_pass p a (suc n) all =
    ap length (cond-true (p a) (a ∷ filter p (range_with_len (a + 1) n)) (filter p (range_with_len (a + 1) n)) (all a (omega arith) (omega arith)))
    ∙ ap suc (all_pass p (a + 1) n (λ k from to. all k (omega arith) (omega arith)))

-- one passes one test alone, and the others pass both or none
same_head : (b c : Bool) (a : ℕ) (xs ys : List ℕ) → b ≡ c → length xs ≡ length ys + 1
    → length (if b then a ∷ xs else xs) ≡ length (if c then a ∷ ys else ys) + 1
same_head true true a xs ys same one = omega (arith, one)
same_head true false a xs ys same one = absurd cc
same_head false true a xs ys same one = absurd cc
same_head false false a xs ys same one = one

one_head : (b c : Bool) (a : ℕ) (xs ys : List ℕ) → b ≡ true → c ≡ false → xs ≡ ys → length (if b then a ∷ xs else xs) ≡ length (if c then a ∷ ys else ys) + 1
one_head true true a xs ys first second same = absurd cc
one_head true false a xs ys first second same = ap (λ (zs : List ℕ). suc (length zs)) same ∙ (let next : suc (length ys) ≡ length ys + 1 = omega arith in next)
one_head false c a xs ys first second same = absurd cc

one_passes : (p q : ℕ → Bool) (a n place : ℕ) → a ≤ place → place < a + n → p place ≡ true → q place ≡ false → ((k : ℕ) → k ≢ place → p k ≡ q k)
    → length (filter p (range_with_len a n)) ≡ length (filter q (range_with_len a n)) + 1
one_passes p q a zero place from to first second others = absurd (omega (arith, from, to))
one_passes p q a (suc n) place from to first second others =
    elim (cases_eq a place) [
      | inl same ↦
          one_head (p a) (q a) a (filter p (range_with_len (a + 1) n)) (filter q (range_with_len (a + 1) n)) (ap p same ∙ first) (ap q same ∙ second)
          (filter_range p q (a + 1) n (λ k low high. others k (λ is. omega (arith, low, is, same))))
      | inr other ↦
          same_head (p a) (q a) a (filter p (range_with_len (a + 1) n)) (filter q (range_with_len (a + 1) n)) (others a other)
          (one_passes p q (a + 1) n place (omega (arith, from, other)) (omega (arith, to)) first second others)
    ]

-- whether a command of a group is left
abbrev is_left : List Group → ℕ → List ℕ → ℕ → Bool
is_left groups number ran place = is_of_group groups number place && not (is_one_of ran place)

-- the commands of the groups before, and of the group that came behind them
of_front : (groups more : List Group) (number place : ℕ) → place < length (members_of groups)
    → is_of_group (groups ++ more) number place ≡ is_of_group groups number place
of_front groups more number place within =
    ap (λ (ms : List Member). option_map_or (λ (m : Member). m.group == number) (slice_get ms place) false) (members_append 0 groups more)
    ∙ ap (λ (o : Option Member). option_map_or (λ (m : Member). m.group == number) o false)
    (get_front (members_of groups) (members_from (0 + length groups) more) place within)

of_first : (number : ℕ) (commands : List Command) (asked k : ℕ) → k < length commands
    → option_map_or (λ (m : Member). m.group == asked) (slice_get (map (λ command. record { group = number; command = command }) commands ++ []) k) false
    ≡ (number == asked)
of_first number [] asked k within = absurd (omega (arith, within))
of_first number (command ∷ commands) asked zero within = refl
of_first number (command ∷ commands) asked (suc k) within = of_first number commands asked k (omega (arith, within))

of_last : (groups : List Group) (next : Group) (number k : ℕ) → k < length next.commands
    → is_of_group (groups ++ next ∷ []) number (length (members_of groups) + k) ≡ (length groups == number)
of_last groups next number k within =
    let same : 0 + length groups ≡ length groups = omega arith in
    ap (λ (ms : List Member). option_map_or (λ (m : Member). m.group == number) (slice_get ms (length (members_of groups) + k)) false)
    (members_append 0 groups (next ∷ []) ∙ ap (λ (n : ℕ). members_of groups ++ members_from n (next ∷ [])) same)
    ∙ ap (λ (o : Option Member). option_map_or (λ (m : Member). m.group == number) o false)
    (get_behind (members_of groups) (members_from (length groups) (next ∷ [])) k)
    ∙ of_first (length groups) next.commands number k within

-- no command is of a group that isn't there yet
of_none : (groups : List Group) (place : ℕ) → is_of_group groups (length groups) place ≡ false
of_none groups place = either (slice_get (members_of groups) place) refl where
  either : (o : Option Member) → slice_get (members_of groups) place ≡ o → option_map_or (λ (m : Member). m.group == length groups) o false ≡ false
  either None there = refl
  either (Some m) there =
      let found : (group : Group) × (slice_get groups m.group ≡ Some group) = group_of groups place m there in
      ne_eqb m.group (length groups) (λ same. absurd (omega (arith, same, slice_get_within groups m.group found.0 found.1)))

length_more : (groups : List Group) (next : Group) → length (members_of (groups ++ next ∷ [])) ≡ length (members_of groups) + length next.commands
length_more groups next =
    ap length (members_append 0 groups (next ∷ [])) ∙ length-append (members_of groups) (members_from (0 + length groups) (next ∷ []))
    ∙ ap (λ (n : ℕ). length (members_of groups) + n)
    (ap length (append-nil (map (λ command. record { group = 0 + length groups; command = command }) next.commands)) ∙ length-map next.commands _)

-- those that are left of the groups before, and of the one behind
left_parts : (groups : List Group) (next : Group) (number : ℕ) (ran : List ℕ)
    → left_in_group (groups ++ next ∷ []) number ran
    ≡ left_in_group groups number ran
    + length (filter (is_left (groups ++ next ∷ []) number ran) (range_with_len (0 + length (members_of groups)) (length next.commands)))
left_parts groups next number ran =
    let all : ℕ → Bool = is_left (groups ++ next ∷ []) number ran in
    let many : ℕ = length (members_of groups) in
    ap (λ (n : ℕ). length (filter all (range_with_len 0 n))) (length_more groups next)
    ∙ ap (λ (places : List ℕ). length (filter all places)) (range_append 0 many (length next.commands))
    ∙ ap length (filter-append all (range_with_len 0 many) (range_with_len (0 + many) (length next.commands)))
    ∙ length-append (filter all (range_with_len 0 many)) (filter all (range_with_len (0 + many) (length next.commands)))
    ∙ ap (λ (places : List ℕ). length places + length (filter all (range_with_len (0 + many) (length next.commands))))
    (filter_range all (is_left groups number ran) 0 many
    (λ k from to. ap (λ (b : Bool). b && not (is_one_of ran k)) (of_front groups (next ∷ []) number k (omega (arith, to)))))

last_there : (groups : List Group) (next : Group) (number k : ℕ) → 0 + length (members_of groups) ≤ k
    → k < 0 + length (members_of groups) + length next.commands → is_of_group (groups ++ next ∷ []) number k ≡ (length groups == number)
last_there groups next number k from to =
    let behind : length (members_of groups) + (k - length (members_of groups)) ≡ k = omega (arith, from) in
    ap (is_of_group (groups ++ next ∷ []) number) (sym behind) ∙ of_last groups next number (k - length (members_of groups)) (omega (arith, from, to))

-- of an earlier group as many are left
pub left_before : (groups : List Group) (next : Group) (number : ℕ) (ran : List ℕ) → number < length groups
    → left_in_group (groups ++ next ∷ []) number ran ≡ left_in_group groups number ran
left_before groups next number ran within =
    let none : length (filter (is_left (groups ++ next ∷ []) number ran) (range_with_len (0 + length (members_of groups)) (length next.commands))) ≡ 0 =
    none_pass (is_left (groups ++ next ∷ []) number ran) (0 + length (members_of groups)) (length next.commands)
    (λ k from to. ap (λ (b : Bool). b && not (is_one_of ran k))
    (last_there groups next number k from to ∙ ne_eqb (length groups) number (λ same. absurd (omega (arith, same, within))))) in
    left_parts groups next number ran ∙ (let sum : left_in_group groups number ran + _ ≡ left_in_group groups number ran = omega (arith, none) in sum)

-- of the group that comes behind all are
pub left_of_next : (groups : List Group) (next : Group) (ran : List ℕ) → ((place : ℕ) → length (members_of groups) ≤ place → is_one_of ran place ≡ false)
    → left_in_group (groups ++ next ∷ []) (length groups) ran ≡ length next.commands
left_of_next groups next ran within =
    let number : ℕ = length groups in
    let none : left_in_group groups number ran ≡ 0 =
    none_pass (is_left groups number ran) 0 (length (members_of groups)) (λ k from to. ap (λ (b : Bool). b && not (is_one_of ran k)) (of_none groups k)) in
    let all : length (filter (is_left (groups ++ next ∷ []) number ran) (range_with_len (0 + length (members_of groups)) (length next.commands)))
    ≡ length next.commands =
    all_pass (is_left (groups ++ next ∷ []) number ran) (0 + length (members_of groups)) (length next.commands)
    (λ k from to. ap₂ (λ (b c : Bool). b && not c) (last_there groups next number k from to ∙ eq-eqb number number refl) (within k (omega (arith, from)))) in
    left_parts groups next number ran ∙ ap₂ (λ (m n : ℕ). m + n) none all ∙ (let sum : 0 + length next.commands ≡ length next.commands = omega arith in sum)

-- whether a command is left once one more is complete
not_gained : (ran : List ℕ) (place k : ℕ) → k ≢ place → is_one_of (ran ++ place ∷ []) k ≡ is_one_of ran k
not_gained ran place k other =
    one_more ran place k ∙ ap (λ (b : Bool). is_one_of ran k || b) (ne_eqb place k (λ same. other (sym same))) ∙ or_same (is_one_of ran k) where
      or_same : (b : Bool) → (b || false) ≡ b
      or_same true = refl
      or_same false = refl

gained : (ran : List ℕ) (place : ℕ) → is_one_of (ran ++ place ∷ []) place ≡ true
gained ran place = one_more ran place place ∙ or_true (is_one_of ran place) (place == place) (eq-eqb place place refl) where
  or_true : (b c : Bool) → c ≡ true → (b || c) ≡ true
  or_true true c is = refl
  or_true false c is = is

-- of its group one less is left
pub left_less : (groups : List Group) (number : ℕ) (ran : List ℕ) (place : ℕ) → place < length (members_of groups) → is_one_of ran place ≡ false
    → is_of_group groups number place ≡ true → left_in_group groups number ran ≡ left_in_group groups number (ran ++ place ∷ []) + 1
left_less groups number ran place within waiting of =
    one_passes (is_left groups number ran) (is_left groups number (ran ++ place ∷ [])) 0 (length (members_of groups)) place (omega arith)
    (omega (arith, within))
    (ap₂ (λ (b c : Bool). b && not c) of waiting) (ap₂ (λ (b c : Bool). b && not c) of (gained ran place))
    (λ k other. ap (λ (b : Bool). is_of_group groups number k && not b) (sym (not_gained ran place k other)))

-- of other groups as many are
pub left_same : (groups : List Group) (number : ℕ) (ran : List ℕ) (place : ℕ) → is_of_group groups number place ≡ false
    → left_in_group groups number (ran ++ place ∷ []) ≡ left_in_group groups number ran
left_same groups number ran place not_of =
    ap length
    (filter_range (is_left groups number (ran ++ place ∷ [])) (is_left groups number ran) 0 (length (members_of groups)) (λ k from to. either k)) where
      either : (k : ℕ) → is_left groups number (ran ++ place ∷ []) k ≡ is_left groups number ran k
      either k = elim (cases_eq k place) [
        | inl same ↦
            let none : is_of_group groups number k ≡ false = ap (is_of_group groups number) same ∙ not_of in
            ap (λ (b : Bool). b && not (is_one_of (ran ++ place ∷ []) k)) none ∙ sym (ap (λ (b : Bool). b && not (is_one_of ran k)) none)
        | inr other ↦ ap (λ (b : Bool). is_of_group groups number k && not b) (not_gained ran place k other)
      ]
