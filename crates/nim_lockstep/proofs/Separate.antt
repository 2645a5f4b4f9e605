-- Groups that came from instances stay separate when more groups come behind them.
use Rattle.std.proofs.Common.{◌≡◌, ◌⊎◌, ℕ, zero, suc, ◌+◌, ◌-◌, ◌<◌, ◌≤◌, true, false, List, [], ◌∷◌, ◌++◌, length, ap, sym, ◌∙◌, inl, inr, Some, arith}
use Rattle.std.specs.Prelude.{slice_get}
use Rattle.std.specs.List.{AllByRecursion}
use Rattle.std.proofs.lemmas.Bool.{both_ways, cases_lt}
use Rattle.std.proofs.lemmas.Option.{none-some, same_Some}
use Rattle.nim_command.specs.Waits.{Group}
use Rattle.nim_base.proofs.Lists.{get_behind, get_front}
use Rattle.nim_lockstep.proofs.Groups.{each_at}
use Rattle.nim_lockstep.proofs.UnderWay.{AreSeparate, is_from_instance}

-- a group didn't come from an instance
abbrev pub IsOther : Group → Type 0
IsOther group = is_from_instance group.source ≡ false

pub none_separate : (instance : ℕ) → AreSeparate instance []
none_separate instance = record {
  before = λ number group there whole. absurd (none-some group there);
  apart = λ one other first second there at whole too same. absurd (none-some first there);
}

pub separate_later : (instance later : ℕ) (groups : List Group) → instance ≤ later → AreSeparate instance groups → AreSeparate later groups
separate_later instance later groups least are = record {
  before = λ number group there whole. omega (arith, least, are.before number group there whole);
  apart = are.apart;
}

-- a group of a longer list is an old one or a new one
old_group : (groups news : List Group) (number : ℕ) (group : Group) → slice_get (groups ++ news) number ≡ Some group
    → (slice_get groups number ≡ Some group) ⊎ ((k : ℕ) × ((number ≡ length groups + k) × (slice_get news k ≡ Some group)))
old_group groups news number group there = elim (cases_lt number (length groups)) [
  | inl within ↦ inl (sym (get_front groups news number within) ∙ there)
  | inr past ↦
      let k : ℕ = number - length groups in
      let is : number ≡ length groups + k = omega (arith, past) in
      inr (k, (is, sym (get_behind groups news k) ∙ ap (slice_get (groups ++ news)) (sym is) ∙ there))
]

-- a group that came from an instance is an old one where no new one did
whole_old : (groups news : List Group) (number : ℕ) (group : Group) → AllByRecursion IsOther news → slice_get (groups ++ news) number ≡ Some group
    → is_from_instance group.source ≡ true → slice_get groups number ≡ Some group
whole_old groups news number group others there whole = elim (old_group groups news number group there) [
  | inl old ↦ old
  | inr new ↦ absurd (both_ways (is_from_instance group.source) (each_at IsOther news new.0 group others new.1.1) whole)
]

pub others_separate : (instance : ℕ) (groups news : List Group) → AllByRecursion IsOther news → AreSeparate instance groups
    → AreSeparate instance (groups ++ news)
others_separate instance groups news others are = record {
  before = λ number group there whole. are.before number group (whole_old groups news number group others there whole) whole;
  apart = λ one other first second there at whole too same.
      are.apart one other first second (whole_old groups news one first others there whole) (whole_old groups news other second others at too) whole too
      same;
}

-- one more group of the next instance
pub next_separate : (instance : ℕ) (groups : List Group) (group : Group) → group.instance ≡ instance → AreSeparate instance groups
    → AreSeparate (instance + 1) (groups ++ group ∷ [])
next_separate instance groups group next are = record { before = before; apart = apart } where
  -- it is an old one, or the new one at the end
  which : (number : ℕ) (other : Group) → slice_get (groups ++ group ∷ []) number ≡ Some other
      → (slice_get groups number ≡ Some other) ⊎ ((number ≡ length groups) × (other ≡ group))
  which number other there = elim (old_group groups (group ∷ []) number other there) [
    | inl old ↦ inl old
    | inr new ↦ inr (last new.0 new.1.0 new.1.1)
  ] where
    last : (k : ℕ) → number ≡ length groups + k → slice_get (group ∷ []) k ≡ Some other → (number ≡ length groups) × (other ≡ group)
    last zero is at = (omega (arith, is), sym (same_Some group other at))
    last (suc k) is at = absurd (none-some other at)

  before : (number : ℕ) (other : Group) → slice_get (groups ++ group ∷ []) number ≡ Some other → is_from_instance other.source ≡ true
      → other.instance < instance + 1
  before number other there whole = elim (which number other there) [
    | inl old ↦ omega (arith, are.before number other old whole)
    | inr new ↦ omega (arith, ap (λ (g : Group). g.instance) new.1, next)
  ]

  -- an old one is of an earlier instance
  earlier : (number : ℕ) (old new : Group) → slice_get groups number ≡ Some old → is_from_instance old.source ≡ true → new ≡ group
      → old.instance ≡ new.instance → ⊥
  earlier number old new there whole is same =
      let past = are.before number old there whole in
      let own : new.instance ≡ group.instance = ap (λ (g : Group). g.instance) is in
      absurd (omega (arith, past, own, same, next))

  apart : (one other : ℕ) (first second : Group) → slice_get (groups ++ group ∷ []) one ≡ Some first
      → slice_get (groups ++ group ∷ []) other ≡ Some second → is_from_instance first.source ≡ true → is_from_instance second.source ≡ true
      → first.instance ≡ second.instance → one ≡ other
  apart one other first second there at whole too same = either (which one first there) (which other second at) where
    either : (slice_get groups one ≡ Some first) ⊎ ((one ≡ length groups) × (first ≡ group))
        → (slice_get groups other ≡ Some second) ⊎ ((other ≡ length groups) × (second ≡ group))
        → one ≡ other
    either (inl a) (inl b) = are.apart one other first second a b whole too same
    either (inl a) (inr b) = absurd (earlier one first second a whole b.1 same)
    either (inr a) (inl b) = absurd (earlier other second first b too a.1 (sym same))
    either (inr a) (inr b) = a.0 ∙ sym b.0
