-- Works that are out at once: one more at the end, the first completed, each performed, and what they have read.
use Rattle.std.proofs.Common.{◌≡◌, Bool, true, false, List, [], ◌∷◌, ◌++◌, refl, ap, sym, subst, ◌∙◌, Option}
use Rattle.std.proofs.Math.Path.{fun_ext}
use Rattle.std.proofs.lemmas.Bool.{both_ways, or_from, or_left, or_parts, or_right}
use Rattle.nim_base.specs.declared.number.Shape.{Shape}
use Rattle.nim_base.specs.declared.number.Slot.{Slot}
use Rattle.nim_base.specs.Value.{Grid}
use Rattle.nim_command.specs.Slots.{does_touch, is_among}
use Rattle.nim_store.specs.declared.held.Held.{Held}
use Rattle.nim_history.specs.Kept.{kept_by}
use Rattle.nim_worker.specs.declared.batch.Work.{Work}
use Rattle.nim_worker.specs.Chains.{AreWorks, HaveRead, IsApart, KeepWorks, do_touch}
use Rattle.nim_worker.specs.Works.{Begun, IsWork, reads_taken}
use Rattle.nim_worker.proofs.Beside.{Agree, beside, beside_inside, beside_outside, contents_same, leaves_alone, touch_taken, values_same, work_moved}
use Rattle.nim_worker.proofs.KeptBeside.{kept_inside, kept_outside}

-- a slot that none of the commands touches has what it had
chain_leaves : (shapes : List Shape) (before now : Slot → Option Held) (begun : List Begun) (works : List Work) (s : Slot)
    → AreWorks shapes before now begun works → do_touch begun s ≡ false
    → before s ≡ now s
chain_leaves shapes before now [] [] s are not = ap (λ (f : Slot → Option Held). f s) are
chain_leaves shapes before now [] (w ∷ ws) s are not = absurd are
chain_leaves shapes before now (b ∷ bs) [] s are not = absurd are
chain_leaves shapes before now (b ∷ bs) (w ∷ ws) s are not =
    let parts = or_parts (does_touch b.kind s) (do_touch bs s) not in
    leaves_alone shapes before are.0 b w s are.1.0 parts.0 ∙ chain_leaves shapes are.0 now bs ws s are.1.1.1 parts.1

-- what later commands touch, an earlier one doesn't
not_first : (b : Begun) (bs : List Begun) (s : Slot) → IsApart b.kind bs → do_touch bs s ≡ true → does_touch b.kind s ≡ false
not_first b bs s apart touched = either (does_touch b.kind s) refl where
  either : (t : Bool) → does_touch b.kind s ≡ t → t ≡ false
  either true is = absurd (both_ways (do_touch bs s) (apart s is) touched)
  either false is = refl

-- The works are out among other slots as well, where those that their commands touch are the same and the others were left
-- alone.
chain_moved : (shapes : List Shape) (before now before' now' : Slot → Option Held) (begun : List Begun) (works : List Work)
    → AreWorks shapes before now begun works
    → ((s : Slot) → do_touch begun s ≡ true → before s ≡ before' s) → ((s : Slot) → do_touch begun s ≡ true → now s ≡ now' s)
    → ((s : Slot) → do_touch begun s ≡ false → before' s ≡ now' s) → AreWorks shapes before' now' begun works
chain_moved shapes before now before' now' [] [] are same_before same_now others = fun_ext (λ (s : Slot). others s refl)
chain_moved shapes before now before' now' [] (w ∷ ws) are same_before same_now others = absurd are
chain_moved shapes before now before' now' (b ∷ bs) [] are same_before same_now others = absurd are
chain_moved shapes before now before' now' (b ∷ bs) (w ∷ ws) are same_before same_now others = (
  beside b.kind are.0 before',
  (
    work_moved shapes before are.0 before' (beside b.kind are.0 before') b w are.1.0
        (λ s touched. same_before s (or_left (does_touch b.kind s) (do_touch bs s) touched))
        (λ s touched. sym (beside_inside b.kind are.0 before' s touched)) (λ s not. beside_outside b.kind are.0 before' s not),
    (
      are.1.1.0,
      chain_moved shapes are.0 now (beside b.kind are.0 before') now' bs ws are.1.1.1 first
          (λ s touched. same_now s (or_right (does_touch b.kind s) (do_touch bs s) touched)) (λ s not. last s not (does_touch b.kind s) refl),
    ),
  ),
) where
  first : (s : Slot) → do_touch bs s ≡ true → are.0 s ≡ beside b.kind are.0 before' s
  first s touched =
      let not = not_first b bs s are.1.1.0 touched in
      sym (leaves_alone shapes before are.0 b w s are.1.0 not)
      ∙ same_before s (or_right (does_touch b.kind s) (do_touch bs s) touched)
      ∙ sym (beside_outside b.kind are.0 before' s not)

  last : (s : Slot) → do_touch bs s ≡ false → (t : Bool) → does_touch b.kind s ≡ t → beside b.kind are.0 before' s ≡ now' s
  last s not true is =
      beside_inside b.kind are.0 before' s is
      ∙ chain_leaves shapes are.0 now bs ws s are.1.1.1 not
      ∙ same_now s (or_left (does_touch b.kind s) (do_touch bs s) is)
  last s not false is = beside_outside b.kind are.0 before' s is ∙ others s (or_from (does_touch b.kind s) (do_touch bs s) is not)

-- a command that is apart from all is apart from each, the other way round too
apart_more : (b c : Begun) (bs : List Begun) → IsApart b.kind bs → IsApart c.kind (b ∷ bs) → IsApart b.kind (bs ++ c ∷ [])
apart_more b c bs apart last s touched = rest bs (apart s touched) where
  not_last : does_touch c.kind s ≡ false
  not_last = either (does_touch c.kind s) refl where
    either : (t : Bool) → does_touch c.kind s ≡ t → t ≡ false
    either true is = absurd (both_ways (do_touch (b ∷ bs) s) (last s is) (or_left (does_touch b.kind s) (do_touch bs s) touched))
    either false is = refl

  rest : (others : List Begun) → do_touch others s ≡ false → do_touch (others ++ c ∷ []) s ≡ false
  rest [] not = or_from (does_touch c.kind s) false not_last refl
  rest (o ∷ others) not =
      let parts = or_parts (does_touch o.kind s) (do_touch others s) not in
      or_from (does_touch o.kind s) (do_touch (others ++ c ∷ []) s) parts.0 (rest others parts.1)

-- one more work is out, whose command touches nothing that the others touch
pub more_works : (shapes : List Shape) (before between now : Slot → Option Held) (begun : List Begun) (works : List Work) (last : Begun) (work : Work)
    → AreWorks shapes before between begun works
    → IsApart last.kind begun → IsWork shapes between now last work → AreWorks shapes before now (begun ++ last ∷ []) (works ++ work ∷ [])
more_works shapes before between now [] [] last work are apart is =
    (now, (subst (λ (f : Slot → Option Held). IsWork shapes f now last work) (sym are) is, ((λ s touched. refl), refl)))
more_works shapes before between now [] (w ∷ ws) last work are apart is = absurd are
more_works shapes before between now (b ∷ bs) [] last work are apart is = absurd are
more_works shapes before between now (b ∷ bs) (w ∷ ws) last work are apart is = (
  are.0,
  (
    are.1.0,
    (
      apart_more b last bs are.1.1.0 apart,
      more_works shapes are.0 between now bs ws last work are.1.1.1 (λ s touched. (or_parts (does_touch b.kind s) (do_touch bs s) (apart s touched)).1) is,
    ),
  ),
)

-- The first of the works is one among the slots as they are now, and once it is completed there the others are out.
pub record IsFirst (shapes : List Shape) (frame : Option Grid) (before now : Slot → Option Held) (b : Begun) (bs : List Begun) (w : Work) (ws : List Work) :
    Type 0 where
  pub is : IsWork shapes (beside b.kind before now) now b w
  pub rest : AreWorks shapes (kept_by shapes frame b.kind before) (kept_by shapes frame b.kind (beside b.kind before now)) bs ws
  pub same : Agree b.kind (beside b.kind before now) before

pub first_of : (shapes : List Shape) (frame : Option Grid) (before now : Slot → Option Held) (b : Begun) (bs : List Begun) (w : Work) (ws : List Work)
    → AreWorks shapes before now (b ∷ bs) (w ∷ ws)
    → IsFirst shapes frame before now b bs w ws
first_of shapes frame before now b bs w ws are = record {
  is = work_moved shapes before are.0 (beside b.kind before now) now b w are.1.0 (λ s touched. sym (same s touched))
      (λ s touched. chain_leaves shapes are.0 now bs ws s are.1.1.1 (are.1.1.0 s touched))
      (λ s not. sym (beside_outside b.kind before now s not));
  rest = chain_moved shapes are.0 now (kept_by shapes frame b.kind before) (kept_by shapes frame b.kind (beside b.kind before now)) bs ws are.1.1.1
      (λ s touched. outside_before s (not_first b bs s are.1.1.0 touched))
      (λ s touched. outside_now s (not_first b bs s are.1.1.0 touched))
      (λ s not. others s not (does_touch b.kind s) refl);
  same = same;
} where
  same : Agree b.kind (beside b.kind before now) before
  same s touched = beside_inside b.kind before now s touched

  outside_before : (s : Slot) → does_touch b.kind s ≡ false → are.0 s ≡ kept_by shapes frame b.kind before s
  outside_before s not = sym (leaves_alone shapes before are.0 b w s are.1.0 not) ∙ sym (kept_outside shapes frame b.kind before s not)

  outside_now : (s : Slot) → does_touch b.kind s ≡ false → now s ≡ kept_by shapes frame b.kind (beside b.kind before now) s
  outside_now s not = sym (beside_outside b.kind before now s not) ∙ sym (kept_outside shapes frame b.kind (beside b.kind before now) s not)

  others : (s : Slot) → do_touch bs s ≡ false → (t : Bool) → does_touch b.kind s ≡ t
      → kept_by shapes frame b.kind before s ≡ kept_by shapes frame b.kind (beside b.kind before now) s
  others s not true is = sym (kept_inside shapes frame b.kind (beside b.kind before now) before s same is)
  others s not false is = sym (outside_before s is) ∙ chain_leaves shapes are.0 now bs ws s are.1.1.1 not ∙ outside_now s is

-- works that were performed, any of them, are still out
pub works_kept : (shapes : List Shape) (before now : Slot → Option Held) (begun : List Begun) (olds news : List Work) → KeepWorks olds news
    → AreWorks shapes before now begun olds
    → AreWorks shapes before now begun news
works_kept shapes before now [] [] [] keep are = are
works_kept shapes before now (b ∷ bs) [] [] keep are = absurd are
works_kept shapes before now [] (old ∷ olds) (new ∷ news) keep are = absurd are
works_kept shapes before now begun [] (new ∷ news) keep are = absurd keep
works_kept shapes before now begun (old ∷ olds) [] keep are = absurd keep
works_kept shapes before now (b ∷ bs) (old ∷ olds) (new ∷ news) keep are =
    (are.0, (keep.0 shapes before are.0 b are.1.0, (are.1.1.0, works_kept shapes are.0 now bs olds news keep.1 are.1.1.1)))

read_from : (shapes : List Shape) (before now first : Slot → Option Held) (begun : List Begun) (works : List Work) → AreWorks shapes before now begun works
    → ((s : Slot) → do_touch begun s ≡ true → before s ≡ first s) → HaveRead first begun works
read_from shapes before now first [] [] are same = record {}
read_from shapes before now first [] (w ∷ ws) are same = absurd are
read_from shapes before now first (b ∷ bs) [] are same = absurd are
read_from shapes before now first (b ∷ bs) (w ∷ ws) are same = (
  record {
    contents = are.1.0.inputs.contents ∙ contents_same before first (reads_taken b.kind) reads;
    values = are.1.0.inputs.values ∙ values_same before first (reads_taken b.kind) reads;
  },
  read_from shapes are.0 now first bs ws are.1.1.1 later,
) where
  reads : (s : Slot) → is_among (reads_taken b.kind) s ≡ true → before s ≡ first s
  reads s among = same s (or_left (does_touch b.kind s) (do_touch bs s) (touch_taken b.kind s among))

  later : (s : Slot) → do_touch bs s ≡ true → are.0 s ≡ first s
  later s touched =
      sym (leaves_alone shapes before are.0 b w s are.1.0 (not_first b bs s are.1.1.0 touched))
      ∙ same s (or_right (does_touch b.kind s) (do_touch bs s) touched)

-- each of the works has read what the slots had before any of them was begun
pub works_read : (shapes : List Shape) (before now : Slot → Option Held) (begun : List Begun) (works : List Work)
    → AreWorks shapes before now begun works → HaveRead before begun works
works_read shapes before now begun works are = read_from shapes before now before begun works are (λ s touched. refl)
