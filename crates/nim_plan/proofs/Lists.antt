-- Numbers counted from 0 one by one, and tests of lists.
use Rattle.std.proofs.Common.{◌≡◌, ℕ, ◌+◌, Bool, true, false, List, [], ◌∷◌, ◌++◌, map, refl, ap₂, sym, ◌∙◌, arith}
use Rattle.std.specs.Prelude.{◌&&◌}
use Rattle.std.specs.List.{range_with_len}
use Rattle.std.proofs.lemmas.List.FromFn.{map-range_with_len_more}
pub use Rattle.nim_command.proofs.Lists.{any_and, any_nothing, filter_all, filter_twice}
pub use Rattle.nim_job.proofs.Lists.{all_more, all_not, range_more}

-- one more item of a function of the numbers from 0 is pushed
pub pushed : {A : Type 0} (f : ℕ → A) (old next : List A) (item : A) (n : ℕ) → next ≡ old ++ item ∷ [] → old ≡ map f (range_with_len 0 n) → item ≡ f n
    → next ≡ map f (range_with_len 0 (n + 1))
pushed {A} f old next item n push before is =
    push ∙ ap₂ (λ (xs : List A) (x : A). xs ++ x ∷ []) before is ∙ sym (map-range_with_len_more f 0 n n (omega arith))

pub both_none : (b x : Bool) → (b ≡ true → x ≡ false) → (b && x) ≡ false
both_none true x none = none refl
both_none false x none = refl
