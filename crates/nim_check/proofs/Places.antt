-- Where a word stands among others.
use Rattle.std.proofs.Common.{◌≡◌, ◌∙◌, ℕ, zero, suc, ◌+◌, ◌<◌, Bool, true, false, List, [], ◌∷◌, length, get_or, drop, refl, ap, sym, cond, arith}
use Rattle.std.specs.Prelude.{Option, Some, is_some, nat_lt, bytes_eq, not, ◌||◌}
use Rattle.std.specs.List.{list_any}
use Rattle.std.proofs.lemmas.Bool.Decides.{nat_tests}
use Rattle.std.proofs.lemmas.List.{at_drop_more, length-map}
use Rattle.nim_parse.specs.declared.sections.Block.{Block}
use Rattle.nim_parse.specs.declared.sections.Var.{Var}
use Rattle.nim_check.specs.Made.{block_names, var_names}
use Rattle.nim_check.specs.Names.{Word, has_twice, is_in, place_in}
use Rattle.std.proofs.lemmas.Bool.{or_right}

pub lt_suc : (k n : ℕ) → nat_lt (1 + k) (suc n) ≡ nat_lt k n
lt_suc k n = grind (arith, nat_tests)

pub lt_zero : (n : ℕ) → nat_lt 0 (suc n) ≡ true
lt_zero n = grind (arith, nat_tests)

pub is_in_any : (words : List Word) (word : Word) → is_in words word ≡ list_any (λ w. bytes_eq w word) words
is_in_any [] word = refl
is_in_any (w ∷ words) word =
    elim (bytes_eq w word) as (λ (b : Bool). nat_lt (cond (not b) (1 + place_in words word) 0) (suc (length words))
    ≡ (b || list_any (λ v. bytes_eq v word) words)) [
      | true ↦ lt_zero (length words)
      | false ↦ lt_suc (place_in words word) (length words) ∙ is_in_any words word
    ]

pub length_names : (vars : List Var) → length (var_names vars) ≡ length vars
length_names vars = length-map vars (λ v. v.name)

pub length_block_names : (blocks : List Block) → length (block_names blocks) ≡ length blocks
length_block_names blocks = length-map blocks (λ b. b.name)

-- ---- words from one on

-- what stands twice among the last words stands twice
pub twice_back : (words : List Word) (n : ℕ) → has_twice (drop n words) ≡ true → has_twice words ≡ true
twice_back words zero h = h
twice_back [] (suc n) h = h
twice_back (w ∷ words) (suc n) h = or_right (is_in words w) (has_twice words) (twice_back words n h)

pub twice_more : (words : List Word) (n : ℕ) (d : Word) → n < length words
    → has_twice (drop n words) ≡ (is_in (drop (n + 1) words) (get_or words n d) || has_twice (drop (n + 1) words))
twice_more words n d within = at_drop_more has_twice words n d within

pub in_more : (words : List Word) (n : ℕ) (d q : Word) → n < length words
    → is_in (drop n words) q ≡ (bytes_eq (get_or words n d) q || is_in (drop (n + 1) words) q)
in_more words n d q within =
    at_drop_more (λ ws. is_in ws q) words n d within
    ∙ is_in_any (get_or words n d ∷ drop (n + 1) words) q
    ∙ ap (λ b. bytes_eq (get_or words n d) q || b) (sym (is_in_any (drop (n + 1) words) q))

-- what a map says of a word behind an insertion
pub is_some_put : (b : Bool) (o : Option (Unit {0})) → is_some (cond b (Some tt) o) ≡ (b || is_some o)
is_some_put true o = refl
is_some_put false o = refl
