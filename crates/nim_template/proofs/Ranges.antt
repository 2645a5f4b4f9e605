-- Lists made from a number of workers or objects, one more at a time.
use Rattle.std.proofs.Common.{◌≡◌, ℕ, zero, suc, ◌+◌, List, [], ◌∷◌, ◌++◌, add-one, ap, sym, ◌∙◌, arith}
use Rattle.std.specs.List.{flat_map, range_with_len}
use Rattle.std.proofs.lemmas.List.{append-nil, append_assoc}
use Rattle.std.proofs.lemmas.List.FromFn.{map-range_with_len_more}
use Rattle.nim_base.specs.declared.number.Object.{Object}
use Rattle.nim_base.specs.declared.number.Worker.{Worker}
use Rattle.nim_template.specs.Built.{all_slots, slots_of}

flat_more : {X : Type 0} (f : ℕ → List X) (from n last : ℕ) → from + n ≡ last
    → flat_map f (range_with_len from (suc n)) ≡ flat_map f (range_with_len from n) ++ f last
flat_more f from zero last is = append-nil (f from) ∙ ap f (omega (arith, is))
flat_more {X} f from (suc n) last is =
    ap (λ (rest : List X). f from ++ rest) (flat_more f (from + 1) n last (omega (arith, is)))
    ∙ sym (append_assoc (f from) (flat_map f (range_with_len (from + 1) n)) (f last))

-- the slots of one object more
slots_more : (worker : Worker) (n : ℕ) → slots_of worker (n + 1) ≡ slots_of worker n ++ (worker, record { 0 = n }) ∷ []
slots_more worker n =
    let slot : ℕ → Worker × Object = λ number. (worker, record { 0 = number }) in
    map-range_with_len_more slot 0 n n (omega arith)

-- the slots of one worker more
all_more : (n objects : ℕ) → all_slots (n + 1) objects ≡ all_slots n objects ++ slots_of (record { 0 = n }) objects
all_more n objects =
    let own : ℕ → List (Worker × Object) = λ number. slots_of (record { 0 = number }) objects in
    ap (λ (k : ℕ). flat_map own (range_with_len 0 k)) (add-one n) ∙ flat_more own 0 n n (omega arith)

pub slots_pushed : (first before after : List (Worker × Object)) (worker : Worker) (n : ℕ) → before ≡ first ++ slots_of worker n
    → after ≡ before ++ (worker, record { 0 = n }) ∷ [] → after ≡ first ++ slots_of worker (n + 1)
slots_pushed first before after worker n was push =
    push ∙ ap (λ (slots : List (Worker × Object)). slots ++ (worker, record { 0 = n }) ∷ []) was
    ∙ append_assoc first (slots_of worker n) ((worker, record { 0 = n }) ∷ [])
    ∙ ap (λ (slots : List (Worker × Object)). first ++ slots) (sym (slots_more worker n))

pub all_pushed : (before after : List (Worker × Object)) (n objects : ℕ) → before ≡ all_slots n objects
    → after ≡ before ++ slots_of (record { 0 = n }) objects → after ≡ all_slots (n + 1) objects
all_pushed before after n objects was push =
    push ∙ ap (λ (slots : List (Worker × Object)). slots ++ slots_of (record { 0 = n }) objects) was ∙ sym (all_more n objects)
