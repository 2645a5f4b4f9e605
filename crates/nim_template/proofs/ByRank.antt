-- Commands by rank are in the order of any list that ascends by rank and has each worker's commands in the same order.
use Rattle.std.proofs.Common.{◌≡◌, ℕ, ◌+◌, ◌<◌, ◌≤◌, Bool, true, false, List, [], ◌∷◌, ◌++◌, map, refl, ap, ap₂, sym, subst, ◌∙◌, arith, inl, inr}
use Rattle.std.specs.Prelude.{◌*◌, ◌==◌, ◌⊎◌, if◌then◌else◌}
use Rattle.std.specs.Cmp.{nat_cmp_is}
use Rattle.std.specs.List.{filter}
use Rattle.std.specs.Ordering.{bool_cmp, is_le, nat_cmp, ordering_then}
use Rattle.std.specs.declared.cmp.Ordering.{Ordering}
use Rattle.std.proofs.lemmas.Bool.{cases_order, eq-eqb, eqb-true, false≢true}
use Rattle.nim_base.specs.declared.number.Worker.{Worker}
use Rattle.nim_command.specs.declared.command.Command.{Command}
use Rattle.nim_command.specs.Ranks.{is_later, rank_of, ranks_compared, rank_stage}
use Rattle.nim_place.specs.Sound.{by_rank, put_by_rank}
use Rattle.nim_place.specs.Stands.{commands_for}
use Rattle.nim_template.proofs.Chosen.{plain}
use Rattle.nim_template.proofs.Halves.{for_plain}
use Rattle.nim_template.proofs.Sames.{AreSame}

-- where a command stands among those of its instance: by its number, a Send before the rest
abbrev pub order_of : Command → ℕ
order_of c = if is_later c.kind then 2 * c.id + 1 else 2 * c.id

-- of the last stage, from one number in this order to another
abbrev pub RanksAscend : ℕ → ℕ → List (Worker × Command) → Type 0
RanksAscend low high [] = low ≤ high
RanksAscend low high (c ∷ cs) = (rank_stage c.1.id c.1.kind ≡ 3) × (low ≤ order_of c.1) × RanksAscend (order_of c.1 + 1) high cs

pub ascends_lower : (less low high : ℕ) (cs : List (Worker × Command)) → less ≤ low → RanksAscend low high cs → RanksAscend less high cs
ascends_lower less low high [] below are = omega (arith, below, are)
ascends_lower less low high (c ∷ cs) below are = (are.0, omega (arith, below, are.1), are.2)

pub ascends_then : (low mid high : ℕ) (xs ys : List (Worker × Command)) → RanksAscend low mid xs → RanksAscend mid high ys → RanksAscend low high (xs ++ ys)
ascends_then low mid high [] ys first second = ascends_lower low mid high ys first second
ascends_then low mid high (x ∷ xs) ys first second = (first.0, first.1, ascends_then (order_of x.1 + 1) mid high xs ys first.2 second)

-- ---- two commands

nat_less : (n m : ℕ) → n < m → nat_cmp n m ≡ Ordering.Less
nat_less n m below = sym (nat_cmp_is n m Ordering.Less below)

nat_same : (n : ℕ) → nat_cmp n n ≡ Ordering.Equal
nat_same n = sym (nat_cmp_is n n Ordering.Equal refl)

nat_greater : (n m : ℕ) → n < m → nat_cmp m n ≡ Ordering.Greater
nat_greater n m below = sym (nat_cmp_is m n Ordering.Greater below)

-- of two numbers in this order the smaller is before the greater
abbrev IsLower : ℕ → ℕ → Bool → Bool → Type 0
IsLower n m a b =
    (is_le (ordering_then (nat_cmp n m) (bool_cmp a b)) ≡ true) × (is_le (ordering_then (nat_cmp m n) (bool_cmp b a)) ≡ false)

less_before : (n m : ℕ) (a b : Bool) → n < m → IsLower n m a b
less_before n m a b below = (
  ap (λ (o : Ordering). is_le (ordering_then o (bool_cmp a b))) (nat_less n m below),
  ap (λ (o : Ordering). is_le (ordering_then o (bool_cmp b a))) (nat_greater n m below),
)

same_before : (n m : ℕ) (a b : Bool) → n ≡ m → (if a then 2 * n + 1 else 2 * n) < (if b then 2 * m + 1 else 2 * m) → IsLower n m a b
same_before n m true true same below = absurd (omega (arith, same, below))
same_before n m true false same below = absurd (omega (arith, same, below))
same_before n m false false same below = absurd (omega (arith, same, below))
same_before n m false true same below = (
  ap (λ (k : ℕ). is_le (ordering_then (nat_cmp n k) (bool_cmp false true))) (sym same)
      ∙ ap (λ (o : Ordering). is_le (ordering_then o (bool_cmp false true))) (nat_same n),
  ap (λ (k : ℕ). is_le (ordering_then (nat_cmp k n) (bool_cmp true false))) (sym same)
      ∙ ap (λ (o : Ordering). is_le (ordering_then o (bool_cmp true false))) (nat_same n),
)

never_before : (n m : ℕ) (a b : Bool) → m < n → (if a then 2 * n + 1 else 2 * n) < (if b then 2 * m + 1 else 2 * m) → ⊥
never_before n m true true above below = omega (arith, above, below)
never_before n m true false above below = omega (arith, above, below)
never_before n m false true above below = omega (arith, above, below)
never_before n m false false above below = omega (arith, above, below)

numbers_before : (n m : ℕ) (a b : Bool) → (if a then 2 * n + 1 else 2 * n) < (if b then 2 * m + 1 else 2 * m) → IsLower n m a b
numbers_before n m a b below = either (cases_order n m) where
  either : (n ≡ m) ⊎ ((n < m) ⊎ (m < n)) → IsLower n m a b
  either (inl same) = same_before n m a b same below
  either (inr (inl less)) = less_before n m a b less
  either (inr (inr more)) = absurd (never_before n m a b more below)

-- stages and bases that are the same don't count
staged : (base : ℕ) (c d : Command) → rank_stage c.id c.kind ≡ 3 → rank_stage d.id d.kind ≡ 3
    → ranks_compared (rank_of base c) (rank_of base d) ≡ ordering_then (nat_cmp c.id d.id) (bool_cmp (is_later c.kind) (is_later d.kind))
staged base c d first second =
    let rest : Ordering = ordering_then (nat_cmp c.id d.id) (bool_cmp (is_later c.kind) (is_later d.kind)) in
    ap (λ (o : Ordering). ordering_then o (ordering_then (nat_cmp (rank_stage c.id c.kind) (rank_stage d.id d.kind)) rest)) (nat_same base)
    ∙ ap₂ (λ (n m : ℕ). ordering_then (nat_cmp n m) rest) first second
    ∙ ap (λ (o : Ordering). ordering_then o rest) (nat_same 3)

before_is : (base : ℕ) (c d : Command) → rank_stage c.id c.kind ≡ 3 → rank_stage d.id d.kind ≡ 3 → order_of c < order_of d
    → is_le (ranks_compared (rank_of base c) (rank_of base d)) ≡ true
before_is base c d first second below =
    ap is_le (staged base c d first second) ∙ (numbers_before c.id d.id (is_later c.kind) (is_later d.kind) below).0

behind_is : (base : ℕ) (c d : Command) → rank_stage c.id c.kind ≡ 3 → rank_stage d.id d.kind ≡ 3 → order_of c < order_of d
    → is_le (ranks_compared (rank_of base d) (rank_of base c)) ≡ false
behind_is base c d first second below =
    ap is_le (staged base d c second first) ∙ (numbers_before c.id d.id (is_later c.kind) (is_later d.kind) below).1

-- ---- commands behind one

-- each is of the last stage, and behind this number
abbrev Behind : ℕ → List Command → Type 0
Behind low [] = Unit {0}
Behind low (c ∷ cs) = (rank_stage c.id c.kind ≡ 3) × (low < order_of c) × Behind low cs

abbrev only : List (Worker × Command) → List Command
only cs = map (λ (c : Worker × Command). c.1) cs

ascend_behind : (low least high : ℕ) (cs : List (Worker × Command)) → low < least → RanksAscend least high cs → Behind low (only cs)
ascend_behind low least high [] below are = tt
ascend_behind low least high (c ∷ cs) below are =
    (are.0, omega (arith, below, are.1), ascend_behind low (order_of c.1 + 1) high cs (omega (arith, below, are.1)) are.2)

behind_for : (low : ℕ) (worker : Worker) (cs : List (Worker × Command)) → Behind low (only cs) → Behind low (commands_for worker cs)
behind_for low worker [] behind = tt
behind_for low worker (c ∷ cs) behind = either (c.0.0 == worker.0) (behind_for low worker cs behind.2) where
  others : List (Worker × Command)
  others = filter (λ (d : Worker × Command). d.0.0 == worker.0) cs

  either : (b : Bool) → Behind low (commands_for worker cs) → Behind low (only (if b then c ∷ others else others))
  either true rest = (behind.0, behind.1, rest)
  either false rest = rest

behind_all : (low : ℕ) (cs : List (Worker × Command)) → ((worker : Worker) → Behind low (commands_for worker cs)) → Behind low (only cs)
behind_all low [] each = tt
behind_all low (c ∷ cs) each =
    let mine = first (c.0.0 == c.0.0) (eq-eqb c.0.0 c.0.0 refl) (each c.0) in
    (mine.0, mine.1, behind_all low cs (λ worker. rest worker (c.0.0 == worker.0) (each worker))) where
      others : Worker → List (Worker × Command)
      others worker = filter (λ (d : Worker × Command). d.0.0 == worker.0) cs

      first : (b : Bool) → b ≡ true → Behind low (only (if b then c ∷ others c.0 else others c.0))
          → (rank_stage c.1.id c.1.kind ≡ 3) × (low < order_of c.1)
      first true is behind = (behind.0, behind.1)
      first false is behind = absurd (false≢true is)

      rest : (worker : Worker) (b : Bool) → Behind low (only (if b then c ∷ others worker else others worker)) → Behind low (commands_for worker cs)
      rest worker true behind = behind.2
      rest worker false behind = behind

put_behind : (low base : ℕ) (c : Worker × Command) (cs : List (Worker × Command)) → rank_stage c.1.id c.1.kind ≡ 3 → low < order_of c.1 → Behind low (only cs)
    → Behind low (only (put_by_rank base c cs))
put_behind low base c [] stage below behind = (stage, below, tt)
put_behind low base c (d ∷ ds) stage below behind =
    either (is_le (ranks_compared (rank_of base c.1) (rank_of base d.1))) (put_behind low base c ds stage below behind.2) where
      either : (b : Bool) → Behind low (only (put_by_rank base c ds)) → Behind low (only (if b then c ∷ d ∷ ds else d ∷ put_by_rank base c ds))
      either true rest = (stage, below, behind)
      either false rest = (behind.0, behind.1, rest)

rank_behind : (low base : ℕ) (cs : List (Worker × Command)) → Behind low (only cs) → Behind low (only (by_rank base cs))
rank_behind low base [] behind = tt
rank_behind low base (c ∷ cs) behind = put_behind low base c (by_rank base cs) behind.0 behind.1 (rank_behind low base cs behind.2)

-- ---- the first by rank

put_first : (base : ℕ) (y : Worker × Command) (ds : List (Worker × Command)) → rank_stage y.1.id y.1.kind ≡ 3 → Behind (order_of y.1) (only ds)
    → put_by_rank base y ds ≡ y ∷ ds
put_first base y [] stage behind = refl
put_first base y (d ∷ ds) stage behind =
    ap (λ (b : Bool). if b then y ∷ d ∷ ds else d ∷ put_by_rank base y ds) (before_is base y.1 d.1 stage behind.0 behind.1)

put_second : (base : ℕ) (x y : Worker × Command) (ds : List (Worker × Command)) → rank_stage y.1.id y.1.kind ≡ 3 → rank_stage x.1.id x.1.kind ≡ 3
    → order_of y.1 < order_of x.1 → put_by_rank base x (y ∷ ds) ≡ y ∷ put_by_rank base x ds
put_second base x y ds stage other below =
    ap (λ (b : Bool). if b then x ∷ y ∷ ds else y ∷ put_by_rank base x ds) (behind_is base y.1 x.1 stage other below)

-- without the first command of a worker
abbrev drop_first : Worker → List (Worker × Command) → List (Worker × Command)
drop_first worker [] = []
drop_first worker (x ∷ xs) = if x.0.0 == worker.0 then xs else x ∷ drop_first worker xs

abbrev drop_if : Bool → Worker → Worker × Command → List (Worker × Command) → List (Worker × Command)
drop_if b worker x xs = if b then xs else x ∷ drop_first worker xs

-- commands of one worker behind one more of it
pub for_step : (worker : Worker) (x : Worker × Command) (xs : List (Worker × Command)) (b : Bool) → (x.0.0 == worker.0) ≡ b
    → commands_for worker (x ∷ xs) ≡ (if b then x.1 ∷ commands_for worker xs else commands_for worker xs)
for_step worker x xs b is =
    let others : List (Worker × Command) = filter (λ (d : Worker × Command). d.0.0 == worker.0) xs in
    ap (λ (c : Bool). only (if c then x ∷ others else others)) is ∙ chosen b where
      chosen : (c : Bool)
          → only (if c then x ∷ filter (λ (d : Worker × Command). d.0.0 == worker.0) xs else filter (λ (d : Worker × Command). d.0.0 == worker.0) xs)
          ≡ (if c then x.1 ∷ commands_for worker xs else commands_for worker xs)
      chosen true = refl
      chosen false = refl

tail_is : (x y : Command) (xs ys : List Command) → x ∷ xs ≡ y ∷ ys → (x ≡ y) × (xs ≡ ys)
tail_is x y xs ys is = (ap (λ (cs : List Command). head_or cs x) is, ap tail_of is) where
  head_or : List Command → Command → Command
  head_or [] c = c
  head_or (d ∷ ds) c = d

  tail_of : List Command → List Command
  tail_of [] = []
  tail_of (d ∷ ds) = ds

same_pair : (x y : Worker × Command) → x.0.0 ≡ y.0.0 → x.1 ≡ y.1 → x ≡ y
same_pair x y worker command = ap₂ (λ (n : ℕ) (c : Command). (let w : Worker = record { 0 = n } in (w, c))) worker command

-- what is left of each worker
dropped_for : (y : Worker × Command) (xs : List (Worker × Command)) (rest : List Command) → commands_for y.0 xs ≡ y.1 ∷ rest
    → (worker : Worker) → (b : Bool) → (y.0.0 == worker.0) ≡ b
    → commands_for worker (drop_first y.0 xs) ≡ (if b then rest else commands_for worker xs)
dropped_for y [] rest is worker b same = absurd cc
dropped_for y (x ∷ xs) rest is worker b same =
    here (x.0.0 == y.0.0) refl (for_step y.0 x xs (x.0.0 == y.0.0) refl) (dropped_for y xs rest) where
      here : (c : Bool) → (x.0.0 == y.0.0) ≡ c
          → commands_for y.0 (x ∷ xs) ≡ (if c then x.1 ∷ commands_for y.0 xs else commands_for y.0 xs)
          → (commands_for y.0 xs ≡ y.1 ∷ rest → (w : Worker) → (d : Bool) → (y.0.0 == w.0) ≡ d
          → commands_for w (drop_first y.0 xs) ≡ (if d then rest else commands_for w xs))
          → commands_for worker (drop_if c y.0 x xs) ≡ (if b then rest else commands_for worker (x ∷ xs))
      here true own step later = chosen b same where
        worker_is : x.0.0 ≡ y.0.0
        worker_is = eqb-true x.0.0 y.0.0 own

        chosen : (d : Bool) → (y.0.0 == worker.0) ≡ d → commands_for worker xs ≡ (if d then rest else commands_for worker (x ∷ xs))
        chosen true equal =
            ap (λ (n : ℕ). commands_for (record { 0 = n }) xs) (sym (eqb-true y.0.0 worker.0 equal))
            ∙ (tail_is x.1 y.1 (commands_for y.0 xs) rest (sym step ∙ is)).1
        chosen false apart = sym (for_step worker x xs false (ap (λ (n : ℕ). n == worker.0) worker_is ∙ apart))
      here false own step later =
          either b same (x.0.0 == worker.0) refl (later (sym step ∙ is) worker b same) where
            either : (d : Bool) → (y.0.0 == worker.0) ≡ d → (e : Bool) → (x.0.0 == worker.0) ≡ e
                → commands_for worker (drop_first y.0 xs) ≡ (if d then rest else commands_for worker xs)
                → commands_for worker (x ∷ drop_first y.0 xs) ≡ (if d then rest else commands_for worker (x ∷ xs))
            either true equal true mine tail =
                absurd (false≢true (sym own ∙ eq-eqb x.0.0 y.0.0 (eqb-true x.0.0 worker.0 mine ∙ sym (eqb-true y.0.0 worker.0 equal))))
            either true equal false mine tail = for_step worker x (drop_first y.0 xs) false mine ∙ tail
            either false apart true mine tail =
                for_step worker x (drop_first y.0 xs) true mine ∙ ap (λ (cs : List Command). x.1 ∷ cs) tail ∙ sym (for_step worker x xs true mine)
            either false apart false mine tail = for_step worker x (drop_first y.0 xs) false mine ∙ tail ∙ sym (for_step worker x xs false mine)

-- the first by rank is the first of its worker, where all others are behind it
first_by_rank : (base : ℕ) (y : Worker × Command) (xs : List (Worker × Command)) (rest : List Command) → rank_stage y.1.id y.1.kind ≡ 3
    → commands_for y.0 xs ≡ y.1 ∷ rest → Behind (order_of y.1) (only (drop_first y.0 xs)) → by_rank base xs ≡ y ∷ by_rank base (drop_first y.0 xs)
first_by_rank base y [] rest stage is behind = absurd cc
first_by_rank base y (x ∷ xs) rest stage is behind =
    here (x.0.0 == y.0.0) refl (for_step y.0 x xs (x.0.0 == y.0.0) refl) behind (λ own later. first_by_rank base y xs rest stage own later) where
      here : (c : Bool) → (x.0.0 == y.0.0) ≡ c
          → commands_for y.0 (x ∷ xs) ≡ (if c then x.1 ∷ commands_for y.0 xs else commands_for y.0 xs)
          → Behind (order_of y.1) (only (drop_if c y.0 x xs))
          → (commands_for y.0 xs ≡ y.1 ∷ rest → Behind (order_of y.1) (only (drop_first y.0 xs)) → by_rank base xs ≡ y ∷ by_rank base (drop_first y.0 xs))
          → put_by_rank base x (by_rank base xs) ≡ y ∷ by_rank base (drop_if c y.0 x xs)
      here true own step after later =
          ap (λ (c : Worker × Command). put_by_rank base c (by_rank base xs))
          (same_pair x y (eqb-true x.0.0 y.0.0 own) (tail_is x.1 y.1 (commands_for y.0 xs) rest (sym step ∙ is)).0)
          ∙ put_first base y (by_rank base xs) stage (rank_behind (order_of y.1) base xs after)
      here false own step after later =
          ap (put_by_rank base x) (later (sym step ∙ is) after.2)
          ∙ put_second base x y (by_rank base (drop_first y.0 xs)) stage after.0 after.1

-- no commands of any worker
none_at_all : (xs : List (Worker × Command)) → ((worker : Worker) → commands_for worker xs ≡ []) → xs ≡ []
none_at_all [] each = refl
none_at_all (x ∷ xs) each = absurd (none_first (sym (for_step x.0 x xs true (eq-eqb x.0.0 x.0.0 refl)) ∙ each x.0)) where
  none_first : x.1 ∷ commands_for x.0 xs ≡ [] → ⊥
  none_first is = cc

exact_order : (base low high : ℕ) (ys xs : List (Worker × Command)) → RanksAscend low high ys
    → ((worker : Worker) → commands_for worker xs ≡ commands_for worker ys) → by_rank base xs ≡ ys
exact_order base low high [] xs are same = ap (by_rank base) (none_at_all xs same)
exact_order base low high (y ∷ ys) xs are same =
    let own : commands_for y.0 xs ≡ y.1 ∷ commands_for y.0 ys = same y.0 ∙ for_step y.0 y ys true (eq-eqb y.0.0 y.0.0 refl) in
    let left : (worker : Worker) → commands_for worker (drop_first y.0 xs) ≡ commands_for worker ys =
    λ worker. dropped_for y xs (commands_for y.0 ys) own worker (y.0.0 == worker.0) refl ∙ each worker (y.0.0 == worker.0) refl in
    let behind : Behind (order_of y.1) (only (drop_first y.0 xs)) =
    behind_all (order_of y.1) (drop_first y.0 xs)
    (λ worker. subst (Behind (order_of y.1)) (sym (left worker))
    (behind_for (order_of y.1) worker ys (ascend_behind (order_of y.1) (order_of y.1 + 1) high ys (omega arith) are.2))) in
    first_by_rank base y xs (commands_for y.0 ys) are.0 own behind
    ∙ ap (λ (cs : List (Worker × Command)). y ∷ cs) (exact_order base (order_of y.1 + 1) high ys (drop_first y.0 xs) are.2 left) where
      each : (worker : Worker) (b : Bool) → (y.0.0 == worker.0) ≡ b → (if b then commands_for y.0 ys else commands_for worker xs) ≡ commands_for worker ys
      each worker true is = ap (λ (n : ℕ). commands_for (record { 0 = n }) ys) (eqb-true y.0.0 worker.0 is)
      each worker false is = same worker ∙ for_step worker y ys false is

-- ---- before sets aside

put_plain : (base : ℕ) (c : Worker × Command) (cs : List (Worker × Command)) → map plain (put_by_rank base c cs) ≡ put_by_rank base (plain c) (map plain cs)
put_plain base c [] = refl
put_plain base c (d ∷ ds) = either (is_le (ranks_compared (rank_of base c.1) (rank_of base d.1))) (put_plain base c ds) where
  either : (b : Bool) → map plain (put_by_rank base c ds) ≡ put_by_rank base (plain c) (map plain ds)
      → map plain (if b then c ∷ d ∷ ds else d ∷ put_by_rank base c ds)
      ≡ (if b then plain c ∷ plain d ∷ map plain ds else plain d ∷ put_by_rank base (plain c) (map plain ds))
  either true rest = refl
  either false rest = ap (λ (xs : List (Worker × Command)). plain d ∷ xs) rest

rank_plain : (base : ℕ) (cs : List (Worker × Command)) → map plain (by_rank base cs) ≡ by_rank base (map plain cs)
rank_plain base [] = refl
rank_plain base (c ∷ cs) = put_plain base c (by_rank base cs) ∙ ap (put_by_rank base (plain c)) (rank_plain base cs)

pub ascends_plain : (low high : ℕ) (cs : List (Worker × Command)) → RanksAscend low high cs → RanksAscend low high (map plain cs)
ascends_plain low high [] are = are
ascends_plain low high (c ∷ cs) are = (are.0, are.1, ascends_plain (order_of c.1 + 1) high cs are.2)

-- so commands that are the same worker by worker are in this order by rank
pub in_order : (base low high : ℕ) (xs ys : List (Worker × Command)) → RanksAscend low high ys → AreSame xs ys → map plain (by_rank base xs) ≡ map plain ys
in_order base low high xs ys are same =
    rank_plain base xs
    ∙ exact_order base low high (map plain ys) (map plain xs) (ascends_plain low high ys are)
    (λ worker. for_plain worker xs ∙ same worker ∙ sym (for_plain worker ys))
