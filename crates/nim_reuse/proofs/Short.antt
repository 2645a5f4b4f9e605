-- An instance of an installed template costs each worker at most two short orders.
use Rattle.std.proofs.Common.{◌≡◌, ℕ, zero, suc, ◌+◌, ◌*◌, ◌<◌, ◌≤◌, Bool, true, false, List, [], ◌∷◌, ◌++◌, length, refl}
use Rattle.std.proofs.Common.{ap, ap₂, sym, subst, ◌∙◌, arith, inl, inr}
use Rattle.std.specs.Prelude.{◌==◌, ◌⊎◌, ◌^◌, ◌-◌, if◌then◌else◌, min, nat_lt, ℤ}
use Rattle.std.specs.List.{flat_map, range_with_len}
use Rattle.std.proofs.lemmas.Bool.{eqb-true, ne_eqb}
use Rattle.std.proofs.lemmas.List.{append-nil, length-append}
use Rattle.std.proofs.lemmas.List.Sums.{sum_by-append}
use Rattle.nim_base.specs.declared.number.Object.{Object}
use Rattle.nim_command.specs.declared.edit.PatchPart.{PatchPart}
use Rattle.nim_command.specs.declared.entry.Entry.{Entry}
use Rattle.nim_command.specs.declared.entry.EntryKind.{EntryKind}
use Rattle.nim_command.specs.declared.template.WorkerTemplate.{WorkerTemplate}
use Rattle.nim_command.specs.Slots.{object_of}
use Rattle.nim_message.specs.declared.order.ToWorker.{ToWorker}
use Rattle.nim_message.specs.Lengths.{capped, number_bytes, order_length_of}
use Rattle.nim_place.specs.Directed.{Directed, directed, for_worker, orders_to}
use Rattle.nim_place.specs.Extends.{worker_of}
use Rattle.nim_place.specs.Sound.{version_named}
use Rattle.nim_place.specs.Versions.{Versions, latest_of}
use Rattle.nim_place.proofs.Directed.{to_append, to_other, to_same}
use Rattle.nim_template.specs.Given.{instance_with, instances_of}
use Rattle.nim_template.specs.Instance.{half_of}
use Rattle.nim_patch.specs.declared.patch.PatchCopy.{PatchCopy}
use Rattle.nim_patch.specs.Given.{run_parts}
use Rattle.nim_patch.specs.Parts.{patch_parts_of, versions_taken}
use Rattle.nim_patch.specs.Patches.{after_copies, patch_copies}
use Rattle.nim_reuse.specs.declared.decided.Decided.{Decided}
use Rattle.nim_reuse.specs.declared.decided.Decided.TheVariants.{Installed}
use Rattle.nim_reuse.specs.declared.instance.InstanceAt.{InstanceAt}
use Rattle.nim_reuse.specs.declared.reused.Patched.{Patched}
use Rattle.nim_reuse.specs.declared.reused.Patched.TheVariants.{Not, Repeated, Made}
use Rattle.nim_reuse.specs.Cost.{IsNotMade, LaterInstancesAreShort, bound_at, bytes_of, instance_bound, patch_bound}
use Rattle.nim_reuse.specs.Received.{object_received, received_in}
use Rattle.nim_reuse.specs.Reuse.{is_new, patch_key_at, no_orders, orders_by, patch_installs, patch_runs, patched_by, template_by}

-- ---- the orders for one worker

-- a worker before the first of so many has none
none_before : (lists : ℕ → List ToWorker) (number first count : ℕ) → number < first
    → orders_to number (flat_map (for_worker lists) (range_with_len first count)) ≡ []
none_before lists number first zero below = refl
none_before lists number first (suc count) below =
    to_append number (for_worker lists first) (flat_map (for_worker lists) (range_with_len (first + 1) count))
    ∙ ap₂ (λ (xs ys : List ToWorker). xs ++ ys) (to_other first number (lists first) (ne_eqb first number (λ is. omega (arith, is, below))))
    (none_before lists number (first + 1) count (omega (arith, below)))

-- each has its own list, or none
to_either : (lists : ℕ → List ToWorker) (number first count : ℕ)
    → (orders_to number (flat_map (for_worker lists) (range_with_len first count)) ≡ lists number)
    ⊎ (orders_to number (flat_map (for_worker lists) (range_with_len first count)) ≡ [])
to_either lists number first zero = inr refl
to_either lists number first (suc count) = by (first == number) refl (to_either lists number (first + 1) count) where
  rest : List Directed
  rest = flat_map (for_worker lists) (range_with_len (first + 1) count)

  split : orders_to number (for_worker lists first ++ rest) ≡ orders_to number (for_worker lists first) ++ orders_to number rest
  split = to_append number (for_worker lists first) rest

  by : (b : Bool) → (first == number) ≡ b → (orders_to number rest ≡ lists number) ⊎ (orders_to number rest ≡ [])
      → (orders_to number (for_worker lists first ++ rest) ≡ lists number) ⊎ (orders_to number (for_worker lists first ++ rest) ≡ [])
  by true is others =
      let same : first ≡ number = eqb-true first number is in
      inl (split
      ∙ ap₂ (λ (xs ys : List ToWorker). xs ++ ys) (to_same first number (lists first) is) (none_before lists number (first + 1) count (omega (arith, same)))
      ∙ append-nil (lists first) ∙ ap lists same)
  by false is (inl own) = inl (split ∙ ap (λ (xs : List ToWorker). xs ++ orders_to number rest) (to_other first number (lists first) is) ∙ own)
  by false is (inr none) = inr (split ∙ ap (λ (xs : List ToWorker). xs ++ orders_to number rest) (to_other first number (lists first) is) ∙ none)

-- so what holds of its list and of none holds
to_holds : (P : List ToWorker → Type 0) (workers : ℕ) (lists : ℕ → List ToWorker) (number : ℕ) → P (lists number) → P []
    → P (orders_to number (directed workers lists))
to_holds P workers lists number own none = by (to_either lists number 0 workers) where
  by : (orders_to number (directed workers lists) ≡ lists number) ⊎ (orders_to number (directed workers lists) ≡ [])
      → P (orders_to number (directed workers lists))
  by (inl is) = subst P (sym is) own
  by (inr is) = subst P (sym is) none

-- ---- the bytes of an order

ten_most : (a b c d e f g h i : Bool)
    → (if a then 1 else if b then 2 else if c then 3 else if d then 4 else if e then 5 else if f then 6 else if g then 7 else if h then 8 else if i then 9
    else 10) ≤ 10
ten_most true b c d e f g h i = omega arith
ten_most false true c d e f g h i = omega arith
ten_most false false true d e f g h i = omega arith
ten_most false false false true e f g h i = omega arith
ten_most false false false false true f g h i = omega arith
ten_most false false false false false true g h i = omega arith
ten_most false false false false false false true h i = omega arith
ten_most false false false false false false false true i = omega arith
ten_most false false false false false false false false true = omega arith
ten_most false false false false false false false false false = omega arith

-- a length number has at most ten bytes
number_low : (n : ℕ) → number_bytes n ≤ 10
number_low n =
    ten_most (nat_lt n (2 ^ 7)) (nat_lt n (2 ^ 14)) (nat_lt n (2 ^ 21)) (nat_lt n (2 ^ 28)) (nat_lt n (2 ^ 35)) (nat_lt n (2 ^ 42)) (nat_lt n (2 ^ 49))
    (nat_lt n (2 ^ 56)) (nat_lt n (2 ^ 63))

min_low : (n most : ℕ) → min n most ≤ n
min_low n most = omega arith

-- so a frame has at most ten more than its body
frame_low : (n body : ℕ) → capped (number_bytes n + body) ≤ 10 + body
frame_low n body =
    let number = number_low n in
    let least = min_low (number_bytes n + body) (2 ^ 64 - 1) in
    omega (arith, number, least)

-- at most one order, of so many bytes
record AreWithin (bound : ℕ) (orders : List ToWorker) : Type 0 where
  pub few : length orders ≤ 1
  pub bytes : bytes_of orders ≤ bound

none_within : (bound : ℕ) → AreWithin bound []
none_within bound = record { few = omega arith; bytes = omega arith }

one_within : (bound body : ℕ) (order : ToWorker) → order_length_of order ≤ 10 + body → 10 + body ≤ bound → AreWithin bound (order ∷ [])
one_within bound body order long low = record { few = omega arith; bytes = omega (arith, long, low) }

-- ---- an instance

-- the versions that it names are of what its half receives
kind_long : (before : Object → ℕ) (kind : EntryKind) (xs : List ℕ) (ys : List Object) → length xs ≡ length ys
    → length (version_named before kind ++ xs) ≡ length (object_received kind ++ ys)
kind_long before (EntryKind.Send slot peer entry) xs ys same = same
kind_long before (EntryKind.Copy from to) xs ys same = same
kind_long before (EntryKind.Run func params reads writes) xs ys same = same
kind_long before (EntryKind.Receive slot offset) xs ys same = by (offset == 0) where
  by : (b : Bool) → length ((if b then before (object_of slot) ∷ [] else []) ++ xs) ≡ length ((if b then object_of slot ∷ [] else []) ++ ys)
  by true = omega (arith, same)
  by false = same

named_long : (before : Object → ℕ) (half : List Entry) → length (flat_map (λ (e : Entry). version_named before e.kind) half) ≡ length (received_in half)
named_long before [] = refl
named_long before (entry ∷ half) =
    kind_long before entry.kind (flat_map (λ (e : Entry). version_named before e.kind) half) (received_in half) (named_long before half)

instance_within : (epoch instance block base : ℕ) (args : List ℤ) (before : Object → ℕ) (half : List Entry)
    → AreWithin (instance_bound (length args) (length (received_in half))) (instance_with epoch instance block base args before half)
instance_within epoch instance block base args before [] = none_within (instance_bound (length args) 0)
instance_within epoch instance block base args before (entry ∷ entries) =
    let half : List Entry = entry ∷ entries in
    let versions : List ℕ = flat_map (λ (e : Entry). version_named before e.kind) half in
    let order : ToWorker = ToWorker.Instantiate epoch instance block base args versions [] in
    let body : ℕ = 18 + (1 + 8 * length args) + (2 + 8 * length versions) + (1 + 0) in
    let long : length versions ≡ length (received_in half) = named_long before half in
    one_within (instance_bound (length args) (length (received_in half))) body order (frame_low (capped body) body) (omega (arith, long))

-- ---- a run of a patch

taken_few : (versions : Versions) (parts : List PatchPart) → length (versions_taken versions parts) ≤ length parts
taken_few versions [] = omega arith
taken_few versions (part ∷ parts) = by part.receives (taken_few versions parts) where
  by : (b : Bool) → length (versions_taken versions parts) ≤ length parts
      → length ((if b then latest_of versions part.object ∷ [] else []) ++ versions_taken versions parts) ≤ suc (length parts)
  by true rest = omega (arith, rest)
  by false rest = omega (arith, rest)

run_within : (epoch instance patch : ℕ) (versions : Versions) (parts : List PatchPart)
    → AreWithin (patch_bound parts) (run_parts epoch instance patch versions parts)
run_within epoch instance patch versions [] = none_within 0
run_within epoch instance patch versions (part ∷ parts) =
    let named : List ℕ = versions_taken versions (part ∷ parts) in
    let few : length named ≤ length (part ∷ parts) = taken_few versions (part ∷ parts) in
    let body : ℕ = 10 + (2 + 8 * length named) in
    one_within (patch_bound (part ∷ parts)) body (ToWorker.RunPatch epoch instance patch named) (frame_low (capped body) body) (omega (arith, few))

runs_within : (patched : Patched) (epoch instance : ℕ) (copies : List PatchCopy) (versions : Versions) (number : ℕ)
    → AreWithin (patch_bound (patch_parts_of copies (worker_of number))) (patch_runs patched epoch instance copies versions number)
runs_within Not epoch instance copies versions number = none_within (patch_bound (patch_parts_of copies (worker_of number)))
runs_within (Repeated patch) epoch instance copies versions number = run_within epoch instance patch versions (patch_parts_of copies (worker_of number))
runs_within (Made patch) epoch instance copies versions number = run_within epoch instance patch versions (patch_parts_of copies (worker_of number))

-- a patch that isn't made isn't installed
none_made : (patched : Patched) (epoch : ℕ) (copies : List PatchCopy) (number : ℕ) → IsNotMade patched → patch_installs patched epoch copies number ≡ []
none_made Not epoch copies number old = refl
none_made (Repeated patch) epoch copies number old = refl
none_made (Made patch) epoch copies number old = absurd old

-- ---- all

-- at most two orders of so many bytes
record AreTwo (bound : ℕ) (orders : List ToWorker) : Type 0 where
  pub few : length orders ≤ 2
  pub bytes : bytes_of orders ≤ bound

two_within : (first second : ℕ) (xs ys : List ToWorker) → AreWithin first xs → AreWithin second ys → AreTwo (second + first) (xs ++ ys)
two_within first second xs ys one two =
    let long = length-append xs ys in
    let sum = sum_by-append order_length_of xs ys in
    let few = one.few in
    let also = two.few in
    let low = one.bytes in
    let rest = two.bytes in
    record { few = omega (arith, long, few, also); bytes = omega (arith, sum, low, rest) }

-- those for a worker
short_by : (workers : ℕ) (at : InstanceAt) (args : List ℤ) (patched : Patched) (versions : Versions) (template : WorkerTemplate) (number : ℕ)
    → IsNotMade patched
    → AreTwo (bound_at number (patch_copies versions template.preconditions) args template)
    (orders_to number (orders_by workers at args false patched versions template))
short_by workers at args patched versions template number old =
    subst (AreTwo (bound_at number copies args template)) (sym is)
    (two_within (patch_bound (patch_parts_of copies (worker_of number))) (instance_bound (length args) (length (received_in (half_of template number))))
    (orders_to number third) (orders_to number last)
    (to_holds (AreWithin (patch_bound (patch_parts_of copies (worker_of number)))) workers
    (patch_runs patched at.epoch at.instance copies versions) number (runs_within patched at.epoch at.instance copies versions number)
    (none_within (patch_bound (patch_parts_of copies (worker_of number)))))
    (to_holds (AreWithin (instance_bound (length args) (length (received_in (half_of template number))))) workers
    (instances_of at.epoch at.instance template at.base args (after_copies versions copies)) number
    (instance_within at.epoch at.instance template.block at.base args (latest_of (after_copies versions copies)) (half_of template number))
    (none_within (instance_bound (length args) (length (received_in (half_of template number))))))) where
      copies : List PatchCopy
      copies = patch_copies versions template.preconditions

      first : List Directed
      first = directed workers no_orders

      second : List Directed
      second = directed workers (patch_installs patched at.epoch copies)

      third : List Directed
      third = directed workers (patch_runs patched at.epoch at.instance copies versions)

      last : List Directed
      last = directed workers (instances_of at.epoch at.instance template at.base args (after_copies versions copies))

      none_first : orders_to number first ≡ []
      none_first = to_holds (λ (xs : List ToWorker). xs ≡ []) workers no_orders number refl refl

      none_second : orders_to number second ≡ []
      none_second =
          to_holds (λ (xs : List ToWorker). xs ≡ []) workers (patch_installs patched at.epoch copies) number
          (none_made patched at.epoch copies number old) refl

      is : orders_to number (first ++ (second ++ third) ++ last) ≡ orders_to number third ++ orders_to number last
      is =
          to_append number (first ++ (second ++ third)) last
          ∙ ap (λ (xs : List ToWorker). xs ++ orders_to number last)
          (to_append number first (second ++ third)
          ∙ ap₂ (λ (xs ys : List ToWorker). xs ++ ys) none_first
          (to_append number second third ∙ ap (λ (xs : List ToWorker). xs ++ orders_to number third) none_second))

pub later_instances_are_short : LaterInstancesAreShort
later_instances_are_short place live at args versions decisions template number installed old =
    let has : Decided → WorkerTemplate = λ decided. template_by place versions.objects live at.block decided in
    let patch : Decided → Patched = λ decided. patched_by (patch_key_at decisions at.block) versions decisions.patches (has decided) in
    let all =
    subst
    (λ (decided : Decided). IsNotMade (patch decided)
    → AreTwo (bound_at number (patch_copies versions template.preconditions) args template)
    (orders_to number (orders_by (length live) at args (is_new decided) (patch decided) versions (has decided))))
    (sym installed)
    (λ (still : IsNotMade (patch (Installed template))). short_by (length live) at args (patch (Installed template)) versions template number still) old in
    record { few = all.few; bytes = all.bytes }
