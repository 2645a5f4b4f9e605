-- The commands of a run of a patch are those of its copies, one after another: each worker's are the same, before sets
-- aside.
use Rattle.std.proofs.Common.{◌≡◌, ℕ, zero, suc, ◌+◌, ◌<◌, ◌≤◌, Bool, true, false, List, [], ◌∷◌, ◌++◌, length, map, refl, ap, ap₂, sym, ◌∙◌, arith}
use Rattle.std.proofs.Common.{inl, inr}
use Rattle.std.specs.Prelude.{◌==◌, ◌⊎◌, if◌then◌else◌, slice_index_or}
use Rattle.std.specs.List.{AllByRecursion}
use Rattle.std.proofs.lemmas.Bool.{cases_lt, eqb-false, eqb-true, ne_eqb}
use Rattle.std.proofs.lemmas.List.{append-nil, append_assoc, length-append, map-append}
use Rattle.nim_base.specs.declared.number.Worker.{Worker}
use Rattle.nim_command.specs.declared.command.Command.{Command}
use Rattle.nim_command.specs.declared.command.Kind.{Kind}
use Rattle.nim_command.specs.declared.edit.PatchPart.{PatchPart}
use Rattle.nim_command.specs.Before.{Footprint, footprint_of}
use Rattle.nim_command.specs.Expansion.{command_of, copied}
use Rattle.nim_command.specs.Numbers.{main_slot, patch_number}
use Rattle.nim_command.specs.Ruled.{commands_by_rule}
use Rattle.nim_patch.specs.declared.patch.PatchCopy.{PatchCopy}
use Rattle.nim_patch.specs.Parts.{copy_parts, patch_commands_of, patch_parts_from, patch_parts_of, receiving_part, sending_part}
use Rattle.nim_patch.specs.Parts.{run_commands, run_commands_from, versions_taken}
use Rattle.nim_place.specs.Extends.{worker_of}
use Rattle.nim_place.specs.Stands.{commands_for}
use Rattle.nim_place.specs.Versions.{Versions, latest_of}
use Rattle.nim_place.proofs.Held.{for_append}
use Rattle.nim_template.specs.Tasks.{without_before}
use Rattle.nim_template.proofs.Copies.{copy_at, receive_at, send_at, two_for}
use Rattle.nim_template.proofs.Entries.{for_here, for_there}
use Rattle.nim_template.proofs.Sames.{AreSame}

-- ---- the commands of copies

-- the commands of one copy
abbrev pub copy_for : Versions → ℕ → PatchCopy → List (Worker × Command)
copy_for versions number copy = copy_at (patch_number number) copy.from copy.to copy.object (latest_of versions copy.object)

-- those of copies one after another, the first of them with this number
abbrev pub copied_from : Versions → ℕ → List PatchCopy → List (Worker × Command)
copied_from versions number [] = []
copied_from versions number (copy ∷ copies) = copy_for versions number copy ++ copied_from versions (number + 1) copies

-- an end as a command, with the latest version of its object
abbrev pub end_command : Versions → PatchPart → Command
end_command versions part = command_of (latest_of versions part.object) part

-- a worker's ends of one copy are its commands of it
copy_ends : (versions : Versions) (worker : Worker) (number : ℕ) (copy : PatchCopy)
    → map (end_command versions) (copy_parts number copy worker) ≡ commands_for worker (copy_for versions number copy)
copy_ends versions worker number copy =
    shown (copy.from.0 == worker.0) (copy.to.0 == worker.0)
    ∙ sym (two_for worker (copy.from, send_at (patch_number number) copy.to copy.object)
    (copy.to, receive_at (patch_number number) copy.object (latest_of versions copy.object))
    (copy.from.0 == worker.0) (copy.to.0 == worker.0) refl refl) where
      sends : Command
      sends = send_at (patch_number number) copy.to copy.object

      receives : Command
      receives = receive_at (patch_number number) copy.object (latest_of versions copy.object)

      shown : (a b : Bool)
          → map (end_command versions) ((if a then sending_part number copy ∷ [] else []) ++ (if b then receiving_part number copy ∷ [] else []))
          ≡ (if a then sends ∷ (if b then receives ∷ [] else []) else (if b then receives ∷ [] else []))
      shown true true = refl
      shown true false = refl
      shown false true = refl
      shown false false = refl

-- so they are of all copies
ends_from : (versions : Versions) (worker : Worker) (number : ℕ) (copies : List PatchCopy)
    → map (end_command versions) (patch_parts_from number copies worker) ≡ commands_for worker (copied_from versions number copies)
ends_from versions worker number [] = refl
ends_from versions worker number (copy ∷ copies) =
    map-append (end_command versions) (copy_parts number copy worker) (patch_parts_from (number + 1) copies worker)
    ∙ ap₂ (λ (xs ys : List Command). xs ++ ys) (copy_ends versions worker number copy) (ends_from versions worker (number + 1) copies)
    ∙ sym (for_append worker (copy_for versions number copy) (copied_from versions (number + 1) copies))

-- ---- the commands of an order

-- what stands behind so many versions
value_at : (past : List ℕ) (version : ℕ) (rest : List ℕ) → slice_index_or (past ++ version ∷ rest) (length past) 0 ≡ version
value_at [] version rest = refl
value_at (x ∷ past) version rest = value_at past version rest

-- an end's command, by whether it receives
abbrev command_if : Bool → ℕ → PatchPart → Command
command_if b named part = record {
  id = patch_number part.number;
  kind = if b then Kind.Receive (main_slot part.object) named else Kind.Send (main_slot part.object) part.peer (patch_number part.number);
  before = [];
}

-- each end that receives takes the next version, which is the latest one of its object
taken_each : (versions : Versions) (past : List ℕ) (parts : List PatchPart)
    → copied (past ++ versions_taken versions parts) (length past) parts ≡ map (end_command versions) parts
taken_each versions past [] = refl
taken_each versions past (part ∷ parts) = either part.receives (λ all. taken_each versions all parts) where
  rest : List ℕ
  rest = versions_taken versions parts

  latest : ℕ
  latest = latest_of versions part.object

  either : (b : Bool) → ((all : List ℕ) → copied (all ++ rest) (length all) parts ≡ map (end_command versions) parts)
      → command_if b (slice_index_or (past ++ ((if b then latest ∷ [] else []) ++ rest)) (length past) 0) part
      ∷ copied (past ++ ((if b then latest ∷ [] else []) ++ rest)) (if b then length past + 1 else length past) parts
      ≡ command_if b latest part ∷ map (end_command versions) parts
  either true others =
      let next : length (past ++ latest ∷ []) ≡ length past + 1 = omega (arith, length-append past (latest ∷ [])) in
      ap₂ (λ (c : Command) (cs : List Command). c ∷ cs) (ap (λ (n : ℕ). command_if true n part) (value_at past latest rest))
      (ap₂ (λ (all : List ℕ) (n : ℕ). copied all n parts) (sym (append_assoc past (latest ∷ []) rest)) (sym next) ∙ others (past ++ latest ∷ []))
  either false others = ap (λ (cs : List Command). command_if false latest part ∷ cs) (others past)

-- before sets change nothing else
ruled_bare : (past : List Footprint) (commands : List Command) → map without_before (commands_by_rule past commands) ≡ map without_before commands
ruled_bare past [] = refl
ruled_bare past (c ∷ commands) = ap (λ (cs : List Command). without_before c ∷ cs) (ruled_bare (past ++ footprint_of c ∷ []) commands)

-- the commands of a worker's order are its commands of the copies
own_bare : (versions : Versions) (worker : Worker) (copies : List PatchCopy)
    → map without_before (run_commands versions (patch_parts_of copies worker)) ≡ map without_before (commands_for worker (copied_from versions 0 copies))
own_bare versions worker copies =
    let parts : List PatchPart = patch_parts_of copies worker in
    ruled_bare [] (copied (versions_taken versions parts) 0 parts)
    ∙ ap (map without_before) (taken_each versions [] parts ∙ ends_from versions worker 0 copies)

-- ---- worker by worker

-- workers with other numbers have no command of this worker's
none_from : (copies : List PatchCopy) (versions : Versions) (worker : Worker) (from n : ℕ)
    → ((k : ℕ) → from ≤ k → k < from + n → k ≡ worker.0 → ⊥)
    → commands_for worker (run_commands_from copies versions from n) ≡ []
none_from copies versions worker from zero apart = refl
none_from copies versions worker from (suc n) apart =
    let own : List Command = run_commands versions (patch_parts_of copies (worker_of from)) in
    for_append worker (map (λ (c : Command). (worker_of from, c)) own) (run_commands_from copies versions (from + 1) n)
    ∙ ap₂ (λ (xs ys : List Command). xs ++ ys) (for_there worker from own (apart from (omega arith) (omega arith)))
    (none_from copies versions worker (from + 1) n (λ k above below. apart k (omega (arith, above)) (omega (arith, below))))

-- one of so many workers has its own
one_from : (copies : List PatchCopy) (versions : Versions) (worker : Worker) (from n : ℕ) → from ≤ worker.0 → worker.0 < from + n
    → commands_for worker (run_commands_from copies versions from n) ≡ run_commands versions (patch_parts_of copies worker)
one_from copies versions worker from zero above below = absurd (omega (arith, above, below))
one_from copies versions worker from (suc n) above below =
    for_append worker (map (λ (c : Command). (worker_of from, c)) own) (run_commands_from copies versions (from + 1) n)
    ∙ either (from == worker.0) refl (λ apart. one_from copies versions worker (from + 1) n (omega (arith, above, apart)) (omega (arith, below))) where
      own : List Command
      own = run_commands versions (patch_parts_of copies (worker_of from))

      either : (b : Bool) → (from == worker.0) ≡ b
          → ((from ≡ worker.0 → ⊥)
          → commands_for worker (run_commands_from copies versions (from + 1) n) ≡ run_commands versions (patch_parts_of copies worker))
          → commands_for worker (map (λ (c : Command). (worker_of from, c)) own) ++ commands_for worker (run_commands_from copies versions (from + 1) n)
          ≡ run_commands versions (patch_parts_of copies worker)
      either true is later =
          let same : from ≡ worker.0 = eqb-true from worker.0 is in
          ap₂ (λ (xs ys : List Command). xs ++ ys) (for_here worker from own same)
          (none_from copies versions worker (from + 1) n (λ k low high equal. omega (arith, low, equal, same)))
          ∙ append-nil own
          ∙ ap (λ (k : ℕ). run_commands versions (patch_parts_of copies (worker_of k))) same
      either false is later =
          let apart : from ≡ worker.0 → ⊥ = eqb-false from worker.0 is in
          ap (λ (xs : List Command). xs ++ commands_for worker (run_commands_from copies versions (from + 1) n)) (for_there worker from own apart)
          ∙ later apart

-- a worker's commands of a run
pub run_for : (copies : List PatchCopy) (versions : Versions) (worker : Worker) → worker.0 < versions.workers
    → commands_for worker (patch_commands_of copies versions) ≡ run_commands versions (patch_parts_of copies worker)
run_for copies versions worker below = one_from copies versions worker 0 versions.workers (omega arith) (omega (arith, below))

-- both ends of a copy are of so many workers
abbrev pub AreWithinWorkers : ℕ → List PatchCopy → Type 0
AreWithinWorkers workers copies = AllByRecursion (λ (copy : PatchCopy). (copy.from.0 < workers) × (copy.to.0 < workers)) copies

-- a worker that isn't there has nothing of copies
none_past : (versions : Versions) (worker : Worker) (number workers : ℕ) (copies : List PatchCopy) → AreWithinWorkers workers copies → workers ≤ worker.0
    → commands_for worker (copied_from versions number copies) ≡ []
none_past versions worker number workers [] within past = refl
none_past versions worker number workers (copy ∷ copies) within past =
    let below = within.0.0 in
    let also = within.0.1 in
    for_append worker (copy_for versions number copy) (copied_from versions (number + 1) copies)
    ∙ ap₂ (λ (xs ys : List Command). xs ++ ys)
    (two_for worker (copy.from, send_at (patch_number number) copy.to copy.object)
    (copy.to, receive_at (patch_number number) copy.object (latest_of versions copy.object)) false false
    (ne_eqb copy.from.0 worker.0 (λ same. omega (arith, same, below, past))) (ne_eqb copy.to.0 worker.0 (λ same. omega (arith, same, also, past))))
    (none_past versions worker (number + 1) workers copies within.1 past)

-- so a run asks each worker for its commands of the copies
pub run_same : (copies : List PatchCopy) (versions : Versions) → AreWithinWorkers versions.workers copies
    → AreSame (patch_commands_of copies versions) (copied_from versions 0 copies)
run_same copies versions within worker = either (cases_lt worker.0 versions.workers) where
  either : (worker.0 < versions.workers) ⊎ (versions.workers ≤ worker.0)
      → map without_before (commands_for worker (patch_commands_of copies versions))
      ≡ map without_before (commands_for worker (copied_from versions 0 copies))
  either (inl below) = ap (map without_before) (run_for copies versions worker below) ∙ own_bare versions worker copies
  either (inr past) =
      ap (map without_before)
      (none_from copies versions worker 0 versions.workers (λ k above below same. omega (arith, below, same, past))
      ∙ sym (none_past versions worker 0 versions.workers copies within past))
