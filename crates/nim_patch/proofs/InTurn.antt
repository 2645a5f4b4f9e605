-- The copies of a patch, given one after another.
use Rattle.std.proofs.Common.{◌≡◌, ℕ, ◌+◌, ◌≤◌, Bool, true, List, [], ◌∷◌, ◌++◌, length, refl, ap, sym, subst, arith}
use Rattle.nim_base.specs.declared.number.Worker.{Worker}
use Rattle.nim_command.specs.declared.command.Command.{Command}
use Rattle.nim_command.specs.Numbers.{main_slot, patch_number}
use Rattle.nim_message.specs.declared.order.ToWorker.{ToWorker}
use Rattle.nim_job.specs.declared.job.Job.{Job}
use Rattle.nim_job.specs.Objects.{objects_of}
use Rattle.nim_patch.specs.declared.patch.PatchCopy.{PatchCopy}
use Rattle.nim_patch.specs.Patches.{after_copies, after_copy}
use Rattle.nim_patch.proofs.Due.{AreDue, IsBehind, behind_more, due_copy}
use Rattle.nim_patch.proofs.Runs.{copied_from, copy_for}
use Rattle.nim_place.specs.Extends.{is_live}
use Rattle.nim_place.specs.Stands.{MapStands}
use Rattle.nim_place.specs.TaskOrders.{AreSoFar, IsAt}
use Rattle.nim_place.specs.Versions.{Versions, latest_of, with_version}
use Rattle.nim_place.proofs.Given.{all_stand}
use Rattle.nim_place.proofs.Held.{holder_lives}
use Rattle.nim_template.proofs.Copies.{IsCopy, copy_at_position, copy_given, copy_legal}
use Rattle.nim_template.proofs.InTurn.{AreLegalAt, legal_then}
use Rattle.nim_template.proofs.Turns.{AreGiven, given_then, nothing_given}

-- what a copy leaves in a map behind others
copy_left : (versions now : Versions) (copy : PatchCopy) → IsBehind versions now
    → with_version copy.to (latest_of versions copy.object) now (main_slot copy.object) ≡ after_copy now copy
copy_left versions now copy behind = ap (λ (n : ℕ). with_version copy.to n now (main_slot copy.object)) (sym (behind.latest copy.object))

-- orders that give copies, the first of them of this number
pub copies_given : (live : List Bool) (epoch instance number : ℕ) (versions now : Versions) (copies : List PatchCopy) (lists : ℕ → List ToWorker)
    (given : List (Worker × Command)) → AreSoFar live epoch lists given now → IsBehind versions now → AreDue live versions copies
    → AreGiven live epoch instance (patch_number number) (patch_number number + length copies) lists given (copied_from versions number copies)
    (after_copies now copies)
copies_given live epoch instance number versions now [] lists given so_far behind due =
    subst (λ (n : ℕ). AreGiven live epoch instance (patch_number number) n lists given [] now) (omega arith)
    (nothing_given live epoch instance (patch_number number) lists given now so_far)
copies_given live epoch instance number versions now (copy ∷ copies) lists given so_far behind due =
    let next : Versions = after_copy now copy in
    let commands : List (Worker × Command) = copy_for versions number copy in
    let more : List (Worker × Command) = copied_from versions (number + 1) copies in
    let copied : IsCopy now copy.from copy.to copy.object (latest_of versions copy.object) = due_copy live versions now copy behind due.0 in
    let lives : is_live live copy.from ≡ true = holder_lives now live epoch lists given copy.object copy.from so_far.stands so_far.ask copied.current in
    let one : AreGiven live epoch instance (patch_number number) (patch_number number + 1) lists given commands next =
    subst (AreGiven live epoch instance (patch_number number) (patch_number number + 1) lists given commands) (copy_left versions now copy behind)
    (copy_given live epoch instance (patch_number number) lists given now copy.from copy.to copy.object (latest_of versions copy.object) so_far copied lives
    due.0.lives) in
    let two : AreGiven live epoch instance (patch_number (number + 1)) (patch_number (number + 1) + length copies) one.next (given ++ commands) more
    (after_copies next copies) =
    copies_given live epoch instance (number + 1) versions next copies one.next (given ++ commands) one.so_far (behind_more versions now copy behind) due.1 in
    subst (λ (n : ℕ). AreGiven live epoch instance (patch_number number) n lists given (commands ++ more) (after_copies next copies)) (omega arith)
    (given_then live epoch instance (patch_number number) (patch_number number + 1) (patch_number (number + 1))
    (patch_number (number + 1) + length copies) lists given commands more next (after_copies next copies) (omega arith) (omega arith) (omega arith) one two)

-- they are legal for a job at whose position the map is, and the map stays there
pub copies_legal : (live : List Bool) (job : Job) (position number : ℕ) (versions now : Versions) (copies : List PatchCopy)
    (given : List (Worker × Command)) → MapStands given now → objects_of job.vars ≤ 512 → IsAt job position now → IsBehind versions now
    → AreDue live versions copies → AreLegalAt job position given (copied_from versions number copies) (after_copies now copies)
copies_legal live job position number versions now [] given stands small at behind due = record { legal = λ worker. tt; at = at }
copies_legal live job position number versions now (copy ∷ copies) given stands small at behind due =
    let next : Versions = after_copy now copy in
    let commands : List (Worker × Command) = copy_for versions number copy in
    let copied : IsCopy now copy.from copy.to copy.object (latest_of versions copy.object) = due_copy live versions now copy behind due.0 in
    let left = copy_left versions now copy behind in
    let here : IsAt job position next =
    subst (IsAt job position) left (copy_at_position job position given now copy.from copy.to copy.object (latest_of versions copy.object) stands at copied) in
    let on : MapStands (given ++ commands) next =
    subst (MapStands (given ++ commands)) left (all_stand commands now (copied.from_below, refl, (copied.to_below, refl, tt)) given stands) in
    legal_then job position position given commands (copied_from versions (number + 1) copies) next (after_copies next copies)
    (record {
      legal = copy_legal job position (patch_number number) given now copy.from copy.to copy.object (latest_of versions copy.object) stands at small copied;
      at = here;
    })
    (copies_legal live job position (number + 1) versions next copies (given ++ commands) on small here (behind_more versions now copy behind) due.1)
