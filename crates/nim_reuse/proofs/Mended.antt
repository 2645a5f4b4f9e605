-- The patch before an instance, behind orders so far.
use Rattle.std.proofs.Common.{◌≡◌, ℕ, zero, suc, ◌+◌, ◌<◌, Bool, true, false, not, length, List, [], ◌∷◌, ◌++◌, cond, refl, ap, sym, subst, ◌∙◌, arith}
use Rattle.std.specs.Prelude.{All, if◌then◌else◌, Option, None, option_map}
use Rattle.std.specs.Option.{is_some}
use Rattle.std.proofs.lemmas.Bool.{and_from}
use Rattle.std.proofs.lemmas.List.{append-nil}
use Rattle.std.proofs.lemmas.List.Sums.{sum_by-append}
use Rattle.nim_base.specs.declared.number.Object.{Object}
use Rattle.nim_base.specs.declared.number.Worker.{Worker}
use Rattle.nim_command.specs.declared.command.Command.{Command}
use Rattle.nim_command.specs.declared.entry.Entry.{Entry}
use Rattle.nim_message.specs.declared.order.ToWorker.{ToWorker}
use Rattle.nim_job.specs.declared.job.Job.{Job}
use Rattle.nim_place.specs.Extends.{longer}
use Rattle.nim_place.specs.TaskOrders.{AreSoFar, IsAt}
use Rattle.nim_place.specs.Versions.{Versions, holder, is_current}
use Rattle.nim_template.specs.Again.{IsBefore, are_current}
use Rattle.nim_template.specs.MainSlots.{AreMainSlots}
use Rattle.nim_patch.specs.declared.kept.Key.{Key}
use Rattle.nim_patch.specs.declared.patch.PatchCopy.{PatchCopy}
use Rattle.nim_patch.specs.Given.{ArePartsInstalled, is_patch_key_in, patch_installs_of, patch_runs_of}
use Rattle.nim_patch.specs.Parts.{patch_commands_of, run_commands_from}
use Rattle.nim_patch.specs.Patches.{after_copies, patch_copies, copy_first, copy_to_precondition, failing_in, fails}
use Rattle.nim_patch.specs.Uses.{Use}
use Rattle.nim_patch.proofs.Given.{patch_installs, patch_runs}
use Rattle.nim_reuse.specs.declared.reused.Patched.{Patched}
use Rattle.nim_reuse.specs.declared.reused.Patched.TheVariants.{Not, Repeated, Made}
use Rattle.nim_reuse.specs.GoesOn.{HasPartsInstalled}
use Rattle.nim_reuse.specs.Reuse as reuses
use Rattle.nim_reuse.proofs.Follows.{Follow, StayLegal, follow_same, longer_none, no_key, none_then}
use Rattle.nim_reuse.proofs.Uses.{HasCopies, IsFor, found_installed, is_made}

-- ---- no precondition fails

-- a count of one more
one_more : (versions : Versions) (need : Worker × Object) (needs : List (Worker × Object))
    → failing_in versions (need ∷ needs) ≡ (0 + cond (fails versions need) 1 0) + failing_in versions needs
one_more versions need needs = sum_by-append (λ (n : Worker × Object). cond (fails versions n) 1 0) (need ∷ []) needs

-- then there are no copies, and all hold
pub none_fail : (versions : Versions) (needs : List (Worker × Object)) → failing_in versions needs ≡ 0
    → (patch_copies versions needs ≡ []) × (are_current versions needs ≡ true)
none_fail versions [] none = (refl, refl)
none_fail versions (need ∷ needs) none =
    by (is_current versions need.1 need.0) refl (sym (one_more versions need needs) ∙ none) (none_fail versions needs) where
      by : (b : Bool) → is_current versions need.1 need.0 ≡ b → (0 + cond (not b) 1 0) + failing_in versions needs ≡ 0
          → (failing_in versions needs ≡ 0 → (patch_copies versions needs ≡ []) × (are_current versions needs ≡ true))
          → (patch_copies versions (need ∷ needs) ≡ []) × (are_current versions (need ∷ needs) ≡ true)
      by true is none rest =
          let on = rest (omega (arith, none)) in
          let copy : Bool → Option PatchCopy = λ b. if not b then option_map (copy_to_precondition need) (holder versions need.1) else None in (
            ap (λ (b : Bool). copy_first (copy b) (patch_copies versions needs)) is ∙ on.0,
            and_from (is_current versions need.1 need.0) (are_current versions needs) is on.1,
          )
      by false is none rest = absurd (omega (arith, none))

-- no copies ask for no commands
no_commands : (versions : Versions) (number workers : ℕ) → run_commands_from [] versions number workers ≡ []
no_commands versions number zero = refl
no_commands versions number (suc workers) = no_commands versions (number + 1) workers

-- ---- behind the patch

-- the preconditions hold in the map that stands for all that was asked for
pub record IsMended (live : List Bool) (objects : ℕ) (needs : List (Worker × Object)) (copies : List PatchCopy) (epoch instance base : ℕ)
    (patched : Patched) (renewed made : ℕ → Bool) (lists after : ℕ → List ToWorker) (commands : List (Worker × Command)) (versions : Versions)
    : Type 0 where
  pub so_far : AreSoFar live epoch after (commands ++ patch_commands_of copies versions) (after_copies versions copies)
  pub before : IsBefore (length live) objects base (after_copies versions copies)
  pub current : are_current (after_copies versions copies) needs ≡ true
  pub installed : HasCopies live copies after patched
  pub follow : Follow (is_patch_key_in epoch instance) live renewed made lists after
  pub legal : (job : Job) → IsAt job base versions → StayLegal job live lists after
  pub next : (job : Job) → IsAt job base versions → IsAt job base (after_copies versions copies)

-- so they do behind a run of a patch that is installed
patch_run : (live : List Bool) (objects : ℕ) (needs : List (Worker × Object)) (epoch instance patch base : ℕ) (renewed made : ℕ → Bool)
    (lists : ℕ → List ToWorker) (commands : List (Worker × Command)) (versions : Versions) → AreMainSlots live objects needs
    → AreSoFar live epoch lists commands versions → IsBefore (length live) objects base versions
    → ((object : Object) → object.0 < versions.objects → is_some (holder versions object) ≡ true)
    → ArePartsInstalled live patch (patch_copies versions needs) lists
    → IsMended live objects needs (patch_copies versions needs) epoch instance base (Repeated patch) renewed made lists
    (longer lists (patch_runs_of epoch instance patch (patch_copies versions needs) versions)) commands versions
patch_run live objects needs epoch instance patch base renewed made lists commands versions are so_far before held installed =
    let is =
    patch_runs live objects versions needs are epoch instance patch base lists commands
    (record { so_far = so_far; before = before; installed = installed }) in
    record {
      so_far = is.so_far;
      before = is.before;
      current = is.current held;
      installed = is.installed;
      follow = record {
        covered = is.covered;
        paired = is.paired.paired;
        others = is.paired.others;
        halves = λ block kept worker there. ap (λ (h : ℕ → List Entry). h block) (is.halves worker there);
        patches = λ other kept worker there. is.patches other worker there;
      };
      legal = is.legal;
      next = is.next;
    }

-- so the patch before an instance mends what fails
pub patch_mended : (live : List Bool) (objects : ℕ) (key : Key) (uses : List Use) (needs : List (Worker × Object)) (epoch instance base : ℕ)
    (patched : Patched) (renewed : ℕ → Bool) (lists : ℕ → List ToWorker) (commands : List (Worker × Command)) (versions : Versions)
    → IsFor key versions uses needs patched → All (HasPartsInstalled live lists) uses → AreMainSlots live objects needs
    → AreSoFar live epoch lists commands versions → IsBefore (length live) objects base versions
    → ((object : Object) → object.0 < versions.objects → is_some (holder versions object) ≡ true)
    → IsMended live objects needs (patch_copies versions needs) epoch instance base patched renewed (is_made patched) lists
    (longer (longer lists (reuses.patch_installs patched epoch (patch_copies versions needs)))
    (reuses.patch_runs patched epoch instance (patch_copies versions needs) versions)) commands versions
patch_mended live objects key uses needs epoch instance base Not renewed lists commands versions is kept are so_far before held =
    let none = none_fail versions needs is in
    let same : longer (longer lists reuses.no_orders) reuses.no_orders ≡ lists
    = longer_none (longer lists reuses.no_orders) ∙ longer_none lists in
    let asked : commands ++ patch_commands_of [] versions ≡ commands =
    ap (λ (cs : List (Worker × Command)). commands ++ cs) (no_commands versions 0 versions.workers) ∙ append-nil commands in
    subst
    (λ (after : ℕ → List ToWorker).
    IsMended live objects needs (patch_copies versions needs) epoch instance base Not renewed (is_made Not) lists after commands versions)
    (sym same)
    (subst (λ (copies : List PatchCopy). IsMended live objects needs copies epoch instance base Not renewed (is_made Not) lists lists commands versions)
    (sym none.0) (record {
      so_far = subst (λ (cs : List (Worker × Command)). AreSoFar live epoch lists cs versions) (sym asked) so_far;
      before = before;
      current = none.1;
      installed = tt;
      follow = follow_same (is_patch_key_in epoch instance) live renewed (is_made Not) lists;
      legal = λ job at worker there legal. legal;
      next = λ job at. at;
    }))
patch_mended live objects key uses needs epoch instance base (Repeated number) renewed lists commands versions is kept are so_far before held =
    let copies : List PatchCopy = patch_copies versions needs in
    subst
    (λ (first : ℕ → List ToWorker).
    IsMended live objects needs copies epoch instance base (Repeated number) renewed (is_made (Repeated number)) lists
    (longer first (patch_runs_of epoch instance number copies versions)) commands versions)
    (sym (longer_none lists))
    (patch_run live objects needs epoch instance number base renewed (is_made (Repeated number)) lists commands versions are so_far before held
    (found_installed live lists key copies number uses kept is))
patch_mended live objects key uses needs epoch instance base (Made number) renewed lists commands versions is kept are so_far before held =
    let copies : List PatchCopy = patch_copies versions needs in
    let first : ℕ → List ToWorker = longer lists (patch_installs_of epoch number copies) in
    let out = patch_installs live copies epoch number lists commands so_far.ask in
    let run =
    patch_run live objects needs epoch instance number base renewed (is_made (Made number)) first commands versions are
    (record { stands = so_far.stands; ask = out.asked }) before held out.installed in
    let given : Follow no_key live renewed (is_made (Made number)) lists first = record {
      covered = out.covered;
      paired = out.paired.paired;
      others = out.paired.others;
      halves = λ block kept worker there. ap (λ (h : ℕ → List Entry). h block) (out.halves worker there);
      patches = λ other kept worker there. out.others other kept worker there;
    } in
    record {
      so_far = run.so_far;
      before = run.before;
      current = run.current;
      installed = run.installed;
      follow =
          none_then (is_patch_key_in epoch instance) live renewed (is_made (Made number)) lists first
          (longer first (patch_runs_of epoch instance number copies versions)) given run.follow;
      legal = λ job at worker there legal. run.legal job at worker there (out.legal job worker there legal);
      next = run.next;
    }
