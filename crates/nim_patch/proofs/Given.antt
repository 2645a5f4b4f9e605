-- The orders that install a patch, and those of a run of it, extend orders so far.
use Rattle.std.proofs.Common.{◌≡◌, ℕ, ◌+◌, ◌<◌, ◌≤◌, Bool, true, false, List, ◌++◌, get_or, length, map, ap, ap₂, sym, subst, ◌∙◌, arith}
use Rattle.std.proofs.Common.{Option, Some, Contains}
use Rattle.std.specs.Prelude.{if◌then◌else◌}
use Rattle.std.specs.Option.{is_some}
use Rattle.std.proofs.lemmas.Bool.{and_from, le-leb, not-false}
use Rattle.std.proofs.lemmas.List.Elements.{All-contains, All-contains_itself, All-weaker}
use Rattle.std.proofs.lemmas.List.Sums.{list_all-from_AllPass}
use Rattle.nim_base.specs.declared.number.Object.{Object}
use Rattle.nim_base.specs.declared.number.Worker.{Worker}
use Rattle.nim_command.specs.declared.command.Command.{Command}
use Rattle.nim_command.specs.declared.edit.PatchPart.{PatchPart}
use Rattle.nim_command.specs.Numbers.{main_slot, patch_number}
use Rattle.nim_command.specs.Ranks.{is_patch_number}
use Rattle.nim_command.specs.Waits.{commands_of}
use Rattle.nim_message.specs.declared.order.ToWorker.{ToWorker}
use Rattle.nim_order.proofs.Sessions.{orders_cover}
use Rattle.nim_job.specs.declared.job.Job.{Job}
use Rattle.nim_plan.specs.Legal.{AreLegal}
use Rattle.nim_plan.specs.Paired.{Key, keys_received, keys_sent}
use Rattle.nim_patch.specs.declared.patch.PatchCopy.{PatchCopy}
use Rattle.nim_patch.specs.Given.{HasParts, PatchInstallsExtend, PatchRunsExtend, install_parts, is_patch_key_in, patch_installs_of, patch_runs_of, run_parts}
use Rattle.nim_patch.specs.Mends.{Mends, is_target}
use Rattle.nim_patch.specs.Parts.{patch_parts_of, patch_commands_of, run_commands}
use Rattle.nim_patch.specs.Patches.{after_copies, patch_copies}
use Rattle.nim_patch.proofs.Copied.{IsCopied, copied_all, same_slots}
use Rattle.nim_patch.proofs.Due.{AreDue, behind_none, copies_due, due_within}
use Rattle.nim_patch.proofs.InTurn.{copies_given, copies_legal}
use Rattle.nim_patch.proofs.Mended.{patch_mends}
use Rattle.nim_patch.proofs.OneWorker.{IsPatchIn, IsPatchOut, patch_in, install_legal, install_ruled, patch_out, run_legal, run_ruled}
use Rattle.nim_patch.proofs.Runs.{copied_from, run_for, run_same}
use Rattle.nim_place.specs.Extends.{is_live, longer}
use Rattle.nim_place.specs.Stands.{commands_for}
use Rattle.nim_place.specs.TaskOrders.{IsAt}
use Rattle.nim_place.specs.Versions.{Versions, held_at, holder, is_current, is_kept, latest_of}
use Rattle.nim_place.proofs.Held.{for_append}
use Rattle.nim_place.proofs.Keys.{new_received, new_sent, received_in, sent_in}
use Rattle.nim_place.proofs.LiveOnce.{live_within}
use Rattle.nim_place.proofs.Puts.{IsWhole, kept_bounds}
use Rattle.nim_template.specs.Again.{IsBefore, are_current}
use Rattle.nim_template.specs.MainSlots.{AreMainSlots}
use Rattle.nim_template.specs.Tasks.{without_before}
use Rattle.nim_template.proofs.Again.{some_same}
use Rattle.nim_template.proofs.Bare.{for_both, group_of, legal_same, new_received_same, new_sent_same, stands_same}
use Rattle.nim_template.proofs.Effects.{some_kept}
use Rattle.nim_template.proofs.Given.{map_none}
use Rattle.nim_template.proofs.InTurn.{AreLegalAt}
use Rattle.nim_template.proofs.SameKeys.{SendSame, same_none, same_paired}
use Rattle.nim_template.proofs.Sames.{AreSame}
use Rattle.nim_template.proofs.Turns.{AreGiven, between_parts, have_fewer, is_key_between, is_key_by}

-- ---- installed

-- orders that install a patch
pub patch_installs : (live : List Bool) (copies : List PatchCopy) → PatchInstallsExtend live copies
patch_installs live copies epoch patch lists given ask =
    record {
      asked = record {
        begun = λ worker there. (out worker there).begun;
        epoch = λ worker there. (out worker there).epoch;
        asked = λ worker there. ap commands_of (out worker there).groups ∙ ask.asked worker there;
        none = ask.none;
      };
      installed = λ worker there. (out worker there).installed;
      halves = λ worker there. (out worker there).halves;
      others = λ other apart worker there. (out worker there).others other apart;
      legal = λ job worker there before.
          install_legal job epoch patch (patch_parts_of copies worker) (lists worker.0) (ask.begun worker there) (ask.epoch worker there) before;
      covered = λ worker rule.
          (let all = install_ruled epoch patch (patch_parts_of copies worker) (lists worker.0) rule in
          record { by_rule = all; covered = orders_cover (longer lists more worker.0) all });
      paired = record {
        paired = λ pairs none. same_paired live lists (longer lists more) same pairs;
        others = λ other apart none. same_none live lists (longer lists more) other same none;
      };
    } where
      more : ℕ → List ToWorker
      more = patch_installs_of epoch patch copies

      out : (worker : Worker) → is_live live worker ≡ true
          → IsPatchOut (lists worker.0) (install_parts epoch patch (patch_parts_of copies worker)) epoch patch (patch_parts_of copies worker)
      out worker there = patch_out epoch patch (patch_parts_of copies worker) (lists worker.0) (ask.begun worker there) (ask.epoch worker there)

      same : SendSame live lists (longer lists more)
      same = record {
        sent = λ worker to there. sym (ap (sent_in to) (out worker there).groups);
        received = λ worker there. sym (ap received_in (out worker there).groups);
      }

-- ---- the map behind a run

-- the version in a slot, where it is the latest one or an earlier one
held_low : (b : Bool) (latest version base : ℕ) (old : Option ℕ) → (if b then Some latest else old) ≡ Some version → latest ≤ base
    → (old ≡ Some version → version ≤ base) → version ≤ base
held_low true latest version base old is low before = let same = some_same latest version is in omega (arith, same, low)
held_low false latest version base old is low before = before is

-- the map behind copies is before the same position
copies_before : (workers objects base : ℕ) (versions : Versions) (copies : List PatchCopy) → IsBefore workers objects base versions
    → IsBefore workers objects base (after_copies versions copies)
copies_before workers objects base versions copies before = record {
  rows = done.workers ∙ before.rows;
  columns = done.objects ∙ before.columns;
  slots = done.whole.slots;
  all = done.whole.all;
  latest = λ object there. (let is = same object in let low = before.latest object there in omega (arith, is, low));
  held = λ worker object version is.
      (let kept : is_kept versions worker (main_slot object) ≡ true =
      sym (same_slots versions after worker (main_slot object) done.workers done.objects) ∙ some_kept after worker (main_slot object) version is in
      let inside = (kept_bounds versions worker (main_slot object) kept).1 in
      let columns = before.columns in
      held_low (is_target copies worker (main_slot object)) (latest_of versions object) version base (held_at versions worker (main_slot object))
      (sym (done.held worker (main_slot object) kept) ∙ is) (before.latest object (omega (arith, inside, columns)))
      (before.held worker object version));
  room = before.room;
} where
  after : Versions
  after = after_copies versions copies

  done : IsCopied versions copies (after_copies versions copies)
  done = copied_all versions copies (record { slots = before.slots; all = before.all })

  same : (object : Object) → latest_of after object ≡ latest_of versions object
  same object = ap (λ (l : List ℕ). get_or l object.0 0) done.latest

-- ---- the preconditions

-- behind the copies they hold
all_hold : (live : List Bool) (objects : ℕ) (versions : Versions) (preconditions : List (Worker × Object)) → IsWhole versions
    → versions.workers ≡ length live → versions.objects ≡ objects → AreMainSlots live objects preconditions
    → ((object : Object) → object.0 < versions.objects → is_some (holder versions object) ≡ true)
    → are_current (after_copies versions (patch_copies versions preconditions)) preconditions ≡ true
all_hold live objects versions preconditions whole rows columns are held =
    list_all-from_AllPass holds preconditions
    (All-weaker (Contains preconditions) (λ (need : Worker × Object). holds need ≡ true)
    (λ need among.
    let there = All-contains (λ (slot : Worker × Object). (is_live live slot.0 ≡ true) × (slot.1.0 < objects)) preconditions need are.there among in
    let within = live_within live need.0 there.0 in
    let inside = there.1 in
    not-false (holds need) (mends.holds need among (omega (arith, rows, within)) (held need.1 (omega (arith, columns, inside)))))
    preconditions (All-contains_itself preconditions)) where
      holds : Worker × Object → Bool
      holds need = is_current (after_copies versions (patch_copies versions preconditions)) need.1 need.0

      mends : Mends versions preconditions (patch_copies versions preconditions)
      mends = patch_mends versions preconditions whole

-- ---- a run

-- orders that run a patch
pub patch_runs : (live : List Bool) (objects : ℕ) (versions : Versions) (preconditions : List (Worker × Object))
    → AreMainSlots live objects preconditions → PatchRunsExtend live objects preconditions (patch_copies versions preconditions) versions
patch_runs live objects versions preconditions are epoch instance patch base lists given may =
    record {
      so_far = record {
        stands = stands_same given real own after (λ worker. sym (same_as worker)) all.so_far.stands;
        ask = record {
          begun = λ worker there. (on worker there).begun;
          epoch = λ worker there. (on worker there).epoch;
          asked = λ worker there.
              (on worker there).asked
              ∙ ap₂ (λ (xs ys : List Command). xs ++ ys) (may.so_far.ask.asked worker there) (sym (own_is worker there))
              ∙ sym (for_append worker given own);
          none = λ worker dead.
              map_none without_before (commands_for worker (given ++ own))
              (for_both worker given own real same_as ∙ ap (map without_before) (all.so_far.ask.none worker dead));
        };
      };
      before = copies_before (length live) objects base versions copies may.before;
      current = all_hold live objects versions preconditions whole may.before.rows may.before.columns are;
      installed = λ worker there.
          subst (λ (now : List PatchPart). HasParts now (patch_parts_of copies worker))
          (sym (ap (λ (p : ℕ → List PatchPart). p patch) (on worker there).patches)) (may.installed worker there);
      halves = λ worker there. (on worker there).halves;
      patches = λ other worker there. ap (λ (p : ℕ → List PatchPart). p other) (on worker there).patches;
      covered = λ worker rule.
          (let ruled = run_ruled epoch instance patch versions (patch_parts_of copies worker) (lists worker.0) rule in
          record { by_rule = ruled; covered = orders_cover (longer lists more worker.0) ruled });
      paired = record {
        paired = λ pairs none.
            same_paired live all.next (longer lists more) same
            (all.paired pairs
            (have_fewer (is_patch_key_in epoch instance) (is_key_between epoch instance (patch_number 0) last_number) live lists of_patch none));
        others = λ other apart none.
            same_none live all.next (longer lists more) other same (all.others other (λ key is. apart key (of_patch key is)) none);
      };
      legal = λ job at worker there before.
          run_legal job epoch instance patch versions (patch_parts_of copies worker) (lists worker.0)
          (may.so_far.ask.begun worker there) (may.so_far.ask.epoch worker there) (may.installed worker there)
          (subst (λ (past : List Command). AreLegal job past (run_commands versions (patch_parts_of copies worker))) (sym (may.so_far.ask.asked worker there))
          (subst (AreLegal job (commands_for worker given)) (own_is worker there)
          (legal_same job (commands_for worker given) (commands_for worker real) (commands_for worker own) (sym (same_as worker))
          ((legal_at job at).legal worker)))) before;
      next = λ job at. (legal_at job at).at;
    } where
      copies : List PatchCopy
      copies = patch_copies versions preconditions

      after : Versions
      after = after_copies versions copies

      whole : IsWhole versions
      whole = record { slots = may.before.slots; all = may.before.all }

      due : AreDue live versions copies
      due = copies_due live objects versions preconditions may.before.rows may.before.columns are

      real : List (Worker × Command)
      real = copied_from versions 0 copies

      own : List (Worker × Command)
      own = patch_commands_of copies versions

      more : ℕ → List ToWorker
      more = patch_runs_of epoch instance patch copies versions

      same_as : AreSame own real
      same_as = run_same copies versions (due_within live versions copies due)

      last_number : ℕ
      last_number = patch_number 0 + length copies

      all : AreGiven live epoch instance (patch_number 0) last_number lists given real after
      all = copies_given live epoch instance 0 versions versions copies lists given may.so_far (behind_none versions whole) due

      of_patch : (key : Key) → is_key_between epoch instance (patch_number 0) last_number key ≡ true → is_patch_key_in epoch instance key ≡ true
      of_patch key is =
          let parts = between_parts epoch instance (patch_number 0) last_number key is in
          let least : 131072 + 0 ≤ key.entry = parts.least in
          and_from (is_key_by epoch instance key) (is_patch_number key.entry) parts.of (le-leb 131072 key.entry (omega (arith, least)))

      on : (worker : Worker) → is_live live worker ≡ true
          → IsPatchIn (lists worker.0) (run_parts epoch instance patch versions (patch_parts_of copies worker)) epoch instance
          (run_commands versions (patch_parts_of copies worker))
      on worker there =
          patch_in epoch instance patch versions (patch_parts_of copies worker) (lists worker.0) (may.so_far.ask.begun worker there)
          (may.so_far.ask.epoch worker there) (may.installed worker there)

      own_is : (worker : Worker) → is_live live worker ≡ true → commands_for worker own ≡ run_commands versions (patch_parts_of copies worker)
      own_is worker there =
          let below = live_within live worker there in
          let rows = may.before.rows in
          run_for copies versions worker (omega (arith, below, rows))

      same : SendSame live all.next (longer lists more)
      same = record {
        sent = λ worker to there.
            all.sent worker to there
            ∙ ap (λ (keys : List Key). keys_sent to (lists worker.0) ++ keys)
            (new_sent_same to (group_of epoch instance) (commands_for worker given) (commands_for worker real) (commands_for worker own) (sym (same_as worker))
            ∙ ap₂ (λ (past cs : List Command). new_sent to (group_of epoch instance) past cs) (sym (may.so_far.ask.asked worker there)) (own_is worker there))
            ∙ sym ((on worker there).sent to);
        received = λ worker there.
            all.received worker there
            ∙ ap (λ (keys : List Key). keys_received (lists worker.0) ++ keys)
            (new_received_same (group_of epoch instance) (commands_for worker real) (commands_for worker own) (sym (same_as worker))
            ∙ ap (new_received (group_of epoch instance)) (own_is worker there))
            ∙ sym (on worker there).received;
      }

      legal_at : (job : Job) → IsAt job base versions → AreLegalAt job base given real after
      legal_at job at =
          let few = are.few in
          let columns = may.before.columns in
          let also = at.objects in
          copies_legal live job base 0 versions versions copies given may.so_far.stands (omega (arith, few, columns, also)) at (behind_none versions whole) due
