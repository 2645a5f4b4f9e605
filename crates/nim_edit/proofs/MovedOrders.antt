-- The orders of an instance, with no edits and with those that weren't sent yet.
use Rattle.std.proofs.Common.{◌≡◌, ℕ, ◌≤◌, Bool, true, List, [], length, refl, ap, sym, ◌∙◌}
use Rattle.std.proofs.Common.{arith}
use Rattle.std.specs.Prelude.{slice_index_or}
use Rattle.std.specs.List.{list_all, list_any}
use Rattle.std.proofs.lemmas.List.FromFn.{length-map-range_with_len}
use Rattle.nim_base.specs.declared.number.Worker.{Worker}
use Rattle.nim_command.specs.declared.edit.Edit.{Edit}
use Rattle.nim_command.specs.declared.entry.Entry.{Entry}
use Rattle.nim_command.specs.declared.template.WorkerTemplate.{WorkerTemplate}
use Rattle.nim_command.specs.Edits.{edited_by}
use Rattle.nim_message.specs.Orders.{session_of}
use Rattle.nim_place.specs.declared.placement.Placement.{Placement}
use Rattle.nim_place.specs.Extends.{is_live}
use Rattle.nim_place.specs.Versions.{latest_of}
use Rattle.nim_place.proofs.LiveOnce.{live_within}
use Rattle.nim_template.specs.declared.template.ControllerTemplate.{ControllerTemplate}
use Rattle.nim_template.specs.Built.{half_for}
use Rattle.nim_template.specs.Fits.{is_fit}
use Rattle.nim_template.specs.Given.{InstancesExtend, instances_of}
use Rattle.nim_template.specs.Instance.{half_of}
use Rattle.nim_template.proofs.Left.{entries_of}
use Rattle.nim_template.proofs.OneWorker.{in_for, instance_legal, instance_ruled}
use Rattle.nim_edit.specs.Carried.{CarriedExtend, carried_of, edits_for}
use Rattle.nim_edit.specs.Form.{WasBuilt}
use Rattle.nim_edit.proofs.Carried.{IsCarriedBy, carried_in, carried_legal, carried_ruled, edited_for}
use Rattle.nim_edit.proofs.Forms.{halves_long, long_edits}
use Rattle.nim_edit.proofs.MovedExtend.{was_extended}

-- with no edits
pub was_instances : (place : Placement) (objects : ℕ) (live : List Bool) (recorded : ControllerTemplate) (template : WorkerTemplate)
    → WasBuilt place objects live recorded template → list_any (λ (flag : Bool). flag) live ≡ true → length live ≤ 16 → objects ≤ 512
    → length recorded.forms ≤ 1024 → list_all (is_fit objects) recorded.forms ≡ true → list_all (is_live live) template.owners ≡ true
    → InstancesExtend live objects template
was_instances place objects live recorded template was some workers_few objects_few few fit owned epoch instance base args lists given versions may =
    was_extended place objects live recorded template was some workers_few objects_few few fit owned epoch instance base args
    (instances_of epoch instance template base args versions) lists given versions
    (record { so_far = may.so_far; before = may.before; room = may.room; current = may.current })
    (record {
      on = λ worker there.
          in_for epoch instance template.block base args (latest_of versions) (half worker) (lists worker.0) (may.so_far.ask.begun worker there)
          (may.so_far.ask.epoch worker there) (may.installed worker there);
      ruled = λ worker rule. instance_ruled epoch instance template.block base args (latest_of versions) (half worker) (lists worker.0) rule;
      lawful = λ job worker there legal before.
          instance_legal job epoch instance template.block base args (latest_of versions) (half worker) (lists worker.0)
          (may.so_far.ask.begun worker there) (may.so_far.ask.epoch worker there) (may.installed worker there) legal before;
    }) where
      half : Worker → List Entry
      half worker = half_of template worker.0

-- with the edits that weren't sent yet
pub was_carried : (place : Placement) (objects : ℕ) (live : List Bool) (recorded : ControllerTemplate) (template : WorkerTemplate)
    → WasBuilt place objects live recorded template → list_any (λ (flag : Bool). flag) live ≡ true → length live ≤ 16 → objects ≤ 512
    → length recorded.forms ≤ 1024 → list_all (is_fit objects) recorded.forms ≡ true → list_all (is_live live) template.owners ≡ true
    → CarriedExtend live objects template
was_carried place objects live recorded template was some workers_few objects_few few fit owned sent epoch instance base args lists given versions may =
    record {
      extended =
          was_extended place objects live recorded template was some workers_few objects_few few fit owned epoch instance base args
          (carried_of epoch instance template base args versions) lists given versions
          (record { so_far = may.so_far; before = may.before; room = may.room; current = may.current })
          (record {
            on = λ worker there. (carried worker there).list;
            ruled = λ worker rule.
                carried_ruled epoch instance template.block base args (latest_of versions) (edits worker) (half worker) (lists worker.0) rule;
            lawful = λ job worker there legal before.
                carried_legal job epoch instance template.block base args (latest_of versions) (edits worker) (half worker) (lists worker.0)
                (may.so_far.ask.begun worker there) (may.so_far.ask.epoch worker there) (has worker there) legal before;
          });
      as_sent = record { edited = refl; there = λ worker there. (carried worker there).half_is };
    } where
      half : Worker → List Entry
      half worker = half_of template worker.0

      edits : Worker → List Edit
      edits worker = edits_for template.unsent worker.0

      wide : length template.built ≡ length live
      wide =
          ap (λ (halves : List (List Entry)). length halves) was.built
          ∙ length-map-range_with_len (λ (k : ℕ). half_for (record { 0 = k }) (entries_of place objects live recorded.forms)) 0 (length live)

      sent_long : length sent ≡ length live
      sent_long =
          sym (long_edits sent template.unsent) ∙ sym (ap (λ (halves : List (List Entry)). length halves) may.as_sent.edited)
          ∙ halves_long template was.form ∙ wide

      has : (worker : Worker) → is_live live worker ≡ true
          → edited_by (edits_for template.unsent worker.0) ((session_of (lists worker.0)).halves template.block) ≡ half_of template worker.0
      has worker there =
          ap (edited_by (edits_for template.unsent worker.0)) (may.as_sent.there worker there)
          ∙ sym (edited_for sent template.unsent worker.0 (omega (arith, live_within live worker there, sent_long)))
          ∙ sym (ap (λ (halves : List (List Entry)). slice_index_or halves worker.0 []) may.as_sent.edited)

      carried : (worker : Worker) → is_live live worker ≡ true
          → IsCarriedBy (lists worker.0) epoch instance template.block base args (latest_of versions) (edits_for template.unsent worker.0)
          (half_of template worker.0)
      carried worker there =
          carried_in epoch instance template.block base args (latest_of versions) (edits worker) (half worker) (lists worker.0)
          (may.so_far.ask.begun worker there) (may.so_far.ask.epoch worker there) (has worker there)
