use Rattle.std.proofs.Common.{◌≡◌, ◌∙◌, ℕ, ℤ, List, ap, ap₂, sym}
use Rattle.nim_command.specs.declared.edit.Edit.{Edit}
use Rattle.nim_command.specs.declared.entry.Entry.{Entry}
use Rattle.nim_command.specs.Edits.{edited_by}
use Rattle.nim_command.specs.Expansion.{expanded}
use Rattle.nim_message.specs.Orders.{with_list}
use Rattle.nim_plan.specs.Installed.{halves_of}
use Rattle.nim_worker.specs.Messages.{half_asked}
use Rattle.nim_worker.proofs.messages.instantiate.Goals as goal

pub returns-clause-ok : goal.returns-clause-ok
returns-clause-ok c =
    let old = c.args.installed.now in
    let half : c.in_ok-half.half ≡ half_asked old c.args.block c.args.asked =
    c.in_ok-half.ensures.half ∙ ap (λ (edits : List Edit). edited_by edits (halves_of old c.args.block)) c.as_slice-3.ensures in
    let made : c.in_ok-half.commands.items ≡ expanded c.args.asked.base c.args.asked.args c.args.asked.versions 0 (half_asked old c.args.block c.args.asked) =
    c.in_ok-half.ensures.commands
    ∙ ap (λ (edits : List Edit). expanded c.args.asked.base c.as_slice.result.now c.as_slice-2.result.now 0 (edited_by edits (halves_of old c.args.block)))
    c.as_slice-3.ensures
    ∙ ap₂ (λ (args : List ℤ) (versions : List ℕ). expanded c.args.asked.base args versions 0 (half_asked old c.args.block c.args.asked)) c.as_slice.ensures
    c.as_slice-2.ensures in
    record {
      has = record {
        halves = c.replace.ensures.halves
            ∙ ap₂ (λ (h : List Entry) (halves : ℕ → List Entry). with_list c.args.block h halves) half c.in_ok-make_place.ensures.has.halves;
        patches = c.replace.ensures.patches ∙ c.in_ok-make_place.ensures.has.patches;
      };
      admitted = λ groups ran next stands is.
          c.in_ok-admit.ensures.ok groups ran next stands (record { head = is.head; told = is.told; commands = is.commands ∙ sym made });
    }
