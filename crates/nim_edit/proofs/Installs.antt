-- The orders that install the halves of a template in form extend orders so far.
use Rattle.std.proofs.Common.{◌≡◌, ◌<◌, ◌≤◌, Bool, true, List, [], length, refl, ap, sym, subst, ◌∙◌}
use Rattle.std.proofs.Common.{inl, inr}
use Rattle.std.specs.Prelude.{◌⊎◌}
use Rattle.std.proofs.lemmas.Bool.{cases_lt}
use Rattle.std.proofs.lemmas.List.{get_or_past}
use Rattle.nim_base.specs.declared.number.Worker.{Worker}
use Rattle.nim_command.specs.declared.template.WorkerTemplate.{WorkerTemplate}
use Rattle.nim_command.specs.Ruled.{entries_by_rule}
use Rattle.nim_command.specs.Waits.{commands_of}
use Rattle.nim_order.specs.Orders.{AreEntriesByRule}
use Rattle.nim_order.proofs.Sessions.{entries_ruled, orders_cover}
use Rattle.nim_place.specs.Extends.{is_live, longer}
use Rattle.nim_place.proofs.Keys.{received_in, sent_in}
use Rattle.nim_template.specs.Given.{InstallsExtend, install_with, installs_of}
use Rattle.nim_template.specs.Instance.{half_of}
use Rattle.nim_template.proofs.OneWorker.{IsOutFor, install_legal, install_ruled, out_for}
use Rattle.nim_template.proofs.SameKeys.{SendSame, same_none, same_paired}
use Rattle.nim_edit.specs.Form.{IsInForm}
use Rattle.nim_edit.proofs.ByRule.{halves_ruled}
use Rattle.nim_edit.proofs.Migrations.{same_at}

pub form_installs : (live : List Bool) (template : WorkerTemplate) → IsInForm template → InstallsExtend live template
form_installs live template form epoch lists given ask =
    record {
      asked = record {
        begun = λ worker there. (out worker there).begun;
        epoch = λ worker there. (out worker there).epoch;
        asked = λ worker there. ap commands_of (out worker there).groups ∙ ask.asked worker there;
        none = ask.none;
      };
      installed = λ worker there. (out worker there).installed;
      legal = λ job worker there before.
          install_legal job epoch template.block (half_of template worker.0) (lists worker.0) (ask.begun worker there) (ask.epoch worker there) before;
      covered = λ worker rule.
          (let all = install_ruled epoch template.block (half_of template worker.0) (lists worker.0) (ruled worker) rule in
          record { by_rule = all; covered = orders_cover (longer lists (installs_of epoch template) worker.0) all });
      paired = record {
        paired = λ pairs none. same_paired live lists (longer lists (installs_of epoch template)) same pairs;
        others = λ other apart none. same_none live lists (longer lists (installs_of epoch template)) other same none;
      };
    } where
      out : (worker : Worker) → is_live live worker ≡ true
          → IsOutFor (lists worker.0) (install_with epoch template.block (half_of template worker.0)) epoch template.block (half_of template worker.0)
      out worker there = out_for epoch template.block (half_of template worker.0) (lists worker.0) (ask.begun worker there) (ask.epoch worker there)

      ruled : (worker : Worker) → AreEntriesByRule (half_of template worker.0)
      ruled worker = either (cases_lt worker.0 (length template.halves)) where
        either : (worker.0 < length template.halves) ⊎ (length template.halves ≤ worker.0) → AreEntriesByRule (half_of template worker.0)
        either (inl below) =
            subst AreEntriesByRule (same_at (entries_by_rule []) template.halves worker.0 [] (halves_ruled template form) below)
            (entries_ruled [] (half_of template worker.0))
        either (inr past) = subst AreEntriesByRule (sym (get_or_past template.halves worker.0 [] past)) refl

      same : SendSame live lists (longer lists (installs_of epoch template))
      same = record {
        sent = λ worker to there. sym (ap (sent_in to) (out worker there).groups);
        received = λ worker there. sym (ap received_in (out worker there).groups);
      }
