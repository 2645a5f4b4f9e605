use Rattle.std.proofs.Common.{◌≡◌, ◌∙◌, ℕ, ℤ, List, [], map, ap, refl, sym, rules}
use Rattle.std.specs.Prelude.{slice_index_or}
use Rattle.std.specs.List.{list_all}
use Rattle.nim_base.specs.declared.task.TaskForm.{TaskForm}
use Rattle.nim_job.specs.Tasks.{block_forms_of, task_with_args}
use Rattle.nim_job.specs.Whole.{is_whole_task}
use Rattle.nim_course.specs.declared.pending.Pending.{Pending}
use Rattle.nim_control.specs.contracts.controller.ControllerCore.{the_view}
use Rattle.nim_control.proofs.Forms.{forms_at, forms_fit}
use Rattle.nim_control.proofs.Given.{block_done, block_given}
use Rattle.nim_control.proofs.controller.ControllerCore.give.Goals as goal

pub give_block-requires-clause-few : goal.give_block-requires-clause-few
give_block-requires-clause-few c =
    let is = c.forms_of-forms.ensures ∙ ap (λ (all : List (List TaskForm)). slice_index_or all c.in-Block.block []) c.as_slice.ensures.value in
    let forms = forms_fit c.self.inside.job c.self.inside.forms.items c.in-Block.block c.as_slice-in-Block.result.now c.forms_of-forms.result.now
    c.self.invariant.1.whole c.self.invariant.0.0 is in
    forms.few

pub give_block-requires-clause-fit : goal.give_block-requires-clause-fit
give_block-requires-clause-fit c =
    let is = c.forms_of-forms.ensures ∙ ap (λ (all : List (List TaskForm)). slice_index_or all c.in-Block.block []) c.as_slice.ensures.value in
    let forms = forms_fit c.self.inside.job c.self.inside.forms.items c.in-Block.block c.as_slice-in-Block.result.now c.forms_of-forms.result.now
    c.self.invariant.1.whole c.self.invariant.0.0 is in
    ap (λ (n : ℕ). list_all (is_whole_task n) (map (task_with_args c.as_slice-in-Block.result.now) c.forms_of-forms.result.now)) c.self.invariant.1.objects
    ∙ forms.fit

pub returns-in_ok-push_open-clause-orders : goal.returns-in_ok-push_open-clause-orders
returns-in_ok-push_open-clause-orders c = λ waits.
    let is = c.forms_of-forms.ensures ∙ ap (λ (all : List (List TaskForm)). slice_index_or all c.in-Block.block []) c.as_slice.ensures.value in
    let made : c.forms_of-forms.result.now ≡ block_forms_of c.self.inside.job c.in-Block.block =
    is ∙ forms_at c.self.inside.job c.self.inside.forms.items c.in-Block.block c.self.invariant.0.0 in
    block_given (the_view c.self.inside) c.args.self.now c.in-Block.block c.as_slice-in-Block.result.now c.args.orders.now.items
    c.give_block.new.orders.items c.give_block.new.sites c.give_block.new.decisions c.give_block.new.summary c.in_ok-flight.flight
    c.self.view_is
    (c.in-Block.is ∙ ap (λ (args : List ℤ). Pending.Block c.in-Block.block args) (sym c.as_slice-in-Block.ensures))
    (c.in_ok-flight.ensures.given (the_view c.self.inside)
    (record { is_next = refl; has_forms = made; has_sites = refl; has_decisions = refl; has_counts = refl }))

pub returns-in_ok-push_open-clause-given : goal.returns-in_ok-push_open-clause-given
returns-in_ok-push_open-clause-given c = λ waits.
    let is = c.forms_of-forms.ensures ∙ ap (λ (all : List (List TaskForm)). slice_index_or all c.in-Block.block []) c.as_slice.ensures.value in
    let made : c.forms_of-forms.result.now ≡ block_forms_of c.self.inside.job c.in-Block.block =
    is ∙ forms_at c.self.inside.job c.self.inside.forms.items c.in-Block.block c.self.invariant.0.0 in
    let done = block_done (the_view c.self.inside) c.args.self.now c.in-Block.block c.as_slice-in-Block.result.now c.forms_of-forms.result.now
    c.args.orders.now.items c.give_block.new.orders.items c.give_block.new.sites c.give_block.new.decisions c.give_block.new.summary c.in_ok-flight.flight
    c.answer.new.self
    c.saturating_add-self-inside.result c.saturating_add-self-inside-in-Block.result c.push_open.new.flights.items c.self.view_is
    (c.in-Block.is ∙ ap (λ (args : List ℤ). Pending.Block c.in-Block.block args) (sym c.as_slice-in-Block.ensures)) made
    (c.in_ok-flight.ensures.given (the_view c.self.inside)
    (record { is_next = refl; has_forms = made; has_sites = refl; has_decisions = refl; has_counts = refl }))
    c.answer.ensures c.saturating_add-self-inside.ensures c.saturating_add-self-inside-in-Block.ensures c.in_ok-push_open.ensures in
    search (rules, done)
