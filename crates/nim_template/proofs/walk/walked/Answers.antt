use Rattle.std.proofs.Common.{rules, ◌≡◌, ◌<◌, List, length, get_or, ap, ◌∙◌}
use Rattle.nim_base.specs.declared.task.TaskForm.{TaskForm}
use Rattle.nim_template.proofs.Fits.{first_of, first_within}
use Rattle.nim_template.proofs.Forms.{put_back, walked_more}
use Rattle.nim_template.proofs.Sizes.{form_like}
use Rattle.nim_template.proofs.walk.walked.Goals as goal

pub take_form-requires-clause-writes : goal.take_form-requires-clause-writes
take_form-requires-clause-writes c =
    let form : TaskForm = c.index_mut.result.now in
    let inside : c.loop-number.number < length c.args.forms.now.items = search rules in
    first_within c.args.objects c.loop-number.walk.offsets.objects form.writes c.loop-number.invariant.objects
    (first_of c.args.objects c.args.forms.now.items c.loop-number.number form c.requires.all_fit inside
    (c.index_mut.ensures.value ∙ ap (λ (l : List TaskForm). get_or l c.loop-number.number form) c.loop-number.invariant.forms))

pub loop-number-preserved : goal.loop-number-preserved
loop-number-preserved c =
    let form : TaskForm = c.index_mut.result.now in
    let inside : c.loop-number.number < length c.args.forms.now.items = search rules in
    let at : form ≡ get_or c.args.forms.now.items c.loop-number.number form =
    c.index_mut.ensures.value ∙ ap (λ (l : List TaskForm). get_or l c.loop-number.number form) c.loop-number.invariant.forms in
    let like = form_like c.args.place.now c.args.live.now c.loop-number.number c.loop-number.walk c.take_form.new.self form c.in_ok-take_form.ensures.walk in
    record {
      forms = put_back c.loop-number.forms.items c.args.forms.now.items c.loop-number.number form c.take_form.new.form c.loop-number.invariant.forms at
          c.in_ok-take_form.ensures.form;
      workers = like.workers ∙ c.loop-number.invariant.workers;
      objects = like.objects ∙ c.loop-number.invariant.objects;
      so_far =
          walked_more c.args.place.now c.args.live.now c.args.forms.now.items c.loop-number.number c.loop-number.walk c.take_form.new.self form
          inside at c.in_ok-take_form.ensures.walk ∙ c.loop-number.invariant.so_far;
    }
