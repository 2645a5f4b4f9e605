use Rattle.std.proofs.Common.{◌≡◌, List, length, map, ap, ◌∙◌}
use Rattle.nim_base.specs.declared.task.TaskForm.{TaskForm}
use Rattle.nim_template.specs.Built.{template_of}
use Rattle.nim_template.specs.Walk.{empty_walk, home_of, walked}
use Rattle.nim_template.proofs.Forms.{built_is}
use Rattle.nim_template.proofs.build.built.Goals as goal

pub returns : goal.returns
returns c =
    let copied : c.into_vec-forms.result.items ≡ c.args.template.now.forms = c.into_vec-forms.ensures ∙ c.in_ok-copy.ensures in
    let kept : c.from_vec-forms.result ≡ c.args.template.now.forms = c.from_vec-forms.ensures ∙ c.in_ok-walk.ensures.forms ∙ copied in
    built_is c.args.place.now c.args.objects c.args.live.now c.args.template.now c.in_ok-homes.homes.items c.in_ok-slots.slots.items c.in_ok-walk.walk
    c.in_ok-made.made
    (c.in_ok-homes.ensures ∙ ap (map (home_of c.args.place.now c.args.objects c.args.live.now)) (c.as_slice.ensures.value ∙ copied))
    (c.in_ok-walk.ensures.walk
    ∙ ap (walked c.args.place.now c.args.live.now 0 (empty_walk (length c.args.live.now) c.args.objects)) copied)
    c.in_ok-slots.ensures
    (c.in_ok-made.ensures
    ∙ ap (λ (fs : List TaskForm). template_of (record { block = c.args.template.now.block; forms = fs }) (length c.args.live.now)
    c.in_ok-slots.slots.items c.in_ok-walk.walk c.in_ok-homes.homes.items) kept)
