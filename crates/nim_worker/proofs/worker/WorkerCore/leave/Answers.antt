use Rattle.std.proofs.Common.{◌≡◌, ◌++◌, ◌∙◌, List, Option, ap, ap₂, sym, subst, append_assoc}
use Rattle.std.specs.FinMap as map
use Rattle.std.specs.Option.{option_and_then, option_map_or, option_to_list}
use Rattle.nim_base.specs.Value.{Grid}
use Rattle.nim_command.specs.declared.command.Command.{Command}
use Rattle.nim_command.specs.declared.command.Kind.{Kind}
use Rattle.nim_store.specs.declared.key.Key.{Key}
use Rattle.nim_store.specs.Keys.{key_cmp}
use Rattle.nim_store.specs.Stored.{slot_at}
use Rattle.nim_history.specs.declared.out.Out.{Out}
use Rattle.nim_history.specs.History.{key_received, value_received}
use Rattle.nim_history.specs.Kept.{kept_by, own_outs}
use Rattle.nim_worker.specs.declared.head.GroupHead.{GroupHead}
use Rattle.nim_worker.specs.Admitted.{group_head}
use Rattle.nim_worker.specs.Chains.{AreWorks}
use Rattle.nim_worker.specs.Finishing.{through_of}
use Rattle.nim_worker.specs.Leaves.{IsHeadOf}
use Rattle.nim_worker.proofs.worker.WorkerCore.leave.Goals as goal

pub returns-clause-left : goal.returns-clause-left
returns-clause-left c = λ state asked begun more works same_inbox same_command same_head same_kind are.
    let at_epoch = ap (λ (h : GroupHead). h.epoch) same_head in
    let at_instance = ap (λ (h : GroupHead). h.instance) same_head in
    let head : IsHeadOf c.args.ended.head asked.group =
    record { epoch = at_epoch; instance = at_instance; single = ap (λ (h : GroupHead). h.single) same_head } in
    let all = c.args.self.now.store.shapes in
    let is : begun.kind ≡ c.args.ended.command.kind = same_kind ∙ ap (λ (k : Command). k.kind) (sym same_command) in
    let frame : c.take_frame-frame.result ≡ value_received state asked =
    c.take_frame-frame.ensures.value asked.group at_epoch at_instance
    ∙ ap₂ (λ (inbox : map.FinMap key_cmp Grid) (k : Command). option_and_then (λ (key : Key). map.get inbox key) (key_received asked.group k.id k.kind))
    same_inbox same_command in
    let told : option_to_list c.in_ok-out.out ≡ own_outs asked.group asked.command.kind state.slots =
    c.in_ok-out.ensures.outs state.slots begun more works asked.group is are head ∙ ap (λ (kind : Kind). own_outs asked.group kind state.slots) same_kind in
    record {
      inbox = c.take_frame-frame.ensures.rest asked.group at_epoch at_instance
          ∙ ap₂ (λ (inbox : map.FinMap key_cmp Grid) (k : Command). option_map_or (λ (key : Key). map.remove inbox key) (key_received asked.group k.id k.kind)
          inbox) same_inbox same_command;
      shapes = c.in_ok-out.ensures.shapes;
      works = subst (λ (value : Option Grid). AreWorks all (kept_by all value asked.command.kind state.slots) (slot_at c.complete.new.store) more works) frame
          (subst (λ (kind : Kind). AreWorks all (kept_by all c.take_frame-frame.result kind state.slots) (slot_at c.complete.new.store) more works) same_kind
          (c.in_ok-out.ensures.chain state.slots begun more works is are));
      given = c.in_ok-tell_through.ensures
          ∙ ap₂ (λ (outs : List Out) (h : GroupHead). outs ++ through_of h c.args.ended.through)
          (c.in_ok-give.ensures ∙ ap (λ (out : List Out). c.args.outs.now.items ++ out) told) same_head
          ∙ append_assoc c.args.outs.now.items (own_outs asked.group asked.command.kind state.slots) (through_of (group_head asked.group) c.args.ended.through);
    }
