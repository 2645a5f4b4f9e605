use Rattle.nim_edit.specs.Masks.{is_left}
use Rattle.nim_edit.proofs.Masks.{mask_room}
use Rattle.nim_edit.proofs.mask.mask_of.Goals as goal

pub with_bit-mask-requires : goal.with_bit-mask-requires
with_bit-mask-requires c =
    mask_room (is_left c.args.template.now c.args.task c.args.to) c.args.reads.now c.loop-at.at c.loop-at.mask c.requires.reads c.loop-at-test.true
    c.loop-at.invariant.within c.loop-at.invariant.mask
