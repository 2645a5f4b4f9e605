use Rattle.std.proofs.Common.{refl}
use Rattle.nim_place.specs.Versions.{latest_of}
use Rattle.nim_template.specs.Instance.{half_of}
use Rattle.nim_reuse.proofs.Steps.{named_received}
use Rattle.nim_reuse.proofs.orders.instance.Goals as goal

pub returns : goal.returns
returns c =
    rw (
      c.block.ensures,
      c.from_vec.ensures,
      c.in_ok-from_slice.ensures.items,
      c.from_vec-2.ensures,
      c.in_ok-versions_of.ensures,
      c.received.ensures,
      c.new.ensures,
      named_received (latest_of c.args.map.now) (half_of c.args.ready.now c.args.worker.0),
    ) refl
