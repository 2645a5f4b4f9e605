use Rattle.std.proofs.Common.{◌≡◌, ◌∷◌, arith, length, rules, true}
use Rattle.std.specs.List.{list_all}
use Rattle.nim_edit.specs.Form.{is_half_below}
use Rattle.nim_edit.proofs.Touched.{first_below}
use Rattle.nim_edit.proofs.migration.put_halves.Goals as goal

pub index_mut-requires : goal.index_mut-requires
index_mut-requires c =
    let below : list_all (is_half_below (length c.into_vec-all.result.items)) ((c.in-Some.worker, c.in-Some.half) ∷ c.next.new.self.rest.items) ≡ true =
    search rules in
    omega (
      arith,
      c.from.ensures,
      first_below (length c.into_vec-all.result.items) c.in-Some.worker c.in-Some.half c.next.new.self.rest.items below,
      c.loop-worker.invariant.long,
      c.loop-worker.all.ok.0,
    )
