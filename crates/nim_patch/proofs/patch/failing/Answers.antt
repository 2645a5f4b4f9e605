use Rattle.std.proofs.Common.{◌≡◌, ◌+◌, ℕ, ap, sym, ◌∙◌, length, rules}
use Rattle.std.proofs.lemmas.List.Sums.{count_by_more_no, count_by_more_yes}
use Rattle.nim_base.specs.declared.number.Object.{Object}
use Rattle.nim_base.specs.declared.number.Worker.{Worker}
use Rattle.nim_patch.specs.Patches.{fails}
use Rattle.nim_patch.proofs.Flags.{flag_more}
use Rattle.nim_patch.proofs.patch.failing.Goals as goal
use Rattle.nim_patch.proofs.patch.failing.Goals.{then-failed, else-failed}

abbrev none : Worker × Object
none = (record { 0 = 0 }, record { 0 = 0 })

pub loop-at-preserved : goal.loop-at-preserved
loop-at-preserved c =
    let all = c.as_slice-preconditions.result.now in
    let at = c.loop-at.at in
    let long : length c.args.flags.now ≡ length all = search rules in
    record {
      flags = flag_more (fails c.args.map.now) all c.loop-at.flags c.args.flags.now at none c.fails-failed.result
          c.loop-at.invariant.flags long c.loop-at-test.true c.fails-failed.ensures;
      count = elim c.if-failed.branch [
        | then-failed w ↦ w.count-is ∙ ap (λ (n : ℕ). n + 1) c.loop-at.invariant.count
            ∙ sym (count_by_more_yes (fails c.args.map.now) all at none c.loop-at-test.true (sym c.fails-failed.ensures ∙ w.if-failed.true))
        | else-failed w ↦ w.count-is ∙ c.loop-at.invariant.count
            ∙ sym (count_by_more_no (fails c.args.map.now) all at none c.loop-at-test.true (sym c.fails-failed.ensures ∙ w.if-failed.false))
      ];
    }
