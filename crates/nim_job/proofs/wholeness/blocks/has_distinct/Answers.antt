use Rattle.std.proofs.Common.{◌≡◌, ◌∙◌, true, List, map, ap, sym, subst, arith}
use Rattle.std.specs.List.{list_all}
use Rattle.nim_job.specs.declared.block.Ref.{Ref}
use Rattle.nim_job.specs.Tasks.{object_meant}
use Rattle.nim_job.specs.Whole.{are_distinct, is_ref}
use Rattle.nim_job.proofs.Lists.{all_more, all_not}
use Rattle.nim_job.proofs.Whole.{refs_of, writes_few}
use Rattle.nim_job.proofs.wholeness.blocks.has_distinct.Goals as goal

pub are_distinct-requires-clause-refs : goal.are_distinct-requires-clause-refs
are_distinct-requires-clause-refs c =
    let vars = c.args.vars.now in
    let stage = c.args.stage.now in
    subst (λ (refs : List Ref). list_all (is_ref vars true) refs ≡ true) (sym c.as_slice.ensures) (refs_of vars stage.each stage.writes c.requires.writes)

pub are_distinct-requires-clause-index : goal.are_distinct-requires-clause-index
are_distinct-requires-clause-index c =
    let vars = c.args.vars.now in
    let stage = c.args.stage.now in
    omega (
      arith,
      writes_few vars stage c.requires.vars (refs_of vars stage.each stage.writes c.requires.writes),
      c.task_count-index-end.ensures,
      c.loop-index-test.true,
    )

pub returns-then-not-are_distinct : goal.returns-then-not-are_distinct
returns-then-not-are_distinct c =
    all_not (λ i. are_distinct (map (object_meant c.args.vars.now i) c.args.stage.now.writes)) _ c.loop-index.index
    (omega (arith, c.task_count-index-end.ensures, c.loop-index-test.true))
    (sym (c.are_distinct.ensures ∙ ap (λ (refs : List Ref). are_distinct (map (object_meant c.args.vars.now c.loop-index.index) refs)) c.as_slice.ensures)
    ∙ c.if-not-are_distinct.true)

pub loop-index-preserved : goal.loop-index-preserved
loop-index-preserved c =
    all_more (λ i. are_distinct (map (object_meant c.args.vars.now i) c.args.stage.now.writes)) c.loop-index.index c.loop-index.invariant
    (sym (c.are_distinct.ensures ∙ ap (λ (refs : List Ref). are_distinct (map (object_meant c.args.vars.now c.loop-index.index) refs)) c.as_slice.ensures)
    ∙ c.if-not-are_distinct.false)
