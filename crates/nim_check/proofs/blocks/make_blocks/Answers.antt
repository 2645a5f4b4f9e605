use Rattle.std.proofs.Common.{◌∙◌, ◌<◌, sym, [], length, rules, arith}
use Rattle.std.proofs.lemmas.Grind.{common_steps}
use Rattle.std.proofs.lemmas.List.{length-take}
use Rattle.nim_lex.specs.Refusals.{Tells}
use Rattle.nim_check.specs.Faults.{told}
use Rattle.nim_check.specs.Refusals.{first_refusal}
use Rattle.nim_check.specs.DriverPlaces.{places_of_blocks}
use Rattle.nim_check.proofs.Refused.{blocks_here, blocks_later}
use Rattle.nim_check.proofs.blocks.make_blocks.Goals as goal

pub returns-in_err-make_block-clause-answers : goal.returns-in_err-make_block-clause-answers
returns-in_err-make_block-clause-answers c =
    let vars = c.args.vars.now in
    let blocks = c.args.blocks.now in
    let one = told c.in_err-make_block.field-0.0 in
    let there : c.loop-at.at < length blocks = first_of (search rules, grind (arith, common_steps)) in
    let e = blocks_here vars blocks c.loop-at.at c.index-blocks-at.result one there c.index-blocks-at.is c.in_err-make_block.ensures.answers in
    let f : Tells (first_refusal (places_of_blocks vars [] blocks)) one = (rw c.loop-at.invariant.places at e) in
    first_of (search rules, grind (arith, common_steps))

pub loop-at-preserved : goal.loop-at-preserved
loop-at-preserved c =
    let vars = c.args.vars.now in
    let blocks = c.args.blocks.now in
    let there : c.loop-at.at < length blocks = first_of (search rules, grind (arith, common_steps)) in
    record {
      places = sym (blocks_later vars blocks c.loop-at.at c.index-blocks-at.result there c.index-blocks-at.is c.in_ok-make_block.ensures.answers)
          ∙ c.loop-at.invariant.places;
      made = first_of (search rules, grind (arith, common_steps));
      whole = first_of (search rules, grind (arith, common_steps));
      few = omega (arith, c.in_ok-make_block.ensures.number, length-take c.loop-at.at blocks);
    }
