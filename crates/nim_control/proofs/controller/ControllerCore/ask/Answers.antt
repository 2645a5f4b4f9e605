use Rattle.std.proofs.Common.{◌∙◌, sym}
use Rattle.nim_control.proofs.Given.{output_asked, output_given}
use Rattle.nim_control.proofs.controller.ControllerCore.ask.Goals as goal

pub returns-in_ok-fetch-in-Output-clause-orders : goal.returns-in_ok-fetch-in-Output-clause-orders
returns-in_ok-fetch-in-Output-clause-orders c =
    output_given _ c.args.self.now c.in-Output.var c.parts-first.result.0 c.parts-first.result.1 c.args.orders.now.items c.fetch-in-Output.new.orders.items
    c.self.view_is (sym c.in_ok-block.ensures.ask ∙ c.in-Output.is) c.parts-first.ensures.objects c.in_ok-fetch-in-Output.ensures.orders

pub returns-in_ok-fetch-in-Output-clause-asked : goal.returns-in_ok-fetch-in-Output-clause-asked
returns-in_ok-fetch-in-Output-clause-asked c =
    output_asked _ c.args.self.now c.fetch-in-Output.new.self c.next.new.self c.in-Output.var c.parts-first.result.0 c.parts-first.result.1 c.self.view_is
    (sym c.in_ok-block.ensures.ask ∙ c.in-Output.is) c.in_ok-block.ensures.ok c.parts-first.ensures.objects c.in_ok-fetch-in-Output.ensures.fetched
