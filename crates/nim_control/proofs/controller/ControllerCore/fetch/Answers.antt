use Rattle.std.proofs.Common.{arith}
use Rattle.nim_control.proofs.Fetches.{fetched_long, has_fetched}
use Rattle.nim_control.proofs.controller.ControllerCore.fetch.Goals as goal

pub invariant_of-self : goal.invariant_of-self
invariant_of-self c =
    let form = c.self.invariant.1 in (
      c.self.invariant.0,
      record {
        whole = form.whole;
        machine = form.machine;
        fits = form.fits;
        sites = form.sites;
        objects = form.objects;
        fetched = omega (
          arith,
          fetched_long c.self.inside.sites.versions c.in_ok-self-inside.field-0.items c.args.first c.args.count c.in_ok-self-inside.ensures.fetched,
          c.requires.few,
        );
        decided = form.decided;
      },
    )

pub returns-clause-fetched : goal.returns-clause-fetched
returns-clause-fetched c =
    has_fetched _ c.args.self.now c.args.first c.args.count c.saturating_add-self-inside.result c.in_ok-self-inside.field-0.items c.self.view_is
    c.saturating_add-self-inside.ensures c.in_ok-self-inside.ensures.fetched
