use Rattle.std.proofs.Common.{◌≡◌, arith, rules}
use Rattle.nim_job.specs.Objects.{objects_of}
use Rattle.nim_job.specs.Follows.{IsOf}
use Rattle.nim_job.proofs.Whole.{vars_sizes, whole_vars}
use Rattle.nim_control.specs.Sites.{AreSites}
use Rattle.nim_control.proofs.Reused.{new_usable}
use Rattle.nim_control.proofs.controller.ControllerCore.new.Goals as goal

pub invariant_of-result : goal.invariant_of-result
invariant_of-result c =
    let sizes = vars_sizes c.args.job.vars (whole_vars c.args.job c.requires.whole) in
    let sites : AreSites (record { place = c.in_ok-sites.sites.place; live = c.in_ok-sites.sites.live; versions = c.in_ok-sites.sites.versions }) =
    search rules in
    let objects : c.in_ok-sites.sites.versions.objects ≡ objects_of c.args.job.vars = search rules in
    let machine : IsOf c.args.job c.in_ok-machine.machine = search rules in (
      search rules,
      record {
        whole = c.requires.whole;
        machine = machine;
        fits = search rules;
        sites = sites;
        objects = objects;
        fetched = search rules;
        decided =
            new_usable c.in_ok-sites.sites.versions.objects c.in_ok-sites.sites.live c.len.result c.in_ok-decisions.decisions c.in_ok-decisions.ensures
            (omega (arith, objects, sizes.0)) sites.few sites.live;
      },
    )
