use Rattle.std.proofs.Common.{◌≡◌, ◌∙◌, ℕ, ◌+◌, ◌<◌, ◌≤◌, List, length, get_or, map, ap, rules, arith}
use Rattle.std.specs.List.{range_with_len}
use Rattle.nim_job.specs.declared.job.Var.{Var}
use Rattle.nim_job.specs.Objects.{first_object, parts_of}
use Rattle.nim_job.proofs.Whole.{parts_there, vars_sizes, whole_vars}
use Rattle.nim_course.specs.Controller.{Controller}
use Rattle.nim_control.proofs.Parts.{its_parts, no_parts}
use Rattle.nim_control.proofs.controller.ControllerCore.parts.Goals as goal

pub returns-in-Some-clause-within : goal.returns-in-Some-clause-within
returns-in-Some-clause-within c =
    let vars : List Var = c.self.inside.job.vars in
    let there : c.args.var < length vars = search rules in
    let first : c.first_object.result ≡ first_object vars c.args.var = search rules in
    let is : c.in-Some.found.now ≡ get_or vars c.args.var c.in-Some.found.now = rw (← c.as_slice-vars.ensures, ← c.from.ensures) c.in-Some.ensures.lookup.1 in
    let parts = its_parts vars c.args.var c.in-Some.found.now there is in
    let sizes = vars_sizes vars (whole_vars c.self.inside.job c.self.invariant.1.whole) in
    omega (arith, first, parts, sizes.0, (parts_there vars c.args.var sizes.1 there).2)

pub returns-in-None-clause-parts : goal.returns-in-None-clause-parts
returns-in-None-clause-parts c =
    let past : length c.self.inside.job.vars ≤ c.args.var = omega (arith, c.in-None.ensures.lookup.3, ap length c.as_slice-vars.ensures, c.from.ensures) in
    no_parts c.self.inside.job.vars c.args.var past ∙ ap (λ (d : Controller). parts_of d.job.vars c.args.var) c.self.view_is

pub returns-in-None-clause-objects : goal.returns-in-None-clause-objects
returns-in-None-clause-objects c =
    let past : length c.self.inside.job.vars ≤ c.args.var = omega (arith, c.in-None.ensures.lookup.3, ap length c.as_slice-vars.ensures, c.from.ensures) in
    ap (λ (n : ℕ). map (λ (part : ℕ). record { 0 = first_object c.args.self.now.job.vars c.args.var + part }) (range_with_len 0 n))
    (no_parts c.self.inside.job.vars c.args.var past ∙ ap (λ (d : Controller). parts_of d.job.vars c.args.var) c.self.view_is)
