use Rattle.std.proofs.Common.{◌≡◌, ◌+◌, List, None, ap, rules, arith}
use Rattle.std.proofs.lemmas.Grind.{common_steps}
use Rattle.nim_lex.specs.Source.{line_count}
use Rattle.nim_job.specs.declared.job.Var.{Var}
use Rattle.nim_data.specs.Parts.{data_of}
use Rattle.nim_data.specs.Wanted.{parts_in, values_in}
use Rattle.nim_check.specs.Loading.{data_refusal, parts_by_var, wanted}
use Rattle.nim_check.proofs.Filled.{loaded_whole}
use Rattle.nim_check.proofs.Loads.{holding_parts_by_var, parts_sound}
use Rattle.nim_check.proofs.loading.read_parts.Goals as goal

pub returns-in-Ok-clause-given : goal.returns-in-Ok-clause-given
returns-in-Ok-clause-given c =
    let job = c.args.job.now in
    let bytes = c.args.bytes.now in
    let given : c.in_ok-parts_by_var-in-Ok.field-0 ≡ parts_by_var job.vars (values_in bytes) = first_of (cc, search rules, grind (arith, common_steps)) in
    rw given (ap (λ (vars : List Var). record job { vars = vars }) (holding_parts_by_var job.vars (values_in bytes)))

pub returns-in-Ok-clause-whole : goal.returns-in-Ok-clause-whole
returns-in-Ok-clause-whole c =
    let job = c.args.job.now in
    let bytes = c.args.bytes.now in
    let end = line_count bytes + 1 in
    let none : data_refusal job bytes ≡ None = first_of (cc, search rules, grind (arith, common_steps)) in
    loaded_whole end job (parts_in (data_of bytes)) c.requires.checked (parts_sound end (wanted job.vars) (data_of bytes) none)
