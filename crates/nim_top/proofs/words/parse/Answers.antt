use Rattle.std.proofs.Common.{◌≡◌, ◌∙◌, rules, sym, ap, codes, true}
use Rattle.clap.specs.Words.{App, app_of, fault_of, found_of, is_simple, is_simple_and_free, kind_of}
use Rattle.clap.specs.declared.error.kind.ErrorKind.TheVariants.{OutOfMemory}
use Rattle.nim_top.specs.Words.{faults, texts_of}
use Rattle.nim_top.proofs.Commands.{free_for, out_of_memory, simple_for, value_found}
use Rattle.nim_top.proofs.words.parse.Goals as goal

pub returns-in-Ok-clause-taken : goal.returns-in-Ok-clause-taken
unfolding faults
returns-in-Ok-clause-taken c =
    let app = c.in_ok-command.ensures in
    sym (ap (λ (a : App). fault_of a (texts_of c.args.rest.now)) app) ∙ c.in-Ok.ensures.kinds (ap is_simple_and_free app ∙ free_for c.args.verb)

pub returns-in-Ok-clause-driver : goal.returns-in-Ok-clause-driver
returns-in-Ok-clause-driver c =
    let app = c.in_ok-command.ensures in
    value_found c.get_str.result (found_of c.in-Ok.found) (codes "driver") (app_of c.in_ok-command.field-0) c.args.verb (texts_of c.args.rest.now)
    c.get_str.ensures (c.in-Ok.ensures.matches (ap is_simple app ∙ simple_for c.args.verb)).0 app

pub returns-in-Ok-clause-data : goal.returns-in-Ok-clause-data
returns-in-Ok-clause-data c =
    let app = c.in_ok-command.ensures in
    value_found c.get_str-in-Ok.result (found_of c.in-Ok.found) (codes "data") (app_of c.in_ok-command.field-0) c.args.verb (texts_of c.args.rest.now)
    c.get_str-in-Ok.ensures (c.in-Ok.ensures.matches (ap is_simple app ∙ simple_for c.args.verb)).0 app

pub returns-in-Ok-clause-schedule : goal.returns-in-Ok-clause-schedule
returns-in-Ok-clause-schedule c =
    let app = c.in_ok-command.ensures in
    value_found c.get_str-in-Ok-2.result (found_of c.in-Ok.found) (codes "schedule") (app_of c.in_ok-command.field-0) c.args.verb (texts_of c.args.rest.now)
    c.get_str-in-Ok-2.ensures (c.in-Ok.ensures.matches (ap is_simple app ∙ simple_for c.args.verb)).0 app

pub returns-in-Ok-clause-workers : goal.returns-in-Ok-clause-workers
returns-in-Ok-clause-workers c =
    let app = c.in_ok-command.ensures in
    value_found c.get_str-in-Ok-3.result (found_of c.in-Ok.found) (codes "workers") (app_of c.in_ok-command.field-0) c.args.verb (texts_of c.args.rest.now)
    c.get_str-in-Ok-3.ensures (c.in-Ok.ensures.matches (ap is_simple app ∙ simple_for c.args.verb)).0 app

pub returns-in-Ok-clause-place : goal.returns-in-Ok-clause-place
returns-in-Ok-clause-place c =
    let app = c.in_ok-command.ensures in
    value_found c.get_str-in-Ok-4.result (found_of c.in-Ok.found) (codes "place") (app_of c.in_ok-command.field-0) c.args.verb (texts_of c.args.rest.now)
    c.get_str-in-Ok-4.ensures (c.in-Ok.ensures.matches (ap is_simple app ∙ simple_for c.args.verb)).0 app

pub returns-in-Ok-clause-summary : goal.returns-in-Ok-clause-summary
returns-in-Ok-clause-summary c =
    let app = c.in_ok-command.ensures in
    value_found c.get_str-in-Ok-5.result (found_of c.in-Ok.found) (codes "summary") (app_of c.in_ok-command.field-0) c.args.verb (texts_of c.args.rest.now)
    c.get_str-in-Ok-5.ensures (c.in-Ok.ensures.matches (ap is_simple app ∙ simple_for c.args.verb)).0 app

pub returns-clause-refused : goal.returns-clause-refused
unfolding faults
returns-clause-refused c = λ is none.
    let app = c.in_ok-command.ensures in
    let free : is_simple_and_free (app_of c.in_ok-command.field-0) ≡ true = ap is_simple_and_free app ∙ free_for c.args.verb in
    let memory : kind_of c.in-Err.fault ≡ OutOfMemory =
    out_of_memory (fault_of (app_of c.in_ok-command.field-0) (texts_of c.args.rest.now)) c.in-Err.fault (c.in-Err.ensures.kinds free)
    (ap (λ (a : App). fault_of a (texts_of c.args.rest.now)) app ∙ none) in
    search rules
