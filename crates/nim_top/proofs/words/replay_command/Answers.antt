use Rattle.std.proofs.Common.{◌≡◌, codes}
use Rattle.clap.specs.Words.{AddsArg, App, app_of, with_rule}
use Rattle.nim_top.specs.Words.{bare_app, flag_rule, option_rule, positional_rule, replay_app}
use Rattle.nim_top.proofs.Commands.{ok_more, one_more}
use Rattle.nim_top.proofs.words.replay_command.Goals as goal

pub returns : goal.returns
returns c =
    let app1 : App = with_rule bare_app (option_rule (codes "data")) in
    let app2 : App = with_rule app1 (option_rule (codes "workers")) in
    let app3 : App = with_rule app2 (option_rule (codes "place")) in
    let app4 : App = with_rule app3 (option_rule (codes "schedule")) in
    let app5 : App = with_rule app4 (flag_rule (codes "summary")) in
    let one = one_more bare_app (option_rule (codes "data")) c.bare_command.result c.option.result c.in_ok-arg.field-0
    c.in_ok-arg.ensures c.option.ensures.local c.bare_command.ensures c.option.ensures.rule in
    let two = one_more app1 (option_rule (codes "workers")) c.in_ok-arg.field-0 c.option-2.result c.in_ok-arg-2.field-0
    c.in_ok-arg-2.ensures c.option-2.ensures.local one c.option-2.ensures.rule in
    let three = one_more app2 (option_rule (codes "place")) c.in_ok-arg-2.field-0 c.option-3.result c.in_ok-arg-3.field-0
    c.in_ok-arg-3.ensures c.option-3.ensures.local two c.option-3.ensures.rule in
    let four = one_more app3 (option_rule (codes "schedule")) c.in_ok-arg-3.field-0 c.option-4.result c.in_ok-arg-4.field-0
    c.in_ok-arg-4.ensures c.option-4.ensures.local three c.option-4.ensures.rule in
    let five = one_more app4 (flag_rule (codes "summary")) c.in_ok-arg-4.field-0 c.flag.result c.in_ok-arg-5.field-0
    c.in_ok-arg-5.ensures c.flag.ensures.local four c.flag.ensures.rule in
    ok_more c.arg-6.result (AddsArg c.in_ok-arg-5.field-0 c.positional.result) (λ command. app_of command ≡ replay_app)
    (λ command adds. one_more app5 (positional_rule (codes "driver")) c.in_ok-arg-5.field-0 c.positional.result command adds c.positional.ensures.local
    five c.positional.ensures.rule) c.arg-6.ensures
