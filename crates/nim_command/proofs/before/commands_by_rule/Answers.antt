use Rattle.std.proofs.Common.{rules, ◌≡◌, ◌∙◌, length, ℕ, List, ap, map, sym, subst}
use Rattle.std.proofs.lemmas.List.{length-map}
use Rattle.nim_command.specs.declared.command.Command.{Command}
use Rattle.nim_command.specs.Before.{before_of, footprint_of}
use Rattle.nim_command.specs.LastUses.{IsPastOf}
use Rattle.nim_command.proofs.ByRule.{command_ruled}
use Rattle.nim_command.proofs.LastUses.{past_pushed}
use Rattle.nim_command.proofs.before.commands_by_rule.Goals as goal

pub before_set-requires : goal.before_set-requires
before_set-requires c =
    subst (λ (all : List Command). IsPastOf c.loop-command.uses (map footprint_of all)) (sym c.as_slice.ensures.value) c.loop-command.invariant.uses

pub loop-command-preserved : goal.loop-command-preserved
loop-command-preserved c =
    let done = c.loop-command.done.items in
    let before =
    c.in_ok-before.ensures ∙ ap (λ (all : List Command). before_of (map footprint_of all) (footprint_of c.in-Some.command)) c.as_slice.ensures.value in
    let count : c.len-in-loop-command.result ≡ length done = search rules in
    record {
      ruled =
          command_ruled done c.push.new.self.items c.loop-command.yielded c.in-Some.command c.command_with.result
          c.loop-command.invariant.ruled (c.command_with.ensures ∙ ap (λ (b : List ℕ). record c.in-Some.command { before = b }) before)
          c.in_ok-push.ensures.items;
      uses =
          past_pushed footprint_of c.note.new.self done c.push.new.self.items c.in-Some.command c.command_with.result (ap footprint_of c.command_with.ensures)
          c.in_ok-push.ensures.items
          (c.in_ok-note.ensures (map footprint_of done) (count ∙ sym (length-map done footprint_of)) c.loop-command.invariant.uses);
    }
