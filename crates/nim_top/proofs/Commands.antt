-- What clap says of a command: it is exact, since each command is a simple one, without help and version.
use Rattle.std.proofs.Common.{◌≡◌, ◌∙◌, Option, true, false, List, [], inl, inr, ap, ap₂, refl, subst}
use Rattle.std.specs.Borrow.{Bor}
use Rattle.std.specs.Option.{option_map}
use Rattle.std.specs.Prelude.{IfOk, Result, Ok, Err}
use Rattle.clap.specs.Kinds.{HasKind, IsAmong}
use Rattle.clap.specs.Words.{AddsArg, App, Kinds, Rule, Text, app_of, first_of, first_value, is_simple, is_simple_and_free, kind_of, matches_of, rows_of, rule_of, with_rule}
use Rattle.clap.specs.declared.parser.matches.Found.{Found}
use Rattle.clap.proofs.WalkLemmas.{first_value-rows}
use Rattle.clap.specs.declared.builder.arg.Arg.{Arg}
use Rattle.clap.specs.declared.builder.command.Command.{Command}
use Rattle.clap.specs.declared.error.Error.{Error}
use Rattle.clap.specs.declared.error.kind.ErrorKind.TheVariants.{OutOfMemory}
use Rattle.nim_top.specs.Words.{app_for, clap_found}
use Rattle.nim_top.specs.declared.verb.Verb.{Verb}
use Rattle.nim_top.specs.declared.verb.Verb.TheVariants.{Check, Replay}

pub free_for : (verb : Verb) → is_simple_and_free (app_for verb) ≡ true
free_for Check = refl
free_for Replay = refl

pub simple_for : (verb : Verb) → is_simple (app_for verb) ≡ true
simple_for Check = refl
simple_for Replay = refl

-- a value that is read of what a command found
pub value_found : (value : Option (Bor Text)) (f : Found) (id : Text) (app : App) (verb : Verb) (words : List Text)
    → option_map (λ text. text.now) value ≡ first_value f id → rows_of f ≡ matches_of app words → app ≡ app_for verb
    → option_map (λ text. text.now) value ≡ first_of id (clap_found verb words)
unfolding clap_found
value_found value f id app verb words is rows same =
    is ∙ first_value-rows f id ∙ ap (first_of id) (rows ∙ ap (λ (a : App). matches_of a words) same)

-- an error where no fault is found is want of memory
pub out_of_memory : (kinds : Kinds) (e : Error) → HasKind kinds e → kinds ≡ [] → kind_of e ≡ OutOfMemory
out_of_memory kinds e (inl memory) none = memory
out_of_memory kinds e (inr among) none = absurd (subst (IsAmong (kind_of e)) none among)

-- a command with one more argument
pub one_more : (app : App) (rule : Rule) (old : Command) (a : Arg) (new : Command) → AddsArg old a new → a.global ≡ false
    → app_of old ≡ app → rule_of a ≡ rule → app_of new ≡ with_rule app rule
one_more app rule old a new adds local is same = adds.shape local ∙ ap₂ with_rule is same

-- what follows of an answer that is Ok
pub ok_more : {A E : Type 0} (r : Result A E) (P Q : A → Type 0) → ((x : A) → P x → Q x) → IfOk r P → IfOk r Q
ok_more (Ok x) P Q more is = more x is
ok_more (Err e) P Q more is = tt
