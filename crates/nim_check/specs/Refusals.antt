-- The first line of a tree that a rule refuses.
use Rattle.std.specs.Prelude.{ℕ, List, [], ◌∷◌, Option, None}
use Rattle.std.specs.Option.{option_map, option_or}
use Rattle.nim_lex.specs.declared.fault.Refusal.{Refusal}
use Rattle.nim_lex.specs.Refusals.{refused as refused_line}
use Rattle.nim_lex.specs.Source as lex
use Rattle.nim_parse.specs.Driver.{tree_of}
use Rattle.nim_parse.specs.Driver as parse
use Rattle.nim_parse.specs.declared.sections.Sections.{Sections}
use Rattle.nim_check.specs.declared.fault.Input.{Input}
use Rattle.nim_check.specs.declared.fault.Input.TheVariants.{Driver, Data}
use Rattle.nim_job.specs.declared.job.Job.{Job}
use Rattle.nim_check.specs.Faults.{FileRefusal}
use Rattle.nim_check.specs.Loading.{data_refusal, loaded}
use Rattle.nim_check.specs.Made.{job_of}
use Rattle.nim_check.specs.Rules.{rule_of}
use Rattle.nim_check.specs.DriverPlaces.{DriverPlace, place_line, places_of_tree}

-- the number of a line and the smallest rule that refuses it, if one does
abbrev pub refused_at : DriverPlace → Option Refusal
refused_at place = refused_line (place_line place) (rule_of place)

-- the first of some lines that a rule refuses, and the smallest that does
abbrev pub first_refusal : List DriverPlace → Option Refusal
first_refusal [] = None
first_refusal (place ∷ places) = option_or (refused_at place) (first_refusal places)

-- why a tree is refused, if it is
abbrev pub tree_refusal : Sections → Option Refusal
tree_refusal tree = first_refusal (places_of_tree tree)

-- why the text or the grammar refuses a driver, if they do
abbrev pub text_refusal : List ℕ → Option Refusal
text_refusal bytes = option_or (lex.token_refusal bytes) (parse.grammar_refusal bytes)

-- why a driver is refused, if it is: the rules of the text come first, then those of the grammar
abbrev pub driver_refusal : List ℕ → Option Refusal
driver_refusal bytes = option_or (text_refusal bytes) (tree_refusal (tree_of bytes))

-- ---- a driver with its data

-- a refusal together with which of the two files it is of
abbrev pub in_file : Input → Refusal → FileRefusal
in_file input refusal = record { input = input; refusal = refusal }

-- why a driver and its data are refused, if they are: all phases of the driver come first
abbrev pub job_refusal : List ℕ → List ℕ → Option FileRefusal
job_refusal driver file =
    option_or (option_map (in_file Driver) (driver_refusal driver))
    (option_map (in_file Data) (data_refusal (job_of (tree_of driver)) file))

-- the job that a driver and its data stand for
abbrev pub job_from : List ℕ → List ℕ → Job
job_from driver file = loaded (job_of (tree_of driver)) file
