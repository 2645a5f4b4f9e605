-- The words of the command line that are accepted. The first word is the command; what stands behind it is taken apart
-- by clap, and then each value is tested.
use Rattle.std.specs.Prelude.{ℕ, ◌==◌, nat_le, nat_lt, Bool, true, false, not, ◌&&◌, if◌then◌else◌, List, [], ◌∷◌, Option, None, Some, String, map, drop, take, length, unwrap_or, codes, string_bytes}
use Rattle.std.specs.Borrow.{Bor}
use Rattle.std.specs.Char.{is_ascii_digit}
use Rattle.std.specs.List.{list_all}
use Rattle.std.specs.Option.{is_some, option_and_then, option_map}
use Rattle.std.specs.Str.{bytes_eq}
use Rattle.std.specs.declared.alloc.Global.{Global}
use Rattle.clap.specs.Words.{App, Kinds, Row, Rule, Text, fault_of, first_of, matches_of, new_app, new_rule, with_rule}
use Rattle.clap.specs.Simple.{on_top}
use Rattle.clap.specs.declared.builder.action.ArgAction.TheVariants.{SetTrue}
use Rattle.nim_lex.specs.Numbers.{decimal_value}
use Rattle.nim_schedule.specs.Words.{is_short}
use Rattle.nim_place.specs.declared.placement.Placement.{Placement}
use Rattle.nim_place.specs.declared.placement.Placement.TheVariants.{Cyclic, Block, Mixed}
use Rattle.nim_course.specs.declared.setup.Setup.{Setup}
use Rattle.nim_top.specs.declared.verb.Verb.{Verb}
use Rattle.nim_top.specs.declared.verb.Verb.TheVariants.{Check, Replay}

-- the words as their bytes
abbrev pub texts_of : List (String Global) → List (List ℕ)
texts_of words = map string_bytes words

-- a word, if there is one, as its bytes
abbrev pub word_of : Option (Bor (List ℕ)) → Option (List ℕ)
word_of word = option_map (λ name. name.now) word

-- ---- what a command takes

-- an option with a value: `--name value` or `--name=value`, at most once
abbrev pub option_rule : Text → Rule
option_rule name = record (new_rule name) { long = Some name }

-- a flag: `--name` alone, at most once
abbrev pub flag_rule : Text → Rule
flag_rule name = record (new_rule name) { long = Some name; action = Some SetTrue }

-- the one word that no option takes; after `--` each word is such a one
abbrev pub positional_rule : Text → Rule
positional_rule name = record (new_rule name) { required = true }

-- a command without a name of its own, and without help and version
abbrev pub bare_app : App
bare_app =
    on_top (λ top. record top { no_binary_name = true; disable_help_flag = true; disable_version_flag = true })
    (new_app (codes "nimbus"))

-- `check` takes a driver, and a data file if it is named
abbrev pub check_app : App
check_app = with_rule (with_rule bare_app (option_rule (codes "data"))) (positional_rule (codes "driver"))

-- `replay` takes these, how the job is run, and whether its summary is told
abbrev pub replay_app : App
replay_app =
    with_rule
    (with_rule
    (with_rule
    (with_rule
    (with_rule (with_rule bare_app (option_rule (codes "data"))) (option_rule (codes "workers")))
    (option_rule (codes "place")))
    (option_rule (codes "schedule")))
    (flag_rule (codes "summary")))
    (positional_rule (codes "driver"))

-- the words that a command takes
abbrev pub app_for : Verb → App
app_for Check = check_app
app_for Replay = replay_app

-- the first word of a command
abbrev pub verb_name : Verb → Text
verb_name Check = codes "check"
verb_name Replay = codes "replay"

-- the faults that clap finds in the words behind it
unfoldable pub faults : Verb → List Text → Kinds
faults verb rest = fault_of (app_for verb) rest

-- what clap finds there
unfoldable pub clap_found : Verb → List Text → List Row
clap_found verb rest = matches_of (app_for verb) rest

-- ---- the names of files

-- a file's name isn't empty and doesn't begin with a minus sign
abbrev pub is_file_name : List ℕ → Bool
is_file_name [] = false
is_file_name (b ∷ bs) = not (b == 45)

-- a file is named
abbrev pub is_named : Option (List ℕ) → Bool
is_named None = false
is_named (Some name) = is_file_name name

-- a file may be left out
abbrev pub is_optional : Option (List ℕ) → Bool
is_optional None = true
is_optional (Some name) = is_file_name name

-- the words behind the command
abbrev pub behind_command : List Text → List Text
behind_command words = drop 1 words

-- the value that the words give under a name, where they do
abbrev pub given_as : Text → Verb → List Text → Option Text
given_as name verb words = first_of name (clap_found verb (behind_command words))

-- the name of the driver's file, where the words have one
abbrev pub driver_given : Verb → List Text → Option Text
driver_given verb words = given_as (codes "driver") verb words

-- the name of the data file
abbrev pub data_given : Verb → List Text → Option Text
data_given verb words = given_as (codes "data") verb words

-- the name of the schedule
abbrev pub schedule_given : Verb → List Text → Option Text
schedule_given verb words = given_as (codes "schedule") verb words

-- ---- how a job is run

-- 1 to 20 digits, and the number that they write
unfoldable pub number_word : Text → Option ℕ
number_word word = if is_short 20 word && list_all is_ascii_digit word then Some (decimal_value word) else None

-- 1 to 16 workers
abbrev pub workers_in : ℕ → Option ℕ
workers_in number = if nat_le 1 number && nat_le number 16 then Some number else None

-- so many workers are said, or 4
abbrev pub workers_said : Option Text → Option ℕ
workers_said None = Some 4
workers_said (Some word) = option_and_then workers_in (number_word word)

-- the number of a scattered placement is below 2^64
abbrev pub mixed_by : ℕ → Option Placement
mixed_by number = if nat_lt number 18446744073709551616 then Some (Mixed number) else None

-- `cyclic`, `block`, or `mixed-` and a number
unfoldable pub place_word : Text → Option Placement
place_word word =
    if bytes_eq word (codes "cyclic") then Some Cyclic
    else (if bytes_eq word (codes "block") then Some Block
    else (if bytes_eq (take 6 word) (codes "mixed-") then option_and_then mixed_by (number_word (drop 6 word))
    else None))

-- the placement that is said, or `cyclic`
abbrev pub place_said : Option Text → Option Placement
place_said None = Some Cyclic
place_said (Some word) = place_word word

-- a job is run on these workers, with this placement
abbrev pub setup_with : ℕ → Placement → Setup
setup_with workers place = record { workers = workers; place = place }

-- how the words say that a job is run, where they do so in form
abbrev pub setup_said : Verb → List Text → Option Setup
setup_said verb words =
    option_and_then
    (λ (workers : ℕ). option_map (setup_with workers) (place_said (given_as (codes "place") verb words)))
    (workers_said (given_as (codes "workers") verb words))

-- how a job is run by words in form; else on four workers, cyclic
abbrev pub setup_of : Verb → List Text → Setup
setup_of verb words = unwrap_or (setup_said verb words) (setup_with 4 Cyclic)

-- ---- whether the summary is told

-- what clap says of a flag: that the words have it
abbrev pub is_set : Option Text → Bool
is_set None = false
is_set (Some said) = bytes_eq said (codes "true")

-- whether a command asks for the summary, by what clap says of the flag; `check` has none
abbrev pub sums_up_by : Verb → Option Text → Bool
sums_up_by Check flag = false
sums_up_by Replay flag = is_set flag

-- whether the words ask for the summary of the cluster
abbrev pub sums_up : Verb → List Text → Bool
sums_up verb words = sums_up_by verb (given_as (codes "summary") verb words)

-- ---- which words are accepted

-- the names of files are some
abbrev pub are_named : Verb → List Text → Bool
are_named verb words =
    is_named (driver_given verb words)
    && (is_optional (data_given verb words) && is_optional (schedule_given verb words))

-- what clap found is what a command takes
abbrev pub are_accepted : Verb → List Text → Bool
are_accepted verb words =
    (length (faults verb (behind_command words)) == 0) && (are_named verb words && is_some (setup_said verb words))

-- the first word is this command, and the others are what it takes
abbrev pub is_accepted : Verb → List Text → Bool
is_accepted verb [] = false
is_accepted verb (first ∷ rest) = bytes_eq first (verb_name verb) && are_accepted verb (first ∷ rest)

-- the name of the driver's file
abbrev pub driver_name : Verb → List Text → Text
driver_name verb words = unwrap_or (driver_given verb words) []
