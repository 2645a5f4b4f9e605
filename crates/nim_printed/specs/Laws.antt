-- What is printed is read back: words as tokens, a tree as that tree, and a job as that job.
use Rattle.std.specs.Prelude.{◌≡◌, ℕ, ◌≤◌, true, List, length, map, None}
use Rattle.std.specs.List.{flat_map, list_all}
use Rattle.nim_job.specs.declared.job.Job.{Job}
use Rattle.nim_job.specs.Whole.{is_checked}
use Rattle.nim_lex.specs.Source as lex
use Rattle.nim_lex.specs.Texts.{token_text}
use Rattle.nim_parse.specs.declared.sections.Sections.{Sections}
use Rattle.nim_parse.specs.Driver as parse
use Rattle.nim_check.specs.Made.{job_of}
use Rattle.nim_check.specs.Refusals as check
use Rattle.nim_printed.specs.Lines.{numbered, tree_words}
use Rattle.nim_printed.specs.Printer.{tree_for}
use Rattle.nim_printed.specs.Spelled.{is_spelled, unloaded}
use Rattle.nim_printed.specs.Trees.{is_printable}
use Rattle.nim_printed.specs.Words.{Word, is_word, lines_text, lines_tokens_of}

-- the most bytes of a driver
abbrev pub most_bytes : ℕ
most_bytes = 1048576

-- a text of these lines is taken, each word one token whose text it is
pub record IsLexed (lines : List (List Word)) : Type 0 where
  pub sound : lex.token_refusal (lines_text lines) ≡ None
  pub tokens : lex.tokens_of (lines_text lines) ≡ lines_tokens_of 1 0 lines
  pub texts : map (token_text (lines_text lines)) (lines_tokens_of 1 0 lines) ≡ flat_map (λ words. words) lines

-- words are read as tokens
abbrev pub WordsAreRead : List (List Word) → Type 0
WordsAreRead lines = list_all (list_all is_word) lines ≡ true → length (lines_text lines) ≤ most_bytes → IsLexed lines

-- what is printed of a tree: the words of its lines
abbrev pub tree_text : Sections → List ℕ
tree_text tree = lines_text (tree_words tree)

-- the text of a tree is taken, and is read as this tree
pub record IsParsed (tree : Sections) : Type 0 where
  pub sound : parse.grammar_refusal (tree_text tree) ≡ None
  pub tree_is : parse.tree_of (tree_text tree) ≡ tree

-- a tree whose lines have their numbers is read back
abbrev pub TreeIsRead : Sections → Type 0
TreeIsRead tree = is_printable tree ≡ true → numbered tree ≡ tree → length (tree_text tree) ≤ most_bytes → IsParsed tree

-- The tree that a printer gives a job can be printed, no rule refuses it, and it stands for that job.
pub record TreeStandsFor (job : Job) : Type 0 where
  pub printable : is_printable (tree_for job) ≡ true
  pub numbers : numbered (tree_for job) ≡ tree_for job
  pub sound : check.tree_refusal (tree_for job) ≡ None
  pub job_is : job_of (tree_for job) ≡ unloaded job

-- a job that is whole but for loaded data, with names and numbers that can be written
abbrev pub JobStands : Job → Type 0
JobStands job = is_checked job ≡ true → is_spelled job ≡ true → TreeStandsFor job

-- what a printer prints of a job is taken as a driver, and stands for that job
pub record IsRead (job : Job) : Type 0 where
  pub accepted : check.driver_refusal (tree_text (tree_for job)) ≡ None
  pub job_is : job_of (parse.tree_of (tree_text (tree_for job))) ≡ unloaded job

-- what is printed of a job that can be written is read back, where it isn't longer than a driver may be
abbrev pub JobIsRead : Job → Type 0
JobIsRead job =
    is_checked job ≡ true → is_spelled job ≡ true → length (tree_text (tree_for job)) ≤ most_bytes → IsRead job
