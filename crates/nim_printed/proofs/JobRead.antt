-- What is printed of a job is read as that job.
use Rattle.std.proofs.Common.{Option, ap, ◌∙◌}
use Rattle.std.specs.Option.{option_or}
use Rattle.nim_job.specs.declared.job.Job.{Job}
use Rattle.nim_lex.specs.declared.fault.Refusal.{Refusal}
use Rattle.nim_parse.specs.Driver as parse
use Rattle.nim_check.specs.Made.{job_of}
use Rattle.nim_check.specs.Refusals.{tree_refusal}
use Rattle.nim_printed.specs.Laws.{IsLexed, IsParsed, JobIsRead, TreeStandsFor, tree_text}
use Rattle.nim_printed.specs.Lines.{tree_words}
use Rattle.nim_printed.specs.Printer.{tree_for}
use Rattle.nim_printed.proofs.JobWhole.{job_stands}
use Rattle.nim_printed.proofs.TreeRead.{tree_read}
use Rattle.nim_printed.proofs.TreeSpelled.{tree_words_are}
use Rattle.nim_printed.proofs.WordsRead.{words_read}

pub job_read : (job : Job) → JobIsRead job
job_read job checked spelled short =
    let stands : TreeStandsFor job = job_stands job checked spelled in
    let lexed : IsLexed (tree_words (tree_for job)) = words_read (tree_words (tree_for job)) (tree_words_are (tree_for job) stands.printable) short in
    let parsed : IsParsed (tree_for job) = tree_read (tree_for job) stands.printable stands.numbers lexed in
    record {
      accepted = ap (λ (r : Option Refusal). option_or (option_or r (parse.grammar_refusal (tree_text (tree_for job))))
          (tree_refusal (parse.tree_of (tree_text (tree_for job))))) lexed.sound
          ∙ ap (λ (r : Option Refusal). option_or r (tree_refusal (parse.tree_of (tree_text (tree_for job))))) parsed.sound
          ∙ ap tree_refusal parsed.tree_is ∙ stands.sound;
      job_is = ap job_of parsed.tree_is ∙ stands.job_is;
    }
