use Rattle.std.proofs.Common.{ap, ◌∙◌}
use Rattle.nim_course.specs.SummaryText.{text_of_summary}
use Rattle.nim_top.proofs.replay.summary_text.Goals as goal

pub returns-in_ok-text : goal.returns-in_ok-text
returns-in_ok-text c = λ s stands. rw (c.if-is_asked.true) (c.in_ok-text.ensures ∙ ap text_of_summary (c.summary.ensures s stands))
