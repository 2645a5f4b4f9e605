use Rattle.nim_course.proofs.Reports.{report_leads}
use Rattle.nim_course.proofs.Starts.{start_leads}
use Rattle.nim_course.proofs.Turns.{turn_leads}
use Rattle.nim_course.proofs.laws.controllers_lead.Goals as goal

pub returns : goal.returns
returns c = record { starts = start_leads; turns = turn_leads; reports = report_leads }
