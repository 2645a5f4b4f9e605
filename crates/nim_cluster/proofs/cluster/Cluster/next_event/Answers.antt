use Rattle.std.proofs.Common.{◌∙◌, sym}
use Rattle.nim_cluster.proofs.Schedules.{next_by, skip_it, take_it}
use Rattle.nim_cluster.proofs.cluster.Cluster.next_event.Goals as goal

pub returns-in-Some : goal.returns-in-Some
returns-in-Some c = λ s stands.
    sym (next_by s stands.count ∙ take_it _ _ c.in-Some.event (sym (c.first_of.ensures s stands) ∙ c.in-Some.is))

pub returns-in-Some-first_of : goal.returns-in-Some-first_of
returns-in-Some-first_of c = λ s stands.
    sym (next_by s stands.count ∙ skip_it _ _ (sym (c.first_of.ensures s stands) ∙ c.in_default.is)
    ∙ take_it _ _ c.in-Some-first_of.event (sym (c.first_of-2.ensures s stands) ∙ c.in-Some-first_of.is))

pub returns-in-Some-first_of-2 : goal.returns-in-Some-first_of-2
returns-in-Some-first_of-2 c = λ s stands.
    sym (next_by s stands.count ∙ skip_it _ _ (sym (c.first_of.ensures s stands) ∙ c.in_default.is)
    ∙ skip_it _ _ (sym (c.first_of-2.ensures s stands) ∙ c.in_default-first_of.is)
    ∙ take_it _ _ c.in-Some-first_of-2.event (sym (c.first_of-3.ensures s stands) ∙ c.in-Some-first_of-2.is))

pub returns-in-Some-first_frame : goal.returns-in-Some-first_frame
returns-in-Some-first_frame c = λ s stands.
    sym (next_by s stands.count ∙ skip_it _ _ (sym (c.first_of.ensures s stands) ∙ c.in_default.is)
    ∙ skip_it _ _ (sym (c.first_of-2.ensures s stands) ∙ c.in_default-first_of.is)
    ∙ skip_it _ _ (sym (c.first_of-3.ensures s stands) ∙ c.in_default-first_of-2.is)
    ∙ take_it _ _ c.in-Some-first_frame.event (sym (c.first_frame.ensures s stands) ∙ c.in-Some-first_frame.is))

pub returns : goal.returns
returns c = λ s stands.
    c.first_of-4.ensures s stands
    ∙ sym (next_by s stands.count ∙ skip_it _ _ (sym (c.first_of.ensures s stands) ∙ c.in_default.is)
    ∙ skip_it _ _ (sym (c.first_of-2.ensures s stands) ∙ c.in_default-first_of.is)
    ∙ skip_it _ _ (sym (c.first_of-3.ensures s stands) ∙ c.in_default-first_of-2.is)
    ∙ skip_it _ _ (sym (c.first_frame.ensures s stands) ∙ c.in_default-first_frame.is))
