-- What follows where a call gave an answer follows from what its clause says then.
pub mod Answered
-- Where one worker of a cluster changes, the cluster stands for the state in which that worker has changed.
pub mod Nodes
-- A worker stands for its new state once it took an order, a report or a frame, or began a batch.
pub mod Links
-- A controller's job stays behind each report and each turn.
pub mod Jobs
-- Behind an event, done or passed over, the cluster stands for the state that is due: clause `step` of `Cluster::step`.
pub mod Events
-- The next event is the first of the default rule, and lines in turn are one schedule: clause `run` of `run`.
pub mod Schedules
-- Where no frame of data waits none may be taken, so that none is looked for: the clause of `Cluster::next_event`.
pub mod Idle
