-- What is true of a cluster from event to event, from which it follows that it is in step.
mod UnderWay
-- Where each position is run once, its run is one worker's command at one place.
mod OnePlace
-- No position stands at two places of the orders of a cluster.
mod Apart
-- What is true of each Single is true of each order of a move that gives Singles.
mod Singles
-- Each worker gets its own orders of a reused instance.
mod Reused
-- The first order to each worker is its Reset, and no other order is one.
mod BegunOnce
-- All workers stay live behind each move and report, and their one epoch is begun once.
mod Course
-- A job that loses no worker is done only where no instance is in flight, and never ends for want of a worker.
mod Settled
-- Orders add their groups to a worker's session, and what is asked for at a place is old, or of a new group.
mod Groups
-- Groups of instances stay separate when more groups come behind them.
mod Separate
-- Singles add groups of no instance to a worker's session, a reused instance at most one of its own.
mod Gives
-- Each task that a worker is asked for was given, and each that was given is asked for, at its place.
mod Places
-- What holds of each item of a list holds of each where one is put in another's place.
mod NodesLists
-- Which runs are awaited, behind moves and reports.
mod Flights
-- Each run that workers are asked for is awaited or was performed, behind each kind of move.
mod Accounted
-- So it is behind each turn.
mod Counted
-- And behind each report, and each run that is performed.
mod Reported
-- One worker of a cluster changes, and all are still under way.
mod NodesAt
-- A Reset is the first order, and behind it what was asked for stays at its place.
mod NodesOnce
-- Workers that nothing happened at are under way.
mod NodesStart
-- A worker begins a batch: its commands may be completed in turn, and its runs read what program order names.
mod NodesBegin
-- Of an instance that is through all Runs were performed, and more that is asked for behind it changes nothing.
mod NodesThrough
-- What a worker has come to once it completed commands in turn, and what it gave by that, which is true.
pub mod NodesOuts
-- Each Run that a worker completed stands in the trace, whatever happens next.
mod NodesRan
-- A worker takes its next order, and is under way.
mod NodesOrder
-- A worker takes the next frame from another, and is under way.
mod NodesFrame
-- The runs of a batch that is finished are done.
mod NodesDone
-- What a worker gave is sent, a report to the controller and a frame to another worker, and all are under way.
mod NodesGiven
-- A worker finishes its batch, and all are under way.
mod NodesFinish
-- The controller takes the next report of a worker, and all are under way.
mod NodesReport
-- The orders of a turn wait for their workers, and all are under way.
mod NodesSent
-- So workers and their links are under way from event to event.
mod NodesGoOn
-- No task stands twice in the trace: a batch runs tasks that weren't run, each once.
mod Once
-- Orders and moving events leave the job, how it is run, the controller and what it gave as they are.
pub mod Keeping
-- What a controller and its orders keep, and what the workers keep, make a cluster under way.
mod Planned
-- A new cluster is under way, and so it is behind each event.
mod UnderWayGoes
-- Each run that a worker of a cluster is asked for stands at its task's home.
mod AtHomes
-- All orders of a cluster's controller are those of its moves, whatever events come.
mod PutSoFar
-- So each cluster that events lead to is in step: the law `clusters_stay_in_step`.
mod StaysInStep
-- Events lead from cluster to cluster, of the same job and run in the same way: the law `events_go_on`.
mod GoesOn
-- Sums and counts of lists: one item in another's place, item by item, and numbers that differ.
mod FewLists
-- A worker completes no more commands than it is asked for.
pub mod FewRan
-- A batch that is finished gives at most two messages for each of its commands.
mod FewOuts
-- Each event at a worker uses up something that waits there, or completes a command.
mod FewNodes
-- A message that is sent adds one to what waits, and one that isn't delivered nothing.
mod FewSent
-- So each event that is done uses something up.
mod FewEvents
-- No more events are done than orders, commands and workers come to: the law `events_are_few`.
mod Few
