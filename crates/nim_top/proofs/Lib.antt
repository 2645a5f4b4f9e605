-- The commands that clap is given are simple, and a value that it reads is one that it found: all clauses of `given`.
pub mod Commands
-- What follows from the bytes of a file follows from the file that words name, and from all three of them.
pub mod NamedFiles
-- A job that is done, passes a limit or is stalled ends as program order says.
pub mod Followed
-- A command that refuses files or wrote its output ends as it should: `top_check`, clause `answers` of `top_replay`.
pub mod Ended
-- Behind a plan that was followed a cluster that ran it is kept, where the status says that it ran.
pub mod Left
-- Nothing is kept where files weren't loaded or are refused, and else what a run left: clause `kept` of `top_replay`.
pub mod Kept
-- The summary is that of the kept cluster, and none is told where nothing ran: clause `summary` of `top_replay`.
pub mod Summed
