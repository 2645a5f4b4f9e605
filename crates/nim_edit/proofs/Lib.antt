-- While a read is left, a mask of at most eight reads has room for one bit more, so that `mask_of` can't overflow.
pub mod Masks
-- Halves that ascend, with the rule's before sets, are equal where they have the same under each number.
pub mod Cells
-- The entries that an edit puts ascend, and have numbers of its own task and of phases that it takes away.
pub mod Puts
-- A half as built with the edits of all tasks has under each number what its task's edits make of it.
pub mod Owners
-- So a move of a task gives the halves of the new owners.
pub mod Migrations
-- A move that is taken leaves a template in form: clauses `taken`, `form`, `owned` and `unsent` of `migrate`.
pub mod Forms
-- The halves that a move touches, put in place each with its edit, are those with all edits: `moved` of `migrate`.
pub mod Touched
-- Halves of a template in form ascend and have the rule's before sets: clauses `ascend` and `by_rule` of `migrate`.
pub mod ByRule
-- Of a task's phases from 2 on the halves that are built have just its run, at its home.
pub mod Runs
-- What is built is in form: clauses `form` and `built` of `built_is_in_form`.
pub mod Built
-- Halves that differ between two numbers alone leave the same, where what is between does.
pub mod Between
-- So a half leaves what it left when a task moves whose entries at its home leave what its run does.
pub mod Stays
-- In main slots halves leave what they left before a move: clause `effect` of `migrate`.
pub mod Effects
-- An instance leaves what the effect says, also once tasks moved: `effect`, `again` and `left` of `moved_stays_good`.
pub mod Leaves
-- A template in form may be installed behind orders so far: clause `installs` of `moved_stays_good`.
pub mod Installs
-- A half has of each task its first phases as built and its later ones by home and owner, and then what was built.
pub mod Segments
-- The entries of a task's later phases, at its home and at its owner, in the order of their numbers.
pub mod LateEntries
-- So the commands of an instance stand by rank, task by task, once tasks moved.
pub mod InOrder
-- They ascend by rank.
pub mod Ascending
-- The commands as built ascend by rank, what is sent is received in the same order, and copies are of main slots.
pub mod Listed
-- Main slots that hold the same, whether a task ran at home or elsewhere, hold the same behind copies.
pub mod SamePlanes
-- While the commands as built run by rank, a main slot holds what the last entry so far left, or what it held at first.
pub mod SlotsSo
-- What a moved task reads is sent on or copied, it runs over scratch slots, and what it writes is sent back.
pub mod Elsewhere
-- So a moved task leaves in main slots what its run at its home leaves.
pub mod RunsElsewhere
-- Which version a task reads at its turn, what its home has, and what a bit of the mask says.
pub mod ReadFacts
-- First phases and closing copies run nothing, a task's later phases have its run, and an effect names main slots.
pub mod Parts
-- What is sent in parts of an instance is received in the same order: in what was built, and in a moved task.
pub mod Ends
-- At a task's turn in the walk by rank its home has what it reads, and its owner what the mask says.
pub mod Turn
-- A task's commands find what they need wherever it runs, and main slots hold the same behind them.
pub mod OneTask
-- What is sent in an instance whose tasks moved is received in the same order, and it runs each task once.
pub mod TasksEnds
-- Of a block without tasks nothing is asked for.
pub mod NoTasks
-- A template that was built, and of which tasks moved since, is sound: clause `sound` of `moved_stays_good`.
pub mod MovedSound
-- The commands of its instances are legal behind those so far: clause `legal` of `moved_stays_good`.
pub mod LegalThen
-- An instance has for each worker its half's commands; a task's home is live: clause `owned` of `built_is_in_form`.
pub mod OwnCommands
-- In copies each frame has the version that the sender's slot holds, and what is sent is received in the same order.
pub mod Parcels
-- The keys of what is sent and received in turn are those of each worker's commands, each once.
pub mod ParcelKeys
-- What single scheduling finds for each task of a block, and which commands are of a task's first phases.
pub mod Taken
-- What a moved task reads goes to its owner, and what it writes comes back, each with its version.
pub mod MovedParcels
-- What is sent in an instance whose tasks moved is received in the same order, with the version that it has.
pub mod TasksParcels
-- Closing copies are received as they are sent, and no Copy of a moved task goes to a main slot.
pub mod MovedInstances
-- The orders of an instance whose tasks moved extend orders so far.
pub mod MovedExtend
-- One worker's order that carries edits is by the rule, and legal where its commands are.
pub mod Carried
-- So the orders extend with no edits and with unsent ones: clauses `instances` and `carried` of `moved_stays_good`.
pub mod MovedOrders
-- Worked by hand: tasks of blocks on two and three workers move, objects placed in turn.
pub mod Examples
