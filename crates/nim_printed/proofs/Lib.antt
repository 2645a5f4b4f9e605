-- Which words are names, numerals and signs, and that words which a test tells apart differ.
pub mod TreeWordKinds
-- A word at the front of a text is a token of its kind, whatever follows behind a space.
pub mod WordsFronts
-- The pieces of a printed line are its words, and
pub mod WordsPieces
-- lines of words are read as the tokens of these words: the contract of `words_are_read`.
pub mod WordsRead
-- A production that reads some words and then another that reads the next read both.
pub mod TreeReads
-- The parts of lines without lists are read back,
pub mod TreeAtoms
-- so are the lists, and
pub mod TreeLists
-- each printed line is read as the form that it was printed from.
pub mod TreeForms
-- The tokens of lines of words are grouped line by line again.
pub mod TreeTokens
-- No rule refuses a printed line, and the lines leave the state behind them, one after another.
pub mod TreeWalk
-- Behind the lines of a printed tree the state is that tree.
pub mod TreeStates
-- Tests joined by `and` hold just when each holds, and no line is refused where each one passes.
pub mod JobLists
-- The words of a printed tree are names, numerals and signs.
pub mod TreeSpelled
-- The text of a printed tree is read as that tree: the contract of `tree_is_read`.
pub mod TreeRead
-- A name stands at its place among names of which none stands twice.
pub mod JobNames
-- The variables of a printed job are read back, refused by no rule, and printable.
pub mod JobVars
-- A job's stages mean the same where loaded data aren't there.
pub mod JobPlaces
-- The stages are read back, refused by no rule, and printable, and
pub mod JobStages
-- so are the blocks, and
pub mod JobBlocks
-- what the statements read and set.
pub mod JobAtoms
-- What statements did and left open doesn't depend on the numbers of their lines.
pub mod JobLines
-- Parts that show statements are put together.
pub mod JobStmts
-- Each kind of statement is shown by its lines, and
pub mod JobCases
-- so is a statement with all that it holds.
pub mod JobTrees
-- So the tree of a checked and spelled job stands for it: the contract of `job_stands`.
pub mod JobWhole
-- What is printed of a job is read as that job: the contract of `job_is_read`.
pub mod JobRead
