-- Room made for more slots leaves each slot as it was, and a slot set changes no other: clause `ok` of `Store::put`.
pub mod Slots
-- A tree's entries answer as the map of frames: clauses `ok` of `Inbox::keep`, `value` and `rest` of `Inbox::take`,
-- and what `Inbox::has` and `Inbox::forget_before` promise.
pub mod Frames
