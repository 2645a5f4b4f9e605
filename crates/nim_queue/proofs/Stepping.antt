-- A queue that takes in a group goes on by one command.
use Rattle.std.proofs.Common.{◌≡◌, ℕ, ◌+◌, Bool, true, List, [], ◌∷◌, ◌++◌, length, ap, sym, ◌∙◌, arith}
use Rattle.std.specs.List.{list_all}
use Rattle.std.proofs.lemmas.Bool.{and_parts}
use Rattle.std.proofs.lemmas.List.{append-nil, append_assoc, map-append}
use Rattle.nim_command.specs.declared.command.Command.{Command}
use Rattle.nim_command.specs.Waits.{Group, Member, members_of}
use Rattle.nim_order.proofs.Longer.{members_append}
use Rattle.nim_queue.specs.Arrived.{as_members}
use Rattle.nim_queue.specs.declared.arrivals.Arrival.{Arrival}

-- the members of one more group
pub members_more : (groups : List Group) (next : Group) → members_of (groups ++ next ∷ []) ≡ members_of groups ++ as_members (length groups) next.commands
members_more groups next =
    let same : 0 + length groups ≡ length groups = omega arith in
    members_append 0 groups (next ∷ [])
    ∙ ap (λ (ms : List Member). members_of groups ++ ms) (append-nil (as_members (0 + length groups) next.commands))
    ∙ ap (λ (n : ℕ). members_of groups ++ as_members n next.commands) same

-- a group with one more command has one more member
pub one_member : (groups : List Group) (prev next : Group) (c : Command) → next.commands ≡ prev.commands ++ c ∷ []
    → members_of (groups ++ next ∷ []) ≡ members_of (groups ++ prev ∷ []) ++ record { group = length groups; command = c } ∷ []
one_member groups prev next c is =
    let m : Member = record { group = length groups; command = c } in
    members_more groups next
    ∙ ap (λ (cs : List Command). members_of groups ++ as_members (length groups) cs) is
    ∙ ap (λ (ms : List Member). members_of groups ++ ms)
    (map-append (λ (k : Command). let x : Member = record { group = length groups; command = k } in x) prev.commands (c ∷ []))
    ∙ sym (append_assoc (members_of groups) (as_members (length groups) prev.commands) (m ∷ []))
    ∙ ap (λ (ms : List Member). ms ++ m ∷ []) (sym (members_more groups prev))

-- the one at a place is covered
pub covered_at : (p : Arrival → Bool) (past rest : List Arrival) (a : Arrival) → list_all p (past ++ a ∷ rest) ≡ true → p a ≡ true
covered_at p [] rest a all = (and_parts (p a) (list_all p rest) all).0
covered_at p (b ∷ past) rest a all = covered_at p past rest a (and_parts (p b) (list_all p (past ++ a ∷ rest)) all).1
