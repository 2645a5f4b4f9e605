-- Entries and commands by the rule, one more at a time.
use Rattle.std.proofs.Common.{◌≡◌, List, [], ◌∷◌, ◌++◌, map, refl, ap, sym, ◌∙◌}
use Rattle.std.proofs.lemmas.List.{append-nil, append_assoc}
use Rattle.nim_command.specs.declared.command.Command.{Command}
use Rattle.nim_command.specs.declared.entry.Entry.{Entry}
use Rattle.nim_command.specs.Before.{Footprint, before_of, footprint_of}
use Rattle.nim_command.specs.Ruled.{commands_by_rule, entries_by_rule, entry_footprint}

-- one more entry
pub entries_more : (past : List Footprint) (xs : List Entry) (x : Entry)
    → entries_by_rule past (xs ++ x ∷ []) ≡ entries_by_rule past xs ++ record x { before = before_of (past ++ map entry_footprint xs) (entry_footprint x) } ∷ []
entries_more past [] x = ap (λ (p : List Footprint). record x { before = before_of p (entry_footprint x) } ∷ []) (sym (append-nil past))
entries_more past (e ∷ xs) x =
    ap (λ (rest : List Entry). record e { before = before_of past (entry_footprint e) } ∷ rest)
    (entries_more (past ++ entry_footprint e ∷ []) xs x
    ∙ ap (λ (p : List Footprint). entries_by_rule (past ++ entry_footprint e ∷ []) xs ++ record x { before = before_of p (entry_footprint x) } ∷ [])
    (append_assoc past (entry_footprint e ∷ []) (map entry_footprint xs)))

-- a before set doesn't count for others
pub prints_same : (past : List Footprint) (xs : List Entry) → map entry_footprint (entries_by_rule past xs) ≡ map entry_footprint xs
prints_same past [] = refl
prints_same past (e ∷ xs) = ap (λ (rest : List Footprint). entry_footprint e ∷ rest) (prints_same (past ++ entry_footprint e ∷ []) xs)

-- one more command
commands_more : (past : List Footprint) (xs : List Command) (x : Command)
    → commands_by_rule past (xs ++ x ∷ []) ≡ commands_by_rule past xs ++ record x { before = before_of (past ++ map footprint_of xs) (footprint_of x) } ∷ []
commands_more past [] x = ap (λ (p : List Footprint). record x { before = before_of p (footprint_of x) } ∷ []) (sym (append-nil past))
commands_more past (c ∷ xs) x =
    ap (λ (rest : List Command). record c { before = before_of past (footprint_of c) } ∷ rest)
    (commands_more (past ++ footprint_of c ∷ []) xs x
    ∙ ap (λ (p : List Footprint). commands_by_rule (past ++ footprint_of c ∷ []) xs ++ record x { before = before_of p (footprint_of x) } ∷ [])
    (append_assoc past (footprint_of c ∷ []) (map footprint_of xs)))

command_prints_same : (past : List Footprint) (xs : List Command) → map footprint_of (commands_by_rule past xs) ≡ map footprint_of xs
command_prints_same past [] = refl
command_prints_same past (c ∷ xs) = ap (λ (rest : List Footprint). footprint_of c ∷ rest) (command_prints_same (past ++ footprint_of c ∷ []) xs)

-- the commands so far, with one more
pub command_ruled : (done next : List Command) (seen : List Command) (x y : Command) → done ≡ commands_by_rule [] seen
    → y ≡ record x { before = before_of (map footprint_of done) (footprint_of x) } → next ≡ done ++ y ∷ [] → next ≡ commands_by_rule [] (seen ++ x ∷ [])
command_ruled done next seen x y before is push =
    push ∙ ap (λ (c : Command). done ++ c ∷ []) is
    ∙ ap (λ (d : List Command). d ++ record x { before = before_of (map footprint_of d) (footprint_of x) } ∷ []) before
    ∙ ap (λ (p : List Footprint). commands_by_rule [] seen ++ record x { before = before_of p (footprint_of x) } ∷ []) (command_prints_same [] seen)
    ∙ sym (commands_more [] seen x)
