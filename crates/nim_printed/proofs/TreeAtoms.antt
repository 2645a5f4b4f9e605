-- The parts of lines without lists are read back.
use Rattle.std.proofs.Common.{◌≡◌, suc, true, false, List, [], ◌∷◌, ◌++◌, pos, negsuc, refl, sym, ap, append_assoc, Some, None}
use Rattle.std.specs.Prelude.{ℤ, codes, decimal}
use Rattle.std.proofs.lemmas.Bool.{and_parts}
use Rattle.nim_parse.specs.declared.sections.Atom.{Atom}
use Rattle.nim_parse.specs.declared.sections.Atom.TheVariants.{Number, Name}
use Rattle.nim_parse.specs.declared.sections.Condition.{Condition}
use Rattle.nim_parse.specs.declared.sections.Condition.TheVariants.{NotZero, Holds}
use Rattle.nim_parse.specs.declared.sections.Expression.{Expression}
use Rattle.nim_parse.specs.declared.sections.Expression.TheVariants.{Alone, Two}
use Rattle.nim_parse.specs.declared.sections.Index.{Index}
use Rattle.nim_parse.specs.declared.sections.Index.TheVariants.{Part, Own, After, Before}
use Rattle.nim_parse.specs.declared.sections.Init.{Init}
use Rattle.nim_parse.specs.declared.sections.Init.TheVariants.{Fill, Iota, Load}
use Rattle.nim_parse.specs.declared.sections.Operator.{Operator}
use Rattle.nim_parse.specs.declared.sections.Operator.TheVariants.{Add, Subtract, Multiply, Divide, Remainder}
use Rattle.nim_parse.specs.declared.sections.Ref.{Ref}
use Rattle.nim_parse.specs.declared.sections.Relation.{Relation}
use Rattle.nim_parse.specs.declared.sections.Relation.TheVariants.{Less, AtMost, Equal, NotEqual, Greater, AtLeast}
use Rattle.nim_parse.specs.Grammar.{atom, condition, expression, index, init, one_of, operator, operators, own_index, reference, relation, relations}
use Rattle.nim_parse.specs.Input.{Input, ◌<$>◌, int, name, sees_name}
use Rattle.nim_printed.specs.Lines.{atom_words, condition_words, index_words, init_words, int_words, operator_word, ref_words, relation_word, value_words}
use Rattle.nim_printed.specs.Spelled.{is_unreserved, is_int}
use Rattle.nim_printed.specs.Trees.{is_printable_atom, is_condition, is_index, is_printable_init, is_printable_ref, is_printable_value}
use Rattle.nim_printed.specs.Words.{Word}
use Rattle.nim_printed.proofs.TreeReads.{Reads, Spells, expects, int_alone, int_reads, name_reads, number_reads, ends_then, passes_then, pure_reads, respells, sees_minus, sees_named, sees_number, taken_false, taken_true, takes_then, then_reads}
use Rattle.nim_printed.proofs.TreeWordKinds.{decimal_differs, free_name, small_enough}

-- ---- atoms

no_name_first : (number : ℤ) (rest : List Word) (i : Input) → is_int number ≡ true → Spells i.source i.tokens (int_words number ++ rest) → sees_name i ≡ false
no_name_first (pos n) rest i small spelled = sees_number n rest i (small_enough n small) spelled
no_name_first (negsuc n) rest i small spelled = sees_minus (decimal (suc n) ∷ rest) i spelled

pub atom_reads : (a : Atom) (rest : List Word) → is_printable_atom a ≡ true → Reads atom (atom_words a ++ rest) a rest
unfolding atom
atom_reads (Number number) rest small =
    taken_false sees_name (Name <$> name) (Number <$> int) (λ i spelled. no_name_first number rest i small spelled)
    (then_reads _ (int_reads number rest small) (pure_reads (Number number) rest))
atom_reads (Name word) rest free =
    taken_true sees_name (Name <$> name) (Number <$> int) (λ i spelled. sees_named word rest i (free_name word free) spelled)
    (then_reads _ (name_reads word rest (free_name word free)) (pure_reads (Name word) rest))

pub atom_alone : (a : Atom) → is_printable_atom a ≡ true → Reads atom (atom_words a) a []
atom_alone (Number (pos n)) small = atom_reads (Number (pos n)) [] small
atom_alone (Number (negsuc n)) small = atom_reads (Number (negsuc n)) [] small
atom_alone (Name word) free = atom_reads (Name word) [] free

-- ---- refs

index_reads : (x : Index) (rest : List Word) → is_index x ≡ true → Reads index (index_words x ++ codes "]" ∷ rest) x (codes "]" ∷ rest)
unfolding index own_index
index_reads (Part n) rest small =
    passes_then (codes "i") _ _ (decimal n) (decimal_differs n (codes "i") small refl)
    (then_reads _ (number_reads n _ small) (pure_reads (Part n) _))
index_reads Own rest small =
    takes_then (codes "i") _ _
    (passes_then (codes "+") _ _ (codes "]") refl
    (passes_then (codes "-") _ _ (codes "]") refl (pure_reads Own _)))
index_reads (After n) rest small =
    takes_then (codes "i") _ _
    (takes_then (codes "+") _ _
    (then_reads _ (number_reads n _ small) (pure_reads (After n) _)))
index_reads (Before n) rest small =
    takes_then (codes "i") _ _
    (passes_then (codes "+") _ _ (codes "-") refl
    (takes_then (codes "-") _ _
    (then_reads _ (number_reads n _ small) (pure_reads (Before n) _))))

pub reference_reads : (ref : Ref) (rest : List Word) → is_printable_ref ref ≡ true → Reads reference (ref_words ref ++ rest) ref rest
unfolding reference
reference_reads ref rest are =
    let both = and_parts (is_unreserved ref.name) (is_index ref.index) are in
    respells (ap (λ (ws : List Word). ref.name ∷ codes "[" ∷ ws) (sym (append_assoc (index_words ref.index) (codes "]" ∷ []) rest)))
    (then_reads _ (name_reads ref.name _ (free_name ref.name both.0))
    (then_reads _ (expects (codes "[") _)
    (then_reads _ (index_reads ref.index rest both.1)
    (then_reads _ (expects (codes "]") rest) (pure_reads ref rest)))))

-- ---- what stands in a variable at first

pub init_reads : (x : Init) → is_printable_init x ≡ true → Reads init (init_words x) x []
unfolding init
init_reads (Fill number) small =
    takes_then (codes "fill") _ _ (then_reads _ (int_alone number small) (pure_reads (Fill number) []))
init_reads Iota small =
    passes_then (codes "fill") _ _ (codes "iota") refl (takes_then (codes "iota") _ _ (pure_reads Iota []))
init_reads Load small =
    passes_then (codes "fill") _ _ (codes "load") refl
    (passes_then (codes "iota") _ _ (codes "load") refl (then_reads _ (expects (codes "load") _) (pure_reads Load [])))

-- ---- expressions and conditions

none_at_end : {A : Type 0} (words : List (Word × A)) → Reads (one_of words) [] None []
none_at_end [] = pure_reads None []
none_at_end (word ∷ words) = ends_then word.0 _ _ (none_at_end words)

operator_reads : (sign : Operator) (rest : List Word) → Reads operator (operator_word sign ∷ rest) (Some sign) rest
unfolding operator
operator_reads Add rest = takes_then (codes "+") _ _ (pure_reads (Some Add) rest)
operator_reads Subtract rest =
    passes_then (codes "+") _ _ (codes "-") refl (takes_then (codes "-") _ _ (pure_reads (Some Subtract) rest))
operator_reads Multiply rest =
    passes_then (codes "+") _ _ (codes "*") refl
    (passes_then (codes "-") _ _ (codes "*") refl (takes_then (codes "*") _ _ (pure_reads (Some Multiply) rest)))
operator_reads Divide rest =
    passes_then (codes "+") _ _ (codes "/") refl
    (passes_then (codes "-") _ _ (codes "/") refl
    (passes_then (codes "*") _ _ (codes "/") refl (takes_then (codes "/") _ _ (pure_reads (Some Divide) rest))))
operator_reads Remainder rest =
    passes_then (codes "+") _ _ (codes "%") refl
    (passes_then (codes "-") _ _ (codes "%") refl
    (passes_then (codes "*") _ _ (codes "%") refl
    (passes_then (codes "/") _ _ (codes "%") refl (takes_then (codes "%") _ _ (pure_reads (Some Remainder) rest)))))

pub expression_reads : (value : Expression) → is_printable_value value ≡ true → Reads expression (value_words value) value []
unfolding expression operator
expression_reads (Alone a) are =
    then_reads _ (atom_alone a are) (then_reads _ (none_at_end operators) (pure_reads (Alone a) []))
expression_reads (Two first sign second) are =
    let both = and_parts (is_printable_atom first) (is_printable_atom second) are in
    then_reads _ (atom_reads first (operator_word sign ∷ atom_words second) both.0)
    (then_reads _ (operator_reads sign (atom_words second))
    (then_reads _ (atom_alone second both.1) (pure_reads (Two first sign second) [])))

relation_reads : (sign : Relation) (rest : List Word) → Reads relation (relation_word sign ∷ rest) (Some sign) rest
unfolding relation
relation_reads Less rest = takes_then (codes "<") _ _ (pure_reads (Some Less) rest)
relation_reads AtMost rest =
    passes_then (codes "<") _ _ (codes "<=") refl (takes_then (codes "<=") _ _ (pure_reads (Some AtMost) rest))
relation_reads Equal rest =
    passes_then (codes "<") _ _ (codes "=") refl
    (passes_then (codes "<=") _ _ (codes "=") refl (takes_then (codes "=") _ _ (pure_reads (Some Equal) rest)))
relation_reads NotEqual rest =
    passes_then (codes "<") _ _ (codes "!=") refl
    (passes_then (codes "<=") _ _ (codes "!=") refl
    (passes_then (codes "=") _ _ (codes "!=") refl (takes_then (codes "!=") _ _ (pure_reads (Some NotEqual) rest))))
relation_reads Greater rest =
    passes_then (codes "<") _ _ (codes ">") refl
    (passes_then (codes "<=") _ _ (codes ">") refl
    (passes_then (codes "=") _ _ (codes ">") refl
    (passes_then (codes "!=") _ _ (codes ">") refl (takes_then (codes ">") _ _ (pure_reads (Some Greater) rest)))))
relation_reads AtLeast rest =
    passes_then (codes "<") _ _ (codes ">=") refl
    (passes_then (codes "<=") _ _ (codes ">=") refl
    (passes_then (codes "=") _ _ (codes ">=") refl
    (passes_then (codes "!=") _ _ (codes ">=") refl
    (passes_then (codes ">") _ _ (codes ">=") refl (takes_then (codes ">=") _ _ (pure_reads (Some AtLeast) rest))))))

pub condition_reads : (test : Condition) → is_condition test ≡ true → Reads condition (condition_words test) test []
unfolding condition relation
condition_reads (NotZero a) are =
    then_reads _ (atom_alone a are) (then_reads _ (none_at_end relations) (pure_reads (NotZero a) []))
condition_reads (Holds first sign second) are =
    let both = and_parts (is_printable_atom first) (is_printable_atom second) are in
    then_reads _ (atom_reads first (relation_word sign ∷ atom_words second) both.0)
    (then_reads _ (relation_reads sign (atom_words second))
    (then_reads _ (atom_alone second both.1) (pure_reads (Holds first sign second) [])))
