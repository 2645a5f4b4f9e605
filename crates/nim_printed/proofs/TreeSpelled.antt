-- The words of a printed tree are words: names, numerals and signs.
use Rattle.std.proofs.Common.{◌≡◌, ℕ, suc, Bool, true, false, ◌||◌, List, [], ◌∷◌, ◌++◌, map, refl, Option, Some, None}
use Rattle.std.specs.Prelude.{ℤ, pos, negsuc, codes, decimal}
use Rattle.std.specs.List.{flat_map, list_all}
use Rattle.std.proofs.lemmas.Bool.{and_from, and_parts, false≢true}
use Rattle.nim_parse.specs.declared.sections.Atom.{Atom}
use Rattle.nim_parse.specs.declared.sections.Atom.TheVariants.{Number, Name}
use Rattle.nim_parse.specs.declared.sections.Block.{Block}
use Rattle.nim_parse.specs.declared.sections.Condition.{Condition}
use Rattle.nim_parse.specs.declared.sections.Condition.TheVariants.{NotZero, Holds}
use Rattle.nim_parse.specs.declared.sections.Expression.{Expression}
use Rattle.nim_parse.specs.declared.sections.Expression.TheVariants.{Alone, Two}
use Rattle.nim_parse.specs.declared.sections.Index.{Index}
use Rattle.nim_parse.specs.declared.sections.Index.TheVariants.{Part, Own, After, Before}
use Rattle.nim_parse.specs.declared.sections.Init.{Init}
use Rattle.nim_parse.specs.declared.sections.Init.TheVariants.{Fill, Iota, Load}
use Rattle.nim_parse.specs.declared.sections.Line.{Line}
use Rattle.nim_parse.specs.declared.sections.Operator.{Operator}
use Rattle.nim_parse.specs.declared.sections.Operator.TheVariants.{Add, Subtract, Multiply, Divide, Remainder}
use Rattle.nim_parse.specs.declared.sections.Ref.{Ref}
use Rattle.nim_parse.specs.declared.sections.Relation.{Relation}
use Rattle.nim_parse.specs.declared.sections.Relation.TheVariants.{Less, AtMost, Equal, NotEqual, Greater, AtLeast}
use Rattle.nim_parse.specs.declared.sections.Stage.{Stage}
use Rattle.nim_parse.specs.declared.sections.Statement.{Statement}
use Rattle.nim_parse.specs.declared.sections.Statement.TheVariants.{Do, Let, Get, Loop, While, If, Else, End, Checkpoint, Output}
use Rattle.nim_parse.specs.declared.sections.Steps.{Steps}
use Rattle.nim_parse.specs.declared.sections.Sections.{Sections}
use Rattle.nim_parse.specs.declared.sections.Var.{Var}
use Rattle.nim_printed.specs.Lines.{atom_words, block_words, condition_words, each_words, index_words, init_words, int_words, listed_words, more_words, operator_word, ref_words, relation_word, stage_words, statement_words, steps_lines, tree_words, value_words, var_words, with_words}
use Rattle.nim_printed.specs.Spelled.{is_unreserved, is_int, is_small}
use Rattle.nim_printed.specs.Trees.{is_printable_atom, is_printable_block, is_condition, is_index, is_printable_init, is_printable, is_printable_ref, is_some_refs, is_printable_stage, is_statement, is_steps, is_printable_value, is_printable_var}
use Rattle.nim_printed.specs.Words.{Word, is_short_name, is_sign, is_small_numeral, is_word}
use Rattle.nim_printed.proofs.TreeWordKinds.{decimal_is_small, free_short, one_more_small, small_enough}
use Rattle.nim_printed.proofs.JobLists.{all_both}

abbrev AreWords : List Word → Type 0
AreWords words = list_all is_word words ≡ true

abbrev AreLines : List (List Word) → Type 0
AreLines lines = list_all (list_all is_word) lines ≡ true

or_first : (a b c : Bool) → a ≡ true → ((a || b) || c) ≡ true
or_first true b c h = refl
or_first false b c h = cc

or_second : (a b c : Bool) → b ≡ true → ((a || b) || c) ≡ true
or_second true b c h = refl
or_second false true c h = refl
or_second false false c h = cc

name_word : (word : Word) → is_unreserved word ≡ true → is_word word ≡ true
name_word word free = or_first (is_short_name word) (is_small_numeral word) (is_sign word) (free_short word free)

number_word : (n : ℕ) → is_small n ≡ true → is_word (decimal n) ≡ true
number_word n small = or_second (is_short_name (decimal n)) (is_small_numeral (decimal n)) (is_sign (decimal n)) (decimal_is_small n small)

-- the words of each item of a list
each_of : {A : Type 0} (words_of : A → List Word) (passes : A → Bool) → ((x : A) → passes x ≡ true → AreWords (words_of x))
    → (xs : List A) → list_all passes xs ≡ true → AreWords (flat_map words_of xs)
each_of words_of passes one [] are = refl
each_of words_of passes one (x ∷ xs) are =
    let both = and_parts (passes x) (list_all passes xs) are in
    all_both is_word (words_of x) (flat_map words_of xs) (one x both.0) (each_of words_of passes one xs both.1)

more_of : {A : Type 0} (words_of : A → List Word) (passes : A → Bool) → ((x : A) → passes x ≡ true → AreWords (words_of x))
    → (xs : List A) → list_all passes xs ≡ true → AreWords (more_words (map words_of xs))
more_of words_of passes one [] are = refl
more_of words_of passes one (x ∷ xs) are =
    let both = and_parts (passes x) (list_all passes xs) are in
    all_both is_word (words_of x) (more_words (map words_of xs)) (one x both.0) (more_of words_of passes one xs both.1)

listed_of : {A : Type 0} (words_of : A → List Word) (passes : A → Bool) → ((x : A) → passes x ≡ true → AreWords (words_of x))
    → (xs : List A) → list_all passes xs ≡ true → AreWords (listed_words (map words_of xs))
listed_of words_of passes one [] are = refl
listed_of words_of passes one (x ∷ xs) are =
    let both = and_parts (passes x) (list_all passes xs) are in
    all_both is_word (words_of x) (more_words (map words_of xs)) (one x both.0) (more_of words_of passes one xs both.1)

lines_of : {A : Type 0} (words_of : A → List Word) (passes : A → Bool) → ((x : A) → passes x ≡ true → AreWords (words_of x))
    → (xs : List A) → list_all passes xs ≡ true → AreLines (map words_of xs)
lines_of words_of passes one [] are = refl
lines_of words_of passes one (x ∷ xs) are =
    let both = and_parts (passes x) (list_all passes xs) are in
    and_from _ _ (one x both.0) (lines_of words_of passes one xs both.1)

-- ---- parts of lines

number_words_are : (n : ℕ) → is_small n ≡ true → AreWords (decimal n ∷ [])
number_words_are n small = and_from _ _ (number_word n small) refl

int_words_are : (number : ℤ) → is_int number ≡ true → AreWords (int_words number)
int_words_are (pos n) small = number_words_are n (small_enough n small)
int_words_are (negsuc n) small = number_words_are (suc n) (one_more_small n small)

name_words_are : (word : Word) → is_unreserved word ≡ true → AreWords (word ∷ [])
name_words_are word free = and_from _ _ (name_word word free) refl

atom_words_are : (a : Atom) → is_printable_atom a ≡ true → AreWords (atom_words a)
atom_words_are (Number number) small = int_words_are number small
atom_words_are (Name word) free = name_words_are word free

index_words_are : (x : Index) → is_index x ≡ true → AreWords (index_words x)
index_words_are (Part n) small = number_words_are n small
index_words_are Own small = refl
index_words_are (After n) small = number_words_are n small
index_words_are (Before n) small = number_words_are n small

ref_words_are : (ref : Ref) → is_printable_ref ref ≡ true → AreWords (ref_words ref)
ref_words_are ref are =
    let both = and_parts (is_unreserved ref.name) (is_index ref.index) are in
    and_from _ _ (name_word ref.name both.0) (all_both is_word (index_words ref.index) (codes "]" ∷ []) (index_words_are ref.index both.1) refl)

init_words_are : (x : Init) → is_printable_init x ≡ true → AreWords (init_words x)
init_words_are (Fill number) small = int_words_are number small
init_words_are Iota small = refl
init_words_are Load small = refl

with_words_are : (xs : List Atom) → list_all is_printable_atom xs ≡ true → AreWords (with_words xs)
with_words_are [] are = refl
with_words_are (x ∷ xs) are = each_of atom_words is_printable_atom atom_words_are (x ∷ xs) are

each_words_are : (given : Bool) → AreWords (each_words given)
each_words_are true = refl
each_words_are false = refl

operator_is_word : (sign : Operator) → is_word (operator_word sign) ≡ true
operator_is_word Add = refl
operator_is_word Subtract = refl
operator_is_word Multiply = refl
operator_is_word Divide = refl
operator_is_word Remainder = refl

relation_is_word : (sign : Relation) → is_word (relation_word sign) ≡ true
relation_is_word Less = refl
relation_is_word AtMost = refl
relation_is_word Equal = refl
relation_is_word NotEqual = refl
relation_is_word Greater = refl
relation_is_word AtLeast = refl

two_atoms : (first second : Atom) (sign : Word) → is_printable_atom first ≡ true → is_printable_atom second ≡ true → is_word sign ≡ true
    → AreWords (atom_words first ++ sign ∷ atom_words second)
two_atoms first second sign are also word =
    all_both is_word (atom_words first) (sign ∷ atom_words second) (atom_words_are first are)
    (and_from (is_word sign) (list_all is_word (atom_words second)) word (atom_words_are second also))

value_words_are : (value : Expression) → is_printable_value value ≡ true → AreWords (value_words value)
value_words_are (Alone a) are = atom_words_are a are
value_words_are (Two first sign second) are =
    let both = and_parts (is_printable_atom first) (is_printable_atom second) are in
    two_atoms first second (operator_word sign) both.0 both.1 (operator_is_word sign)

condition_words_are : (test : Condition) → is_condition test ≡ true → AreWords (condition_words test)
condition_words_are (NotZero a) are = atom_words_are a are
condition_words_are (Holds first sign second) are =
    let both = and_parts (is_printable_atom first) (is_printable_atom second) are in
    two_atoms first second (relation_word sign) both.0 both.1 (relation_is_word sign)

-- ---- lines

steps_lines_are : (steps : Option Steps) → is_steps steps ≡ true → AreLines (steps_lines steps)
steps_lines_are None small = refl
steps_lines_are (Some steps) small = and_from _ _ (number_words_are steps.most small) refl

var_words_are : (v : Var) → is_printable_var v ≡ true → AreWords (var_words v)
var_words_are v are =
    let a = and_parts _ _ are in
    let b = and_parts _ _ a.0 in
    let d = and_parts _ _ b.0 in
    let e = and_parts (is_unreserved v.name) (is_small v.parts) d.0 in
    and_from _ _ (name_word v.name e.0)
    (and_from _ _ (number_word v.parts e.1)
    (and_from _ _ (number_word v.width d.1) (and_from _ _ (number_word v.rows b.1) (init_words_are v.init a.1))))

some_refs : (refs : List Ref) → is_some_refs refs ≡ true → list_all is_printable_ref refs ≡ true
some_refs [] are = absurd (false≢true are)
some_refs (ref ∷ refs) are = are

stage_words_are : (s : Stage) → is_printable_stage s ≡ true → AreWords (stage_words s)
stage_words_are s are =
    let a = and_parts _ _ are in
    let b = and_parts _ _ a.0 in
    let d = and_parts (is_unreserved s.function) _ b.0 in
    let read : List Word = flat_map ref_words s.reads in
    let written : List Word = flat_map ref_words s.writes in
    let given : List Word = with_words s.parameters in
    and_from _ _ (name_word s.function d.0)
    (all_both is_word ((read ++ codes "->" ∷ written) ++ given) (each_words s.each)
    (all_both is_word (read ++ codes "->" ∷ written) given
    (all_both is_word read (codes "->" ∷ written) (each_of ref_words is_printable_ref ref_words_are s.reads d.1)
    (each_of ref_words is_printable_ref ref_words_are s.writes (some_refs s.writes b.1)))
    (with_words_are s.parameters a.1))
    (each_words_are s.each))

block_lines_are : (b : Block) → is_printable_block b ≡ true → AreLines (block_words b)
block_lines_are b are =
    let both = and_parts _ (list_all is_printable_stage b.stages) are in
    let front = and_parts (is_unreserved b.name) (list_all is_unreserved b.arguments) both.0 in
    and_from _ _ (and_from _ _ (name_word b.name front.0) (listed_of (λ (word : Word). word ∷ []) is_unreserved name_words_are b.arguments front.1))
    (all_both (list_all is_word) (map stage_words b.stages) ((codes "end" ∷ []) ∷ [])
    (lines_of stage_words is_printable_stage stage_words_are b.stages both.1) refl)

blocks_lines_are : (blocks : List Block) → list_all is_printable_block blocks ≡ true → AreLines (flat_map block_words blocks)
blocks_lines_are [] are = refl
blocks_lines_are (b ∷ blocks) are =
    let both = and_parts (is_printable_block b) (list_all is_printable_block blocks) are in
    all_both (list_all is_word) (block_words b) (flat_map block_words blocks) (block_lines_are b both.0) (blocks_lines_are blocks both.1)

statement_words_are : (s : Statement) → is_statement s ≡ true → AreWords (statement_words s)
statement_words_are (Do called arguments) are =
    let both = and_parts (is_unreserved called) _ are in
    and_from _ _ (name_word called both.0) (listed_of atom_words is_printable_atom atom_words_are arguments both.1)
statement_words_are (Let scalar value) are =
    let both = and_parts (is_unreserved scalar) _ are in
    and_from _ _ (name_word scalar both.0) (value_words_are value both.1)
statement_words_are (Get scalar variable part row column) are =
    let a = and_parts _ _ are in
    let b = and_parts _ _ a.0 in
    let d = and_parts _ _ b.0 in
    let e = and_parts (is_unreserved scalar) (is_unreserved variable) d.0 in
    and_from _ _ (name_word scalar e.0)
    (and_from _ _ (name_word variable e.1)
    (and_from _ _ (number_word part d.1) (and_from _ _ (number_word row b.1) (number_words_are column a.1))))
statement_words_are (Loop turns) are = atom_words_are turns are
statement_words_are (While test) are = condition_words_are test are
statement_words_are (If test) are = condition_words_are test are
statement_words_are Else are = refl
statement_words_are End are = refl
statement_words_are Checkpoint are = refl
statement_words_are (Output variable) are = name_words_are variable are

-- each word of a printed tree is a word
pub tree_words_are : (tree : Sections) → is_printable tree ≡ true → list_all (list_all is_word) (tree_words tree) ≡ true
tree_words_are tree printable =
    let a = and_parts _ _ printable in
    let b = and_parts _ _ a.0 in
    let d = and_parts _ _ b.0 in
    let e = and_parts (is_steps tree.steps) (list_all is_printable_var tree.vars) d.0 in
    let steps : List (List Word) = steps_lines tree.steps in
    let vars : List (List Word) = map var_words tree.vars in
    let blocks : List (List Word) = flat_map block_words tree.blocks in
    let statements : List (List Word) = map (λ (line : Line). statement_words line.statement) tree.statements in
    all_both (list_all is_word) ((steps ++ vars) ++ blocks) statements
    (all_both (list_all is_word) (steps ++ vars) blocks
    (all_both (list_all is_word) steps vars (steps_lines_are tree.steps e.0) (lines_of var_words is_printable_var var_words_are tree.vars e.1))
    (blocks_lines_are tree.blocks d.1))
    (lines_of (λ (line : Line). statement_words line.statement) (λ (line : Line). is_statement line.statement)
    (λ line are. statement_words_are line.statement are) tree.statements b.1)
