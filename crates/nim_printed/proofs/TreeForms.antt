-- Each printed line is read as the form that it was printed from.
use Rattle.std.proofs.Common.{◌≡◌, ℕ, ◌==◌, true, false, List, length, [], ◌∷◌, ◌++◌, map, refl, sym, ap, ◌∙◌, append_assoc}
use Rattle.std.specs.Prelude.{codes, decimal}
use Rattle.std.specs.List.{flat_map, list_all}
use Rattle.std.proofs.lemmas.Bool.{and_parts}
use Rattle.nim_parse.specs.declared.form.Form.TheVariants as form
use Rattle.nim_parse.specs.declared.form.Head.{Head}
use Rattle.nim_parse.specs.declared.form.Head.TheVariants as head
use Rattle.nim_parse.specs.declared.sections.Atom.{Atom}
use Rattle.nim_parse.specs.declared.sections.Condition.{Condition}
use Rattle.nim_parse.specs.declared.sections.Expression.{Expression}
use Rattle.nim_parse.specs.declared.sections.Stage.{Stage}
use Rattle.nim_parse.specs.declared.sections.Statement.{Statement}
use Rattle.nim_parse.specs.declared.sections.Statement.TheVariants.{Do, Let, Get, Loop, While, If, Else, End, Checkpoint, Output}
use Rattle.nim_parse.specs.declared.sections.Var.{Var}
use Rattle.nim_parse.specs.Grammar.{alone, block, block_end, do_line, end_or_stage, get_line, header, if_line, let_line, line_form, loop_line, on_line, output_line, stage, steps, var, while_line}
use Rattle.nim_parse.specs.Input.{Input, Parser, ◌>>◌, ◌<$>◌, done, left, pure}
use Rattle.nim_printed.specs.Lines.{each_words, listed_words, ref_words, stage_words, statement_words, var_words, with_words}
use Rattle.nim_printed.specs.Spelled.{is_unreserved, is_small}
use Rattle.nim_printed.specs.Trees.{is_printable_stage, is_statement, is_printable_var}
use Rattle.nim_printed.specs.Words.{Word}
use Rattle.nim_printed.proofs.TreeAtoms.{atom_alone, condition_reads, expression_reads, init_reads}
use Rattle.nim_printed.proofs.TreeLists.{atoms_reads, each_reads, names_reads, parameters_reads, reads_reads, with_ends, writes_reads}
use Rattle.nim_printed.proofs.TreeReads.{Reads, Spells, done_reads, expects, name_reads, number_reads, pure_reads, respells, spelled_length, taken_true, then_reads}
use Rattle.nim_printed.proofs.TreeWordKinds.{free_name}

-- the end of a line
ended : {A : Type 0} (a : A) → Reads (done >> pure a) [] a []
ended a = then_reads _ done_reads (pure_reads a [])

-- ---- lines before the statements

header_reads : Reads header (codes "nimbus" ∷ codes "1" ∷ []) form.Header []
unfolding header
header_reads = then_reads _ (expects (codes "nimbus") _) (then_reads _ (expects (codes "1") []) (ended form.Header))

steps_reads : (line : ℕ) (most : ℕ) → is_small most ≡ true → Reads (steps line) (codes "steps" ∷ decimal most ∷ [])
    (form.Steps (record { line = line; most = most })) []
unfolding steps
steps_reads line most small =
    then_reads _ (expects (codes "steps") _) (then_reads _ (number_reads most [] small) (ended (form.Steps (record { line = line; most = most }))))

var_reads : (line : ℕ) (v : Var) → is_printable_var v ≡ true → Reads (var line) (var_words v) (form.Var (record v { line = line })) []
unfolding var
var_reads line v are =
    let a = and_parts _ _ are in
    let b = and_parts _ _ a.0 in
    let d = and_parts _ _ b.0 in
    let e = and_parts (is_unreserved v.name) (is_small v.parts) d.0 in
    then_reads _ (expects (codes "var") _)
    (then_reads _ (name_reads v.name _ (free_name v.name e.0))
    (then_reads _ (expects (codes "parts") _)
    (then_reads _ (number_reads v.parts _ e.1)
    (then_reads _ (expects (codes "width") _)
    (then_reads _ (number_reads v.width _ d.1)
    (then_reads _ (expects (codes "rows") _)
    (then_reads _ (number_reads v.rows _ b.1)
    (then_reads _ (init_reads v.init a.1) (ended (form.Var (record v { line = line })))))))))))

block_reads : (line : ℕ) (called : Word) (arguments : List Word) → is_unreserved called ≡ true → list_all is_unreserved arguments ≡ true
    → Reads (block line) (codes "block" ∷ called ∷ listed_words (map (λ argument. argument ∷ []) arguments))
    (form.Block (record { line = line; name = called; arguments = arguments; stages = [] })) []
unfolding block
block_reads line called arguments free are =
    then_reads _ (expects (codes "block") _)
    (then_reads _ (name_reads called _ (free_name called free))
    (then_reads _ (names_reads arguments are) (ended (form.Block (record { line = line; name = called; arguments = arguments; stages = [] })))))

stage_reads : (line : ℕ) (s : Stage) → is_printable_stage s ≡ true → Reads (stage line) (stage_words s) (form.Stage (record s { line = line })) []
unfolding stage
stage_reads line s are =
    let a = and_parts _ _ are in
    let b = and_parts _ _ a.0 in
    let d = and_parts (is_unreserved s.function) _ b.0 in
    let read : List Word = flat_map ref_words s.reads in
    let written : List Word = flat_map ref_words s.writes in
    let given : List Word = with_words s.parameters in
    let turns : List Word = each_words s.each in
    respells
    (ap (λ (ws : List Word). s.function ∷ ws)
    (sym (append_assoc (read ++ (codes "->" ∷ written)) given turns
    ∙ append_assoc read (codes "->" ∷ written) (given ++ turns))))
    (then_reads _ (name_reads s.function _ (free_name s.function d.0))
    (then_reads _ (reads_reads s.reads _ d.1)
    (then_reads _ (writes_reads s.writes _ (with_ends s.parameters s.each) b.1)
    (then_reads _ (parameters_reads s.parameters s.each a.1)
    (then_reads _ (each_reads s.each) (ended (form.Stage (record s { line = line }))))))))

block_end_reads : Reads block_end (codes "end" ∷ []) form.BlockEnd []
unfolding block_end
block_end_reads = then_reads _ (expects (codes "end") []) (ended form.BlockEnd)

-- ---- statements

alone_reads : (word : Word) (s : Statement) → Reads (alone word s) (word ∷ []) s []
unfolding alone
alone_reads word s = then_reads _ (expects word []) (ended s)

do_reads : (called : Word) (arguments : List Atom) → is_statement (Do called arguments) ≡ true
    → Reads do_line (statement_words (Do called arguments)) (Do called arguments) []
unfolding do_line
do_reads called arguments are =
    let both = and_parts (is_unreserved called) _ are in
    then_reads _ (expects (codes "do") _)
    (then_reads _ (name_reads called _ (free_name called both.0))
    (then_reads _ (atoms_reads arguments both.1) (ended (Do called arguments))))

let_reads : (scalar : Word) (value : Expression) → is_statement (Let scalar value) ≡ true
    → Reads let_line (statement_words (Let scalar value)) (Let scalar value) []
unfolding let_line
let_reads scalar value are =
    let both = and_parts (is_unreserved scalar) _ are in
    then_reads _ (expects (codes "let") _)
    (then_reads _ (name_reads scalar _ (free_name scalar both.0))
    (then_reads _ (expects (codes "=") _)
    (then_reads _ (expression_reads value both.1) (ended (Let scalar value)))))

get_reads : (scalar variable : Word) (part row column : ℕ) → is_statement (Get scalar variable part row column) ≡ true
    → Reads get_line (statement_words (Get scalar variable part row column)) (Get scalar variable part row column) []
unfolding get_line
get_reads scalar variable part row column are =
    let a = and_parts _ _ are in
    let b = and_parts _ _ a.0 in
    let d = and_parts _ _ b.0 in
    let e = and_parts (is_unreserved scalar) (is_unreserved variable) d.0 in
    then_reads _ (expects (codes "get") _)
    (then_reads _ (name_reads scalar _ (free_name scalar e.0))
    (then_reads _ (expects (codes "=") _)
    (then_reads _ (name_reads variable _ (free_name variable e.1))
    (then_reads _ (expects (codes "[") _)
    (then_reads _ (number_reads part _ d.1)
    (then_reads _ (expects (codes "]") _)
    (then_reads _ (number_reads row _ b.1)
    (then_reads _ (number_reads column _ a.1) (ended (Get scalar variable part row column))))))))))

loop_reads : (turns : Atom) → is_statement (Loop turns) ≡ true → Reads loop_line (statement_words (Loop turns)) (Loop turns) []
unfolding loop_line
loop_reads turns are = then_reads _ (expects (codes "loop") _) (then_reads _ (atom_alone turns are) (ended (Loop turns)))

while_reads : (test : Condition) → is_statement (While test) ≡ true → Reads while_line (statement_words (While test)) (While test) []
unfolding while_line
while_reads test are = then_reads _ (expects (codes "while") _) (then_reads _ (condition_reads test are) (ended (While test)))

if_reads : (test : Condition) → is_statement (If test) ≡ true → Reads if_line (statement_words (If test)) (If test) []
unfolding if_line
if_reads test are = then_reads _ (expects (codes "if") _) (then_reads _ (condition_reads test are) (ended (If test)))

output_reads : (variable : Word) → is_statement (Output variable) ≡ true → Reads output_line (statement_words (Output variable)) (Output variable) []
unfolding output_line
output_reads variable are =
    then_reads _ (expects (codes "output") _) (then_reads _ (name_reads variable [] (free_name variable are)) (ended (Output variable)))

-- ---- lines by their first words

abbrev pub head_for : Statement → Head
head_for (Do called arguments) = head.Do
head_for (Let scalar value) = head.Let
head_for (Get scalar variable part row column) = head.Get
head_for (Loop turns) = head.Loop
head_for (While test) = head.While
head_for (If test) = head.If
head_for Else = head.Else
head_for End = head.End
head_for Checkpoint = head.Checkpoint
head_for (Output variable) = head.Output

on_line_reads : (line : ℕ) (p : Parser Statement) (words : List Word) (s : Statement) → Reads p words s []
    → Reads (on_line line <$> p) words (on_line line s) []
on_line_reads line p words s before = then_reads _ before (pure_reads (on_line line s) [])

pub statement_line : (line : ℕ) (s : Statement) → is_statement s ≡ true → Reads (line_form false line (head_for s)) (statement_words s) (on_line line s) []
unfolding line_form
statement_line line (Do called arguments) are = on_line_reads line do_line _ _ (do_reads called arguments are)
statement_line line (Let scalar value) are = on_line_reads line let_line _ _ (let_reads scalar value are)
statement_line line (Get scalar variable part row column) are = on_line_reads line get_line _ _ (get_reads scalar variable part row column are)
statement_line line (Loop turns) are = on_line_reads line loop_line _ _ (loop_reads turns are)
statement_line line (While test) are = on_line_reads line while_line _ _ (while_reads test are)
statement_line line (If test) are = on_line_reads line if_line _ _ (if_reads test are)
statement_line line Else are = on_line_reads line (alone (codes "else") Else) _ _ (alone_reads (codes "else") Else)
statement_line line End are = on_line_reads line (alone (codes "end") End) _ _ (alone_reads (codes "end") End)
statement_line line Checkpoint are = on_line_reads line (alone (codes "checkpoint") Checkpoint) _ _ (alone_reads (codes "checkpoint") Checkpoint)
statement_line line (Output variable) are = on_line_reads line output_line _ _ (output_reads variable are)

pub header_line : (line : ℕ) → Reads (line_form false line head.Nimbus) (codes "nimbus" ∷ codes "1" ∷ []) form.Header []
unfolding line_form
header_line line = header_reads

pub steps_line : (line : ℕ) (most : ℕ) → is_small most ≡ true
    → Reads (line_form false line head.Steps) (codes "steps" ∷ decimal most ∷ []) (form.Steps (record { line = line; most = most })) []
unfolding line_form
steps_line line most small = steps_reads line most small

pub var_line : (line : ℕ) (v : Var) → is_printable_var v ≡ true → Reads (line_form false line head.Var) (var_words v) (form.Var (record v { line = line })) []
unfolding line_form
var_line line v are = var_reads line v are

pub block_line : (line : ℕ) (called : Word) (arguments : List Word) → is_unreserved called ≡ true → list_all is_unreserved arguments ≡ true
    → Reads (line_form false line head.Block) (codes "block" ∷ called ∷ listed_words (map (λ argument. argument ∷ []) arguments))
    (form.Block (record { line = line; name = called; arguments = arguments; stages = [] })) []
unfolding line_form
block_line line called arguments free are = block_reads line called arguments free are

pub stage_line : (line : ℕ) (s : Stage) → is_printable_stage s ≡ true
    → Reads (line_form true line head.Other) (stage_words s) (form.Stage (record s { line = line })) []
unfolding line_form
stage_line line s are = stage_reads line s are

one_left : (word : Word) (i : Input) → Spells i.source i.tokens (word ∷ []) → (left i == 1) ≡ true
unfolding left
one_left word i spelled = let one : length i.tokens ≡ 1 = spelled_length i.source i.tokens (word ∷ []) spelled in rw one refl

-- `end` alone ends a block
pub block_end_line : (line : ℕ) → Reads (line_form true line head.End) (codes "end" ∷ []) form.BlockEnd []
unfolding line_form end_or_stage
block_end_line line =
    taken_true (λ i. left i == 1) block_end (stage line) (one_left (codes "end")) block_end_reads
