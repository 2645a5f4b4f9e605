-- What `output` prints of all loaded variables of a whole job is loaded as the same job.
use Rattle.std.proofs.Common.{◌≡◌, ℕ, ◌+◌, ◌≤◌, ◌==◌, ℤ, pos, negsuc, true, false, List, [], ◌∷◌, ◌++◌, length, take, drop, refl, sym, ◌∙◌, ap, ap₂, arith, None, Ok, eq-eqb}
use Rattle.std.specs.Prelude.{All, bytes_eq, nat_le, nat_lt}
use Rattle.std.specs.List.{list_all}
use Rattle.std.proofs.lemmas.Bool.{and_parts}
use Rattle.std.proofs.lemmas.Bool.Decides.{nat_tests}
use Rattle.std.proofs.lemmas.List.{append-nil, append_assoc, drop_at, map-append, take_at}
use Rattle.std.proofs.lemmas.List.Elements.{All-cons, All-head, All-nil, All-tail, All-weaker}
use Rattle.std.proofs.lemmas.Slice.Eq.{bytes_eq-Decides}
use Rattle.nim_base.proofs.ReadsBack.{IsSmall}
use Rattle.nim_base.specs.declared.number.Shape.{Shape}
use Rattle.nim_base.specs.Value.{Grid}
use Rattle.nim_lex.specs.Source.{cut, lines_of, numbered_lines}
use Rattle.nim_job.specs.declared.job.Init.{Init}
use Rattle.nim_job.specs.declared.job.Init.TheVariants.{Fill, Iota, Loaded as Loads}
use Rattle.nim_job.specs.declared.job.Job.{Job}
use Rattle.nim_job.specs.declared.job.Var.{Var}
use Rattle.nim_job.specs.Whole.{is_filled, is_loaded, is_var, is_whole}
use Rattle.nim_job.proofs.Whole.{vars_sizes, whole_inits, whole_vars}
use Rattle.nim_data.specs.Lines.{is_short_name}
use Rattle.nim_data.specs.Parts.{Loaded, Part, data_from, data_of, lacks, none_loaded, parts_loaded}
use Rattle.nim_lex.specs.Source.{line_count}
use Rattle.nim_data.specs.declared.wanted.Wanted.{Wanted}
use Rattle.nim_data.specs.Wanted.{first_fault, part_header, header_rule, refusal_by, values_of}
use Rattle.nim_check.specs.Loading.{data_refusal, with_values_loaded, loaded, want, wanted, wanted_of, wants}
use Rattle.nim_check.specs.Names.{Word}
use Rattle.nim_check.specs.Printing.{HasValues, IsCell, IsValue, has_name, parts_text, printed}
use Rattle.nim_check.proofs.PrintedData.{IsPrintable, Made, Reads, values_read}

-- ---- values

small_cell : (cell : ℤ) → IsCell cell → IsSmall cell
small_cell (pos n) is = is
small_cell (negsuc n) is = is

printable : (shape : Shape) (grid : Grid) → shape.width ≤ 65536 → shape.rows ≤ 65536 → is_loaded shape grid ≡ true → IsValue grid → IsPrintable grid
printable shape grid w r fits is =
    let parts = and_parts (grid.width == shape.width) (nat_le (length grid.rows) shape.rows) fits in
    record {
      wide = is.shaped.wide;
      narrow = grind (arith, nat_tests);
      few = grind (arith, nat_tests);
      even = is.shaped.even;
      small = All-weaker (All IsCell) (All IsSmall) (All-weaker IsCell IsSmall small_cell) grid.rows is.cells;
    }

pub all_printable : (shape : Shape) (values : List Grid) → shape.width ≤ 65536 → shape.rows ≤ 65536 → list_all (is_loaded shape) values ≡ true
    → All IsValue values → All IsPrintable values
all_printable shape [] w r fit are = All-nil IsPrintable
all_printable shape (grid ∷ values) w r fit are =
    let parts = and_parts (is_loaded shape grid) (list_all (is_loaded shape) values) fit in
    All-cons IsPrintable grid values (printable shape grid w r parts.0 (All-head IsValue grid values are))
    (all_printable shape values w r parts.1 (All-tail IsValue grid values are))

-- ---- parts that were made of a variable's values

made_values : (name : Word) (k : ℕ) (values : List Grid) (parts : List Part) → Made name k values parts → values_of parts ≡ values
made_values name k [] [] made = refl
made_values name k (grid ∷ values) (part ∷ parts) made = ap₂ (λ (g : Grid) (gs : List Grid). g ∷ gs) made.2 (made_values name (k + 1) values parts made.3)
made_values name k [] (part ∷ parts) made = absurd made
made_values name k (grid ∷ values) [] made = absurd made

no_rule : (v : Var) (k : ℕ) (part : Part) (grid : Grid) → part.name ≡ v.name → part.part ≡ k → part.value ≡ grid → is_loaded v.shape grid ≡ true
    → header_rule (want v k) (part_header part) ≡ None
unfolding header_rule
no_rule v k part grid name number value fits =
    let parts = and_parts (grid.width == v.shape.width) (nat_le (length grid.rows) v.shape.rows) fits in
    let names : bytes_eq v.name part.name ≡ true = (bytes_eq-Decides v.name part.name).1 (sym name) in
    let numbers : (k == part.part) ≡ true = eq-eqb k part.part (sym number) in
    let rows : nat_lt v.shape.rows (length grid.rows) ≡ false = grind (arith, nat_tests) in
    rw (names, numbers, value, rows, parts.0) refl

sound_parts : (end : ℕ) (v : Var) (k : ℕ) (values : List Grid) (parts : List Part) (ws : List Wanted) (more : List Part)
    → list_all (is_loaded v.shape) values ≡ true → Made v.name k values parts
    → first_fault end (wants v k (length values) ++ ws) (parts ++ more) ≡ first_fault end ws more
sound_parts end v k [] [] ws more fit made = refl
sound_parts end v k (grid ∷ values) (part ∷ parts) ws more fit made =
    let fits = and_parts (is_loaded v.shape grid) (list_all (is_loaded v.shape) values) fit in
    let none : header_rule (want v k) (part_header part) ≡ None = no_rule v k part grid made.0 made.1 made.2 fits.0 in
    rw none (sound_parts end v (k + 1) values parts ws more fits.1 made.3)
sound_parts end v k [] (part ∷ parts) ws more fit made = absurd made
sound_parts end v k (grid ∷ values) [] ws more fit made = absurd made

-- ---- variables

-- parts that no rule refuses, with the values that the variables have
record Refills (vars : List Var) (parts : List Part) : Type 0 where
  pub sound : (end : ℕ) → first_fault end (wanted vars) parts ≡ None
  pub same : with_values_loaded vars (values_of parts) ≡ vars

abbrev ReadsVars : ℕ → List Var → Type 0
ReadsVars end vars = (n at : ℕ) (st : Loaded) → lacks st.last ≡ false → Reads end n at st (printed vars) [] (Refills vars)

with_var : (v : Var) (init : Init) (vars : List Var) (parts : List Part) → wanted_of (record v { init = init }) ≡ []
    → ((values : List Grid) → with_values_loaded (record v { init = init } ∷ vars) values ≡ record v { init = init } ∷ with_values_loaded vars values)
    → Refills vars parts → Refills (record v { init = init } ∷ vars) parts
with_var v init vars parts none kept is = record {
  sound = λ end. rw none (is.sound end);
  same = kept (values_of parts) ∙ ap (λ (later : List Var). record v { init = init } ∷ later) is.same;
}

with_loaded : (v : Var) (values : List Grid) (vars : List Var) (parts more : List Part) → length values ≡ v.parts → list_all (is_loaded v.shape) values ≡ true
    → Made v.name 0 values parts → Refills vars more → Refills (record v { init = Loads values } ∷ vars) (parts ++ more)
with_loaded v values vars parts more count fit made is =
    let all_values : values_of (parts ++ more) ≡ values ++ values_of more =
    map-append (λ (part : Part). part.value) parts more ∙ ap (λ (first : List Grid). first ++ values_of more) (made_values v.name 0 values parts made) in
    let v' : Var = record v { init = Loads values } in
    let given : take v.parts (values ++ values_of more) ≡ values = take_at values (values_of more) v.parts count in
    let left : drop v.parts (values ++ values_of more) ≡ values_of more = drop_at values (values_of more) v.parts count in
    record {
      sound = λ end. ap (λ (k : ℕ). first_fault end (wants v' 0 k ++ wanted vars) (parts ++ more)) (sym count)
          ∙ sound_parts end v' 0 values parts (wanted vars) more fit made ∙ is.sound end;
      same = ap (with_values_loaded (v' ∷ vars)) all_values
          ∙ ap₂ (λ (taken rest : List Grid). record v { init = Loads taken } ∷ with_values_loaded vars rest) given left
          ∙ ap (λ (later : List Var). v' ∷ later) is.same;
    }

var_read : (end : ℕ) (v : Var) (init : Init) (vars : List Var) → is_short_name v.name ≡ true → is_var (record v { init = init }) ≡ true
    → is_filled (record v { init = init }) ≡ true → HasValues init
    → ReadsVars end vars → ReadsVars end (record v { init = init } ∷ vars)
var_read end v (Fill number) vars short is full has later n at st closed =
    let r = later n at st closed in
    record {
      number = r.number;
      place = r.place;
      state = r.state;
      new = r.new;
      closed = r.closed;
      parts = r.parts;
      made =
          with_var v (Fill number) vars r.new refl (λ values. refl) r.made;
      read = r.read;
    }
var_read end v Iota vars short is full has later n at st closed =
    let r = later n at st closed in
    record {
      number = r.number;
      place = r.place;
      state = r.state;
      new = r.new;
      closed = r.closed;
      parts = r.parts;
      made =
          with_var v Iota vars r.new refl (λ values. refl) r.made;
      read = r.read;
    }
var_read end v (Loads values) vars short is full has later n at st closed =
    let fits = and_parts (length values == v.parts) (list_all (is_loaded v.shape) values) full in
    let count : length values ≡ v.parts = grind (arith, nat_tests) in
    let most : v.parts ≤ 64 = grind (arith, nat_tests) in
    let width : v.shape.width ≤ 65536 = grind (arith, nat_tests) in
    let rows : v.shape.rows ≤ 65536 = grind (arith, nat_tests) in
    let first = values_read end n at st v.name 0 values (printed vars ++ []) closed short (omega arith) (all_printable v.shape values width rows fits.1 has) in
    let r = later first.number first.place first.state first.closed in
    record {
      number = r.number;
      place = r.place;
      state = r.state;
      new = first.new ++ r.new;
      closed = r.closed;
      parts = r.parts ∙ ap (λ (before : List Part). before ++ r.new) first.parts ∙ append_assoc (parts_loaded st) first.new r.new;
      made = with_loaded v values vars first.new r.new count fits.1 first.made r.made;
      read = ap (λ (text : List ℕ). data_from end st (numbered_lines n at (cut text))) (append_assoc (parts_text v.name 0 values) (printed vars) [])
          ∙ first.read
          ∙ r.read;
    }

vars_read : (end : ℕ) (vars : List Var) → list_all has_name vars ≡ true → list_all is_var vars ≡ true → list_all is_filled vars ≡ true
    → All (λ (v : Var). HasValues v.init) vars → ReadsVars end vars
vars_read end [] names are full have = λ n at st closed.
    record {
      number = n;
      place = at;
      state = st;
      new = [];
      closed = closed;
      parts = sym (append-nil (parts_loaded st));
      made =
          record { sound = λ last. refl; same = refl };
      read = refl;
    }
vars_read end (v ∷ vars) names are full have =
    let n = and_parts (has_name v) (list_all has_name vars) names in
    let a = and_parts (is_var v) (list_all is_var vars) are in
    let f = and_parts (is_filled v) (list_all is_filled vars) full in
    var_read end v v.init vars n.0 a.0 f.0 (All-head (λ (w : Var). HasValues w.init) v vars have)
    (vars_read end vars n.1 a.1 f.1 (All-tail (λ (w : Var). HasValues w.init) v vars have))

-- ---- jobs

whole_data : (bytes : List ℕ) (parts : List Part) → length bytes ≤ 33554432 → data_from (line_count bytes + 1) none_loaded (lines_of bytes) ≡ Ok parts
    → data_of bytes ≡ Ok parts
whole_data bytes parts few read =
    let short : nat_lt 33554432 (length bytes) ≡ false = grind (arith, nat_tests) in
    rw short read

pub printed_loaded : (job : Job) → is_whole job ≡ true → list_all has_name job.vars ≡ true → All (λ (v : Var). HasValues v.init) job.vars
    → length (printed job.vars) ≤ 33554432
    → (data_refusal job (printed job.vars) ≡ None) × (loaded job (printed job.vars) ≡ job)
printed_loaded job whole names have few =
    let bytes = printed job.vars in
    let end = line_count bytes + 1 in
    let are : list_all is_var job.vars ≡ true = (vars_sizes job.vars (whole_vars job whole)).1 in
    let r = vars_read end job.vars names are (whole_inits job whole) have 1 0 none_loaded refl in
    let closed : lacks r.state.last ≡ false = r.closed in
    let ended : data_from end r.state [] ≡ Ok (parts_loaded r.state) = rw closed refl in
    let from : data_from end none_loaded (lines_of bytes) ≡ Ok r.new =
    ap (λ (text : List ℕ). data_from end none_loaded (numbered_lines 1 0 (cut text))) (sym (append-nil bytes)) ∙ r.read ∙ ended ∙ ap Ok r.parts in
    let all : data_of bytes ≡ Ok r.new = whole_data bytes r.new few from in (
      ap (refusal_by end (wanted job.vars)) all ∙ r.made.sound end,
      rw all (ap (λ (vars : List Var). record job { vars = vars }) r.made.same),
    )
