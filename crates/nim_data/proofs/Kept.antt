-- What the reader keeps is what the parts so far come to, and so it gives what they give.
use Rattle.std.proofs.Common.{◌≡◌, ◌∙◌, ℕ, zero, suc, ◌-◌, ◌≤◌, cond, Bool, true, false, ◌&&◌, ℤ, List, [], ◌∷◌, ◌++◌, length, drop, map, refl, sym, ap, arith, Option, None, Some, Ok}
use Rattle.std.specs.Prelude.{nat_lt, not, is_none, slice_get, Result, Err}
use Rattle.std.specs.Option.{option_or}
use Rattle.std.proofs.lemmas.Bool.Decides.{nat_tests}
use Rattle.std.proofs.lemmas.List.{append-nil, length-append, length-map, map-append}
use Rattle.nim_base.specs.Value.{Grid}
use Rattle.nim_lex.specs.declared.fault.Refusal.{Refusal}
use Rattle.nim_lex.specs.Refusals.{refused}
use Rattle.nim_lex.specs.Source.{Line}
use Rattle.nim_data.specs.declared.lines.Header.{Header}
use Rattle.nim_data.specs.declared.reading.Last.{Last}
use Rattle.nim_data.specs.declared.reading.Last.TheVariants.{Kept, Passed}
use Rattle.nim_data.specs.declared.reading.Reading.{Reading}
use Rattle.nim_data.specs.declared.wanted.Wanted.{Wanted}
use Rattle.nim_data.specs.Lines.{header, is_bare, row}
use Rattle.nim_data.specs.Parts.{Loaded, Loading, Part, data_after, data_from, data_rule, with_next_row, parts_loaded, last_part_row, unless, with_header, with_row as with_row_of}
use Rattle.nim_data.specs.Parts as part
use Rattle.nim_data.specs.Reading.{after_data_line, after_row, with_part_begun, begun_by, part_closed, ended, given, lacks, line_rule, no_part, read_from, last_width}
use Rattle.nim_data.specs.Wanted.{first_fault, part_header, next_wanted, parts_in, refusal_by, rule_at, values_of}

-- ---- the headers so far

abbrev planned_of : Part → ℕ × Header
planned_of p = (p.line, part_header p)

-- the last part, with the rows that its header says
abbrev planned_last : Option Loading → List (ℕ × Header)
planned_last None = []
planned_last (Some l) = (l.part.line, record { name = l.part.name; part = l.part.part; rows = l.wanted; width = l.part.value.width }) ∷ []

abbrev planned : List Part → Option Loading → List (ℕ × Header)
planned parts last = map planned_of parts ++ planned_last last

-- the first header that a rule refuses
abbrev fault_in : List Wanted → List (ℕ × Header) → Option Refusal
fault_in ws [] = None
fault_in ws (p ∷ ps) = option_or (refused p.0 (rule_at (next_wanted ws) p.1)) (fault_in (drop 1 ws) ps)

drop_none : (k : ℕ) → next_wanted (drop k []) ≡ None
drop_none zero = refl
drop_none (suc k) = refl

next_at : (ws : List Wanted) (k : ℕ) → next_wanted (drop k ws) ≡ slice_get ws k
next_at [] k = drop_none k
next_at (w ∷ ws) zero = refl
next_at (w ∷ ws) (suc k) = next_at ws k

drop_one : (k : ℕ) (ws : List Wanted) → next_wanted (drop k (drop 1 ws)) ≡ next_wanted (drop (suc k) ws)
drop_one k [] = drop_none k
drop_one k (w ∷ ws) = refl

or_none : (o : Option Refusal) → option_or o None ≡ o
or_none None = refl
or_none (Some r) = refl

or_assoc : (o p q : Option Refusal) → option_or o (option_or p q) ≡ option_or (option_or o p) q
or_assoc None p q = refl
or_assoc (Some r) p q = refl

-- one more header
fault_snoc : (ws : List Wanted) (ps : List (ℕ × Header)) (p : ℕ × Header)
    → fault_in ws (ps ++ p ∷ []) ≡ option_or (fault_in ws ps) (refused p.0 (rule_at (next_wanted (drop (length ps) ws)) p.1))
fault_snoc ws [] p = or_none (refused p.0 (rule_at (next_wanted ws) p.1))
fault_snoc ws (q ∷ ps) p =
    let first = refused q.0 (rule_at (next_wanted ws) q.1) in
    ap (option_or first) (fault_snoc (drop 1 ws) ps p)
    ∙ or_assoc first (fault_in (drop 1 ws) ps) (refused p.0 (rule_at (next_wanted (drop (length ps) (drop 1 ws))) p.1))
    ∙ ap (λ (w : Option Wanted). option_or (option_or first (fault_in (drop 1 ws) ps)) (refused p.0 (rule_at w p.1))) (drop_one (length ps) ws)

-- ---- what is kept

abbrev kept_last : Option Loading → Last
kept_last None = no_part
kept_last (Some l) = Kept l.wanted l.part.value

abbrev passed_last : Option Loading → Last
passed_last None = no_part
passed_last (Some l) = Passed (l.wanted - length l.part.value.rows) l.part.value.width

abbrev kept_by : Option Refusal → List Part → Option Loading → Reading
kept_by None parts last = record { values = values_of parts; last = kept_last last; refused = None }
kept_by (Some f) parts last = record { values = []; last = passed_last last; refused = Some f }

abbrev kept : List Wanted → Loaded → Reading
kept ws st = kept_by (fault_in ws (planned st.parts st.last)) st.parts st.last

-- no part has more rows than its header says
abbrev Within : Option Loading → Type 0
Within None = Unit {0}
Within (Some l) = length l.part.value.rows ≤ l.wanted

lt_sub : (a b : ℕ) → nat_lt 0 (b - a) ≡ nat_lt a b
lt_sub a b =
    elim (nat_lt a b) as (λ t. nat_lt a b ≡ t → nat_lt 0 (b - a) ≡ t) [ true ↦ λ e. grind (arith, nat_tests) | false ↦ λ e. grind (arith, nat_tests) ] refl

same_lacks : (f : Option Refusal) (parts : List Part) (last : Option Loading) → lacks (kept_by f parts last).last ≡ part.lacks last
same_lacks None parts None = refl
same_lacks None parts (Some l) = refl
same_lacks (Some f) parts None = refl
same_lacks (Some f) parts (Some l) = lt_sub (length l.part.value.rows) l.wanted

same_width : (f : Option Refusal) (parts : List Part) (l : Loading) → last_width (kept_by f parts (Some l)).last ≡ l.part.value.width
same_width None parts l = refl
same_width (Some f) parts l = refl

-- ---- the rule of a line

tests : (b l h r : Bool) → cond {A = Option ℕ} b None (cond l (cond r (Some 72) None) (cond h (Some 71) None))
    ≡ cond b None (cond (not l && h) (Some 71) (cond (l && r) (Some 72) None))
tests true l h r = refl
tests false true h r = refl
tests false false true r = refl
tests false false false r = refl

rule_same : (f : Option Refusal) (parts : List Part) (last : Option Loading) (text : List ℕ)
    → line_rule (kept_by f parts last) text ≡ data_rule (record { parts = parts; last = last }) text
unfolding line_rule data_rule
rule_same None parts None text = tests (is_bare text) false (is_none (header text)) true
rule_same (Some f) parts None text = tests (is_bare text) false (is_none (header text)) true
rule_same f parts (Some l) text =
    rw (same_lacks f parts (Some l), same_width f parts l)
    (tests (is_bare text) (part.lacks (Some l)) (is_none (header text)) (is_none (row l.part.value.width text)))

-- ---- one more line

row_kept : (f : Option Refusal) (parts : List Part) (l : Loading) (cells : List ℤ)
    → after_row (kept_by f parts (Some l)) (Some cells) ≡ kept_by f parts (Some (with_next_row l cells))
row_kept None parts l cells = refl
row_kept (Some f) parts l cells =
    let less : (l.wanted - length l.part.value.rows) - 1 ≡ l.wanted - length (l.part.value.rows ++ cells ∷ []) =
    omega (arith, length-append l.part.value.rows (cells ∷ [])) in
    ap (λ (n : ℕ). record { values = []; last = Passed n l.part.value.width; refused = Some f }) less

-- the parts that are closed, all of whose rows have come
full : (parts : List Part) (last : Option Loading) → part.lacks last ≡ false → Within last
    → map planned_of (parts_loaded (record { parts = parts; last = last })) ≡ planned parts last
full parts None closed within = sym (append-nil (map planned_of parts))
full parts (Some l) closed within =
    let all : length l.part.value.rows ≡ l.wanted = grind (arith, nat_tests) in
    map-append planned_of parts (l.part ∷ [])
    ∙ ap (λ (n : ℕ). map planned_of parts ++ (l.part.line, record { name = l.part.name; part = l.part.part; rows = n; width = l.part.value.width }) ∷ []) all

-- the values of the parts that are closed
closed_kept : (parts : List Part) (last : Option Loading)
    → part_closed (kept_by None parts last)
    ≡ record { values = values_of (parts_loaded (record { parts = parts; last = last })); last = no_part; refused = None }
closed_kept parts None = refl
closed_kept parts (Some l) =
    ap (λ (values : List Grid). record { values = values; last = no_part; refused = None }) (sym (map-append (λ (p : Part). p.value) parts (l.part ∷ [])))

closed_passed : (f : Refusal) (parts : List Part) (last : Option Loading)
    → part_closed (kept_by (Some f) parts last) ≡ record { values = []; last = no_part; refused = Some f }
closed_passed f parts None = refl
closed_passed f parts (Some l) = refl

no_less : (n : ℕ) → n - 0 ≡ n
no_less n = omega arith

abbrev passing : Refusal → Header → ℕ → Reading
passing f h n = record { values = []; last = Passed n h.width; refused = Some f }

begins : (ps : List Part) (number : ℕ) (h : Header) (rule : Option ℕ)
    → begun_by rule (record { values = values_of ps; last = no_part; refused = None }) number h
    ≡ kept_by (refused number rule) ps (Some (part.part_begun number h))
begins ps number h None = refl
begins ps number h (Some rule) = ap (passing (record { line = number; rule = rule }) h) (sym (no_less h.rows))

begun_kept : (f : Option Refusal) (ws : List Wanted) (parts : List Part) (last : Option Loading) (number : ℕ) (h : Header)
    → with_part_begun ws (part_closed (kept_by f parts last)) number h
    ≡ kept_by (option_or f (refused number (rule_at (next_wanted (drop (length (parts_loaded (record { parts = parts; last = last }))) ws)) h)))
    (parts_loaded (record { parts = parts; last = last })) (Some (part.part_begun number h))
begun_kept None ws parts last number h =
    let ps : List Part = parts_loaded (record { parts = parts; last = last }) in
    ap (λ (r : Reading). with_part_begun ws r number h) (closed_kept parts last)
    ∙ ap (λ (n : ℕ). begun_by (rule_at (slice_get ws n) h) (record { values = values_of ps; last = no_part; refused = None }) number h)
    (length-map ps (λ (p : Part). p.value))
    ∙ ap (λ (w : Option Wanted). begun_by (rule_at w h) (record { values = values_of ps; last = no_part; refused = None }) number h)
    (sym (next_at ws (length ps)))
    ∙ begins ps number h (rule_at (next_wanted (drop (length ps) ws)) h)
begun_kept (Some f) ws parts last number h =
    ap (λ (r : Reading). with_part_begun ws r number h) (closed_passed f parts last) ∙ ap (passing f h) (sym (no_less h.rows))

header_kept : (ws : List Wanted) (parts : List Part) (last : Option Loading) (number : ℕ) (h : Header) → part.lacks last ≡ false → Within last
    → with_part_begun ws (part_closed (kept ws (record { parts = parts; last = last }))) number h
    ≡ kept ws (record { parts = parts_loaded (record { parts = parts; last = last }); last = Some (part.part_begun number h) })
header_kept ws parts last number h closed_all within =
    let ps : List Part = parts_loaded (record { parts = parts; last = last }) in
    let before : map planned_of ps ≡ planned parts last = full parts last closed_all within in
    let count : length (planned parts last) ≡ length ps = sym (ap (λ (xs : List (ℕ × Header)). length xs) before) ∙ length-map ps planned_of in
    let now : fault_in ws (map planned_of ps ++ (number, h) ∷ []) ≡ option_or (fault_in ws (planned parts last))
    (refused number (rule_at (next_wanted (drop (length ps) ws)) h)) =
    ap (λ (xs : List (ℕ × Header)). fault_in ws (xs ++ (number, h) ∷ [])) before
    ∙ fault_snoc ws (planned parts last) (number, h)
    ∙ ap (λ (n : ℕ). option_or (fault_in ws (planned parts last)) (refused number (rule_at (next_wanted (drop n ws)) h))) count in
    begun_kept (fault_in ws (planned parts last)) ws parts last number h
    ∙ ap (λ (f : Option Refusal). kept_by f ps (Some (part.part_begun number h))) (sym now)

-- ---- the state behind a line that no rule refuses

record Follows (ws : List Wanted) (st : Loaded) (number : ℕ) (text : List ℕ) : Type 0 where
  same : after_data_line ws (kept ws st) number text ≡ kept ws (data_after st number text)
  within : Within (data_after st number text).last

none_of : (o : Option ℕ) (x : ℕ) → Some x ≡ o → o ≡ None → ⊥
none_of None x is none = cc
none_of (Some y) x is none = cc

follows_row : (ws : List Wanted) (parts : List Part) (l : Loading) (number : ℕ) (text : List ℕ) → is_bare text ≡ false → part.lacks (Some l) ≡ true
    → (cells : Option (List ℤ)) → row l.part.value.width text ≡ cells → data_rule (record { parts = parts; last = Some l }) text ≡ None → Within (Some l)
    → Follows ws (record { parts = parts; last = Some l }) number text
unfolding data_rule data_after after_data_line
follows_row ws parts l number text some lacking None read sound within = absurd (let no : Some 72 ≡ None = (rw (some, lacking, read) at sound) in cc)
follows_row ws parts l number text some lacking (Some cells) read sound within =
    let f : Option Refusal = fault_in ws (planned parts (Some l)) in
    record {
      same = rw (some, same_lacks f parts (Some l), lacking, same_width f parts l, read) (row_kept f parts l cells);
      within = rw (some, lacking, read) (let more = length-append l.part.value.rows (cells ∷ []) in grind (arith, nat_tests));
    }

follows_header : (ws : List Wanted) (parts : List Part) (last : Option Loading) (number : ℕ) (text : List ℕ) → is_bare text ≡ false → part.lacks last ≡ false
    → (h : Option Header) → header text ≡ h → data_rule (record { parts = parts; last = last }) text ≡ None → Within last
    → Follows ws (record { parts = parts; last = last }) number text
unfolding data_rule data_after after_data_line
follows_header ws parts last number text some closed_all None read sound within =
    absurd (let no : Some 71 ≡ None = (rw (some, closed_all, read) at sound) in cc)
follows_header ws parts last number text some closed_all (Some h) read sound within =
    record {
      same = rw (some, same_lacks (fault_in ws (planned parts last)) parts last, closed_all, read) (header_kept ws parts last number h closed_all within);
      within = rw (some, closed_all, read) (omega arith);
    }

follows_bare : (ws : List Wanted) (st : Loaded) (number : ℕ) (text : List ℕ) → is_bare text ≡ true → Within st.last → Follows ws st number text
unfolding data_after after_data_line
follows_bare ws st number text bare within = record { same = rw bare refl; within = rw bare within }

follows : (ws : List Wanted) (parts : List Part) (last : Option Loading) (number : ℕ) (text : List ℕ)
    → data_rule (record { parts = parts; last = last }) text ≡ None → Within last
    → Follows ws (record { parts = parts; last = last }) number text
follows ws parts last number text sound within =
    let st : Loaded = record { parts = parts; last = last } in
    elim (is_bare text) as (λ t. is_bare text ≡ t → Follows ws st number text) [
      | true ↦ λ bare. follows_bare ws st number text bare within
      | false ↦ λ some. elim last as (λ (o : Option Loading). data_rule (record { parts = parts; last = o }) text ≡ None → Within o
          → Follows ws (record { parts = parts; last = o }) number text) [
            | None ↦ λ s w. follows_header ws parts None number text some refl (header text) refl s w
            | Some l ↦ λ s w. elim (part.lacks (Some l)) as (λ t. part.lacks (Some l) ≡ t → Follows ws (record { parts = parts; last = Some l }) number text) [
              | true ↦ λ lacking. follows_row ws parts l number text some lacking (row l.part.value.width text) refl s w
              | false ↦ λ closed_all. follows_header ws parts (Some l) number text some closed_all (header text) refl s w
            ] refl
          ] sound within
    ] refl

-- ---- the end of a file

abbrev pub judge : Option Refusal → List Grid → Result (List Grid) Refusal
judge None values = Ok values
judge (Some refusal) values = Err refusal

-- what the parts of a file give
abbrev pub judged : ℕ → List Wanted → Result (List Part) Refusal → Result (List Grid) Refusal
judged end ws outcome = judge (refusal_by end ws outcome) (values_of (parts_in outcome))

abbrev missing : ℕ → List Wanted → ℕ → Option Refusal
missing end ws n = cond (nat_lt n (length ws)) (Some (record { line = end; rule = 73 })) None

lt_suc : (n k : ℕ) → nat_lt n k ≡ nat_lt (suc n) (suc k)
lt_suc n k =
    elim (nat_lt n k) as (λ t. nat_lt n k ≡ t → t ≡ nat_lt (suc n) (suc k)) [
      | true ↦ λ e. let more : nat_lt (suc n) (suc k) ≡ true = grind (arith, nat_tests) in sym more
      | false ↦ λ e. let more : nat_lt (suc n) (suc k) ≡ false = grind (arith, nat_tests) in sym more
    ] refl

less_one : (ws : List Wanted) (n : ℕ) → nat_lt n (length (drop 1 ws)) ≡ nat_lt (suc n) (length ws)
less_one [] n =
    let here : nat_lt n 0 ≡ false = grind (arith, nat_tests) in
    let next : nat_lt (suc n) 0 ≡ false = grind (arith, nat_tests) in
    here ∙ sym next
less_one (w ∷ ws) n = lt_suc n (length ws)

first_is : (end : ℕ) (ws : List Wanted) (parts : List Part) → first_fault end ws parts
    ≡ option_or (fault_in ws (map planned_of parts)) (missing end ws (length parts))
first_is end [] [] = refl
first_is end (w ∷ ws) [] = let some : nat_lt 0 (length (w ∷ ws)) ≡ true = grind (arith, nat_tests) in rw some refl
first_is end ws (p ∷ parts) =
    let first = refused p.line (rule_at (next_wanted ws) (part_header p)) in
    ap (option_or first) (first_is end (drop 1 ws) parts)
    ∙ or_assoc first (fault_in (drop 1 ws) (map planned_of parts)) (missing end (drop 1 ws) (length parts))
    ∙ ap (λ (t : Bool). option_or (option_or first (fault_in (drop 1 ws) (map planned_of parts))) (cond t (Some (record { line = end; rule = 73 })) None))
    (less_one ws (length parts))

given_is : (t : Bool) (end : ℕ) (values : List Grid) → cond t (Err (record { line = end; rule = 73 })) (Ok values)
    ≡ judge (cond t (Some (record { line = end; rule = 73 })) None) values
given_is true end values = refl
given_is false end values = refl

gives : (f : Option Refusal) (end : ℕ) (ws : List Wanted) (parts : List Part) (last : Option Loading)
    → given end ws (part_closed (kept_by f parts last))
    ≡ judge (option_or f (missing end ws (length (parts_loaded (record { parts = parts; last = last })))))
    (values_of (parts_loaded (record { parts = parts; last = last })))
gives None end ws parts last =
    let ps : List Part = parts_loaded (record { parts = parts; last = last }) in
    ap (given end ws) (closed_kept parts last)
    ∙ ap (λ (n : ℕ). cond (nat_lt n (length ws)) (Err (record { line = end; rule = 73 })) (Ok (values_of ps))) (length-map ps (λ (p : Part). p.value))
    ∙ given_is (nat_lt (length ps) (length ws)) end (values_of ps)
gives (Some f) end ws parts last = ap (given end ws) (closed_passed f parts last)

ended_is : (end : ℕ) (ws : List Wanted) (parts : List Part) (last : Option Loading) → Within last
    → ended end ws (kept ws (record { parts = parts; last = last })) ≡ judged end ws (data_from end (record { parts = parts; last = last }) [])
ended_is end ws parts last within =
    let f : Option Refusal = fault_in ws (planned parts last) in
    let ps : List Part = parts_loaded (record { parts = parts; last = last }) in
    elim (part.lacks last) as (λ t. part.lacks last ≡ t → ended end ws (kept ws (record { parts = parts; last = last }))
    ≡ judged end ws (data_from end (record { parts = parts; last = last }) [])) [
      | true ↦ λ lacking. rw (same_lacks f parts last, lacking) refl
      | false ↦ λ closed_all.
          let whole : first_fault end ws ps ≡ option_or f (missing end ws (length ps)) = first_is end ws ps
          ∙ ap (λ (xs : List (ℕ × Header)). option_or (fault_in ws xs) (missing end ws (length ps))) (full parts last closed_all within) in
          rw (same_lacks f parts last, closed_all) (gives f end ws parts last ∙ ap (λ (o : Option Refusal). judge o (values_of ps)) (sym whole))
    ] refl

-- ---- the lines of a file

reads_is : (end : ℕ) (ws : List Wanted) (parts : List Part) (last : Option Loading) (lines : List Line) → Within last
    → read_from end ws (kept ws (record { parts = parts; last = last })) lines ≡ judged end ws (data_from end (record { parts = parts; last = last }) lines)
reads_is end ws parts last [] within = ended_is end ws parts last within
reads_is end ws parts last (line ∷ rest) within =
    let st : Loaded = record { parts = parts; last = last } in
    let next : Loaded = data_after st line.number line.bytes in
    let same : line_rule (kept ws st) line.bytes ≡ data_rule st line.bytes = rule_same (fault_in ws (planned parts last)) parts last line.bytes in
    ap (λ (o : Option ℕ). unless (refused line.number o) (read_from end ws (after_data_line ws (kept ws st) line.number line.bytes) rest)) same
    ∙ elim (data_rule st line.bytes) as (λ (o : Option ℕ). data_rule st line.bytes ≡ o
    → unless (refused line.number o) (read_from end ws (after_data_line ws (kept ws st) line.number line.bytes) rest)
    ≡ judged end ws (unless (refused line.number o) (data_from end next rest))) [
      | None ↦ λ sound.
          let on = follows ws parts last line.number line.bytes sound within in
          ap (λ (r : Reading). read_from end ws r rest) on.same ∙ reads_is end ws next.parts next.last rest on.within
      | Some rule ↦ λ broken. refl
    ] refl

-- what the reader gives of a file is what its parts give
pub read_is : (end : ℕ) (ws : List Wanted) (lines : List Line)
    → read_from end ws (record { values = []; last = no_part; refused = None }) lines ≡ judged end ws (data_from end (record { parts = []; last = None }) lines)
read_is end ws lines = reads_is end ws [] None lines tt
