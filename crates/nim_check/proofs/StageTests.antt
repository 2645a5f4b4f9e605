-- What the tests of a stage give.
use Rattle.std.proofs.Common.{◌≡◌, ◌∙◌, List, [], ◌∷◌, ◌++◌, length, map, refl, ap, sym, Bool, true, false}
use Rattle.std.specs.Prelude.{◌&&◌, ◌||◌, not, nat_lt, unwrap_or}
use Rattle.std.specs.List.{list_all, list_any}
use Rattle.std.proofs.lemmas.Bool.{and_from, and_parts}
use Rattle.std.proofs.lemmas.List.{length-map}
use Rattle.nim_base.specs.declared.task.Func.TheVariants as func
use Rattle.nim_base.specs.Apply.{has_counts}
use Rattle.nim_job.specs.Whole.{has_distinct, is_param, is_place, is_ref, is_stage}
use Rattle.nim_parse.specs.declared.sections.Atom.{Atom}
use Rattle.nim_parse.specs.declared.sections.Atom.TheVariants.{Number, Name}
use Rattle.nim_parse.specs.declared.sections.Index.{Index}
use Rattle.nim_parse.specs.declared.sections.Index.TheVariants.{Part, Own, After, Before}
use Rattle.nim_parse.specs.declared.sections.Ref.{Ref}
use Rattle.nim_parse.specs.declared.sections.Stage.{Stage}
use Rattle.nim_parse.specs.declared.sections.Var.{Var}
use Rattle.nim_check.specs.Made.{param_of, place_of, ref_of, stage_of, var_names, var_of}
use Rattle.nim_check.specs.Names.{Word, func_of, is_in, place_in}
use Rattle.nim_check.specs.Rules.{is_known, is_own, refs_of}

pub all_refs : {X : Type 0} (p : X → Bool) (xs ys : List X) → list_all p (xs ++ ys) ≡ (list_all p xs && list_all p ys)
all_refs p [] ys = refl
all_refs p (x ∷ xs) ys =
    elim (p x) as (λ (b : Bool). (b && list_all p (xs ++ ys)) ≡ ((b && list_all p xs) && list_all p ys)) [ true ↦ all_refs p xs ys | false ↦ refl ]

pub any_refs : {X : Type 0} (p : X → Bool) (xs ys : List X) → list_any p (xs ++ ys) ≡ (list_any p xs || list_any p ys)
any_refs p [] ys = refl
any_refs p (x ∷ xs) ys =
    elim (p x) as (λ (b : Bool). (b || list_any p (xs ++ ys)) ≡ ((b || list_any p xs) || list_any p ys)) [ true ↦ refl | false ↦ any_refs p xs ys ]

-- a test that isn't needed, of one or of another
or_parts : (a b : Bool) → (a || b) ≡ false → (a ≡ false) × (b ≡ false)
or_parts true b h = cc
or_parts false b h = (refl, h)

own_parts : (each a b : Bool) → (not each && (a || b)) ≡ false → ((not each && a) ≡ false) × ((not each && b) ≡ false)
own_parts true a b h = (refl, refl)
own_parts false a b h = or_parts a b h

own_whole : (each : Bool) (index : Index) → (not each && is_own index) ≡ false → is_place each (place_of index) ≡ true
own_whole true (Part n) h = refl
own_whole true Own h = refl
own_whole true (After n) h = refl
own_whole true (Before n) h = refl
own_whole false (Part n) h = refl
own_whole false Own h = cc
own_whole false (After n) h = cc
own_whole false (Before n) h = cc

-- the numbers of names that are there
name_whole : (vars : List Var) (word : Word) → is_in (var_names vars) word ≡ true → nat_lt (place_in (var_names vars) word) (length (map var_of vars)) ≡ true
name_whole vars word is =
    ap (λ n. nat_lt (place_in (var_names vars) word) n) (length-map vars var_of ∙ sym (length-map vars (λ (v : Var). v.name))) ∙ is

refs_whole : (vars : List Var) (each : Bool) (refs : List Ref) → list_all (λ (ref : Ref). is_in (var_names vars) ref.name) refs ≡ true
    → (not each && list_any (λ (ref : Ref). is_own ref.index) refs) ≡ false
    → list_all (is_ref (map var_of vars) each) (map (ref_of (var_names vars)) refs) ≡ true
refs_whole vars each [] named own = refl
refs_whole vars each (ref ∷ refs) named own =
    let names = and_parts (is_in (var_names vars) ref.name) (list_all (λ (r : Ref). is_in (var_names vars) r.name) refs) named in
    let owns = own_parts each (is_own ref.index) (list_any (λ (r : Ref). is_own r.index) refs) own in
    and_from (is_ref (map var_of vars) each (ref_of (var_names vars) ref)) (list_all (is_ref (map var_of vars) each) (map (ref_of (var_names vars)) refs))
    (and_from (nat_lt (place_in (var_names vars) ref.name) (length (map var_of vars))) (is_place each (place_of ref.index)) (name_whole vars ref.name names.0)
    (own_whole each ref.index owns.0))
    (refs_whole vars each refs names.1 owns.1)

-- what rules 47 and 48 ask of a stage
abbrev pub named : List Var → List Ref → Bool
named vars refs = list_all (λ (ref : Ref). is_in (var_names vars) ref.name) refs

abbrev pub owned : Stage → List Ref → Bool
owned stage refs = not stage.each && list_any (λ (ref : Ref). is_own ref.index) refs

both_named : (vars : List Var) (stage : Stage) → named vars (refs_of stage) ≡ true → (named vars stage.reads ≡ true) × (named vars stage.writes ≡ true)
both_named vars stage all =
    and_parts (named vars stage.reads) (named vars stage.writes) (sym (all_refs (λ (ref : Ref). is_in (var_names vars) ref.name) stage.reads stage.writes)
    ∙ all)

both_owned : (stage : Stage) → owned stage (refs_of stage) ≡ false → (owned stage stage.reads ≡ false) × (owned stage stage.writes ≡ false)
both_owned stage none =
    own_parts stage.each (list_any (λ (ref : Ref). is_own ref.index) stage.reads) (list_any (λ (ref : Ref). is_own ref.index) stage.writes)
    (ap (λ b. not stage.each && b) (sym (any_refs (λ (ref : Ref). is_own ref.index) stage.reads stage.writes)) ∙ none)

pub writes_whole : (vars : List Var) (stage : Stage) → named vars (refs_of stage) ≡ true → owned stage (refs_of stage) ≡ false
    → list_all (is_ref (map var_of vars) stage.each) (map (ref_of (var_names vars)) stage.writes) ≡ true
writes_whole vars stage all none = refs_whole vars stage.each stage.writes (both_named vars stage all).1 (both_owned stage none).1

reads_whole : (vars : List Var) (stage : Stage) → named vars (refs_of stage) ≡ true → owned stage (refs_of stage) ≡ false
    → list_all (is_ref (map var_of vars) stage.each) (map (ref_of (var_names vars)) stage.reads) ≡ true
reads_whole vars stage all none = refs_whole vars stage.each stage.reads (both_named vars stage all).0 (both_owned stage none).0

params_whole : (args : List Word) (atoms : List Atom) → list_all (is_known args) atoms ≡ true
    → list_all (is_param (length args)) (map (param_of args) atoms) ≡ true
params_whole args [] all = refl
params_whole args (Number n ∷ atoms) all = params_whole args atoms all
params_whole args (Name w ∷ atoms) all =
    let parts = and_parts (is_in args w) (list_all (is_known args) atoms) all in
    and_from (nat_lt (place_in args w) (length args)) (list_all (is_param (length args)) (map (param_of args) atoms)) parts.0 (params_whole args atoms parts.1)

counts_whole : (vars args : List Word) (stage : Stage) → has_counts (unwrap_or (func_of stage.function) func.Set) (length stage.parameters) (length stage.reads)
    (length stage.writes) ≡ true
    → has_counts (stage_of vars args stage).func (length (map (param_of args) stage.parameters)) (length (map (ref_of vars) stage.reads))
    (length (map (ref_of vars) stage.writes)) ≡ true
counts_whole vars args stage counts =
    rw (length-map stage.parameters (param_of args), length-map stage.reads (ref_of vars), length-map stage.writes (ref_of vars)) counts

-- a stage that no rule refuses is whole
pub stage_whole : (vars : List Var) (args : List Word) (stage : Stage)
    → has_counts (unwrap_or (func_of stage.function) func.Set) (length stage.parameters) (length stage.reads) (length stage.writes) ≡ true
    → named vars (refs_of stage) ≡ true → owned stage (refs_of stage) ≡ false
    → has_distinct (map var_of vars) (stage_of (var_names vars) args stage) ≡ true → list_all (is_known args) stage.parameters ≡ true
    → is_stage (map var_of vars) (length args) (stage_of (var_names vars) args stage) ≡ true
stage_whole vars args stage counts all none distinct known =
    let made = stage_of (var_names vars) args stage in
    let a = counts_whole (var_names vars) args stage counts in
    let b = params_whole args stage.parameters known in
    let d = reads_whole vars stage all none in
    let e = writes_whole vars stage all none in
    rw (a, b, d, e, distinct) refl
