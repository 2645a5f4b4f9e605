-- The blocks of a printed job: they are read back, no rule refuses their lines, and they can be printed.
use Rattle.std.proofs.Common.{◌≡◌, ℕ, ◌+◌, ◌≤◌, true, false, List, [], ◌∷◌, ◌++◌, length, map, refl, ap, ap₂, sym, ◌∙◌, arith, None}
use Rattle.std.specs.Prelude.{◌||◌, codes, nat_le, nat_lt}
use Rattle.std.specs.List.{flat_map, list_all, list_any, range_with_len, sum_by}
use Rattle.std.proofs.lemmas.Bool.{and_from, and_parts, le-ltb, leb-true, or_from}
use Rattle.std.proofs.lemmas.List.{append_assoc, length-append, length-map, map_push}
use Rattle.std.proofs.lemmas.List.FromFn.{length-map-range_with_len, take-map-range_with_len}
use Rattle.nim_job.specs.declared.block.Block.{Block as job_block}
use Rattle.nim_job.specs.declared.block.Stage.{Stage as job_stage}
use Rattle.nim_job.specs.declared.job.Var.{Var as job_var}
use Rattle.nim_job.specs.Tasks.{task_count}
use Rattle.nim_job.specs.Whole.{is_whole_block, is_stage}
use Rattle.nim_parse.specs.declared.sections.Block.{Block}
use Rattle.nim_parse.specs.declared.sections.Stage.{Stage}
use Rattle.nim_parse.specs.declared.sections.Var.{Var}
use Rattle.nim_check.specs.Made.{block_names, block_of, stage_of, var_names}
use Rattle.nim_check.specs.Names.{Word, has_twice, is_in, reserved}
use Rattle.nim_check.specs.Refusals.{first_refusal}
use Rattle.nim_check.specs.Rules.{rule_41, rule_42, rule_44, rule_of}
use Rattle.nim_check.specs.DriverPlaces.{at_block, places_of_block, places_of_blocks, places_of_stages}
use Rattle.nim_printed.specs.Lines.{block_words, blocks_numbered, listed_words, stage_words}
use Rattle.nim_printed.specs.Printer.{argument_name, block_lines, blocks_for, blocks_lines, stages_for}
use Rattle.nim_printed.specs.Spelled as spelled
use Rattle.nim_printed.specs.Spelled.{is_unreserved}
use Rattle.nim_printed.specs.Trees as trees
use Rattle.nim_printed.proofs.JobLists.{all_taken, and_from_three, and_three_parts, no_rule, passes_both, passes_on}
use Rattle.nim_printed.proofs.JobNames.{apart, arguments_free, first_names, in_neither, not_reserved, text_same}
use Rattle.nim_printed.proofs.JobStages.{AreThere, arguments, arguments_apart, stages_at_lines, stages_back, stages_length, stages_pass, stages_printed}
use Rattle.nim_printed.proofs.JobVars.{names_of_vars}

abbrev pub names_of_blocks : List job_block → List Word
names_of_blocks blocks = map (λ (b : job_block). b.name) blocks

-- the lines of a block
abbrev pub block_for : List job_var → ℕ → job_block → Block
block_for vars line block = record {
  line = line;
  name = block.name;
  arguments = map argument_name (range_with_len 0 block.args);
  stages = stages_for vars (line + 1) block.stages;
}

-- what a whole block gives
record IsWhole (vars : List job_var) (block : job_block) : Type 0 where
  pub few : block.args ≤ 8
  pub tasks : sum_by (task_count vars) block.stages ≤ 1024
  pub stages : list_all (is_stage vars block.args) block.stages ≡ true

whole_block : (vars : List job_var) (block : job_block) → is_whole_block vars block ≡ true → IsWhole vars block
whole_block vars block is =
    let parts = and_three_parts (nat_le block.args 8) (nat_le (sum_by (task_count vars) block.stages) 1024)
    (list_all (is_stage vars block.args) block.stages) is in
    record { few = leb-true block.args 8 parts.0; tasks = leb-true (sum_by (task_count vars) block.stages) 1024 parts.1; stages = parts.2 }

-- ---- read back

block_back : (vars : List job_var) (line : ℕ) (block : job_block) → has_twice (names_of_vars vars) ≡ false → is_unreserved block.name ≡ true
    → is_whole_block vars block ≡ true
    → block_of (names_of_vars vars) (block_for vars line block) ≡ block
block_back vars line block once free is =
    let whole = whole_block vars block is in
    let stages = map (stage_of (names_of_vars vars) (arguments block.args)) (stages_for vars (line + 1) block.stages) in
    ap₂ (λ (name : Word) (args : ℕ). record block { name = name; args = args; stages = stages }) (text_same block.name free)
    (length-map-range_with_len argument_name 0 block.args)
    ∙ ap (λ (xs : List job_stage). record block { stages = xs }) (stages_back vars block.args (line + 1) block.stages once whole.few whole.stages)

pub blocks_back : (vars : List job_var) (line : ℕ) (blocks : List job_block) → has_twice (names_of_vars vars) ≡ false
    → list_all is_unreserved (names_of_blocks blocks) ≡ true
    → list_all (is_whole_block vars) blocks ≡ true → map (block_of (names_of_vars vars)) (blocks_for vars line blocks) ≡ blocks
blocks_back vars line [] once free all = refl
blocks_back vars line (block ∷ blocks) once free all =
    let frees = and_parts (is_unreserved block.name) (list_all is_unreserved (names_of_blocks blocks)) free in
    let parts = and_parts (is_whole_block vars block) (list_all (is_whole_block vars) blocks) all in
    ap₂ (λ (x : job_block) (xs : List job_block). x ∷ xs) (block_back vars line block once frees.0 parts.0)
    (blocks_back vars (line + block_lines block) blocks once frees.1 parts.1)

pub blocks_named : (vars : List job_var) (line : ℕ) (blocks : List job_block) → block_names (blocks_for vars line blocks) ≡ names_of_blocks blocks
blocks_named vars line [] = refl
blocks_named vars line (block ∷ blocks) = ap (λ (names : List Word). block.name ∷ names) (blocks_named vars (line + block_lines block) blocks)

-- ---- no rule refuses them

none_reserved : (words : List Word) → list_all is_unreserved words ≡ true → list_any (is_in reserved) words ≡ false
none_reserved [] free = refl
none_reserved (word ∷ words) free =
    let parts = and_parts (is_unreserved word) (list_all is_unreserved words) free in
    or_from (is_in reserved word) (list_any (is_in reserved) words) (not_reserved word parts.0) (none_reserved words parts.1)

all_free : (args : ℕ) → args ≤ 8 → list_all is_unreserved (arguments args) ≡ true
all_free args few =
    ap (list_all is_unreserved) (sym (take-map-range_with_len argument_name 0 8 args few))
    ∙ all_taken is_unreserved args (first_names argument_name 8) arguments_free

block_passes : (vars : List Var) (before : List Block) (block : Block) → list_any (is_in reserved) (block.name ∷ block.arguments) ≡ false
    → (is_in (var_names vars) block.name ≡ false) × (is_in (block_names before) block.name ≡ false) × (has_twice block.arguments ≡ false)
    → length before + 1 ≤ 32 → length block.arguments ≤ 8 → rule_of (at_block vars before block) ≡ None
unfolding rule_of
block_passes vars before block free new number few =
    let place = at_block vars before block in
    no_rule (rule_41 place) 41 _ free
    (no_rule (rule_42 place) 42 _
    (or_from (is_in (var_names vars) block.name || is_in (block_names before) block.name) (has_twice block.arguments)
    (or_from (is_in (var_names vars) block.name) (is_in (block_names before) block.name) new.0 new.1) new.2)
    (no_rule (rule_44 place) 44 _
    (or_from (nat_lt 32 (length before + 1)) (nat_lt 8 (length block.arguments)) (le-ltb 32 (length before + 1) number) (le-ltb 8 (length block.arguments) few))
    refl))

pub blocks_pass : (tree_vars : List Var) (vars : List job_var) (before : List Block) (done blocks : List job_block) (line : ℕ) → AreThere tree_vars vars
    → block_names before ≡ names_of_blocks done
    → has_twice ((names_of_vars vars ++ names_of_blocks done) ++ names_of_blocks blocks) ≡ false → list_all is_unreserved (names_of_blocks blocks) ≡ true
    → list_all (is_whole_block vars) blocks ≡ true → length (done ++ blocks) ≤ 32
    → first_refusal (places_of_blocks tree_vars before (blocks_for vars line blocks)) ≡ None
blocks_pass tree_vars vars before done [] line there named once free all few = refl
blocks_pass tree_vars vars before done (block ∷ blocks) line there named once free all few =
    let b = block_for vars line block in
    let frees = and_parts (is_unreserved block.name) (list_all is_unreserved (names_of_blocks blocks)) free in
    let parts = and_parts (is_whole_block vars block) (list_all (is_whole_block vars) blocks) all in
    let whole = whole_block vars block parts.0 in
    let new = in_neither (names_of_vars vars) (names_of_blocks done) block.name
    (apart (names_of_vars vars ++ names_of_blocks done) block.name (names_of_blocks blocks) once) in
    let pushed : names_of_blocks (done ++ block ∷ []) ≡ names_of_blocks done ++ block.name ∷ [] = map_push (λ (x : job_block). x.name) done block in
    let named_next : block_names (before ++ b ∷ []) ≡ names_of_blocks (done ++ block ∷ []) =
    map_push (λ (x : Block). x.name) before b ∙ ap (λ (names : List Word). names ++ block.name ∷ []) named ∙ sym pushed in
    let names = names_of_vars vars in
    let once_next : has_twice ((names ++ names_of_blocks (done ++ block ∷ [])) ++ names_of_blocks blocks) ≡ false =
    ap (λ (words : List Word). has_twice ((names ++ words) ++ names_of_blocks blocks)) pushed
    ∙ ap (λ (words : List Word). has_twice (words ++ names_of_blocks blocks)) (sym (append_assoc names (names_of_blocks done) (block.name ∷ [])))
    ∙ ap has_twice (append_assoc (names ++ names_of_blocks done) (block.name ∷ []) (names_of_blocks blocks)) ∙ once in
    let few_next : length ((done ++ block ∷ []) ++ blocks) ≤ 32 = omega (arith, few, ap length (append_assoc done (block ∷ []) blocks)) in
    let number : length before + 1 ≤ 32 =
    omega (
      arith,
      few,
      length-append done (block ∷ blocks),
      ap length named,
      length-map before (λ (x : Block). x.name),
      length-map done
          (λ (x : job_block). x.name),
    ) in
    passes_both (places_of_block tree_vars before b) (places_of_blocks tree_vars (before ++ b ∷ []) (blocks_for vars (line + block_lines block) blocks))
    (passes_on (at_block tree_vars before b) (places_of_stages tree_vars b [] b.stages)
    (block_passes tree_vars before b
    (or_from (is_in reserved block.name) (list_any (is_in reserved) b.arguments) (not_reserved block.name frees.0)
    (none_reserved b.arguments (all_free block.args whole.few))) (
      ap (λ (ns : List Word). is_in ns block.name) there.named ∙ new.0,
      ap (λ (ns : List Word). is_in ns block.name) named
          ∙ new.1,
      arguments_apart block.args whole.few,
    )
    number (omega (arith, length-map-range_with_len argument_name 0 block.args, whole.few)))
    (stages_pass tree_vars vars b block.args [] [] block.stages (line + 1) there refl whole.few refl whole.stages whole.tasks))
    (blocks_pass tree_vars vars (before ++ b ∷ []) (done ++ block ∷ []) blocks (line + block_lines block) there named_next once_next frees.1 parts.1 few_next)

-- ---- they can be printed, and have their numbers

pub blocks_printed : (vars : List job_var) (line : ℕ) (blocks : List job_block) → list_all is_unreserved (names_of_vars vars) ≡ true
    → list_all is_unreserved (names_of_blocks blocks) ≡ true
    → list_all (is_whole_block vars) blocks ≡ true → list_all (λ (b : job_block). list_all spelled.is_spelled_stage b.stages) blocks ≡ true
    → list_all trees.is_printable_block (blocks_for vars line blocks) ≡ true
blocks_printed vars line [] named free all spells = refl
blocks_printed vars line (block ∷ blocks) named free all spells =
    let b = block_for vars line block in
    let frees = and_parts (is_unreserved block.name) (list_all is_unreserved (names_of_blocks blocks)) free in
    let parts = and_parts (is_whole_block vars block) (list_all (is_whole_block vars) blocks) all in
    let spelled_parts =
    and_parts (list_all spelled.is_spelled_stage block.stages) (list_all (λ (x : job_block). list_all spelled.is_spelled_stage x.stages) blocks) spells in
    let whole = whole_block vars block parts.0 in
    and_from (trees.is_printable_block b) (list_all trees.is_printable_block (blocks_for vars (line + block_lines block) blocks))
    (and_from_three (is_unreserved block.name) (list_all is_unreserved b.arguments) (list_all trees.is_printable_stage b.stages)
    frees.0 (all_free block.args whole.few)
    (stages_printed vars block.args (line + 1) block.stages named whole.few whole.stages spelled_parts.0))
    (blocks_printed vars (line + block_lines block) blocks named frees.1 parts.1 spelled_parts.1)

block_length : (vars : List job_var) (line : ℕ) (block : job_block) → length (block_words (block_for vars line block)) ≡ block_lines block
block_length vars line block =
    let b = block_for vars line block in
    let words = map stage_words b.stages in
    let head = codes "block" ∷ block.name ∷ listed_words (map (λ (argument : Word). argument ∷ []) b.arguments) in
    omega (arith, length-append (head ∷ words) ((codes "end" ∷ []) ∷ []), length-map b.stages stage_words, stages_length vars (line + 1) block.stages)

pub blocks_length : (vars : List job_var) (line : ℕ) (blocks : List job_block)
    → length (flat_map block_words (blocks_for vars line blocks)) ≡ blocks_lines blocks
blocks_length vars line [] = refl
blocks_length vars line (block ∷ blocks) =
    length-append (block_words (block_for vars line block)) (flat_map block_words (blocks_for vars (line + block_lines block) blocks))
    ∙ ap₂ (λ (n m : ℕ). n + m) (block_length vars line block) (blocks_length vars (line + block_lines block) blocks)

pub blocks_at_lines : (vars : List job_var) (line : ℕ) (blocks : List job_block)
    → blocks_numbered line (blocks_for vars line blocks) ≡ blocks_for vars line blocks
blocks_at_lines vars line [] = refl
blocks_at_lines vars line (block ∷ blocks) =
    let rest = blocks_for vars (line + block_lines block) blocks in
    ap₂ (λ (stages : List Stage) (behind : ℕ). record (block_for vars line block) { stages = stages } ∷ blocks_numbered (line + behind) rest)
    (stages_at_lines vars (line + 1) block.stages)
    (block_length vars line block)
    ∙ ap (λ (bs : List Block). block_for vars line block ∷ bs) (blocks_at_lines vars (line + block_lines block) blocks)
