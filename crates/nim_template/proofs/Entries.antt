-- The entries of a built template: each is of one of the workers, and none receives what the block began with.
use Rattle.std.proofs.Common.{◌≡◌, ℕ, zero, suc, ◌+◌, ◌<◌, ◌≤◌, Bool, true, false, List, [], ◌∷◌, ◌++◌, length, map, refl, ap, ap₂, sym, subst, ◌∙◌}
use Rattle.std.proofs.Common.{arith}
use Rattle.std.proofs.Common.{Option, None, Some, inl, inr}
use Rattle.std.specs.Prelude.{◌==◌, ◌⊎◌, if◌then◌else◌, ℤ, slice_index_or}
use Rattle.std.specs.List.{filter, flat_map, fold, list_all, range_with_len}
use Rattle.std.specs.Option.{is_some}
use Rattle.std.proofs.lemmas.Bool.{cases_lt, eq-eqb, eqb-false, eqb-true, false≢true, ne_eqb}
use Rattle.std.proofs.lemmas.List.{append-nil}
use Rattle.std.proofs.lemmas.List.Concat.{flat_map-append}
use Rattle.nim_base.specs.declared.number.Object.{Object}
use Rattle.nim_base.specs.declared.number.Worker.{Worker}
use Rattle.nim_base.specs.declared.task.TaskForm.{TaskForm}
use Rattle.nim_command.specs.declared.command.Command.{Command}
use Rattle.nim_command.specs.declared.command.Kind.{Kind}
use Rattle.nim_command.specs.declared.entry.Entry.{Entry}
use Rattle.nim_command.specs.declared.entry.EntryKind.{EntryKind}
use Rattle.nim_command.specs.Before.{Footprint}
use Rattle.nim_command.specs.Expansion.{expanded, kind_for, taken_after, takes_version}
use Rattle.nim_command.specs.Numbers.{counted_from}
use Rattle.nim_command.specs.Ruled.{entries_by_rule, entry_footprint}
use Rattle.nim_place.specs.declared.placement.Placement.{Placement}
use Rattle.nim_place.specs.Schedule.{copies_of, moves, run_of, scheduled}
use Rattle.nim_place.specs.Sound.{commands_of_half, commands_from, version_named}
use Rattle.nim_place.specs.Stands.{commands_for}
use Rattle.nim_place.specs.Versions.{Versions, holder, is_current, latest_of}
use Rattle.nim_place.proofs.Held.{for_append}
use Rattle.nim_place.proofs.Moves.{AreLacking, AreMoves, holder_facts, moves_facts, moves_lacking}
use Rattle.nim_place.proofs.Places.{both_true}
use Rattle.nim_template.specs.declared.walk.Walk.{Walk}
use Rattle.nim_template.specs.Built.{entries_for, half_for}
use Rattle.nim_template.specs.Closing.{closed_for, closing_entries, closing_from, closings, copy_from}
use Rattle.nim_template.specs.Fits.{is_fit}
use Rattle.nim_template.specs.Tasks.{without_before}
use Rattle.nim_template.specs.Walk.{walked_past, entry_for, home_of, task_for, walked, with_need}
use Rattle.nim_template.proofs.Chosen.{AreReady, command_at, moved_more}
use Rattle.nim_template.proofs.Closes.{AreNeeds, ClosesFor, closes_for, needs_after}
use Rattle.nim_template.proofs.Effects.{still_more}
use Rattle.nim_template.proofs.Halves.{bare, for_commands}
use Rattle.nim_template.proofs.Instances.{form_ready}
use Rattle.nim_template.proofs.Numbers.{need_entries}
use Rattle.nim_template.proofs.Offsets.{IsKept}
use Rattle.nim_template.proofs.Sames.{AllBelow}
use Rattle.nim_template.proofs.Sizes.{AreLike, form_like, like_needs}
use Rattle.nim_template.proofs.Walks.{IsWalked, form_walked}
use Rattle.nim_template.proofs.Written.{closing_more}

-- each is of one of so many workers, and takes no version that an order names
abbrev pub AreFit : ℕ → List (Worker × Entry) → Type 0
AreFit workers [] = Unit {0}
AreFit workers (e ∷ es) = (e.0.0 < workers) × (takes_version e.1.kind ≡ false) × AreFit workers es

pub fit_append : (workers : ℕ) (xs ys : List (Worker × Entry)) → AreFit workers xs → AreFit workers ys → AreFit workers (xs ++ ys)
fit_append workers [] ys first second = second
fit_append workers (x ∷ xs) ys first second = (first.0, first.1, fit_append workers xs ys first.2 second)

-- ---- the walk

copies_fit : (base : Versions) (form : TaskForm) (task : ℕ) (owner : Worker) (ms : List _) → AreReady base owner form.reads
    → AreMoves base owner form.reads ms → AreLacking base owner ms → AreFit base.workers (flat_map (entry_for form) (copies_of base task owner ms))
copies_fit base form task owner [] ready are lacking = tt
copies_fit base form task owner (m ∷ ms) ready are lacking = (
  are.0,
  refl,
  (
    ready.below,
    still_more (latest_of base m.object) (moved_more base owner form.reads m.object ready are.2 lacking.0),
    copies_fit base form task owner ms ready are.4 lacking.1,
  ),
)

task_fit : (place : Placement) (live : List Bool) (task : ℕ) (offsets : Versions) (form : TaskForm)
    → AreReady offsets (home_of place offsets.objects live form) form.reads
    → AreFit offsets.workers (flat_map (entry_for form) (scheduled offsets (task_for form) task task place live))
task_fit place live task offsets form ready =
    let owner : Worker = home_of place offsets.objects live form in
    let ms = moves offsets owner [] form.reads in
    let copies : List (Worker × Command) = copies_of offsets task owner ms in
    let run : Worker × Command = (owner, run_of (task_for form) task task ms) in
    subst (AreFit offsets.workers) (sym (flat_map-append (entry_for form) copies (run ∷ [])))
    (fit_append offsets.workers (flat_map (entry_for form) copies) (flat_map (entry_for form) (run ∷ []))
    (copies_fit offsets form task owner ms ready (moves_facts offsets owner form.reads) (moves_lacking offsets owner [] form.reads))
    (ready.below, refl, tt))

pub walk_fit : (place : Placement) (live : List Bool) (number : ℕ) (walk : Walk) (forms : List TaskForm) → IsWalked number walk
    → ((objects : ℕ) (f : TaskForm) → (home_of place objects live f).0 < walk.offsets.workers)
    → list_all (is_fit walk.offsets.objects) forms ≡ true → number + length forms ≤ 1024 → AreFit walk.offsets.workers walk.entries
    → AreFit walk.offsets.workers (walked place live number walk forms).entries
walk_fit place live number walk [] is homes fit few so_far = so_far
walk_fit place live number walk (form ∷ forms) is homes fit few so_far =
    let each = both_true (is_fit walk.offsets.objects form) (list_all (is_fit walk.offsets.objects) forms) fit in
    let owner : Worker = home_of place walk.offsets.objects live form in
    let ready : Walk = fold (with_need owner) walk form.reads in
    let like_ready : AreLike walk.offsets ready.offsets = like_needs owner form.reads walk in
    let next : Walk = walked_past place live number walk form in
    let like : AreLike walk.offsets next.offsets = form_like place live number walk next form refl in
    let more : List (Worker × Entry) = flat_map (entry_for form) (scheduled ready.offsets (task_for form) number number place live) in
    let mine : AreFit walk.offsets.workers next.entries =
    fit_append walk.offsets.workers ready.entries more
    (subst (AreFit walk.offsets.workers) (sym (need_entries owner form.reads walk)) so_far)
    (subst (λ (n : ℕ). AreFit n more) like_ready.workers
    (task_fit place live number ready.offsets form (form_ready place live number walk form is homes each.0))) in
    subst (λ (n : ℕ). AreFit n (walked place live (number + 1) next forms).entries) like.workers
    (walk_fit place live (number + 1) next forms (form_walked number place live walk form is homes (omega (arith, few)))
    (λ objects f. (let low = homes objects f in omega (arith, like.workers, low)))
    (subst (λ (n : ℕ). list_all (is_fit n) forms ≡ true) (sym like.objects) each.1) (omega (arith, few))
    (subst (λ (n : ℕ). AreFit n next.entries) (sym like.workers) mine))

-- ---- closing copies

-- who sends is a worker of the map, and has the latest offset
pub from_facts : (offsets : Versions) (need : Worker × Object) (from : Worker) → closing_from offsets need ≡ Some from
    → (from.0 < offsets.workers) × (is_current offsets need.1 from ≡ true)
from_facts offsets need from found = either (is_current offsets need.1 need.0) refl found where
  either : (b : Bool) → is_current offsets need.1 need.0 ≡ b → (if b then None else holder offsets need.1) ≡ Some from
      → (from.0 < offsets.workers) × (is_current offsets need.1 from ≡ true)
  either true is found = absurd (false≢true (ap (λ (o : Option Worker). is_some o) found))
  either false is found =
      let facts = holder_facts offsets need.1 0 offsets.workers from found in
      let below = facts.0 in
      (omega (arith, below), facts.1)

pub closings_fit : (most : ℕ) (offsets : Versions) (needs : List (Worker × Object)) (copy : ℕ) → IsKept most offsets → AreNeeds offsets needs
    → AreFit offsets.workers (closing_entries copy (closings offsets needs))
closings_fit most offsets [] copy kept are = tt
closings_fit most offsets (need ∷ needs) copy kept are =
    let first : ClosesFor most offsets need (closed_for offsets need) = closes_for most offsets need kept are.0 are.1 are.2 in
    let after = first.closed.is_after in
    shown (closing_from offsets need) refl
    (λ k. subst (λ (n : ℕ). AreFit n (closing_entries k (closings (closed_for offsets need) needs))) after.workers
    (closings_fit most (closed_for offsets need) needs k after.kept (needs_after most offsets (closed_for offsets need) needs after are.3))) where
      shown : (o : Option Worker) → closing_from offsets need ≡ o
          → ((k : ℕ) → AreFit offsets.workers (closing_entries k (closings (closed_for offsets need) needs)))
          → AreFit offsets.workers (closing_entries copy (copy_from offsets need o ++ closings (closed_for offsets need) needs))
      shown None is rest = rest copy
      shown (Some from) is rest = (
        (from_facts offsets need from is).0,
        refl,
        (are.0, still_more (latest_of offsets need.1) (closing_more most offsets need from kept are.0 are.1 are.2 is), rest (copy + 1)),
      )

-- ---- the commands of a half

-- none takes a version
abbrev NoneTakes : List Entry → Type 0
NoneTakes [] = Unit {0}
NoneTakes (entry ∷ entries) = (takes_version entry.kind ≡ false) × NoneTakes entries

none_takes : (workers : ℕ) (worker : Worker) (entries : List (Worker × Entry)) → AreFit workers entries → NoneTakes (entries_for worker entries)
none_takes workers worker [] fit = tt
none_takes workers worker (e ∷ entries) fit = either (e.0.0 == worker.0) (none_takes workers worker entries fit.2) where
  others : List (Worker × Entry)
  others = filter (λ (x : Worker × Entry). x.0.0 == worker.0) entries

  either : (b : Bool) → NoneTakes (entries_for worker entries) → NoneTakes (map (λ (x : Worker × Entry). x.1) (if b then e ∷ others else others))
  either true rest = (fit.1, rest)
  either false rest = rest

-- which version an order names makes no difference then
kind_same : (base : ℕ) (args : List ℤ) (named number : ℕ) (kind : EntryKind) → takes_version kind ≡ false
    → kind_for base args named number kind ≡ kind_for base args 0 number kind
kind_same base args named number (EntryKind.Send slot peer entry) none = refl
kind_same base args named number (EntryKind.Receive slot offset) none =
    ap (λ (b : Bool). Kind.Receive slot (if b then named else counted_from base offset)) none
    ∙ sym (ap (λ (b : Bool). Kind.Receive slot (if b then 0 else counted_from base offset)) none)
kind_same base args named number (EntryKind.Copy from to) none = refl
kind_same base args named number (EntryKind.Run func params reads writes) none = refl

abbrev command_with : ℕ → Kind → Command
command_with number kind = record { id = number; kind = kind; before = [] }

pub expanded_same : (base : ℕ) (args : List ℤ) (versions : List ℕ) (taken : ℕ) (past : List Footprint) (entries : List Entry) → NoneTakes entries
    → map without_before (expanded base args versions taken (entries_by_rule past entries)) ≡ map (bare base args) entries
expanded_same base args versions taken past [] none = refl
expanded_same base args versions taken past (entry ∷ entries) none =
    ap₂ (λ (c : Command) (cs : List Command). c ∷ cs)
    (ap (command_with entry.id) (kind_same base args (slice_index_or versions taken 0) entry.id entry.kind none.0))
    (expanded_same base args versions (taken_after taken entry.kind) (past ++ entry_footprint entry ∷ []) entries none.1)

-- ---- the commands of all halves

pub for_here : (worker : Worker) (number : ℕ) (cs : List Command) → number ≡ worker.0
    → commands_for worker (map (λ (c : Command). (let here : Worker = record { 0 = number } in (here, c))) cs) ≡ cs
for_here worker number [] same = refl
for_here worker number (c ∷ cs) same =
    let here : Worker = record { 0 = number } in
    let all : List (Worker × Command) = map (λ (d : Command). (here, d)) cs in
    ap (λ (b : Bool). map (λ (d : Worker × Command). d.1)
    (if b then (here, c) ∷ filter (λ (d : Worker × Command). d.0.0 == worker.0) all else filter (λ (d : Worker × Command). d.0.0 == worker.0) all))
    (eq-eqb number worker.0 same)
    ∙ ap (λ (rest : List Command). c ∷ rest) (for_here worker number cs same)

pub for_there : (worker : Worker) (number : ℕ) (cs : List Command) → (number ≡ worker.0 → ⊥)
    → commands_for worker (map (λ (c : Command). (let here : Worker = record { 0 = number } in (here, c))) cs) ≡ []
for_there worker number [] apart = refl
for_there worker number (c ∷ cs) apart =
    let here : Worker = record { 0 = number } in
    let all : List (Worker × Command) = map (λ (d : Command). (here, d)) cs in
    ap (λ (b : Bool). map (λ (d : Worker × Command). d.1)
    (if b then (here, c) ∷ filter (λ (d : Worker × Command). d.0.0 == worker.0) all else filter (λ (d : Worker × Command). d.0.0 == worker.0) all))
    (ne_eqb number worker.0 apart)
    ∙ for_there worker number cs apart

-- the commands of a worker's half, with the versions that its order names
abbrev pub own_commands : (Object → ℕ) → ℕ → List ℤ → List Entry → List Command
own_commands before base args half = expanded base args (flat_map (λ (e : Entry). version_named before e.kind) half) 0 half

abbrev pub halves_from : List (Worker × Entry) → ℕ → ℕ → List (List Entry)
halves_from entries from n = map (λ (number : ℕ). half_for (record { 0 = number }) entries) (range_with_len from n)

none_from : (before : Object → ℕ) (base : ℕ) (args : List ℤ) (entries : List (Worker × Entry)) (worker : Worker) (from n : ℕ)
    → ((k : ℕ) → from ≤ k → k < from + n → k ≡ worker.0 → ⊥)
    → commands_for worker (commands_from before base args from (halves_from entries from n)) ≡ []
none_from before base args entries worker from zero apart = refl
none_from before base args entries worker from (suc n) apart =
    let here : Worker = record { 0 = from } in
    let half : List Entry = half_for here entries in
    let rest : List (Worker × Command) = commands_from before base args (from + 1) (halves_from entries (from + 1) n) in
    for_append worker (commands_of_half before base args here half) rest
    ∙ ap₂ (λ (xs ys : List Command). xs ++ ys)
    (for_there worker from (own_commands before base args half) (apart from (omega arith) (omega arith)))
    (none_from before base args entries worker (from + 1) n (λ k above below. apart k (omega (arith, above)) (omega (arith, below))))

pub one_from : (before : Object → ℕ) (base : ℕ) (args : List ℤ) (entries : List (Worker × Entry)) (worker : Worker) (from n : ℕ) → from ≤ worker.0
    → worker.0 < from + n
    → commands_for worker (commands_from before base args from (halves_from entries from n)) ≡ own_commands before base args (half_for worker entries)
one_from before base args entries worker from zero above below = absurd (omega (arith, above, below))
one_from before base args entries worker from (suc n) above below =
    let here : Worker = record { 0 = from } in
    let half : List Entry = half_for here entries in
    let rest : List (Worker × Command) = commands_from before base args (from + 1) (halves_from entries (from + 1) n) in
    for_append worker (commands_of_half before base args here half) rest
    ∙ either (from == worker.0) refl
    (λ apart. one_from before base args entries worker (from + 1) n (omega (arith, above, apart)) (omega (arith, below))) where
      either : (b : Bool) → (from == worker.0) ≡ b
          → ((from ≡ worker.0 → ⊥)
          → commands_for worker (commands_from before base args (from + 1) (halves_from entries (from + 1) n))
          ≡ own_commands before base args (half_for worker entries))
          → commands_for worker (commands_of_half before base args (record { 0 = from }) (half_for (record { 0 = from }) entries))
          ++ commands_for worker (commands_from before base args (from + 1) (halves_from entries (from + 1) n))
          ≡ own_commands before base args (half_for worker entries)
      either true is later =
          let same : from ≡ worker.0 = eqb-true from worker.0 is in
          ap₂ (λ (xs ys : List Command). xs ++ ys)
          (for_here worker from (own_commands before base args (half_for (record { 0 = from }) entries)) same)
          (none_from before base args entries worker (from + 1) n (λ k low high equal. omega (arith, low, equal, same)))
          ∙ append-nil (own_commands before base args (half_for (record { 0 = from }) entries))
          ∙ ap (λ (k : ℕ). own_commands before base args (half_for (record { 0 = k }) entries)) same
      either false is later =
          let apart : from ≡ worker.0 → ⊥ = eqb-false from worker.0 is in
          ap (λ (xs : List Command). xs ++ commands_for worker (commands_from before base args (from + 1) (halves_from entries (from + 1) n)))
          (for_there worker from (own_commands before base args (half_for (record { 0 = from }) entries)) apart)
          ∙ later apart

-- what a worker that isn't there has
none_past : (workers : ℕ) (base : ℕ) (args : List ℤ) (worker : Worker) (entries : List (Worker × Entry)) → AreFit workers entries → workers ≤ worker.0
    → commands_for worker (map (command_at base args) entries) ≡ []
none_past workers base args worker [] fit past = refl
none_past workers base args worker (e ∷ entries) fit past =
    let below = fit.0 in
    let others : List (Worker × Command) = filter (λ (c : Worker × Command). c.0.0 == worker.0) (map (command_at base args) entries) in
    ap (λ (b : Bool). map (λ (c : Worker × Command). c.1) (if b then command_at base args e ∷ others else others))
    (ne_eqb e.0.0 worker.0 (λ same. omega (arith, same, below, past)))
    ∙ none_past workers base args worker entries fit.2 past

bare_again : (base : ℕ) (args : List ℤ) (worker : Worker) (entries : List (Worker × Entry))
    → map without_before (commands_for worker (map (command_at base args) entries)) ≡ commands_for worker (map (command_at base args) entries)
bare_again base args worker [] = refl
bare_again base args worker (e ∷ entries) = either (e.0.0 == worker.0) (bare_again base args worker entries) where
  others : List (Worker × Command)
  others = filter (λ (c : Worker × Command). c.0.0 == worker.0) (map (command_at base args) entries)

  either : (b : Bool) → map without_before (map (λ (c : Worker × Command). c.1) others) ≡ map (λ (c : Worker × Command). c.1) others
      → map without_before (map (λ (c : Worker × Command). c.1) (if b then command_at base args e ∷ others else others))
      ≡ map (λ (c : Worker × Command). c.1) (if b then command_at base args e ∷ others else others)
  either true rest = ap (λ (cs : List Command). (command_at base args e).1 ∷ cs) rest
  either false rest = rest

-- the commands of all halves are those of the entries, worker by worker, before sets aside
pub halves_same : (before : Object → ℕ) (base : ℕ) (args : List ℤ) (workers : ℕ) (entries : List (Worker × Entry)) → AreFit workers entries
    → (worker : Worker)
    → map without_before (commands_for worker (commands_from before base args 0 (halves_from entries 0 workers)))
    ≡ map without_before (commands_for worker (map (command_at base args) entries))
halves_same before base args workers entries fit worker = either (cases_lt worker.0 workers) where
  either : (worker.0 < workers) ⊎ (workers ≤ worker.0)
      → map without_before (commands_for worker (commands_from before base args 0 (halves_from entries 0 workers)))
      ≡ map without_before (commands_for worker (map (command_at base args) entries))
  either (inl below) =
      let half : List Entry = half_for worker entries in
      ap (map without_before) (one_from before base args entries worker 0 workers (omega arith) (omega (arith, below)))
      ∙ expanded_same base args (flat_map (λ (e : Entry). version_named before e.kind) half) 0 [] (entries_for worker entries)
      (none_takes workers worker entries fit)
      ∙ for_commands base args worker entries ∙ sym (bare_again base args worker entries)
  either (inr past) =
      ap (map without_before) (none_from before base args entries worker 0 workers (λ k above below same. omega (arith, below, same, past))
      ∙ sym (none_past workers base args worker entries fit past))

pub commands_below : (base : ℕ) (args : List ℤ) (workers : ℕ) (entries : List (Worker × Entry)) → AreFit workers entries
    → AllBelow workers (map (command_at base args) entries)
commands_below base args workers [] fit = tt
commands_below base args workers (e ∷ entries) fit = (fit.0, commands_below base args workers entries fit.2)

here_below : (workers number : ℕ) (cs : List Command) (rest : List (Worker × Command)) → number < workers → AllBelow workers rest
    → AllBelow workers (map (λ (c : Command). (let here : Worker = record { 0 = number } in (here, c))) cs ++ rest)
here_below workers number [] rest below are = are
here_below workers number (c ∷ cs) rest below are = (below, here_below workers number cs rest below are)

pub halves_below : (before : Object → ℕ) (base : ℕ) (args : List ℤ) (workers : ℕ) (entries : List (Worker × Entry)) (from n : ℕ) → from + n ≤ workers
    → AllBelow workers (commands_from before base args from (halves_from entries from n))
halves_below before base args workers entries from zero few = tt
halves_below before base args workers entries from (suc n) few =
    here_below workers from (own_commands before base args (half_for (record { 0 = from }) entries))
    (commands_from before base args (from + 1) (halves_from entries (from + 1) n)) (omega (arith, few))
    (halves_below before base args workers entries (from + 1) n (omega (arith, few)))
