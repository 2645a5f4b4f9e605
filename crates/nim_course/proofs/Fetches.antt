-- Orders that fetch lead on: where their objects are there, the workers hold what is fetched.
use Rattle.std.proofs.Common.{◌≡◌, ℕ, ◌-◌, ◌<◌, Bool, true, List, [], ◌∷◌, ◌++◌, map, refl, sym, subst, ◌∙◌, arith, Option, None, Some}
use Rattle.std.specs.List.{AllByRecursion}
use Rattle.std.specs.Option.{is_some, option_map_or}
use Rattle.std.proofs.lemmas.List.{append-nil, append_assoc}
use Rattle.std.proofs.lemmas.Option.{none-some}
use Rattle.nim_base.specs.declared.number.Object.{Object}
use Rattle.nim_base.specs.declared.number.Worker.{Worker}
use Rattle.nim_command.specs.declared.command.Command.{Command}
use Rattle.nim_command.specs.Numbers.{main_slot}
use Rattle.nim_command.specs.Slots.{object_of}
use Rattle.nim_job.specs.declared.job.Job.{Job}
use Rattle.nim_job.specs.Objects.{objects_of}
use Rattle.nim_plan.specs.Paired.{Key}
use Rattle.nim_place.specs.declared.placement.Placement.{Placement}
use Rattle.nim_place.specs.Versions.{Versions, holder, latest_of}
use Rattle.nim_place.proofs.Held.{holder_lives, slot_held}
use Rattle.nim_place.proofs.Moves.{holder_facts}
use Rattle.nim_place.specs.Directed.{Directed, by_number}
use Rattle.nim_reuse.specs.Decisions.{Decisions}
use Rattle.nim_course.specs.OrdersGiven.{fetch_at, fetch_commands, single_for}
use Rattle.nim_course.specs.Summaries.{counted_on}
use Rattle.nim_course.proofs.Alone.{AreLed, ComeTo, MayBeAlone, alone_comes, decided_alone}
use Rattle.nim_course.proofs.Runs.{AreQuiet, homes_more, once_quiet}

-- what is there
pub some_there : {X : Type 0} (o : Option X) → is_some o ≡ true → (x : X) × (o ≡ Some x)
some_there None is = absurd cc
some_there (Some x) is = (x, refl)

-- some worker holds the latest version of each object
abbrev AreHeld : Versions → List Object → Type 0
AreHeld versions objects = AllByRecursion (λ (object : Object). is_some (holder versions object) ≡ true) objects

-- a holder may be asked for what it holds
may_fetch : (job : Job) (live : List Bool) (epoch : ℕ) (to_come : Key → Bool) (given : List Directed) (commands : List (Worker × Command))
    (versions : Versions) (ticket : ℕ) (object : Object) (worker : Worker)
    → ComeTo job live epoch to_come given commands versions → holder versions object ≡ Some worker
    → MayBeAlone job live commands versions (fetch_at ticket object worker)
may_fetch job live epoch to_come given commands versions ticket object worker come found =
    let facts = holder_facts versions object 0 versions.workers worker found in
    let held = slot_held versions commands object worker come.so_far.stands facts.1 in
    record {
      lives = holder_lives versions live epoch (by_number given) commands object worker come.so_far.stands come.so_far.ask facts.1;
      below = omega (arith, facts.0);
      legal = λ none. none-some (object_of (main_slot object), latest_of versions object) (sym none ∙ held);
      before = refl;
      keyless = refl;
      aside = refl;
    }

fetches_come : (job : Job) (live : List Bool) (epoch : ℕ) (to_come : Key → Bool) (given : List Directed) (commands : List (Worker × Command))
    (versions : Versions) (ticket : ℕ) (objects : List Object)
    → ComeTo job live epoch to_come given commands versions → AreHeld versions objects
    → ComeTo job live epoch to_come (given ++ map (single_for epoch) (fetch_commands versions ticket objects))
    (commands ++ fetch_commands versions ticket objects) versions
fetches_come job live epoch to_come given commands versions ticket [] come held =
    subst (λ (ds : List Directed). ComeTo job live epoch to_come ds (commands ++ []) versions) (sym (append-nil given))
    (subst (λ (cs : List (Worker × Command)). ComeTo job live epoch to_come given cs versions) (sym (append-nil commands)) come)
fetches_come job live epoch to_come given commands versions ticket (object ∷ objects) come held =
    let found = some_there (holder versions object) held.0 in
    let rest : List (Worker × Command) = fetch_commands versions (counted_on ticket 1) objects in
    let one : Worker × Command = fetch_at ticket object found.0 in
    let next : ComeTo job live epoch to_come (given ++ single_for epoch one ∷ []) (commands ++ one ∷ []) versions =
    alone_comes job live epoch to_come given commands versions one come
    (may_fetch job live epoch to_come given commands versions ticket object found.0 come found.1) in
    let all = fetches_come job live epoch to_come (given ++ single_for epoch one ∷ []) (commands ++ one ∷ []) versions (counted_on ticket 1) objects
    next held.1 in
    subst (λ (o : Option Worker). let cs : List (Worker × Command) =
    option_map_or (λ (worker : Worker). fetch_at ticket object worker ∷ []) o [] ++ rest in
    ComeTo job live epoch to_come (given ++ map (single_for epoch) cs) (commands ++ cs) versions) (sym found.1)
    (subst (λ (ds : List Directed). ComeTo job live epoch to_come ds (commands ++ one ∷ rest) versions)
    (append_assoc given (single_for epoch one ∷ []) (map (single_for epoch) rest))
    (subst (λ (cs : List (Worker × Command)).
    ComeTo job live epoch to_come ((given ++ single_for epoch one ∷ []) ++ map (single_for epoch) rest) cs versions)
    (append_assoc commands (one ∷ []) rest) all))

-- they run nothing
fetches_quiet : (versions : Versions) (ticket : ℕ) (objects : List Object) → AreQuiet (fetch_commands versions ticket objects)
fetches_quiet versions ticket [] = tt
fetches_quiet versions ticket (object ∷ objects) = either (fetches_quiet versions (counted_on ticket 1) objects) (holder versions object) where
  either : AreQuiet (fetch_commands versions (counted_on ticket 1) objects) → (o : Option Worker)
      → AreQuiet (option_map_or (λ (worker : Worker). fetch_at ticket object worker ∷ []) o [] ++ fetch_commands versions (counted_on ticket 1) objects)
  either rest None = rest
  either rest (Some worker) = (refl, rest)

-- objects that the job has
abbrev pub AreThere : Job → List Object → Type 0
AreThere job objects = AllByRecursion (λ (object : Object). object.0 < objects_of job.vars) objects

are_held : (job : Job) (versions : Versions) (objects : List Object)
    → ((object : Object) → object.0 < objects_of job.vars → is_some (holder versions object) ≡ true) → AreThere job objects → AreHeld versions objects
are_held job versions [] holders there = tt
are_held job versions (object ∷ objects) holders there = (holders object there.0, are_held job versions objects holders there.1)

pub fetches_lead : (job : Job) (place : Placement) (live : List Bool) (epoch position : ℕ) (to_come : Key → Bool) (given : List Directed)
    (versions : Versions) (decisions : Decisions) (ticket : ℕ) (objects : List Object)
    → AreLed job place live epoch position to_come given versions decisions → AreThere job objects
    → AreLed job place live epoch position to_come (given ++ map (single_for epoch) (fetch_commands versions ticket objects)) versions decisions
fetches_lead job place live epoch position to_come given versions decisions ticket objects led there =
    let leading = led.leading in
    let more : List (Worker × Command) = fetch_commands versions ticket objects in
    let quiet = fetches_quiet versions ticket objects in
    let come = fetches_come job live epoch to_come given leading.commands versions ticket objects
    (record { right = led.right; so_far = leading.so_far; fresh = leading.fresh })
    (are_held job versions objects (λ object below. leading.at.holders object (omega (arith, below, leading.at.objects))) there) in
    record {
      right = come.right;
      leading = record {
        commands = leading.commands ++ more;
        so_far = come.so_far;
        before = leading.before;
        at = leading.at;
        decided = decided_alone job place live epoch given more decisions leading.decided;
        fresh = come.fresh;
        from = leading.from;
        first = leading.first;
        since = leading.since;
        runs = once_quiet leading.from (position - leading.from) leading.commands more leading.runs quiet;
        homes = homes_more job place live leading.commands more leading.homes quiet;
      };
    }
