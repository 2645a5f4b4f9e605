-- A map stands for the commands of a task too.
use Rattle.std.proofs.Common.{◌≡◌, ℕ, ◌<◌, Bool, true, false, List, [], ◌∷◌, ◌++◌, refl, sym, subst}
use Rattle.std.proofs.lemmas.Bool.{false≢true}
use Rattle.std.proofs.lemmas.List.{append-nil, append_assoc}
use Rattle.nim_base.specs.declared.number.Object.{Object}
use Rattle.nim_base.specs.declared.number.Worker.{Worker}
use Rattle.nim_base.specs.declared.task.Task.{Task}
use Rattle.nim_command.specs.declared.command.Command.{Command}
use Rattle.nim_command.specs.declared.command.Kind.{Kind}
use Rattle.nim_command.specs.declared.command.Kind.TheVariants.{Create, Load, Send, Receive, Copy, Run, Fetch}
use Rattle.nim_place.specs.declared.schedule.Moved.{Moved}
use Rattle.nim_place.specs.Schedule.{copies_of, moves, run_of}
use Rattle.nim_place.specs.Stands.{MapStands, StandsOn, is_aside}
use Rattle.nim_place.specs.Versions.{Versions, after_commands, after_kind, puts_of, version_of}
use Rattle.nim_place.proofs.History.{stands_more}
use Rattle.nim_place.proofs.Moves.{AreMoves, moves_facts}
use Rattle.nim_place.proofs.Puts.{put_all}

abbrev is_copy : Kind → Bool
is_copy (Copy from to) = true
is_copy _ = false

-- each command is of one of so many workers, and is no Copy
abbrev AllFit : ℕ → List (Worker × Command) → Type 0
AllFit workers [] = Unit {0}
AllFit workers (c ∷ cs) = (c.0.0 < workers) × (is_copy c.1.kind ≡ false) × AllFit workers cs

fit_append : (workers : ℕ) (xs ys : List (Worker × Command)) → AllFit workers xs → AllFit workers ys → AllFit workers (xs ++ ys)
fit_append workers [] ys first second = second
fit_append workers (x ∷ xs) ys first second = (first.0, first.1, fit_append workers xs ys first.2 second)

aside : (versions : Versions) (kind : Kind) → is_copy kind ≡ false → is_aside versions kind ≡ true
aside versions (Copy from to) is = absurd (false≢true (sym is))
aside versions (Create slot iota number) is = refl
aside versions (Load slot version value) is = refl
aside versions (Send slot peer entry) is = refl
aside versions (Receive slot version) is = refl
aside versions (Run position func params reads writes) is = refl
aside versions (Fetch slot ticket) is = refl

pub all_stand : (cs : List (Worker × Command)) (versions : Versions) → AllFit versions.workers cs → StandsOn versions (after_commands versions cs) cs
all_stand [] versions fit given stands = subst (λ (l : List (Worker × Command)). MapStands l versions) (sym (append-nil given)) stands
all_stand (c ∷ cs) versions fit given stands =
    let next : Versions = after_kind c.0 versions c.1.kind in
    let workers : next.workers
    ≡ versions.workers = (put_all versions c.0 (version_of c.1.kind) (puts_of c.1.kind) (record { slots = stands.slots; all = stands.all }) fit.0).workers in
    subst (λ (l : List (Worker × Command)). MapStands l (after_commands next cs)) (append_assoc given (c ∷ []) cs)
    (all_stand cs next (subst (λ (n : ℕ). AllFit n cs) (sym workers) fit.2) (given ++ c ∷ [])
    (stands_more given versions c.0 c.1 stands fit.0 (aside versions c.1.kind fit.1)))

pub copies_fit : (versions : Versions) (number : ℕ) (owner : Worker) (reads : List Object) (moved : List Moved) → AreMoves versions owner reads moved
    → owner.0 < versions.workers
    → AllFit versions.workers (copies_of versions number owner moved)
copies_fit versions number owner reads [] are below = tt
copies_fit versions number owner reads (m ∷ ms) are below = (are.0, refl, (below, refl, copies_fit versions number owner reads ms are.4 below))

-- the commands of a task
pub schedule_stands : (before after : Versions) (owner : Worker) (task : Task) (number position : ℕ) (commands : List (Worker × Command))
    → owner.0 < before.workers
    → commands ≡ copies_of before number owner (moves before owner [] task.reads) ++
    (owner, run_of task number position (moves before owner [] task.reads)) ∷ []
    → after ≡ after_commands before commands → StandsOn before after commands
schedule_stands before after owner task number position commands below is same =
    let moved : List Moved = moves before owner [] task.reads in
    let fit : AllFit before.workers (copies_of before number owner moved ++ (owner, run_of task number position moved) ∷ []) =
    fit_append before.workers (copies_of before number owner moved) ((owner, run_of task number position moved) ∷ [])
    (copies_fit before number owner task.reads moved (moves_facts before owner task.reads) below) (below, refl, tt) in
    subst (λ (v : Versions). StandsOn before v commands) (sym same) (all_stand commands before (subst (AllFit before.workers) (sym is) fit))
