-- When the halves of a worker template do what the tasks of its block do, one after another.
use Rattle.std.specs.Prelude.{◌≡◌, ℕ, ◌+◌, ◌<◌, ◌==◌, Bool, true, false, ◌&&◌, if◌then◌else◌, ℤ, List, [], ◌∷◌, ◌++◌, length, map}
use Rattle.std.specs.Prelude.{take, drop, None, Some, count_by, All}
use Rattle.std.specs.List.{flat_map, fold, list_any}
use Rattle.std.specs.Ordering.{is_le}
use Rattle.nim_base.specs.declared.number.Object.{Object}
use Rattle.nim_base.specs.declared.number.Slot.{Slot}
use Rattle.nim_base.specs.declared.number.Worker.{Worker}
use Rattle.nim_command.specs.declared.command.Command.{Command}
use Rattle.nim_command.specs.declared.command.Kind.{Kind}
use Rattle.nim_command.specs.declared.command.Kind.TheVariants.{Send, Receive, Run}
use Rattle.nim_command.specs.declared.entry.Entry.{Entry}
use Rattle.nim_command.specs.declared.entry.EntryKind.{EntryKind}
use Rattle.nim_command.specs.declared.template.WorkerTemplate.{WorkerTemplate}
use Rattle.nim_command.specs.Expansion.{expanded, version_at}
use Rattle.nim_command.specs.Holds.{Content, content_at, left_by, put_at}
use Rattle.nim_command.specs.Numbers.{main_slot}
use Rattle.nim_command.specs.Ranks.{rank_of, ranks_compared}
use Rattle.nim_command.specs.Slots.{object_of}
use Rattle.nim_job.specs.declared.job.Job.{Job}
use Rattle.nim_job.specs.Serial.{tasks_of}
use Rattle.nim_job.specs.Tasks.{task_with_args}
use Rattle.nim_job.specs.Versions.{read_version}
use Rattle.nim_job.specs.Whole.{is_whole}
use Rattle.nim_plan.specs.Legal.{IsLegalKind}

-- ---- the commands of an instance, by rank

-- the versions that are received as the block began with them
abbrev pub version_named : (Object → ℕ) → EntryKind → List ℕ
version_named before (EntryKind.Receive slot offset) = if offset == 0 then before (object_of slot) ∷ [] else []
version_named before _ = []

-- the commands of a worker's half
abbrev pub commands_of_half : (Object → ℕ) → ℕ → List ℤ → Worker → List Entry → List (Worker × Command)
commands_of_half before base args worker half =
    let versions : List ℕ = flat_map (λ (e : Entry). version_named before e.kind) half in
    map (λ (c : Command). (worker, c)) (expanded base args versions 0 half)

-- the commands of all halves, the first of them that of the worker with this number
abbrev pub commands_from : (Object → ℕ) → ℕ → List ℤ → ℕ → List (List Entry) → List (Worker × Command)
commands_from before base args number [] = []
commands_from before base args number (half ∷ halves) =
    commands_of_half before base args (record { 0 = number }) half ++ commands_from before base args (number + 1) halves

-- one command among others, before those of higher rank
abbrev pub put_by_rank : ℕ → Worker × Command → List (Worker × Command) → List (Worker × Command)
put_by_rank base c [] = c ∷ []
put_by_rank base c (d ∷ ds) =
    if is_le (ranks_compared (rank_of base c.1) (rank_of base d.1)) then c ∷ d ∷ ds else d ∷ put_by_rank base c ds

-- commands of one instance by rank
abbrev pub by_rank : ℕ → List (Worker × Command) → List (Worker × Command)
by_rank base [] = []
by_rank base (c ∷ cs) = put_by_rank base c (by_rank base cs)

-- ---- the walk

-- what a Send sent: to whom, the number of the entry that receives it, and what it carries
pub record Frame : Type 0 where
  pub to : Worker
  pub entry : ℕ
  pub content : Content

-- what the slots of all workers hold, and what was sent
pub record Plane : Type 0 where
  pub slots : Worker → Slot → Content
  pub frames : List Frame

-- these slots, and nothing sent
abbrev pub first_plane : (Worker → Slot → Content) → Plane
first_plane slots = record { slots = slots; frames = [] }

-- what was sent to a worker's entry, if anything was
abbrev pub sent_to : List Frame → Worker → ℕ → Content
sent_to [] worker entry = None
sent_to (frame ∷ frames) worker entry =
    if (frame.to.0 == worker.0) && (frame.entry == entry) then frame.content else sent_to frames worker entry

-- a worker's slots hold this
abbrev pub with_slots : Worker → (Slot → Content) → Plane → Plane
with_slots worker held plane = record plane { slots = λ other. if other.0 == worker.0 then held else plane.slots other }

-- What a command leaves: a Receive takes what its Send sent.
abbrev pub step_of : Worker → ℕ → Kind → Plane → Plane
step_of worker number (Send slot peer entry) plane =
    let frame : Frame = record { to = peer; entry = entry; content = plane.slots worker slot } in
    record plane { frames = plane.frames ++ frame ∷ [] }
step_of worker number (Receive slot version) plane =
    with_slots worker (put_at slot (sent_to plane.frames worker number) (plane.slots worker)) plane
step_of worker number kind plane = with_slots worker (left_by kind (plane.slots worker)) plane

-- what commands leave, one after another
abbrev pub plane_left : Plane → List (Worker × Command) → Plane
plane_left plane commands = fold
    (λ (now : Plane) (c : Worker × Command). step_of c.0 c.1.id c.1.kind now) plane commands

-- What a command finds: what is sent or copied is there, a Run is the task at its position and finds the versions that
-- this task reads, and what is received is a version of the slot's object, and was sent.
abbrev pub IsFound : Job → Plane → Worker → ℕ → Kind → Type 0
IsFound job plane worker number (Receive slot version) =
    IsLegalKind job (plane.slots worker) (Receive slot version)
    × (sent_to plane.frames worker number ≡ content_at slot version)
IsFound job plane worker number kind = IsLegalKind job (plane.slots worker) kind

-- each command finds it behind those before it
abbrev pub AreFound : Job → Plane → List (Worker × Command) → Type 0
AreFound job plane [] = Unit {0}
AreFound job plane (c ∷ cs) =
    IsFound job plane c.0 c.1.id c.1.kind × AreFound job (step_of c.0 c.1.id c.1.kind plane) cs

-- ---- the commands together

-- where a Send goes to: the worker, the number of the entry that receives it, and the object
abbrev pub end_sent : Kind → List (Worker × ℕ × Object)
end_sent (Send slot peer entry) = (peer, entry, object_of slot) ∷ []
end_sent _ = []

-- where a Receive is: its worker, its number and the object
abbrev pub end_received : Worker → ℕ → Kind → List (Worker × ℕ × Object)
end_received worker number (Receive slot version) = (worker, number, object_of slot) ∷ []
end_received worker number _ = []

-- whether two of them are the same
abbrev pub is_end : Worker × ℕ × Object → Worker × ℕ × Object → Bool
is_end first second = (first.0.0 == second.0.0) && (first.1 == second.1) && (first.2.0 == second.2.0)

-- each of these ends is among those once
abbrev pub EachEndOnce : List (Worker × ℕ × Object) → List (Worker × ℕ × Object) → Type 0
EachEndOnce ends those = All (λ one. count_by (is_end one) those ≡ 1) ends

-- what is sent is received once, and what is received is sent once
pub record AreMatched (commands : List (Worker × Command)) : Type 0 where
  pub sent : EachEndOnce (flat_map (λ (c : Worker × Command). end_sent c.1.kind) commands)
      (flat_map (λ (c : Worker × Command). end_received c.0 c.1.id c.1.kind) commands)
  pub received : EachEndOnce (flat_map (λ (c : Worker × Command). end_received c.0 c.1.id c.1.kind) commands)
      (flat_map (λ (c : Worker × Command). end_sent c.1.kind) commands)

-- who runs which position
abbrev pub run_by : Worker → Kind → List (Worker × ℕ)
run_by worker (Run position func params reads writes) = (worker, position) ∷ []
run_by worker _ = []

-- the owners of tasks, the first of them with its position
abbrev pub owned_from : ℕ → List Worker → List (Worker × ℕ)
owned_from position [] = []
owned_from position (owner ∷ owners) = (owner, position) ∷ owned_from (position + 1) owners

-- ---- the template

-- whether an effect names a worker's slot
abbrev pub is_affected : List (Worker × Slot × ℕ) → Worker → Slot → Bool
is_affected effect worker slot =
    list_any (λ (item : Worker × Slot × ℕ). (item.0.0 == worker.0) && (item.1.0 == slot.0)) effect

-- What an instance is begun with: the job's tasks from the base on are the block's, with these arguments, and each
-- precondition's main slot holds the version that the task at the base reads.
pub record MayBegin (template : WorkerTemplate) (job : Job) (base : ℕ) (args : List ℤ)
    (slots : Worker → Slot → Content) : Type 0 where
  pub whole : is_whole job ≡ true
  pub tasks : take (length template.forms) (drop base (tasks_of job)) ≡ map (task_with_args args) template.forms
  pub held :
      All (λ (one : Worker × Object). slots one.0 (main_slot one.1) ≡ Some (one.1, read_version job base one.1))
      template.preconditions

-- What an instance does: commands find what they need, Sends and Receives are matched, each task runs once, at its
-- owner, and main slots hold what the effect says, or what they held.
pub record DoesTasks (template : WorkerTemplate) (job : Job) (base : ℕ) (slots : Worker → Slot → Content)
    (commands : List (Worker × Command)) : Type 0 where
  pub found : AreFound job (first_plane slots) commands
  pub matched : AreMatched commands
  pub owners : length template.owners ≡ length template.forms
  pub runs : flat_map (λ (c : Worker × Command). run_by c.0 c.1.kind) commands ≡ owned_from base template.owners
  pub effect :
      All (λ (item : Worker × Slot × ℕ). (plane_left (first_plane slots) commands).slots item.0 item.1
      ≡ content_at item.1 (version_at base (read_version job base (object_of item.1)) item.2)) template.effect
  pub rest : (worker : Worker) (slot : Slot) → slot.0 < 512 → is_affected template.effect worker slot ≡ false
      → (plane_left (first_plane slots) commands).slots worker slot ≡ slots worker slot

-- A template is sound where each instance that may begin does its block's tasks, whatever the job, the base, the
-- arguments and what else the slots hold, when its commands run by rank.
abbrev pub IsSound : WorkerTemplate → Type 0
IsSound template =
    (job : Job) (base : ℕ) (args : List ℤ) (slots : Worker → Slot → Content) → MayBegin template job base args slots
    → let commands : List (Worker × Command) = commands_from (read_version job base) base args 0 template.halves in
    DoesTasks template job base slots (by_rank base commands)
