-- The commands of an instance whose tasks moved are legal behind those so far.
use Rattle.std.proofs.Common.{◌≡◌, ℕ, zero, suc, ◌≤◌, ◌<◌, Bool, true, false, List, [], ◌∷◌, ◌++◌, length, map, refl, ap, ap₂, sym, subst, ◌∙◌, arith}
use Rattle.std.proofs.Common.{Some, inl, inr}
use Rattle.std.specs.Prelude.{◌==◌, ◌⊎◌, if◌then◌else◌}
use Rattle.std.specs.List.{AllByRecursion, filter, list_all, list_any}
use Rattle.std.specs.Option.{option_map}
use Rattle.std.proofs.lemmas.Bool.{cases_lt, eq-eqb, eqb-true}
use Rattle.std.proofs.lemmas.List.{get_or_past}
use Rattle.std.proofs.lemmas.List.Elements.{All-from_recursion}
use Rattle.std.proofs.Math.Path.{fun_ext}
use Rattle.nim_base.specs.declared.number.Object.{Object}
use Rattle.nim_base.specs.declared.number.Slot.{Slot}
use Rattle.nim_base.specs.declared.number.Worker.{Worker}
use Rattle.nim_command.specs.declared.command.Command.{Command}
use Rattle.nim_command.specs.declared.command.Kind.{Kind}
use Rattle.nim_command.specs.declared.command.Kind.TheVariants.{Create, Load, Send, Receive, Copy, Run, Fetch}
use Rattle.nim_command.specs.declared.template.WorkerTemplate.{WorkerTemplate}
use Rattle.nim_command.specs.Holds.{Content, holds, left_by, put_at}
use Rattle.nim_command.specs.Numbers.{main_slot}
use Rattle.nim_command.specs.Slots.{object_of}
use Rattle.nim_job.specs.declared.job.Job.{Job}
use Rattle.nim_job.specs.Versions.{read_version}
use Rattle.nim_job.specs.Whole.{is_whole}
use Rattle.nim_plan.specs.Legal.{AreLegal, IsLegalKind}
use Rattle.nim_place.specs.declared.placement.Placement.{Placement}
use Rattle.nim_place.specs.Sound.{AreFound, IsFound, Plane, by_rank, commands_from, first_plane, sent_to, step_of}
use Rattle.nim_place.specs.Stands.{MapStands, commands_for}
use Rattle.nim_place.specs.TaskOrders.{IsAt}
use Rattle.nim_place.specs.Versions.{Versions, held_at, is_current, latest_of}
use Rattle.nim_place.proofs.Finds.{current_held}
use Rattle.nim_place.proofs.History.{holds_last}
use Rattle.nim_place.proofs.Legal.{main_of}
use Rattle.nim_place.proofs.Places.{both_true}
use Rattle.nim_place.proofs.Puts.{kept_bounds}
use Rattle.nim_template.specs.declared.template.ControllerTemplate.{ControllerTemplate}
use Rattle.nim_template.specs.Again.{are_current}
use Rattle.nim_template.specs.Fits.{is_fit}
use Rattle.nim_template.specs.Instance.{instance_of}
use Rattle.nim_template.specs.Tasks.{without_before}
use Rattle.nim_template.proofs.Bare.{legal_same}
use Rattle.nim_template.proofs.Effects.{some_kept}
use Rattle.nim_template.proofs.TasksRun.{written_there}
use Rattle.nim_edit.specs.Form.{WasBuilt}
use Rattle.nim_edit.specs.Instances.{InstancesAreLegal}
use Rattle.nim_edit.proofs.MovedSound.{IsRanked, was_ranked}
use Rattle.nim_edit.proofs.SamePlanes.{at_slots}
use Rattle.nim_edit.proofs.SlotsSo.{turned}

-- ---- from all workers to one

-- what a command leaves at its worker, where it found what it needs
own_left : (job : Job) (plane : Plane) (worker : Worker) (number : ℕ) (kind : Kind) → IsFound job plane worker number kind → (slot : Slot)
    → (step_of worker number kind plane).slots worker slot ≡ left_by kind (plane.slots worker) slot
own_left job plane worker number (Send at peer entry) found slot = refl
own_left job plane worker number (Receive at version) found slot =
    at_slots worker worker (put_at at (sent_to plane.frames worker number) (plane.slots worker)) plane slot true (eq-eqb worker.0 worker.0 refl)
    ∙ ap (λ (content : Content). if slot.0 == at.0 then content else plane.slots worker slot) found.1
own_left job plane worker number (Create at iota first) found slot =
    at_slots worker worker (left_by (Create at iota first) (plane.slots worker)) plane slot true (eq-eqb worker.0 worker.0 refl)
own_left job plane worker number (Load at version value) found slot =
    at_slots worker worker (left_by (Load at version value) (plane.slots worker)) plane slot true (eq-eqb worker.0 worker.0 refl)
own_left job plane worker number (Copy from to) found slot =
    at_slots worker worker (left_by (Copy from to) (plane.slots worker)) plane slot true (eq-eqb worker.0 worker.0 refl)
own_left job plane worker number (Run position func params reads writes) found slot =
    at_slots worker worker (left_by (Run position func params reads writes) (plane.slots worker)) plane slot true (eq-eqb worker.0 worker.0 refl)
own_left job plane worker number (Fetch at ticket) found slot =
    at_slots worker worker (left_by (Fetch at ticket) (plane.slots worker)) plane slot true (eq-eqb worker.0 worker.0 refl)

-- another worker's slots stay
others_left : (plane : Plane) (worker other : Worker) (number : ℕ) (kind : Kind) → (worker.0 == other.0) ≡ false → (slot : Slot)
    → (step_of worker number kind plane).slots other slot ≡ plane.slots other slot
others_left plane worker other number (Send at peer entry) apart slot = refl
others_left plane worker other number (Receive at version) apart slot =
    at_slots worker other (put_at at (sent_to plane.frames worker number) (plane.slots worker)) plane slot false (turned worker.0 other.0 false apart)
others_left plane worker other number (Create at iota first) apart slot =
    at_slots worker other (left_by (Create at iota first) (plane.slots worker)) plane slot false (turned worker.0 other.0 false apart)
others_left plane worker other number (Load at version value) apart slot =
    at_slots worker other (left_by (Load at version value) (plane.slots worker)) plane slot false (turned worker.0 other.0 false apart)
others_left plane worker other number (Copy from to) apart slot =
    at_slots worker other (left_by (Copy from to) (plane.slots worker)) plane slot false (turned worker.0 other.0 false apart)
others_left plane worker other number (Run position func params reads writes) apart slot =
    at_slots worker other (left_by (Run position func params reads writes) (plane.slots worker)) plane slot false (turned worker.0 other.0 false apart)
others_left plane worker other number (Fetch at ticket) apart slot =
    at_slots worker other (left_by (Fetch at ticket) (plane.slots worker)) plane slot false (turned worker.0 other.0 false apart)

-- what is found is legal
found_kind : (job : Job) (plane : Plane) (worker : Worker) (number : ℕ) (kind : Kind) → IsFound job plane worker number kind
    → IsLegalKind job (plane.slots worker) kind
found_kind job plane worker number (Receive at version) found = found.0
found_kind job plane worker number (Send at peer entry) found = found
found_kind job plane worker number (Create at iota first) found = found
found_kind job plane worker number (Load at version value) found = found
found_kind job plane worker number (Copy from to) found = found
found_kind job plane worker number (Run position func params reads writes) found = found
found_kind job plane worker number (Fetch at ticket) found = found

-- Commands of all workers that find what they need are legal, worker by worker, behind commands that leave what is there.
found_legal : (job : Job) (plane : Plane) (cs : List (Worker × Command)) → AreFound job plane cs → (worker : Worker) (past : List Command)
    → ((slot : Slot) → plane.slots worker slot ≡ holds past (length past) slot) → AreLegal job past (commands_for worker cs)
found_legal job plane [] found worker past held = tt
found_legal job plane (c ∷ cs) found worker past held =
    either (c.0.0 == worker.0) refl (λ more goes. found_legal job (step_of c.0 c.1.id c.1.kind plane) cs found.1 worker more goes) where
      next : Plane
      next = step_of c.0 c.1.id c.1.kind plane

      others : List (Worker × Command)
      others = filter (λ (d : Worker × Command). d.0.0 == worker.0) cs

      only : List (Worker × Command) → List Command
      only ds = map (λ (d : Worker × Command). d.1) ds

      either : (b : Bool) → (c.0.0 == worker.0) ≡ b
          → ((more : List Command) → ((slot : Slot) → next.slots worker slot ≡ holds more (length more) slot) → AreLegal job more (commands_for worker cs))
          → AreLegal job past (only (if b then c ∷ others else others))
      either true same goes_on = (
        subst (λ (h : Slot → Content). IsLegalKind job h c.1.kind) (fun_ext here) (found_kind job plane c.0 c.1.id c.1.kind found.0),
        goes_on (past ++ c.1 ∷ []) (λ slot.
            ap (λ (n : ℕ). next.slots (record { 0 = n }) slot) (sym (eqb-true c.0.0 worker.0 same))
            ∙ own_left job plane c.0 c.1.id c.1.kind found.0 slot
            ∙ ap (λ (h : Slot → Content). left_by c.1.kind h slot) (fun_ext here)
            ∙ sym (holds_last past c.1 slot)),
      ) where
        here : (slot : Slot) → plane.slots c.0 slot ≡ holds past (length past) slot
        here slot = ap (λ (n : ℕ). plane.slots (record { 0 = n }) slot) (eqb-true c.0.0 worker.0 same) ∙ held slot
      either false apart goes_on = goes_on past (λ slot. others_left plane c.0 worker c.1.id c.1.kind apart slot ∙ held slot)

-- ---- what the job reads at first

-- the latest version of each object is the one that the job reads
pub all_latest : (job : Job) (base : ℕ) (versions : Versions) → is_whole job ≡ true → IsAt job base versions → length versions.latest ≡ versions.objects
    → (object : Object) → latest_of versions object ≡ read_version job base object
all_latest job base versions whole at long object = either (cases_lt object.0 versions.objects) where
  none : (n : ℕ) → (0 < n → ⊥) → n ≡ 0
  none zero not = refl
  none (suc n) not = absurd (not (omega arith))

  either : (object.0 < versions.objects) ⊎ (versions.objects ≤ object.0) → latest_of versions object ≡ read_version job base object
  either (inl below) = at.latest object below
  either (inr past) =
      get_or_past versions.latest object.0 0 (omega (arith, long, past))
      ∙ sym (none (read_version job base object)
      (λ some. (let inside = written_there job base object whole some in let columns = at.objects in omega (arith, inside, columns, past))))

-- what is current is there
current_slots : (job : Job) (base objects : ℕ) (given : List (Worker × Command)) (versions : Versions) → MapStands given versions → versions.objects ≤ 512
    → ((object : Object) → latest_of versions object ≡ read_version job base object) → (needs : List (Worker × Object)) → are_current versions needs ≡ true
    → AllByRecursion (λ (one : Worker × Object). holds (commands_for one.0 given) (length (commands_for one.0 given)) (main_slot one.1)
    ≡ Some (one.1, read_version job base one.1)) needs
current_slots job base objects given versions stands few latest [] current = tt
current_slots job base objects given versions stands few latest (need ∷ needs) current =
    let each = both_true (is_current versions need.1 need.0) (are_current versions needs) current in
    let held : held_at versions need.0 (main_slot need.1) ≡ Some (latest_of versions need.1) =
    current_held (latest_of versions need.1) (held_at versions need.0 (main_slot need.1)) each.0 in
    let kept = some_kept versions need.0 (main_slot need.1) (latest_of versions need.1) held in
    let bounds = kept_bounds versions need.0 (main_slot need.1) kept in
    let column = bounds.1 in (
      stands.held need.0 (main_slot need.1) kept
          ∙ ap (option_map (λ (version : ℕ). (object_of (main_slot need.1), version))) held
          ∙ ap₂ (λ (o : Object) (v : ℕ). Some (o, v)) (main_of need.1 (omega (arith, column, few))) (latest need.1),
      current_slots job base objects given versions stands few latest needs each.1,
    )

-- ---- a template that was built

pub was_legal : (place : Placement) (objects : ℕ) (live : List Bool) (recorded : ControllerTemplate) (template : WorkerTemplate)
    → WasBuilt place objects live recorded template → list_any (λ (flag : Bool). flag) live ≡ true → length live ≤ 16 → objects ≤ 512
    → length recorded.forms ≤ 1024 → list_all (is_fit objects) recorded.forms ≡ true → InstancesAreLegal (length live) objects template
was_legal place objects live recorded template was some workers_few objects_few few fit job base args given versions stands before now at tasks worker =
    legal_same job (commands_for worker given) (commands_for worker (by_rank base commands)) (commands_for worker (instance_of template base args versions))
    (ranked.same worker ∙ ap (λ (named : Object → ℕ). map without_before (commands_for worker (commands_from named base args 0 template.halves)))
    (sym (fun_ext latest)))
    (found_legal job (first_plane slots) (by_rank base commands) ranked.does.found worker (commands_for worker given) (λ slot. refl)) where
      latest : (object : Object) → latest_of versions object ≡ read_version job base object
      latest = all_latest job base versions tasks.whole at before.all

      commands : List (Worker × Command)
      commands = commands_from (read_version job base) base args 0 template.halves

      slots : Worker → Slot → Content
      slots w slot = holds (commands_for w given) (length (commands_for w given)) slot

      ranked : IsRanked template job base args slots
      ranked =
          was_ranked place objects live recorded template was some workers_few objects_few few fit job base args slots (record {
            whole = tasks.whole;
            tasks = tasks.tasks;
            held =
                All-from_recursion (λ (one : Worker × Object). slots one.0 (main_slot one.1) ≡ Some (one.1, read_version job base one.1))
                template.preconditions
                (current_slots job base objects given versions stands (omega (arith, before.columns, objects_few)) latest template.preconditions now);
          })
