-- What orders so far come to, and one command more that stands alone.
use Rattle.std.proofs.Common.{◌≡◌, ℕ, ◌<◌, Bool, true, false, List, [], ◌∷◌, ◌++◌, length, map, refl, ap, sym, subst}
use Rattle.std.specs.Prelude.{◌==◌, if◌then◌else◌, All}
use Rattle.std.proofs.lemmas.Bool.{eqb-true, false≢true}
use Rattle.std.proofs.lemmas.List.{append-nil, append_assoc}
use Rattle.std.proofs.lemmas.List.Elements.{All-cons, All-nil, All-weaker}
use Rattle.nim_base.specs.declared.number.Worker.{Worker}
use Rattle.nim_command.specs.declared.command.Command.{Command}
use Rattle.nim_command.specs.Before.{IsByRule}
use Rattle.nim_command.specs.Covered.{is_covered}
use Rattle.nim_command.specs.Holds.{holds}
use Rattle.nim_command.specs.Waits.{placed_commands}
use Rattle.nim_message.specs.declared.order.ToWorker.{ToWorker}
use Rattle.nim_message.specs.declared.order.ToWorker.TheVariants.{Single}
use Rattle.nim_message.specs.Orders.{session_of}
use Rattle.nim_order.specs.Orders.{IsOrderByRule}
use Rattle.nim_job.specs.declared.job.Job.{Job}
use Rattle.nim_job.specs.Objects.{objects_of}
use Rattle.nim_job.specs.Tasks.{block_forms_of}
use Rattle.nim_plan.specs.Legal.{AreLegal, IsLegal, IsLegalKind}
use Rattle.nim_plan.specs.Paired.{ArePaired, Key, keys_received, keys_sent}
use Rattle.nim_place.specs.declared.placement.Placement.{Placement}
use Rattle.nim_place.specs.Extends.{AskFor, HaveNone, LongerIsCovered, LongerIsLegal, is_live, live_lists, longer, single_with, singles_of, worker_of}
use Rattle.nim_place.specs.Orders.{AreExtended, has_no_key}
use Rattle.nim_place.specs.Stands.{AreByRule, commands_for, is_aside}
use Rattle.nim_place.specs.TaskOrders.{AreSoFar}
use Rattle.nim_place.specs.Versions.{Versions, after_kind}
use Rattle.nim_place.proofs.Begins.{singles_extend}
use Rattle.nim_place.proofs.History.{stands_more}
use Rattle.nim_place.specs.Directed.{Directed, by_number}
use Rattle.nim_reuse.specs.Decisions.{Decisions}
use Rattle.nim_reuse.specs.GoesOn.{AreDecided, IsSingle}
use Rattle.nim_course.specs.Leads.{AreLeading, AreRight}
use Rattle.nim_course.specs.OrdersGiven.{no_instance, single_for}
use Rattle.nim_reuse.proofs.Stands.{decisions_stand}
use Rattle.nim_course.proofs.Lists.{more_alone}

-- the orders so far are right, ask for what the map stands for, and have no key of those to come
pub record ComeTo (job : Job) (live : List Bool) (epoch : ℕ) (to_come : Key → Bool) (given : List Directed)
    (commands : List (Worker × Command)) (versions : Versions) : Type 0 where
  pub right : AreRight job live given
  pub so_far : AreSoFar live epoch (by_number given) commands versions
  pub fresh : HaveNone to_come live (by_number given)

-- orders stay right where they get longer
pub right_more : (job : Job) (live : List Bool) (given next : List Directed) (more : ℕ → List ToWorker) → AreRight job live given
    → by_number next ≡ longer (by_number given) more → LongerIsLegal job live (by_number given) more → LongerIsCovered (by_number given) more
    → ArePaired (live_lists live (longer (by_number given) more)) → AreRight job live next
right_more job live given next more right same legal covered paired = record {
  legal = λ worker there.
      subst (λ (lists : ℕ → List ToWorker). IsLegal job (lists worker.0)) (sym same) (legal worker there (right.legal worker there));
  rule = λ worker there. all worker there;
  covered = λ worker there.
      subst (λ (lists : ℕ → List ToWorker). is_covered (placed_commands (session_of (lists worker.0)).groups) ≡ true) (sym same)
      (covered worker (right.rule worker there)).covered;
  paired = subst (λ (lists : ℕ → List ToWorker). ArePaired (live_lists live lists)) (sym same) paired;
} where
  all : (worker : Worker) → is_live live worker ≡ true → All IsOrderByRule (by_number next worker.0)
  all worker there =
      subst (λ (lists : ℕ → List ToWorker). All IsOrderByRule (lists worker.0)) (sym same) (covered worker (right.rule worker there)).by_rule

-- fewer keys are to come
pub none_weaker : (live : List Bool) (lists : ℕ → List ToWorker) (first second : Key → Bool)
    → ((key : Key) → first key ≡ false → second key ≡ false) → HaveNone first live lists → HaveNone second live lists
none_weaker live lists first second weaker none = record {
  sent = λ worker to there.
      All-weaker (λ (key : Key). first key ≡ false) (λ (key : Key). second key ≡ false) weaker (keys_sent to (lists worker.0)) (none.sent worker to there);
  received = λ worker there.
      All-weaker (λ (key : Key). first key ≡ false) (λ (key : Key). second key ≡ false) weaker (keys_received (lists worker.0)) (none.received worker there);
}

-- ---- one command alone

-- a live worker's command that waits for none, needs no other worker and is legal
pub record MayBeAlone (job : Job) (live : List Bool) (commands : List (Worker × Command)) (versions : Versions) (c : Worker × Command) : Type 0 where
  pub lives : is_live live c.0 ≡ true
  pub below : c.0.0 < versions.workers
  pub legal : IsLegalKind job (holds (commands_for c.0 commands) (length (commands_for c.0 commands))) c.1.kind
  pub before : c.1.before ≡ []
  pub keyless : has_no_key c.1.kind ≡ true
  pub aside : is_aside versions c.1.kind ≡ true

alone_legal : (job : Job) (commands : List (Worker × Command)) (c : Worker × Command)
    → IsLegalKind job (holds (commands_for c.0 commands) (length (commands_for c.0 commands))) c.1.kind → (worker : Worker)
    → AreLegal job (commands_for worker commands) (commands_for worker (c ∷ []))
alone_legal job commands c legal worker = either (c.0.0 == worker.0) refl where
  either : (b : Bool) → (c.0.0 == worker.0) ≡ b
      → AreLegal job (commands_for worker commands) (map (λ (d : Worker × Command). d.1) (if b then c ∷ [] else []))
  either true same = (
    subst (λ (n : ℕ). IsLegalKind job (holds (commands_for (record { 0 = n }) commands) (length (commands_for (record { 0 = n }) commands))) c.1.kind)
        (eqb-true c.0.0 worker.0 same) legal,
    tt,
  )
  either false other = tt

alone_ruled : (c : Worker × Command) → c.1.before ≡ [] → AreByRule (c ∷ [])
alone_ruled c before worker = either (c.0.0 == worker.0) where
  either : (b : Bool) → IsByRule (map (λ (d : Worker × Command). d.1) (if b then c ∷ [] else []))
  either true = ap (λ (numbers : List ℕ). numbers ∷ []) before
  either false = refl

pub alone_comes : (job : Job) (live : List Bool) (epoch : ℕ) (to_come : Key → Bool) (given : List Directed) (commands : List (Worker × Command))
    (versions : Versions) (c : Worker × Command)
    → ComeTo job live epoch to_come given commands versions → MayBeAlone job live commands versions c
    → ComeTo job live epoch to_come (given ++ single_for epoch c ∷ []) (commands ++ c ∷ []) (after_kind c.0 versions c.1.kind)
alone_comes job live epoch to_come given commands versions c come may =
    let more : ℕ → List ToWorker = singles_of epoch no_instance (c ∷ []) in
    let same : by_number (given ++ single_for epoch c ∷ []) ≡ longer (by_number given) more = more_alone given epoch c in
    let extended : AreExtended live epoch no_instance (by_number given) commands (c ∷ []) =
    singles_extend live epoch no_instance (by_number given) commands (c ∷ []) come.so_far.ask
    (All-cons (λ (d : Worker × Command). is_live live d.0 ≡ true) c [] may.lives (All-nil (λ (d : Worker × Command). is_live live d.0 ≡ true))) in
    let longer_paired = extended.paired
    (All-cons (λ (d : Worker × Command). has_no_key d.1.kind ≡ true) c [] may.keyless (All-nil (λ (d : Worker × Command). has_no_key d.1.kind ≡ true))) in
    record {
      right = right_more job live given (given ++ single_for epoch c ∷ []) more come.right same
          (extended.legal job (λ worker there. alone_legal job commands c may.legal worker)) (extended.covered (alone_ruled c may.before))
          (longer_paired.paired come.right.paired (none_weaker live (by_number given) to_come (λ (key : Key). false) (λ key none. refl) come.fresh));
      so_far = record {
        stands = stands_more commands versions c.0 c.1 come.so_far.stands may.below may.aside;
        ask = subst (λ (lists : ℕ → List ToWorker). AskFor live epoch lists (commands ++ c ∷ [])) (sym same) extended.asked;
      };
      fresh = subst (HaveNone to_come live) (sym same) (longer_paired.others to_come (λ key is. absurd (false≢true is)) come.fresh);
    }

-- ---- decisions

-- the orders of Singles are Singles
single_is : (epoch instance : ℕ) (commands : List Command) → All IsSingle (single_with epoch instance commands)
single_is epoch instance [] = All-nil IsSingle
single_is epoch instance (c ∷ cs) = All-cons IsSingle (Single epoch instance (c ∷ cs)) [] tt (All-nil IsSingle)

-- decisions stand where Singles are given
pub decided_more : (job : Job) (place : Placement) (live : List Bool) (epoch instance : ℕ) (given next : List Directed)
    (commands : List (Worker × Command)) (decisions : Decisions)
    → by_number next ≡ longer (by_number given) (singles_of epoch instance commands)
    → AreDecided place live (objects_of job.vars) (block_forms_of job) (by_number given) decisions
    → AreDecided place live (objects_of job.vars) (block_forms_of job) (by_number next) decisions
decided_more job place live epoch instance given next commands decisions same decided =
    subst (λ (lists : ℕ → List ToWorker). AreDecided place live (objects_of job.vars) (block_forms_of job) lists decisions) (sym same)
    (decisions_stand.singles place live (objects_of job.vars) (block_forms_of job) (by_number given) (singles_of epoch instance commands) decisions decided
    (λ number. single_is epoch instance (commands_for (worker_of number) commands)))

-- and where commands are given one by one
pub decided_alone : (job : Job) (place : Placement) (live : List Bool) (epoch : ℕ) (given : List Directed) (commands : List (Worker × Command))
    (decisions : Decisions)
    → AreDecided place live (objects_of job.vars) (block_forms_of job) (by_number given) decisions
    → AreDecided place live (objects_of job.vars) (block_forms_of job) (by_number (given ++ map (single_for epoch) commands)) decisions
decided_alone job place live epoch given [] decisions decided =
    subst (λ (ds : List Directed). AreDecided place live (objects_of job.vars) (block_forms_of job) (by_number ds) decisions) (sym (append-nil given)) decided
decided_alone job place live epoch given (c ∷ cs) decisions decided =
    let one : List Directed = given ++ single_for epoch c ∷ [] in
    subst (λ (ds : List Directed). AreDecided place live (objects_of job.vars) (block_forms_of job) (by_number ds) decisions)
    (append_assoc given (single_for epoch c ∷ []) (map (single_for epoch) cs))
    (decided_alone job place live epoch one cs decisions
    (decided_more job place live epoch no_instance given one (c ∷ []) decisions (more_alone given epoch c) decided))

-- ---- both together

-- the orders so far are right, and lead to a position
pub record AreLed (job : Job) (place : Placement) (live : List Bool) (epoch position : ℕ) (to_come : Key → Bool) (given : List Directed)
    (versions : Versions) (decisions : Decisions) : Type 0 where
  pub right : AreRight job live given
  pub leading : AreLeading job place live epoch position to_come given versions decisions
