-- The orders of an instance that carry the edits that weren't sent yet, and what they keep true of all orders so far.
use Rattle.std.specs.Prelude.{◌≡◌, ℕ, ◌+◌, ◌^◌, ◌<◌, ◌==◌, Bool, true, ℤ, List, [], ◌∷◌, length, map, slice_index_or}
use Rattle.std.specs.List.{filter, flat_map, fold}
use Rattle.nim_base.specs.declared.number.Object.{Object}
use Rattle.nim_base.specs.declared.number.Worker.{Worker}
use Rattle.nim_command.specs.declared.command.Command.{Command}
use Rattle.nim_command.specs.declared.edit.Edit.{Edit}
use Rattle.nim_command.specs.declared.entry.Entry.{Entry}
use Rattle.nim_command.specs.declared.template.WorkerTemplate.{WorkerTemplate}
use Rattle.nim_message.specs.declared.order.ToWorker.{ToWorker}
use Rattle.nim_message.specs.declared.order.ToWorker.TheVariants.{Instantiate}
use Rattle.nim_message.specs.Orders.{session_of}
use Rattle.nim_place.specs.Extends.{is_live, longer}
use Rattle.nim_place.specs.Sound.{version_named}
use Rattle.nim_place.specs.TaskOrders.{AreSoFar}
use Rattle.nim_place.specs.Versions.{Versions, latest_of}
use Rattle.nim_template.specs.Again.{IsBefore, are_current}
use Rattle.nim_template.specs.Given.{IsInstanceAsked}
use Rattle.nim_template.specs.Instance.{half_of}
use Rattle.nim_edit.specs.Moves.{with_edit}

-- ---- the orders

-- the edits of a worker, in order
abbrev pub edits_for : List (Worker × Edit) → ℕ → List Edit
edits_for edits number = map (λ (e : Worker × Edit). e.1) (filter (λ (e : Worker × Edit). e.0.0 == number) edits)

-- the order that carries edits, by the half that these make
abbrev pub carrying : ℕ → ℕ → ℕ → ℕ → List ℤ → (Object → ℕ) → List Edit → List Entry → List ToWorker
carrying epoch instance block base args before edits half =
    Instantiate epoch instance block base args (flat_map (λ (e : Entry). version_named before e.kind) half) edits ∷ []

-- none where there are neither edits nor entries
abbrev pub carried_with : ℕ → ℕ → ℕ → ℕ → List ℤ → (Object → ℕ) → List Edit → List Entry → List ToWorker
carried_with epoch instance block base args before [] [] = []
carried_with epoch instance block base args before [] (entry ∷ entries) =
    carrying epoch instance block base args before [] (entry ∷ entries)
carried_with epoch instance block base args before (edit ∷ edits) half =
    carrying epoch instance block base args before (edit ∷ edits) half

-- an instance of a template, whose orders carry its unsent edits
abbrev pub carried_of : ℕ → ℕ → WorkerTemplate → ℕ → List ℤ → Versions → ℕ → List ToWorker
carried_of epoch instance template base args versions =
    λ number. carried_with epoch instance template.block base args (latest_of versions)
    (edits_for template.unsent number) (half_of template number)

-- ---- what workers have

-- The halves were last sent like this: with the unsent edits they are those of the template, and each live worker still
-- has its half.
pub record AreAsSent (live : List Bool) (template : WorkerTemplate) (sent : List (List Entry))
    (lists : ℕ → List ToWorker) : Type 0 where
  pub edited : template.halves ≡ fold with_edit sent template.unsent
  pub there : (worker : Worker) → is_live live worker ≡ true
      → (session_of (lists worker.0)).halves template.block ≡ slice_index_or sent worker.0 []

-- ---- an instance

-- An instance may be asked for with edits: workers have the halves as they were last sent, and the preconditions hold
-- in the map that stands for the orders so far.
pub record MayCarry (live : List Bool) (objects : ℕ) (template : WorkerTemplate) (sent : List (List Entry))
    (epoch base : ℕ) (lists : ℕ → List ToWorker) (given : List (Worker × Command)) (versions : Versions) : Type 0 where
  pub so_far : AreSoFar live epoch lists given versions
  pub before : IsBefore (length live) objects base versions
  pub room : base + 1024 < 2 ^ 64
  pub current : are_current versions template.preconditions ≡ true
  pub as_sent : AreAsSent live template sent lists

-- Behind it no edit is left to be sent.
pub record IsCarried (live : List Bool) (objects : ℕ) (template : WorkerTemplate) (epoch instance base : ℕ)
    (args : List ℤ) (lists : ℕ → List ToWorker) (given : List (Worker × Command)) (versions : Versions) : Type 0 where
  pub extended : IsInstanceAsked live objects template epoch instance base args
      (carried_of epoch instance template base args versions) lists given versions
  pub as_sent : AreAsSent live (record template { unsent = [] }) template.halves
      (longer lists (carried_of epoch instance template base args versions))

-- So an instance that carries the unsent edits extends all orders so far.
abbrev pub CarriedExtend : List Bool → ℕ → WorkerTemplate → Type 0
CarriedExtend live objects template =
    (sent : List (List Entry)) (epoch instance base : ℕ) (args : List ℤ) (lists : ℕ → List ToWorker)
    (given : List (Worker × Command)) (versions : Versions)
    → MayCarry live objects template sent epoch base lists given versions
    → IsCarried live objects template epoch instance base args lists given versions
