-- What a command may do is a matter of the slots that it reads.
use Rattle.std.proofs.Common.{◌≡◌, true, false, List, [], ◌∷◌, map, refl, ap₂, sym, ◌∙◌}
use Rattle.std.specs.Prelude.{◌==◌, slice_get}
use Rattle.std.proofs.lemmas.Bool.{eq-eqb, or_left, or_right}
use Rattle.nim_base.specs.declared.number.Slot.{Slot}
use Rattle.nim_command.specs.declared.command.Kind.{Kind}
use Rattle.nim_command.specs.declared.command.Kind.TheVariants.{Create, Load, Send, Receive, Copy, Run, Fetch}
use Rattle.nim_command.specs.Holds.{Content}
use Rattle.nim_command.specs.Slots.{does_read, is_among}
use Rattle.nim_job.specs.declared.job.Job.{Job}
use Rattle.nim_job.specs.Serial.{tasks_of}
use Rattle.nim_plan.specs.Legal.{IsLegalKind, IsRunOf}
use Rattle.nim_history.proofs.TrueRuns.{some_then}

same_of : (first second : Slot → Content) (slots : List Slot) → ((s : Slot) → is_among slots s ≡ true → first s ≡ second s) → map first slots ≡ map second slots
same_of first second [] same = refl
same_of first second (slot ∷ slots) same =
    ap₂ (λ (c : Content) (rest : List Content). c ∷ rest) (same slot (or_left (slot.0 == slot.0) (is_among slots slot) (eq-eqb slot.0 slot.0 refl)))
    (same_of first second slots (λ s among. same s (or_right (slot.0 == s.0) (is_among slots s) among)))

of_itself : (slot : Slot) → is_among (slot ∷ []) slot ≡ true
of_itself slot = or_left (slot.0 == slot.0) false (eq-eqb slot.0 slot.0 refl)

-- a command that may be given where slots hold something may be given where those that it reads hold the same
pub legal_found : (job : Job) (kind : Kind) (first second : Slot → Content) → ((s : Slot) → does_read kind s ≡ true → first s ≡ second s)
    → IsLegalKind job first kind → IsLegalKind job second kind
legal_found job (Create slot iota number) first second same legal = legal
legal_found job (Load slot version value) first second same legal = legal
legal_found job (Receive slot version) first second same legal = legal
legal_found job (Send slot peer entry) first second same legal = λ none. legal (same slot (of_itself slot) ∙ none)
legal_found job (Copy from to) first second same legal = λ none. legal (same from (of_itself from) ∙ none)
legal_found job (Fetch slot ticket) first second same legal = λ none. legal (same slot (of_itself slot) ∙ none)
legal_found job (Run position func params reads writes) first second same legal =
    some_then (IsRunOf job second position func params reads writes) (slice_get (tasks_of job) position) legal
    (λ task there run. record { func = run.func; params = run.params; reads = sym (same_of first second reads same) ∙ run.reads; writes = run.writes })
