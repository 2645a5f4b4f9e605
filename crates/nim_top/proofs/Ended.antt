-- How a command ends, from how its parts end.
use Rattle.std.proofs.Common.{◌≡◌, ℕ, true, Option, None, List, refl, sym, ap, subst, ◌∙◌}
use Rattle.std.specs.Prelude.{Err}
use Rattle.std.specs.Io.KnownBytes.{Appends}
use Rattle.std.proofs.KnownBytes.{Appends-nil}
use Rattle.nim_io.specs.Sink.{AppendsFront}
use Rattle.nim_job.specs.Serial.{Ending}
use Rattle.clap.specs.Words.{Text}
use Rattle.nim_top.specs.Answer.{Comes, Ends, does_run, command_ending, outside_with}
use Rattle.nim_top.specs.Parts.{Finishes, TellsInputFault, PrintsBytes, ReadsPlan}
use Rattle.nim_top.specs.Texts.{OfTexts, Texts, files_refusal}
use Rattle.nim_top.specs.Words.{is_accepted}
use Rattle.nim_top.specs.declared.fault.InputFault.{InputFault}
use Rattle.nim_top.specs.declared.fault.InputFault.TheVariants.{At}
use Rattle.nim_top.specs.declared.status.Outcome.{Outcome}
use Rattle.nim_top.specs.declared.status.Outcome.TheVariants.{Done, Refused, Memory, Limit, Stalled, Write}
use Rattle.nim_top.specs.declared.verb.Verb.{Verb}
use Rattle.nim_top.proofs.NamedFiles.{Told, texts_more}

-- the files are refused
pub ends_refused : (verb : Verb) (words : List Text) (told told2 : Told) (faults faults2 : ℕ) (written : Option (List ℕ)) (write_faults : ℕ)
    (fault : InputFault) (outcome : Outcome) → is_accepted verb words ≡ true → faults2 ≡ faults
    → OfTexts told verb words (λ t. ReadsPlan t (Err fault)) → TellsInputFault fault outcome
    → Ends verb words (outside_with told faults written write_faults) (outside_with told2 faults2 written write_faults) outcome
ends_refused verb words told told2 faults faults2 written write_faults (At file refusal) (Refused text) accepted same refused is =
    (accepted, (record { file = file; refusal = refusal }, is, refused), (same, refl), Appends-nil written)
ends_refused verb words told told2 faults faults2 written write_faults fault Memory accepted same refused is = ((same, refl), Appends-nil written)
ends_refused verb words told told2 faults faults2 written write_faults fault outcome accepted same refused is = absurd is

-- files that aren't refused, for which a command ends so
abbrev pub EndsAs : Verb → Ending → Texts → Type 0
EndsAs verb ending t = (files_refusal t ≡ None) × (command_ending verb t ≡ ending)

-- the status of files is that of their ending
comes_as : (verb : Verb) (ending : Ending) (status : ℕ) (t : Texts) → ending.status ≡ status → EndsAs verb ending t → Comes verb status t
comes_as verb ending status t is h = (h.0, ap (λ (e : Ending). e.status) h.1 ∙ is)

-- their bytes were written, or the front of them
all_written : (verb : Verb) (words : List Text) (told : Told) (ending : Ending) (old new : Option (List ℕ)) → ending.status ≡ 0
    → Appends old new ending.bytes → OfTexts told verb words (EndsAs verb ending)
    → OfTexts told verb words (λ t. Comes verb 0 t × Appends old new (command_ending verb t).bytes)
all_written verb words told ending old new is appends =
    texts_more told verb words (EndsAs verb ending) (λ t. Comes verb 0 t × Appends old new (command_ending verb t).bytes)
    (λ t h. (comes_as verb ending 0 t is h, subst (λ (e : Ending). Appends old new e.bytes) (sym h.1) appends))

front_written : (verb : Verb) (words : List Text) (told : Told) (ending : Ending) (old new : Option (List ℕ)) → ending.status ≡ 0
    → AppendsFront old new ending.bytes → OfTexts told verb words (EndsAs verb ending)
    → OfTexts told verb words (λ t. Comes verb 0 t × AppendsFront old new (command_ending verb t).bytes)
front_written verb words told ending old new is appends =
    texts_more told verb words (EndsAs verb ending) (λ t. Comes verb 0 t × AppendsFront old new (command_ending verb t).bytes)
    (λ t h. (comes_as verb ending 0 t is h, subst (λ (e : Ending). AppendsFront old new e.bytes) (sym h.1) appends))

-- the bytes of a command were written
pub ends_printed : (verb : Verb) (words : List Text) (told told2 : Told) (faults faults2 : ℕ) (written written2 : Option (List ℕ))
    (write_faults write_faults2 : ℕ) (bytes : List ℕ) (outcome : Outcome) → is_accepted verb words ≡ true → faults2 ≡ faults
    → OfTexts told verb words (EndsAs verb (record { status = 0; bytes = bytes }))
    → PrintsBytes bytes written written2 write_faults write_faults2 outcome
    → Ends verb words (outside_with told faults written write_faults) (outside_with told2 faults2 written2 write_faults2) outcome
ends_printed verb words told told2 faults faults2 written written2 write_faults write_faults2 bytes Done accepted same means prints =
    (accepted, all_written verb words told (record { status = 0; bytes = bytes }) written written2 refl prints.0 means, (same, prints.1))
ends_printed verb words told told2 faults faults2 written written2 write_faults write_faults2 bytes Write accepted same means prints =
    (accepted, front_written verb words told (record { status = 0; bytes = bytes }) written written2 refl prints.0 means, same, prints.1)
ends_printed verb words told told2 faults faults2 written written2 write_faults write_faults2 bytes outcome accepted same means prints = absurd prints

-- the job was run
pub ends_finished : (verb : Verb) (words : List Text) (told told2 : Told) (faults faults2 : ℕ) (written written2 : Option (List ℕ))
    (write_faults write_faults2 : ℕ) (ending : Ending) (outcome : Outcome) → does_run verb ≡ true → is_accepted verb words ≡ true → faults2 ≡ faults
    → OfTexts told verb words (EndsAs verb ending)
    → Finishes ending written written2 write_faults write_faults2 outcome
    → Ends verb words (outside_with told faults written write_faults) (outside_with told2 faults2 written2 write_faults2) outcome
ends_finished verb words told told2 faults faults2 written written2 write_faults write_faults2 ending Done runs accepted same means ends =
    (accepted, all_written verb words told ending written written2 ends.0 ends.1 means, (same, ends.2))
ends_finished verb words told told2 faults faults2 written written2 write_faults write_faults2 ending Write runs accepted same means ends =
    (accepted, front_written verb words told ending written written2 ends.0 ends.1 means, same, ends.2)
ends_finished verb words told told2 faults faults2 written written2 write_faults write_faults2 ending Limit runs accepted same means ends = (
  accepted,
  texts_more told verb words (EndsAs verb ending) (Comes verb 4) (λ t h. comes_as verb ending 4 t ends.0 h) means,
  (same, ends.2),
  ends.1,
)
ends_finished verb words told told2 faults faults2 written written2 write_faults write_faults2 ending Stalled runs accepted same means ends =
    (accepted, runs, texts_more told verb words (EndsAs verb ending) (λ t. files_refusal t ≡ None) (λ t h. h.0) means, (same, ends.1), ends.0)
ends_finished verb words told told2 faults faults2 written written2 write_faults write_faults2 ending Memory runs accepted same means ends =
    ((same, ends.1), ends.0)
ends_finished verb words told told2 faults faults2 written written2 write_faults write_faults2 ending outcome runs accepted same means ends = absurd ends
