-- What holds of the files that words name, from what holds of each.
use Rattle.std.proofs.Common.{ℕ, Option, None, Some, List}
use Rattle.std.specs.Prelude.{IsSomeAnd}
use Rattle.clap.specs.Words.{Text}
use Rattle.nim_top.specs.Texts.{OfFile, OfTexts, Texts, bytes_in, texts}
use Rattle.nim_top.specs.Words.{data_given, driver_name, schedule_given}
use Rattle.nim_top.specs.declared.verb.Verb.{Verb}

abbrev pub Told : Type 0
Told = Option (List (List ℕ × List ℕ))

-- what follows of the bytes of a file holds of the file
pub file_more : (told : Told) (name : Option Text) (P Q : List ℕ → Type 0) → ((bytes : List ℕ) → P bytes → Q bytes) → OfFile told name P → OfFile told name Q
file_more None name P Q more tells = tt
file_more (Some files) name P Q more tells = found (bytes_in name files) P Q more tells where
  found : (entry : Option (List ℕ)) (P Q : List ℕ → Type 0) → ((bytes : List ℕ) → P bytes → Q bytes) → IsSomeAnd entry P → IsSomeAnd entry Q
  found None P Q more tells = tells
  found (Some bytes) P Q more tells = more bytes tells

-- what follows of the bytes of all three files holds of the files
pub texts_more : (told : Told) (verb : Verb) (words : List Text) (P Q : Texts → Type 0) → ((t : Texts) → P t → Q t) → OfTexts told verb words P
    → OfTexts told verb words Q
texts_more told verb words P Q more =
    file_more told (Some (driver_name verb words)) _ _
    (λ driver. file_more told (data_given verb words) _ _
    (λ data_file. file_more told (schedule_given verb words)
    (λ schedule. P (texts driver data_file schedule)) (λ schedule. Q (texts driver data_file schedule))
    (λ schedule. more (texts driver data_file schedule))))
