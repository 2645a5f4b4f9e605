-- What files in memory tell, and where they fail.
use Rattle.std.specs.Prelude.{◌≡◌, ℕ, ◌==◌, List, [], ◌∷◌, map, if◌then◌else◌, String, Vec, string_bytes, Contains, None, ◌⊎◌}
use Rattle.std.specs.declared.alloc.Global.{Global}
use Rattle.nim_io.specs.Files.{content}
use Rattle.nim_io.specs.declared.mem_files.FileFail.{FileFail}
use Rattle.nim_io.specs.declared.mem_files.FileFail.TheVariants.{Open, Read}
use Rattle.nim_io.specs.declared.mem_files.MemFiles.{MemFiles}

-- each name with its bytes
abbrev pub entries : List (String Global × Vec ℕ Global) → List (List ℕ × List ℕ)
entries files = map (λ file. (string_bytes file.0, file.1.items)) files

-- where the files were made to fail
abbrev pub fails_of : MemFiles → List FileFail
fails_of files = files.fails.items

-- how many opens there were, and so the number of the next one
abbrev pub opens_of : MemFiles → ℕ
opens_of files = files.opens

-- how many of them opened a source, and so the number of the next source
abbrev pub opened_of : MemFiles → ℕ
opened_of files = files.opened

-- the reads that are to fail of the source of this number
abbrev pub reads_named : List FileFail → ℕ → List ℕ
reads_named [] number = []
reads_named (Open call ∷ fails) number = reads_named fails number
reads_named (Read opened read ∷ fails) number =
    if opened == number then read ∷ reads_named fails number else reads_named fails number

-- the open that comes next is to fail, or there is no file of this name
abbrev pub FailsToOpen : MemFiles → List ℕ → Type 0
FailsToOpen files name =
    Contains (fails_of files) (Open (opens_of files)) ⊎ (content name (entries files.files.items) ≡ None)
