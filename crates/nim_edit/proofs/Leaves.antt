-- The commands of an instance of a template leave what its effect says, also once tasks moved.
use Rattle.std.proofs.Common.{◌≡◌, ℕ, suc, ◌+◌, ◌≤◌, ◌<◌, Bool, true, false, List, [], ◌∷◌, ◌++◌, length, map, get_or, refl, ap, ap₂, sym, subst, ◌∙◌, arith}
use Rattle.std.proofs.Common.{Some}
use Rattle.std.specs.Prelude.{◌==◌, if◌then◌else◌, max, not, slice_index_or, slice_set, ℤ}
use Rattle.std.specs.List.{filter, flat_map, fold, list_all, list_any}
use Rattle.std.proofs.lemmas.Bool.{ne_eqb}
use Rattle.std.proofs.lemmas.List.{append_assoc, length-append}
use Rattle.std.proofs.lemmas.List.FromFn.{length-map-range_with_len}
use Rattle.std.proofs.lemmas.List.Sums.{fold-append}
use Rattle.nim_base.specs.declared.number.Object.{Object}
use Rattle.nim_base.specs.declared.number.Slot.{Slot}
use Rattle.nim_base.specs.declared.number.Worker.{Worker}
use Rattle.nim_command.specs.declared.command.Command.{Command}
use Rattle.nim_command.specs.declared.command.Kind.{Kind}
use Rattle.nim_command.specs.declared.entry.Entry.{Entry}
use Rattle.nim_command.specs.declared.entry.EntryKind.{EntryKind}
use Rattle.nim_command.specs.declared.template.WorkerTemplate.{WorkerTemplate}
use Rattle.nim_command.specs.Edits.{first_reads, forward_receive, forward_send, return_receives, return_sends, run_over, written_slots}
use Rattle.nim_command.specs.Expansion.{command_for, expanded, kind_for, version_at}
use Rattle.nim_command.specs.Holds.{version_after}
use Rattle.nim_command.specs.Numbers.{counted_from, entry_number, main_slot, offset_after, scratch_slot, task_of}
use Rattle.nim_command.specs.Slots.{object_of}
use Rattle.nim_place.specs.declared.placement.Placement.{Placement}
use Rattle.nim_place.specs.Sound.{commands_of_half, commands_from, version_named}
use Rattle.nim_place.specs.Versions.{Versions, after_commands, after_effect, after_kind, is_kept, latest_of, place_of, with_version}
use Rattle.nim_place.proofs.Puts.{kept_bounds}
use Rattle.nim_template.specs.declared.template.ControllerTemplate.{ControllerTemplate}
use Rattle.nim_template.specs.Again.{HoldAgain, are_current}
use Rattle.nim_template.specs.Built.{all_slots, half_for}
use Rattle.nim_template.specs.Fits.{is_fit}
use Rattle.nim_template.specs.Instance.{LeavesEffect}
use Rattle.nim_template.specs.Written.{HasEffect, item_for, item_of}
use Rattle.nim_template.proofs.Again.{built_again}
use Rattle.nim_template.proofs.Left.{built_left, entries_of}
use Rattle.nim_template.proofs.Sizes.{like_commands}
use Rattle.nim_template.proofs.Written.{built_effect}
use Rattle.nim_edit.specs.Form.{IsInForm, WasBuilt}
use Rattle.nim_edit.proofs.Between.{after_append, after_entries, stays_after}
use Rattle.nim_edit.proofs.Effects.{ends_alike, same_all}
use Rattle.nim_edit.proofs.Forms.{halves_long}
use Rattle.nim_edit.proofs.Puts.{FirstRead, task_is}
use Rattle.nim_edit.proofs.Stays.{LeavesAlike, half_after}

-- ---- the commands of a half

-- the version that an order names for an entry, if it needs one
abbrev pub named : (Object → ℕ) → EntryKind → ℕ
named before (EntryKind.Receive slot offset) = before (object_of slot)
named before _ = 0

-- the command of an entry
abbrev pub command_named : (Object → ℕ) → ℕ → List ℤ → Entry → Command
command_named before base args entry = command_for base args (named before entry.kind) entry

first_behind : (past rest : List ℕ) (version : ℕ) → slice_index_or (past ++ version ∷ rest) (length past) 0 ≡ version
first_behind [] rest version = refl
first_behind (x ∷ past) rest version = first_behind past rest version

-- each entry takes its own version, whatever was taken before
pub commands_named : (before : Object → ℕ) (base : ℕ) (args : List ℤ) (past : List ℕ) (half : List Entry)
    → expanded base args (past ++ flat_map (λ (e : Entry). version_named before e.kind) half) (length past) half
    ≡ map (command_named before base args) half
commands_named before base args past [] = refl
commands_named before base args past (entry ∷ half) =
    by_kind entry.id entry.kind entry.before (commands_named before base args past half)
    (λ version. commands_named before base args (past ++ version ∷ []) half) where
      rest : List ℕ
      rest = flat_map (λ (e : Entry). version_named before e.kind) half

      entry_with : ℕ → EntryKind → List ℕ → Entry
      entry_with id kind waits = record { id = id; kind = kind; before = waits }

      IsBehind : List ℕ → Type 0
      IsBehind taken = expanded base args (taken ++ rest) (length taken) half ≡ map (command_named before base args) half

      by_kind : (id : ℕ) (kind : EntryKind) (waits : List ℕ) → IsBehind past → ((version : ℕ) → IsBehind (past ++ version ∷ []))
          → expanded base args (past ++ flat_map (λ (e : Entry). version_named before e.kind) (entry_with id kind waits ∷ half)) (length past)
          (entry_with id kind waits ∷ half)
          ≡ command_named before base args (entry_with id kind waits) ∷ map (command_named before base args) half
      by_kind id (EntryKind.Send slot peer number) waits same more =
          ap (λ (cs : List Command). command_named before base args (entry_with id (EntryKind.Send slot peer number) waits) ∷ cs) same
      by_kind id (EntryKind.Copy from to) waits same more =
          ap (λ (cs : List Command). command_named before base args (entry_with id (EntryKind.Copy from to) waits) ∷ cs) same
      by_kind id (EntryKind.Run func params reads writes) waits same more =
          ap (λ (cs : List Command). command_named before base args (entry_with id (EntryKind.Run func params reads writes) waits) ∷ cs) same
      by_kind id (EntryKind.Receive slot offset) waits same more = chosen (offset == 0) where
        version : ℕ
        version = before (object_of slot)

        command : ℕ → Command
        command v = record { id = id; kind = Kind.Receive slot v; before = waits }

        chosen : (b : Bool)
            → command (if b then slice_index_or (past ++ ((if b then version ∷ [] else []) ++ rest)) (length past) 0 else counted_from base offset)
            ∷ expanded base args (past ++ ((if b then version ∷ [] else []) ++ rest)) (if b then length past + 1 else length past) half
            ≡ command (if b then version else counted_from base offset) ∷ map (command_named before base args) half
        chosen true =
            ap₂ (λ (v : ℕ) (cs : List Command). command v ∷ cs) (first_behind past rest version)
            (ap₂ (λ (vs : List ℕ) (n : ℕ). expanded base args vs n half) (sym (append_assoc past (version ∷ []) rest)) (sym (length-append past (version ∷ [])))
            ∙ more version)
        chosen false = ap (λ (cs : List Command). command (counted_from base offset) ∷ cs) same

-- ---- what they leave in a map of versions

-- what an entry of a worker leaves
abbrev pub map_after : (Object → ℕ) → ℕ → List ℤ → Worker → Versions → ℕ → EntryKind → Versions
map_after before base args worker versions number kind = after_kind worker versions (kind_for base args (named before kind) number kind)

placed_after : (before : Object → ℕ) (base : ℕ) (args : List ℤ) (worker : Worker) (versions : Versions) (half : List Entry)
    → after_commands versions (map (λ (c : Command). (worker, c)) (map (command_named before base args) half))
    ≡ after_entries (map_after before base args worker) versions half
placed_after before base args worker versions [] = refl
placed_after before base args worker versions (entry ∷ half) =
    placed_after before base args worker (map_after before base args worker versions entry.id entry.kind) half

pub half_leaves : (before : Object → ℕ) (base : ℕ) (args : List ℤ) (worker : Worker) (versions : Versions) (half : List Entry)
    → after_commands versions (commands_of_half before base args worker half) ≡ after_entries (map_after before base args worker) versions half
half_leaves before base args worker versions half =
    ap (λ (cs : List Command). after_commands versions (map (λ (c : Command). (worker, c)) cs)) (commands_named before base args [] half)
    ∙ placed_after before base args worker versions half

-- so many objects have their main slots below the scratch slots
abbrev HasRoom : Versions → Type 0
HasRoom versions = versions.objects ≤ 512

kept_room : (before : Object → ℕ) (base : ℕ) (args : List ℤ) (worker : Worker) (versions : Versions) (number : ℕ) (kind : EntryKind) → HasRoom versions
    → HasRoom (map_after before base args worker versions number kind)
kept_room before base args worker versions number kind room =
    let command : Command = record { id = number; kind = kind_for base args (named before kind) number kind; before = [] } in
    let like = like_commands ((worker, command) ∷ []) versions in
    omega (arith, like.objects, room)

-- ---- what edits put

-- a scratch slot isn't in the map
aside : (worker : Worker) (version : ℕ) (versions : Versions) (object : Object) → HasRoom versions
    → with_version worker version versions (scratch_slot object) ≡ versions
aside worker version versions object room = either (is_kept versions worker (scratch_slot object)) refl where
  slot : Slot
  slot = scratch_slot object

  either : (b : Bool) → is_kept versions worker slot ≡ b
      → (if b
      then record versions {
        held = slice_set versions.held (place_of versions worker slot) (Some version);
        latest = slice_set versions.latest slot.0 (max (slice_index_or versions.latest slot.0 0) version);
      }
      else versions) ≡ versions
  either true kept = let bounds = kept_bounds versions worker slot kept in absurd (omega (arith, bounds.1, room))
  either false unkept = refl

all_aside : (worker : Worker) (version : ℕ) (objects : List Object) (versions : Versions) → HasRoom versions
    → fold (with_version worker version) versions (written_slots true objects) ≡ versions
all_aside worker version [] versions room = refl
all_aside worker version (object ∷ objects) versions room =
    ap (λ (v : Versions). fold (with_version worker version) v (written_slots true objects)) (aside worker version versions object room)
    ∙ all_aside worker version objects versions room

sends_leave : (before : Object → ℕ) (base : ℕ) (args : List ℤ) (worker : Worker) (versions : Versions) (task : ℕ) (to : Worker) (reads : List FirstRead)
    → after_entries (map_after before base args worker) versions (map (forward_send task to) reads) ≡ versions
sends_leave before base args worker versions task to [] = refl
sends_leave before base args worker versions task to (read ∷ reads) = sends_leave before base args worker versions task to reads

returned_leave : (before : Object → ℕ) (base : ℕ) (args : List ℤ) (worker : Worker) (versions : Versions) (task : ℕ) (home : Worker) (index : ℕ)
    (objects : List Object) → after_entries (map_after before base args worker) versions (return_sends task home index objects) ≡ versions
returned_leave before base args worker versions task home index [] = refl
returned_leave before base args worker versions task home index (object ∷ objects) =
    returned_leave before base args worker versions task home (index + 1) objects

copied_leave : (before : Object → ℕ) (base : ℕ) (args : List ℤ) (worker : Worker) (task : ℕ) (reads : List FirstRead) (versions : Versions) → HasRoom versions
    → after_entries (map_after before base args worker) versions (map (forward_receive task) reads) ≡ versions
copied_leave before base args worker task [] versions room = refl
copied_leave before base args worker task (read ∷ reads) versions room =
    ap (λ (v : Versions). after_entries step v (map (forward_receive task) reads)) (either read.there)
    ∙ copied_leave before base args worker task reads versions room where
      step : Versions → ℕ → EntryKind → Versions
      step = map_after before base args worker

      number : ℕ
      number = entry_number task 3 read.index

      either : (b : Bool)
          → step versions number (if b then EntryKind.Copy (main_slot read.object) (scratch_slot read.object)
          else EntryKind.Receive (scratch_slot read.object) read.offset) ≡ versions
      either true = refl
      either false = aside worker (version_at base (before (object_of (scratch_slot read.object))) read.offset) versions read.object room

-- what comes back has the version that the run would have left
pub same_version : (base old task : ℕ) → task < 1024
    → version_at base old (offset_after task) ≡ version_after (counted_from base (task_of (entry_number task 4 0)))
same_version base old task few =
    let at : task_of (entry_number task 4 0) ≡ task = task_is task 4 0 few (omega arith) (omega arith) in
    ap (λ (b : Bool). if b then old else counted_from base (offset_after task)) (ne_eqb (offset_after task) 0 (λ none. absurd (omega (arith, none))))
    ∙ omega (arith, at, few)

received_leave : (before : Object → ℕ) (base : ℕ) (args : List ℤ) (worker : Worker) (task index : ℕ) (objects : List Object) (versions : Versions)
    → task < 1024
    → after_entries (map_after before base args worker) versions (return_receives task index objects)
    ≡ fold (with_version worker (version_after (counted_from base (task_of (entry_number task 4 0))))) versions (written_slots false objects)
received_leave before base args worker task index [] versions few = refl
received_leave before base args worker task index (object ∷ objects) versions few =
    let version : ℕ = version_after (counted_from base (task_of (entry_number task 4 0))) in
    ap (λ (v : ℕ). after_entries (map_after before base args worker) (with_version worker v versions (main_slot object))
    (return_receives task (index + 1) objects))
    (same_version base (before (object_of (main_slot object))) task few)
    ∙ received_leave before base args worker task (index + 1) objects (with_version worker version versions (main_slot object)) few

leaves_alike : (before : Object → ℕ) (base : ℕ) (args : List ℤ) (worker : Worker) → LeavesAlike (map_after before base args worker) HasRoom
leaves_alike before base args worker = record {
  stays = kept_room before base args worker;
  away = λ versions task to mask spec few room.
      let reads : List FirstRead = filter (λ (r : FirstRead). not r.there) (first_reads [] mask spec.reads) in
      sym (after_append step versions (map (forward_send task to) reads) (return_receives task 0 spec.writes)
      ∙ ap (λ (v : Versions). after_entries step v (return_receives task 0 spec.writes)) (sends_leave before base args worker versions task to reads)
      ∙ received_leave before base args worker task 0 spec.writes versions few);
  here = λ versions task from mask spec room.
      let reads : List FirstRead = first_reads [] mask spec.reads in
      let run : Entry = run_over true task spec in
      let sends : List Entry = return_sends task from 0 spec.writes in
      sym (after_append step versions (map (forward_receive task) reads) (run ∷ sends)
      ∙ ap (λ (v : Versions). after_entries step v (run ∷ sends)) (copied_leave before base args worker task reads versions room)
      ∙ ap (λ (v : Versions). after_entries step v sends)
      (all_aside worker (version_after (counted_from base (task_of (entry_number task 4 0)))) spec.writes versions room)
      ∙ returned_leave before base args worker versions task from 0 spec.writes);
} where
  step : Versions → ℕ → EntryKind → Versions
  step = map_after before base args worker

-- ---- all halves

-- where the halves of each worker leave the same, all do
same_from : (before : Object → ℕ) (base : ℕ) (args : List ℤ) (number : ℕ) (xs ys : List (List Entry)) (versions : Versions) → length xs ≡ length ys
    → HasRoom versions
    → ((i : ℕ) → i < length xs → (v : Versions) → HasRoom v
    → after_entries (map_after before base args (record { 0 = number + i })) v (get_or xs i [])
    ≡ after_entries (map_after before base args (record { 0 = number + i })) v (get_or ys i []))
    → after_commands versions (commands_from before base args number xs) ≡ after_commands versions (commands_from before base args number ys)
same_from before base args number [] [] versions long room each = refl
same_from before base args number [] (y ∷ ys) versions long room each = absurd (omega (arith, long))
same_from before base args number (x ∷ xs) [] versions long room each = absurd (omega (arith, long))
same_from before base args number (x ∷ xs) (y ∷ ys) versions long room each =
    parts x xs
    ∙ ap (λ (v : Versions). after_commands v (commands_from before base args (number + 1) xs)) first
    ∙ same_from before base args (number + 1) xs ys (after_entries (step number) versions y) (omega (arith, long))
    (stays_after (step number) HasRoom (kept_room before base args (record { 0 = number })) versions y room)
    (λ i less v passes. subst (λ (n : ℕ). after_entries (step n) v (get_or xs i []) ≡ after_entries (step n) v (get_or ys i [])) (omega arith)
    (each (suc i) (omega (arith, less)) v passes))
    ∙ sym (parts y ys) where
      step : ℕ → Versions → ℕ → EntryKind → Versions
      step n = map_after before base args (record { 0 = n })

      parts : (half : List Entry) (halves : List (List Entry))
          → after_commands versions (commands_from before base args number (half ∷ halves))
          ≡ after_commands (after_entries (step number) versions half) (commands_from before base args (number + 1) halves)
      parts half halves =
          fold-append (λ (v : Versions) (c : Worker × Command). after_kind c.0 v c.1.kind) versions
          (commands_of_half before base args (record { 0 = number }) half)
          (commands_from before base args (number + 1) halves)
          ∙ ap (λ (v : Versions). after_commands v (commands_from before base args (number + 1) halves))
          (half_leaves before base args (record { 0 = number }) versions half)

      first : after_entries (step number) versions x ≡ after_entries (step number) versions y
      first =
          subst (λ (n : ℕ). after_entries (step n) versions x ≡ after_entries (step n) versions y) (omega arith) (each 0 (omega arith) versions room)

-- a template in form leaves what it left as it was built
pub form_leaves : (template : WorkerTemplate) → IsInForm template → (before : Object → ℕ) (base : ℕ) (args : List ℤ) (versions : Versions)
    → versions.objects ≤ 512
    → after_commands versions (commands_from before base args 0 template.halves) ≡ after_commands versions (commands_from before base args 0 template.built)
form_leaves template form before base args versions room =
    same_from before base args 0 template.halves template.built versions (halves_long template form) room
    (λ i less v passes. half_after (map_after before base args (record { 0 = 0 + i })) HasRoom (leaves_alike before base args (record { 0 = 0 + i })) template
    form
    (record { 0 = i }) (subst (λ (n : ℕ). i < n) (halves_long template form) less) v passes)

-- ---- a template that was built

pub was_left : (place : Placement) (objects : ℕ) (live : List Bool) (recorded : ControllerTemplate) (template : WorkerTemplate)
    → WasBuilt place objects live recorded template → list_any (λ (flag : Bool). flag) live ≡ true → objects ≤ 512 → length recorded.forms ≤ 1024
    → list_all (is_fit objects) recorded.forms ≡ true → LeavesEffect (length live) objects template
was_left place objects live recorded template was some objects_few few fit base args versions before room now =
    ap (after_effect base versions) was.effect
    ∙ built_left place objects live recorded some few fit base args versions before room (sym (ap (are_current versions) was.preconditions) ∙ now)
    ∙ sym (ap (λ (halves : List (List Entry)). after_commands versions (commands_from (latest_of versions) base args 0 halves)) was.built)
    ∙ sym (form_leaves template was.form (latest_of versions) base args versions (omega (arith, before.columns, objects_few)))

-- behind its effect the preconditions hold again
pub was_again : (place : Placement) (objects : ℕ) (live : List Bool) (recorded : ControllerTemplate) (template : WorkerTemplate)
    → WasBuilt place objects live recorded template → list_any (λ (flag : Bool). flag) live ≡ true → length recorded.forms ≤ 1024
    → HoldAgain (length live) objects template
was_again place objects live recorded template was some few base versions before now =
    ap₂ (λ (effect : List (Worker × Slot × ℕ)) (needs : List (Worker × Object)). are_current (after_effect base versions effect) needs) was.effect
    was.preconditions
    ∙ built_again place objects live recorded some few base versions before (sym (ap (are_current versions) was.preconditions) ∙ now)

-- and its effect is that of its halves
pub was_effect : (place : Placement) (objects : ℕ) (live : List Bool) (recorded : ControllerTemplate) (template : WorkerTemplate)
    → WasBuilt place objects live recorded template → list_any (λ (flag : Bool). flag) live ≡ true → objects ≤ 512 → length recorded.forms ≤ 1024
    → list_all (is_fit objects) recorded.forms ≡ true → HasEffect (length live) objects template
was_effect place objects live recorded template was some objects_few few fit =
    was.effect
    ∙ built_effect place objects live recorded some few fit
    ∙ sym (ap (λ (halves : List (List Entry)). flat_map (item_for halves) (all_slots (length live) objects)) was.built)
    ∙ sym (same_all (item_for template.halves) (item_for template.built) objects 0 (length live)
    (λ w o above below inside. ap (item_of (record { 0 = w }, record { 0 = o }))
    (ends_alike template was.form (record { 0 = w }) (record { 0 = o }) (subst (λ (n : ℕ). w < n) wide (omega (arith, below)))
    (omega (arith, inside, objects_few))))) where
      wide : length live ≡ length template.built
      wide =
          sym (ap (λ (halves : List (List Entry)). length halves) was.built
          ∙ length-map-range_with_len (λ (n : ℕ). half_for (record { 0 = n }) (entries_of place objects live recorded.forms)) 0 (length live))
