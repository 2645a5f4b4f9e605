-- The command at a place: among those that a worker was asked for, in the list of commands and in the list of their waits.
use Rattle.std.proofs.Common.{◌≡◌, ℕ, suc, zero, ◌+◌, false, List, [], ◌∷◌, ◌++◌, length, map, refl, ap, ap₂, sym, ◌∙◌, Option, None, Some}
use Rattle.std.specs.Prelude.{slice_get}
use Rattle.std.specs.List.{range_with_len}
use Rattle.std.specs.Option.{option_and_then, option_map, option_map_or}
use Rattle.std.proofs.Math.Path.{fun_ext}
use Rattle.std.proofs.lemmas.List.{map-append}
use Rattle.std.proofs.lemmas.Option.{slice_get-map}
use Rattle.nim_base.specs.declared.number.Slot.{Slot}
use Rattle.nim_command.specs.declared.command.Command.{Command}
use Rattle.nim_command.specs.declared.command.Kind.{Kind}
use Rattle.nim_command.specs.Holds.{Content, holds, left_by}
use Rattle.nim_command.specs.Slots.{does_touch}
use Rattle.nim_command.specs.Waits.{Group, Member, commands_of, members_from, members_of, placed, placed_commands}
use Rattle.nim_order.specs.Contents.{Leave, left_at}
use Rattle.nim_order.specs.Progress.{touches_at}
use Rattle.nim_history.specs.History.{Asked, asked_at}

-- what a command does, if there is one
abbrev pub kind_in : Option Command → Option Kind
kind_in command = option_map (λ (c : Command). c.kind) command

abbrev kinds_of : List Command → List Kind
kinds_of commands = map (λ (c : Command). c.kind) commands

-- the commands of members are those of their groups
pub of_group : (number : ℕ) (commands : List Command)
    → map (λ (m : Member). m.command) (map (λ command. record { group = number; command = command }) commands) ≡ commands
of_group number [] = refl
of_group number (command ∷ commands) = ap (λ (rest : List Command). command ∷ rest) (of_group number commands)

pub members_commands : (number : ℕ) (groups : List Group) → map (λ (m : Member). m.command) (members_from number groups) ≡ commands_of groups
members_commands number [] = refl
members_commands number (group ∷ groups) =
    map-append (λ (m : Member). m.command) (map (λ command. record { group = number; command = command }) group.commands) (members_from (number + 1) groups)
    ∙ ap₂ (λ (front rest : List Command). front ++ rest) (of_group number group.commands) (members_commands (number + 1) groups)

-- what each does stays where it gets its place for its number
placed_kinds : (all : List Member) (from : ℕ) (members : List Member)
    → kinds_of (placed all (range_with_len from (length members)) members) ≡ kinds_of (map (λ (m : Member). m.command) members)
placed_kinds all from [] = refl
placed_kinds all from (m ∷ members) = ap (λ (rest : List Kind). m.command.kind ∷ rest) (placed_kinds all (from + 1) members)

same_kinds : (groups : List Group) → kinds_of (placed_commands groups) ≡ kinds_of (commands_of groups)
same_kinds groups = placed_kinds (members_of groups) 0 (members_of groups) ∙ ap kinds_of (members_commands 0 groups)

-- what slots hold is a matter of what commands do
by_kind : (command : Option Command) (before : Slot → Content) (slot : Slot)
    → option_map_or (λ (c : Command). left_by c.kind before slot) command (before slot)
    ≡ option_map_or (λ (k : Kind). left_by k before slot) (kind_in command) (before slot)
by_kind None before slot = refl
by_kind (Some c) before slot = refl

kind_at : (commands : List Command) (place : ℕ) → slice_get (kinds_of commands) place ≡ kind_in (slice_get commands place)
kind_at commands place = slice_get-map (λ (c : Command). c.kind) commands place

alike_at : (xs ys : List Command) (place : ℕ) → kinds_of xs ≡ kinds_of ys → kind_in (slice_get xs place) ≡ kind_in (slice_get ys place)
alike_at xs ys place same = sym (kind_at xs place) ∙ ap (λ (kinds : List Kind). slice_get kinds place) same ∙ kind_at ys place

holds_alike : (xs ys : List Command) (place : ℕ) → kinds_of xs ≡ kinds_of ys → holds xs place ≡ holds ys place
holds_alike xs ys zero same = refl
holds_alike xs ys (suc place) same =
    fun_ext (λ slot. by_kind (slice_get xs place) (holds xs place) slot
    ∙ ap₂ (λ (before : Slot → Content) (kind : Option Kind). option_map_or (λ (k : Kind). left_by k before slot) kind (before slot))
    (holds_alike xs ys place same) (alike_at xs ys place same)
    ∙ sym (by_kind (slice_get ys place) (holds ys place) slot))

pub placed_holds : (groups : List Group) (place : ℕ) (slot : Slot) → holds (placed_commands groups) place slot ≡ holds (commands_of groups) place slot
placed_holds groups place slot = ap (λ (held : Slot → Content). held slot) (holds_alike (placed_commands groups) (commands_of groups) place (same_kinds groups))

-- the member that is asked for
in_its_group : (m : Member) (group : Option Group) (asked : Asked)
    → option_map (λ (g : Group). record { number = m.group; group = g; command = m.command }) group ≡ Some asked → m.command ≡ asked.command
in_its_group m None asked is = absurd cc
in_its_group m (Some g) asked is = let same : record { number = m.group; group = g; command = m.command } ≡ asked = cc in ap (λ (a : Asked). a.command) same

asked_of : (groups : List Group) (member : Option Member) (asked : Asked)
    → option_and_then
    (λ (m : Member). option_map (λ (group : Group). record { number = m.group; group = group; command = m.command }) (slice_get groups m.group)) member
    ≡ Some asked
    → option_map (λ (m : Member). m.command) member ≡ Some asked.command
asked_of groups None asked is = absurd cc
asked_of groups (Some m) asked is = ap Some (in_its_group m (slice_get groups m.group) asked is)

-- it stands at its place in the list of commands
pub listed_at : (groups : List Group) (place : ℕ) (asked : Asked) → asked_at groups place ≡ Some asked
    → slice_get (commands_of groups) place ≡ Some asked.command
listed_at groups place asked is =
    ap (λ (commands : List Command). slice_get commands place) (sym (members_commands 0 groups))
    ∙ slice_get-map (λ (m : Member). m.command) (members_of groups) place ∙ asked_of groups (slice_get (members_of groups) place) asked is

-- and so does what it does in the list of waits
pub placed_at : (groups : List Group) (place : ℕ) (asked : Asked) → asked_at groups place ≡ Some asked
    → kind_in (slice_get (placed_commands groups) place) ≡ Some asked.command.kind
placed_at groups place asked is =
    alike_at (placed_commands groups) (commands_of groups) place (same_kinds groups) ∙ ap kind_in (listed_at groups place asked is)

-- what is known of a command by what it does
touches_by : (command : Option Command) (kind : Kind) (slot : Slot) → kind_in command ≡ Some kind
    → option_map_or (λ (c : Command). does_touch c.kind slot) command false ≡ does_touch kind slot
touches_by None kind slot is = absurd cc
touches_by (Some c) kind slot is = let same : c.kind ≡ kind = cc in ap (λ (k : Kind). does_touch k slot) same

pub touches_there : (commands : List Command) (place : ℕ) (kind : Kind) (slot : Slot) → kind_in (slice_get commands place) ≡ Some kind
    → touches_at commands place slot ≡ does_touch kind slot
touches_there commands place kind slot is = touches_by (slice_get commands place) kind slot is

-- versions, as contents that commands leave
abbrev pub versions : Leave Content
versions command = left_by command.kind

leaves_by : (command : Option Command) (kind : Kind) (before : Slot → Content) → kind_in command ≡ Some kind
    → option_map_or (λ (c : Command). versions c before) command before ≡ left_by kind before
leaves_by None kind before is = absurd cc
leaves_by (Some c) kind before is = let same : c.kind ≡ kind = cc in ap (λ (k : Kind). left_by k before) same

pub leaves_there : (commands : List Command) (place : ℕ) (kind : Kind) (before : Slot → Content) → kind_in (slice_get commands place) ≡ Some kind
    → left_at versions commands place before ≡ left_by kind before
leaves_there commands place kind before is = leaves_by (slice_get commands place) kind before is
