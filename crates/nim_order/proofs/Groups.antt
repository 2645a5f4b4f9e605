-- The commands of groups in order: one that borders an earlier one of its own group names it.
use Rattle.std.proofs.Common.{◌≡◌, ℕ, zero, suc, ◌+◌, ◌<◌, true, List, [], ◌∷◌, ◌++◌, map, take, drop, refl, ap, sym, subst, ◌∙◌, arith, Some}
use Rattle.std.specs.Prelude.{All, slice_get}
use Rattle.std.proofs.lemmas.List.{append-nil, append_assoc, drop-map, map-append}
use Rattle.std.proofs.lemmas.List.Elements.{All-head, All-tail}
use Rattle.std.proofs.lemmas.Option.{none-some, same_Some}
use Rattle.nim_command.specs.declared.command.Command.{Command}
use Rattle.nim_command.specs.Before.{Footprint, footprint_of, is_before}
use Rattle.nim_command.specs.Waits.{Group, Member, is_border, members_from}
use Rattle.nim_order.specs.Progress.{is_one_of}
use Rattle.nim_order.specs.Rule.{NameAll, NameAllBehind, NamesAll}
use Rattle.nim_order.proofs.Named.{border_is, named, print_of}

-- a member behind others names each of its own group that it borders
unfoldable pub Binds : List Member → Member → Type 0
Binds past later = (place : ℕ) (earlier : Member) → slice_get past place ≡ Some earlier → earlier.group ≡ later.group
    → is_border earlier (drop (suc place) past) later ≡ true → is_one_of later.command.before earlier.command.id ≡ true

pub BindAll : List Member → List Member → Type 0
BindAll past [] = Unit {0}
BindAll past (m ∷ ms) = Binds past m × BindAll (past ++ m ∷ []) ms

bind_append : (past xs ys : List Member) → BindAll past xs → BindAll (past ++ xs) ys → BindAll past (xs ++ ys)
unfolding BindAll
bind_append past [] ys first second = subst (λ (all : List Member). BindAll all ys) (append-nil past) second
bind_append past (x ∷ xs) ys first second =
    (first.0, bind_append (past ++ x ∷ []) xs ys first.1 (subst (λ (all : List Member). BindAll all ys) (sym (append_assoc past (x ∷ []) xs)) second))

-- the members at each place of a list
pub bind_at : (past ms : List Member) (place : ℕ) (m : Member) → BindAll past ms → slice_get ms place ≡ Some m → Binds (past ++ take place ms) m
unfolding BindAll
bind_at past [] place m all there = absurd (none-some m there)
bind_at past (x ∷ ms) zero m all there =
    subst (λ (before : List Member). Binds before m) (sym (append-nil past)) (subst (λ (y : Member). Binds past y) (same_Some x m there) all.0)
bind_at past (x ∷ ms) (suc place) m all there =
    subst (λ (before : List Member). Binds before m) (append_assoc past (x ∷ []) (take place ms)) (bind_at (past ++ x ∷ []) ms place m all.1 there)

-- all of these are of groups below a number
Below : ℕ → List Member → Type 0
Below number [] = Unit {0}
Below number (m ∷ ms) = (m.group < number) × Below number ms

below_more : (number : ℕ) (ms : List Member) → Below number ms → Below (number + 1) ms
unfolding Below
below_more number [] below = tt
below_more number (m ∷ ms) below = (omega (arith, below.0), below_more number ms below.1)

below_append : (number : ℕ) (xs ys : List Member) → Below number xs → Below number ys → Below number (xs ++ ys)
unfolding Below
below_append number [] ys first second = second
below_append number (x ∷ xs) ys first second = (first.0, below_append number xs ys first.1 second)

-- a member of the group with this number
in_group : ℕ → Command → Member
in_group number command = record { group = number; command = command }

below_group : (number : ℕ) (commands : List Command) → Below (number + 1) (map (in_group number) commands)
unfolding Below in_group
below_group number [] = tt
below_group number (command ∷ commands) = (omega arith, below_group number commands)

-- behind groups below, what is of this group stands in the group alone
skipped : (number : ℕ) (past ms : List Member) (place : ℕ) (m : Member) (G : Type 0) → Below number past → m.group ≡ number
    → slice_get (past ++ ms) place ≡ Some m
    → ((inside : ℕ) → slice_get ms inside ≡ Some m → drop (suc place) (past ++ ms) ≡ drop (suc inside) ms → G) → G
unfolding Below
skipped number [] ms place m G below group there found = found place there refl
skipped number (x ∷ past) ms zero m G below group there found =
    absurd (let same : x.group ≡ m.group = ap (λ (y : Member). y.group) (same_Some x m there) in omega (arith, same, group, below.0))
skipped number (x ∷ past) ms (suc place) m G below group there found = skipped number past ms place m G below.1 group there found

print_in : (number : ℕ) (commands : List Command) → map print_of (map (in_group number) commands) ≡ map footprint_of commands
unfolding in_group print_of
print_in number [] = refl
print_in number (command ∷ commands) = ap (λ (rest : List Footprint). footprint_of command ∷ rest) (print_in number commands)

get_print : (ms : List Member) (place : ℕ) (m : Member) → slice_get ms place ≡ Some m → slice_get (map print_of ms) place ≡ Some (footprint_of m.command)
unfolding print_of
get_print [] place m there = absurd (none-some m there)
get_print (x ∷ ms) zero m there = ap (λ (y : Member). Some (footprint_of y.command)) (same_Some x m there)
get_print (x ∷ ms) (suc place) m there = get_print ms place m there

binds_one : (number : ℕ) (past : List Member) (front : List Command) (command : Command) → Below number past → NamesAll (map footprint_of front) command
    → Binds (past ++ map (in_group number) front) (in_group number command)
unfolding Binds in_group
binds_one number past front command below names place earlier there group borders =
    skipped number past (map (in_group number) front) place earlier (is_one_of command.before earlier.command.id ≡ true) below group there
    (λ inside found same.
    names earlier.command.id
    (named (map footprint_of front) inside (footprint_of earlier.command) (footprint_of command)
    (subst (λ (prints : List Footprint). slice_get prints inside ≡ Some (footprint_of earlier.command)) (print_in number front)
    (get_print (map (in_group number) front) inside earlier found))
    (subst (λ (prints : List Footprint). is_before (footprint_of earlier.command) prints (footprint_of command) ≡ true)
    (ap (map print_of) same ∙ sym (drop-map print_of (suc inside) (map (in_group number) front)) ∙ ap (drop (suc inside)) (print_in number front))
    (sym (border_is earlier (drop (suc place) (past ++ map (in_group number) front)) (in_group number command)) ∙ borders))))

binds_group : (number : ℕ) (past : List Member) (front commands : List Command) → Below number past → NameAllBehind (map footprint_of front) commands
    → BindAll (past ++ map (in_group number) front) (map (in_group number) commands)
unfolding BindAll
binds_group number past front [] below names = tt
binds_group number past front (command ∷ commands) below names =
    let longer : (past ++ map (in_group number) front) ++ in_group number command ∷ [] ≡ past ++ map (in_group number) (front ++ command ∷ []) =
    append_assoc past (map (in_group number) front) (in_group number command ∷ [])
    ∙ ap (λ (more : List Member). past ++ more) (sym (map-append (in_group number) front (command ∷ []))) in (
      binds_one number past front command below names.0,
      subst (λ (before : List Member). BindAll before (map (in_group number) commands)) (sym longer)
          (binds_group number past (front ++ command ∷ []) commands below
          (subst (λ (prints : List Footprint). NameAllBehind prints commands) (sym (map-append footprint_of front (command ∷ []))) names.1)),
    )

binds_groups : (number : ℕ) (past : List Member) (groups : List Group) → Below number past → All (λ (g : Group). NameAll g.commands) groups
    → BindAll past (members_from number groups)
unfolding BindAll in_group
binds_groups number past [] below names = tt
binds_groups number past (group ∷ groups) below names =
    bind_append past (map (in_group number) group.commands) (members_from (number + 1) groups)
    (subst (λ (before : List Member). BindAll before (map (in_group number) group.commands)) (append-nil past)
    (binds_group number past [] group.commands below (All-head (λ (g : Group). NameAll g.commands) group groups names)))
    (binds_groups (number + 1) (past ++ map (in_group number) group.commands) groups
    (below_append (number + 1) past (map (in_group number) group.commands) (below_more number past below) (below_group number group.commands))
    (All-tail (λ (g : Group). NameAll g.commands) group groups names))

pub binds_all : (groups : List Group) → All (λ (g : Group). NameAll g.commands) groups → BindAll [] (members_from 0 groups)
unfolding Below
binds_all groups names = binds_groups 0 [] groups tt names
