-- What one more order adds to a listing, and one more place to the commands.
use Rattle.std.proofs.Common.{◌≡◌, ℕ, suc, ◌+◌, ◌<◌, Bool, ℤ, true, false, List, [], ◌∷◌, ◌++◌, length, take, get_or, refl, ap, ap₂, sym, ◌∙◌, arith, Option, None, Some, subst}
use Rattle.std.specs.Prelude.{◌==◌, ◌&&◌, if◌then◌else◌, slice_get, IsSomeAnd, OnOk, Result, Ok, Err}
use Rattle.std.specs.List.{fold, range_with_len}
use Rattle.std.specs.Option.{option_map_or}
use Rattle.std.proofs.lemmas.List.{append-nil, append_assoc, length-append, length-map, length-take, take_more}
use Rattle.std.proofs.lemmas.List.FromFn.{length-range_with_len}
use Rattle.std.proofs.lemmas.Option.{slice_get-get_or}
use Rattle.nim_command.specs.declared.command.Command.{Command}
use Rattle.nim_command.specs.declared.edit.Edit.{Edit}
use Rattle.nim_command.specs.declared.edit.PatchPart.{PatchPart}
use Rattle.nim_command.specs.declared.entry.Entry.{Entry}
use Rattle.nim_command.specs.Edits.{edited_by}
use Rattle.nim_command.specs.Expansion.{expanded, patch_commands}
use Rattle.nim_command.specs.Waits.{Group, Member, commands_of, members_from, members_of, placed, single_group, waits_of}
use Rattle.nim_message.specs.declared.order.ToWorker.{ToWorker}
use Rattle.nim_message.specs.declared.order.ToWorker.TheVariants.{Single, InstallTemplate, Instantiate, InstallPatch, RunPatch, Reset, Stop}
use Rattle.nim_message.specs.Orders.{Session, after_order, counted, does_count, epoch_named, instance_group, no_session, patch_group, session_of, with_group, with_half, with_list, with_patch}
use Rattle.nim_plan.specs.declared.listing.Listing.{Listing}
use Rattle.nim_plan.specs.declared.installed.Installed.{Installed}
use Rattle.nim_plan.specs.Installed.{Has, halves_of, patches_of}
use Rattle.nim_plan.specs.Listing.{IsListing, IsPushed, is_epoch, members_at}
use Rattle.nim_plan.proofs.Lists.{range_more}

-- one more group
members_more : (number : ℕ) (groups : List Group) (group : Group)
    → members_from number (groups ++ group ∷ []) ≡ members_from number groups ++ members_at (number + length groups) group.commands
members_more number [] group =
    let same : number ≡ number + 0 = omega arith in
    append-nil (members_at number group.commands) ∙ ap (λ (n : ℕ). members_at n group.commands) same
members_more number (first ∷ groups) group =
    let same : number + 1 + length groups ≡ number + suc (length groups) = omega arith in
    ap (λ (rest : List Member). members_at number first.commands ++ rest)
    (members_more (number + 1) groups group ∙ ap (λ (n : ℕ). members_from (number + 1) groups ++ members_at n group.commands) same)
    ∙ sym (append_assoc (members_at number first.commands) (members_from (number + 1) groups) (members_at (number + suc (length groups)) group.commands))

pub group_added : (groups : List Group) (group : Group) → members_of (groups ++ group ∷ []) ≡ members_of groups ++ members_at (length groups) group.commands
group_added groups group =
    let same : 0 + length groups ≡ length groups = omega arith in
    members_more 0 groups group ∙ ap (λ (n : ℕ). members_of groups ++ members_at n group.commands) same

-- one more order
fold_push : {A B : Type 0} (f : B → A → B) (b : B) (xs : List A) (x : A) → fold f b (xs ++ x ∷ []) ≡ f (fold f b xs) x
fold_push f b [] x = refl
fold_push f b (y ∷ xs) x = fold_push f (f b y) xs x

pub session_more : (orders : List ToWorker) (i : ℕ) (order : ToWorker) → i < length orders → order ≡ get_or orders i order
    → session_of (take (i + 1) orders) ≡ after_order (session_of (take i orders)) order
session_more orders i order within is =
    ap session_of (take_more orders i order within ∙ ap (λ (o : ToWorker). take i orders ++ o ∷ []) (sym is))
    ∙ fold_push after_order no_session (take i orders) order

-- whether an order counts, by the epoch that is kept
epochs_same : (begun : Bool) (current : ℕ) (named : Option ℕ)
    → is_epoch (if begun then Some current else None) named ≡ option_map_or (λ (epoch : ℕ). begun && (epoch == current)) named false
epochs_same true current (Some epoch) = refl
epochs_same true current None = refl
epochs_same false current (Some epoch) = refl
epochs_same false current None = refl

pub counts_same : (listing : Listing) (session : Session) (order : ToWorker) → IsListing listing session
    → is_epoch listing.epoch (epoch_named order) ≡ does_count session order
counts_same listing session order is =
    ap (λ (e : Option ℕ). is_epoch e (epoch_named order)) is.epoch ∙ epochs_same session.begun session.epoch (epoch_named order)

pub order_counts : (session : Session) (order : ToWorker) → does_count session order ≡ true → after_order session order ≡ counted session order
order_counts session (Single epoch instance commands) counts = ap (λ (b : Bool). if b then counted session (Single epoch instance commands) else session) counts
order_counts session (InstallTemplate epoch block entries) counts =
    ap (λ (b : Bool). if b then counted session (InstallTemplate epoch block entries) else session) counts
order_counts session (Instantiate epoch instance block base args versions edits) counts =
    ap (λ (b : Bool). if b then counted session (Instantiate epoch instance block base args versions edits) else session) counts
order_counts session (InstallPatch epoch patch copies) counts =
    ap (λ (b : Bool). if b then counted session (InstallPatch epoch patch copies) else session) counts
order_counts session (RunPatch epoch instance patch versions) counts =
    ap (λ (b : Bool). if b then counted session (RunPatch epoch instance patch versions) else session) counts
order_counts session (Reset epoch worker workers shapes) counts = absurd cc
order_counts session Stop counts = absurd cc

-- with one more group
pub group_pushed : (before after : Listing) (session : Session) (group : Group) → IsListing before session → IsPushed before group.commands after
    → IsListing after (with_group session group)
group_pushed before after session group listing push = record {
  epoch = ap (λ (l : Listing). l.epoch) push.rest ∙ listing.epoch;
  groups = push.groups ∙ ap (λ (n : ℕ). n + 1) listing.groups ∙ sym (length-append session.groups (group ∷ []));
  members =
      push.members ∙ ap₂ (λ (ms : List Member) (n : ℕ). ms ++ members_at n group.commands) listing.members listing.groups
      ∙ sym (group_added session.groups group);
  installed = subst (λ (i : Installed). Has i session.halves session.patches) (sym (ap (λ (l : Listing). l.installed) push.rest)) listing.installed;
}

-- with another half or patch
pub newly_installed : (before : Listing) (session : Session) (installed : Installed) (by_block : ℕ → List Entry) (by_patch : ℕ → List PatchPart)
    → IsListing before session
    → Has installed by_block by_patch → IsListing (record before { installed = installed }) (record session { halves = by_block; patches = by_patch })
newly_installed before session installed by_block by_patch listing has =
    record { epoch = listing.epoch; groups = listing.groups; members = listing.members; installed = has }

pub half_installed : (before : Listing) (session : Session) (installed : Installed) (block : ℕ) (entries : List Entry) → IsListing before session
    → Has installed (with_list block entries (halves_of before.installed)) (patches_of before.installed)
    → IsListing (record before { installed = installed }) (with_half session block entries)
half_installed before session installed block entries listing has =
    newly_installed before session installed (with_list block entries session.halves) session.patches listing
    (subst (λ (all : ℕ → List Entry). Has installed (with_list block entries all) session.patches) listing.installed.halves
    (subst (λ (all : ℕ → List PatchPart). Has installed (with_list block entries (halves_of before.installed)) all) listing.installed.patches has))

pub patch_installed : (before : Listing) (session : Session) (installed : Installed) (patch : ℕ) (copies : List PatchPart) → IsListing before session
    → Has installed (halves_of before.installed) (with_list patch copies (patches_of before.installed))
    → IsListing (record before { installed = installed }) (with_patch session patch copies)
patch_installed before session installed patch copies listing has =
    newly_installed before session installed session.halves (with_list patch copies session.patches) listing
    (subst (λ (all : ℕ → List Entry). Has installed all (with_list patch copies session.patches)) listing.installed.halves
    (subst (λ (all : ℕ → List PatchPart). Has installed (halves_of before.installed) (with_list patch copies all)) listing.installed.patches has))

abbrev member_in : ℕ → Command → Member
member_in number command = record { group = number; command = command }

on_ok : {A E P Q : Type 0} (r : Result A E) → (P → Q) → OnOk r P → OnOk r Q
on_ok (Ok x) f p = f p
on_ok (Err e) f p = tt

-- what each order of the epoch adds
pub single_taken : {A E : Type 0} (r : Result A E) (before after : Listing) (order : ToWorker) (epoch instance : ℕ) (commands items : List Command)
    → order ≡ Single epoch instance commands → items ≡ commands → OnOk r (IsPushed before items after)
    → (session : Session) → IsListing before session → OnOk r (IsListing after (counted session order))
single_taken r before after order epoch instance commands items is same push session listing =
    on_ok r (λ (p : IsPushed before items after). subst (λ (o : ToWorker). IsListing after (counted session o)) (sym is)
    (group_pushed before after session (single_group epoch instance commands) listing (subst (λ (cs : List Command). IsPushed before cs after) same p)))
    push

pub instance_taken : {A E : Type 0} (r : Result A E) (before after : Listing) (installed : Installed) (order : ToWorker) (epoch instance block base : ℕ)
    (args args' : List ℤ) (versions versions' : List ℕ) (edits edits' : List Edit) (items : List Command)
    → order ≡ Instantiate epoch instance block base args versions edits → args' ≡ args → versions' ≡ versions → edits' ≡ edits
    → Has installed (with_list block (edited_by edits' (halves_of before.installed block)) (halves_of before.installed)) (patches_of before.installed)
    → items ≡ expanded base args' versions' 0 (edited_by edits' (halves_of before.installed block))
    → OnOk r (IsPushed (record before { installed = installed }) items after)
    → (session : Session) → IsListing before session → OnOk r (IsListing after (counted session order))
instance_taken r before after installed order epoch instance block base args args' versions versions' edits edits' items is same_args same_versions same_edits
    has made push session listing =
    let mid : Listing = record before { installed = installed } in
    let half : List Entry = edited_by edits (session.halves block) in
    let same : edited_by edits' (halves_of before.installed block) ≡ half =
    ap₂ (λ (es : List Edit) (all : ℕ → List Entry). edited_by es (all block)) same_edits listing.installed.halves in
    let edited : IsListing mid (with_half session block half) =
    subst (λ (h : List Entry). IsListing mid (with_half session block h)) same
    (half_installed before session installed block (edited_by edits' (halves_of before.installed block)) listing has) in
    let commands : items ≡ expanded base args versions 0 half =
    made ∙ ap₂ (λ (a : List ℤ) (v : List ℕ). expanded base a v 0 (edited_by edits' (halves_of before.installed block))) same_args same_versions
    ∙ ap (λ (h : List Entry). expanded base args versions 0 h) same in
    on_ok r (λ (p : IsPushed mid items after). subst (λ (o : ToWorker). IsListing after (counted session o)) (sym is)
    (group_pushed mid after (with_half session block half) (instance_group epoch instance base args versions half) edited
    (subst (λ (cs : List Command). IsPushed mid cs after) commands p)))
    push

pub patch_taken : {A E : Type 0} (r : Result A E) (before after : Listing) (order : ToWorker) (epoch instance patch : ℕ) (versions versions' : List ℕ)
    (items : List Command)
    → order ≡ RunPatch epoch instance patch versions → versions' ≡ versions → items ≡ patch_commands versions' (patches_of before.installed patch)
    → OnOk r (IsPushed before items after) → (session : Session) → IsListing before session → OnOk r (IsListing after (counted session order))
patch_taken r before after order epoch instance patch versions versions' items is same made push session listing =
    let commands : items ≡ patch_commands versions (session.patches patch) =
    made ∙ ap₂ (λ (v : List ℕ) (all : ℕ → List PatchPart). patch_commands v (all patch)) same listing.installed.patches in
    on_ok r (λ (p : IsPushed before items after). subst (λ (o : ToWorker). IsListing after (counted session o)) (sym is)
    (group_pushed before after session (patch_group epoch instance versions (session.patches patch)) listing
    (subst (λ (cs : List Command). IsPushed before cs after) commands p)))
    push

-- after one more order
pub order_taken : {A E : Type 0} (r : Result A E) (after : Listing) (session : Session) (order : ToWorker) → does_count session order ≡ true
    → OnOk r (IsListing after (counted session order)) → OnOk r (IsListing after (after_order session order))
order_taken r after session order counts taken = subst (λ (s : Session). OnOk r (IsListing after s)) (sym (order_counts session order counts)) taken

-- as many commands as members
pub length_members : (number : ℕ) (groups : List Group) → length (members_from number groups) ≡ length (commands_of groups)
length_members number [] = refl
length_members number (group ∷ groups) =
    length-append (members_at number group.commands) (members_from (number + 1) groups)
    ∙ ap₂ (λ (a b : ℕ). a + b) (length-map group.commands (member_in number)) (length_members (number + 1) groups)
    ∙ sym (length-append group.commands (commands_of groups))

placed_push : (members : List Member) (places : List ℕ) (ms : List Member) (place : ℕ) (m : Member) → length places ≡ length ms
    → placed members (places ++ place ∷ []) (ms ++ m ∷ []) ≡ placed members places ms ++ record m.command { id = place; before = waits_of members place } ∷ []
placed_push members [] [] place m same = refl
placed_push members [] (x ∷ ms) place m same = absurd (omega arith)
placed_push members (x ∷ places) [] place m same = absurd (omega arith)
placed_push members (x ∷ places) (y ∷ ms) place m same =
    ap (λ (rest : List Command). record y.command { id = x; before = waits_of members x } ∷ rest) (placed_push members places ms place m (omega arith))

-- one more place
pub placed_more : (members : List Member) (commands next : List Command) (command : Command) (place : ℕ) → place < length members
    → IsSomeAnd (slice_get members place) (λ m. command ≡ record m.command { id = place; before = waits_of members place })
    → commands ≡ placed members (range_with_len 0 place) (take place members) → next ≡ commands ++ command ∷ []
    → next ≡ placed members (range_with_len 0 (place + 1)) (take (place + 1) members)
placed_more members commands next command place within is before push =
    let m : Member = get_or members place (record { group = 0; command = command }) in
    let found : slice_get members place ≡ Some m = slice_get-get_or members place (record { group = 0; command = command }) within in
    let made : command ≡ record m.command { id = place; before = waits_of members place } =
    subst (λ (o : Option Member). IsSomeAnd o (λ (k : Member). command ≡ record k.command { id = place; before = waits_of members place })) found is in
    let same : length (range_with_len 0 place) ≡ length (take place members) = omega (arith, length-range_with_len 0 place, length-take place members) in
    push ∙ ap₂ (λ (cs : List Command) (c : Command). cs ++ c ∷ []) before made
    ∙ sym (placed_push members (range_with_len 0 place) (take place members) place m same)
    ∙ ap₂ (placed members) (sym (range_more place)) (sym (take_more members place (record { group = 0; command = command }) within))
