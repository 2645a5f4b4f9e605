-- Before sets make no difference to what commands hold, to whether they are legal, and to what they send and receive.
use Rattle.std.proofs.Common.{◌≡◌, ℕ, zero, suc, List, [], ◌∷◌, ◌++◌, length, map, refl, ap, ap₂, sym, subst, ◌∙◌, Option, None, Some}
use Rattle.std.specs.Prelude.{slice_get}
use Rattle.std.specs.Option.{option_map, option_map_or}
use Rattle.std.proofs.Math.Path.{fun_ext}
use Rattle.std.proofs.lemmas.List.{append_assoc, append-nil, length-map, map-append}
use Rattle.std.proofs.lemmas.List.Sums.{fold-append}
use Rattle.nim_base.specs.declared.number.Slot.{Slot}
use Rattle.nim_base.specs.declared.number.Worker.{Worker}
use Rattle.nim_command.specs.declared.command.Command.{Command}
use Rattle.nim_command.specs.declared.command.Kind.{Kind}
use Rattle.nim_command.specs.declared.command.Kind.TheVariants.{Create, Load, Send, Receive, Copy, Run, Fetch}
use Rattle.nim_command.specs.Holds.{Content, holds, left_by}
use Rattle.nim_command.specs.Numbers.{main_slot}
use Rattle.nim_command.specs.Waits.{FromSingle, Group}
use Rattle.nim_job.specs.declared.job.Job.{Job}
use Rattle.nim_plan.specs.Legal.{AreLegal, IsLegalKind}
use Rattle.nim_plan.specs.Paired.{Key, received, sent}
use Rattle.nim_place.specs.Stands.{MapStands, commands_for, greatest_put, greater_put}
use Rattle.nim_place.specs.Versions.{Versions}
use Rattle.nim_place.proofs.Held.{for_append}
use Rattle.nim_place.proofs.Keys.{new_received, new_sent}
use Rattle.nim_template.specs.Tasks.{without_before}
use Rattle.nim_template.proofs.Sames.{AreSame, greatest_same}

-- ---- what slots hold

get_map : {X Y : Type 0} (f : X → Y) (xs : List X) (n : ℕ) → slice_get (map f xs) n ≡ option_map f (slice_get xs n)
get_map f [] n = refl
get_map f (x ∷ xs) zero = refl
get_map f (x ∷ xs) (suc n) = get_map f xs n

bare_left : (o : Option Command) (before : Slot → Content) (slot : Slot)
    → option_map_or (λ (c : Command). left_by c.kind before slot) (option_map without_before o) (before slot)
    ≡ option_map_or (λ (c : Command). left_by c.kind before slot) o (before slot)
bare_left None before slot = refl
bare_left (Some c) before slot = refl

holds_bare : (commands : List Command) (n : ℕ) (slot : Slot) → holds (map without_before commands) n slot ≡ holds commands n slot
holds_bare commands zero slot = refl
holds_bare commands (suc n) slot =
    ap₂ (λ (h : Slot → Content) (o : Option Command). option_map_or (λ (c : Command). left_by c.kind h slot) o (h slot))
    (fun_ext (holds_bare commands n)) (get_map without_before commands n)
    ∙ bare_left (slice_get commands n) (holds commands n) slot

-- what slots hold behind all commands
abbrev held_behind : List Command → Slot → Content
held_behind commands = holds commands (length commands)

behind_bare : (commands : List Command) → held_behind (map without_before commands) ≡ held_behind commands
behind_bare commands =
    ap (λ (n : ℕ). holds (map without_before commands) n) (length-map commands without_before) ∙ fun_ext (holds_bare commands (length commands))

pub held_same : (xs ys : List Command) → map without_before xs ≡ map without_before ys → holds xs (length xs) ≡ holds ys (length ys)
held_same xs ys same = sym (behind_bare xs) ∙ ap held_behind same ∙ behind_bare ys

-- ---- what a map stands for

-- commands behind others, for one worker
pub for_both : (worker : Worker) (given xs ys : List (Worker × Command)) → AreSame xs ys
    → map without_before (commands_for worker (given ++ xs)) ≡ map without_before (commands_for worker (given ++ ys))
for_both worker given xs ys same =
    ap (map without_before) (for_append worker given xs)
    ∙ map-append without_before (commands_for worker given) (commands_for worker xs)
    ∙ ap (λ (cs : List Command). map without_before (commands_for worker given) ++ cs) (same worker)
    ∙ sym (map-append without_before (commands_for worker given) (commands_for worker ys))
    ∙ sym (ap (map without_before) (for_append worker given ys))

pub stands_same : (given xs ys : List (Worker × Command)) (versions : Versions) → AreSame xs ys → MapStands (given ++ xs) versions
    → MapStands (given ++ ys) versions
stands_same given xs ys versions same stands = record {
  slots = stands.slots;
  all = stands.all;
  held = λ worker slot kept.
      sym (ap (λ (h : Slot → Content). h slot)
      (held_same (commands_for worker (given ++ xs)) (commands_for worker (given ++ ys)) (for_both worker given xs ys same)))
      ∙ stands.held worker slot kept;
  latest = λ object there.
      stands.latest object there
      ∙ fold-append (greater_put (main_slot object)) 0 given xs
      ∙ greatest_same (main_slot object) (greatest_put (main_slot object) given) xs ys same
      ∙ sym (fold-append (greater_put (main_slot object)) 0 given ys);
}

-- ---- which commands are legal

legal_bare : (job : Job) (past cs : List Command) → AreLegal job past cs → AreLegal job (map without_before past) (map without_before cs)
legal_bare job past [] legal = tt
legal_bare job past (c ∷ cs) legal = (
  subst (λ (h : Slot → Content). IsLegalKind job h c.kind) (sym (behind_bare past)) legal.0,
  subst (λ (all : List Command). AreLegal job all (map without_before cs)) (map-append without_before past (c ∷ []))
      (legal_bare job (past ++ c ∷ []) cs legal.1),
)

bare_legal : (job : Job) (past cs : List Command) → AreLegal job (map without_before past) (map without_before cs) → AreLegal job past cs
bare_legal job past [] legal = tt
bare_legal job past (c ∷ cs) legal = (
  subst (λ (h : Slot → Content). IsLegalKind job h c.kind) (behind_bare past) legal.0,
  bare_legal job (past ++ c ∷ []) cs
      (subst (λ (all : List Command). AreLegal job all (map without_before cs)) (sym (map-append without_before past (c ∷ []))) legal.1),
)

pub legal_same : (job : Job) (past xs ys : List Command) → map without_before xs ≡ map without_before ys → AreLegal job past xs → AreLegal job past ys
legal_same job past xs ys same legal =
    bare_legal job past ys (subst (AreLegal job (map without_before past)) same (legal_bare job past xs legal))

-- ---- what they send and receive

-- a group of no commands, for its epoch and its instance
abbrev pub group_of : ℕ → ℕ → Group
group_of epoch instance = record { epoch = epoch; instance = instance; source = FromSingle; commands = [] }

sent_by : (to : Worker) (group : Group) (before : Slot → Content) (kind : Kind)
    → sent to group before kind ≡ sent to (group_of group.epoch group.instance) before kind
sent_by to group before (Send slot peer entry) = refl
sent_by to group before (Create slot iota number) = refl
sent_by to group before (Load slot version value) = refl
sent_by to group before (Receive slot version) = refl
sent_by to group before (Copy from to_slot) = refl
sent_by to group before (Run position func params reads writes) = refl
sent_by to group before (Fetch slot ticket) = refl

received_by : (group : Group) (number : ℕ) (kind : Kind) → received group number kind ≡ received (group_of group.epoch group.instance) number kind
received_by group number (Receive slot version) = refl
received_by group number (Create slot iota first) = refl
received_by group number (Load slot version value) = refl
received_by group number (Send slot peer entry) = refl
received_by group number (Copy from to_slot) = refl
received_by group number (Run position func params reads writes) = refl
received_by group number (Fetch slot ticket) = refl

-- nothing else of a group counts
pub new_sent_by : (to : Worker) (group : Group) (past cs : List Command)
    → new_sent to group past cs ≡ new_sent to (group_of group.epoch group.instance) past cs
new_sent_by to group past [] = refl
new_sent_by to group past (c ∷ cs) =
    ap₂ (λ (xs ys : List Key). xs ++ ys) (sent_by to group (holds past (length past)) c.kind) (new_sent_by to group (past ++ c ∷ []) cs)

pub new_received_by : (group : Group) (cs : List Command) → new_received group cs ≡ new_received (group_of group.epoch group.instance) cs
new_received_by group [] = refl
new_received_by group (c ∷ cs) = ap₂ (λ (xs ys : List Key). xs ++ ys) (received_by group c.id c.kind) (new_received_by group cs)

new_sent_bare : (to : Worker) (group : Group) (past cs : List Command)
    → new_sent to group (map without_before past) (map without_before cs) ≡ new_sent to group past cs
new_sent_bare to group past [] = refl
new_sent_bare to group past (c ∷ cs) =
    ap₂ (λ (xs ys : List Key). xs ++ ys) (ap (λ (h : Slot → Content). sent to group h c.kind) (behind_bare past))
    (ap (λ (all : List Command). new_sent to group all (map without_before cs)) (sym (map-append without_before past (c ∷ [])))
    ∙ new_sent_bare to group (past ++ c ∷ []) cs)

new_received_bare : (group : Group) (cs : List Command) → new_received group (map without_before cs) ≡ new_received group cs
new_received_bare group [] = refl
new_received_bare group (c ∷ cs) = ap (λ (keys : List Key). received group c.id c.kind ++ keys) (new_received_bare group cs)

pub new_sent_same : (to : Worker) (group : Group) (past xs ys : List Command) → map without_before xs ≡ map without_before ys
    → new_sent to group past xs ≡ new_sent to group past ys
new_sent_same to group past xs ys same =
    sym (new_sent_bare to group past xs) ∙ ap (new_sent to group (map without_before past)) same ∙ new_sent_bare to group past ys

pub new_received_same : (group : Group) (xs ys : List Command) → map without_before xs ≡ map without_before ys → new_received group xs ≡ new_received group ys
new_received_same group xs ys same = sym (new_received_bare group xs) ∙ ap (new_received group) same ∙ new_received_bare group ys

-- one list behind another
pub new_sent_append : (to : Worker) (group : Group) (past xs ys : List Command)
    → new_sent to group past (xs ++ ys) ≡ new_sent to group past xs ++ new_sent to group (past ++ xs) ys
new_sent_append to group past [] ys = ap (λ (all : List Command). new_sent to group all ys) (sym (append-nil past))
new_sent_append to group past (x ∷ xs) ys =
    let first : List Key = sent to group (holds past (length past)) x.kind in
    ap (λ (keys : List Key). first ++ keys) (new_sent_append to group (past ++ x ∷ []) xs ys
    ∙ ap (λ (all : List Command). new_sent to group (past ++ x ∷ []) xs ++ new_sent to group all ys) (append_assoc past (x ∷ []) xs))
    ∙ sym (append_assoc first (new_sent to group (past ++ x ∷ []) xs) (new_sent to group (past ++ x ∷ xs) ys))

pub new_received_append : (group : Group) (xs ys : List Command) → new_received group (xs ++ ys) ≡ new_received group xs ++ new_received group ys
new_received_append group [] ys = refl
new_received_append group (x ∷ xs) ys =
    ap (λ (keys : List Key). received group x.id x.kind ++ keys) (new_received_append group xs ys)
    ∙ sym (append_assoc (received group x.id x.kind) (new_received group xs) (new_received group ys))
