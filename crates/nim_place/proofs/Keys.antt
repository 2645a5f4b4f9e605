-- The keys of what a longer list of orders sends and receives: those that it had, and those of its last group.
use Rattle.std.proofs.Common.{◌≡◌, ℕ, suc, zero, ◌+◌, ◌<◌, List, [], ◌∷◌, ◌++◌, length, refl, ap, ap₂, sym, ◌∙◌, arith, Option, None, Some}
use Rattle.std.specs.Prelude.{All, slice_get, true}
use Rattle.std.specs.List.{flat_map, range_with_len}
use Rattle.std.specs.Option.{option_map_or}
use Rattle.std.proofs.Math.Path.{fun_ext}
use Rattle.std.proofs.lemmas.List.{append-nil, append_assoc, length-append, length-map}
use Rattle.std.proofs.lemmas.List.Concat.{flat_map-append}
use Rattle.std.proofs.lemmas.List.Elements.{All-append, All-get_or, All-map, All-nil, All-weaker}
use Rattle.std.proofs.lemmas.Option.{get_or_from_slice_get, slice_get_within}
use Rattle.nim_base.specs.declared.number.Slot.{Slot}
use Rattle.nim_base.specs.declared.number.Worker.{Worker}
use Rattle.nim_command.specs.declared.command.Command.{Command}
use Rattle.nim_command.specs.Holds.{Content, holds}
use Rattle.nim_command.specs.Waits.{Group, Member, commands_of, members_from, members_of, single_group}
use Rattle.nim_message.specs.declared.order.ToWorker.{ToWorker}
use Rattle.nim_message.specs.declared.order.ToWorker.TheVariants.{Single}
use Rattle.nim_message.specs.Orders.{Session, session_of}
use Rattle.nim_plan.specs.Listing.{members_at}
use Rattle.nim_plan.specs.Paired.{Key, keys_received, keys_sent, of_members, received, sent}
use Rattle.nim_plan.proofs.Listed.{group_added, length_members}
use Rattle.nim_place.specs.Extends.{single_with}
use Rattle.nim_base.proofs.Lists.{get_front, get_last, range_append}
use Rattle.nim_place.proofs.History.{holds_front}
use Rattle.nim_place.proofs.Singles.{single_counts}

-- ---- places

flat_same : {X : Type 0} (f g : ℕ → List X) (a n : ℕ) → ((place : ℕ) → place < a + n → f place ≡ g place)
    → flat_map f (range_with_len a n) ≡ flat_map g (range_with_len a n)
flat_same {X} f g a zero same = refl
flat_same {X} f g a (suc n) same =
    ap₂ (λ (xs ys : List X). xs ++ ys) (same a (omega arith)) (flat_same f g (a + 1) n (λ place below. same place (omega (arith, below))))

get_at : {X : Type 0} (xs : List X) (x : X) (ys : List X) → slice_get (xs ++ x ∷ ys) (length xs) ≡ Some x
get_at [] x ys = refl
get_at (y ∷ xs) x ys = get_at xs x ys

-- ---- members

abbrev member_in : ℕ → Command → Member
member_in number command = record { group = number; command = command }

members_below : (number : ℕ) (groups : List Group) → All (λ (m : Member). m.group < number + length groups) (members_from number groups)
members_below number [] = All-nil (λ (m : Member). m.group < number + 0)
members_below number (group ∷ groups) =
    All-append (λ (m : Member). m.group < number + length (group ∷ groups)) (members_at number group.commands) (members_from (number + 1) groups)
    (All-map (λ (m : Member). m.group < number + length (group ∷ groups)) (member_in number) group.commands
    (λ k d within. omega arith))
    (All-weaker (λ (m : Member). m.group < number + 1 + length groups) (λ (m : Member). m.group < number + length (group ∷ groups))
    (λ m below. omega (arith, below))
    (members_from (number + 1) groups) (members_below (number + 1) groups))

member_below : (groups : List Group) (place : ℕ) (m : Member) → slice_get (members_of groups) place ≡ Some m → m.group < length groups
member_below groups place m there =
    let below = All-get_or (λ (n : Member). n.group < 0 + length groups) (members_of groups) place m (slice_get_within (members_of groups) place m there)
    (members_below 0 groups) in
    let is = ap (λ (n : Member). n.group) (get_or_from_slice_get (members_of groups) place m m there) in
    omega (arith, below, is)

-- ---- what a function gives for the members of groups

-- what it gives for the member at a place
abbrev given_at : {X : Type 0} (f : Group → ℕ → Member → List X) (groups : List Group) (members : List Member) → ℕ → List X
given_at f groups members place =
    option_map_or (λ (m : Member). option_map_or (λ (group : Group). f group place m) (slice_get groups m.group) []) (slice_get members place) []

-- for commands behind so many others, all of one group
abbrev given_behind : {X : Type 0} → (ℕ → Member → List X) → ℕ → ℕ → List Command → List X
given_behind f number place [] = []
given_behind f number place (c ∷ cs) = f place (record { group = number; command = c }) ++ given_behind f number (place + 1) cs

-- at a place that was there nothing changes
given_front : {X : Type 0} (f g : Group → ℕ → Member → List X) (groups : List Group) (group : Group) (place : ℕ) → place < length (members_of groups)
    → ((one : Group) (m : Member) → f one place m ≡ g one place m)
    → given_at f (groups ++ group ∷ []) (members_of (groups ++ group ∷ [])) place ≡ given_at g groups (members_of groups) place
given_front {X} f g groups group place within same =
    ap (λ (ms : List Member). option_map_or (λ (m : Member). option_map_or (λ (one : Group). f one place m) (slice_get (groups ++ group ∷ []) m.group) [])
    (slice_get ms place) [])
    (group_added groups group)
    ∙ ap (λ (o : Option Member). option_map_or (λ (m : Member). option_map_or (λ (one : Group). f one place m)
    (slice_get (groups ++ group ∷ []) m.group) []) o [])
    (get_front (members_of groups) (members_at (length groups) group.commands) place within)
    ∙ either (slice_get (members_of groups) place) refl where
      either : (o : Option Member) → slice_get (members_of groups) place ≡ o
          → option_map_or (λ (m : Member). option_map_or (λ (one : Group). f one place m) (slice_get (groups ++ group ∷ []) m.group) []) o []
          ≡ option_map_or (λ (m : Member). option_map_or (λ (one : Group). g one place m) (slice_get groups m.group) []) o []
      either None there = refl
      either (Some m) there =
          ap (λ (o : Option Group). option_map_or (λ (one : Group). f one place m) o [])
          (get_front groups (group ∷ []) m.group (member_below groups place m there))
          ∙ ap (λ (h : Group → List X). option_map_or h (slice_get groups m.group) []) (fun_ext (λ one. same one m))

-- at the places behind it is the last group's
given_last : {X : Type 0} (f : Group → ℕ → Member → List X) (all : List Group) (group : Group) (number : ℕ) (members past : List Member) (cs : List Command)
    → slice_get all number ≡ Some group → members ≡ past ++ members_at number cs
    → flat_map (given_at f all members) (range_with_len (length past) (length cs)) ≡ given_behind (f group) number (length past) cs
given_last {X} f all group number members past [] there is = refl
given_last {X} f all group number members past (c ∷ cs) there is =
    let m : Member = record { group = number; command = c } in
    let next : length (past ++ m ∷ []) ≡ length past + 1 = omega (arith, length-append past (m ∷ [])) in
    let found : slice_get members (length past) ≡ Some m =
    ap (λ (ms : List Member). slice_get ms (length past)) is ∙ get_at past m (members_at number cs) in
    ap₂ (λ (xs ys : List X). xs ++ ys)
    (ap (λ (o : Option Member). option_map_or (λ (n : Member). option_map_or (λ (one : Group). f one (length past) n) (slice_get all n.group) []) o []) found
    ∙ ap (λ (o : Option Group). option_map_or (λ (one : Group). f one (length past) m) o []) there)
    (ap (λ (n : ℕ). flat_map (given_at f all members) (range_with_len n (length cs))) (sym next)
    ∙ given_last f all group number members (past ++ m ∷ []) cs there (is ∙ sym (append_assoc past (m ∷ []) (members_at number cs)))
    ∙ ap (λ (n : ℕ). given_behind (f group) number n cs) next)

-- so one more group adds what it gives for this group's members
given_more : {X : Type 0} (f g : Group → ℕ → Member → List X) (groups : List Group) (group : Group)
    → ((place : ℕ) (one : Group) (m : Member) → place < length (members_of groups) → f one place m ≡ g one place m)
    → of_members f (groups ++ group ∷ []) ≡ of_members g groups ++ given_behind (f group) (length groups) (length (members_of groups)) group.commands
given_more {X} f g groups group same =
    let members : List Member = members_of groups in
    let more : List Member = members_of (groups ++ group ∷ []) in
    let step : ℕ → List X = given_at f (groups ++ group ∷ []) more in
    let count : length more ≡ length members + length group.commands =
    ap length (group_added groups group)
    ∙ length-append members (members_at (length groups) group.commands)
    ∙ ap (λ (n : ℕ). length members + n) (length-map group.commands (member_in (length groups))) in
    let zero_first : 0 + length members ≡ length members = omega arith in
    ap (λ (n : ℕ). flat_map step (range_with_len 0 n)) count
    ∙ ap (flat_map step) (range_append 0 (length members) (length group.commands))
    ∙ flat_map-append step (range_with_len 0 (length members)) (range_with_len (0 + length members) (length group.commands))
    ∙ ap₂ (λ (xs ys : List X). xs ++ ys)
    (flat_same step (given_at g groups members) 0 (length members)
    (λ place below. given_front f g groups group place (omega (arith, below)) (λ one m. same place one m (omega (arith, below)))))
    (ap (λ (n : ℕ). flat_map step (range_with_len n (length group.commands))) zero_first
    ∙ given_last f (groups ++ group ∷ []) group (length groups) more members group.commands (get_last groups group) (group_added groups group))

-- ---- keys

-- the keys of what commands behind others send
abbrev pub new_sent : Worker → Group → List Command → List Command → List Key
new_sent to group past [] = []
new_sent to group past (c ∷ cs) = sent to group (holds past (length past)) c.kind ++ new_sent to group (past ++ c ∷ []) cs

-- and receive
abbrev pub new_received : Group → List Command → List Key
new_received group [] = []
new_received group (c ∷ cs) = received group c.id c.kind ++ new_received group cs

sent_behind : (to : Worker) (group : Group) (number : ℕ) (all past cs : List Command) → all ≡ past ++ cs
    → given_behind (λ (place : ℕ) (m : Member). sent to group (holds all place) m.command.kind) number (length past) cs ≡ new_sent to group past cs
sent_behind to group number all past [] is = refl
sent_behind to group number all past (c ∷ cs) is =
    let next : length past + 1 ≡ length (past ++ c ∷ []) = omega (arith, length-append past (c ∷ [])) in
    let before : holds all (length past) ≡ holds past (length past) =
    ap (λ (cs : List Command). holds cs (length past)) is ∙ fun_ext (holds_front past (c ∷ cs) (length past) (omega arith)) in
    ap₂ (λ (xs ys : List Key). xs ++ ys) (ap (λ (h : Slot → Content). sent to group h c.kind) before)
    (ap (λ (n : ℕ). given_behind (λ (place : ℕ) (m : Member). sent to group (holds all place) m.command.kind) number n cs) next
    ∙ sent_behind to group number all (past ++ c ∷ []) cs (is ∙ sym (append_assoc past (c ∷ []) cs)))

received_behind : (group : Group) (number place : ℕ) (cs : List Command)
    → given_behind (λ (place : ℕ) (m : Member). received group m.command.id m.command.kind) number place cs ≡ new_received group cs
received_behind group number place [] = refl
received_behind group number place (c ∷ cs) = ap (λ (rest : List Key). received group c.id c.kind ++ rest) (received_behind group number (place + 1) cs)

-- the keys sent in groups
abbrev pub sent_in : Worker → List Group → List Key
sent_in to groups = of_members (λ (group : Group) (place : ℕ) (m : Member). sent to group (holds (commands_of groups) place) m.command.kind) groups

abbrev pub received_in : List Group → List Key
received_in groups = of_members (λ (group : Group) (place : ℕ) (m : Member). received group m.command.id m.command.kind) groups

commands_more : (groups : List Group) (group : Group) → commands_of (groups ++ group ∷ []) ≡ commands_of groups ++ group.commands
commands_more groups group =
    flat_map-append (λ (g : Group). g.commands) groups (group ∷ []) ∙ ap (λ (rest : List Command). commands_of groups ++ rest) (append-nil group.commands)

sent_more : (to : Worker) (groups : List Group) (group : Group)
    → sent_in to (groups ++ group ∷ []) ≡ sent_in to groups ++ new_sent to group (commands_of groups) group.commands
sent_more to groups group =
    let all : List Command = commands_of (groups ++ group ∷ []) in
    let is : all ≡ commands_of groups ++ group.commands = commands_more groups group in
    let count = length_members 0 groups in
    given_more (λ (g : Group) (place : ℕ) (m : Member). sent to g (holds all place) m.command.kind)
    (λ (g : Group) (place : ℕ) (m : Member). sent to g (holds (commands_of groups) place) m.command.kind) groups group
    (λ place one m below. ap (λ (h : Slot → Content). sent to one h m.command.kind)
    (ap (λ (cs : List Command). holds cs place) is ∙ fun_ext (holds_front (commands_of groups) group.commands place (omega (arith, below, count)))))
    ∙ ap (λ (rest : List Key). sent_in to groups ++ rest)
    (ap (λ (n : ℕ). given_behind (λ (place : ℕ) (m : Member). sent to group (holds all place) m.command.kind) (length groups) n group.commands) count
    ∙ sent_behind to group (length groups) all (commands_of groups) group.commands is)

received_more : (groups : List Group) (group : Group) → received_in (groups ++ group ∷ []) ≡ received_in groups ++ new_received group group.commands
received_more groups group =
    given_more (λ (g : Group) (place : ℕ) (m : Member). received g m.command.id m.command.kind)
    (λ (g : Group) (place : ℕ) (m : Member). received g m.command.id m.command.kind) groups group (λ place one m below. refl)
    ∙ ap (λ (rest : List Key). received_in groups ++ rest) (received_behind group (length groups) (length (members_of groups)) group.commands)

-- what a list sends with orders behind it that ask for one group more
pub keys_sent_by : (to : Worker) (orders more : List ToWorker) (group : Group)
    → (session_of (orders ++ more)).groups ≡ (session_of orders).groups ++ group ∷ []
    → keys_sent to (orders ++ more) ≡ keys_sent to orders ++ new_sent to group (commands_of (session_of orders).groups) group.commands
keys_sent_by to orders more group is = ap (sent_in to) is ∙ sent_more to (session_of orders).groups group

-- and what it receives
pub keys_received_by : (orders more : List ToWorker) (group : Group)
    → (session_of (orders ++ more)).groups ≡ (session_of orders).groups ++ group ∷ []
    → keys_received (orders ++ more) ≡ keys_received orders ++ new_received group group.commands
keys_received_by orders more group is = ap received_in is ∙ received_more (session_of orders).groups group

-- so with a Single behind it
pub keys_sent_more : (to : Worker) (epoch instance : ℕ) (orders : List ToWorker) (commands : List Command) → (session_of orders).begun ≡ true
    → (session_of orders).epoch ≡ epoch
    → keys_sent to (orders ++ single_with epoch instance commands)
    ≡ keys_sent to orders ++ new_sent to (single_group epoch instance commands) (commands_of (session_of orders).groups) commands
keys_sent_more to epoch instance orders [] begun same = ap (keys_sent to) (append-nil orders) ∙ sym (append-nil (keys_sent to orders))
keys_sent_more to epoch instance orders (c ∷ cs) begun same =
    keys_sent_by to orders (Single epoch instance (c ∷ cs) ∷ []) (single_group epoch instance (c ∷ cs))
    (ap (λ (s : Session). s.groups) (single_counts epoch instance orders (c ∷ cs) begun same))

pub keys_received_more : (epoch instance : ℕ) (orders : List ToWorker) (commands : List Command) → (session_of orders).begun ≡ true
    → (session_of orders).epoch ≡ epoch
    → keys_received (orders ++ single_with epoch instance commands)
    ≡ keys_received orders ++ new_received (single_group epoch instance commands) commands
keys_received_more epoch instance orders [] begun same = ap keys_received (append-nil orders) ∙ sym (append-nil (keys_received orders))
keys_received_more epoch instance orders (c ∷ cs) begun same =
    keys_received_by orders (Single epoch instance (c ∷ cs) ∷ []) (single_group epoch instance (c ∷ cs))
    (ap (λ (s : Session). s.groups) (single_counts epoch instance orders (c ∷ cs) begun same))
