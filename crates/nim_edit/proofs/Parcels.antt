-- What workers send and receive in turn, each frame with the version that the sender's slot holds.
use Rattle.std.proofs.Common.{◌≡◌, ℕ, ◌<◌, ◌≤◌, Bool, true, false, List, [], ◌∷◌, ◌++◌, map, refl, ap, ap₂, sym, subst, ◌∙◌, arith}
use Rattle.std.proofs.Common.{Some}
use Rattle.std.specs.Prelude.{◌==◌, ◌&&◌, if◌then◌else◌}
use Rattle.std.specs.List.{fold}
use Rattle.std.specs.Option.{option_map_or}
use Rattle.std.proofs.Math.Path.{fun_ext}
use Rattle.std.proofs.lemmas.List.{append-nil, append_assoc}
use Rattle.nim_base.specs.declared.number.Object.{Object}
use Rattle.nim_base.specs.declared.number.Slot.{Slot}
use Rattle.nim_base.specs.declared.number.Worker.{Worker}
use Rattle.nim_command.specs.declared.command.Command.{Command}
use Rattle.nim_command.specs.declared.command.Kind.{Kind}
use Rattle.nim_command.specs.declared.command.Kind.TheVariants.{Send, Receive}
use Rattle.nim_command.specs.Holds.{Content, content_at, left_by}
use Rattle.nim_command.specs.Numbers.{entry_number, main_slot}
use Rattle.nim_command.specs.Slots.{is_among, object_of}
use Rattle.nim_place.specs.Schedule.{copies_of, moves, receive_of, send_of}
use Rattle.nim_place.specs.Versions.{Versions, after_commands, held_at, latest_of, with_version}
use Rattle.nim_place.proofs.Held.{AreHeld, moves_held}
use Rattle.nim_place.proofs.Legal.{main_of}
use Rattle.nim_place.proofs.Puts.{IsPut, IsWhole, kept_for, put_all, whole_after}
use Rattle.nim_template.proofs.Planes.{Has, current_there, pick_held, taken_is}

-- ---- slots and frames

-- what the slots of all workers hold
abbrev pub Held : Type 0
Held = Worker → Slot → Content

-- behind a command
abbrev pub held_with : Worker × Command → Held → Held
held_with c held = λ worker. if c.0.0 == worker.0 then left_by c.1.kind (held worker) else held worker

-- behind commands in turn
abbrev pub held_after : Held → List (Worker × Command) → Held
held_after held [] = held
held_after held (c ∷ cs) = held_after (held_with c held) cs

-- a frame: to whom, for which entry, of which object and of which version
abbrev pub Parcel : Type 0
Parcel = Worker × ℕ × Object × ℕ

-- the version of a content; that of an empty slot is 0
abbrev pub version_in : Content → ℕ
version_in content = option_map_or (λ (c : Object × ℕ). c.1) content 0

-- what a command sends
abbrev pub parcel : Held → Worker → Kind → List Parcel
parcel held from (Send slot peer entry) = (peer, entry, object_of slot, version_in (held from slot)) ∷ []
parcel held from _ = []

abbrev pub parcels : Held → List (Worker × Command) → List Parcel
parcels held [] = []
parcels held (c ∷ cs) = parcel held c.0 c.1.kind ++ parcels (held_with c held) cs

-- what a command receives
abbrev pub taking : Worker → ℕ → Kind → List Parcel
taking to number (Receive slot version) = (to, number, object_of slot, version) ∷ []
taking to number _ = []

abbrev pub takings : List (Worker × Command) → List Parcel
takings [] = []
takings (c ∷ cs) = taking c.0 c.1.id c.1.kind ++ takings cs

pub held_append : (held : Held) (xs ys : List (Worker × Command)) → held_after held (xs ++ ys) ≡ held_after (held_after held xs) ys
held_append held [] ys = refl
held_append held (x ∷ xs) ys = held_append (held_with x held) xs ys

pub parcels_append : (held : Held) (xs ys : List (Worker × Command)) → parcels held (xs ++ ys) ≡ parcels held xs ++ parcels (held_after held xs) ys
parcels_append held [] ys = refl
parcels_append held (x ∷ xs) ys =
    ap (λ (ps : List Parcel). parcel held x.0 x.1.kind ++ ps) (parcels_append (held_with x held) xs ys)
    ∙ sym (append_assoc (parcel held x.0 x.1.kind) (parcels (held_with x held) xs) (parcels (held_after (held_with x held) xs) ys))

pub takings_append : (xs ys : List (Worker × Command)) → takings (xs ++ ys) ≡ takings xs ++ takings ys
takings_append [] ys = refl
takings_append (x ∷ xs) ys =
    ap (λ (ps : List Parcel). taking x.0 x.1.id x.1.kind ++ ps) (takings_append xs ys)
    ∙ sym (append_assoc (taking x.0 x.1.id x.1.kind) (takings xs) (takings ys))

-- what is sent is received, in the same order, in one list behind another
pub both_balanced : (held : Held) (xs ys : List (Worker × Command)) → parcels held xs ≡ takings xs → parcels (held_after held xs) ys ≡ takings ys
    → parcels held (xs ++ ys) ≡ takings (xs ++ ys)
both_balanced held xs ys first second =
    parcels_append held xs ys ∙ ap₂ (λ (ps qs : List Parcel). ps ++ qs) first second ∙ sym (takings_append xs ys)

-- sends, and behind them the receives of what they send
pub then_balanced : (held : Held) (xs ys : List (Worker × Command)) → parcels held xs ≡ takings ys → takings xs ≡ []
    → parcels (held_after held xs) ys ≡ [] → parcels held (xs ++ ys) ≡ takings (xs ++ ys)
then_balanced held xs ys same nothing none =
    parcels_append held xs ys
    ∙ ap₂ (λ (ps qs : List Parcel). ps ++ qs) same none
    ∙ append-nil (takings ys)
    ∙ sym (takings_append xs ys ∙ ap (λ (ps : List Parcel). ps ++ takings ys) nothing)

-- a Send leaves the slots
pub send_keeps : (from : Worker) (number : ℕ) (slot : Slot) (peer : Worker) (entry : ℕ) (waits : List ℕ) (held : Held)
    → held_with (from, record { id = number; kind = Send slot peer entry; before = waits }) held ≡ held
send_keeps from number slot peer entry waits held = fun_ext (λ worker. either worker (from.0 == worker.0)) where
  either : (worker : Worker) (b : Bool) → (if b then held worker else held worker) ≡ held worker
  either worker true = refl
  either worker false = refl

-- what a worker's slot holds behind a command
pub step_at : (c : Worker × Command) (held : Held) (worker : Worker) (slot : Slot) (b : Bool) → (c.0.0 == worker.0) ≡ b
    → held_with c held worker slot ≡ (if b then left_by c.1.kind (held worker) slot else held worker slot)
step_at c held worker slot true is = ap (λ (b : Bool). (if b then left_by c.1.kind (held worker) else held worker) slot) is
step_at c held worker slot false is = ap (λ (b : Bool). (if b then left_by c.1.kind (held worker) else held worker) slot) is

-- ---- what a map of versions has

-- slots that differ in main slots only where a version was put into slots of a worker
abbrev pub Puts : Held → Held → Worker → ℕ → List Slot → Type 0
Puts now held owner version puts =
    (worker : Worker) (slot : Slot) → slot.0 < 512
    → now worker slot ≡ (if is_among puts slot && (owner.0 == worker.0) then content_at slot version else held worker slot)

pub has_puts : (held now : Held) (versions : Versions) (owner : Worker) (version : ℕ) (puts : List Slot) → Has versions held → IsWhole versions
    → owner.0 < versions.workers → versions.objects ≤ 512 → Puts now held owner version puts → Has (fold (with_version owner version) versions puts) now
has_puts held now versions owner version puts has whole below few is worker object found lower inside there =
    let put : IsPut versions owner version puts (fold (with_version owner version) versions puts) = put_all versions owner version puts whole below in
    let low : worker.0 < versions.workers = omega (arith, put.workers, lower) in
    let deep : object.0 < versions.objects = omega (arith, put.objects, inside) in
    let slot : Slot = main_slot object in
    pick_held (is_among puts slot && (owner.0 == worker.0)) version found object (held_at versions worker slot) (held worker slot) (now worker slot)
    (is worker slot (omega (arith, deep, few))
    ∙ ap (λ (o : Object). if is_among puts slot && (owner.0 == worker.0) then Some (o, version) else held worker slot)
    (main_of object (omega (arith, deep, few))))
    (sym there ∙ put.held worker slot (kept_for versions worker slot low deep)) (has worker object found low deep)

and_true : (a : Bool) → (a && true) ≡ a
and_true true = refl
and_true false = refl

and_false : (a : Bool) → (a && false) ≡ false
and_false true = refl
and_false false = refl

-- what a command puts that leaves a version in slots of its worker
pub puts_by : (owner : Worker) (command : Command) (held : Held) (version : ℕ) (puts : List Slot)
    → ((before : Slot → Content) (slot : Slot) → left_by command.kind before slot ≡ (if is_among puts slot then content_at slot version else before slot))
    → Puts (held_with (owner, command) held) held owner version puts
puts_by owner command held version puts is worker slot low = either (owner.0 == worker.0) refl where
  either : (b : Bool) → (owner.0 == worker.0) ≡ b
      → held_with (owner, command) held worker slot ≡ (if is_among puts slot && (owner.0 == worker.0) then content_at slot version else held worker slot)
  either true here =
      step_at (owner, command) held worker slot true here ∙ is (held worker) slot
      ∙ ap (λ (b : Bool). if b then content_at slot version else held worker slot)
      (sym (ap (λ (b : Bool). is_among puts slot && b) here ∙ and_true (is_among puts slot)))
  either false apart =
      step_at (owner, command) held worker slot false apart
      ∙ ap (λ (b : Bool). if b then content_at slot version else held worker slot)
      (sym (ap (λ (b : Bool). is_among puts slot && b) apart ∙ and_false (is_among puts slot)))

-- ---- the copies of a task

copies_sent : (versions : Versions) (number : ℕ) (owner : Worker) (held : Held) (ms : List _) → Has versions held → versions.objects ≤ 512
    → AreHeld versions ms → parcels held (map (send_of number owner) ms) ≡ takings (map (receive_of versions number owner) ms)
copies_sent versions number owner held [] has few are = refl
copies_sent versions number owner held (m ∷ ms) has few are =
    ap₂ (λ (v : ℕ) (ps : List Parcel). (owner, entry_number number 1 m.index, object_of (main_slot m.object), v) ∷ ps)
    (ap version_in (current_there versions held m.object m.from has few are.0))
    (ap (λ (h : Held). parcels h (map (send_of number owner) ms))
    (send_keeps m.from (entry_number number 0 m.index) (main_slot m.object) owner (entry_number number 1 m.index) [] held)
    ∙ copies_sent versions number owner held ms has few are.1)

copies_keep : (number : ℕ) (owner : Worker) (held : Held) (ms : List _) → held_after held (map (send_of number owner) ms) ≡ held
copies_keep number owner held [] = refl
copies_keep number owner held (m ∷ ms) =
    ap (λ (h : Held). held_after h (map (send_of number owner) ms))
    (send_keeps m.from (entry_number number 0 m.index) (main_slot m.object) owner (entry_number number 1 m.index) [] held)
    ∙ copies_keep number owner held ms

sends_take : (number : ℕ) (owner : Worker) (ms : List _) → takings (map (send_of number owner) ms) ≡ []
sends_take number owner [] = refl
sends_take number owner (m ∷ ms) = sends_take number owner ms

receives_send : (versions : Versions) (number : ℕ) (owner : Worker) (held : Held) (ms : List _)
    → parcels held (map (receive_of versions number owner) ms) ≡ []
receives_send versions number owner held [] = refl
receives_send versions number owner held (m ∷ ms) =
    receives_send versions number owner (held_with (receive_of versions number owner m) held) ms

received_has : (base now : Versions) (number : ℕ) (owner : Worker) (held : Held) (ms : List _) → Has now held → IsWhole now → owner.0 < now.workers
    → now.objects ≤ 512 → Has (after_commands now (copies_of base number owner ms)) (held_after held (map (receive_of base number owner) ms))
received_has base now number owner held [] has whole below few = has
received_has base now number owner held (m ∷ ms) has whole below few =
    let slot : Slot = main_slot m.object in
    let version : ℕ = latest_of base m.object in
    let next : Versions = with_version owner version now slot in
    let put : IsPut now owner version (slot ∷ []) next = put_all now owner version (slot ∷ []) whole below in
    received_has base next number owner (held_with (receive_of base number owner m) held) ms
    (has_puts held (held_with (receive_of base number owner m) held) now owner version (slot ∷ []) has whole below few
    (puts_by owner (receive_of base number owner m).1 held version (slot ∷ [])
    (λ before other. taken_is slot other version (content_at slot version) (before other) refl)))
    (whole_after now owner version (slot ∷ []) next put whole) (omega (arith, put.workers, below)) (omega (arith, put.objects, few))

-- what a task's home gets
abbrev pub copies_ranked : Versions → ℕ → Worker → List Object → List (Worker × Command)
copies_ranked versions number owner reads =
    map (send_of number owner) (moves versions owner [] reads) ++ map (receive_of versions number owner) (moves versions owner [] reads)

-- it is received as it is sent
pub copies_balanced : (versions : Versions) (number : ℕ) (owner : Worker) (held : Held) (reads : List Object) → Has versions held → versions.objects ≤ 512
    → parcels held (copies_ranked versions number owner reads) ≡ takings (copies_ranked versions number owner reads)
copies_balanced versions number owner held reads has few =
    let ms = moves versions owner [] reads in
    then_balanced held (map (send_of number owner) ms) (map (receive_of versions number owner) ms)
    (copies_sent versions number owner held ms has few (moves_held versions owner reads)) (sends_take number owner ms)
    (receives_send versions number owner (held_after held (map (send_of number owner) ms)) ms)

-- and the slots have what the map has behind it
pub copies_has : (versions : Versions) (number : ℕ) (owner : Worker) (held : Held) (reads : List Object) → Has versions held → IsWhole versions
    → owner.0 < versions.workers → versions.objects ≤ 512
    → Has (after_commands versions (copies_of versions number owner (moves versions owner [] reads)))
    (held_after held (copies_ranked versions number owner reads))
copies_has versions number owner held reads has whole below few =
    let ms = moves versions owner [] reads in
    let sends : List (Worker × Command) = map (send_of number owner) ms in
    let receives : List (Worker × Command) = map (receive_of versions number owner) ms in
    subst (Has (after_commands versions (copies_of versions number owner ms)))
    (sym (held_append held sends receives ∙ ap (λ (h : Held). held_after h receives) (copies_keep number owner held ms)))
    (received_has versions versions number owner held ms has whole below few)
