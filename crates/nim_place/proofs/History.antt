-- A map of versions stands for the commands so far: none at first, and one more.
use Rattle.std.proofs.Common.{◌≡◌, ℕ, zero, suc, ◌<◌, ◌≤◌, Bool, true, false, not, List, [], ◌∷◌}
use Rattle.std.proofs.Common.{◌++◌, length, map, refl, ap, ap₂, sym, subst, ◌∙◌, arith, Option, Some}
use Rattle.std.specs.Prelude.{◌==◌, ◌&&◌, ◌||◌, nat_lt, if◌then◌else◌}
use Rattle.std.specs.List.{filter}
use Rattle.std.specs.Option.{option_map, option_map_or}
use Rattle.std.proofs.Math.Path.{fun_ext}
use Rattle.std.proofs.lemmas.Bool.{eqb-false, eqb-true, false≢true, ltb-false}
use Rattle.std.proofs.lemmas.List.{append-nil, length-append, map-append}
use Rattle.std.proofs.lemmas.List.Elements.{filter-append}
use Rattle.std.proofs.lemmas.List.Sums.{fold-append}
use Rattle.nim_base.specs.declared.number.Slot.{Slot}
use Rattle.nim_base.specs.declared.number.Worker.{Worker}
use Rattle.nim_command.specs.declared.command.Command.{Command}
use Rattle.nim_command.specs.declared.command.Kind.{Kind}
use Rattle.nim_command.specs.declared.command.Kind.TheVariants.{Create, Load, Send, Receive, Copy, Run, Fetch}
use Rattle.nim_command.specs.Holds.{Content, content_at, holds, left_by}
use Rattle.nim_command.specs.Numbers.{main_slot}
use Rattle.nim_command.specs.Slots.{is_among, object_of}
use Rattle.nim_place.specs.Stands.{MapStands, StandsOn, commands_for, greater_put, is_aside}
use Rattle.nim_place.specs.Versions.{Versions, after_kind, held_at, is_kept, puts_of, version_of}
use Rattle.nim_base.proofs.Lists.{get_front, get_last}
use Rattle.nim_place.proofs.Puts.{IsPut, IsWhole, kept_bounds, put_all, whole_after}

-- ---- lists of commands

pub holds_front : (xs ys : List Command) (n : ℕ) → n ≤ length xs → (slot : Slot) → holds (xs ++ ys) n slot ≡ holds xs n slot
holds_front xs ys zero within slot = refl
holds_front xs ys (suc n) within slot =
    ap₂ (λ (h : Slot → Content) (o : Option Command). option_map_or (λ (c : Command). left_by c.kind h slot) o (h slot))
    (fun_ext (holds_front xs ys n (omega (arith, within)))) (get_front xs ys n (omega (arith, within)))

-- what slots hold after one more command
pub holds_last : (commands : List Command) (c : Command) (slot : Slot)
    → holds (commands ++ c ∷ []) (length (commands ++ c ∷ [])) slot ≡ left_by c.kind (holds commands (length commands)) slot
holds_last commands c slot =
    let n = length commands in
    let more : length (commands ++ c ∷ []) ≡ suc n = omega (arith, length-append commands (c ∷ [])) in
    let before : holds (commands ++ c ∷ []) n ≡ holds commands n = fun_ext (holds_front commands (c ∷ []) n (omega arith)) in
    ap (λ (k : ℕ). holds (commands ++ c ∷ []) k slot) more
    ∙ ap₂ (λ (h : Slot → Content) (o : Option Command). option_map_or (λ (d : Command). left_by d.kind h slot) o (h slot)) before (get_last commands c)

-- ---- what one command leaves in a main slot

pub one_left : (written slot : Slot) (version : ℕ) (rest : Content) (first second : Bool) → (slot.0 == written.0) ≡ first → (written.0 == slot.0) ≡ second
    → (if first then content_at written version else rest) ≡ (if second || false then content_at slot version else rest)
one_left written slot version rest true true e f = ap (λ (n : ℕ). content_at (record { 0 = n }) version) (sym (eqb-true slot.0 written.0 e))
one_left written slot version rest true false e f = absurd (eqb-false written.0 slot.0 f (sym (eqb-true slot.0 written.0 e)))
one_left written slot version rest false true e f = absurd (eqb-false slot.0 written.0 e (sym (eqb-true written.0 slot.0 f)))
one_left written slot version rest false false e f = refl

none_left : (b : Bool) (x y : Content) → (b ≡ true → ⊥) → (if b then x else y) ≡ y
none_left true x y not = absurd (not refl)
none_left false x y not = refl

beside : (objects to slot : ℕ) → slot < objects → not (nat_lt to objects) ≡ true → (slot == to) ≡ true → ⊥
beside objects to slot below aside same = either (nat_lt to objects) refl aside where
  either : (b : Bool) → nat_lt to objects ≡ b → not b ≡ true → ⊥
  either true is none = false≢true none
  either false is none =
      let equal = eqb-true slot to same in
      let past = ltb-false to objects is in
      omega arith

left_seen : (versions : Versions) (kind : Kind) (before : Slot → Content) (slot : Slot) → slot.0 < versions.objects → is_aside versions kind ≡ true
    → left_by kind before slot ≡ (if is_among (puts_of kind) slot then content_at slot (version_of kind) else before slot)
left_seen versions (Create written iota number) before slot below aside = one_left written slot 0 (before slot) (slot.0 == written.0)
    (written.0 == slot.0) refl refl
left_seen versions (Load written version value) before slot below aside = one_left written slot version (before slot) (slot.0 == written.0)
    (written.0 == slot.0) refl refl
left_seen versions (Receive written version) before slot below aside = one_left written slot version (before slot) (slot.0 == written.0)
    (written.0 == slot.0) refl refl
left_seen versions (Run position func params reads writes) before slot below aside = refl
left_seen versions (Copy from to) before slot below aside = none_left (slot.0 == to.0) (before from) (before slot)
    (beside versions.objects to.0 slot.0 below aside)
left_seen versions (Send written peer entry) before slot below aside = refl
left_seen versions (Fetch written ticket) before slot below aside = refl

-- ---- one worker's commands

-- one more command is its worker's last
pub for_more : (worker : Worker) (given : List (Worker × Command)) (c : Worker × Command)
    → commands_for worker (given ++ c ∷ []) ≡ commands_for worker given ++ (if c.0.0 == worker.0 then c.1 ∷ [] else [])
for_more worker given c =
    let mine : Worker × Command → Bool = λ d. d.0.0 == worker.0 in
    let command : Worker × Command → Command = λ d. d.1 in
    ap (map command) (filter-append mine given (c ∷ [])) ∙ map-append command (filter mine given) (filter mine (c ∷ []))
    ∙ ap (λ (rest : List Command). commands_for worker given ++ rest) (last (c.0.0 == worker.0)) where
      last : (b : Bool) → map (λ (d : Worker × Command). d.1) (if b then c ∷ [] else []) ≡ (if b then c.1 ∷ [] else [])
      last true = refl
      last false = refl

-- ---- the map

-- what a worker's slot holds after one more command of another one
held_more : (commands : List Command) (c : Command) (slot : Slot) (mine among : Bool) (version : ℕ) (old : Option ℕ)
    → holds commands (length commands) slot ≡ option_map (λ (n : ℕ). (object_of slot, n)) old
    → left_by c.kind (holds commands (length commands)) slot ≡ (if among then content_at slot version else holds commands (length commands) slot)
    → holds (commands ++ (if mine then c ∷ [] else [])) (length (commands ++ (if mine then c ∷ [] else []))) slot
    ≡ option_map (λ (n : ℕ). (object_of slot, n)) (if among && mine then Some version else old)
held_more commands c slot true true version old before left = holds_last commands c slot ∙ left
held_more commands c slot true false version old before left = holds_last commands c slot ∙ left ∙ before
held_more commands c slot false true version old before left = ap (λ (cs : List Command). holds cs (length cs) slot) (append-nil commands) ∙ before
held_more commands c slot false false version old before left = ap (λ (cs : List Command). holds cs (length cs) slot) (append-nil commands) ∙ before

-- one more command
pub stands_more : (given : List (Worker × Command)) (versions : Versions) (worker : Worker) (c : Command) → MapStands given versions
    → worker.0 < versions.workers → is_aside versions c.kind ≡ true
    → MapStands (given ++ (worker, c) ∷ []) (after_kind worker versions c.kind)
stands_more given versions worker c stands below aside =
    let whole : IsWhole versions = record { slots = stands.slots; all = stands.all } in
    let after : Versions = after_kind worker versions c.kind in
    let put : IsPut versions worker (version_of c.kind) (puts_of c.kind) after = put_all versions worker (version_of c.kind) (puts_of c.kind) whole below in
    let still = whole_after versions worker (version_of c.kind) (puts_of c.kind) after put whole in
    let content : Slot → Option ℕ → Content = λ slot o. option_map (λ (n : ℕ). (object_of slot, n)) o in
    record {
      slots = still.slots;
      all = still.all;
      held = λ other slot there.
          let had : is_kept versions other slot ≡ true = ap₂ (λ (n m : ℕ). nat_lt other.0 n && nat_lt slot.0 m) (sym put.workers) (sym put.objects) ∙ there in
          ap (λ (cs : List Command). holds cs (length cs) slot) (for_more other given (worker, c))
          ∙ held_more (commands_for other given) c slot (worker.0 == other.0) (is_among (puts_of c.kind) slot) (version_of c.kind)
          (held_at versions other slot) (stands.held other slot had)
          (left_seen versions c.kind (holds (commands_for other given) (length (commands_for other given))) slot (kept_bounds versions other slot had).1 aside)
          ∙ sym (ap (content slot) (put.held other slot had));
      latest = λ object there.
          let had : object.0 < versions.objects = omega (arith, put.objects, there) in
          put.latest object had
          ∙ ap (λ (n : ℕ). greater_put (main_slot object) n (worker, c)) (stands.latest object had)
          ∙ sym (fold-append (greater_put (main_slot object)) 0 given ((worker, c) ∷ []));
    }

pub stands_on : (before after : Versions) (worker : Worker) (c : Command) → after ≡ after_kind worker before c.kind → worker.0 < before.workers
    → is_aside before c.kind ≡ true
    → StandsOn before after ((worker, c) ∷ [])
stands_on before after worker c is below aside given stands = subst (MapStands (given ++ (worker, c) ∷ [])) (sym is)
    (stands_more given before worker c stands below aside)
