-- What a command does depends on the slots that it touches alone, and leaves the others as they are.
use Rattle.std.proofs.Common.{◌≡◌, Bool, true, false, List, [], ◌∷◌, length, map, refl, ap, ap₂, sym, subst, ◌∙◌, Option, Some}
use Rattle.std.proofs.Math.Path.{fun_ext}
use Rattle.std.specs.Prelude.{◌==◌, if◌then◌else◌, IfSome}
use Rattle.std.specs.Option.{option_map, option_map_or}
use Rattle.std.proofs.lemmas.Bool.{both_ways, eq-eqb, eqb-true, or_left, or_right}
use Rattle.std.proofs.lemmas.List.Elements.{All-head, All-tail}
use Rattle.nim_base.specs.declared.number.Shape.{Shape}
use Rattle.nim_base.specs.declared.number.Slot.{Slot}
use Rattle.nim_base.specs.declared.task.Func.{Func}
use Rattle.nim_base.specs.Apply.{apply_of, has_counts}
use Rattle.nim_base.specs.Value.{Grid, empty_grid}
use Rattle.nim_command.specs.declared.command.Kind.{Kind}
use Rattle.nim_command.specs.declared.command.Kind.TheVariants.{Run}
use Rattle.nim_command.specs.Slots.{does_read, does_touch, does_write, is_among, reads_of}
use Rattle.nim_store.specs.declared.held.Held.{Held}
use Rattle.nim_history.specs.Kept.{content_seen, fitting_shape, held_version, held_or_empty}
use Rattle.nim_worker.specs.declared.batch.Work.{Work}
use Rattle.nim_worker.specs.declared.inputs.Taken.{Taken}
use Rattle.nim_worker.specs.Inputs.{AreAmong, given_back, held_of}
use Rattle.nim_worker.specs.Works.{Begun, IsWork, func_taken, params_taken, reads_taken, results_in, results_performed, writes_taken}
use Rattle.nim_worker.proofs.Puts.{same_slot}

-- two states of the slots are the same where a command touches them
abbrev pub Agree : {X : Type 0} → Kind → (Slot → X) → (Slot → X) → Type 0
Agree kind f g = (s : Slot) → does_touch kind s ≡ true → f s ≡ g s

-- the slots that a command touches from one state, the others from another
abbrev pub beside : {X : Type 0} → Kind → (Slot → X) → (Slot → X) → Slot → X
beside kind inner outer = λ s. if does_touch kind s then inner s else outer s

pub touch_read : (kind : Kind) (s : Slot) → is_among (reads_of kind) s ≡ true → does_touch kind s ≡ true
touch_read kind s is = or_left (does_read kind s) (does_write kind s) is

-- what is taken is read
pub touch_taken : (kind : Kind) (s : Slot) → is_among (reads_taken kind) s ≡ true → does_touch kind s ≡ true
touch_taken (Run position func params reads writes) s is = either (has_counts func (length params) (length reads) (length writes)) is where
  either : (b : Bool) → is_among (if b then reads else []) s ≡ true → does_touch (Run position func params reads writes) s ≡ true
  either true is = touch_read (Run position func params reads writes) s is
  either false is = absurd (both_ways false refl is)
touch_taken kind s is = absurd cc

pub not_taken_from : (kind : Kind) (s : Slot) → does_touch kind s ≡ false → is_among (reads_taken kind) s ≡ false
not_taken_from kind s not = either (is_among (reads_taken kind) s) refl where
  either : (b : Bool) → is_among (reads_taken kind) s ≡ b → b ≡ false
  either true is = absurd (both_ways (does_touch kind s) not (touch_taken kind s is))
  either false is = refl

-- what two functions make of these slots is the same where they are
pub map_on : {X : Type 0} (f g : Slot → X) (slots : List Slot) → ((s : Slot) → is_among slots s ≡ true → f s ≡ g s) → map f slots ≡ map g slots
map_on f g [] same = refl
map_on {X} f g (slot ∷ slots) same =
    ap₂ (λ (x : X) (xs : List X). x ∷ xs) (same slot (or_left (slot.0 == slot.0) (is_among slots slot) (eq-eqb slot.0 slot.0 refl)))
    (map_on f g slots (λ s among. same s (or_right (slot.0 == s.0) (is_among slots s) among)))

pub contents_same : (f g : Slot → Option Held) (slots : List Slot) → ((s : Slot) → is_among slots s ≡ true → f s ≡ g s)
    → map (content_seen f) slots ≡ map (content_seen g) slots
contents_same f g slots same = map_on (content_seen f) (content_seen g) slots
    (λ s among. ap (λ (h : Option Held). (
      (option_map_or (λ (held : Held). held) h (held_version s 0 empty_grid)).object,
      (option_map_or (λ (held : Held). held) h (held_version s 0 empty_grid)).version,
    )) (same s among))

pub values_same : (f g : Slot → Option Held) (slots : List Slot) → ((s : Slot) → is_among slots s ≡ true → f s ≡ g s)
    → map (λ slot. (held_or_empty f slot).value) slots ≡ map (λ slot. (held_or_empty g slot).value) slots
values_same f g slots same = map_on (λ slot. (held_or_empty f slot).value) (λ slot. (held_or_empty g slot).value) slots
    (λ s among. ap (λ (h : Option Held). (option_map_or (λ (held : Held). held) h (held_version s 0 empty_grid)).value) (same s among))

-- what is given back to a slot doesn't depend on what others have
given_back_same : (ts : List Taken) (vs : List Grid) (f g : Slot → Option Held) (s : Slot) → f s ≡ g s → given_back ts vs f s ≡ given_back ts vs g s
given_back_same [] vs f g s same = same
given_back_same (t ∷ ts) [] f g s same = same
given_back_same (t ∷ ts) (v ∷ vs) f g s same = ap (λ (h : Option Held). if s.0 == t.slot.0 then held_of t v else h) (given_back_same ts vs f g s same)

-- a slot that nothing was taken from stays as it is
given_back_other : (slots : List Slot) (ts : List Taken) (vs : List Grid) (f : Slot → Option Held) (s : Slot) → AreAmong slots ts
    → is_among slots s ≡ false → given_back ts vs f s ≡ f s
given_back_other slots [] vs f s among not = refl
given_back_other slots (t ∷ ts) [] f s among not = refl
given_back_other slots (t ∷ ts) (v ∷ vs) f s among not =
    either (s.0 == t.slot.0) refl (given_back_other slots ts vs f s (All-tail (λ (t' : Taken). is_among slots t'.slot ≡ true) t ts among) not) where
      either : (b : Bool) → (s.0 == t.slot.0) ≡ b → given_back ts vs f s ≡ f s → (if b then held_of t v else given_back ts vs f s) ≡ f s
      either true same rest =
          let first : is_among slots t.slot ≡ true = All-head (λ (t' : Taken). is_among slots t'.slot ≡ true) t ts among in
          absurd (both_ways (is_among slots s) not (ap (is_among slots) (same_slot s t.slot (eqb-true s.0 t.slot.0 same)) ∙ first))
      either false other rest = rest

-- the results of a command depend on what it touches alone
results_same : (shapes : List Shape) (kind : Kind) (f g : Slot → Option Held) → Agree kind f g
    → results_performed shapes kind f ≡ results_performed shapes kind g
results_same shapes kind f g same =
    ap (λ (grids : List Grid). option_map (λ (func : Func). apply_of func (params_taken kind) grids (map (fitting_shape shapes) (writes_taken kind)))
    (func_taken kind))
    (values_same f g (reads_taken kind) (λ s among. same s (touch_taken kind s among)))

-- a work is the same work among other slots, where those that its command touches are the same and it left the others alone
pub work_moved : (shapes : List Shape) (before now before' now' : Slot → Option Held) (begun : Begun) (work : Work) → IsWork shapes before now begun work
    → Agree begun.kind before before' → Agree begun.kind now now' → ((s : Slot) → does_touch begun.kind s ≡ false → now' s ≡ before' s)
    → IsWork shapes before' now' begun work
work_moved shapes before now before' now' begun work is same_before same_now others = record {
  ticket = is.ticket;
  position = is.position;
  func = is.func;
  inputs = record {
    params = is.inputs.params;
    back = fun_ext (λ (s : Slot). either s (does_touch begun.kind s) refl);
    among = is.inputs.among;
    values = is.inputs.values ∙ values_same before before' (reads_taken begun.kind) (λ s among. same_before s (touch_taken begun.kind s among));
    contents = is.inputs.contents ∙ contents_same before before' (reads_taken begun.kind) (λ s among. same_before s (touch_taken begun.kind s among));
    shapes = is.inputs.shapes;
  };
  results = subst (λ (r : Option (List Grid)). IfSome (results_in work) (λ results. r ≡ Some results))
      (results_same shapes begun.kind before before' same_before) is.results;
} where
  either : (s : Slot) (b : Bool) → does_touch begun.kind s ≡ b → given_back work.inputs.value.taken.items work.inputs.value.values.items now' s ≡ before' s
  either s true touched =
      given_back_same work.inputs.value.taken.items work.inputs.value.values.items now' now s (sym (same_now s touched))
      ∙ ap (λ (f : Slot → Option Held). f s) is.inputs.back
      ∙ same_before s touched
  either s false not =
      given_back_other (reads_taken begun.kind) work.inputs.value.taken.items work.inputs.value.values.items now' s is.inputs.among
      (not_taken_from begun.kind s not)
      ∙ others s not

-- a work that is out left the slots alone that its command doesn't touch
pub leaves_alone : (shapes : List Shape) (before now : Slot → Option Held) (begun : Begun) (work : Work) (s : Slot)
    → IsWork shapes before now begun work → does_touch begun.kind s ≡ false
    → before s ≡ now s
leaves_alone shapes before now begun work s is not =
    sym (ap (λ (f : Slot → Option Held). f s) is.inputs.back)
    ∙ given_back_other (reads_taken begun.kind) work.inputs.value.taken.items work.inputs.value.values.items now s is.inputs.among
    (not_taken_from begun.kind s not)

-- the slots that a command touches
pub beside_inside : {X : Type 0} (kind : Kind) (inner outer : Slot → X) (s : Slot) → does_touch kind s ≡ true → beside kind inner outer s ≡ inner s
beside_inside kind inner outer s touched = ap (λ (b : Bool). if b then inner s else outer s) touched

pub beside_outside : {X : Type 0} (kind : Kind) (inner outer : Slot → X) (s : Slot) → does_touch kind s ≡ false → beside kind inner outer s ≡ outer s
beside_outside kind inner outer s not = ap (λ (b : Bool). if b then inner s else outer s) not
