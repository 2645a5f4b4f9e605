-- What a command leaves and gives depends on the slots that it touches alone, and it leaves the others as they are.
use Rattle.std.proofs.Common.{◌≡◌, ℕ, Bool, true, false, ℤ, List, [], ◌∷◌, length, map, refl, ap, ap₂, sym, ◌∙◌, Option, None, Some}
use Rattle.std.specs.Prelude.{◌==◌, if◌then◌else◌}
use Rattle.std.specs.Option.{is_some, option_map_or}
use Rattle.std.proofs.lemmas.Bool.{both_ways, eq-eqb, eqb-true, or_left, or_parts}
use Rattle.nim_base.specs.declared.number.Object.{Object}
use Rattle.nim_base.specs.declared.number.Shape.{Shape}
use Rattle.nim_base.specs.declared.number.Slot.{Slot}
use Rattle.nim_base.specs.declared.task.Func.{Func}
use Rattle.nim_base.specs.Apply.{apply_of, has_counts}
use Rattle.nim_base.specs.Value.{Grid, empty_grid}
use Rattle.nim_command.specs.declared.command.Kind.{Kind}
use Rattle.nim_command.specs.declared.command.Kind.TheVariants.{Create, Load, Send, Receive, Copy, Run, Fetch}
use Rattle.nim_command.specs.Created.{created}
use Rattle.nim_command.specs.Holds.{put_at, version_after}
use Rattle.nim_command.specs.Slots.{does_read, does_touch, does_write, is_among}
use Rattle.nim_command.specs.Waits.{Group}
use Rattle.nim_message.specs.declared.report.FromWorker.TheVariants.{Ran, Value}
use Rattle.nim_store.specs.declared.held.Held.{Held}
use Rattle.nim_history.specs.declared.out.Out.{Out}
use Rattle.nim_history.specs.Kept.{fitting_shape, frame_of, held_version, is_single, kept_by, own_outs, put_results, put_shaped, results_for, shape_of}
use Rattle.nim_worker.proofs.Beside.{Agree, contents_same, touch_read, values_same}

-- what is put into another slot leaves a slot as it is
put_other : (slots : List Slot) (slot s : Slot) (h : Option Held) (f : Slot → Option Held) → is_among (slot ∷ slots) s ≡ false → put_at slot h f s ≡ f s
put_other slots slot s h f not = either (s.0 == slot.0) refl where
  either : (b : Bool) → (s.0 == slot.0) ≡ b → (if b then h else f s) ≡ f s
  either true same = absurd (both_ways (slot.0 == s.0) (or_parts (slot.0 == s.0) (is_among slots s) not).0 (eq-eqb slot.0 s.0 (sym (eqb-true s.0 slot.0 same))))
  either false other = refl

put_inside : (slot s : Slot) (h : Option Held) (f g : Slot → Option Held) → f s ≡ g s → put_at slot h f s ≡ put_at slot h g s
put_inside slot s h f g same = ap (λ (x : Option Held). if s.0 == slot.0 then h else x) same

shaped_inside : (shapes : List Shape) (slot s : Slot) (held : Held) (f g : Slot → Option Held) → f s ≡ g s
    → put_shaped shapes slot held f s ≡ put_shaped shapes slot held g s
shaped_inside shapes slot s held f g same = either (is_some (shape_of shapes slot)) where
  either : (b : Bool) → (if b then put_at slot (Some held) f else f) s ≡ (if b then put_at slot (Some held) g else g) s
  either true = put_inside slot s (Some held) f g same
  either false = same

shaped_outside : (shapes : List Shape) (slots : List Slot) (slot s : Slot) (held : Held) (f : Slot → Option Held) → is_among (slot ∷ slots) s ≡ false
    → put_shaped shapes slot held f s ≡ f s
shaped_outside shapes slots slot s held f not = either (is_some (shape_of shapes slot)) where
  either : (b : Bool) → (if b then put_at slot (Some held) f else f) s ≡ f s
  either true = put_other slots slot s (Some held) f not
  either false = refl

results_inside : (shapes : List Shape) (version : ℕ) (slots : List Slot) (values : List Grid) (s : Slot) (f g : Slot → Option Held) → f s ≡ g s
    → put_results shapes version slots values f s ≡ put_results shapes version slots values g s
results_inside shapes version [] values s f g same = same
results_inside shapes version (slot ∷ slots) [] s f g same = same
results_inside shapes version (slot ∷ slots) (value ∷ values) s f g same =
    results_inside shapes version slots values s (put_shaped shapes slot (held_version slot version value) f)
    (put_shaped shapes slot (held_version slot version value) g)
    (shaped_inside shapes slot s (held_version slot version value) f g same)

results_outside : (shapes : List Shape) (version : ℕ) (slots : List Slot) (values : List Grid) (s : Slot) (f : Slot → Option Held) → is_among slots s ≡ false
    → put_results shapes version slots values f s ≡ f s
results_outside shapes version [] values s f not = refl
results_outside shapes version (slot ∷ slots) [] s f not = refl
results_outside shapes version (slot ∷ slots) (value ∷ values) s f not =
    results_outside shapes version slots values s (put_shaped shapes slot (held_version slot version value) f)
    (or_parts (slot.0 == s.0) (is_among slots s) not).1
    ∙ shaped_outside shapes slots slot s (held_version slot version value) f not

run_inside : (shapes : List Shape) (position : ℕ) (func : Func) (params : List ℤ) (reads writes : List Slot) (s : Slot) (f g : Slot → Option Held)
    → Agree (Run position func params reads writes) f g → f s ≡ g s → (b : Bool)
    → (if b then put_results shapes (version_after position) writes (results_for shapes func params reads writes f) f else f) s
    ≡ (if b then put_results shapes (version_after position) writes (results_for shapes func params reads writes g) g else g) s
run_inside shapes position func params reads writes s f g same at true =
    ap (λ (grids : List Grid). put_results shapes (version_after position) writes (apply_of func params grids (map (fitting_shape shapes) writes)) f s)
    (values_same f g reads (λ t among. same t (touch_read (Run position func params reads writes) t among)))
    ∙ results_inside shapes (version_after position) writes (results_for shapes func params reads writes g) s f g at
run_inside shapes position func params reads writes s f g same at false = at

-- where slots that a command touches have the same, it leaves the same in them
pub kept_inside : (shapes : List Shape) (frame : Option Grid) (kind : Kind) (f g : Slot → Option Held) (s : Slot) → Agree kind f g → does_touch kind s ≡ true
    → kept_by shapes frame kind f s ≡ kept_by shapes frame kind g s
kept_inside shapes frame (Create slot iota number) f g s same touched =
    shaped_inside shapes slot s (held_version slot 0 (created (fitting_shape shapes slot) iota number)) f g (same s touched)
kept_inside shapes frame (Load slot version value) f g s same touched = put_inside slot s (Some (held_version slot version value)) f g (same s touched)
kept_inside shapes None (Receive slot version) f g s same touched = same s touched
kept_inside shapes (Some value) (Receive slot version) f g s same touched = put_inside slot s (Some (held_version slot version value)) f g (same s touched)
kept_inside shapes frame (Copy from to) f g s same touched =
    ap₂ (λ (h x : Option Held). if s.0 == to.0 then h else x) (same from
    (touch_read (Copy from to) from (or_left (from.0 == from.0) false (eq-eqb from.0 from.0 refl)))) (same s touched)
kept_inside shapes frame (Run position func params reads writes) f g s same touched =
    run_inside shapes position func params reads writes s f g same (same s touched) (has_counts func (length params) (length reads) (length writes))
kept_inside shapes frame (Send slot peer entry) f g s same touched = same s touched
kept_inside shapes frame (Fetch slot ticket) f g s same touched = same s touched

run_outside : (shapes : List Shape) (version : ℕ) (writes : List Slot) (values : List Grid) (s : Slot) (f : Slot → Option Held)
    → is_among writes s ≡ false → (b : Bool)
    → (if b then put_results shapes version writes values f else f) s ≡ f s
run_outside shapes version writes values s f not true = results_outside shapes version writes values s f not
run_outside shapes version writes values s f not false = refl

-- a slot that a command doesn't touch stays as it is
pub kept_outside : (shapes : List Shape) (frame : Option Grid) (kind : Kind) (f : Slot → Option Held) (s : Slot) → does_touch kind s ≡ false
    → kept_by shapes frame kind f s ≡ f s
kept_outside shapes frame (Create slot iota number) f s not =
    shaped_outside shapes [] slot s (held_version slot 0 (created (fitting_shape shapes slot) iota number)) f not
kept_outside shapes frame (Load slot version value) f s not = put_other [] slot s (Some (held_version slot version value)) f not
kept_outside shapes None (Receive slot version) f s not = refl
kept_outside shapes (Some value) (Receive slot version) f s not = put_other [] slot s (Some (held_version slot version value)) f not
kept_outside shapes frame (Copy from to) f s not = put_other [] to s (f from) f (or_parts (does_read (Copy from to) s) (does_write (Copy from to) s) not).1
kept_outside shapes frame (Run position func params reads writes) f s not =
    run_outside shapes (version_after position) writes (results_for shapes func params reads writes f) s f
    (or_parts (is_among reads s) (is_among writes s) not).1
    (has_counts func (length params) (length reads) (length writes))
kept_outside shapes frame (Send slot peer entry) f s not = refl
kept_outside shapes frame (Fetch slot ticket) f s not = refl

-- where slots that a command touches have the same, it gives the same
pub outs_same : (group : Group) (kind : Kind) (f g : Slot → Option Held) → Agree kind f g → own_outs group kind f ≡ own_outs group kind g
outs_same group (Send slot peer entry) f g same =
    ap (λ (h : Option Held). Out.Data peer (frame_of group entry (option_map_or (λ (held : Held). held) h (held_version slot 0 empty_grid))) ∷ [])
    (same slot (touch_read (Send slot peer entry) slot (or_left (slot.0 == slot.0) false (eq-eqb slot.0 slot.0 refl))))
outs_same group (Fetch slot ticket) f g same =
    ap (λ (h : Option Held).
    let held : Held = option_map_or (λ (held : Held). held) h (held_version slot 0 empty_grid) in
    Out.Report (Value group.epoch ticket held.object held.version held.value) ∷ [])
    (same slot (touch_read (Fetch slot ticket) slot (or_left (slot.0 == slot.0) false (eq-eqb slot.0 slot.0 refl))))
outs_same group (Run position func params reads writes) f g same =
    ap (λ (contents : List (Object × ℕ)).
    if is_single group.source
    then Out.Report (Ran group.epoch position (if has_counts func (length params) (length reads) (length writes) then contents else [])) ∷ []
    else [])
    (contents_same f g reads (λ s among. same s (touch_read (Run position func params reads writes) s among)))
outs_same group (Create slot iota number) f g same = refl
outs_same group (Load slot version value) f g same = refl
outs_same group (Receive slot version) f g same = refl
outs_same group (Copy from to) f g same = refl
