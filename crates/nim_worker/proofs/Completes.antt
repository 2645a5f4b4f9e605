-- A work that is performed and given back leaves what its command leaves.
use Rattle.std.proofs.Common.{◌≡◌, ℕ, Bool, true, false, ℤ, List, [], ◌∷◌, length, map, refl, ap, ap₂, sym, subst, ◌∙◌, Option, None, Some, Box, Global}
use Rattle.std.specs.Prelude.{if◌then◌else◌, IfSome}
use Rattle.std.specs.Option.{option_map, option_or}
use Rattle.nim_base.specs.declared.number.Object.{Object}
use Rattle.nim_base.specs.declared.number.Shape.{Shape}
use Rattle.nim_base.specs.declared.number.Slot.{Slot}
use Rattle.nim_base.specs.declared.task.Func.{Func}
use Rattle.nim_base.specs.Apply.{has_counts}
use Rattle.nim_base.specs.Value.{Grid}
use Rattle.nim_command.specs.declared.command.Kind.{Kind}
use Rattle.nim_command.specs.declared.command.Kind.TheVariants.{Run}
use Rattle.nim_command.specs.Holds.{version_after}
use Rattle.nim_command.specs.Waits.{Group}
use Rattle.nim_message.specs.declared.report.FromWorker.TheVariants.{Ran}
use Rattle.nim_store.specs.declared.held.Held.{Held}
use Rattle.nim_history.specs.declared.out.Out.{Out}
use Rattle.nim_history.specs.Kept.{content_seen, contents_read, is_single, kept_by, own_outs, put_results, results_for}
use Rattle.nim_worker.specs.declared.batch.Work.{Work}
use Rattle.nim_worker.specs.declared.inputs.Inputs.{Inputs}
use Rattle.nim_worker.specs.Inputs.{given_back}
use Rattle.nim_worker.specs.Leaves.{left_with, told_with}
use Rattle.nim_worker.specs.Works.{AreInputsOf, Begun, IsPerformed, IsWork, reads_taken, results_from, results_in, results_performed}

-- where no result is left nothing is put
pub put_none : (shapes : List Shape) (version : ℕ) (slots : List Slot) (values : List Grid) (f : Slot → Option Held) → values ≡ []
    → put_results shapes version slots values f ≡ f
put_none shapes version slots values f none = subst (λ vs. put_results shapes version slots vs f ≡ f) (sym none) (either slots) where
  either : (slots : List Slot) → put_results shapes version slots [] f ≡ f
  either [] = refl
  either (slot ∷ slots) = refl

-- the results that a work's inputs have are those of the slots that they were taken from
inputs_results : (shapes : List Shape) (before now : Slot → Option Held) (begun : Begun) (work : Work) → IsWork shapes before now begun work
    → results_from work ≡ results_performed shapes begun.kind before
inputs_results shapes before now begun work is =
    rw (is.func, is.inputs.params, is.inputs.values, is.inputs.shapes) refl

-- a work that is performed has its command's results
pub performed_results : (shapes : List Shape) (before now : Slot → Option Held) (begun : Begun) (work new : Work)
    → IsWork shapes before now begun work → IsPerformed work new
    → results_in new ≡ results_performed shapes begun.kind before
performed_results shapes before now begun work new is done = done.results ∙ either (results_in work) is.results where
  either : (r : Option (List Grid)) → IfSome r (λ results. results_performed shapes begun.kind before ≡ Some results)
      → option_or r (results_from work) ≡ results_performed shapes begun.kind before
  either None has = inputs_results shapes before now begun work is
  either (Some results) has = sym has

left_run : (shapes : List Shape) (before : Slot → Option Held) (frame : Option Grid) (position : ℕ) (func : Func) (params : List ℤ) (reads writes : List Slot)
    → left_with shapes frame (Run position func params reads writes) (results_performed shapes (Run position func params reads writes) before) before
    ≡ kept_by shapes frame (Run position func params reads writes) before
left_run shapes before frame position func params reads writes = either (has_counts func (length params) (length reads) (length writes)) where
  either : (b : Bool)
      → left_with shapes frame (Run position func params reads writes)
      (option_map (λ (f : Func). results_for shapes f (if b then params else []) (if b then reads else []) (if b then writes else []) before)
      (if b then Some func else None)) before
      ≡ (if b then put_results shapes (version_after position) writes (results_for shapes func params reads writes before) before else before)
  either true = refl
  either false = refl

left_kept : (shapes : List Shape) (before : Slot → Option Held) (frame : Option Grid) (kind : Kind)
    → left_with shapes frame kind (results_performed shapes kind before) before ≡ kept_by shapes frame kind before
left_kept shapes before frame (Run position func params reads writes) = left_run shapes before frame position func params reads writes
left_kept shapes before frame kind = refl

-- what is left once its inputs are given back is what the command leaves
pub completes : (shapes : List Shape) (before now : Slot → Option Held) (begun : Begun) (work new : Work) (frame : Option Grid)
    → IsWork shapes before now begun work → IsPerformed work new
    → left_with shapes frame begun.kind (results_in new) before ≡ kept_by shapes frame begun.kind before
completes shapes before now begun work new frame is done =
    ap (λ (r : Option (List Grid)). left_with shapes frame begun.kind r before) (performed_results shapes before now begun work new is done)
    ∙ left_kept shapes before frame begun.kind

-- a work that is performed is still its command's
pub performed : (shapes : List Shape) (before now : Slot → Option Held) (begun : Begun) (work new : Work) → IsPerformed work new
    → IsWork shapes before now begun work → IsWork shapes before now begun new
performed shapes before now begun work new done is = record {
  ticket = done.ticket ∙ is.ticket;
  position = done.position ∙ is.position;
  func = done.func ∙ is.func;
  inputs = subst (AreInputsOf shapes begun.kind before now) (ap (λ (inputs : Box Inputs Global). inputs.value) (sym done.inputs)) is.inputs;
  results = subst (λ (r : Option (List Grid)). IfSome r (λ results. results_performed shapes begun.kind before ≡ Some results))
      (sym (performed_results shapes before now begun work new is done))
      (either (results_performed shapes begun.kind before));
} where
  either : (r : Option (List Grid)) → IfSome r (λ results. r ≡ Some results)
  either None = record {}
  either (Some results) = refl

-- what its inputs are given back to is what the slots had, and what is left there is what the command leaves
pub left_is : (shapes given : List Shape) (before now returned left : Slot → Option Held) (begun : Begun) (work new : Work) (frame : Option Grid) (kind : Kind)
    → IsWork shapes before now begun work → IsPerformed work new → begun.kind ≡ kind → given ≡ shapes
    → returned ≡ given_back new.inputs.value.taken.items new.inputs.value.values.items now → left ≡ left_with given frame kind (results_in new) returned
    → left ≡ kept_by shapes frame begun.kind before
left_is shapes given before now returned left begun work new frame kind is done same stays at is_left =
    let back : returned ≡ before =
    at ∙ ap (λ (inputs : Box Inputs Global). given_back inputs.value.taken.items inputs.value.values.items now) done.inputs ∙ is.inputs.back in
    is_left
    ∙ ap₂ (λ (all : List Shape) (f : Slot → Option Held). left_with all frame kind (results_in new) f) stays back
    ∙ ap (λ (k : Kind). left_with shapes frame k (results_in new) before) (sym same)
    ∙ completes shapes before now begun work new frame is done

-- what a work's inputs have of its reads is what its command reads
told_run : (group : Group) (before : Slot → Option Held) (position : ℕ) (func : Func) (params : List ℤ) (reads writes : List Slot)
    (contents : List (Object × ℕ))
    → (is_single group.source ≡ true → contents ≡ map (content_seen before) (reads_taken (Run position func params reads writes)))
    → told_with group (Run position func params reads writes) contents before ≡ own_outs group (Run position func params reads writes) before
told_run group before position func params reads writes contents told = either (is_single group.source) told where
  counted : (b : Bool) → map (content_seen before) (if b then reads else []) ≡ (if b then map (content_seen before) reads else [])
  counted true = refl
  counted false = refl

  either : (single : Bool) → (single ≡ true → contents ≡ map (content_seen before) (reads_taken (Run position func params reads writes)))
      → (if single then Out.Report (Ran group.epoch position contents) ∷ [] else [])
      ≡ (if single then Out.Report (Ran group.epoch position (contents_read func params reads writes before)) ∷ [] else [])
  either true told =
      ap (λ (cs : List (Object × ℕ)). Out.Report (Ran group.epoch position cs) ∷ [])
      (told refl ∙ counted (has_counts func (length params) (length reads) (length writes)))
  either false told = refl

-- what is told with the contents that a work's inputs have is what its command gives
pub told_is : (group : Group) (before : Slot → Option Held) (kind : Kind) (contents : List (Object × ℕ))
    → (is_single group.source ≡ true → contents ≡ map (content_seen before) (reads_taken kind))
    → told_with group kind contents before ≡ own_outs group kind before
told_is group before (Run position func params reads writes) contents told = told_run group before position func params reads writes contents told
told_is group before kind contents told = refl
