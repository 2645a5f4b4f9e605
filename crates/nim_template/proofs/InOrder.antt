-- By rank the commands of an instance are in the order of its block's tasks, the closing copies behind them.
use Rattle.std.proofs.Common.{◌≡◌, ℕ, ◌+◌, ◌<◌, ◌≤◌, Bool, true, List, [], ◌∷◌, ◌++◌, length, map, ap, ap₂, sym, ◌∙◌, arith}
use Rattle.std.specs.Prelude.{◌*◌, ◌^◌, ℤ}
use Rattle.std.specs.List.{list_all}
use Rattle.std.proofs.lemmas.List.{append-nil}
use Rattle.std.proofs.lemmas.List.Concat.{flat_map-append}
use Rattle.std.proofs.Math.Nat.{mul-le-mul_left}
use Rattle.nim_base.specs.declared.number.Object.{Object}
use Rattle.nim_base.specs.declared.number.Worker.{Worker}
use Rattle.nim_base.specs.declared.task.TaskForm.{TaskForm}
use Rattle.nim_command.specs.declared.command.Command.{Command}
use Rattle.nim_place.specs.declared.placement.Placement.{Placement}
use Rattle.nim_place.specs.Sound.{by_rank, commands_from, owned_from, run_by}
use Rattle.nim_place.specs.Stands.{commands_for}
use Rattle.nim_place.specs.Versions.{Versions, is_current}
use Rattle.nim_place.proofs.Held.{for_append}
use Rattle.nim_place.proofs.Places.{both_true}
use Rattle.nim_template.specs.declared.closing.Closing.{Closing}
use Rattle.nim_template.specs.declared.template.ControllerTemplate.{ControllerTemplate}
use Rattle.nim_template.specs.declared.walk.Walk.{Walk}
use Rattle.nim_template.specs.Built.{all_slots, built, end_of, needs_of}
use Rattle.nim_template.specs.Closing.{closings}
use Rattle.nim_template.specs.Fits.{is_fit}
use Rattle.nim_template.specs.Tasks.{scheduled_from, without_before}
use Rattle.nim_template.specs.Walk.{home_of}
use Rattle.nim_template.proofs.ByRank.{RanksAscend, ascends_lower, ascends_then, in_order}
use Rattle.nim_template.proofs.Chosen.{command_at, plain}
use Rattle.nim_template.proofs.Fits.{few_reads}
use Rattle.nim_template.proofs.Left.{IsDoneBy, closing_of}
use Rattle.nim_template.proofs.Numbers.{closings_few, filter_few, slots_long}
use Rattle.nim_template.proofs.Plain.{runs_plain}
use Rattle.nim_template.proofs.Ranked.{AreShort, closing_runs, closings_ascend, ranked_ascend, ranked_for, ranked_from, ranked_runs, runs_of}
use Rattle.nim_template.proofs.Sames.{AreSame}

pub shorts : (objects : ℕ) (forms : List TaskForm) → list_all (is_fit objects) forms ≡ true → AreShort forms
shorts objects [] fit = tt
shorts objects (form ∷ forms) fit =
    let each = both_true (is_fit objects form) (list_all (is_fit objects) forms) fit in (few_reads objects form each.0, shorts objects forms each.1)

-- the commands of the tasks, of each its Sends first, and those of the closing copies
abbrev pub ranked_all : Placement → ℕ → List Bool → List TaskForm → ℕ → List ℤ → Versions → List (Worker × Command)
ranked_all place objects live forms base args versions =
    ranked_from place live base args 0 versions forms ++ map (command_at base args) (closing_of place objects live forms)

-- the commands of an instance by rank, whatever the versions of what it began with
abbrev pub by_rank_of : Placement → ℕ → List Bool → ControllerTemplate → ℕ → List ℤ → (Object → ℕ) → List (Worker × Command)
by_rank_of place objects live template base args before =
    by_rank base (commands_from before base args 0 (built place objects live template).halves)

-- They are in order, and each task is run once, at its owner.
pub record AreInOrder (place : Placement) (objects : ℕ) (live : List Bool) (template : ControllerTemplate) (base : ℕ) (args : List ℤ)
    (versions : Versions) (before : Object → ℕ) : Type 0 where
  pub high : ℕ
  pub ascend : RanksAscend 0 high (ranked_all place objects live template.forms base args versions)
  pub ordered : map plain (by_rank_of place objects live template base args before)
      ≡ map plain (ranked_all place objects live template.forms base args versions)
  pub runs : runs_of (by_rank_of place objects live template base args before) ≡ owned_from base (built place objects live template).owners

-- so they are from every map that an instance may be asked for at
pub are_in_order : (place : Placement) (objects : ℕ) (live : List Bool) (template : ControllerTemplate) (base : ℕ) (args : List ℤ) (versions : Versions)
    (before : Object → ℕ)
    → length live ≤ 16 → objects ≤ 512 → length template.forms ≤ 1024 → list_all (is_fit objects) template.forms ≡ true → versions.objects ≡ objects
    → base + 1024 < 2 ^ 64 → IsDoneBy place objects live template base args versions → AreInOrder place objects live template base args versions before
are_in_order place objects live template base args versions before workers_few objects_few few fit columns room is =
    record { high = high; ascend = ascend; ordered = ordered; runs = runs } where
      workers : ℕ
      workers = length live

      forms : List TaskForm
      forms = template.forms

      walk : Walk
      walk = end_of place objects live forms

      needs : List (Worker × Object)
      needs = needs_of walk.needed (all_slots workers objects)

      copies : List Closing
      copies = closings walk.offsets needs

      copies_few : length copies ≤ 8192
      copies_few =
          let long : length (all_slots workers objects) ≡ workers * objects = slots_long objects 0 workers in
          let most : workers * objects ≤ workers * 512 = mul-le-mul_left workers objects_few in
          let filtered = filter_few (λ (slot : Worker × Object). is_current walk.needed slot.1 slot.0) (all_slots workers objects) in
          let closed : length copies ≤ length needs = closings_few walk.offsets needs in
          omega (arith, long, most, filtered, closed, workers_few)

      high : ℕ
      high = 2 * (65536 + 0 + length copies)

      real : List (Worker × Command)
      real = scheduled_from place live base args 0 versions forms

      ranked : List (Worker × Command)
      ranked = ranked_from place live base args 0 versions forms

      last : List (Worker × Command)
      last = map (command_at base args) (closing_of place objects live forms)

      listed : List (Worker × Command)
      listed = by_rank_of place objects live template base args before

      ascend : RanksAscend (128 * 0) high (ranked ++ last)
      ascend =
          ascends_then (128 * 0) (128 * (0 + length forms)) high ranked last
          (ranked_ascend place live base args 0 versions forms (omega (arith, few)) (shorts objects forms fit))
          (ascends_lower (128 * (0 + length forms)) (2 * (65536 + 0)) high last (omega (arith, few))
          (closings_ascend base args 0 copies (omega (arith, copies_few))))

      same : AreSame (commands_from before base args 0 (built place objects live template).halves) (ranked ++ last)
      same worker =
          is.same before worker
          ∙ ap (map without_before)
          (for_append worker real last
          ∙ ap (λ (cs : List Command). cs ++ commands_for worker last) (ranked_for place live base args 0 versions forms worker)
          ∙ sym (for_append worker ranked last))

      ordered : map plain listed ≡ map plain (ranked ++ last)
      ordered = in_order base (128 * 0) high (commands_from before base args 0 (built place objects live template).halves) (ranked ++ last) ascend same

      base_is : (n : ℕ) → n + 0 ≡ n
      base_is n = omega arith

      runs : runs_of listed ≡ owned_from base (built place objects live template).owners
      runs =
          sym (runs_plain listed) ∙ ap runs_of ordered ∙ runs_plain (ranked ++ last)
          ∙ flat_map-append (λ (c : Worker × Command). run_by c.0 c.1.kind) ranked last
          ∙ ap₂ (λ (xs ys : List (Worker × ℕ)). xs ++ ys)
          (ranked_runs place live base args 0 objects versions forms columns (omega (arith, room, few))) (closing_runs base args 0 copies)
          ∙ append-nil (owned_from (base + 0) (map (home_of place objects live) forms))
          ∙ ap (λ (n : ℕ). owned_from n (map (home_of place objects live) forms)) (base_is base)
