-- The commands of an instance leave what the effect of its template says.
use Rattle.std.proofs.Common.{◌≡◌, ℕ, ◌+◌, ◌<◌, ◌≤◌, Bool, true, List, [], ◌∷◌, ◌++◌, length, map, refl, ap, sym, subst, ◌∙◌, arith}
use Rattle.std.specs.Prelude.{◌^◌, ℤ}
use Rattle.std.specs.List.{list_all, list_any}
use Rattle.std.proofs.lemmas.List.{map-append}
use Rattle.std.proofs.lemmas.List.Sums.{fold-append}
use Rattle.nim_base.specs.declared.number.Object.{Object}
use Rattle.nim_base.specs.declared.number.Worker.{Worker}
use Rattle.nim_base.specs.declared.task.TaskForm.{TaskForm}
use Rattle.nim_command.specs.declared.command.Command.{Command}
use Rattle.nim_command.specs.declared.entry.Entry.{Entry}
use Rattle.nim_place.specs.declared.placement.Placement.{Placement}
use Rattle.nim_place.specs.Sound.{commands_from}
use Rattle.nim_place.specs.Stands.{commands_for}
use Rattle.nim_place.specs.Versions.{Versions, after_commands, after_effect, after_kind, latest_of}
use Rattle.nim_place.proofs.Held.{for_append}
use Rattle.nim_template.specs.declared.template.ControllerTemplate.{ControllerTemplate}
use Rattle.nim_template.specs.declared.walk.Walk.{Walk}
use Rattle.nim_template.specs.Again.{IsBefore, are_current}
use Rattle.nim_template.specs.Built.{all_slots, built, end_of, needs_of}
use Rattle.nim_template.specs.Closing.{after_closings, closing_entries, closings}
use Rattle.nim_template.specs.Fits.{is_fit}
use Rattle.nim_template.specs.Instance.{LeavesEffect, instance_of}
use Rattle.nim_template.specs.Tasks.{scheduled_from, without_before}
use Rattle.nim_template.specs.Walk.{home_of, empty_walk}
use Rattle.nim_template.proofs.Again.{home_within, needs_are, start_walked}
use Rattle.nim_template.proofs.Alike.{IsEntry}
use Rattle.nim_template.proofs.Chosen.{command_at, plain}
use Rattle.nim_template.proofs.Closes.{AreNeeds, Closes, closes}
use Rattle.nim_template.proofs.Ends.{AreEnds, IsClosing, closings_alike}
use Rattle.nim_template.proofs.Entries.{AreFit, closings_fit, commands_below, fit_append, halves_below, halves_same, walk_fit}
use Rattle.nim_template.proofs.Halves.{IsDoneFrom, done_from, for_plain}
use Rattle.nim_template.proofs.Sames.{AllBelow, AreSame, same_left}
use Rattle.nim_template.proofs.Walks.{IsWalked}
use Rattle.nim_template.proofs.EffectLeft.{effect_same}
use Rattle.nim_template.proofs.StaysBefore.{ends_before}

-- before sets don't count
plain_left : (versions : Versions) (commands : List (Worker × Command)) → after_commands versions (map plain commands) ≡ after_commands versions commands
plain_left versions [] = refl
plain_left versions (c ∷ commands) = plain_left (after_kind c.0 versions c.1.kind) commands

twice_bare : (commands : List Command) → map without_before (map without_before commands) ≡ map without_before commands
twice_bare [] = refl
twice_bare (c ∷ commands) = ap (λ (cs : List Command). without_before c ∷ cs) (twice_bare commands)

pub plain_same : (worker : Worker) (commands more : List (Worker × Command))
    → map without_before (commands_for worker (map plain commands ++ more)) ≡ map without_before (commands_for worker (commands ++ more))
plain_same worker commands more =
    let behind : List Command = map without_before (commands_for worker more) in
    ap (map without_before) (for_append worker (map plain commands) more)
    ∙ map-append without_before (commands_for worker (map plain commands)) (commands_for worker more)
    ∙ ap (λ (cs : List Command). cs ++ behind) (ap (map without_before) (for_plain worker commands) ∙ twice_bare (commands_for worker commands))
    ∙ sym (map-append without_before (commands_for worker commands) (commands_for worker more))
    ∙ sym (ap (map without_before) (for_append worker commands more))

-- all entries of a template, its closing copies last
abbrev pub closing_of : Placement → ℕ → List Bool → List TaskForm → List (Worker × Entry)
closing_of place objects live forms =
    let walk : Walk = end_of place objects live forms in
    closing_entries 0 (closings walk.offsets (needs_of walk.needed (all_slots (length live) objects)))

abbrev pub entries_of : Placement → ℕ → List Bool → List TaskForm → List (Worker × Entry)
entries_of place objects live forms = (end_of place objects live forms).entries ++ closing_of place objects live forms

-- What an instance of a built template comes to from a map in which the preconditions hold.
pub record IsDoneBy (place : Placement) (objects : ℕ) (live : List Bool) (template : ControllerTemplate) (base : ℕ) (args : List ℤ)
    (versions : Versions) : Type 0 where
  pub done : IsDoneFrom place objects live template.forms base args versions
  pub closing : IsClosing (0 + length template.forms) base versions (end_of place objects live template.forms).offsets
      (after_commands versions (scheduled_from place live base args 0 versions template.forms))
      (needs_of (end_of place objects live template.forms).needed (all_slots (length live) objects))
  pub fit : AreFit (length live) (entries_of place objects live template.forms)
  -- its commands, worker by worker, whatever the versions of what it began with
  pub same : (before : Object → ℕ) → AreSame (commands_from before base args 0 (built place objects live template).halves)
      (scheduled_from place live base args 0 versions template.forms ++ map (command_at base args) (closing_of place objects live template.forms))
  -- no version is past the position behind the tasks in the end
  pub before : IsBefore (length live) objects (base + length template.forms)
      (after_commands (after_commands versions (scheduled_from place live base args 0 versions template.forms))
      (map (command_at base args) (closing_of place objects live template.forms)))
  -- and what the effect leaves
  pub effect : after_effect base versions (built place objects live template).effect
      ≡ after_commands (after_commands versions (scheduled_from place live base args 0 versions template.forms))
      (map (command_at base args) (closing_of place objects live template.forms))

pub done_by : (place : Placement) (objects : ℕ) (live : List Bool) (template : ControllerTemplate) (base : ℕ) (args : List ℤ) (versions : Versions)
    → list_any (λ (flag : Bool). flag) live ≡ true → length template.forms ≤ 1024 → list_all (is_fit objects) template.forms ≡ true
    → IsBefore (length live) objects base versions → base + 1024 < 2 ^ 64
    → are_current versions (built place objects live template).preconditions ≡ true
    → IsDoneBy place objects live template base args versions
done_by place objects live template base args versions some few fit before room now =
    let workers : ℕ = length live in
    let forms : List TaskForm = template.forms in
    let walk : Walk = end_of place objects live forms in
    let slots : List (Worker × Object) = all_slots workers objects in
    let needs : List (Worker × Object) = needs_of walk.needed slots in
    let closing : List (Worker × Entry) = closing_of place objects live forms in
    let real : List (Worker × Command) = scheduled_from place live base args 0 versions forms in
    let mid : Versions = after_commands versions real in
    let last : List (Worker × Command) = map (command_at base args) closing in
    let begins : IsWalked 0 (empty_walk workers objects) = start_walked workers objects in
    let homes : (n : ℕ) (f : TaskForm) → (home_of place n live f).0 < workers = home_within place live some in
    let done : IsDoneFrom place objects live forms base args versions = done_from place objects live forms base args versions some few fit before room now in
    let are : AreNeeds walk.offsets needs = needs_are (0 + length forms) walk slots done.to.walked in
    let ends : Closes (0 + length forms) walk.offsets needs (after_closings walk.offsets needs) =
    closes (0 + length forms) walk.offsets needs done.to.walked.kept are in
    let at : IsEntry base walk.offsets.objects versions =
    subst (λ (n : ℕ). IsEntry base n versions) (sym done.to.like.objects) (record { latest = before.latest; held = before.held }) in
    let all_fit : AreFit workers (entries_of place objects live forms) =
    fit_append workers walk.entries closing (walk_fit place live 0 (empty_walk workers objects) forms begins homes fit (omega (arith, few)) tt)
    (subst (λ (n : ℕ). AreFit n closing) done.to.like.workers (closings_fit (0 + length forms) walk.offsets needs 0 done.to.walked.kept are)) in
    let all_are : map (command_at base args) (entries_of place objects live forms) ≡ map plain real ++ last =
    map-append (command_at base args) walk.entries closing ∙ ap (λ (cs : List (Worker × Command)). cs ++ last) done.tasks.same in
    let closes_from : IsClosing (0 + length forms) base versions walk.offsets mid needs = record {
      alike = done.tasks.alike;
      kept = done.to.walked.kept;
      at = at;
      are = are;
      few = omega (arith, few);
      room = room;
    } in
    let offsets : Versions = after_closings walk.offsets needs in
    let after : Versions = after_commands mid last in
    let end : AreEnds base versions offsets after =
    closings_alike (0 + length forms) base args versions walk.offsets mid needs 0 closes_from done.tasks.zero in
    let rows : offsets.workers ≡ workers = ends.closed.is_after.workers ∙ done.to.like.workers in
    let columns : offsets.objects ≡ objects = ends.closed.is_after.objects ∙ done.to.like.objects in
    record {
      done = done;
      closing = closes_from;
      fit = all_fit;
      same = λ named worker.
          halves_same named base args workers (entries_of place objects live forms) all_fit worker
          ∙ ap (λ (cs : List (Worker × Command)). map without_before (commands_for worker cs)) all_are
          ∙ plain_same worker real last;
      before =
          subst (λ (n : ℕ). IsBefore workers objects (base + n) after) (omega arith)
          (ends_before workers objects base (0 + length forms) versions offsets after before end ends.closed.is_after.kept rows columns (omega
          (arith, few, room)));
      effect =
          effect_same (0 + length forms) workers objects base versions offsets after
          (record {
            kept = ends.closed.is_after.kept;
            few = omega (arith, few);
            rows = rows;
            columns = columns;
            before = before;
            room = room;
          })
          end;
    }

-- the commands of an instance leave what the effect says
pub built_left : (place : Placement) (objects : ℕ) (live : List Bool) (template : ControllerTemplate) → list_any (λ (flag : Bool). flag) live ≡ true
    → length template.forms ≤ 1024 → list_all (is_fit objects) template.forms ≡ true → LeavesEffect (length live) objects (built place objects live template)
built_left place objects live template some few fit base args versions before room now =
    let workers : ℕ = length live in
    let entries : List (Worker × Entry) = entries_of place objects live template.forms in
    let real : List (Worker × Command) = scheduled_from place live base args 0 versions template.forms in
    let last : List (Worker × Command) = map (command_at base args) (closing_of place objects live template.forms) in
    let is : IsDoneBy place objects live template base args versions = done_by place objects live template base args versions some few fit before room now in
    let all_are : map (command_at base args) entries ≡ map plain real ++ last =
    map-append (command_at base args) (end_of place objects live template.forms).entries (closing_of place objects live template.forms)
    ∙ ap (λ (cs : List (Worker × Command)). cs ++ last) is.done.tasks.same in
    is.effect
    ∙ ap (λ (v : Versions). after_commands v last) (sym (plain_left versions real))
    ∙ sym (fold-append (λ (v : Versions) (c : Worker × Command). after_kind c.0 v c.1.kind) versions (map plain real) last)
    ∙ ap (after_commands versions) (sym all_are)
    ∙ sym (same_left versions (instance_of (built place objects live template) base args versions) (map (command_at base args) entries)
    (record { slots = before.slots; all = before.all })
    (subst (λ (n : ℕ). AllBelow n (instance_of (built place objects live template) base args versions)) (sym before.rows)
    (halves_below (latest_of versions) base args workers entries 0 workers (omega arith)))
    (subst (λ (n : ℕ). AllBelow n (map (command_at base args) entries)) (sym before.rows) (commands_below base args workers entries is.fit))
    (halves_same (latest_of versions) base args workers entries is.fit))
