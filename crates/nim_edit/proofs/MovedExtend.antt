-- The orders of an instance of a template that was built, and of which tasks moved since, extend orders so far.
use Rattle.std.proofs.Common.{◌≡◌, ℕ, ◌+◌, ◌<◌, ◌≤◌, Bool, true, false, List, [], ◌∷◌, ◌++◌, length, map, refl, ap, ap₂, sym, subst, ◌∙◌}
use Rattle.std.proofs.Common.{arith, Some}
use Rattle.std.specs.Prelude.{◌*◌, ◌^◌, ◌==◌, ◌&&◌, All, count_by, drop, if◌then◌else◌, not, slice_index_or, take, ℤ}
use Rattle.std.specs.List.{AllByRecursion, filter, flat_map, list_all, list_any, range_with_len}
use Rattle.std.specs.Option.{option_map}
use Rattle.std.proofs.lemmas.Bool.{and_from, eq-eqb, eqb-true, false_from_ne_true, false≢true, leb-true}
use Rattle.std.proofs.lemmas.List.FromFn.{length-map-range_with_len}
use Rattle.nim_base.specs.declared.number.Object.{Object}
use Rattle.nim_base.specs.declared.number.Worker.{Worker}
use Rattle.nim_base.specs.declared.task.TaskForm.{TaskForm}
use Rattle.nim_command.specs.declared.command.Command.{Command}
use Rattle.nim_command.specs.declared.entry.Entry.{Entry}
use Rattle.nim_command.specs.declared.template.WorkerTemplate.{WorkerTemplate}
use Rattle.nim_command.specs.Holds.{holds}
use Rattle.nim_command.specs.Numbers.{main_slot}
use Rattle.nim_command.specs.Ranks.{is_patch_number}
use Rattle.nim_command.specs.Slots.{object_of}
use Rattle.nim_command.specs.Waits.{Group, commands_of}
use Rattle.nim_message.specs.declared.order.ToWorker.{ToWorker}
use Rattle.nim_message.specs.Orders.{session_of}
use Rattle.nim_order.specs.Orders.{IsOrderByRule}
use Rattle.nim_order.proofs.Sessions.{orders_cover}
use Rattle.nim_job.specs.declared.job.Job.{Job}
use Rattle.nim_job.specs.Serial.{tasks_of}
use Rattle.nim_job.specs.Tasks.{task_with_args as job_task}
use Rattle.nim_plan.specs.Legal.{AreLegal, IsLegal}
use Rattle.nim_plan.specs.Paired.{Key, is_key, keys_received, keys_sent}
use Rattle.nim_place.specs.declared.placement.Placement.{Placement}
use Rattle.nim_place.specs.Extends.{is_live, live_workers, longer}
use Rattle.nim_place.specs.Sound.{commands_from}
use Rattle.nim_place.specs.Stands.{MapStands, commands_for}
use Rattle.nim_place.specs.TaskOrders.{AreSoFar, IsAt}
use Rattle.nim_place.specs.Versions.{Versions, after_commands, after_effect, latest_of}
use Rattle.nim_place.proofs.Held.{for_append}
use Rattle.nim_place.proofs.Keys.{new_received, new_sent}
use Rattle.nim_place.proofs.Legal.{main_of}
use Rattle.nim_place.proofs.LiveOnce.{live_once}
use Rattle.nim_place.proofs.Pairs.{Once, each_flat, each_weaker, longer_paired}
use Rattle.nim_template.specs.declared.template.ControllerTemplate.{ControllerTemplate}
use Rattle.nim_template.specs.Again.{IsBefore, are_current}
use Rattle.nim_template.specs.Built.{all_slots, built as as_built, end_of, half_for, needs_of}
use Rattle.nim_template.specs.Closing.{closings}
use Rattle.nim_template.specs.Fits.{is_fit}
use Rattle.nim_template.specs.Given.{IsGivenOut, IsInstanceAsked, instances_of, installs_of, is_key_in}
use Rattle.nim_template.specs.Instance.{half_of, instance_of}
use Rattle.nim_template.specs.Tasks.{scheduled_from, without_before}
use Rattle.nim_template.specs.Walk.{empty_walk}
use Rattle.nim_template.proofs.Again.{home_within, start_walked}
use Rattle.nim_template.proofs.Bare.{group_of, new_received_same, new_sent_same, stands_same}
use Rattle.nim_template.proofs.ByRank.{RanksAscend}
use Rattle.nim_template.proofs.Chosen.{command_at}
use Rattle.nim_template.proofs.Effects.{some_kept}
use Rattle.nim_template.proofs.Entries.{own_commands}
use Rattle.nim_template.proofs.Given.{built_installs, built_instances, map_none}
use Rattle.nim_template.proofs.Halves.{needed_current, start_alike}
use Rattle.nim_template.proofs.Left.{IsDoneBy, closing_of, done_by, entries_of}
use Rattle.nim_template.proofs.OneWorker.{IsInFor}
use Rattle.nim_template.proofs.Planes.{Has}
use Rattle.nim_template.proofs.Ranked.{ranked_for, ranked_from}
use Rattle.nim_template.proofs.Sames.{AllBelow, AreSame, same_left}
use Rattle.nim_template.proofs.Sizes.{like_commands}
use Rattle.nim_edit.specs.Form.{IsInForm, WasBuilt}
use Rattle.nim_base.proofs.Lists.{each_append}
use Rattle.nim_edit.proofs.Ascending.{in_order_ascends}
use Rattle.nim_edit.proofs.Forms.{halves_long}
use Rattle.nim_edit.proofs.InOrder.{AreOfHalf, commands_halves, commands_in_order, commands_onward, in_order_same, task_commands}
use Rattle.nim_edit.proofs.Leaves.{was_left}
use Rattle.nim_edit.proofs.LegalThen.{was_legal}
use Rattle.nim_edit.proofs.Listed.{AreOrdered, Closings, Walk, ordered_is}
use Rattle.nim_edit.proofs.Migrations.{all_at}
use Rattle.nim_edit.proofs.MovedInstances.{AreAside, IsAside, closings_aside, closings_balanced, each_filter, each_in_order, late_aside, late_of_two, ranked_aside}
use Rattle.nim_edit.proofs.MovedInstances.{stands_all}
use Rattle.nim_edit.proofs.ParcelKeys.{all_of_live, all_posted, each_from, each_to, key_at, keys_to, parcels_from, received_for, sent_for, taken_once, takings_below}
use Rattle.nim_edit.proofs.Parcels.{Held, Parcel, both_balanced, held_after, parcels, takings}
use Rattle.nim_edit.proofs.TasksParcels.{AreFormsDone, forms_done}
use Rattle.nim_edit.proofs.OwnCommands.{from_below, homes_live, live_below, own_of}
use Rattle.nim_edit.proofs.Taken.{ids_onward, tasks_taken}

-- ---- an instance

-- it may be asked for behind orders so far
pub record IsReady (live : List Bool) (objects : ℕ) (template : WorkerTemplate) (epoch base : ℕ) (lists : ℕ → List ToWorker) (given : List (Worker × Command))
    (versions : Versions) : Type 0 where
  pub so_far : AreSoFar live epoch lists given versions
  pub before : IsBefore (length live) objects base versions
  pub room : base + 1024 < 2 ^ 64
  pub current : are_current versions template.preconditions ≡ true

-- these orders ask each live worker for it
pub record AreAsked (live : List Bool) (template : WorkerTemplate) (epoch instance base : ℕ) (args : List ℤ) (versions : Versions)
    (more lists : ℕ → List ToWorker) : Type 0 where
  pub on : (worker : Worker) → is_live live worker ≡ true
      → IsInFor (lists worker.0) (more worker.0) epoch instance template.block (half_of template worker.0)
      (own_commands (latest_of versions) base args (half_of template worker.0))
  pub ruled : (worker : Worker) → All IsOrderByRule (lists worker.0) → All IsOrderByRule (longer lists more worker.0)
  pub lawful : (job : Job) (worker : Worker) → is_live live worker ≡ true
      → AreLegal job (commands_of (session_of (lists worker.0)).groups) (own_commands (latest_of versions) base args (half_of template worker.0))
      → IsLegal job (lists worker.0) → IsLegal job (longer lists more worker.0)

pub was_extended : (place : Placement) (objects : ℕ) (live : List Bool) (recorded : ControllerTemplate) (template : WorkerTemplate)
    → WasBuilt place objects live recorded template → list_any (λ (flag : Bool). flag) live ≡ true → length live ≤ 16 → objects ≤ 512
    → length recorded.forms ≤ 1024 → list_all (is_fit objects) recorded.forms ≡ true → list_all (is_live live) template.owners ≡ true
    → (epoch instance base : ℕ) (args : List ℤ) (more lists : ℕ → List ToWorker) (given : List (Worker × Command)) (versions : Versions)
    → IsReady live objects template epoch base lists given versions → AreAsked live template epoch instance base args versions more lists
    → IsInstanceAsked live objects template epoch instance base args more lists given versions
was_extended place objects live recorded template was some workers_few objects_few few fit owned epoch instance base args more lists given versions may asked =
    extends where
      workers : ℕ
      workers = length live

      forms : List TaskForm
      forms = recorded.forms

      n : ℕ
      n = length forms

      form : IsInForm template
      form = was.form

      made : WorkerTemplate
      made = as_built place objects live recorded

      named : Object → ℕ
      named = latest_of versions

      many : length template.forms ≡ n
      many = ap (λ (fs : List TaskForm). length fs) was.forms

      current : are_current versions made.preconditions ≡ true
      current = sym (ap (are_current versions) was.preconditions) ∙ may.current

      is : IsDoneBy place objects live recorded base args versions
      is = done_by place objects live recorded base args versions some few fit may.before may.room current

      walk : Walk
      walk = end_of place objects live forms

      needs : List (Worker × Object)
      needs = needs_of walk.needed (all_slots workers objects)

      real : List (Worker × Command)
      real = scheduled_from place live base args 0 versions forms

      mid : Versions
      mid = after_commands versions real

      copies : Closings
      copies = closings walk.offsets needs

      last : List (Worker × Command)
      last = map (command_at base args) (closing_of place objects live forms)

      after : Versions
      after = after_commands mid last

      ranked : List (Worker × Command)
      ranked = ranked_from place live base args 0 versions forms

      all : List (Worker × Command)
      all = ranked ++ last

      own : List (Worker × Command)
      own = instance_of template base args versions

      moved : List (Worker × Command)
      moved = commands_in_order template named base args all 0 n

      ordered : AreOrdered place objects live forms base args versions
      ordered = ordered_is place objects live forms base args versions workers_few objects_few few fit

      -- the commands that were built
      all_same : (worker : Worker) → map without_before (commands_for worker (real ++ last)) ≡ map without_before (commands_for worker all)
      all_same worker =
          ap (map without_before)
          (for_append worker real last
          ∙ ap (λ (cs : List Command). cs ++ commands_for worker last) (ranked_for place live base args 0 versions forms worker)
          ∙ sym (for_append worker ranked last))

      of_built : (worker : Worker) → AreOfHalf named base args worker all (slice_index_or template.built worker.0 [])
      of_built worker =
          sym (is.same named worker ∙ all_same worker)
          ∙ subst (λ (halves : List (List Entry)). AreOfHalf named base args worker (commands_from named base args 0 made.halves)
          (slice_index_or halves worker.0 []))
          (sym was.built) (commands_halves named base args worker made.halves)

      same : AreSame own moved
      same worker =
          in_order_same template form named base args all of_built worker
          ∙ ap (λ (k : ℕ). map without_before (commands_for worker (commands_in_order template named base args all 0 k))) many

      ascends : RanksAscend 0 (2 * (65536 + 0 + length copies)) moved
      ascends =
          subst (λ (k : ℕ). RanksAscend 0 (2 * (65536 + 0 + length copies)) (commands_in_order template named base args all 0 k)) many
          (in_order_ascends template form named base args all (128 * 0) (2 * (65536 + 0 + length copies)) (omega arith) ordered.order)

      -- what single scheduling says of what was built
      out : IsGivenOut live made epoch lists given
      out = built_installs place objects live recorded epoch lists given may.so_far.ask

      first : IsInstanceAsked live objects made epoch instance base args (instances_of epoch instance made base args versions)
          (longer lists (installs_of epoch made)) given versions
      first =
          built_instances place objects live recorded some workers_few objects_few few fit epoch instance base args (longer lists (installs_of epoch made))
          given
          versions (record {
            so_far = record { stands = may.so_far.stands; ask = out.asked };
            before = may.before;
            room = may.room;
            current = current;
            installed = out.installed;
          })

      effect_is : after_effect base versions template.effect ≡ after_effect base versions made.effect
      effect_is = ap (after_effect base versions) was.effect

      -- all are of live workers
      none_built : (worker : Worker) → is_live live worker ≡ false → commands_for worker all ≡ []
      none_built worker dead =
          map_none without_before (commands_for worker all)
          (sym (is.same named worker ∙ all_same worker)
          ∙ ap (map without_before) (empty_behind (commands_for worker given) (commands_for worker (instance_of made base args versions))
          (sym (for_append worker given (instance_of made base args versions)) ∙ first.so_far.ask.none worker dead))) where
            empty_behind : (xs ys : List Command) → xs ++ ys ≡ [] → ys ≡ []
            empty_behind [] ys none = none
            empty_behind (x ∷ xs) ys none = absurd cc

      homes_are_live : list_all (is_live live) template.homes ≡ true
      homes_are_live = ap (list_all (is_live live)) was.homes ∙ homes_live place objects live forms some fit

      moved_live : AllByRecursion (λ (c : Worker × Command). is_live live c.0 ≡ true) moved
      moved_live =
          each_append (λ (c : Worker × Command). is_live live c.0 ≡ true)
          (flat_map (task_commands template named base args all) (range_with_len 0 n)) (commands_onward (64 * length template.forms) all)
          (each_in_order (λ (c : Worker × Command). is_live live c.0 ≡ true) template named base args all built_live n
          (λ task below. late_of_two (λ (w : Worker). is_live live w ≡ true) template named base args task
          (all_at (is_live live) template.homes task (record { 0 = 0 }) homes_are_live (omega (arith, form.homes, many, below)))
          (all_at (is_live live) template.owners task (record { 0 = 0 }) owned (omega (arith, form.owners, many, below)))) 0 n (omega arith))
          (each_filter (λ (c : Worker × Command). is_live live c.0 ≡ true) _ all built_live) where
            built_live : AllByRecursion (λ (c : Worker × Command). is_live live c.0 ≡ true) all
            built_live = all_of_live live all none_built

      moved_aside : AreAside moved
      moved_aside =
          each_append (λ (c : Worker × Command). IsAside c.1.kind)
          (flat_map (task_commands template named base args all) (range_with_len 0 n)) (commands_onward (64 * length template.forms) all)
          (each_in_order (λ (c : Worker × Command). IsAside c.1.kind) template named base args all built_aside n
          (λ task below. late_aside template named base args task) 0 n (omega arith))
          (each_filter (λ (c : Worker × Command). IsAside c.1.kind) _ all built_aside) where
            built_aside : AreAside all
            built_aside =
                each_append (λ (c : Worker × Command). IsAside c.1.kind) ranked last (ranked_aside place live base args 0 versions forms)
                (closings_aside base args 0 copies)

      none_moved : (worker : Worker) → is_live live worker ≡ false → commands_for worker moved ≡ []
      none_moved worker dead = none_of moved moved_live where
        none_of : (cs : List (Worker × Command)) → AllByRecursion (λ (c : Worker × Command). is_live live c.0 ≡ true) cs → commands_for worker cs ≡ []
        none_of [] each = refl
        none_of (c ∷ cs) each =
            ap (λ (b : Bool). map (λ (d : Worker × Command). d.1) (if b then c ∷ mine cs else mine cs))
            (false_from_ne_true (c.0.0 == worker.0)
            (λ here. false≢true (sym dead ∙ sym (ap (λ (k : ℕ). is_live live (record { 0 = k })) (eqb-true c.0.0 worker.0 here)) ∙ each.0)))
            ∙ none_of cs each.1 where
              mine : List (Worker × Command) → List (Worker × Command)
              mine ds = filter (λ (d : Worker × Command). d.0.0 == worker.0) ds

      -- the map behind it
      left_is : after_effect base versions template.effect ≡ after_commands versions moved
      left_is =
          was_left place objects live recorded template was some objects_few few fit base args versions may.before may.room may.current
          ∙ same_left versions own moved (record { slots = may.before.slots; all = may.before.all })
          (subst (λ (k : ℕ). AllBelow k own) (sym may.before.rows) (from_below named base args workers 0 template.halves
          (omega (arith, halves_long template form, wide))))
          (subst (λ (k : ℕ). AllBelow k moved) (sym may.before.rows) (live_below live moved moved_live)) same where
            wide : length template.built ≡ workers
            wide =
                ap (λ (halves : List (List Entry)). length halves) was.built
                ∙ length-map-range_with_len (λ (k : ℕ). half_for (record { 0 = k }) (entries_of place objects live forms)) 0 (length live)

      stands : MapStands (given ++ own) (after_effect base versions template.effect)
      stands =
          stands_same given moved own (after_effect base versions template.effect) (λ worker. sym (same worker))
          (subst (MapStands (given ++ moved)) (sym left_is)
          (stands_all moved versions (omega (arith, may.before.columns, objects_few))
          (subst (λ (k : ℕ). AllBelow k moved) (sym may.before.rows) (live_below live moved moved_live)) moved_aside given may.so_far.stands))

      -- what is sent is received
      start : Held
      start = λ worker. holds (commands_for worker given) (length (commands_for worker given))

      has : Has versions start
      has worker object version below inside held =
          may.so_far.stands.held worker (main_slot object) (some_kept versions worker (main_slot object) version held)
          ∙ ap (option_map (λ (v : ℕ). (object_of (main_slot object), v))) held
          ∙ ap (λ (o : Object). Some (o, version)) (main_of object (omega (arith, inside, may.before.columns, objects_few)))

      done : AreFormsDone template place live base args named all last 0 n forms versions start
      done =
          forms_done template place objects live base args named all last 0 [] forms versions start (record {
            form = form;
            some = some;
            small = objects_few;
            room = may.room;
            lasts = ids_onward (2 * (65536 + 0)) (2 * (65536 + 0 + length copies)) 65536 last ordered.last (omega arith);
          }) fit (omega (arith, few)) (record {
            long = refl;
            front = [];
            given = given;
            split = refl;
            under = tt;
            stands = may.so_far.stands;
            before = subst (λ (k : ℕ). IsBefore workers objects k versions) (omega arith) may.before;
            latest = λ object there. refl;
            taken =
                tasks_taken place live base args versions 0 (empty_walk workers objects) versions forms (start_alike base workers objects versions may.before)
                (start_walked workers objects) (home_within place live some) (record { latest = may.before.latest; held = may.before.held }) fit
                (needed_current place objects live forms versions some few current) (omega (arith, few)) may.room;
            has = has;
            forms_are = was.forms;
            homes_are = was.homes;
          })

      balanced : parcels start moved ≡ takings moved
      balanced =
          both_balanced start (flat_map (task_commands template named base args all) (range_with_len 0 n)) (commands_onward (64 * length template.forms) all)
          done.balanced
          (subst (λ (cs : List (Worker × Command)). parcels behind cs ≡ takings cs) (sym last_is)
          (closings_balanced (0 + n) base args versions walk.offsets mid needs 0 behind done.has
          (omega (arith, (like_commands real versions).objects, may.before.columns, objects_few)) is.closing)) where
            behind : Held
            behind = held_after start (flat_map (task_commands template named base args all) (range_with_len 0 n))

            last_is : commands_onward (64 * length template.forms) all ≡ last
            last_is = ap (λ (k : ℕ). commands_onward (64 * k) all) (many ∙ omega arith) ∙ done.behind

      group : Group
      group = group_of epoch instance

      -- the numbers of its entries are below those of a patch's copies
      new_key : (p : Parcel) → p.1 < 131072 → is_key_in epoch instance (key_at group p) ≡ true
      new_key p below =
          and_from ((epoch == epoch) && (instance == instance)) (not (is_patch_number p.1))
          (ap₂ (λ (a b : Bool). a && b) (eq-eqb epoch epoch refl) (eq-eqb instance instance refl))
          (ap not (false_from_ne_true (is_patch_number p.1) (λ patch. (let past = leb-true 131072 p.1 patch in omega (arith, past, below)))))

      below_patches : AllByRecursion (λ (p : Parcel). p.1 < 131072) (takings moved)
      below_patches = takings_below 0 (2 * (65536 + 0 + length copies)) 131072 moved ascends (omega (arith, ordered.few))

      new_sends : (worker to : Worker) → AllByRecursion (λ (key : Key). is_key_in epoch instance key ≡ true)
          (keys_to group to (parcels_from worker start moved))
      new_sends worker to =
          each_to (λ (key : Key). is_key_in epoch instance key ≡ true) group to (parcels_from worker start moved)
          (each_weaker (λ (p : Parcel). p.1 < 131072) (λ (p : Parcel). (p.0.0 == to.0) ≡ true → is_key_in epoch instance (key_at group p) ≡ true)
          (λ p below mine. new_key p below) (parcels_from worker start moved)
          (each_from (λ (p : Parcel). p.1 < 131072) worker start moved (subst (AllByRecursion (λ (p : Parcel). p.1 < 131072)) (sym balanced) below_patches)))

      once_taken : (to : Worker) → AllByRecursion (λ (p : Parcel). (p.0.0 == to.0) ≡ true
          → count_by (is_key (key_at group p)) (keys_to group to (takings moved)) ≡ 1)
          (takings moved)
      once_taken to = taken_once group to 0 (2 * (65536 + 0 + length copies)) moved ascends

      once_sent : (to worker : Worker) → Once (keys_to group to (parcels_from worker start moved)) (keys_to group to (takings moved))
      once_sent to worker =
          each_to (λ (key : Key). count_by (is_key key) (keys_to group to (takings moved)) ≡ 1) group to (parcels_from worker start moved)
          (each_from (λ (p : Parcel). (p.0.0 == to.0) ≡ true → count_by (is_key (key_at group p)) (keys_to group to (takings moved)) ≡ 1) worker start moved
          (subst (AllByRecursion (λ (p : Parcel). (p.0.0 == to.0) ≡ true → count_by (is_key (key_at group p)) (keys_to group to (takings moved)) ≡ 1))
          (sym balanced) (once_taken to)))

      posted : (p : Key → Bool) (to : Worker)
          → count_by p (flat_map (λ (w : Worker). keys_to group to (parcels_from w start moved)) (live_workers live))
          ≡ count_by p (keys_to group to (takings moved))
      posted p to =
          all_posted p group to (live_workers live) start moved
          (each_weaker (λ (c : Worker × Command). is_live live c.0 ≡ true)
          (λ (c : Worker × Command). count_by (λ (w : Worker). c.0.0 == w.0) (live_workers live) ≡ 1)
          (λ c lives. live_once live c.0 lives) moved moved_live)
          ∙ ap (λ (ps : List Parcel). count_by p (keys_to group to ps)) balanced

      -- ---- the orders

      own_is : (worker : Worker) → commands_for worker own ≡ own_commands named base args (half_of template worker.0)
      own_is worker = own_of named base args worker template.halves

      every : (P : Worker → Type 0) → ((w : Worker) → P w) → (ws : List Worker) → AllByRecursion P ws
      every P f [] = tt
      every P f (w ∷ ws) = (f w, every P f ws)

      extends : IsInstanceAsked live objects template epoch instance base args more lists given versions
      extends = record {
        so_far = record {
          stands = stands;
          ask = record {
            begun = λ worker there. (asked.on worker there).begun;
            epoch = λ worker there. (asked.on worker there).epoch;
            asked = λ worker there.
                (asked.on worker there).asked
                ∙ ap₂ (λ (xs ys : List Command). xs ++ ys) (may.so_far.ask.asked worker there) (sym (own_is worker))
                ∙ sym (for_append worker given own);
            none = λ worker dead.
                for_append worker given own
                ∙ ap₂ (λ (xs ys : List Command). xs ++ ys) (may.so_far.ask.none worker dead)
                (map_none without_before (commands_for worker own) (same worker ∙ ap (map without_before) (none_moved worker dead)));
          };
        };
        before =
            subst (λ (k : ℕ). IsBefore workers objects (base + k) (after_effect base versions template.effect)) (sym many)
            (subst (IsBefore workers objects (base + n)) (sym effect_is) first.before);
        installed = λ worker there. (asked.on worker there).installed;
        covered = λ worker rule.
            (let ruled = asked.ruled worker rule in record { by_rule = ruled; covered = orders_cover (longer lists more worker.0) ruled });
        paired =
            longer_paired (is_key_in epoch instance) live lists more (λ worker to. keys_to group to (parcels_from worker start moved))
            (λ worker. keys_to group worker (takings moved)) (record {
              sent = λ worker to there.
                  (asked.on worker there).sent to
                  ∙ ap (λ (keys : List Key). keys_sent to (lists worker.0) ++ keys)
                  (ap₂ (λ (past cs : List Command). new_sent to group past cs) (may.so_far.ask.asked worker there) (sym (own_is worker))
                  ∙ new_sent_same to group (commands_for worker given) (commands_for worker own) (commands_for worker moved) (same worker)
                  ∙ sent_for group to worker start (commands_for worker given) moved refl);
              received = λ worker there.
                  (asked.on worker there).received
                  ∙ ap (λ (keys : List Key). keys_received (lists worker.0) ++ keys)
                  (ap (new_received group) (sym (own_is worker))
                  ∙ new_received_same group (commands_for worker own) (commands_for worker moved) (same worker)
                  ∙ received_for group worker moved);
              sent_new = new_sends;
              received_new = λ worker.
                  each_to (λ (key : Key). is_key_in epoch instance key ≡ true) group worker (takings moved)
                  (each_weaker (λ (p : Parcel). p.1 < 131072) (λ (p : Parcel). (p.0.0 == worker.0) ≡ true → is_key_in epoch instance (key_at group p) ≡ true)
                  (λ p below mine. new_key p below) (takings moved) below_patches);
              sent_once = λ to there.
                  each_flat (λ (key : Key). count_by (is_key key) (keys_to group to (takings moved)) ≡ 1)
                  (λ (w : Worker). keys_to group to (parcels_from w start moved)) (live_workers live)
                  (every (λ (w : Worker). Once (keys_to group to (parcels_from w start moved)) (keys_to group to (takings moved))) (once_sent to)
                  (live_workers live));
              received_once = λ to there.
                  each_weaker (λ (key : Key). count_by (is_key key) (keys_to group to (takings moved)) ≡ 1)
                  (λ (key : Key). count_by (is_key key) (flat_map (λ (w : Worker). keys_to group to (parcels_from w start moved)) (live_workers live)) ≡ 1)
                  (λ key one. posted (is_key key) to ∙ one) (keys_to group to (takings moved))
                  (each_to (λ (key : Key). count_by (is_key key) (keys_to group to (takings moved)) ≡ 1) group to (takings moved) (once_taken to));
            });
        legal = λ job at tasks worker there before.
            asked.lawful job worker there
            (subst (λ (past : List Command). AreLegal job past (own_commands named base args (half_of template worker.0)))
            (sym (may.so_far.ask.asked worker there))
            (subst (AreLegal job (commands_for worker given)) (own_is worker)
            (was_legal place objects live recorded template was some workers_few objects_few few fit job base args given versions may.so_far.stands may.before
            may.current at tasks worker))) before;
        next = λ job at tasks.
            subst (λ (k : ℕ). IsAt job (base + k) (after_effect base versions template.effect)) (sym many)
            (subst (IsAt job (base + n)) (sym effect_is)
            (first.next job at (record {
              whole = tasks.whole;
              tasks = subst (λ (fs : List TaskForm). take (length fs) (drop base (tasks_of job)) ≡ map (job_task args) fs) was.forms tasks.tasks;
            })));
      }
