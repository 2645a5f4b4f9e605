-- The closing copies of an instance run by rank, behind its tasks.
use Rattle.std.proofs.Common.{◌≡◌, ℕ, suc, ◌+◌, ◌<◌, ◌≤◌, true, false, List, [], ◌∷◌, ◌++◌, length, map, refl, ap, sym, subst, ◌∙◌, arith}
use Rattle.std.proofs.Common.{Option, None, Some}
use Rattle.std.specs.Prelude.{◌==◌, ℤ}
use Rattle.std.proofs.lemmas.Bool.{eqb-false}
use Rattle.nim_base.specs.declared.number.Object.{Object}
use Rattle.nim_base.specs.declared.number.Slot.{Slot}
use Rattle.nim_base.specs.declared.number.Worker.{Worker}
use Rattle.nim_command.specs.declared.command.Command.{Command}
use Rattle.nim_command.specs.Expansion.{version_at}
use Rattle.nim_command.specs.Holds.{Content, content_at, put_at}
use Rattle.nim_command.specs.Numbers.{main_slot}
use Rattle.nim_command.specs.Slots.{is_among, object_of}
use Rattle.nim_job.specs.declared.job.Job.{Job}
use Rattle.nim_job.specs.Objects.{objects_of}
use Rattle.nim_job.specs.Versions.{read_version}
use Rattle.nim_job.specs.Whole.{is_whole}
use Rattle.nim_plan.specs.Legal.{is_version}
use Rattle.nim_place.specs.Sound.{Frame, Plane, sent_to, plane_left as walked_plane}
use Rattle.nim_place.specs.Versions.{Versions, after_commands, latest_of, with_version}
use Rattle.nim_place.proofs.Puts.{IsPut, put_all}
use Rattle.nim_template.specs.Closing.{closed_for, closing_entries, closing_from, closing_number, closings, copy_from}
use Rattle.nim_template.specs.Walk.{offset_for}
use Rattle.nim_template.proofs.Chosen.{command_at}
use Rattle.nim_template.proofs.Copies.{IsCopy, copy_at}
use Rattle.nim_template.proofs.Ends.{IsClosing, closing_next, closing_version}
use Rattle.nim_template.proofs.InTurn.{closing_copy, number_is}
use Rattle.nim_template.proofs.Planes.{Below, IsLike, below_append, below_more, current_there, first_sent, like_puts, skip_all, some_there, taken_is}
use Rattle.nim_template.proofs.Walks.{only_object, same_latest}
use Rattle.nim_template.proofs.Written.{closing_more}
use Rattle.nim_template.proofs.TasksRun.{AreLatest, AreRun, read_is, run_then, written_there}

copy_run : (job : Job) (start : Worker → Slot → Content) (position number : ℕ) (versions : Versions) (from to : Worker) (object : Object) (version : ℕ)
    (plane : Plane) → IsCopy versions from to object version → versions.objects ≤ 512 → is_whole job ≡ true → 0 < version → AreLatest job position versions
    → IsLike start versions plane → Below number plane.frames
    → AreRun job start plane (copy_at number from to object version) (number + 1) position (with_version to version versions (main_slot object))
copy_run job start position number versions from to object version plane copy small whole more latest like old =
    let slot : Slot = main_slot object in
    let there : plane.slots from slot ≡ content_at slot version =
    current_there versions plane.slots object from like.held small copy.current ∙ ap (content_at slot) (sym copy.latest) in
    let frame : Frame = record { to = to; entry = number; content = plane.slots from slot } in
    let sent : Plane = record { slots = plane.slots; frames = plane.frames ++ frame ∷ [] } in
    let read : version ≡ read_version job position object = copy.latest ∙ latest object copy.there in
    let inside = copy.there in
    let of_job : object.0 < objects_of job.vars = written_there job position object whole (omega (arith, more, read)) in
    let taken : sent_to sent.frames to number ≡ content_at slot version =
    skip_all plane.frames (frame ∷ []) to number old ∙ first_sent frame [] ∙ there in
    let held : Slot → Content = put_at slot (sent_to sent.frames to number) (plane.slots to) in
    let after : Versions = with_version to version versions slot in
    let put : IsPut versions to version (slot ∷ []) after = put_all versions to version (slot ∷ []) like.whole copy.to_below in
    record {
      run = record {
        found = (
          some_there (plane.slots from slot) slot version there,
          (
            (
              ap (λ (v : ℕ). is_version job (object_of slot) v) read ∙ read_is job position object (omega (arith, inside, small)) of_job,
              taken,
            ),
            tt,
          ),
        );
        like =
            like_puts start versions sent to version (slot ∷ []) held (record { whole = like.whole; held = like.held; rest = like.rest }) copy.to_below small
            (λ other among. (let equal = only_object object (record { 0 = other.0 }) among in omega (arith, equal, inside)))
            (λ other. taken_is slot other version (sent_to sent.frames to number) (plane.slots to other) taken);
        frames = below_append (number + 1) plane.frames (frame ∷ []) (below_more number (number + 1) plane.frames (omega arith) old) (omega arith, tt);
      };
      latest = λ other inside_now.
          (let deep : other.0 < versions.objects = omega (arith, put.objects, inside_now) in
          same_latest (is_among (slot ∷ []) (main_slot other)) (latest_of versions other) version (latest_of after other) (latest_of versions other)
          (put.latest other deep) refl
          (λ among. copy.latest ∙ ap (λ (k : ℕ). latest_of versions (record { 0 = k })) (only_object object other among))
          ∙ latest other deep);
    }

pub closings_run : (job : Job) (start : Worker → Slot → Content) (position most base : ℕ) (args : List ℤ) (entry offsets versions : Versions)
    (needs : List (Worker × Object)) (copy : ℕ) (plane : Plane) → IsClosing most base entry offsets versions needs → versions.objects ≤ 512
    → is_whole job ≡ true → copy + length needs ≤ 8192 → AreLatest job position versions → IsLike start versions plane → Below (65536 + copy) plane.frames
    → AreRun job start plane (map (command_at base args) (closing_entries copy (closings offsets needs))) (65536 + copy + length (closings offsets needs))
    position (after_commands versions (map (command_at base args) (closing_entries copy (closings offsets needs))))
closings_run job start position most base args entry offsets versions [] copy plane is small whole few latest like old =
    record { run = record { found = tt; like = like; frames = below_more (65536 + copy) (65536 + copy + 0) plane.frames (omega arith) old }; latest = latest }
closings_run job start position most base args entry offsets versions (need ∷ needs) copy plane is small whole few latest like old =
    either (closing_from offsets need) refl
    (λ v k p next low room now same below. closings_run job start position most base args entry (closed_for offsets need) v needs k p next low whole room now
    same below) where
      rest_of : ℕ → List (Worker × Command)
      rest_of k = map (command_at base args) (closing_entries k (closings (closed_for offsets need) needs))

      either : (o : Option Worker) → closing_from offsets need ≡ o
          → ((v : Versions) (k : ℕ) (p : Plane) → IsClosing most base entry (closed_for offsets need) v needs → v.objects ≤ 512 → k + length needs ≤ 8192
          → AreLatest job position v → IsLike start v p → Below (65536 + k) p.frames
          → AreRun job start p (rest_of k) (65536 + k + length (closings (closed_for offsets need) needs)) position (after_commands v (rest_of k)))
          → AreRun job start plane
          (map (command_at base args) (closing_entries copy (copy_from offsets need o ++ closings (closed_for offsets need) needs)))
          (65536 + copy + length (copy_from offsets need o ++ closings (closed_for offsets need) needs)) position
          (after_commands versions (map (command_at base args)
          (closing_entries copy (copy_from offsets need o ++ closings (closed_for offsets need) needs))))
      either None found rest =
          rest versions copy plane (closing_next most base entry offsets versions need needs is None found) small (omega (arith, few)) latest like old
      either (Some from) found rest =
          let offset : ℕ = latest_of offsets need.1 in
          let version : ℕ = version_at base 0 (offset_for offset) in
          let next : Versions = with_version need.0 version versions (main_slot need.1) in
          let copied : IsCopy versions from need.0 need.1 version = closing_copy most base entry offsets versions need needs from is found in
          let numbered : closing_number copy ≡ 65536 + copy = number_is copy (omega (arith, few)) in
          let commands : List (Worker × Command) = copy_at (closing_number copy) from need.0 need.1 version in
          let put : IsPut versions need.0 version (main_slot need.1 ∷ []) next =
          put_all versions need.0 version (main_slot need.1 ∷ []) like.whole copied.to_below in
          let more : (offset == 0) ≡ false = closing_more most offsets need from is.kept is.are.0 is.are.1 is.are.2 found in
          let low = is.kept.latest need.1 is.are.1 in
          let most_few = is.few in
          let room = is.room in
          let positive : 0 < version =
          (let equal = closing_version base offset more (omega (arith, low, most_few)) is.room in let some = eqb-false offset 0 more in
          omega (arith, equal, some)) in
          let one : AreRun job start plane commands (65536 + (copy + 1)) position next =
          subst (λ (n : ℕ). AreRun job start plane commands n position next) (omega (arith, numbered))
          (copy_run job start position (closing_number copy) versions from need.0 need.1 version plane copied small whole positive latest like
          (subst (λ (n : ℕ). Below n plane.frames) (sym numbered) old)) in
          let two = rest next (copy + 1) (walked_plane plane commands) (closing_next most base entry offsets versions need needs is (Some from) found)
          (omega (arith, put.objects, small)) (omega (arith, few)) one.latest one.run.like one.run.frames in
          let long : 65536 + (copy + 1) + length (closings (closed_for offsets need) needs) ≡ 65536 + copy + suc (length
          (closings (closed_for offsets need) needs)) = omega arith in
          subst (λ (n : ℕ). AreRun job start plane (commands ++ rest_of (copy + 1)) n position (after_commands next (rest_of (copy + 1)))) long
          (record {
            run =
                run_then job start plane commands (rest_of (copy + 1)) (65536 + (copy + 1))
                (65536 + (copy + 1) + length (closings (closed_for offsets need) needs)) next (after_commands next (rest_of (copy + 1))) one.run two.run;
            latest = two.latest;
          })
