-- The numbers of a half ascend: those of a task from 64 times its number on, those of closing copies behind them.
use Rattle.std.proofs.Common.{◌≡◌, ℕ, zero, suc, ◌+◌, ◌≤◌, Bool, true, false, List, [], ◌∷◌, ◌++◌, length, map, refl, ap, ap₂, sym, subst, ◌∙◌, arith}
use Rattle.std.proofs.Common.{Option, None, Some}
use Rattle.std.specs.Prelude.{◌*◌, ◌^◌, ◌==◌, ◌&&◌, nat_le, if◌then◌else◌}
use Rattle.std.specs.List.{filter, flat_map, fold, list_all, range_with_len}
use Rattle.std.specs.Option.{is_some}
use Rattle.std.proofs.lemmas.Bool.{eqb-true, false≢true, le-leb}
use Rattle.std.proofs.lemmas.List.{length-append, map-append}
use Rattle.std.proofs.lemmas.List.Concat.{flat_map-append}
use Rattle.std.proofs.lemmas.List.Elements.{filter-append}
use Rattle.std.proofs.lemmas.List.FromFn.{length-map-range_with_len}
use Rattle.std.proofs.Math.Nat.{mul-le-mul_left}
use Rattle.nim_base.specs.declared.number.Object.{Object}
use Rattle.nim_base.specs.declared.number.Worker.{Worker}
use Rattle.nim_base.specs.declared.task.TaskForm.{TaskForm}
use Rattle.nim_command.specs.declared.command.Command.{Command}
use Rattle.nim_command.specs.declared.entry.Entry.{Entry}
use Rattle.nim_command.specs.declared.entry.EntryKind.{EntryKind}
use Rattle.nim_command.specs.Before.{Footprint}
use Rattle.nim_command.specs.Edits.{entry_of}
use Rattle.nim_command.specs.Numbers.{entry_number, main_slot}
use Rattle.nim_command.specs.Ruled.{entries_by_rule, entry_footprint}
use Rattle.nim_place.specs.declared.placement.Placement.{Placement}
use Rattle.nim_place.specs.Schedule.{copies_of, moves, receive_of, run_of, scheduled, send_of}
use Rattle.nim_place.specs.Versions.{Versions, holder, is_current, latest_of}
use Rattle.nim_place.proofs.Moves.{AreIndexed, AreMoves, holder_facts, moves_facts, moves_indexed}
use Rattle.nim_place.proofs.Places.{both_true}
use Rattle.nim_template.specs.declared.closing.Closing.{Closing}
use Rattle.nim_template.specs.declared.template.ControllerTemplate.{ControllerTemplate}
use Rattle.nim_template.specs.declared.walk.Walk.{Walk}
use Rattle.nim_template.specs.Ascends.{does_ascend}
use Rattle.nim_template.specs.Built.{all_slots, built, end_of, entries_for, half_for, needs_of, slots_of}
use Rattle.nim_template.specs.Closing.{closed_for, closing_entries, closing_from, closing_receive, closing_send, closings, copy_from}
use Rattle.nim_template.specs.Fits.{is_fit}
use Rattle.nim_template.specs.Walk.{walked_past, entry_for, home_of, empty_walk, task_for, walked, with_need}
use Rattle.nim_place.proofs.ByTask.{elsewhere}
use Rattle.nim_template.proofs.Fits.{few_reads}
use Rattle.nim_template.proofs.Sizes.{need_if}

-- ---- lists of entries

-- entries ascend between two numbers
abbrev pub Between : ℕ → ℕ → List Entry → Type 0
Between low high [] = low ≤ high
Between low high (entry ∷ entries) = (low ≤ entry.id) × Between (entry.id + 1) high entries

lower : (less low high : ℕ) (entries : List Entry) → less ≤ low → Between low high entries → Between less high entries
lower less low high [] below are = omega (arith, below, are)
lower less low high (entry ∷ entries) below are = (omega (arith, below, are.0), are.1)

joined : (low mid high : ℕ) (xs ys : List Entry) → Between low mid xs → Between mid high ys → Between low high (xs ++ ys)
joined low mid high [] ys first second = lower low mid high ys first second
joined low mid high (x ∷ xs) ys first second = (first.0, joined (x.id + 1) mid high xs ys first.1 second)

ascend_of : (low high : ℕ) (entries : List Entry) → Between low high entries → does_ascend low entries ≡ true
ascend_of low high [] are = refl
ascend_of low high (entry ∷ entries) are = ap₂ (λ (a b : Bool). a && b) (le-leb low entry.id are.0) (ascend_of (entry.id + 1) high entries are.1)

-- before sets don't count
ruled_ascend : (low : ℕ) (past : List Footprint) (entries : List Entry) → does_ascend low (entries_by_rule past entries) ≡ does_ascend low entries
ruled_ascend low past [] = refl
ruled_ascend low past (entry ∷ entries) =
    ap (λ (b : Bool). nat_le low entry.id && b) (ruled_ascend (entry.id + 1) (past ++ entry_footprint entry ∷ []) entries)

pub for_append : (worker : Worker) (xs ys : List (Worker × Entry)) → entries_for worker (xs ++ ys) ≡ entries_for worker xs ++ entries_for worker ys
for_append worker xs ys =
    let own : Worker × Entry → Bool = λ e. e.0.0 == worker.0 in
    let entry : Worker × Entry → Entry = λ e. e.1 in
    ap (map entry) (filter-append own xs ys) ∙ map-append entry (filter own xs) (filter own ys)

for_cons : (worker of : Worker) (entry : Entry) (rest : List (Worker × Entry)) (b : Bool) → (of.0 == worker.0) ≡ b
    → entries_for worker ((of, entry) ∷ rest) ≡ (if b then entry ∷ entries_for worker rest else entries_for worker rest)
for_cons worker of entry rest b is =
    let own : Worker × Entry → Bool = λ e. e.0.0 == worker.0 in
    ap (λ (c : Bool). map (λ (e : Worker × Entry). e.1) (if c then (of, entry) ∷ filter own rest else filter own rest)) is ∙ chosen b where
      chosen : (c : Bool)
          → map (λ (e : Worker × Entry). e.1) (if c then (of, entry) ∷ filter (λ (e : Worker × Entry). e.0.0 == worker.0) rest else filter (λ
          (e : Worker × Entry). e.0.0 == worker.0) rest)
          ≡ (if c then entry ∷ entries_for worker rest else entries_for worker rest)
      chosen true = refl
      chosen false = refl

-- ---- a task

-- the number of a worker's first entry of a task's copies: it receives or it sends
abbrev first_number : ℕ → Bool → ℕ
first_number task owns = if owns then 64 * task + 8 else 64 * task

copies_between : (form : TaskForm) (base : Versions) (task : ℕ) (owner worker : Worker) (reads : List Object) (low : ℕ) (ms : List _) → task ≤ 1024 → low ≤ 8
    → AreMoves base owner reads ms → AreIndexed low 8 ms → (b : Bool) → (owner.0 == worker.0) ≡ b
    → Between (first_number task b + low) (first_number task b + 8) (entries_for worker (flat_map (entry_for form) (copies_of base task owner ms)))
copies_between form base task owner worker reads low [] few room are at true is = omega (arith, room)
copies_between form base task owner worker reads low [] few room are at false is = omega (arith, room)
copies_between form base task owner worker reads low (m ∷ ms) few room are at true is =
    let rest : List (Worker × Entry) = flat_map (entry_for form) (copies_of base task owner ms) in
    let sent : Worker × Command = send_of task owner m in
    let got : Worker × Command = receive_of base task owner m in
    let later = copies_between form base task owner worker reads (m.index + 1) ms few (omega (arith, at.1)) are.4 at.2 true is in
    let all : entries_for worker (entry_for form sent ++ (entry_for form got ++ rest)) ≡ entries_for worker (entry_for form got ++ rest) =
    for_cons worker m.from _ (entry_for form got ++ rest) false (elsewhere owner worker m.from is are.1) in
    subst (Between (64 * task + 8 + low) (64 * task + 8 + 8)) (sym (all ∙ for_cons worker owner _ rest true is))
    (omega (arith, few, at.0, at.1), lower _ (64 * task + 8 + (m.index + 1)) (64 * task + 8 + 8) (entries_for worker rest) (omega (arith, few, at.1)) later)
copies_between form base task owner worker reads low (m ∷ ms) few room are at false is =
    let rest : List (Worker × Entry) = flat_map (entry_for form) (copies_of base task owner ms) in
    let sent : Worker × Command = send_of task owner m in
    let got : Worker × Command = receive_of base task owner m in
    let later = copies_between form base task owner worker reads (m.index + 1) ms few (omega (arith, at.1)) are.4 at.2 false is in
    let behind : entries_for worker (entry_for form got ++ rest) ≡ entries_for worker rest = for_cons worker owner _ rest false is in
    either (m.from.0 == worker.0) refl behind later where
      either : (b : Bool) → (m.from.0 == worker.0) ≡ b
          → entries_for worker (entry_for form (receive_of base task owner m) ++ flat_map (entry_for form) (copies_of base task owner ms))
          ≡ entries_for worker (flat_map (entry_for form) (copies_of base task owner ms))
          → Between (64 * task + (m.index + 1)) (64 * task + 8) (entries_for worker (flat_map (entry_for form) (copies_of base task owner ms)))
          → Between (64 * task + low) (64 * task + 8) (entries_for worker (flat_map (entry_for form) (copies_of base task owner (m ∷ ms))))
      either true same behind later =
          let send : Entry = entry_of (entry_number task 0 m.index) (EntryKind.Send (main_slot m.object) owner (entry_number task 1 m.index)) in
          subst (Between (64 * task + low) (64 * task + 8))
          (sym (for_cons worker m.from send (entry_for form (receive_of base task owner m) ++ flat_map (entry_for form)
          (copies_of base task owner ms)) true same
          ∙ ap (λ (es : List Entry). send ∷ es) behind)) (
            omega (arith, few, at.0, at.1),
            lower (entry_number task 0 m.index + 1) (64 * task + (m.index + 1)) (64 * task + 8)
                (entries_for worker (flat_map (entry_for form) (copies_of base task owner ms))) (omega (arith, few, at.1)) later,
          )
      either false same behind later =
          subst (Between (64 * task + low) (64 * task + 8))
          (sym (for_cons worker m.from _ (entry_for form (receive_of base task owner m) ++ flat_map (entry_for form) (copies_of base task owner ms)) false same
          ∙ behind))
          (lower (64 * task + low) (64 * task + (m.index + 1)) (64 * task + 8) (entries_for worker (flat_map (entry_for form) (copies_of base task owner ms)))
          (omega (arith, at.0)) later)

-- copies and what is behind them
task_joined : (task : ℕ) (b : Bool) (xs ys : List Entry) → Between (first_number task b + 0) (first_number task b + 8) xs
    → Between (first_number task b + 8) (64 * task + 64) ys → Between (64 * task) (64 * task + 64) (xs ++ ys)
task_joined task true xs ys first second =
    joined (64 * task) (64 * task + 8 + 8) (64 * task + 64) xs ys (lower (64 * task) (64 * task + 8 + 0) (64 * task + 8 + 8) xs (omega arith) first) second
task_joined task false xs ys first second =
    joined (64 * task) (64 * task + 8) (64 * task + 64) xs ys (lower (64 * task) (64 * task + 0) (64 * task + 8) xs (omega arith) first) second

run_between : (task : ℕ) (owner worker : Worker) (run : Entry) → task ≤ 1024 → run.id ≡ 64 * task + 32 → (b : Bool) → (owner.0 == worker.0) ≡ b
    → Between (first_number task b + 8) (64 * task + 64) (entries_for worker ((owner, run) ∷ []))
run_between task owner worker run few numbered true is =
    subst (Between (64 * task + 8 + 8) (64 * task + 64)) (sym (for_cons worker owner run [] true is)) (omega (arith, numbered), omega (arith, numbered))
run_between task owner worker run few numbered false is =
    subst (Between (64 * task + 8) (64 * task + 64)) (sym (for_cons worker owner run [] false is)) (omega arith)

task_between : (place : Placement) (live : List Bool) (task : ℕ) (offsets : Versions) (form : TaskForm) (worker : Worker) → task ≤ 1024
    → length form.reads ≤ 8
    → Between (64 * task) (64 * task + 64) (entries_for worker (flat_map (entry_for form) (scheduled offsets (task_for form) task task place live)))
task_between place live task offsets form worker few short =
    let owner : Worker = home_of place offsets.objects live form in
    let ms = moves offsets owner [] form.reads in
    let copies : List (Worker × Command) = copies_of offsets task owner ms in
    let command : Command = run_of (task_for form) task task ms in
    let run : Entry = entry_of (entry_number task 4 0) (EntryKind.Run form.func form.params (map main_slot form.reads) (map main_slot form.writes)) in
    let parts : entries_for worker (flat_map (entry_for form) (copies ++ (owner, command) ∷ []))
    ≡ entries_for worker (flat_map (entry_for form) copies) ++ entries_for worker ((owner, run) ∷ []) =
    ap (entries_for worker) (flat_map-append (entry_for form) copies ((owner, command) ∷ []))
    ∙ for_append worker (flat_map (entry_for form) copies) ((owner, run) ∷ []) in
    subst (Between (64 * task) (64 * task + 64)) (sym parts)
    (task_joined task (owner.0 == worker.0) (entries_for worker (flat_map (entry_for form) copies)) (entries_for worker ((owner, run) ∷ []))
    (copies_between form offsets task owner worker form.reads 0 ms few (omega arith) (moves_facts offsets owner form.reads)
    (moves_indexed offsets owner [] form.reads 8 (omega (arith, short))) (owner.0 == worker.0) refl)
    (run_between task owner worker run few (omega (arith, few)) (owner.0 == worker.0) refl))

-- ---- the walk

pub need_entries : (worker : Worker) (reads : List Object) (walk : Walk) → (fold (with_need worker) walk reads).entries ≡ walk.entries
need_entries worker [] walk = refl
need_entries worker (object ∷ reads) walk =
    need_entries worker reads (with_need worker walk object) ∙ either (latest_of walk.offsets object == 0) where
      either : (b : Bool)
          → (need_if b worker walk object).entries ≡ walk.entries
      either true = refl
      either false = refl

pub walk_between : (place : Placement) (live : List Bool) (objects : ℕ) (worker : Worker) (number : ℕ) (walk : Walk) (forms : List TaskForm)
    → number + length forms ≤ 1024 → list_all (is_fit objects) forms ≡ true → Between 0 (64 * number) (entries_for worker walk.entries)
    → Between 0 (64 * (number + length forms)) (entries_for worker (walked place live number walk forms).entries)
walk_between place live objects worker number walk [] few fit are =
    subst (λ (n : ℕ). Between 0 (64 * n) (entries_for worker walk.entries)) (omega arith) are
walk_between place live objects worker number walk (form ∷ forms) few fit are =
    let each = both_true (is_fit objects form) (list_all (is_fit objects) forms) fit in
    let home : Worker = home_of place walk.offsets.objects live form in
    let ready : Walk = fold (with_need home) walk form.reads in
    let more : List (Worker × Entry) = flat_map (entry_for form) (scheduled ready.offsets (task_for form) number number place live) in
    let next : Walk = walked_past place live number walk form in
    let parts : entries_for worker next.entries ≡ entries_for worker walk.entries ++ entries_for worker more =
    for_append worker ready.entries more
    ∙ ap (λ (es : List (Worker × Entry)). entries_for worker es ++ entries_for worker more) (need_entries home form.reads walk) in
    let last : Between (64 * number) (64 * (number + 1)) (entries_for worker more) =
    subst (λ (n : ℕ). Between (64 * number) n (entries_for worker more)) (omega arith)
    (task_between place live number ready.offsets form worker (omega (arith, few)) (few_reads objects form each.0)) in
    let now : Between 0 (64 * (number + 1)) (entries_for worker next.entries) =
    subst (Between 0 (64 * (number + 1))) (sym parts)
    (joined 0 (64 * number) (64 * (number + 1)) (entries_for worker walk.entries) (entries_for worker more) are last) in
    subst (λ (n : ℕ). Between 0 (64 * n) (entries_for worker (walked place live (number + 1) next forms).entries)) (omega arith)
    (walk_between place live objects worker (number + 1) next forms (omega (arith, few)) each.1 now)

-- ---- closing copies

-- none goes from a worker to itself
abbrev pub AreApart : List Closing → Type 0
AreApart [] = Unit {0}
AreApart (c ∷ cs) = (c.from.0 ≡ c.to.0 → ⊥) × AreApart cs

pub from_apart : (offsets : Versions) (need : Worker × Object) (from : Worker) → closing_from offsets need ≡ Some from → from.0 ≡ need.0.0 → ⊥
from_apart offsets need from found same = either (is_current offsets need.1 need.0) refl found where
  either : (b : Bool) → is_current offsets need.1 need.0 ≡ b → (if b then None else holder offsets need.1) ≡ Some from → ⊥
  either true is found = false≢true (ap (λ (o : Option Worker). is_some o) found)
  either false is found =
      let facts = holder_facts offsets need.1 0 offsets.workers from found in
      false≢true (sym is ∙ ap (λ (n : ℕ). is_current offsets need.1 (record { 0 = n })) (sym same) ∙ facts.1)

pub closings_apart : (offsets : Versions) (needs : List (Worker × Object)) → AreApart (closings offsets needs)
closings_apart offsets [] = tt
closings_apart offsets (need ∷ needs) = either (closing_from offsets need) refl (closings_apart (closed_for offsets need) needs) where
  either : (o : Option Worker) → closing_from offsets need ≡ o → AreApart (closings (closed_for offsets need) needs)
      → AreApart (copy_from offsets need o ++ closings (closed_for offsets need) needs)
  either None is rest = rest
  either (Some from) is rest = (from_apart offsets need from is, rest)

pub closings_few : (offsets : Versions) (needs : List (Worker × Object)) → length (closings offsets needs) ≤ length needs
closings_few offsets [] = omega arith
closings_few offsets (need ∷ needs) = either (closing_from offsets need) (closings_few (closed_for offsets need) needs) where
  either : (o : Option Worker) → length (closings (closed_for offsets need) needs) ≤ length needs
      → length (copy_from offsets need o ++ closings (closed_for offsets need) needs) ≤ length (need ∷ needs)
  either None rest = omega (arith, rest)
  either (Some from) rest = omega (arith, rest)

pub closing_between : (worker : Worker) (copy : ℕ) (cs : List Closing) → AreApart cs → copy + length cs ≤ 2 ^ 16
    → Between (65536 + copy) (65536 + copy + length cs) (entries_for worker (closing_entries copy cs))
closing_between worker copy [] are few = omega arith
closing_between worker copy (c ∷ cs) are few =
    either (c.from.0 == worker.0) (c.to.0 == worker.0) refl refl
    (subst (λ (n : ℕ). Between (65536 + (copy + 1)) n (entries_for worker (closing_entries (copy + 1) cs))) (omega arith)
    (closing_between worker (copy + 1) cs are.1 (omega (arith, few)))) where
      either : (b d : Bool) → (c.from.0 == worker.0) ≡ b → (c.to.0 == worker.0) ≡ d
          → Between (65536 + (copy + 1)) (65536 + copy + length (c ∷ cs)) (entries_for worker (closing_entries (copy + 1) cs))
          → Between (65536 + copy) (65536 + copy + length (c ∷ cs)) (entries_for worker (closing_send copy c ∷ closing_receive copy c ∷ closing_entries
          (copy + 1) cs))
      either true true first second rest = absurd (are.0 (eqb-true c.from.0 worker.0 first ∙ sym (eqb-true c.to.0 worker.0 second)))
      either true false first second rest =
          subst (Between (65536 + copy) (65536 + copy + length (c ∷ cs)))
          (sym (for_cons worker c.from (closing_send copy c).1 (closing_receive copy c ∷ closing_entries (copy + 1) cs) true first
          ∙ ap (λ (es : List Entry). (closing_send copy c).1 ∷ es) (for_cons worker c.to (closing_receive copy c).1 (closing_entries
          (copy + 1) cs) false second))) (
            omega (arith, few),
            lower _ (65536 + (copy + 1)) (65536 + copy + length (c ∷ cs)) (entries_for worker (closing_entries (copy + 1) cs)) (omega
                (arith, few)) rest,
          )
      either false true first second rest =
          subst (Between (65536 + copy) (65536 + copy + length (c ∷ cs)))
          (sym (for_cons worker c.from (closing_send copy c).1 (closing_receive copy c ∷ closing_entries (copy + 1) cs) false first
          ∙ for_cons worker c.to (closing_receive copy c).1 (closing_entries (copy + 1) cs) true second)) (
            omega (arith, few),
            lower _ (65536 + (copy + 1)) (65536 + copy + length (c ∷ cs)) (entries_for worker (closing_entries (copy + 1) cs)) (omega
                (arith, few)) rest,
          )
      either false false first second rest =
          subst (Between (65536 + copy) (65536 + copy + length (c ∷ cs)))
          (sym (for_cons worker c.from (closing_send copy c).1 (closing_receive copy c ∷ closing_entries (copy + 1) cs) false first
          ∙ for_cons worker c.to (closing_receive copy c).1 (closing_entries (copy + 1) cs) false second))
          (lower (65536 + copy) (65536 + (copy + 1)) (65536 + copy + length (c ∷ cs)) (entries_for worker (closing_entries (copy + 1) cs)) (omega arith) rest)

-- ---- the template

pub filter_few : {X : Type 0} (p : X → Bool) (xs : List X) → length (filter p xs) ≤ length xs
filter_few p [] = omega arith
filter_few {X} p (x ∷ xs) = either (p x) (filter_few p xs) where
  either : (b : Bool) → length (filter p xs) ≤ length xs → length (if b then x ∷ filter p xs else filter p xs) ≤ length (x ∷ xs)
  either true rest = omega (arith, rest)
  either false rest = omega (arith, rest)

pub slots_long : (objects from n : ℕ) → length (flat_map (λ (number : ℕ). slots_of (record { 0 = number }) objects) (range_with_len from n)) ≡ n * objects
slots_long objects from zero = omega arith
slots_long objects from (suc n) =
    let first : List (Worker × Object) = slots_of (record { 0 = from }) objects in
    let slot : ℕ → Worker × Object = λ number. (record { 0 = from }, record { 0 = number }) in
    let one : length first ≡ objects = length-map-range_with_len slot 0 objects in
    let rest = slots_long objects (from + 1) n in
    length-append first (flat_map (λ (number : ℕ). slots_of (record { 0 = number }) objects) (range_with_len (from + 1) n)) ∙ (omega (arith, one, rest))

all_map : {Y : Type 0} (q : Y → Bool) (g : ℕ → Y) (from n : ℕ) → ((k : ℕ) → q (g k) ≡ true) → list_all q (map g (range_with_len from n)) ≡ true
all_map q g from zero each = refl
all_map q g from (suc n) each = ap₂ (λ (a b : Bool). a && b) (each from) (all_map q g (from + 1) n each)

-- the entries of each half ascend by number
pub built_ascend : (place : Placement) (objects : ℕ) (live : List Bool) (template : ControllerTemplate) → length live ≤ 16 → objects ≤ 512
    → length template.forms ≤ 1024 → list_all (is_fit objects) template.forms ≡ true
    → list_all (does_ascend 0) (built place objects live template).halves ≡ true
built_ascend place objects live template workers_few objects_few few fit =
    let workers : ℕ = length live in
    let walk : Walk = end_of place objects live template.forms in
    let slots : List (Worker × Object) = all_slots workers objects in
    let needs : List (Worker × Object) = needs_of walk.needed slots in
    let copies : List Closing = closings walk.offsets needs in
    let long : length slots ≡ workers * objects = slots_long objects 0 workers in
    let most : workers * objects ≤ workers * 512 = mul-le-mul_left workers objects_few in
    let filtered : length needs ≤ length slots = filter_few (λ (slot : Worker × Object). is_current walk.needed slot.1 slot.0) slots in
    let closed_few : length copies ≤ length needs = closings_few walk.offsets needs in
    let half : (worker : Worker) → does_ascend 0 (half_for worker (walk.entries ++ closing_entries 0 copies)) ≡ true =
    λ worker. (
    let tasks : Between 0 (64 * (0 + length template.forms)) (entries_for worker walk.entries) =
    walk_between place live objects worker 0 (empty_walk workers objects) template.forms (omega (arith, few)) fit (omega arith) in
    let closes : Between (65536 + 0) (65536 + 0 + length copies) (entries_for worker (closing_entries 0 copies)) =
    closing_between worker 0 copies (closings_apart walk.offsets needs) (omega (arith, long, most, filtered, closed_few, workers_few)) in
    ruled_ascend 0 [] (entries_for worker (walk.entries ++ closing_entries 0 copies))
    ∙ ascend_of 0 (65536 + 0 + length copies) (entries_for worker (walk.entries ++ closing_entries 0 copies))
    (subst (Between 0 (65536 + 0 + length copies)) (sym (for_append worker walk.entries (closing_entries 0 copies)))
    (joined 0 (64 * (0 + length template.forms)) (65536 + 0 + length copies) (entries_for worker walk.entries) (entries_for worker
    (closing_entries 0 copies)) tasks
    (lower (64 * (0 + length template.forms)) (65536 + 0) (65536 + 0 + length copies) (entries_for worker (closing_entries 0 copies)) (omega
    (arith, few)) closes)))) in
    all_map (does_ascend 0) (λ (number : ℕ). half_for (record { 0 = number }) (walk.entries ++ closing_entries 0 copies)) 0 workers (λ k. half
    (record { 0 = k }))
