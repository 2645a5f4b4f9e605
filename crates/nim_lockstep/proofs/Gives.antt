-- Which groups the orders of a move add to each worker's session.
use Rattle.std.proofs.Common.{◌≡◌, ℕ, ◌<◌, Bool, true, false, ℤ, List, [], ◌∷◌, ◌++◌, length, refl, ap, sym, subst, ◌∙◌, arith}
use Rattle.std.specs.Prelude.{nat_lt, if◌then◌else◌, slice_index_or}
use Rattle.std.specs.List.{AllByRecursion, flat_map, fold}
use Rattle.std.proofs.lemmas.Bool.{lt-ltb}
use Rattle.std.proofs.lemmas.List.{append-nil}
use Rattle.std.proofs.lemmas.List.Sums.{fold-append}
use Rattle.nim_base.specs.declared.number.Object.{Object}
use Rattle.nim_command.specs.declared.command.Command.{Command}
use Rattle.nim_command.specs.declared.command.Kind.{Kind}
use Rattle.nim_command.specs.declared.edit.PatchPart.{PatchPart}
use Rattle.nim_command.specs.declared.entry.Entry.{Entry}
use Rattle.nim_command.specs.Before.{Footprint, footprint_of}
use Rattle.nim_command.specs.Edits.{edited_by}
use Rattle.nim_command.specs.Expansion.{command_of, copied, part_kind, taken_past}
use Rattle.nim_command.specs.Numbers.{main_slot, patch_number}
use Rattle.nim_command.specs.Ruled.{commands_by_rule}
use Rattle.nim_command.specs.Waits.{Group}
use Rattle.nim_message.specs.declared.order.ToWorker.{ToWorker}
use Rattle.nim_message.specs.Orders.{Session, after_order, instance_group, is_current, no_session, session_of, with_group, with_half}
use Rattle.nim_place.specs.Directed.{Directed, orders_to}
use Rattle.nim_place.specs.Sound.{version_named}
use Rattle.nim_place.specs.TaskRuns.{position_run}
use Rattle.nim_place.specs.Versions.{latest_of}
use Rattle.nim_place.proofs.Directed.{to_append}
use Rattle.nim_template.specs.Given.{instance_with}
use Rattle.nim_template.specs.Instance.{half_of}
use Rattle.nim_patch.specs.Patches.{after_copies}
use Rattle.nim_course.specs.Controller.{Controller}
use Rattle.nim_course.specs.OrdersGiven.{reused_orders}
use Rattle.nim_lockstep.proofs.Groups.{Gives, Grows, orders_give}
use Rattle.nim_lockstep.proofs.Reused.{before_each, copies_for, order_last, orders_before, reused_to, template_for}
use Rattle.nim_lockstep.proofs.Separate.{IsOther}
use Rattle.nim_lockstep.proofs.Singles.{Each, each_to}
use Rattle.nim_lockstep.proofs.UnderWay.{is_from_instance}

-- ---- Singles

-- the session of more orders
pub session_more : (given more : List Directed) (number : ℕ)
    → session_of (orders_to number (given ++ more)) ≡ fold after_order (session_of (orders_to number given)) (orders_to number more)
session_more given more number =
    ap session_of (to_append number given more) ∙ fold-append after_order no_session (orders_to number given) (orders_to number more)

-- orders that are Singles add groups that came from no instance
pub singles_grow : (given more : List Directed) (number : ℕ) → Each (Gives IsOther) more
    → Grows IsOther (session_of (orders_to number given)) (session_of (orders_to number (given ++ more)))
singles_grow given more number gives =
    let before : Session = session_of (orders_to number given) in
    subst (Grows IsOther before) (sym (session_more given more number))
    (orders_give IsOther (orders_to number more) before (each_to (Gives IsOther) number more gives))

-- ---- patches

-- a command runs no task
abbrev pub RunsNone : Command → Type 0
RunsNone command = position_run command.kind ≡ []

-- a group came from no instance, and runs no task
abbrev pub IsQuiet : Group → Type 0
IsQuiet group = IsOther group × AllByRecursion RunsNone group.commands

part_runs : (named : ℕ) (part : PatchPart) → position_run (part_kind named part) ≡ []
part_runs named part = either part.receives where
  either : (b : Bool)
      → position_run (if b then Kind.Receive (main_slot part.object) named else Kind.Send (main_slot part.object) part.peer (patch_number part.number)) ≡ []
  either true = refl
  either false = refl

patch_runs_none : (versions : List ℕ) (parts : List PatchPart) (past : List Footprint) (taken : ℕ)
    → AllByRecursion RunsNone (commands_by_rule past (copied versions taken parts))
patch_runs_none versions [] past taken = tt
patch_runs_none versions (part ∷ parts) past taken =
    let named : ℕ = slice_index_or versions taken 0 in
    (part_runs named part, patch_runs_none versions parts (past ++ footprint_of (command_of named part) ∷ []) (taken_past taken part))

-- ---- a reused instance

-- of a worker's part of an instance there is at most one group: it came from this instance, and its half has entries
abbrev pub IsLast : Bool → ℕ → List Group → Type 0
IsLast entries instance [] = Unit {0}
IsLast entries instance (group ∷ []) = (is_from_instance group.source ≡ true) × ((group.instance ≡ instance) × (entries ≡ true))
IsLast entries instance groups = ⊥

-- what the orders of a reused instance add
pub record GrowsWhole (entries : Bool) (instance : ℕ) (session after : Session) : Type 0 where
  pub quiet : List Group
  pub all : AllByRecursion IsQuiet quiet
  pub last : List Group
  pub is : IsLast entries instance last
  pub are : after.groups ≡ (session.groups ++ quiet) ++ last

-- the part itself
record AddsLast (entries : Bool) (instance : ℕ) (session after : Session) : Type 0 where
  last : List Group
  is : IsLast entries instance last
  are : after.groups ≡ session.groups ++ last

last_added : (session : Session) (epoch instance block base : ℕ) (args : List ℤ) (before : Object → ℕ) (half : List Entry)
    → AddsLast (nat_lt 0 (length half)) instance session (fold after_order session (instance_with epoch instance block base args before half))
last_added session epoch instance block base args before [] = record { last = []; is = tt; are = sym (append-nil session.groups) }
last_added session epoch instance block base args before (entry ∷ half) = either (is_current session epoch) where
  own : List Entry
  own = edited_by [] (session.halves block)

  versions : List ℕ
  versions = flat_map (λ (e : Entry). version_named before e.kind) (entry ∷ half)

  group : Group
  group = instance_group epoch instance base args versions own

  either : (b : Bool)
      → AddsLast (nat_lt 0 (length (entry ∷ half))) instance session (if b then with_group (with_half session block own) group else session)
  either true = record { last = group ∷ []; is = (refl, (refl, lt-ltb 0 (length (entry ∷ half)) (omega arith))); are = refl }
  either false = record { last = []; is = tt; are = sym (append-nil session.groups) }

pub reused_grow : (c : Controller) (given : List Directed) (block : ℕ) (args : List ℤ) (number : ℕ) → number < length c.live
    → GrowsWhole (nat_lt 0 (length (half_of (template_for c block) number))) c.instance (session_of (orders_to number given))
    (session_of (orders_to number (given ++ reused_orders c block args)))
reused_grow c given block args number below =
    let session : Session = session_of (orders_to number given) in
    let front : List ToWorker = orders_before c block number in
    let between : Session = fold after_order session front in
    let quiet : Grows IsQuiet session between =
    orders_give IsQuiet front session
    (before_each (Gives IsQuiet)
    (record {
      template = λ epoch b half. tt;
      patch = λ epoch patch parts. tt;
      run = λ epoch instance patch versions copies. (refl, patch_runs_none versions copies [] 0);
    })
    c block number) in
    let added =
    last_added between c.epoch c.instance (template_for c block).block c.position args (latest_of (after_copies c.versions (copies_for c block)))
    (half_of (template_for c block) number) in
    let same : session_of (orders_to number (given ++ reused_orders c block args)) ≡ fold after_order between (order_last c block args number) =
    session_more given (reused_orders c block args) number ∙ ap (fold after_order session) (reused_to c block args number below)
    ∙ fold-append after_order session front (order_last c block args number) in
    record {
      quiet = quiet.news;
      all = quiet.all;
      last = added.last;
      is = added.is;
      are = ap (λ (s : Session). s.groups) same ∙ added.are ∙ ap (λ (groups : List Group). groups ++ added.last) quiet.are;
    }
