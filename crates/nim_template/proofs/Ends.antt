-- Behind the closing copies of an instance its map is like the offsets behind them.
use Rattle.std.proofs.Common.{◌≡◌, ℕ, ◌+◌, ◌<◌, ◌≤◌, false, List, [], ◌∷◌, ◌++◌, map, refl, ap, sym, subst, ◌∙◌, arith, Option, None, Some}
use Rattle.std.specs.Prelude.{◌^◌, ◌==◌, ℤ}
use Rattle.nim_base.specs.declared.number.Object.{Object}
use Rattle.nim_base.specs.declared.number.Worker.{Worker}
use Rattle.nim_command.specs.declared.command.Command.{Command}
use Rattle.nim_command.specs.Expansion.{version_at}
use Rattle.nim_command.specs.Numbers.{main_slot}
use Rattle.nim_place.specs.Versions.{Versions, after_commands, latest_of, with_version}
use Rattle.nim_template.specs.Closing.{after_closings, closed_for, closing_entries, closing_from, closings, copy_from, received_from}
use Rattle.nim_template.specs.Walk.{offset_for}
use Rattle.nim_template.proofs.Alike.{IsAlike, IsEntry, alike_put, at_more}
use Rattle.nim_template.proofs.Chosen.{command_at}
use Rattle.nim_template.proofs.Closes.{AreNeeds, ClosesFor, closes_for, needs_after}
use Rattle.nim_template.proofs.Offsets.{IsKept}
use Rattle.nim_template.proofs.Walks.{only_object}
use Rattle.nim_template.proofs.Written.{closing_more}
use Rattle.nim_template.proofs.Zeros.{IsZero, zero_put}

-- a map that is like offsets, of which each 0 was current at entry
pub record AreEnds (base : ℕ) (entry offsets versions : Versions) : Type 0 where
  pub alike : IsAlike base entry offsets versions
  pub zero : IsZero entry offsets

-- what a closing copy brings
pub closing_version : (base offset : ℕ) → (offset == 0) ≡ false → offset ≤ 1024 → base + 1024 < 2 ^ 64
    → version_at base 0 (offset_for offset) ≡ base + offset
closing_version base offset more few room =
    let small : offset_for offset ≡ offset = omega (arith, few) in
    ap (version_at base 0) small ∙ at_more base 0 offset more (omega (arith, few, room))

-- Where closing copies start: a map that is like offsets, and main slots of these.
pub record IsClosing (most base : ℕ) (entry offsets versions : Versions) (needs : List (Worker × Object)) : Type 0 where
  pub alike : IsAlike base entry offsets versions
  pub kept : IsKept most offsets
  pub at : IsEntry base offsets.objects entry
  pub are : AreNeeds offsets needs
  pub few : most ≤ 1024
  pub room : base + 1024 < 2 ^ 64

-- the map behind the copy for a need, if there is one
abbrev pub received_at : ℕ → Versions → Worker × Object → Option Worker → Versions → Versions
received_at base offsets need None versions = versions
received_at base offsets need (Some from) versions =
    with_version need.0 (version_at base 0 (offset_for (latest_of offsets need.1))) versions (main_slot need.1)

-- there closing copies start again
pub closing_next : (most base : ℕ) (entry offsets versions : Versions) (need : Worker × Object) (needs : List (Worker × Object))
    → IsClosing most base entry offsets versions (need ∷ needs) → (from : Option Worker) → closing_from offsets need ≡ from
    → IsClosing most base entry (closed_for offsets need) (received_at base offsets need from versions) needs
closing_next most base entry offsets versions need needs is from found =
    let first : ClosesFor most offsets need (closed_for offsets need) = closes_for most offsets need is.kept is.are.0 is.are.1 is.are.2 in
    record {
      alike =
          subst (λ (o : Option Worker). IsAlike base entry (received_from offsets need o) (received_at base offsets need from versions)) (sym found)
          (either from found);
      kept = first.closed.is_after.kept;
      at = subst (λ (n : ℕ). IsEntry base n entry) (sym first.closed.is_after.objects) is.at;
      are = needs_after most offsets (closed_for offsets need) needs first.closed.is_after is.are.3;
      few = is.few;
      room = is.room;
    } where
      either : (o : Option Worker) → closing_from offsets need ≡ o
          → IsAlike base entry (received_from offsets need o) (received_at base offsets need o versions)
      either None none = is.alike
      either (Some sender) some =
          let offset : ℕ = latest_of offsets need.1 in
          let more : (offset == 0) ≡ false = closing_more most offsets need sender is.kept is.are.0 is.are.1 is.are.2 some in
          let low : offset ≤ most = is.kept.latest need.1 is.are.1 in
          let few = is.few in
          let room = is.room in
          alike_put base entry offsets versions need.0 offset (version_at base 0 (offset_for offset)) (main_slot need.1 ∷ []) is.alike is.kept.whole is.at
          is.are.0 more (omega (arith, low, few, room)) (closing_version base offset more (omega (arith, low, few)) is.room)
          (λ object inside among.
          (let same : latest_of offsets need.1 ≡ latest_of offsets object =
          ap (λ (n : ℕ). latest_of offsets (record { 0 = n })) (only_object need.1 object among) in omega (arith, same)))

-- and what has offset 0 was current at entry
zero_next : (most base : ℕ) (entry offsets versions : Versions) (need : Worker × Object) (needs : List (Worker × Object))
    → IsClosing most base entry offsets versions (need ∷ needs) → IsZero entry offsets → (from : Option Worker) → closing_from offsets need ≡ from
    → IsZero entry (received_from offsets need from)
zero_next most base entry offsets versions need needs is zero None found = zero
zero_next most base entry offsets versions need needs is zero (Some from) found =
    zero_put entry offsets need.0 (latest_of offsets need.1) (main_slot need.1 ∷ []) zero is.kept.whole is.are.0
    (closing_more most offsets need from is.kept is.are.0 is.are.1 is.are.2 found)

pub closings_alike : (most base : ℕ) (args : List ℤ) (entry offsets versions : Versions) (needs : List (Worker × Object)) (copy : ℕ)
    → IsClosing most base entry offsets versions needs → IsZero entry offsets
    → AreEnds base entry (after_closings offsets needs)
    (after_commands versions (map (command_at base args) (closing_entries copy (closings offsets needs))))
closings_alike most base args entry offsets versions [] copy is zero = record { alike = is.alike; zero = zero }
closings_alike most base args entry offsets versions (need ∷ needs) copy is zero =
    shown (closing_from offsets need) refl
    (λ v k here. closings_alike most base args entry (closed_for offsets need) v needs k here
    (zero_next most base entry offsets versions need needs is zero (closing_from offsets need) refl)) where
      rest_of : ℕ → List (Worker × Command)
      rest_of k = map (command_at base args) (closing_entries k (closings (closed_for offsets need) needs))

      shown : (o : Option Worker) → closing_from offsets need ≡ o
          → ((v : Versions) (k : ℕ) → IsClosing most base entry (closed_for offsets need) v needs
          → AreEnds base entry (after_closings (closed_for offsets need) needs) (after_commands v (rest_of k)))
          → AreEnds base entry (after_closings (closed_for offsets need) needs)
          (after_commands versions (map (command_at base args)
          (closing_entries copy (copy_from offsets need o ++ closings (closed_for offsets need) needs))))
      shown None found rest = rest versions copy (closing_next most base entry offsets versions need needs is None found)
      shown (Some from) found rest =
          rest (received_at base offsets need (Some from) versions) (copy + 1) (closing_next most base entry offsets versions need needs is (Some from) found)
