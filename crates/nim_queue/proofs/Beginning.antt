-- What a queue stands for that was given nothing.
use Rattle.std.proofs.Common.{◌≡◌, ◌∙◌, ℕ, [], List, Option, None, nat_eq, refl, ap, sym, arith, false, not}
use Rattle.std.specs.HashMap.{get}
use Rattle.std.specs.List.{filter, range_with_len}
use Rattle.std.specs.Option.{option_map, option_map_or}
use Rattle.std.specs.Prelude.{◌&&◌, ◌+◌, Bool, drop, is_some, length, slice_get}
use Rattle.std.proofs.lemmas.Bool.{false≢true}
use Rattle.std.proofs.lemmas.Option.{slice_get_past}
use Rattle.nim_base.specs.declared.number.Slot.{Slot}
use Rattle.nim_command.specs.declared.command.Kind.{Kind}
use Rattle.nim_command.specs.Slots.{does_read, does_write}
use Rattle.nim_command.specs.Waits.{Member, is_written_by, members_of}
use Rattle.nim_queue.specs.Used.{used_in}
use Rattle.nim_queue.specs.Counts.{is_free, is_in}
use Rattle.nim_queue.specs.Stands.{KeepsGroups, is_reader, is_writer, kept_at, nothing_done}
use Rattle.nim_queue.specs.declared.queue.BeforeQueue.{BeforeQueue}
use Rattle.nim_queue.proofs.Looking.{none_pass, waits_none}

pub begun : (queue : BeforeQueue) → ((t : ℕ) → get nat_eq queue.waiting t ≡ None) → ((s : ℕ) → used_in queue.slots.items s ≡ None)
    → queue.released.items.items ≡ [] → queue.given ≡ 0 → queue.groups ≡ 0 → KeepsGroups queue [] nothing_done
begun queue gone unused released given groups =
    let absent : (t : ℕ) → slice_get (members_of []) t ≡ None = λ t. slice_get_past (members_of []) t (omega arith) in
    let last : (Kind → Slot → Bool) → ℕ → ℕ → Option Member → Bool =
    λ uses t s o. option_map_or (λ (m : Member). uses m.command.kind (record { 0 = s })
    && not (is_written_by (drop (t + 1) (members_of [])) (record { 0 = s }))) o false in
    record {
      waits = λ t. [];
      followers = λ t. [];
      kept = λ t. gone t ∙ sym (ap (option_map (kept_at (λ x. []) (λ x. []) t)) (absent t));
      left = λ t e now. sym (ap (λ (ts : List ℕ). is_in e (filter (λ x. not (nothing_done x)) ts)) (waits_none (members_of []) t (absent t)));
      mirrored = λ e l first second. refl;
      released = record {
        items = released ∙ sym (none_pass (λ t. is_free (get nat_eq queue.waiting t)) (range_with_len 0 queue.given) (λ t. ap is_free (gone t)));
        room = omega (arith, ap length (none_pass (λ t. is_some (get nat_eq queue.waiting t)) (range_with_len 0 queue.given) (λ t. ap is_some (gone t))));
        past = λ t from. gone t;
      };
      written = λ t s now. ap (is_writer t) (unused s) ∙ sym (ap (λ (o : Option Member). last does_write t s o) (absent t));
      read = λ t s now. ap (is_reader t) (unused s) ∙ sym (ap (λ (o : Option Member). last does_read t s o) (absent t));
      short = λ t w got. absurd (false≢true (ap is_some (sym (gone t) ∙ got)));
      brief = λ s u got. absurd (false≢true (ap is_some (sym (unused s) ∙ got)));
      given = given;
      numbered = groups;
      later = λ t from. refl;
    }
