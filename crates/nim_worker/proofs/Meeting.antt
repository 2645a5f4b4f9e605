-- Which commands meet, by what is kept of them while they aren't complete.
use Rattle.std.proofs.Common.{◌≡◌, ◌<◌, ℕ, suc, zero, Bool, true, false, List, [], ◌∷◌, get_or, length, take, refl, ap, ap₂, sym, subst, arith, ◌∙◌, Option, None, Some, All}
use Rattle.std.specs.Prelude.{slice_get}
use Rattle.std.specs.List.{list_any}
use Rattle.std.specs.Option.{option_map, option_map_or}
use Rattle.std.proofs.lemmas.Bool.{or_from, or_left, or_parts, or_right}
use Rattle.std.proofs.lemmas.List.Elements.{All-head, All-tail}
use Rattle.nim_command.specs.declared.command.Command.{Command}
use Rattle.nim_command.specs.Waits.{Group, Member, members_of}
use Rattle.nim_order.specs.Progress.{is_one_of}
use Rattle.nim_queue.specs.Stands.{outstanding_command}
use Rattle.nim_history.specs.History.{Asked, asked_at}
use Rattle.nim_history.proofs.Left.{asked_is, asked_none}
use Rattle.nim_worker.specs.declared.batch.Work.{Work}
use Rattle.nim_worker.specs.Stands.{tickets_of}
use Rattle.nim_store.specs.declared.key.Key.{Key}
use Rattle.nim_history.specs.InTurn.{key_at}
use Rattle.nim_worker.specs.Taken.{do_share, have_one_frame, is_key, touch_one_slot}

-- a command that isn't complete is the one that was asked for
pub command_asked : (groups : List Group) (ran : List ℕ) (place : ℕ) → is_one_of ran place ≡ false
    → outstanding_command groups (is_one_of ran) place ≡ option_map (λ (asked : Asked). asked.command) (asked_at groups place)
command_asked groups ran place not = rw not (either (slice_get (members_of groups) place) refl) where
  either : (o : Option Member) → slice_get (members_of groups) place ≡ o
      → option_map (λ (m : Member). m.command) o ≡ option_map (λ (asked : Asked). asked.command) (asked_at groups place)
  either None none = rw (asked_none groups place none) refl
  either (Some m) there = rw ((asked_is groups place m there).2) refl

-- whether two commands that aren't complete touch one slot
pub touch_is : (groups : List Group) (ran : List ℕ) (one other : ℕ) (a b : Option Command)
    → a ≡ outstanding_command groups (is_one_of ran) one → b ≡ outstanding_command groups (is_one_of ran) other
    → is_one_of ran one ≡ false → is_one_of ran other ≡ false
    → option_map_or (λ (x : Command). option_map_or (λ (y : Command). do_share x.kind y.kind) b false) a false ≡ touch_one_slot groups one other
touch_is groups ran one other a b first second here there =
    ap₂ (λ (p q : Option Command). option_map_or (λ (x : Command). option_map_or (λ (y : Command). do_share x.kind y.kind) q false) p false)
    (first ∙ command_asked groups ran one here) (second ∙ command_asked groups ran other there)
    ∙ either (asked_at groups one) (asked_at groups other) where
      either : (p q : Option Asked)
          → option_map_or (λ (x : Command). option_map_or (λ (y : Command). do_share x.kind y.kind) (option_map (λ (asked : Asked). asked.command) q) false)
          (option_map (λ (asked : Asked). asked.command) p) false
          ≡ option_map_or (λ (x : Asked). option_map_or (λ (y : Asked). do_share x.command.kind y.command.kind) q false) p false
      either None q = refl
      either (Some p) None = refl
      either (Some p) (Some q) = refl

never : (o : Option Key) → option_map_or (λ (a : Key). false) o false ≡ false
never None = refl
never (Some a) = refl

-- whether a command receives the frame of another one's key, if that one receives any
pub frame_is : (groups : List Group) (one other : ℕ) (key : Option Key) → key ≡ key_at groups other
    → option_map_or (λ (a : Key). option_map_or (is_key a) key false) (key_at groups one) false ≡ have_one_frame groups one other
frame_is groups one other key is = ap (λ (k : Option Key). option_map_or (λ (a : Key). option_map_or (is_key a) k false) (key_at groups one) false) is

-- a command that receives nothing has no frame with another
pub no_frame : (groups : List Group) (one other : ℕ) → None ≡ key_at groups other → false ≡ have_one_frame groups one other
no_frame groups one other is = sym (never (key_at groups one)) ∙ frame_is groups one other None is

-- what holds of all tickets holds of that of a work
pub ticket_within : (P : ℕ → Type 0) (works : List Work) (i : ℕ) (work : Work) → i < length works → work ≡ get_or works i work
    → All P (tickets_of works) → P work.ticket
ticket_within P [] i work within is all = absurd (omega (arith, within))
ticket_within P (w ∷ ws) zero work within is all = subst (λ (v : Work). P v.ticket) (sym is) (All-head P w.ticket (tickets_of ws) all)
ticket_within P (w ∷ ws) (suc i) work within is all = ticket_within P ws i work (omega (arith, within)) is (All-tail P w.ticket (tickets_of ws) all)

-- one more ticket doesn't pass
pub none_so_far : (p : ℕ → Bool) (works : List Work) (i : ℕ) (work : Work) → i < length works → work ≡ get_or works i work → p work.ticket ≡ false
    → list_any p (take i (tickets_of works)) ≡ false → list_any p (take (suc i) (tickets_of works)) ≡ false
none_so_far p [] i work within is not before = absurd (omega (arith, within))
none_so_far p (w ∷ ws) zero work within is not before =
    or_from (p w.ticket) (list_any p (take 0 (tickets_of ws))) (ap (λ (v : Work). p v.ticket) (sym is) ∙ not) refl
none_so_far p (w ∷ ws) (suc i) work within is not before =
    let parts = or_parts (p w.ticket) (list_any p (take i (tickets_of ws))) before in
    or_from (p w.ticket) (list_any p (take (suc i) (tickets_of ws))) parts.0 (none_so_far p ws i work (omega (arith, within)) is not parts.1)

-- one passes
pub one_passes : (p : ℕ → Bool) (works : List Work) (i : ℕ) (work : Work) → i < length works → work ≡ get_or works i work → p work.ticket ≡ true
    → list_any p (tickets_of works) ≡ true
one_passes p [] i work within is does = absurd (omega (arith, within))
one_passes p (w ∷ ws) zero work within is does = or_left (p w.ticket) (list_any p (tickets_of ws)) (ap (λ (v : Work). p v.ticket) (sym is) ∙ does)
one_passes p (w ∷ ws) (suc i) work within is does = or_right (p w.ticket) (list_any p (tickets_of ws)) (one_passes p ws i work (omega (arith, within)) is does)
