-- What legal orders ask for: each command may be given where the slots hold what those before it leave.
use Rattle.std.proofs.Common.{◌≡◌, ℕ, ◌+◌, ◌≤◌, suc, zero, Bool, true, false, List, [], ◌∷◌, ◌++◌, length, refl, ap, ap₂, sym, subst, ◌∙◌, arith, Option, None, Some}
use Rattle.std.specs.Prelude.{if◌then◌else◌, slice_get}
use Rattle.std.specs.Option.{option_map_or}
use Rattle.std.proofs.Math.Path.{fun_ext}
use Rattle.std.proofs.lemmas.Bool.{both_ways}
use Rattle.std.proofs.lemmas.List.{append-nil, append_assoc, length-append}
use Rattle.std.proofs.lemmas.List.Concat.{flat_map-append}
use Rattle.nim_base.specs.declared.number.Slot.{Slot}
use Rattle.nim_command.specs.declared.command.Command.{Command}
use Rattle.nim_command.specs.Holds.{Content, holds, left_by}
use Rattle.nim_command.specs.declared.entry.Entry.{Entry}
use Rattle.nim_command.specs.Edits.{edited_by}
use Rattle.nim_command.specs.Waits.{Group, commands_of, single_group}
use Rattle.nim_message.specs.declared.order.ToWorker.{ToWorker}
use Rattle.nim_message.specs.declared.order.ToWorker.TheVariants.{Single, InstallTemplate, Instantiate, InstallPatch, RunPatch, Reset, Stop}
use Rattle.nim_message.specs.Orders.{Session, after_order, instance_group, is_current, patch_group, with_group, with_half, with_patch}
use Rattle.nim_job.specs.declared.job.Job.{Job}
use Rattle.nim_job.specs.Objects.{shapes_of}
use Rattle.nim_plan.specs.Legal.{AreLegal, IsLegalKind, IsLegalOrder}
use Rattle.nim_base.proofs.Lists.{get_front}

-- what slots hold before a command depends on the commands before it alone
holds_front : (xs ys : List Command) (n : ℕ) → n ≤ length xs → (slot : Slot) → holds (xs ++ ys) n slot ≡ holds xs n slot
holds_front xs ys zero within slot = refl
holds_front xs ys (suc n) within slot =
    ap₂ (λ (h : Slot → Content) (o : Option Command). option_map_or (λ (c : Command). left_by c.kind h slot) o (h slot))
    (fun_ext (holds_front xs ys n (omega (arith, within)))) (get_front xs ys n (omega (arith, within)))

-- commands are legal with more of them behind
legal_behind : (job : Job) (past xs ys : List Command) → AreLegal job past xs → AreLegal job (past ++ xs) ys → AreLegal job past (xs ++ ys)
legal_behind job past [] ys legal more = subst (λ (all : List Command). AreLegal job all ys) (append-nil past) more
legal_behind job past (c ∷ xs) ys legal more =
    (legal.0, legal_behind job (past ++ c ∷ []) xs ys legal.1 (subst (λ (all : List Command). AreLegal job all ys) (sym (append_assoc past (c ∷ []) xs)) more))

-- a command among legal ones may be given where it stands
legal_among : (job : Job) (past xs : List Command) (i : ℕ) (c : Command) → AreLegal job past xs → slice_get xs i ≡ Some c
    → IsLegalKind job (holds (past ++ xs) (length past + i)) c.kind
legal_among job past [] i c legal is = absurd cc
legal_among job past (x ∷ xs) zero c legal is =
    let same : x ≡ c = cc in
    let place : length past ≡ length past + 0 = omega arith in
    let front : holds past (length past) ≡ holds (past ++ x ∷ xs) (length past) =
    fun_ext (λ slot. sym (holds_front past (x ∷ xs) (length past) (omega arith) slot)) in
    subst (λ (n : ℕ). IsLegalKind job (holds (past ++ x ∷ xs) n) c.kind) place
    (subst (λ (h : Slot → Content). IsLegalKind job h c.kind) front (subst (λ (d : Command). IsLegalKind job (holds past (length past)) d.kind) same legal.0))
legal_among job past (x ∷ xs) (suc i) c legal is =
    let place : length (past ++ x ∷ []) + i ≡ length past + suc i = omega (arith, length-append past (x ∷ [])) in
    subst (λ (all : List Command). IsLegalKind job (holds all (length past + suc i)) c.kind) (append_assoc past (x ∷ []) xs)
    (subst (λ (n : ℕ). IsLegalKind job (holds ((past ++ x ∷ []) ++ xs) n) c.kind) place (legal_among job (past ++ x ∷ []) xs i c legal.1 is))

pub legal_at : (job : Job) (commands : List Command) (i : ℕ) (c : Command) → AreLegal job [] commands → slice_get commands i ≡ Some c
    → IsLegalKind job (holds commands i) c.kind
legal_at job commands i c legal is =
    let place : 0 + i ≡ i = omega arith in
    subst (λ (n : ℕ). IsLegalKind job (holds commands n) c.kind) place (legal_among job [] commands i c legal is)

-- A session whose commands are legal. It has the job's shapes once it is begun, and no commands before.
pub record IsSound (job : Job) (session : Session) : Type 0 where
  pub legal : AreLegal job [] (commands_of session.groups)
  pub shapes : session.begun ≡ true → session.shapes ≡ shapes_of job.vars
  pub none : session.begun ≡ false → commands_of session.groups ≡ []

-- with one more group
grown : (job : Job) (session : Session) (group : Group) → session.begun ≡ true → AreLegal job (commands_of session.groups) group.commands → IsSound job session
    → IsSound job (with_group session group)
grown job session group begun more sound =
    let all : commands_of (with_group session group).groups ≡ commands_of session.groups ++ group.commands =
    flat_map-append (λ (g : Group). g.commands) session.groups (group ∷ [])
    ∙ ap (λ (cs : List Command). commands_of session.groups ++ cs) (append-nil group.commands) in
    record {
      legal = subst (λ (cs : List Command). AreLegal job [] cs) (sym all) (legal_behind job [] (commands_of session.groups) group.commands sound.legal more);
      shapes = sound.shapes;
      none = λ unbegun. absurd (both_ways session.begun unbegun begun);
    }

-- halves and patches don't count
alike : (job : Job) (session wider : Session) → IsSound job session → wider.groups ≡ session.groups → wider.shapes ≡ session.shapes
    → wider.begun ≡ session.begun → IsSound job wider
alike job session wider sound groups shapes same = record {
  legal = subst (λ (gs : List Group). AreLegal job [] (commands_of gs)) (sym groups) sound.legal;
  shapes = λ begun. shapes ∙ sound.shapes (sym same ∙ begun);
  none = λ unbegun. ap commands_of groups ∙ sound.none (sym same ∙ unbegun);
}

alike_if : (job : Job) (session wider : Session) → IsSound job session → wider.groups ≡ session.groups → wider.shapes ≡ session.shapes
    → wider.begun ≡ session.begun
    → (b : Bool) → IsSound job (if b then wider else session)
alike_if job session wider sound groups shapes same true = alike job session wider sound groups shapes same
alike_if job session wider sound groups shapes same false = sound

-- with one more group where it counts
grown_if : (job : Job) (session wider : Session) (group : Group) → session.begun ≡ true → AreLegal job (commands_of session.groups) group.commands
    → IsSound job session
    → wider.groups ≡ session.groups → wider.shapes ≡ session.shapes → wider.begun ≡ session.begun → (b : Bool)
    → IsSound job (if b then with_group wider group else session)
grown_if job session wider group begun more sound groups shapes same true =
    grown job wider group (same ∙ begun) (subst (λ (gs : List Group). AreLegal job (commands_of gs) group.commands) (sym groups) more)
    (alike job session wider sound groups shapes same)
grown_if job session wider group begun more sound groups shapes same false = sound

-- after one more order
pub sound_order : (job : Job) (session : Session) (order : ToWorker) → IsLegalOrder job session order → IsSound job session
    → IsSound job (after_order session order)
sound_order job session (Single epoch instance commands) legal sound =
    grown_if job session session (single_group epoch instance commands) legal.0 legal.2 sound refl refl refl (is_current session epoch)
sound_order job session (InstallTemplate epoch block entries) legal sound =
    alike_if job session (with_half session block entries) sound refl refl refl (is_current session epoch)
sound_order job session (Instantiate epoch instance block base args versions edits) legal sound =
    let half : List Entry = edited_by edits (session.halves block) in
    grown_if job session (with_half session block half) (instance_group epoch instance base args versions half) legal.0 legal.2 sound refl refl refl
    (is_current session epoch)
sound_order job session (InstallPatch epoch patch copies) legal sound =
    alike_if job session (with_patch session patch copies) sound refl refl refl (is_current session epoch)
sound_order job session (RunPatch epoch instance patch versions) legal sound =
    grown_if job session session (patch_group epoch instance versions (session.patches patch)) legal.0 legal.2 sound refl refl refl (is_current session epoch)
sound_order job session (Reset epoch worker workers shapes) legal sound = record { legal = tt; shapes = λ begun. legal; none = λ unbegun. refl }
sound_order job session Stop legal sound = sound

-- where a command is, the session has begun, and has the job's shapes
pub shapes_there : (job : Job) (session : Session) (place : ℕ) (command : Command) → IsSound job session
    → slice_get (commands_of session.groups) place ≡ Some command
    → session.shapes ≡ shapes_of job.vars
shapes_there job session place command sound there = either session.begun refl where
  either : (b : Bool) → session.begun ≡ b → session.shapes ≡ shapes_of job.vars
  either true is = sound.shapes is
  either false is = let nothing : None ≡ Some command = ap (λ (commands : List Command). slice_get commands place) (sym (sound.none is)) ∙ there in absurd cc
