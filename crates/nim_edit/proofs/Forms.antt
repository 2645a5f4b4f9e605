-- A move that is taken leaves a template in form.
use Rattle.std.proofs.Common.{◌≡◌, ℕ, ◌<◌, Bool, true, false, List, [], ◌∷◌, ◌++◌, length, get_or, refl, ap, ap₂, sym, subst, ◌∙◌, arith}
use Rattle.std.proofs.Common.{Option, None, Some}
use Rattle.std.specs.Prelude.{◌==◌, nat_le, not, if◌then◌else◌, slice_index_or, slice_set}
use Rattle.std.specs.List.{fold, list_all}
use Rattle.std.proofs.lemmas.Bool.{eqb-false, eqb-true, leb-false, lt-ltb}
use Rattle.std.proofs.lemmas.List.{get_or-set_other, get_or-set_same, length-set}
use Rattle.std.proofs.lemmas.List.Recursion.{and_set}
use Rattle.std.proofs.lemmas.List.FromFn.{get_or-map-range_with_len, length-map-range_with_len}
use Rattle.std.proofs.lemmas.List.Sums.{fold-append}
use Rattle.nim_base.specs.declared.number.Worker.{Worker}
use Rattle.nim_command.specs.declared.edit.Edit.{Edit}
use Rattle.nim_command.specs.declared.edit.Edit.TheVariants.{Away, Here, Gone, Home}
use Rattle.nim_command.specs.declared.entry.Entry.{Entry}
use Rattle.nim_command.specs.declared.template.WorkerTemplate.{WorkerTemplate}
use Rattle.nim_command.specs.Edits.{edited}
use Rattle.nim_place.specs.Extends.{is_live}
use Rattle.nim_edit.specs.declared.fault.EditRefused.{EditRefused}
use Rattle.nim_edit.specs.declared.fault.EditRefused.TheVariants.{NoSuchTask, NotLive, SamePlace, TooMany}
use Rattle.nim_edit.specs.Form.{IsInForm, is_worker_below}
use Rattle.nim_edit.specs.Halves.{edited_half, halves_for}
use Rattle.nim_edit.specs.Moves.{edits_away, edits_home, edits_of, mask_for, migrated, spec_of, with_edit, worker_at}
use Rattle.nim_edit.specs.Refusals.{are_too_many, refusal_of}
use Rattle.nim_base.proofs.Lists.{some_none}
use Rattle.nim_place.proofs.LiveOnce.{live_within}
use Rattle.nim_edit.proofs.Migrations.{IsMove, aside_half, away_half, gone_half, here_half, home_half, same_list}

-- ---- edits at workers

here_edit : (halves : List (List Entry)) (edit : Worker × Edit) (i : ℕ) → (i == edit.0.0) ≡ true → i < length halves
    → get_or (with_edit halves edit) i [] ≡ edited edit.1 (get_or halves i [])
here_edit halves edit i is below =
    let same : i ≡ edit.0.0 = eqb-true i edit.0.0 is in
    ap (λ (n : ℕ). get_or (with_edit halves edit) n []) same
    ∙ get_or-set_same halves edit.0.0 (edited edit.1 (slice_index_or halves edit.0.0 [])) [] (subst (λ (n : ℕ). n < length halves) same below)
    ∙ ap (λ (n : ℕ). edited edit.1 (get_or halves n [])) (sym same)

other_edit : (halves : List (List Entry)) (edit : Worker × Edit) (i : ℕ) → (i == edit.0.0) ≡ false
    → get_or (with_edit halves edit) i [] ≡ get_or halves i []
other_edit halves edit i is =
    get_or-set_other halves edit.0.0 i (edited edit.1 (slice_index_or halves edit.0.0 [])) [] (eqb-false i edit.0.0 is)

pub long_edits : (halves : List (List Entry)) (edits : List (Worker × Edit)) → length (fold with_edit halves edits) ≡ length halves
long_edits halves [] = refl
long_edits halves (edit ∷ edits) =
    long_edits (with_edit halves edit) edits ∙ length-set halves edit.0.0 (edited edit.1 (slice_index_or halves edit.0.0 []))

-- ---- the halves

-- there is a half for each worker
pub halves_long : (template : WorkerTemplate) → IsInForm template → length template.halves ≡ length template.built
halves_long template form =
    ap (λ (hs : List (List Entry)). length hs) form.halves
    ∙ length-map-range_with_len (λ (n : ℕ). edited_half template template.owners (record { 0 = n })) 0 (length template.built)

module _ (template : WorkerTemplate) (task : ℕ) (to : Worker) (move : IsMove template task to) where
  half_at : (i : ℕ) → i < length template.built → get_or template.halves i [] ≡ edited_half template template.owners (record { 0 = i })
  half_at i below =
      ap (λ (hs : List (List Entry)). get_or hs i []) move.form.halves
      ∙ get_or-map-range_with_len (λ (n : ℕ). edited_half template template.owners (record { 0 = n })) 0 (length template.built) i i [] below (omega arith)

  -- back to the home
  back_at : (to.0 == (worker_at template.homes task).0) ≡ true → (i : ℕ) → i < length template.built
      → get_or (fold with_edit template.halves (edits_home task (worker_at template.homes task) (worker_at template.owners task) (spec_of template.forms task)))
      i []
      ≡ edited_half template (slice_set template.owners task to) (record { 0 = i })
  back_at to_home i below = either (i == owner.0) (i == home.0) refl refl where
    home : Worker
    home = worker_at template.homes task

    owner : Worker
    owner = worker_at template.owners task

    gone : Worker × Edit
    gone = (owner, Gone task)

    back : Worker × Edit
    back = (home, Home task (spec_of template.forms task))

    within : i < length template.halves
    within = omega (arith, halves_long template move.form, below)

    apart : (i == owner.0) ≡ true → (i == home.0) ≡ true → ⊥
    apart one other =
        eqb-false owner.0 to.0 move.apart (sym (eqb-true i owner.0 one) ∙ eqb-true i home.0 other ∙ sym (eqb-true to.0 home.0 to_home))

    either : (b c : Bool) → (i == owner.0) ≡ b → (i == home.0) ≡ c
        → get_or (with_edit (with_edit template.halves gone) back) i [] ≡ edited_half template (slice_set template.owners task to) (record { 0 = i })
    either true true one other = absurd (apart one other)
    either true false one other =
        other_edit (with_edit template.halves gone) back i other ∙ here_edit template.halves gone i one within
        ∙ ap (edited (Gone task)) (half_at i below) ∙ gone_half template task to move (record { 0 = i }) below one other
    either false true one other =
        here_edit (with_edit template.halves gone) back i other (omega (arith, long_edits template.halves (gone ∷ []), within))
        ∙ ap (edited back.1) (other_edit template.halves gone i one ∙ half_at i below)
        ∙ home_half template task to move (record { 0 = i }) below other to_home
    either false false one other =
        other_edit (with_edit template.halves gone) back i other ∙ other_edit template.halves gone i one ∙ half_at i below
        ∙ aside_half template task to move (record { 0 = i }) below other one
        (ap (λ (n : ℕ). i == n) (eqb-true to.0 home.0 to_home) ∙ other)

  -- to another worker
  away_at : (to.0 == (worker_at template.homes task).0) ≡ false → (i : ℕ) → i < length template.built
      → get_or (fold with_edit template.halves (edits_away task (mask_for template task to) (spec_of template.forms task)
      (worker_at template.homes task) (worker_at template.owners task) to)) i []
      ≡ edited_half template (slice_set template.owners task to) (record { 0 = i })
  away_at to_away i below = between (owner.0 == home.0) refl where
    home : Worker
    home = worker_at template.homes task

    owner : Worker
    owner = worker_at template.owners task

    away : Worker × Edit
    away = (home, Away task to (mask_for template task to) (spec_of template.forms task))

    gone : Worker × Edit
    gone = (owner, Gone task)

    here : Worker × Edit
    here = (to, Here task home (mask_for template task to) (spec_of template.forms task))

    new : List Entry
    new = edited_half template (slice_set template.owners task to) (record { 0 = i })

    within : i < length template.halves
    within = omega (arith, halves_long template move.form, below)

    home_to : (i == home.0) ≡ true → (i == to.0) ≡ true → ⊥
    home_to one other = eqb-false to.0 home.0 to_away (sym (eqb-true i to.0 other) ∙ eqb-true i home.0 one)

    owner_to : (i == owner.0) ≡ true → (i == to.0) ≡ true → ⊥
    owner_to one other = eqb-false owner.0 to.0 move.apart (sym (eqb-true i owner.0 one) ∙ eqb-true i to.0 other)

    -- from the home
    direct : (owner.0 == home.0) ≡ true → (b c : Bool) → (i == home.0) ≡ b → (i == to.0) ≡ c
        → get_or (with_edit (with_edit template.halves away) here) i [] ≡ new
    direct at_home true true one other = absurd (home_to one other)
    direct at_home true false one other =
        other_edit (with_edit template.halves away) here i other ∙ here_edit template.halves away i one within
        ∙ ap (edited away.1) (half_at i below) ∙ away_half template task to move (record { 0 = i }) below one to_away
    direct at_home false true one other =
        here_edit (with_edit template.halves away) here i other (omega (arith, long_edits template.halves (away ∷ []), within))
        ∙ ap (edited here.1) (other_edit template.halves away i one ∙ half_at i below)
        ∙ here_half template task to move (record { 0 = i }) below other one
    direct at_home false false one other =
        other_edit (with_edit template.halves away) here i other ∙ other_edit template.halves away i one ∙ half_at i below
        ∙ aside_half template task to move (record { 0 = i }) below one (ap (λ (n : ℕ). i == n) (eqb-true owner.0 home.0 at_home) ∙ one) other

    -- from an owner between
    around : (owner.0 == home.0) ≡ false → (b c d : Bool) → (i == home.0) ≡ b → (i == owner.0) ≡ c → (i == to.0) ≡ d
        → get_or (with_edit (with_edit (with_edit template.halves away) gone) here) i [] ≡ new
    around apart true true d one other third =
        absurd (eqb-false owner.0 home.0 apart (sym (eqb-true i owner.0 other) ∙ eqb-true i home.0 one))
    around apart true false true one other third = absurd (home_to one third)
    around apart true false false one other third =
        other_edit (with_edit (with_edit template.halves away) gone) here i third ∙ other_edit (with_edit template.halves away) gone i other
        ∙ here_edit template.halves away i one within ∙ ap (edited away.1) (half_at i below)
        ∙ away_half template task to move (record { 0 = i }) below one to_away
    around apart false true true one other third = absurd (owner_to other third)
    around apart false true false one other third =
        other_edit (with_edit (with_edit template.halves away) gone) here i third
        ∙ here_edit (with_edit template.halves away) gone i other (omega (arith, long_edits template.halves (away ∷ []), within))
        ∙ ap (edited (Gone task)) (other_edit template.halves away i one ∙ half_at i below)
        ∙ gone_half template task to move (record { 0 = i }) below other one
    around apart false false true one other third =
        here_edit (with_edit (with_edit template.halves away) gone) here i third (omega (arith, long_edits template.halves (away ∷ gone ∷ []), within))
        ∙ ap (edited here.1) (other_edit (with_edit template.halves away) gone i other ∙ other_edit template.halves away i one ∙ half_at i below)
        ∙ here_half template task to move (record { 0 = i }) below third one
    around apart false false false one other third =
        other_edit (with_edit (with_edit template.halves away) gone) here i third ∙ other_edit (with_edit template.halves away) gone i other
        ∙ other_edit template.halves away i one ∙ half_at i below ∙ aside_half template task to move (record { 0 = i }) below one other third

    between : (b : Bool) → (owner.0 == home.0) ≡ b
        → get_or (fold with_edit template.halves (away ∷ (if owner.0 == home.0 then [] else gone ∷ []) ++ here ∷ [])) i [] ≡ new
    between true is =
        ap (λ (b : Bool). get_or (fold with_edit template.halves (away ∷ (if b then [] else gone ∷ []) ++ here ∷ [])) i []) is
        ∙ direct is (i == home.0) (i == to.0) refl refl
    between false is =
        ap (λ (b : Bool). get_or (fold with_edit template.halves (away ∷ (if b then [] else gone ∷ []) ++ here ∷ [])) i []) is
        ∙ around is (i == home.0) (i == owner.0) (i == to.0) refl refl refl

  each_at : (i : ℕ) → i < length template.built
      → get_or (migrated template task to).halves i [] ≡ edited_half template (slice_set template.owners task to) (record { 0 = i })
  each_at i below = either (to.0 == (worker_at template.homes task).0) refl where
    home : Worker
    home = worker_at template.homes task

    owner : Worker
    owner = worker_at template.owners task

    either : (b : Bool) → (to.0 == (worker_at template.homes task).0) ≡ b
        → get_or (fold with_edit template.halves (if to.0 == home.0 then edits_home task home owner (spec_of template.forms task)
        else edits_away task (mask_for template task to) (spec_of template.forms task) home owner to)) i []
        ≡ edited_half template (slice_set template.owners task to) (record { 0 = i })
    either true is =
        ap (λ (b : Bool). get_or (fold with_edit template.halves (if b then edits_home task home owner (spec_of template.forms task)
        else edits_away task (mask_for template task to) (spec_of template.forms task) home owner to)) i []) is
        ∙ back_at is i below
    either false is =
        ap (λ (b : Bool). get_or (fold with_edit template.halves (if b then edits_home task home owner (spec_of template.forms task)
        else edits_away task (mask_for template task to) (spec_of template.forms task) home owner to)) i []) is
        ∙ away_at is i below

  migrated_halves : (migrated template task to).halves ≡ halves_for template (slice_set template.owners task to)
  migrated_halves =
      same_list [] (migrated template task to).halves (halves_for template (slice_set template.owners task to))
      (long
      ∙ sym (length-map-range_with_len (λ (n : ℕ). edited_half template (slice_set template.owners task to) (record { 0 = n })) 0 (length template.built)))
      (λ i less. each_at i (omega (arith, long, less))
      ∙ sym (get_or-map-range_with_len (λ (n : ℕ). edited_half template (slice_set template.owners task to) (record { 0 = n })) 0 (length template.built) i i []
      (omega (arith, long, less)) (omega arith))) where
        long : length (migrated template task to).halves ≡ length template.built
        long = long_edits template.halves (edits_of template task to) ∙ halves_long template move.form

-- ---- the template

-- an item that passes in place of another
all_set : {X : Type 0} (p : X → Bool) (xs : List X) (i : ℕ) (x : X) → list_all p xs ≡ true → p x ≡ true → list_all p (slice_set xs i x) ≡ true
all_set {X} p xs i x all one = and_set (list_all p) p refl (λ y ys. refl) xs i x one all

pub migrated_form : (template : WorkerTemplate) (task : ℕ) (to : Worker) → IsMove template task to → IsInForm (migrated template task to)
migrated_form template task to move = record {
  many = move.form.many;
  fit = move.form.fit;
  few = move.form.few;
  homes = move.form.homes;
  owners = length-set template.owners task to ∙ move.form.owners;
  placed = move.form.placed;
  owned = all_set (is_worker_below (length template.built)) template.owners task to move.form.owned (lt-ltb to.0 (length template.built) move.below);
  ascend = move.form.ascend;
  ruled = move.form.ruled;
  runs = move.form.runs;
  halves = migrated_halves template task to move;
}

-- ---- moves that are taken

-- where no rule applies
pub not_refused : (template : WorkerTemplate) (task : ℕ) (to : Worker) (live : List Bool) → nat_le (length template.forms) task ≡ false
    → is_live live to ≡ true → ((worker_at template.owners task).0 == to.0) ≡ false
    → are_too_many template task to ≡ false
    → None ≡ refusal_of template task to live
not_refused template task to live there is_there apart room =
    sym (ap₂ (λ (a b : Bool). refused a b ((worker_at template.owners task).0 == to.0)
    (are_too_many template task to)) there is_there
    ∙ ap₂ (refused false true) apart room) where
      refused : Bool → Bool → Bool → Bool → Option EditRefused
      refused a b c d = if a then Some NoSuchTask else if not b then Some NotLive else if c then Some SamePlace else if d then Some TooMany else None

-- Where no rule refuses a move, it is one.
pub taken_move : (template : WorkerTemplate) (task : ℕ) (to : Worker) (live : List Bool) → IsInForm template → length live ≡ length template.built
    → refusal_of template task to live ≡ None → IsMove template task to
taken_move template task to live form long taken =
    either (nat_le (length template.forms) task) (is_live live to) ((worker_at template.owners task).0 == to.0) (are_too_many template task to) refl refl refl
    taken where
      either : (a b c d : Bool) → nat_le (length template.forms) task ≡ a → is_live live to ≡ b → ((worker_at template.owners task).0 == to.0) ≡ c
          → (if a then Some NoSuchTask else if not b then Some NotLive else if c then Some SamePlace else if d then Some TooMany else None) ≡ None
          → IsMove template task to
      either true b c d one two three none = absurd (some_none NoSuchTask none)
      either false false c d one two three none = absurd (some_none NotLive none)
      either false true true d one two three none = absurd (some_none SamePlace none)
      either false true false d one two three none = record {
        form = form;
        within = leb-false (length template.forms) task one;
        below = subst (λ (n : ℕ). to.0 < n) long (live_within live to two);
        apart = three;
      }

-- owners that are live are so behind it
pub owned_still : (template : WorkerTemplate) (task : ℕ) (to : Worker) (live : List Bool) → refusal_of template task to live ≡ None
    → list_all (is_live live) template.owners ≡ true → list_all (is_live live) (slice_set template.owners task to) ≡ true
owned_still template task to live taken all = all_set (is_live live) template.owners task to all (lives (is_live live to) refl) where
  either : (a b c d : Bool) → (if a then Some NoSuchTask else if not b then Some NotLive else if c then Some SamePlace else if d then Some TooMany else None)
      ≡ None → b ≡ true
  either true b c d none = absurd (some_none NoSuchTask none)
  either false false c d none = absurd (some_none NotLive none)
  either false true c d none = refl

  lives : (b : Bool) → is_live live to ≡ b → is_live live to ≡ true
  lives b is =
      either (nat_le (length template.forms) task) (is_live live to) ((worker_at template.owners task).0 == to.0) (are_too_many template task to) taken

-- what a move that is taken leaves
pub moved_form : (template : WorkerTemplate) (task : ℕ) (to : Worker) (live : List Bool) (edits given : List (Worker × Edit)) (halves : List (List Entry))
    (owners : List Worker) (unsent : List (Worker × Edit)) → IsInForm template → length live ≡ length template.built
    → refusal_of template task to live ≡ None → edits ≡ edits_of template task to → given ≡ edits
    → halves ≡ fold with_edit template.halves given → owners ≡ slice_set template.owners task to → unsent ≡ template.unsent ++ edits
    → IsInForm (record template { halves = halves; owners = owners; unsent = unsent })
moved_form template task to live edits given halves owners unsent form long taken are are_given edited_by_them owned sent =
    subst (λ (t : WorkerTemplate). IsInForm t) (sym all) (migrated_form template task to (taken_move template task to live form long taken)) where
      after : List (List Entry) → List Worker → List (Worker × Edit) → WorkerTemplate
      after hs os us = record template { halves = hs; owners = os; unsent = us }

      all : after halves owners unsent ≡ migrated template task to
      all =
          ap₂ (λ (hs : List (List Entry)) (os : List Worker). after hs os unsent)
          (edited_by_them ∙ ap (fold with_edit template.halves) (are_given ∙ are)) owned
          ∙ ap (after (fold with_edit template.halves (edits_of template task to)) (slice_set template.owners task to))
          (sent ∙ ap (λ (es : List (Worker × Edit)). template.unsent ++ es) are)

-- Halves that are those that were sent with the edits that weren't sent yet are so behind a move.
pub moved_unsent : (sent before : List (List Entry)) (old moves edits given : List (Worker × Edit)) (halves : List (List Entry)) (unsent : List (Worker × Edit))
    → before ≡ fold with_edit sent old → edits ≡ moves → given ≡ edits → halves ≡ fold with_edit before given → unsent ≡ old ++ edits
    → halves ≡ fold with_edit sent unsent
moved_unsent sent before old moves edits given halves unsent is are are_given edited_by_them more =
    edited_by_them ∙ ap₂ (fold with_edit) is are_given ∙ sym (fold-append with_edit sent old edits) ∙ sym (ap (fold with_edit sent) more)
