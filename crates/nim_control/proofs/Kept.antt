-- Which workers and objects a map of versions has stays, whatever is put into it.
use Rattle.std.proofs.Common.{◌≡◌, ℕ, ◌≤◌, Bool, true, List, [], ◌∷◌, length, refl, ap, sym, ◌∙◌, arith}
use Rattle.std.specs.Prelude.{replicate, Result, Ok, Err, IfOk, OnErr}
use Rattle.std.specs.List.{fold, list_any}
use Rattle.std.proofs.lemmas.List.{length-replicate}
use Rattle.nim_base.specs.declared.number.Slot.{Slot}
use Rattle.nim_base.specs.declared.number.Worker.{Worker}
use Rattle.nim_command.specs.declared.command.Command.{Command}
use Rattle.nim_command.specs.declared.command.Kind.{Kind}
use Rattle.nim_place.specs.declared.placement.Placement.{Placement}
use Rattle.nim_place.specs.Versions.{Versions, after_commands, after_kind, no_versions, puts_of, version_of, with_version}
use Rattle.nim_reuse.specs.Reuse.{MapStays}
use Rattle.nim_control.specs.Sites.{AreSites, Sites, SitesStay}
use Rattle.nim_base.proofs.Lists.{some_set}
use Rattle.nim_reuse.proofs.Stays.{put_stays, same_stays, then_stays}

puts_stay : (worker : Worker) (version : ℕ) (slots : List Slot) (versions : Versions) → MapStays versions (fold (with_version worker version) versions slots)
puts_stay worker version [] versions = record { workers = refl; objects = refl }
puts_stay worker version (slot ∷ slots) versions =
    let next : Versions = with_version worker version versions slot in
    then_stays versions next (fold (with_version worker version) next slots) (put_stays worker version versions slot)
    (puts_stay worker version slots next)

kind_stays : (worker : Worker) (versions : Versions) (kind : Kind) → MapStays versions (after_kind worker versions kind)
kind_stays worker versions kind = puts_stay worker (version_of kind) (puts_of kind) versions

commands_stay : (commands : List (Worker × Command)) (versions : Versions) → MapStays versions (after_commands versions commands)
commands_stay [] versions = record { workers = refl; objects = refl }
commands_stay (c ∷ commands) versions =
    let next : Versions = after_kind c.0 versions c.1.kind in
    then_stays versions next (after_commands next commands) (kind_stays c.0 versions c.1.kind) (commands_stay commands next)

-- a command was taken in
pub taken_stays : (worker : Worker) (kind : Kind) (old new : Versions) → new ≡ after_kind worker old kind → MapStays old new
taken_stays worker kind old new is =
    then_stays old (after_kind worker old kind) new (kind_stays worker old kind) (same_stays (after_kind worker old kind) new is)

-- a task was scheduled, or memory was refused
pub scheduled_stays : {X E : Type 0} (result : Result X E) (commands : X → List (Worker × Command)) (old new : Versions)
    → IfOk result (λ (x : X). new ≡ after_commands old (commands x)) → OnErr result (new ≡ old) → MapStays old new
scheduled_stays (Ok x) commands old new ok err =
    then_stays old (after_commands old (commands x)) new (commands_stay (commands x) old) (same_stays (after_commands old (commands x)) new ok)
scheduled_stays (Err e) commands old new ok err = same_stays old new err

-- sites stay with it
pub sites_still : (place : Placement) (live : List Bool) (old new : Versions) → AreSites (record { place = place; live = live; versions = old })
    → MapStays old new → AreSites (record { place = place; live = live; versions = new })
sites_still place live old new are stay = record { some = are.some; few = are.few; live = are.live; workers = stay.workers ∙ are.workers }

pub stay_with : (seen old : Sites) (new : Versions) → seen ≡ old → MapStays seen.versions new
    → SitesStay old (record { place = seen.place; live = seen.live; versions = new })
stay_with seen old new is stay = record {
  place = ap (λ (s : Sites). s.place) is;
  live = ap (λ (s : Sites). s.live) is;
  workers = stay.workers ∙ ap (λ (s : Sites). s.versions.workers) is;
  objects = stay.objects ∙ ap (λ (s : Sites). s.versions.objects) is;
}

-- ---- new ones

pub new_are : (place : Placement) (workers objects n : ℕ) (live : List Bool) (versions : Versions) → 1 ≤ workers → workers ≤ 16 → n ≡ workers
    → live ≡ replicate n true → versions ≡ no_versions workers objects → AreSites (record { place = place; live = live; versions = versions })
new_are place workers objects n live versions some few same flags map_is =
    let long : length live ≡ n = ap length flags ∙ length-replicate n true in
    record {
      some = omega (arith, long, same, some);
      few = omega (arith, long, same, few);
      live = ap (list_any (λ (flag : Bool). flag)) flags ∙ some_set n (omega (arith, same, some));
      workers = ap (λ (v : Versions). v.workers) map_is ∙ sym same ∙ sym long;
    }
