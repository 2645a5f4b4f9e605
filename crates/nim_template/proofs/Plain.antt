-- Before sets make no difference to what commands find and leave, nor to what they send, receive and run.
use Rattle.std.proofs.Common.{◌≡◌, List, [], ◌∷◌, ◌++◌, map, refl, ap₂}
use Rattle.std.specs.List.{flat_map}
use Rattle.nim_base.specs.declared.number.Worker.{Worker}
use Rattle.nim_command.specs.declared.command.Command.{Command}
use Rattle.nim_job.specs.declared.job.Job.{Job}
use Rattle.nim_place.specs.Sound.{AreFound, Plane, end_received, end_sent, run_by, step_of, plane_left as walked_plane}
use Rattle.nim_template.proofs.Chosen.{plain}
use Rattle.nim_template.proofs.Ranked.{runs_of}
use Rattle.nim_template.proofs.RankedEnds.{ends_received, ends_sent}

pub found_plain : (job : Job) (plane : Plane) (cs : List (Worker × Command)) → AreFound job plane cs → AreFound job plane (map plain cs)
found_plain job plane [] found = tt
found_plain job plane (c ∷ cs) found = (found.0, found_plain job (step_of c.0 c.1.id c.1.kind plane) cs found.1)

pub plain_found : (job : Job) (plane : Plane) (cs : List (Worker × Command)) → AreFound job plane (map plain cs) → AreFound job plane cs
plain_found job plane [] found = tt
plain_found job plane (c ∷ cs) found = (found.0, plain_found job (step_of c.0 c.1.id c.1.kind plane) cs found.1)

pub walked_plain : (plane : Plane) (cs : List (Worker × Command)) → walked_plane plane (map plain cs) ≡ walked_plane plane cs
walked_plain plane [] = refl
walked_plain plane (c ∷ cs) = walked_plain (step_of c.0 c.1.id c.1.kind plane) cs

flat_plain : {X : Type 0} (f : Worker × Command → List X) (cs : List (Worker × Command)) → ((c : Worker × Command) → f (plain c) ≡ f c)
    → flat_map f (map plain cs) ≡ flat_map f cs
flat_plain f [] same = refl
flat_plain {X} f (c ∷ cs) same = ap₂ (λ (xs ys : List X). xs ++ ys) (same c) (flat_plain f cs same)

pub sent_plain : (cs : List (Worker × Command)) → ends_sent (map plain cs) ≡ ends_sent cs
sent_plain cs = flat_plain (λ (c : Worker × Command). end_sent c.1.kind) cs (λ c. refl)

pub received_plain : (cs : List (Worker × Command)) → ends_received (map plain cs) ≡ ends_received cs
received_plain cs = flat_plain (λ (c : Worker × Command). end_received c.0 c.1.id c.1.kind) cs (λ c. refl)

pub runs_plain : (cs : List (Worker × Command)) → runs_of (map plain cs) ≡ runs_of cs
runs_plain cs = flat_plain (λ (c : Worker × Command). run_by c.0 c.1.kind) cs (λ c. refl)
