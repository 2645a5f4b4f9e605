-- Where data is placed and lies, and which workers are live.
use Rattle.std.specs.Prelude.{◌≡◌, ℕ, ◌≤◌, Bool, true, List, length, replicate}
use Rattle.std.specs.List.{list_any}
use Rattle.nim_place.specs.declared.placement.Placement.{Placement}
use Rattle.nim_place.specs.Versions.{Versions, no_versions}
use Rattle.nim_course.specs.declared.setup.Setup.{Setup}
use Rattle.nim_course.specs.Controller.{Controller}

-- the rule of placement, a flag for each live worker, and which versions lie where
pub record Sites : Type 0 where
  pub place : Placement
  pub live : List Bool
  pub versions : Versions

-- all workers are live, and nothing lies anywhere
abbrev pub new_sites : Setup → ℕ → Sites
new_sites setup objects = record {
  place = setup.place;
  live = replicate setup.workers true;
  versions = no_versions setup.workers objects;
}

-- There are 1 to 16 workers, one of them live, and the map has them.
pub record AreSites (sites : Sites) : Type 0 where
  pub some : 1 ≤ length sites.live
  pub few : length sites.live ≤ 16
  pub live : list_any (λ (flag : Bool). flag) sites.live ≡ true
  pub workers : sites.versions.workers ≡ length sites.live

-- only which versions lie where has changed
pub record SitesStay (old new : Sites) : Type 0 where
  pub place : new.place ≡ old.place
  pub live : new.live ≡ old.live
  pub workers : new.versions.workers ≡ old.versions.workers
  pub objects : new.versions.objects ≡ old.versions.objects

-- the sites of a controller
abbrev pub controller_sites : Controller → Sites
controller_sites c = record { place = c.place; live = c.live; versions = c.versions }

-- a controller has these sites: the same rule, flags and objects, whatever lies where by now
pub record HasSites (c : Controller) (sites : Sites) : Type 0 where
  pub place : c.place ≡ sites.place
  pub live : c.live ≡ sites.live
  pub objects : c.versions.objects ≡ sites.versions.objects
