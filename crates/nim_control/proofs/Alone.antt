-- Commands that are given alone, one after another.
use Rattle.std.proofs.Common.{◌≡◌, ℕ, ◌+◌, ◌<◌, Bool, List, [], ◌∷◌, ◌++◌, length, get_or, map, drop, ap, ap₂, sym, ◌∙◌}
use Rattle.std.specs.List.{range_with_len}
use Rattle.std.proofs.lemmas.List.{append-nil, append_assoc, drop_more, map-append}
use Rattle.std.proofs.lemmas.List.Sums.{fold-append}
use Rattle.nim_base.specs.declared.number.Object.{Object}
use Rattle.nim_base.specs.declared.number.Worker.{Worker}
use Rattle.nim_command.specs.declared.command.Command.{Command}
use Rattle.nim_command.specs.declared.command.Kind.{Kind}
use Rattle.nim_job.specs.declared.job.Var.{Var}
use Rattle.nim_job.proofs.Lists.{range_more}
use Rattle.nim_place.specs.declared.placement.Placement.{Placement}
use Rattle.nim_place.specs.Placement.{home}
use Rattle.nim_place.specs.Versions.{Versions, after_commands, after_kind}
use Rattle.nim_course.specs.Controller.{Controller}
use Rattle.nim_place.specs.Directed.{Directed}
use Rattle.nim_course.specs.OrdersGiven.{lone_command, first_command, first_commands, first_kind, single_for}
use Rattle.nim_control.specs.Given.{AreAlone}
use Rattle.nim_control.specs.Sites.{HasSites, Sites, SitesStay}

-- a controller that has these sites has them when only what lies where has changed
pub has_still : (c : Controller) (old new : Sites) → HasSites c old → SitesStay old new → HasSites c new
has_still c old new has stay = record {
  place = has.place ∙ sym stay.place;
  live = has.live ∙ sym stay.live;
  objects = has.objects ∙ sym stay.objects;
}

pub stay_on : (a b c : Sites) → SitesStay a b → SitesStay b c → SitesStay a c
stay_on a b c first second = record {
  place = second.place ∙ first.place;
  live = second.live ∙ first.live;
  workers = second.workers ∙ first.workers;
  objects = second.objects ∙ first.objects;
}

-- the map behind commands in two parts
commands_append : (versions : Versions) (cs ds : List (Worker × Command))
    → after_commands versions (cs ++ ds) ≡ after_commands (after_commands versions cs) ds
commands_append versions cs ds = fold-append (λ (before : Versions) (c : Worker × Command). after_kind c.0 before c.1.kind) versions cs ds

-- and others behind them
pub more_alone : (epoch : ℕ) (cs ds : List (Worker × Command)) (first next last : List Directed) (old mid new : Sites)
    → AreAlone epoch cs first old next mid → AreAlone epoch ds next mid last new → AreAlone epoch (cs ++ ds) first old last new
more_alone epoch cs ds first next last old mid new one two = record {
  orders =
      two.orders ∙ ap (λ (os : List Directed). os ++ map (single_for epoch) ds) one.orders
      ∙ append_assoc first (map (single_for epoch) cs) (map (single_for epoch) ds)
      ∙ ap (λ (os : List Directed). first ++ os) (sym (map-append (single_for epoch) cs ds));
  sites =
      two.sites ∙ ap (λ (s : Sites). record s { versions = after_commands s.versions ds }) one.sites
      ∙ ap (λ (v : Versions). record old { versions = v }) (sym (commands_append old.versions cs ds));
}

-- the same commands, told otherwise
pub same_alone : (epoch : ℕ) (cs ds : List (Worker × Command)) (before after : List Directed) (old new : Sites) → cs ≡ ds
    → AreAlone epoch cs before old after new → AreAlone epoch ds before old after new
same_alone epoch cs ds before after old new same are = record {
  orders = are.orders ∙ ap (λ (xs : List (Worker × Command)). before ++ map (single_for epoch) xs) same;
  sites = are.sites ∙ ap (λ (xs : List (Worker × Command)). record old { versions = after_commands old.versions xs }) same;
}

-- ---- what a part holds at first

-- the command that is given of a part is the controller's
pub first_is : (c : Controller) (v : Var) (first part : ℕ) (object : Object) (kind : Kind) (sites : Sites) → HasSites c sites
    → object ≡ record { 0 = first + part } → kind ≡ first_kind v.shape v.init part object
    → first_command c v first part ≡ (home sites.place object sites.versions.objects sites.live, lone_command kind)
first_is c v first part object kind sites has is holds =
    let at : Object = record { 0 = first + part } in
    let worker : home c.place at c.versions.objects c.live ≡ home sites.place object sites.versions.objects sites.live =
    ap₂ (λ (p : Placement) (o : Object). home p o c.versions.objects c.live) has.place (sym is)
    ∙ ap₂ (λ (n : ℕ) (flags : List Bool). home sites.place object n flags) has.objects has.live in
    let holding : first_kind v.shape v.init part at ≡ kind = ap (first_kind v.shape v.init part) (sym is) ∙ sym holds in
    ap₂ (λ (w : Worker) (k : Kind). (w, lone_command k)) worker holding

-- one part more
parts_more : (c : Controller) (v : Var) (first part : ℕ)
    → map (first_command c v first) (range_with_len 0 (part + 1)) ≡ map (first_command c v first) (range_with_len 0 part) ++ first_command c v first part ∷ []
parts_more c v first part =
    ap (map (first_command c v first)) (range_more part)
    ∙ map-append (first_command c v first) (range_with_len 0 part) (part ∷ [])

-- with one part more all so far were given
pub part_given : (c : Controller) (epoch : ℕ) (v : Var) (first part : ℕ) (object : Object) (kind : Kind) (before now next : List Directed)
    (old mid new : Sites)
    → HasSites c mid → object ≡ record { 0 = first + part } → kind ≡ first_kind v.shape v.init part object
    → AreAlone epoch (map (first_command c v first) (range_with_len 0 part)) before old now mid
    → AreAlone epoch ((home mid.place object mid.versions.objects mid.live, lone_command kind) ∷ []) now mid next new
    → AreAlone epoch (map (first_command c v first) (range_with_len 0 (part + 1))) before old next new
part_given c epoch v first part object kind before now next old mid new has is holds so_far one =
    let given : List (Worker × Command) = map (first_command c v first) (range_with_len 0 part) in
    let this : Worker × Command = (home mid.place object mid.versions.objects mid.live, lone_command kind) in
    same_alone epoch (given ++ this ∷ []) (map (first_command c v first) (range_with_len 0 (part + 1))) before next old new
    (ap (λ (x : Worker × Command). given ++ x ∷ []) (sym (first_is c v first part object kind mid has is holds)) ∙ sym (parts_more c v first part))
    (more_alone epoch given (this ∷ []) before now next old mid new so_far one)

-- ---- the parts of variables

-- What was given so far, and what the variables from one on hold at first, is what all of them hold.
pub record AreBegun (c : Controller) (epoch : ℕ) (vars : List Var) (before : List Directed) (old : Sites) (first : ℕ) (rest : List Var)
    (now : List Directed) (mid : Sites) : Type 0 where
  pub given : List (Worker × Command)
  pub alone : AreAlone epoch given before old now mid
  pub all : given ++ first_commands c first rest ≡ first_commands c 0 vars

-- one variable more
pub var_begun : (c : Controller) (epoch : ℕ) (vars : List Var) (before now next : List Directed) (old mid new : Sites) (first : ℕ) (rest : List Var)
    (at : ℕ) (v : Var)
    → at < length rest → v ≡ get_or rest at v → AreBegun c epoch vars before old first (drop at rest) now mid
    → AreAlone epoch (map (first_command c v first) (range_with_len 0 v.parts)) now mid next new
    → AreBegun c epoch vars before old (first + v.parts) (drop (at + 1) rest) next new
var_begun c epoch vars before now next old mid new first rest at v below is so_far one =
    let parts : List (Worker × Command) = map (first_command c v first) (range_with_len 0 v.parts) in
    record {
      given = so_far.given ++ parts;
      alone = more_alone epoch so_far.given parts before now next old mid new so_far.alone one;
      all =
          append_assoc so_far.given parts (first_commands c (first + v.parts) (drop (at + 1) rest))
          ∙ ap (λ (vs : List Var). so_far.given ++ first_commands c first vs)
          (sym (drop_more rest at v below ∙ ap (λ (x : Var). x ∷ drop (at + 1) rest) (sym is)))
          ∙ so_far.all;
    }

-- at the end all are begun
pub all_begun : (c : Controller) (epoch : ℕ) (vars : List Var) (before now : List Directed) (old mid : Sites) (first : ℕ) (rest : List Var)
    → rest ≡ [] → AreBegun c epoch vars before old first rest now mid → AreAlone epoch (first_commands c 0 vars) before old now mid
all_begun c epoch vars before now old mid first rest none are =
    same_alone epoch are.given (first_commands c 0 vars) before now old mid
    (sym (append-nil are.given) ∙ ap (λ (vs : List Var). are.given ++ first_commands c first vs) (sym none) ∙ are.all)
    are.alone
