-- Objects that are fetched one after another, and the first of which nothing was reported yet.
use Rattle.std.proofs.Common.{◌≡◌, ℕ, ◌+◌, ◌≤◌, suc, List, [], ◌∷◌, ◌++◌, length, map, ap, ap₂, sym, ◌∙◌, arith}
use Rattle.std.specs.List.{range_with_len}
use Rattle.std.specs.Option.{option_map_or}
use Rattle.std.proofs.lemmas.List.{append_assoc, length-map, map-append}
use Rattle.std.proofs.lemmas.List.FromFn.{length-map-range_with_len}
use Rattle.nim_base.specs.declared.number.Object.{Object}
use Rattle.nim_base.specs.declared.number.Worker.{Worker}
use Rattle.nim_command.specs.declared.command.Command.{Command}
use Rattle.nim_job.proofs.Lists.{range_more}
use Rattle.nim_place.specs.Versions.{Versions, holder}
use Rattle.nim_course.specs.declared.fetched.Fetched.{Fetched}
use Rattle.nim_place.specs.Directed.{Directed}
use Rattle.nim_course.specs.Controller.{Controller}
use Rattle.nim_course.specs.Moves.{fetching}
use Rattle.nim_course.specs.OrdersGiven.{fetch_at, fetch_commands, fetched_of, single_for}
use Rattle.nim_course.specs.Summaries.{counted_on}
use Rattle.nim_control.specs.Given.{objects_from}

-- ---- fetches

-- those of one object more
fetches_more : (versions : Versions) (ticket : ℕ) (objects : List Object) (object : Object) → ticket ≤ 4294967295
    → fetch_commands versions ticket (objects ++ object ∷ [])
    ≡ fetch_commands versions ticket objects ++ fetch_commands versions (counted_on ticket (length objects)) (object ∷ [])
fetches_more versions ticket [] object fits =
    let same : ticket ≡ counted_on ticket 0 = omega (arith, fits) in
    ap (λ (t : ℕ). fetch_commands versions t (object ∷ [])) same
fetches_more versions ticket (first ∷ objects) object fits =
    let here : List (Worker × Command) = option_map_or (λ (worker : Worker). fetch_at ticket first worker ∷ []) (holder versions first) [] in
    let rest : List (Worker × Command) = fetch_commands versions (counted_on ticket 1) objects in
    let next : counted_on (counted_on ticket 1) (length objects) ≡ counted_on ticket (suc (length objects)) = omega arith in
    let small : counted_on ticket 1 ≤ 4294967295 = omega arith in
    ap (λ (cs : List (Worker × Command)). here ++ cs)
    (fetches_more versions (counted_on ticket 1) objects object small
    ∙ ap (λ (t : ℕ). rest ++ fetch_commands versions t (object ∷ [])) next)
    ∙ sym (append_assoc here rest (fetch_commands versions (counted_on ticket (suc (length objects))) (object ∷ [])))

-- one object more
objects_more : (first count : ℕ) → objects_from first (count + 1) ≡ objects_from first count ++ record { 0 = first + count } ∷ []
objects_more first count =
    let part : ℕ → Object = λ (k : ℕ). record { 0 = first + k } in
    ap (map part) (range_more count) ∙ map-append part (range_with_len 0 count) (count ∷ [])

-- What was fetched so far, of objects from one on: the orders, the next ticket, and what is awaited.
pub record AreFetched (versions : Versions) (epoch start first : ℕ) (before : List Directed) (ticket part : ℕ) (now : List Directed)
    (awaited : List Fetched) : Type 0 where
  pub orders : now ≡ before ++ map (single_for epoch) (fetch_commands versions start (objects_from first part))
  pub next : ticket ≡ counted_on start part
  pub fetched : awaited ≡ map (fetched_of versions) (objects_from first part)

pub one_fetched : (versions : Versions) (epoch start first : ℕ) (before : List Directed) (ticket later part : ℕ) (now next : List Directed)
    (awaited more : List Fetched) (object : Object) (one : Fetched)
    → start ≤ 4294967295 → object ≡ record { 0 = first + part } → one ≡ fetched_of versions object
    → next ≡ now ++ map (single_for epoch) (fetch_commands versions ticket (object ∷ [])) → more ≡ awaited ++ one ∷ []
    → later ≡ counted_on ticket 1 → AreFetched versions epoch start first before ticket part now awaited
    → AreFetched versions epoch start first before later (part + 1) next more
one_fetched versions epoch start first before ticket later part now next awaited more object one fits is fetched gave pushed counts are =
    let objects : List Object = objects_from first part in
    let this : List Object = object ∷ [] in
    let long : length objects ≡ part = length-map-range_with_len (λ (k : ℕ). record { 0 = first + k }) 0 part in
    let all : objects ++ this ≡ objects_from first (part + 1) = ap (λ (o : Object). objects ++ o ∷ []) is ∙ sym (objects_more first part) in
    let here : ticket ≡ counted_on start (length objects) = are.next ∙ ap (counted_on start) (sym long) in
    let cs : List (Worker × Command) = fetch_commands versions start objects in
    let ds : List (Worker × Command) = fetch_commands versions (counted_on start (length objects)) this in
    record {
      orders =
          gave
          ∙ ap₂ (λ (os : List Directed) (t : ℕ). os ++ map (single_for epoch) (fetch_commands versions t this)) are.orders here
          ∙ append_assoc before (map (single_for epoch) cs) (map (single_for epoch) ds)
          ∙ ap (λ (os : List Directed). before ++ os) (sym (map-append (single_for epoch) cs ds))
          ∙ ap (λ (xs : List (Worker × Command)). before ++ map (single_for epoch) xs)
          (sym (fetches_more versions start objects object fits) ∙ ap (fetch_commands versions start) all);
      next = omega (arith, counts, are.next);
      fetched =
          pushed ∙ ap₂ (λ (fs : List Fetched) (f : Fetched). fs ++ f ∷ []) are.fetched fetched
          ∙ sym (map-append (fetched_of versions) objects this) ∙ ap (map (fetched_of versions)) all;
    }

-- what is fetched is as long as the objects are many
pub fetched_long : (versions : Versions) (fetched : List Fetched) (first count : ℕ) → fetched ≡ map (fetched_of versions) (objects_from first count)
    → length fetched ≡ count
fetched_long versions fetched first count is =
    ap length is ∙ length-map (objects_from first count) (fetched_of versions)
    ∙ length-map-range_with_len (λ (k : ℕ). record { 0 = first + k }) 0 count

-- a controller that has fetched objects
pub has_fetched : (seen now : Controller) (first count ticket : ℕ) (fetched : List Fetched) → seen ≡ now → ticket ≡ counted_on seen.ticket count
    → fetched ≡ map (fetched_of seen.versions) (objects_from first count)
    → record seen { ticket = ticket; first = seen.ticket; fetched = fetched } ≡ fetching now (objects_from first count) now.pending
has_fetched seen now first count ticket fetched is counts are =
    let objects : List Object = objects_from first count in
    let long : count ≡ length objects = sym (length-map-range_with_len (λ (k : ℕ). record { 0 = first + k }) 0 count) in
    ap₂ (λ (t : ℕ) (fs : List Fetched). record seen { ticket = t; first = seen.ticket; fetched = fs }) (counts ∙ ap (counted_on seen.ticket) long) are
    ∙ ap (λ (c : Controller). fetching c objects c.pending) is
