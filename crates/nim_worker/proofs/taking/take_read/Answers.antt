use Rattle.std.proofs.Common.{◌≡◌, ◌≤◌, ℕ, length, get_or, refl, ap, sym, arith, ◌∙◌, Option}
use Rattle.std.specs.List.{position_or_len}
use Rattle.std.specs.Option.{option_map_or}
use Rattle.std.proofs.lemmas.List.{get_or_push}
use Rattle.nim_base.specs.Value.{empty_grid}
use Rattle.nim_store.specs.declared.held.Held.{Held}
use Rattle.nim_worker.specs.Inputs.{content_of, is_from}
use Rattle.nim_store.specs.Stored.{slot_at}
use Rattle.nim_worker.proofs.GivenBack.{AreSeen-snoc, new_at, place_past, taken_at, taken_once}
use Rattle.nim_worker.proofs.taking.take_read.Goals as goal

pub returns-then-place-len-clause-value : goal.returns-then-place-len-clause-value
returns-then-place-len-clause-value c =
    let place : c.place_of-place.result ≡ position_or_len (is_from c.args.slot) c.args.taken.now.items =
    c.place_of-place.ensures ∙ ap (position_or_len (is_from c.args.slot)) c.as_slice.ensures.value in
    let at = taken_at c.args.slot c.args.taken.now.items c.args.values.now.items (slot_at c.args.store.now) c.requires.paired c.requires.seen
    (omega (arith, c.if-place-len.true, c.len.ensures, place)) in
    rw place (at.value empty_grid)

pub returns-then-place-len-clause-content : goal.returns-then-place-len-clause-content
returns-then-place-len-clause-content c =
    let place : c.place_of-place.result ≡ position_or_len (is_from c.args.slot) c.args.taken.now.items =
    c.place_of-place.ensures ∙ ap (position_or_len (is_from c.args.slot)) c.as_slice.ensures.value in
    let at = taken_at c.args.slot c.args.taken.now.items c.args.values.now.items (slot_at c.args.store.now) c.requires.paired c.requires.seen
    (omega (arith, c.if-place-len.true, c.len.ensures, place)) in
    c.content_of.ensures ∙ ap content_of (c.index.ensures ∙ ap (λ (p : ℕ). get_or c.args.taken.now.items p c.index.result.now) place)
    ∙ at.content c.index.result.now

pub returns-clause-seen : goal.returns-clause-seen
returns-clause-seen c =
    let right =
    ap (λ (h : Option Held). option_map_or (λ (held : Held). held.value) h empty_grid) c.apart-content.ensures.held ∙ sym c.apart-content.ensures.value in
    rw (c.push_reserved.ensures.items, c.push_reserved-2.ensures.items)
    (AreSeen-snoc c.args.taken.now.items c.args.values.now.items _ c.apart-content.result.1 c.requires.paired c.requires.seen right)

pub returns-clause-back : goal.returns-clause-back
returns-clause-back c =
    rw (c.push_reserved.ensures.items, c.push_reserved-2.ensures.items)
    (taken_once c.args.taken.now.items c.args.values.now.items _ c.apart-content.result.1 (slot_at c.args.store.now) (slot_at c.take.new.self) c.requires.paired
    c.take.ensures.slots (c.apart-content.ensures.held ∙ c.take.ensures.value))

pub returns-clause-place : goal.returns-clause-place
returns-clause-place c =
    let place : c.place_of-place.result ≡ position_or_len (is_from c.args.slot) c.args.taken.now.items =
    c.place_of-place.ensures ∙ ap (position_or_len (is_from c.args.slot)) c.as_slice.ensures.value in
    let last = place_past c.args.slot c.args.taken.now.items (omega (arith, c.if-place-len.false, c.len.ensures, place)) in
    omega (arith, place, last, c.requires.paired, c.push_reserved-2.ensures.len)

pub returns-clause-value : goal.returns-clause-value
returns-clause-value c =
    let place : c.place_of-place.result ≡ position_or_len (is_from c.args.slot) c.args.taken.now.items =
    c.place_of-place.ensures ∙ ap (position_or_len (is_from c.args.slot)) c.as_slice.ensures.value in
    let past : length c.args.taken.now.items ≤ position_or_len (is_from c.args.slot) c.args.taken.now.items =
    omega (arith, c.if-place-len.false, c.len.ensures, place) in
    let last = place_past c.args.slot c.args.taken.now.items past in
    let right =
    ap (λ (h : Option Held). option_map_or (λ (held : Held). held.value) h empty_grid) c.apart-content.ensures.held ∙ sym c.apart-content.ensures.value in
    let now = new_at c.args.slot c.args.taken.now.items c.args.values.now.items (slot_at c.args.store.now)
    (record { slot = c.args.slot; content = c.apart-content.result.0 }) c.apart-content.result.1
    c.requires.paired past refl (c.apart-content.ensures.held ∙ c.take.ensures.value) right in
    rw c.push_reserved-2.ensures.items
    (get_or_push c.args.values.now.items c.apart-content.result.1 empty_grid c.place_of-place.result (omega (arith, place, last, c.requires.paired)) ∙ now.0)

pub returns-clause-content : goal.returns-clause-content
returns-clause-content c =
    let place : c.place_of-place.result ≡ position_or_len (is_from c.args.slot) c.args.taken.now.items =
    c.place_of-place.ensures ∙ ap (position_or_len (is_from c.args.slot)) c.as_slice.ensures.value in
    let past : length c.args.taken.now.items ≤ position_or_len (is_from c.args.slot) c.args.taken.now.items =
    omega (arith, c.if-place-len.false, c.len.ensures, place) in
    let right =
    ap (λ (h : Option Held). option_map_or (λ (held : Held). held.value) h empty_grid) c.apart-content.ensures.held ∙ sym c.apart-content.ensures.value in
    let now = new_at c.args.slot c.args.taken.now.items c.args.values.now.items (slot_at c.args.store.now)
    (record { slot = c.args.slot; content = c.apart-content.result.0 }) c.apart-content.result.1
    c.requires.paired past refl (c.apart-content.ensures.held ∙ c.take.ensures.value) right in
    c.content_of-2.ensures ∙ now.1
