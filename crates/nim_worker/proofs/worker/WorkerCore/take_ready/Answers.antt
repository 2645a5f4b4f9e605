use Rattle.std.proofs.Common.{◌≡◌, ◌∙◌, ◌<◌, ℕ, Bool, true, false, List, [], ◌∷◌, length, None, Some, ap, refl, sym, subst, arith}
use Rattle.std.specs.Prelude.{◌&&◌, if◌then◌else◌, nat_lt}
use Rattle.std.specs.List.{range_with_len}
use Rattle.std.specs.Vec.{vec_len}
use Rattle.std.proofs.lemmas.Bool.{and_parts, lt-ltb}
use Rattle.nim_order.specs.Progress.{is_one_of}
use Rattle.nim_queue.specs.Stands.{command_count, first_to_pass, is_after, is_released, ready_of}
use Rattle.nim_worker.specs.declared.batch.Work.{Work}
use Rattle.nim_worker.specs.declared.worker.WorkerCore.{WorkerCore}
use Rattle.nim_worker.proofs.Walk.{IsWalked, walk_begins, walk_ends, walked_on}
use Rattle.nim_worker.proofs.worker.WorkerCore.take_ready.Goals as goal

-- the first that passes a test passes it
passes : (test : ℕ → Bool) (xs : List ℕ) (n : ℕ) → first_to_pass test xs ≡ Some n → test n ≡ true
passes test [] n is = absurd cc
passes test (x ∷ xs) n is = either (test x) refl (passes test xs n) is where
  either : (b : Bool) → test x ≡ b → (first_to_pass test xs ≡ Some n → test n ≡ true) → (if b then Some x else first_to_pass test xs) ≡ Some n → test n ≡ true
  either true does more is = let same : x ≡ n = cc in ap test (sym same) ∙ does
  either false not more is = more is

pub loop-ticket-init : goal.loop-ticket-init
loop-ticket-init c =
    let none : vec_len c.args.works.now ≡ 0 = c.args.works.now.ok.0 ∙ ap length c.requires.none in
    record {
      rest = refl;
      walked = λ state begins.
          subst (λ (works : List Work). IsWalked state c.args.most None c.args.self.now works) (sym c.requires.none)
          (walk_begins state c.args.most c.args.self.now begins);
      idle = c.requires.idle;
      count = omega (arith, none);
      room = refl;
    }

pub loop-ticket-preserved : goal.loop-ticket-preserved
loop-ticket-preserved c =
    let inv = c.loop-ticket.invariant in
    let many : length c.loop-ticket.works.items < c.args.most =
    subst (λ (works : List Work). length works < c.args.most) c.as_slice.ensures.value (c.in-Some.ensures.more refl) in
    record {
      rest = c.take_one.ensures.rest ∙ ap (λ (core : WorkerCore). record core { store = c.take_one.new.self.store }) inv.rest;
      walked = λ state begins.
          let groups = state.session.groups in
          let walked = inv.walked state begins in
          let ready : ready_of groups (is_one_of state.ran) c.loop-ticket.after ≡ Some c.in-Some.ticket =
          ap (λ (b : Bool). if b then ready_of groups (is_one_of state.ran) c.loop-ticket.after else None)
          (sym (lt-ltb (length c.loop-ticket.works.items) c.args.most many))
          ∙ ap (λ (works : List Work). if nat_lt (length works) c.args.most then ready_of groups (is_one_of state.ran) c.loop-ticket.after else None)
          (sym c.as_slice.ensures.value)
          ∙ sym (c.next.ensures.first groups state.ran walked.begins.has.admitted)
          ∙ c.in-Some.is in
          let released : is_released groups (is_one_of state.ran) c.in-Some.ticket ≡ true =
          (and_parts (is_after c.loop-ticket.after c.in-Some.ticket) (is_released groups (is_one_of state.ran) c.in-Some.ticket)
          (passes (λ (ticket : ℕ). is_after c.loop-ticket.after ticket && is_released groups (is_one_of state.ran) ticket)
          (range_with_len 0 (command_count groups))
          c.in-Some.ticket ready)).1 in
          walked_on state c.args.most c.loop-ticket.after c.in-Some.ticket c.loop-ticket.self c.take_one.new.self c.loop-ticket.works.items
          c.take_one.new.works.items
          walked many ready (c.take_one.ensures.begins state walked.begins released) (c.take_one.ensures.taken state walked.begins released);
      idle = c.take_one.ensures.idle;
      count = c.take_one.ensures.count ∙ inv.count;
      room = c.take_one.ensures.room ∙ inv.room;
    }

pub returns-clause-taken : goal.returns-clause-taken
returns-clause-taken c = λ state begins.
    let walked = c.loop-ticket.invariant.walked state begins in
    walk_ends state c.args.most c.loop-ticket.after c.loop-ticket.self c.loop-ticket.works.items walked
    (ap (λ (works : List Work). if nat_lt (length works) c.args.most then ready_of state.session.groups (is_one_of state.ran) c.loop-ticket.after else None)
    (sym c.as_slice.ensures.value)
    ∙ sym (c.next.ensures.first state.session.groups state.ran walked.begins.has.admitted)
    ∙ c.in_default.is)
