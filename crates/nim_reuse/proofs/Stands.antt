-- Decisions stand while blocks are recorded, and while Singles are given.
use Rattle.std.proofs.Common.{◌≡◌, ℕ, ◌<◌, ◌≤◌, List, replicate, get_or, ap, sym, subst, arith, inl, inr}
use Rattle.std.specs.Prelude.{◌⊎◌, nat_lt}
use Rattle.std.proofs.lemmas.Bool.{cases_lt, cond-false, le-ltb}
use Rattle.std.proofs.lemmas.List.{get_or_past, get_or-replicate}
use Rattle.std.proofs.lemmas.List.Elements.{All-nil, All-weaker}
use Rattle.std.proofs.Math.ListN.{length-replicate}
use Rattle.nim_base.specs.declared.number.Worker.{Worker}
use Rattle.nim_command.specs.declared.edit.PatchPart.{PatchPart}
use Rattle.nim_command.specs.declared.entry.Entry.{Entry}
use Rattle.nim_message.specs.Orders.{session_of}
use Rattle.nim_place.specs.Extends.{longer}
use Rattle.nim_reuse.specs.declared.decided.Decided.TheVariants.{Open, Recorded}
use Rattle.nim_reuse.specs.Decisions.{decided_of}
use Rattle.nim_reuse.specs.GoesOn.{DecisionsStand, IsDecided, HasPartsInstalled}
use Rattle.nim_reuse.proofs.Blocks.{decided_stays, parts_stay, set_decided}
use Rattle.nim_reuse.proofs.Keeps.{AreAlike, singles_keep}

-- of no block anything was decided
none_decided : (blocks block : ℕ) → get_or (replicate blocks Open) block Open ≡ Open
none_decided blocks block = by (cases_lt block blocks) where
  by : (block < blocks) ⊎ (blocks ≤ block) → get_or (replicate blocks Open) block Open ≡ Open
  by (inl below) = get_or-replicate blocks block Open Open below
  by (inr past) = get_or_past (replicate blocks Open) block Open (let long = length-replicate blocks Open in omega (arith, long, past))

pub decisions_stand : DecisionsStand
decisions_stand = record {
  new = λ place live objects blocks forms lists. (record {
    blocks = λ block. subst (IsDecided place live objects (forms block) lists block) (sym (none_decided blocks block)) tt;
    patches = All-nil (HasPartsInstalled live lists);
    valid = record {
      few = omega arith;
      numbered = λ number. sym (cond-false (nat_lt number 0) 1 0 (le-ltb number 0 (omega arith)));
    };
  });
  singles = λ place live objects forms lists more decisions are single. (
      let alike : (worker : Worker) → AreAlike (session_of (lists worker.0)) (session_of (longer lists more worker.0))
      = λ worker. singles_keep (lists worker.0) (more worker.0) (single worker.0) in
      record {
        blocks = λ block.
            decided_stays place live objects (forms block) lists (longer lists more) block (decided_of decisions block)
            (λ worker there. ap (λ (h : ℕ → List Entry). h block) (alike worker).halves) (are.blocks block);
        patches =
            All-weaker (HasPartsInstalled live lists) (HasPartsInstalled live (longer lists more))
            (λ one.
            parts_stay live lists (longer lists more) one.1.number one.1.patch.copies
            (λ worker there. ap (λ (p : ℕ → List PatchPart). p one.1.number) (alike worker).patches))
            decisions.patches are.patches;
        valid = are.valid;
      });
  recorded = λ place live objects forms lists decisions recorded are is. (record {
    blocks =
        set_decided (λ block. IsDecided place live objects (forms block) lists block) decisions.blocks recorded.block (Recorded recorded) is tt
        (λ block other. are.blocks block);
    patches = are.patches;
    valid = are.valid;
  });
}
