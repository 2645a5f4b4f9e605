-- Orders behind orders so far: what stays as it was.
use Rattle.std.proofs.Common.{◌≡◌, ℕ, Bool, true, false, List, refl, ◌∙◌}
use Rattle.std.specs.Prelude.{All}
use Rattle.std.proofs.Math.Path.{fun_ext}
use Rattle.std.proofs.lemmas.Bool.{false≢true}
use Rattle.std.proofs.lemmas.List.{append-nil}
use Rattle.nim_base.specs.declared.number.Worker.{Worker}
use Rattle.nim_message.specs.declared.order.ToWorker.{ToWorker}
use Rattle.nim_message.specs.Orders.{session_of}
use Rattle.nim_order.specs.Orders.{IsOrderByRule}
use Rattle.nim_order.proofs.Sessions.{orders_cover}
use Rattle.nim_job.specs.declared.job.Job.{Job}
use Rattle.nim_plan.specs.Legal.{IsLegal}
use Rattle.nim_plan.specs.Paired.{ArePaired, Key}
use Rattle.nim_place.specs.Extends.{AreCoveredByRule, HaveNone, is_live, live_lists, longer}
use Rattle.nim_template.proofs.Turns.{have_fewer}
use Rattle.nim_reuse.specs.Reuse.{no_orders}

-- live workers' legal lists stay legal
abbrev pub StayLegal : Job → List Bool → (ℕ → List ToWorker) → (ℕ → List ToWorker) → Type 0
StayLegal job live before after =
    (worker : Worker) → is_live live worker ≡ true → IsLegal job (before worker.0) → IsLegal job (after worker.0)

-- Lists stay covered and paired, each new key passes a test, and live workers keep the halves and the patches whose numbers don't pass theirs.
pub record Follow (test : Key → Bool) (live : List Bool) (renewed made : ℕ → Bool) (before after : ℕ → List ToWorker) : Type 0 where
  pub covered : (worker : Worker) → All IsOrderByRule (before worker.0) → AreCoveredByRule (after worker.0)
  pub paired : ArePaired (live_lists live before) → HaveNone test live before → ArePaired (live_lists live after)
  pub others : (other : Key → Bool) → ((key : Key) → test key ≡ true → other key ≡ false) → HaveNone other live before → HaveNone other live after
  pub halves : (block : ℕ) → renewed block ≡ false → (worker : Worker) → is_live live worker ≡ true
      → (session_of (after worker.0)).halves block ≡ (session_of (before worker.0)).halves block
  pub patches : (patch : ℕ) → made patch ≡ false → (worker : Worker) → is_live live worker ≡ true
      → (session_of (after worker.0)).patches patch ≡ (session_of (before worker.0)).patches patch

-- no key
abbrev pub no_key : Key → Bool
no_key key = false

-- so it is with no more orders
pub follow_same : (test : Key → Bool) (live : List Bool) (renewed made : ℕ → Bool) (lists : ℕ → List ToWorker) → Follow test live renewed made lists lists
follow_same test live renewed made lists = record {
  covered = λ worker rule. (record { by_rule = rule; covered = orders_cover (lists worker.0) rule });
  paired = λ pairs none. pairs;
  others = λ other apart none. none;
  halves = λ block kept worker there. refl;
  patches = λ patch kept worker there. refl;
}

-- and with more orders twice, whose new keys differ
pub follow_then : (first second test : Key → Bool) (live : List Bool) (renewed made : ℕ → Bool) (before between after : ℕ → List ToWorker)
    → ((key : Key) → first key ≡ true → test key ≡ true) → ((key : Key) → second key ≡ true → test key ≡ true)
    → ((key : Key) → first key ≡ true → second key ≡ false)
    → Follow first live renewed made before between → Follow second live renewed made between after → Follow test live renewed made before after
follow_then first second test live renewed made before between after within also apart one two = record {
  covered = λ worker rule. two.covered worker (one.covered worker rule).by_rule;
  paired = λ pairs none.
      two.paired (one.paired pairs (have_fewer test first live before within none)) (one.others second apart (have_fewer test second live before also none));
  others = λ other less none. two.others other (λ key is. less key (also key is)) (one.others other (λ key is. less key (within key is)) none);
  halves = λ block kept worker there. two.halves block kept worker there ∙ one.halves block kept worker there;
  patches = λ patch kept worker there. two.patches patch kept worker there ∙ one.patches patch kept worker there;
}

-- no key is new in the first
pub none_then : (test : Key → Bool) (live : List Bool) (renewed made : ℕ → Bool) (before between after : ℕ → List ToWorker)
    → Follow no_key live renewed made before between → Follow test live renewed made between after → Follow test live renewed made before after
none_then test live renewed made before between after =
    follow_then no_key test test live renewed made before between after (λ key is. absurd (false≢true is)) (λ key is. is)
    (λ key is. absurd (false≢true is))

-- lists with no more orders
pub longer_none : (lists : ℕ → List ToWorker) → longer lists no_orders ≡ lists
longer_none lists = fun_ext (λ number. append-nil (lists number))
