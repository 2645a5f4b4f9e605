-- What is told of a replay.
use Rattle.std.proofs.Common.{◌≡◌, ℕ, Bool, true, false, Option, None, Some, List, refl, subst, sym, ap, true≢false, arith}
use Rattle.std.specs.Prelude.{IsSomeAnd, Vec, if◌then◌else◌}
use Rattle.std.specs.declared.alloc.Global.{Global}
use Rattle.nim_course.specs.SummaryText.{text_of_summary}
use Rattle.nim_lockstep.specs.Cluster.{ClusterState}
use Rattle.nim_cluster.specs.declared.cluster.Cluster.{Cluster}
use Rattle.nim_cluster.specs.Stands.{ClusterStands}
use Rattle.nim_top.specs.Answer.{has_run, is_summary_told, status_of, error_text}
use Rattle.nim_top.specs.Parts.{SumsUpIf, SumsUpState, told_by}
use Rattle.nim_top.specs.declared.status.Outcome.{Outcome}
use Rattle.nim_top.specs.declared.status.Outcome.TheVariants.{Done}

abbrev Text : Type 0
Text = Option (Vec ℕ Global)

-- the summary of what a cluster has come to is that of the cluster that is kept
pub sums_up_kept : (asked : Bool) (outcome : Outcome) (text : Text) (s : ClusterState) (cluster : Cluster) (old : Option Cluster) → ClusterStands cluster s
    → SumsUpState (is_summary_told asked outcome) text s
    → SumsUpIf (is_summary_told asked outcome) text (if has_run (status_of outcome) then Some cluster else old)
sums_up_kept true Done text s cluster old stands is = (s, (stands, is))
sums_up_kept false Done text s cluster old stands is = is
sums_up_kept asked outcome text s cluster old stands is = is

-- where no summary is told, it is told how the replay ended
pub told_plain : (flag : Bool) (outcome : Outcome) (text : Text) (kept : Option Cluster) → SumsUpIf flag text kept → flag ≡ false
    → told_by text outcome ≡ error_text outcome
told_plain true outcome text kept is unasked = absurd (true≢false unasked)
told_plain false outcome text kept is unasked = ap (λ (t : Text). told_by t outcome) is

-- status 0 says that all is done
done_by : (outcome : Outcome) → status_of outcome ≡ 0 → outcome ≡ Done
done_by Done zero = refl
done_by outcome zero = absurd (omega arith)

-- the summary is told of the cluster that is kept
summary_told : (outcome : Outcome) (text : Text) (kept : Option Cluster) (IsTold : List ℕ → Type 0) → SumsUpIf true text kept
    → IsTold (told_by text outcome)
    → IsSomeAnd kept (λ (cluster : Cluster). (s : ClusterState) × (ClusterStands cluster s × IsTold (text_of_summary s.control.summary)))
summary_told outcome text None IsTold is told = absurd is
summary_told outcome None (Some cluster) IsTold is told = absurd is.1.1
summary_told outcome (Some text) (Some cluster) IsTold is told = (is.0, (is.1.0, subst IsTold is.1.1 told))

-- the same, by the status and what is asked for
pub tells_summary : (asked : Bool) (outcome : Outcome) (text : Text) (kept : Option Cluster) (IsTold : List ℕ → Type 0)
    → SumsUpIf (is_summary_told asked outcome) text kept → IsTold (told_by text outcome) → status_of outcome ≡ 0 → asked ≡ true
    → IsSomeAnd kept (λ (cluster : Cluster). (s : ClusterState) × (ClusterStands cluster s × IsTold (text_of_summary s.control.summary)))
tells_summary asked outcome text kept IsTold is told zero asks =
    summary_told outcome text kept IsTold
    (subst (λ (flag : Bool). SumsUpIf flag text kept) asks (subst (λ (o : Outcome). SumsUpIf (is_summary_told asked o) text kept) (done_by outcome zero) is))
    told

-- where nothing was run no summary is told
pub unsummed : (asked : Bool) (status : ℕ) (outcome : Outcome) (kept : Option Cluster) → status_of outcome ≡ status → (status ≡ 0 → ⊥)
    → SumsUpIf (is_summary_told asked outcome) None kept
unsummed asked status Done kept is isnt = absurd (isnt (sym is))
unsummed asked status outcome kept is isnt = refl
