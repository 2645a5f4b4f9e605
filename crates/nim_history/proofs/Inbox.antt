-- The frames that a worker has carry the values of their versions.
use Rattle.std.proofs.Common.{◌≡◌, ℕ, Bool, true, false, cond, refl, ap, subst, sym, Option, None, Some}
use Rattle.std.specs.Prelude.{IfSome}
use Rattle.std.specs.FinMap as map
use Rattle.std.specs.FinMap.{get-empty, get-insert, get-remove, get-retain_keys}
use Rattle.std.specs.Ordering.{is_eq}
use Rattle.nim_base.specs.Value.{Grid}
use Rattle.nim_message.specs.declared.frame.Data.{Data}
use Rattle.nim_job.specs.declared.job.Job.{Job}
use Rattle.nim_job.specs.Versions.{version_value}
use Rattle.nim_plan.specs.Good.{IsGoodFrame}
use Rattle.nim_plan.specs.Legal.{is_version}
use Rattle.nim_store.specs.declared.key.Key.{Key}
use Rattle.nim_store.specs.Keys.{is_not_before, key_cmp, key_of}
use Rattle.nim_base.proofs.Lists.{is_equal}
use Rattle.nim_store.proofs.Frames.{exact_keys, keys_total}

-- the value of the version that a key names
pub record IsTrueAt (job : Job) (key : Key) (grid : Grid) : Type 0 where
  pub version : is_version job key.object key.version ≡ true
  pub value : grid ≡ version_value job key.object key.version

abbrev pub IsTrueInbox : Job → map.FinMap key_cmp Grid → Type 0
IsTrueInbox job inbox = (key : Key) → IfSome (map.get inbox key) (IsTrueAt job key)

pub empty_true : (job : Job) → IsTrueInbox job map.empty
empty_true job key = subst (λ (o : Option Grid). IfSome o (IsTrueAt job key)) (sym (get-empty key_cmp key)) tt

-- one more frame
pub frame_true : (job : Job) (inbox : map.FinMap key_cmp Grid) (frame : Data) → IsGoodFrame job frame → IsTrueInbox job inbox
    → IsTrueInbox job (map.insert inbox (key_of frame) frame.value)
frame_true job inbox frame good all key =
    subst (λ (o : Option Grid). IfSome o (IsTrueAt job key)) (sym (get-insert keys_total inbox (key_of frame) frame.value key))
    (either (is_eq (key_cmp key (key_of frame))) refl) where
      either : (b : Bool) → is_eq (key_cmp key (key_of frame)) ≡ b → IfSome (cond b (Some frame.value) (map.get inbox key)) (IsTrueAt job key)
      either true same =
          subst (λ (k : Key). IsTrueAt job k frame.value) (sym (exact_keys key (key_of frame) (is_equal (key_cmp key (key_of frame)) same)))
          (record { version = good.0; value = good.1 })
      either false other = all key

-- what is there of what may be gone
left_there : {X : Type 0} (P : X → Type 0) (b : Bool) (o : Option X) → IfSome o P → IfSome (cond b o None) P
left_there P true o is = is
left_there P false o is = tt

gone_there : {X : Type 0} (P : X → Type 0) (b : Bool) (o : Option X) → IfSome o P → IfSome (cond b None o) P
gone_there P true o is = tt
gone_there P false o is = is

-- without one frame
pub removed_true : (job : Job) (inbox : map.FinMap key_cmp Grid) (gone : Key) → IsTrueInbox job inbox → IsTrueInbox job (map.remove inbox gone)
removed_true job inbox gone all key =
    subst (λ (o : Option Grid). IfSome o (IsTrueAt job key)) (sym (get-remove keys_total inbox gone key))
    (gone_there (IsTrueAt job key) (is_eq (key_cmp key gone)) (map.get inbox key) (all key))

-- without those of earlier epochs
pub retained_true : (job : Job) (inbox : map.FinMap key_cmp Grid) (epoch : ℕ) → IsTrueInbox job inbox
    → IsTrueInbox job (map.retain_keys inbox (is_not_before epoch))
retained_true job inbox epoch all key =
    subst (λ (o : Option Grid). IfSome o (IsTrueAt job key))
    (sym (get-retain_keys inbox (is_not_before epoch) key (λ k alike. ap (is_not_before epoch) (sym (exact_keys key k alike)))))
    (left_there (IsTrueAt job key) (is_not_before epoch key) (map.get inbox key) (all key))
