use Rattle.std.proofs.Common.{◌≡◌, ℕ, ◌≤◌, false, List, ◌++◌, drop, length, ap, subst, sym, ◌∙◌, append-nil}
use Rattle.std.proofs.lemmas.List.{drop_all}
use Rattle.nim_base.specs.declared.number.Object.{Object}
use Rattle.nim_base.specs.declared.number.Worker.{Worker}
use Rattle.nim_patch.specs.Given.{PatchRunsExtend}
use Rattle.nim_patch.specs.Mends.{AreSourced, Mends}
use Rattle.nim_patch.specs.Patches.{patch_copies, fails, flags_of}
use Rattle.nim_patch.specs.declared.patch.PatchCopy.{PatchCopy}
use Rattle.nim_place.specs.Versions.{Versions}
use Rattle.nim_patch.proofs.Flags.{flag_read}
use Rattle.nim_patch.proofs.Given.{patch_installs, patch_runs}
use Rattle.nim_patch.proofs.Mended.{mends_given}
use Rattle.nim_patch.proofs.Sources.{copies_few, copies_sourced}
use Rattle.nim_patch.proofs.patch.build_patch.Goals as goal

-- at the end of the loop there are all copies
all_copied : (versions : Versions) (preconditions all : List (Worker × Object)) (at : ℕ) (copies result : List PatchCopy) → all ≡ preconditions
    → copies ++ patch_copies versions (drop at all) ≡ patch_copies versions all → length all ≤ at → result ≡ copies
    → patch_copies versions preconditions ≡ result
all_copied versions preconditions all at copies result same so_far end is =
    ap (λ (l : List (Worker × Object)). patch_copies versions l) (sym same)
    ∙ sym so_far
    ∙ ap (λ (l : List (Worker × Object)). copies ++ patch_copies versions l) (drop_all at all end)
    ∙ append-nil copies
    ∙ sym is

pub copy_of-requires : goal.copy_of-requires
copy_of-requires c =
    let are = c.requires ∙ ap (λ (l : List (Worker × Object)). flags_of c.args.map.now l) (sym c.as_slice-preconditions.ensures) in
    flag_read (fails c.args.map.now) c.as_slice-preconditions.result.now c.args.flags.now c.loop-at.at (record { 0 = 0 }, record { 0 = 0 }) false are
    c.loop-at-test.true

pub returns : goal.returns
returns c =
    let preconditions = c.args.template.now.preconditions in
    let are = all_copied c.args.map.now preconditions c.as_slice-preconditions.result.now c.loop-at.at c.loop-at.copies.items c.from_vec.result
    c.as_slice-preconditions.ensures c.loop-at.invariant c.loop-at-test.false c.from_vec.ensures in
    record {
      copies = sym are;
      few = subst (λ (copies : List PatchCopy). length copies ≤ length preconditions) are (copies_few c.args.map.now preconditions);
      sources = subst (AreSourced c.args.map.now) are (copies_sourced c.args.map.now preconditions);
      mends = λ given stands. subst (Mends c.args.map.now preconditions) are (mends_given given c.args.map.now preconditions stands);
      installs = λ live. patch_installs live c.from_vec.result;
      runs = λ live objects slots.
          subst (λ (copies : List PatchCopy). PatchRunsExtend live objects preconditions copies c.args.map.now) are
          (patch_runs live objects c.args.map.now preconditions slots);
    }
