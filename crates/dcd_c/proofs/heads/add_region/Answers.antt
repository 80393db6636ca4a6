use Rattle.std.{proofs.Common.◌≡◌, proofs.Common.List, proofs.Common.ℕ, proofs.Common.subst, specs.Prelude.OnOk}
use Rattle.dcd_c.proofs.Spelled.{region_added}
use Rattle.dcd_c.proofs.heads.add_region.Goals as goal

pub returns : goal.returns
returns c =
    subst (λ (xs : List ℕ). OnOk c.add_u32-2.result (c.add_u32-2.new.out ≡ xs))
    (region_added c.args.region.now c.args.out.now c.add_u64.new.out c.add_u64-2.new.out c.add_u64-3.new.out c.add_u64-4.new.out c.add_u32.new.out
    c.in_ok-add_u64.ensures.added c.in_ok-add_u64-2.ensures.added c.in_ok-add_u64-3.ensures.added c.in_ok-add_u64-4.ensures.added c.in_ok-add_u32.ensures.added)
    c.add_u32-2.ensures.added
