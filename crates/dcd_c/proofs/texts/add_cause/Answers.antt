use Rattle.std.{proofs.Common.◌≡◌, proofs.Common.List, proofs.Common.ℕ, proofs.Common.subst, specs.Prelude.OnOk}
use Rattle.dcd_c.proofs.Spelled.{cause_3, cause_4, cause_5, cause_6}
use Rattle.dcd_c.proofs.texts.add_cause.Goals as goal

pub returns-in_ok-add_region-in-3 : goal.returns-in_ok-add_region-in-3
returns-in_ok-add_region-in-3 c =
    subst (λ (xs : List ℕ). OnOk c.extend_from_slice-in-3.result (c.extend_from_slice-in-3.new.self ≡ xs))
    (cause_3 c.args.cause c.args.host c.args.region c.args.out.now c.add_region.new.out c.in-3.is c.in_ok-add_region-in-3.ensures)
    c.extend_from_slice-in-3.ensures.extended

pub returns-in_ok-add_region-in-4 : goal.returns-in_ok-add_region-in-4
returns-in_ok-add_region-in-4 c =
    subst (λ (xs : List ℕ). OnOk c.extend_from_slice-in-4.result (c.extend_from_slice-in-4.new.self ≡ xs))
    (cause_4 c.args.cause c.args.host c.args.region c.args.out.now c.add_region-in-4.new.out c.in-4.is c.in_ok-add_region-in-4.ensures)
    c.extend_from_slice-in-4.ensures.extended

pub returns-in_ok-add_place-in-5 : goal.returns-in_ok-add_place-in-5
returns-in_ok-add_place-in-5 c =
    subst (λ (xs : List ℕ). OnOk c.extend_from_slice-in-5.result (c.extend_from_slice-in-5.new.self ≡ xs))
    (cause_5 c.args.cause c.args.host c.args.region c.args.out.now c.add_place-in-5.new.out c.in-5.is c.in_ok-add_place-in-5.ensures)
    c.extend_from_slice-in-5.ensures.extended

pub returns-in-6 : goal.returns-in-6
returns-in-6 c =
    subst (λ (xs : List ℕ). OnOk c.extend_from_slice-in-6.result (c.extend_from_slice-in-6.new.self ≡ xs))
    (cause_6 c.args.cause c.args.host c.args.region c.args.out.now c.in-6.is)
    c.extend_from_slice-in-6.ensures.extended
