use Rattle.std.proofs.Common.{◌≡◌, ◌*◌, ◌%◌, ◌^◌, ◌==◌, ◌∷◌, [], Bool, List, false, ap, arith, subst, sym, ◌∙◌}
use Rattle.std.{specs.Prelude.OnOk, specs.Prelude.if◌then◌else◌, proofs.lemmas.Bool.ne_eqb}
use Rattle.journal_core.specs.{Entries.effects, declared.entries.Entry.Entry}
use Rattle.region_config.specs.Configurations.{Configuration}
use Rattle.plan_rules.specs.{Holding.Step, Holding.gain, Holding.stepped, Listing.add_step, Listing.added, Listing.gained, Listing.offer_taken}
use Rattle.pool_planner.{specs.Trials.TriesMore, proofs.SixtyFourBits.add_wraps, proofs.Taking.takes_then_ok}
use Rattle.device_plain.specs.device_rules.specs.Hosts.{block_of}
use Rattle.pool_planner.proofs.gaining.gain_one.Goals as goal

pub returns : goal.returns
returns c =
    let cfg = c.args.control.now.config in
    let past = effects c.args.control.now.entries in
    let x = c.args.demand.now in
    let h = x.host in
    let old = c.args.trial.now in
    let journal = old.control.entries in
    let add = added cfg past x in
    let made : c.in_ok-add_step.field-0 ≡ add = c.in_ok-add_step.ensures
    ∙ (λ i. add_step x.host x.region ((c.in_ok-gain.ensures.value i * c.block_size.ensures.value i) % 2 ^ 64))
    ∙ add_wraps x.host x.region (gain cfg past x * block_of cfg x.region past) in
    let first : TriesMore old c.take.new.self (add ∷ []) = subst (λ (s : Step). TriesMore old c.take.new.self (s ∷ [])) made c.in_ok-take.ensures in
    let some : (gain cfg past x == 0) ≡ false = ne_eqb (gain cfg past x) 0 (λ e. omega (arith, e, c.if-gain-eq0.false, c.in_ok-gain.ensures.value)) in
    let is : gained cfg past journal x ≡ add ∷ offer_taken h (effects (stepped cfg journal (add ∷ []))) ∷ [] =
    ap (λ (b : Bool). if b then [] else add ∷ offer_taken h (effects (stepped cfg journal (add ∷ []))) ∷ []) some in
    let now : c.take.new.self.control.entries ≡ stepped cfg journal (add ∷ []) = first.entries ∙ ap (λ (d : Configuration). stepped d journal (add ∷ [])) c.requires.same in
    subst (λ (more : List Step). OnOk c.take_offer.result (TriesMore old c.take_offer.new.trial more))
    (ap (λ (entries : List Entry). add ∷ offer_taken h (effects entries) ∷ []) now ∙ sym is)
    (takes_then_ok c.take_offer.result old c.take.new.self c.take_offer.new.trial (add ∷ []) (offer_taken h (effects c.take.new.self.control.entries) ∷ []) first c.take_offer.ensures)
