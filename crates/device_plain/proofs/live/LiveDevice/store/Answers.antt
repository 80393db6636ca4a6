use Rattle.std.proofs.{Common.◌<◌, Common.ap, Common.subst, Common.sym, Common.◌∙◌, lemmas.Bool.lt-ltb}
use Rattle.dcd_base.specs.declared.steps.Actor.{Actor}
use Rattle.journal_core.specs.declared.acts.Act.{Act}
use Rattle.media_map.specs.Places.{locate}
use Rattle.device_plain.{proofs.LifeSteps.alive_on, proofs.LifeSteps.life_inside, proofs.LifeSteps.life_stored, proofs.LifeSteps.past_of, proofs.MemorySteps.store_right, specs.Accesses.store_said}
use Rattle.device_plain.specs.Lives.{IsRightReply, Living, LivesOn, living, without_spare}
use Rattle.device_plain.proofs.live.LiveDevice.store.Goals as goal

pub invariant_of-self-2 : goal.invariant_of-self-2
invariant_of-self-2 c =
    let control = c.self.inside.control in
    let m = c.self.inside.words in
    let host = subst (λ (d : Living). c.args.host < d.config.hosts) (sym c.self.view_is) c.requires in
    record {
      alive = alive_on (living control.config control.state m) (living control.config control.state c.store_at.new.words)
          (Actor.Host c.args.host) (Act.Store c.args.dpa c.args.value) (lt-ltb c.args.host control.config.hosts host) c.self.invariant.alive
          (life_stored control.config control.state m c.store_at.new.words c.args.host c.args.dpa c.args.value c.granted-place.result
          (λ life leads. c.granted-place.ensures.value life (past_of life (living control.config control.state m) leads)) c.in_ok-store_at.ensures.words);
      granules = c.store_at.ensures.granules ∙ c.self.invariant.granules;
    }

pub returns-clause-reply : goal.returns-clause-reply
returns-clause-reply c =
    let control = c.self.inside.control in
    let m = c.self.inside.words in
    subst (λ (d : Living). IsRightReply d (Actor.Host c.args.host) (Act.Store c.args.dpa c.args.value) c.stored.result) c.self.view_is
    (λ life seen.
    let leads = life_inside control.config control.state m life seen in
    c.stored.ensures ∙ c.refused_by.ensures
    ∙ ap store_said (c.granted-place.ensures.value life (past_of life (living control.config control.state m) leads))
    ∙ store_right control.config life c.args.host c.args.dpa c.args.value (locate control.config c.args.host c.args.dpa))

pub returns-clause-led : goal.returns-clause-led
returns-clause-led c =
    let control = c.self.inside.control in
    let m = c.self.inside.words in
    subst (λ (d : Living). LivesOn d (living control.config (without_spare control.state) c.store_at.new.words) (Actor.Host c.args.host) (Act.Store c.args.dpa c.args.value)) c.self.view_is
    (life_stored control.config (without_spare control.state) m c.store_at.new.words c.args.host c.args.dpa c.args.value c.granted-place.result
    (λ life seen. c.granted-place.ensures.value life (past_of life (living control.config control.state m) (life_inside control.config control.state m life seen)))
    c.in_ok-store_at.ensures.words)
