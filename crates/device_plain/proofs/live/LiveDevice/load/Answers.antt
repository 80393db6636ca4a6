use Rattle.std.proofs.Common.{ap, subst, ◌∙◌}
use Rattle.dcd_base.specs.declared.steps.Actor.{Actor}
use Rattle.journal_core.specs.{Accesses.load_said, declared.acts.Act.Act}
use Rattle.media_map.specs.Places.{locate}
use Rattle.device_plain.{proofs.LifeSteps.life_inside, proofs.LifeSteps.life_loaded, proofs.LifeSteps.past_of, proofs.MemorySteps.load_right, specs.Accesses.word_from}
use Rattle.device_plain.specs.Lives.{IsRightReply, Living, LivesOn, living, without_spare}
use Rattle.device_plain.proofs.live.LiveDevice.load.Goals as goal

pub returns-clause-reply : goal.returns-clause-reply
returns-clause-reply c =
    let control = c.self.inside.control in
    let m = c.self.inside.words in
    subst (λ (d : Living). IsRightReply d (Actor.Host c.args.host) (Act.Load c.args.dpa) c.loaded.result) c.self.view_is
    (λ life seen.
    let leads = life_inside control.config control.state m life seen in
    c.loaded.ensures
    ∙ ap load_said (c.word_at.ensures ∙ ap (word_from m) (c.granted-place.ensures.value life (past_of life (living control.config control.state m) leads)))
    ∙ load_right control.config life c.args.host m leads.words c.args.dpa (locate control.config c.args.host c.args.dpa) c.granted-place.ensures.placed)

pub returns-clause-led : goal.returns-clause-led
returns-clause-led c =
    subst (λ (d : Living). LivesOn d d (Actor.Host c.args.host) (Act.Load c.args.dpa)) c.self.view_is
    (life_loaded c.self.inside.control.config (without_spare c.self.inside.control.state) c.self.inside.words c.args.host c.args.dpa)
