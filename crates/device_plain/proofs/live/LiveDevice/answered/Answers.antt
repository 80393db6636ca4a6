use Rattle.std.{proofs.Common.◌∙◌, proofs.Common.ap, proofs.Common.subst, proofs.Common.sym, specs.Prelude.IsTrue}
use Rattle.journal_core.specs.{Entries.is_control, declared.acts.Act.Act, declared.acts.Reply.Reply}
use Rattle.control_core.specs.{Deciding.IsDecidedBy, Steps.MayStep, device_rules.specs.Legal.Meets}
use Rattle.device_plain.proofs.LifeSteps.{answer_kind, can_take, effects_decided, life_inside, life_seen, past_of, right_is}
use Rattle.device_plain.specs.Lives.{Changes, IsLife, IsReplyTo, Living, living, without_spare}
use Rattle.device_plain.proofs.live.LiveDevice.answered.Goals as goal

pub take-requires : goal.take-requires
take-requires c =
    let control = c.self.inside.control in
    let inside : Living = living control.config control.state c.self.inside.words in
    let may = subst (λ (d : Living). MayStep d.config c.args.actor c.args.act.now) (sym c.self.view_is) (record { fits = c.requires.may.fits; control = c.requires.may.control }) in
    let life = c.self.invariant.alive.life in
    let leads = c.self.invariant.alive.leads in
    can_take (living control.config (without_spare control.state) c.self.inside.words) life (life_seen control.config control.state c.self.inside.words life leads)
    c.args.actor c.args.act.now may c.in_ok-decided.decided (c.in_ok-decided.ensures life (past_of life inside leads))

pub returns-clause-led : goal.returns-clause-led
returns-clause-led c life leads e by does meets =
    let control = c.self.inside.control in
    let m = c.self.inside.words in
    let inside : Living = living control.config control.state m in
    let seen = subst (IsLife life) (sym c.self.view_is) leads in
    let real = life_inside control.config control.state m life seen in
    let decided = subst (λ (d : Living). IsDecidedBy d.config life c.args.actor c.args.act.now c.in_ok-decided.decided) c.self.view_is (c.in_ok-decided.ensures life (past_of life inside real)) in
    c.in_ok-take.ensures.taken life seen e
    (subst (λ (a : Act). IsTrue (is_control a)) (sym does) c.requires.may.control) (subst (λ (d : Living). Meets d.config life e) (sym c.self.view_is) meets)
    (effects_decided c.args.self.now.config life c.args.actor c.args.act.now (record { fits = c.requires.may.fits; control = c.requires.may.control }) c.in_ok-decided.decided decided e by does meets)

pub returns-clause-kind : goal.returns-clause-kind
returns-clause-kind c =
    let control = c.self.inside.control in
    let life = c.self.invariant.alive.life in
    let inside : Living = living control.config control.state c.self.inside.words in
    let may = subst (λ (d : Living). MayStep d.config c.args.actor c.args.act.now) (sym c.self.view_is) (record { fits = c.requires.may.fits; control = c.requires.may.control }) in
    let reply = (c.in_ok-decided.ensures life (past_of life inside c.self.invariant.alive.leads)).reply in
    subst (λ (r : Reply). IsReplyTo c.args.act.now r) (sym reply) (answer_kind control.config life c.args.actor c.args.act.now may)

pub returns-clause-changed : goal.returns-clause-changed
returns-clause-changed c =
    let control = c.self.inside.control in
    let m = c.self.inside.words in
    let inside : Living = living control.config control.state m in
    let may = subst (λ (d : Living). MayStep d.config c.args.actor c.args.act.now) (sym c.self.view_is) (record { fits = c.requires.may.fits; control = c.requires.may.control }) in
    subst (λ (d : Living). Changes d c.args.actor c.args.act.now c.in_ok-decided.decided.effects) c.self.view_is
    (λ life seen.
    let leads = life_inside control.config control.state m life seen in
    let decided = c.in_ok-decided.ensures life (past_of life inside leads) in
    decided.effects ∙ ap (λ r. r.1) (sym (right_is control.config life c.args.actor c.args.act.now may)))
