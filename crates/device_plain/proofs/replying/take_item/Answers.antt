use Rattle.std.proofs.Common.{sym, subst}
use Rattle.device_plain.specs.Alone.{IsAlone, TakesItem}
use Rattle.isolation_laws.specs.{Solo.solo_after, Solo.solo_word_after, declared.items.Item.Item}
use Rattle.device_plain.proofs.replying.take_item.Goals as goal

pub returns-in_ok-push-in-Own-clause-taken : goal.returns-in_ok-push-in-Own-clause-taken
returns-in_ok-push-in-Own-clause-taken c = λ v word alone.
    subst (λ (item : Item). IsAlone c.args.config.now c.args.host (solo_after c.args.config.now c.args.host v item) (λ d. solo_word_after c.args.config.now c.args.host d v (word d) item) c.act.new.self)
    (sym c.in-Own.is) (c.in_ok-reply-in-Own.ensures v word alone).1

pub returns-in-Given-clause-taken : goal.returns-in-Given-clause-taken
returns-in-Given-clause-taken c =
    subst (λ (item : Item). TakesItem c.args.config.now c.args.host item c.args.alone.now c.give.new.self c.give.result) (sym c.in-Given.is) (c.give.ensures c.args.config.now)

pub returns-in-Asked-clause-taken : goal.returns-in-Asked-clause-taken
returns-in-Asked-clause-taken c =
    subst (λ (item : Item). TakesItem c.args.config.now c.args.host item c.args.alone.now c.ask.new.self c.ask.result) (sym c.in-Asked.is) (c.ask.ensures c.args.config.now)

pub returns-in-Taken-clause-taken : goal.returns-in-Taken-clause-taken
returns-in-Taken-clause-taken c =
    subst (λ (item : Item). TakesItem c.args.config.now c.args.host item c.args.alone.now c.take.new.self c.take.result) (sym c.in-Taken.is) (c.take.ensures c.args.config.now)

pub returns-in-Block-clause-taken : goal.returns-in-Block-clause-taken
returns-in-Block-clause-taken c =
    subst (λ (item : Item). TakesItem c.args.config.now c.args.host item c.args.alone.now c.resize.new.self c.resize.result) (sym c.in-Block.is) (c.resize.ensures c.args.config.now)
