use Rattle.std.proofs.{Common.◌≡◌, Common.Some, Common.None, Common.sym, Common.◌∙◌, Common.rules, lemmas.Option.none-some}
use Rattle.offer_core.{proofs.Completeness.in_order_breaks_nothing, proofs.NoOffer.nothing_listed, specs.Offerings.lists_of, specs.Responses.respond_rule}
use Rattle.offer_core.proofs.offers.Offers.respond.Goals as goal

pub answer-requires : goal.answer-requires
answer-requires c =
    let row : None ≡ respond_rule c.args.config.now c.args.host c.args.accepted (lists_of c.args.self.now.offers) c.args.self.now.held c.args.more c.args.list.now = search rules in
    record { offered = λ last none. nothing_listed c.args.config.now c.args.host c.args.accepted c.args.self.now.offers c.args.self.now.held c.args.more c.args.list.now last none (sym row) }

pub returns-in-Some-clause-complete : goal.returns-in-Some-clause-complete
returns-in-Some-clause-complete c =
    let row : Some c.in-Some.rule ≡ respond_rule c.args.config.now c.args.host c.args.accepted (lists_of c.args.self.now.offers) c.args.self.now.held c.args.more c.args.list.now = search rules in
    λ in_order. none-some c.in-Some.rule (sym (in_order_breaks_nothing c.args.config.now c.args.host c.args.accepted c.args.self.now c.args.more c.args.list.now c.regions-regions.ensures.sound c.requires.host c.requires.few in_order) ∙ sym row)
