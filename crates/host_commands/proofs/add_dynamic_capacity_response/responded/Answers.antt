use Rattle.std.proofs.{Common.◌∙◌, Common.◌++◌, Common.List, Common.[], Common.ap, Common.arith, Common.map, lemmas.Result.IfOk-weaker}
use Rattle.cci_codec.specs.dcd_base.specs.declared.capacity.Extent.{Extent}
use Rattle.extent_list.specs.ExtentLists.{marked}
use Rattle.journal_core.specs.declared.outcome.HeldKind.{HeldKind}
use Rattle.offer_core.specs.Offerings.{oldest_of}
use Rattle.device_commands.specs.device_rules.specs.ResponseOutcomes.{unhold}
use Rattle.host_commands.proofs.AddDynamicCapacityResponse.{accepted_granular, answered_drafts, held_response, nothing_response}
use Rattle.host_commands.proofs.add_dynamic_capacity_response.responded.Goals as goal

pub answered-requires-clause-granular : goal.answered-requires-clause-granular
answered-requires-clause-granular c =
    accepted_granular c.args.present.now c.args.host c.args.lists.now c.args.list.now c.in_ok-accepted.accepted c.args.more c.requires.row
    c.regions-regions.ensures.sound c.requires.host c.if-more.false
    (c.in_ok-accepted.ensures ∙ (λ i. map (marked (oldest_of (c.offers.ensures.offers i))) (c.offers.ensures.held i ++ c.args.list.now)))

pub returns-then-more : goal.returns-then-more
returns-then-more c = IfOk-weaker c.held.result _ _ (λ d is. λ cfg v present shows. held_response cfg c.args.host v c.args.list.now c.args.more d c.if-more.true is) c.held.ensures

pub returns-then-offer_count-eq0 : goal.returns-then-offer_count-eq0
returns-then-offer_count-eq0 c =
    IfOk-weaker c.unheld.result _ _ (λ d is. λ cfg v present shows.
    nothing_response cfg c.args.host v c.args.lists.now c.args.list.now c.args.more d shows c.if-more.false (omega (arith, c.offer_count.ensures, c.if-offer_count-eq0.true))
    (is ∙ ap (λ (held : List Extent). record { payload = []; changes = unhold c.args.host HeldKind.Responses held; tags = []; log_records = [] }) c.responses.ensures)) c.unheld.ensures

pub returns : goal.returns
returns c =
    IfOk-weaker c.answered.result _ _ (λ d is. λ cfg v present shows.
    answered_drafts cfg c.args.present.now c.args.host v c.args.lists.now c.args.list.now c.in_ok-accepted.accepted c.args.more d present shows c.if-more.false
    (omega (arith, c.offer_count.ensures, c.if-offer_count-eq0.false))
    (c.in_ok-accepted.ensures ∙ (λ i. map (marked (oldest_of (c.offers.ensures.offers i))) (c.offers.ensures.held i ++ c.args.list.now))) is) c.answered.ensures
