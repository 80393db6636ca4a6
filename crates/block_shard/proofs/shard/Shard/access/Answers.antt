use Rattle.std.proofs.Common.{◌≡◌, ◌<◌, List, [], ◌∷◌, ◌++◌, sym, ap, subst, ◌∙◌}
use Rattle.std.specs.{Prelude.IfOk, declared.result.Result.Result}
use Rattle.dcd_base.specs.declared.{failures.AccessFault.AccessFault, media.Place.Place, steps.Actor.TheVariants.Host, steps.Stamp.Stamp}
use Rattle.journal_core.specs.{declared.entries.Entry.Entry, Accesses.access_entry}
use Rattle.media_map.specs.Places.{locate}
use Rattle.region_config.specs.{Configurations.Configuration, Granules.granule_total}
use Rattle.shard_laws.specs.{Accessing.AddsAccess, Accessing.IsAccess, Accessing.StoresIn, Accessing.said_at, Accessing.stripe_reply, Belonging.asked_at, Belonging.shard_at, Clocks.next_stamp}
use Rattle.shard_laws.specs.Stripes.{Stripe}
use Rattle.block_shard.proofs.{Entered.adds_access, Entered.entered_is_access, Places.located_inside, Places.place_inside}
use Rattle.block_shard.proofs.shard.Shard.access.Goals as goal

pub held_place-place-requires-clause-inside : goal.held_place-place-requires-clause-inside
held_place-place-requires-clause-inside c =
    let config : (c.args.self.now).config ≡ c.self.inside.config = ap (λ (x : Stripe). x.config) (sym c.self.view_is) in
    place_inside c.self.inside.config c.args.host (asked_at c.args.act.now) _ c.args.at c.hosts-hosts.ensures.sound
    (subst (λ (d : Configuration). c.args.host < d.hosts) config c.requires.host)
    (c.requires.at ∙ ap (λ (d : Configuration). locate d c.args.host (asked_at c.args.act.now)) config)
    c.self.invariant.1

pub returns-clause-cells : goal.returns-clause-cells
returns-clause-cells c =
    let in_it = c.self.inside in
    let x : Stripe = record { index = in_it.index; config = in_it.config; media = in_it.memory; entries = in_it.accesses.items; clock = in_it.clock } in
    let config : (c.args.self.now).config ≡ in_it.config = ap (λ (z : Stripe). z.config) (sym c.self.view_is) in
    let host : c.args.host < in_it.config.hosts = subst (λ (d : Configuration). c.args.host < d.hosts) config c.requires.host in
    let at_is : c.args.at ≡ locate in_it.config c.args.host (asked_at c.args.act.now) = c.requires.at ∙ ap (λ (d : Configuration). locate d c.args.host (asked_at c.args.act.now)) config in
    let inside = subst (λ (r : Result Place AccessFault). IfOk r (λ (p : Place). p.granule < granule_total in_it.config)) (sym at_is)
    (located_inside in_it.config c.args.host (asked_at c.args.act.now) c.hosts-hosts.ensures.sound host) in
    let place = c.held_place-place.ensures.value in
    let stamp = c.next_stamp-stamp.ensures in
    let e : Entry = access_entry c.args.pass c.args.line c.args.host c.args.act.now (stripe_reply x c.args.host c.args.act.now c.args.at) (next_stamp c.args.seen in_it.clock) in
    let is : c.in_ok-access.access ≡ e = c.in_ok-access.ensures.entry ∙ (λ i. access_entry c.args.pass c.args.line c.args.host c.args.act.now (said_at in_it.memory c.args.act.now (place i)) (stamp i)) in
    let items = c.push_reserved.ensures.items ∙ (λ i. c.in_ok-reserve.ensures.items i ++ is i ∷ []) in
    let stores = subst (StoresIn in_it.memory c.enter.new.memory c.args.act.now) place c.in_ok-access.ensures.words in
    let adds = subst (λ (t : List Entry × Stamp). AddsAccess x (record { index = in_it.index; config = in_it.config; media = c.enter.new.memory; entries = t.0; clock = t.1 }) e)
    (λ i. (sym items i, sym stamp i))
    (adds_access in_it.index in_it.config in_it.memory c.enter.new.memory in_it.accesses.items in_it.clock (next_stamp c.args.seen in_it.clock)
    c.args.pass c.args.line c.args.host c.args.act.now c.args.at c.requires.act at_is stores c.in_ok-access.ensures.holders) in
    subst (λ (z : Stripe). IsAccess (shard_at c.args.at) c.args.pass (Host c.args.host) z (record { index = in_it.index; config = in_it.config; media = c.enter.new.memory; entries = c.push_reserved.new.self.items; clock = c.next_stamp-stamp.result }))
    c.self.view_is
    (entered_is_access x _ c.args.pass c.args.line c.args.host c.args.act.now c.args.at c.args.seen c.requires.act host at_is inside adds)
