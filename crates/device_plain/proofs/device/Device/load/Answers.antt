use Rattle.std.proofs.Common.{◌<◌, ◌+◌, ◌∷◌, ◌++◌, [], List, length, sym, ap, subst, ◌∙◌, arith}
use Rattle.std.specs.Prelude.{IfOk}
use Rattle.dcd_base.specs.declared.media.Place.{Place}
use Rattle.journal_core.specs.{declared.acts.Act.Act, declared.entries.Entry.Entry, Accesses.access_entry, Accesses.load_said, Entries.effects, Entries.is_control, Merging.merged}
use Rattle.media_map.specs.Places.{locate}
use Rattle.region_config.specs.{Configurations.Configuration, Granules.granule_total}
use Rattle.control_core.specs.Pasts.{IsPast}
use Rattle.device_plain.{proofs.Merged.both_load, proofs.Merged.few_since, proofs.Merged.grown_access, specs.Accesses.granted_place, specs.Accesses.word_from, specs.Devices.Plain}
use Rattle.device_plain.specs.Keeping.{KeepsBoth}
use Rattle.device_plain.proofs.device.Device.load.Goals as goal

pub stamp_of-stamp-requires : goal.stamp_of-stamp-requires
stamp_of-stamp-requires c =
    let in_it = c.self.inside in
    let few = few_since in_it.control.config in_it.control.entries in_it.accesses.items in_it.words in_it.since c.self.invariant in
    let same = ap length c.in_ok-reserve.ensures.items in
    omega (arith, few, same, c.in_ok-reserve.ensures.few)

pub invariant_of-self-2 : goal.invariant_of-self-2
invariant_of-self-2 c =
    let in_it = c.self.inside in
    let place = c.granted-place.ensures.value in_it.control.entries (subst (λ (k : Configuration). IsPast k in_it.control.entries c.live.result.now.state) (sym c.live.ensures.config) c.live.ensures.past)
    ∙ ap (λ (x : Configuration). granted_place x (effects in_it.control.entries) c.args.host c.args.dpa) c.live.ensures.config in
    let said = ap load_said (c.word_at-found.ensures ∙ ap (word_from in_it.words) place) in
    let host = subst (λ (d : Plain). c.args.host < d.config.hosts) (sym c.self.view_is) c.requires in
    let inside = subst (λ (x : Configuration). IfOk (locate x c.args.host c.args.dpa) (λ (p : Place). p.granule < granule_total x)) c.live.ensures.config c.granted-place.ensures.placed in
    let items = c.push_reserved.ensures.items ∙ ap (λ (es : List Entry). es ++ c.load-access.result ∷ []) c.in_ok-reserve.ensures.items in
    subst (λ (es : List Entry). KeepsBoth in_it.control.config in_it.control.entries es in_it.words (in_it.since + 1)) (sym items)
    (both_load in_it.control.config in_it.control.entries in_it.accesses.items in_it.words in_it.since c.self.invariant
    c.args.pass c.args.line c.args.host c.args.dpa host inside c.load-access.result
    (c.load-access.ensures ∙ (λ i. access_entry c.args.pass c.args.line c.args.host (Act.Load c.args.dpa) (said i) (c.stamp_of-stamp.ensures i))))

pub returns-clause-entered : goal.returns-clause-entered
returns-clause-entered c =
    let in_it = c.self.inside in
    let entry = c.load-access.result in
    let is = c.load-access.ensures in
    let items = c.push_reserved.ensures.items ∙ ap (λ (es : List Entry). es ++ entry ∷ []) c.in_ok-reserve.ensures.items in
    record {
      entry = entry;
      pass = ap (λ (e : Entry). e.pass) is;
      line = ap (λ (e : Entry). e.line) is;
      actor = ap (λ (e : Entry). e.actor) is;
      act = ap (λ (e : Entry). e.act) is;
      reply = sym c.reply-reply.ensures;
      config = ap (λ (d : Plain). d.config) c.self.view_is;
      journal = ap (λ (es : List Entry). merged in_it.control.entries (es ∷ [])) items
          ∙ grown_access in_it.control.config in_it.control.entries in_it.accesses.items in_it.words in_it.since c.self.invariant entry
          (ap (λ (e : Entry). is_control e.act) is) (ap (λ (e : Entry). e.stamp) is ∙ c.stamp_of-stamp.ensures)
          ∙ ap (λ (es : List Entry). es ++ entry ∷ []) (ap (λ (d : Plain). d.journal) c.self.view_is);
    }
