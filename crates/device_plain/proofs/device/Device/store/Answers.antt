use Rattle.std.proofs.Common.{◌<◌, ◌+◌, ◌∷◌, ◌++◌, [], List, length, sym, ap, subst, ◌∙◌, arith}
use Rattle.std.specs.declared.result.Result.{Result}
use Rattle.dcd_base.specs.declared.{failures.AccessFault.AccessFault, media.Place.Place}
use Rattle.journal_core.specs.{declared.acts.Act.Act, declared.entries.Entry.Entry, Accesses.access_entry, Entries.effects, Entries.is_control, Merging.merged}
use Rattle.region_config.specs.Configurations.{Configuration}
use Rattle.control_core.specs.Pasts.{IsPast}
use Rattle.device_plain.{proofs.Merged.both_store, proofs.Merged.few_since, proofs.Merged.grown_access, specs.Accesses.StoresAt, specs.Accesses.granted_place, specs.Accesses.store_said}
use Rattle.device_plain.specs.{Devices.Plain, Keeping.KeepsBoth}
use Rattle.device_plain.proofs.device.Device.store.Goals as goal

pub stamp_of-stamp-requires : goal.stamp_of-stamp-requires
stamp_of-stamp-requires c =
    let in_it = c.self.inside in
    let few = few_since in_it.control.config in_it.control.entries in_it.accesses.items in_it.words in_it.since c.self.invariant in
    let same = ap length c.in_ok-reserve.ensures.items in
    omega (arith, few, same, c.in_ok-reserve.ensures.few)

pub invariant_of-self-2 : goal.invariant_of-self-2
invariant_of-self-2 c =
    let in_it = c.self.inside in
    let place = c.granted-place.ensures.value in_it.control.entries (subst (λ (k : Configuration). IsPast k in_it.control.entries c.live.result.now.state) (sym c.live.ensures.config) c.live.ensures.past)
    ∙ ap (λ (x : Configuration). granted_place x (effects in_it.control.entries) c.args.host c.args.dpa) c.live.ensures.config in
    let said = c.refused_by.ensures ∙ ap store_said place in
    let host = subst (λ (d : Plain). c.args.host < d.config.hosts) (sym c.self.view_is) c.requires in
    let stores = subst (λ (p : Result Place AccessFault). StoresAt in_it.words c.store_at.new.words p c.args.value) place c.in_ok-store_at.ensures.words in
    let items = c.push_reserved.ensures.items ∙ ap (λ (es : List Entry). es ++ c.store-access.result ∷ []) c.in_ok-reserve.ensures.items in
    subst (λ (es : List Entry). KeepsBoth in_it.control.config in_it.control.entries es c.store_at.new.words (in_it.since + 1)) (sym items)
    (both_store in_it.control.config in_it.control.entries in_it.accesses.items in_it.words in_it.since c.self.invariant
    c.args.pass c.args.line c.args.host c.args.dpa host c.args.value c.store_at.new.words stores c.store_at.ensures.granules c.store-access.result
    (c.store-access.ensures ∙ (λ i. access_entry c.args.pass c.args.line c.args.host (Act.Store c.args.dpa c.args.value) (said i) (c.stamp_of-stamp.ensures i))))

pub returns-clause-entered : goal.returns-clause-entered
returns-clause-entered c =
    let in_it = c.self.inside in
    let entry = c.store-access.result in
    let is = c.store-access.ensures in
    let items = c.push_reserved.ensures.items ∙ ap (λ (es : List Entry). es ++ entry ∷ []) c.in_ok-reserve.ensures.items in
    record {
      entry = entry;
      pass = ap (λ (e : Entry). e.pass) is;
      line = ap (λ (e : Entry). e.line) is;
      actor = ap (λ (e : Entry). e.actor) is;
      act = ap (λ (e : Entry). e.act) is;
      reply = sym c.reply-reply.ensures;
      config = ap (λ (d : Plain). d.config) c.self.view_is;
      journal = ap (λ (es : List Entry). merged in_it.control.entries (es ∷ [])) items
          ∙ grown_access in_it.control.config in_it.control.entries in_it.accesses.items in_it.words in_it.since c.self.invariant entry
          (ap (λ (e : Entry). is_control e.act) is) (ap (λ (e : Entry). e.stamp) is ∙ c.stamp_of-stamp.ensures)
          ∙ ap (λ (es : List Entry). es ++ entry ∷ []) (ap (λ (d : Plain). d.journal) c.self.view_is);
    }
