use Rattle.std.proofs.Common.{◌≡◌, ◌<◌, ◌∙◌, List, Some, get_or, length, ap, sym, subst, arith}
use Rattle.std.specs.Prelude.{slice_get}
use Rattle.dcd_base.specs.{Words.zero_tag, declared.capacity.Tag.Tag}
use Rattle.granule_map.{specs.StateLists.States, specs.StateLists.told, specs.declared.states.GranuleState.GranuleState, proofs.Kept.item_read, proofs.Kept.state_got, proofs.Kept.states_long}
use Rattle.granule_map.proofs.map.GranuleMap.at.Goals as goal

pub returns : goal.returns
returns c =
    let marks = c.self.inside.marks.items in
    let hosts = c.self.inside.hosts.items in
    let tags = c.self.inside.tags.items in
    let seen = ap (λ (s : States). s.states) c.self.view_is in
    let place : c.granule.inside.0 ≡ c.args.granule = c.granule.view_is in
    let known : c.args.granule < length c.self.inside.marks.items =
    omega (arith, c.requires, ap (λ (ss : List GranuleState). length ss) seen, states_long c.self.inside.marks.items c.self.inside.hosts.items c.self.inside.tags.items) in
    let mark : c.index.result.now ≡ get_or c.self.inside.marks.items c.args.granule 0 =
    item_read marks c.args.granule c.index.result.now 0 known (subst (λ n. c.index.result.now ≡ get_or c.self.inside.marks.items n c.index.result.now) place c.index.ensures) in
    let host : c.index-2.result.now ≡ get_or c.self.inside.hosts.items c.args.granule 0 =
    item_read hosts c.args.granule c.index-2.result.now 0 (omega (arith, known, c.self.invariant.kept.hosts_long)) (subst (λ n. c.index-2.result.now ≡ get_or c.self.inside.hosts.items n c.index-2.result.now) place c.index-2.ensures) in
    let tag : c.index-3.result.now ≡ get_or c.self.inside.tags.items c.args.granule zero_tag =
    item_read tags c.args.granule c.index-3.result.now zero_tag (omega (arith, known, c.self.invariant.kept.tags_long)) (subst (λ n. c.index-3.result.now ≡ get_or c.self.inside.tags.items n c.index-3.result.now) place c.index-3.ensures) in
    let told_is = c.told.ensures
    ∙ ap (λ m. told m c.index-2.result.now c.index-3.result.now) mark
    ∙ ap (λ h. told (get_or c.self.inside.marks.items c.args.granule 0) h c.index-3.result.now) host
    ∙ ap (λ (t : Tag). told (get_or c.self.inside.marks.items c.args.granule 0) (get_or c.self.inside.hosts.items c.args.granule 0) t) tag in
    ap (λ (ss : List GranuleState). slice_get ss c.args.granule) (sym seen) ∙ state_got marks hosts tags c.args.granule known ∙ ap (λ s. Some s) (sym told_is)
