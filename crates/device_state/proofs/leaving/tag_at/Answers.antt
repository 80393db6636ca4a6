use Rattle.std.proofs.{Common.◌∙◌, Common.[], Common.◌∷◌, Common.Option, Common.ap, Common.sym, lemmas.Option.get_or_from_slice_get}
use Rattle.std.specs.Prelude.{find, option_to_list}
use Rattle.cci_codec.specs.dcd_base.specs.declared.capacity.Extent.{Extent}
use Rattle.extent_list.specs.ExtentLists.{has_range}
use Rattle.device_state.{specs.EnteredLists.each_tag, proofs.Found.found-at, proofs.Found.found-none}
use Rattle.device_state.proofs.leaving.tag_at.Goals as goal

pub returns-in-Some : goal.returns-in-Some
returns-in-Some c =
    let p = has_range c.args.range.now.start c.args.range.now.length in
    let xs = c.accepted-accepted.result.now.extents in
    let i = c.in-Some.index in
    let it : Extent = c.at.result in
    ap (λ (x : Extent). x.tag ∷ []) (sym (get_or_from_slice_get xs i it it c.at.ensures))
    ∙ sym (ap (λ (o : Option Extent). each_tag (option_to_list o)) (ap (find p) (sym c.accepted-accepted.ensures) ∙ found-at p xs i it (sym c.holder_of.ensures ∙ c.in-Some.is)))

pub returns-in-None : goal.returns-in-None
returns-in-None c =
    let p = has_range c.args.range.now.start c.args.range.now.length in
    let xs = c.accepted-accepted.result.now.extents in
    sym (ap (λ (o : Option Extent). each_tag (option_to_list o)) (ap (find p) (sym c.accepted-accepted.ensures) ∙ found-none p xs (sym c.holder_of.ensures ∙ c.in-None.is)))
