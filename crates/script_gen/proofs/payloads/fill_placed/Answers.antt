use Rattle.std.proofs.Common.{◌∷◌, ◌++◌, [], ◌∙◌, ap, append-nil, rules, sym}
use Rattle.dcd_base.{specs.Words.zero_tag, proofs.Filling.filled, specs.Extents.extent_bytes}
use Rattle.fm_payloads.{proofs.ManagerWritten.placed_spelled, specs.ManagerPayloads.placed_head}
use Rattle.script_gen.proofs.payloads.fill_placed.Goals as goal

pub returns : goal.returns
returns c =
    let a = c.args in
    filled 72 (search rules)
    (rw (c.put_extent.ensures.put, c.put_placed_head.ensures, c.no_tag.ensures)
    (ap (λ bytes. placed_head a.host a.choice 0 0 zero_tag 1 ++ bytes) (sym (append-nil (extent_bytes a.extent.now)))
    ∙ placed_spelled a.host a.choice 0 0 zero_tag (a.extent.now ∷ [])))
