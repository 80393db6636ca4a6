use Rattle.std.proofs.Common.{◌++◌, replicate, rules, [], ◌∷◌, append_assoc, ◌∙◌}
use Rattle.dcd_base.{specs.Words.flag_of, specs.Layouts.u16_bytes, proofs.Filling.around, proofs.Filling.filled}
use Rattle.fm_payloads.specs.ManagerPayloads.{tag_bytes}
use Rattle.fm_payloads.proofs.replies.fill_tag.Goals as goal

pub returns : goal.returns
unfolding tag_bytes
returns c =
    let v = c.args.view.now in
    filled 24 (search rules)
    (rw (c.put_zeros.ensures.put, c.put_flag.ensures.put, c.put_u16-2.ensures.put, c.put_u16.ensures.put, c.put_tag.ensures.put)
    (append_assoc ((v.tag.0 ++ u16_bytes v.holders) ++ u16_bytes v.offered) (flag_of v.referenced ∷ []) (replicate 3 0)
    ∙ around v.tag.0 (u16_bytes v.holders) (u16_bytes v.offered) (flag_of v.referenced ∷ replicate 3 0)))
