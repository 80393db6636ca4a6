use Rattle.std.proofs.Common.{◌<◌, [], ◌∷◌, arith, length, subst, sym, ◌∙◌}
use Rattle.script_text.{specs.Layouts.bases_of_host, specs.LinePrinting.AddsParts, proofs.PrintedScripts.base_is, proofs.PrintedScripts.base_within, proofs.PrintedScripts.bases_more}
use Rattle.text_lines.specs.{Layouts.most_64, Parts.Form, Parts.Part}
use Rattle.script_text.proofs.printing.write_bases.Goals as goal

pub loop-region-preserved : goal.loop-region-preserved
loop-region-preserved c =
    let config = c.args.config.now in
    let n = length config.regions in
    let under : c.loop-region.region < n = omega (arith, c.loop-region-test.true, c.regions-region-end.ensures.value) in
    bases_more c.args.out.now c.loop-region.out c.write_number.new.out (bases_of_host config c.args.host) c.loop-region.region
    (base_within c.args.host config.hosts n config.bases c.loop-region.region c.requires.host under c.requires.based) c.loop-region.invariant
    (subst (λ base. AddsParts c.loop-region.out c.write_number.new.out (Part.Number Form.Size most_64 base ∷ []))
    (c.base.ensures.value ∙ sym (base_is c.args.host n config.bases c.loop-region.region under)) c.in_ok-write_number.ensures)
