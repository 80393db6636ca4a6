use Rattle.std.proofs.{lemmas.Result.on_ok_weaker, Common.[], Common.◌∷◌}
use Rattle.script_codec.{specs.Writing.AppendsLines, proofs.Adding.appends_then}
use Rattle.cci_codec.specs.dcd_base.specs.Layouts.{Reserved}
use Rattle.script_codec.proofs.writing.write_region.Goals as goal

pub returns : goal.returns
returns c =
    on_ok_weaker c.write_3_reserved.result
    (λ (last : AppendsLines c.write_flags.new.out c.write_3_reserved.new.out (Reserved 3 ∷ [])).
    appends_then c.in_ok-write_u64.ensures
    (appends_then c.in_ok-write_u64-2.ensures
    (appends_then c.in_ok-write_u64-3.ensures
    (appends_then c.in_ok-write_u64-4.ensures
    (appends_then c.in_ok-write_u32.ensures
    (appends_then c.in_ok-write_flags.ensures last))))))
    c.write_3_reserved.ensures
