use Rattle.std.{proofs.Common.[], proofs.Common.◌∷◌, specs.Int.w64, proofs.lemmas.Result.on_ok_weaker}
use Rattle.cci_codec.specs.dcd_base.specs.Layouts.{Number}
use Rattle.script_codec.{specs.Writing.AppendsLines, proofs.Adding.appends_then}
use Rattle.script_codec.proofs.writing.write_store.Goals as goal

pub returns : goal.returns
returns c =
    on_ok_weaker c.write_u64-2.result
    (λ (last : AppendsLines c.write_u64.new.out c.write_u64-2.new.out (Number w64 c.args.value ∷ [])).
    appends_then c.in_ok-write_u8.ensures
    (appends_then (rw c.byte_of.ensures at c.in_ok-write_u8-2.ensures)
    (appends_then c.in_ok-write_u64.ensures last)))
    c.write_u64-2.ensures
