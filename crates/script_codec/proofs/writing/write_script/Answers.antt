use Rattle.std.{proofs.Common.[], proofs.Common.◌∷◌, proofs.Common.subst, proofs.Common.sym, specs.Prelude.IsTrue, specs.Int.w8, specs.List.All, proofs.lemmas.Result.on_ok_weaker}
use Rattle.cci_codec.specs.dcd_base.specs.Layouts.{Number}
use Rattle.script_codec.{specs.Writing.AppendsLines, specs.Writing.has_spelling, proofs.Adding.appends_then, proofs.Writable.writable_lines}
use Rattle.script_codec.proofs.writing.write_script.Goals as goal

pub write_lines-requires : goal.write_lines-requires
write_lines-requires c = subst (λ lines. All (λ line. IsTrue (has_spelling line)) lines) (sym c.as_slice.ensures) (writable_lines c.args.script.now c.requires)

pub returns : goal.returns
returns c =
    on_ok_weaker c.write_u8.result
    (λ (last : AppendsLines c.write_lines.new.out c.write_u8.new.out (Number w8 0 ∷ [])).
    appends_then (appends_then c.in_ok-write_head.ensures (rw c.as_slice.ensures at c.in_ok-write_lines.ensures)) last)
    c.write_u8.ensures
