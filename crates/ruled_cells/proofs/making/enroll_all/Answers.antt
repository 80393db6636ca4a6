use Rattle.std.proofs.Common.{◌≡◌, ℕ, suc, ◌+◌, length, refl, sym, ap, subst, ◌∙◌, arith}
use Rattle.std.proofs.lemmas.List.{length_push}
use mathlib.Core.Option.{some}
use lib.ListN.{get_elem?}
use Rattle.ruled_cells.{proofs.MakingSteps.maker_enrolled, proofs.MakingSteps.new_seat, proofs.MakingSteps.each_push, proofs.WholeSteps.admits, specs.Calls.IsNew, specs.Reads.about_of}
use Rattle.ruled_cells.specs.declared.{about.About.About, seat.Seat.Seat}
use Rattle.ruled_cells.proofs.making.enroll_all.Goals as goal

pub enroll-other-requires-clause-rule : goal.enroll-other-requires-clause-rule
enroll-other-requires-clause-rule g c = admits _ _ _ (ap (λ v. v.spent) c.loop-made.invariant.maker.client)

pub loop-made-preserved : goal.loop-made-preserved
loop-made-preserved g c =
    let i = c.loop-made.invariant in
    let kept = c.enroll-other.ensures.kept in
    let given = c.enroll-other.ensures.given in
    let items = c.push_reserved.ensures.items in
    let test = c.loop-made-test.true in
    let old = c.loop-made.others.items in
    let low = i.low in
    let about : About = about_of g.F.Chief.reads c.args.cells.now.table.shared.key.first in
    let made = maker_enrolled _ c.loop-made.made _ c.loop-made.token.me c.enroll-other.new.seat.me i.maker kept.2 in record {
      board = (kept.0 ∙ i.board.0, kept.1 ∙ i.board.1);
      low = (omega (arith, low), omega (arith, test));
      maker = made.0;
      taken = made.1 ∙ i.taken;
      count = ap (λ n. n + 1) (ap length items ∙ length_push old _) ∙ ap (λ n. n + 1) i.count;
      room = c.push_reserved.ensures.capacity ∙ i.room;
      each = subst (λ l. (k : ℕ) (s : Seat g.row.F.Denot g.row.S.Denot) → get_elem? l k ≡ some s → IsNew c.args.cells.now about (suc k) s) (sym items)
          (each_push (IsNew c.args.cells.now about) old _ i.each (new_seat c.args.cells.now about c.loop-made.made (suc (length old)) c.loop-made.token.me _ i.maker (let n = i.count in omega (arith, n)) (given.0 ∙ (i.board.0 ∙ c.requires.board)) refl given.1));
    }
