use Rattle.std.proofs.{Common.◌≡◌, Common.◌+◌, Common.length, Common.ap, Common.subst, Common.◌∙◌, Common.arith, lemmas.List.length_push}
use Rattle.ruled_cells.proofs.{CallSteps.laws_of, MakingSteps.maker_gave, MakingSteps.filling_first, MakingSteps.filling_next, MakingSteps.filling_turn, Opening.fills_first, Opening.fills_cell}
use Rattle.ruled_cells.specs.{Making.fills, Turning.IsGiven, declared.cell_value.CellValue.TheVariants.First, declared.cell_value.CellValue.TheVariants.Rest}
use Rattle.ruled_cells.proofs.making.fill.Goals as goal

pub give-requires-clause-rule : goal.give-requires-clause-rule
give-requires-clause-rule g c = fills_first _ _ _ _ _ _ _ c.args.first c.requires.maker.client c.requires.sound c.requires.first

pub loop-value-init : goal.loop-value-init
loop-value-init g c =
    let given = c.give.ensures.given in
    let f = filling_first c.args.rest.items (First c.args.first) c.args.token.now.me c.give.new.seat.me c.requires.filling given in record {
      board = c.give.ensures.board;
      maker = maker_gave _ 1 0 _ (First c.args.first) c.args.token.now.me c.give.new.seat.me c.requires.maker given;
      filling = f.0;
      free = f.1;
      short = omega arith;
    }

pub give-requires-in-Some-clause-rule : goal.give-requires-in-Some-clause-rule
give-requires-in-Some-clause-rule g c =
    let i = c.loop-value.invariant in
    let rest = c.pop.new.self.items in
    let ok = c.pop.new.self.ok.0 in
    let is = c.len.ensures in
    let len : c.len.result ≡ length rest = omega (arith, ok, is) in
    let laws = (laws_of g.F.Chief.reads g.S.Member.reads g.S.Member.enters g.S.Member.changes g.S.Member.stays g.S.Member.keeps g.S.Member.makes) in
    rw len (fills_cell _ _ _ laws _ _ _ _ (length rest) c.loop-value.token.me.0.taken c.loop-value.token.me.0.client c.in-Some.value i.maker.client
    (filling_turn rest c.loop-value.rest.items c.in-Some.value c.loop-value.token.me c.in-Some.ensures.items i.filling))

pub loop-value-preserved : goal.loop-value-preserved
loop-value-preserved g c =
    let i = c.loop-value.invariant in
    let rest = c.pop.new.self.items in
    let ok = c.pop.new.self.ok.0 in
    let is = c.len.ensures in
    let len : c.len.result ≡ length rest = omega (arith, ok, is) in
    let items = c.in-Some.ensures.items in
    let given = c.give-in-Some.ensures.given in
    let value = Rest c.in-Some.value in
    let given' = subst (λ n. IsGiven fills (n + 1) c.loop-value.token.me value c.give-in-Some.new.seat.me) len given in
    let f = filling_next rest c.loop-value.rest.items c.in-Some.value value c.loop-value.token.me c.give-in-Some.new.seat.me items i.filling i.free given' in
    let b = c.give-in-Some.ensures.board in
    let long : length c.loop-value.rest.items ≡ length rest + 1 = ap length items ∙ length_push rest c.in-Some.value in
    let short = i.short in record {
      board = (b.0 ∙ i.board.0, b.1 ∙ i.board.1);
      maker = maker_gave _ 1 _ _ value c.loop-value.token.me c.give-in-Some.new.seat.me i.maker given;
      filling = f.0;
      free = f.1;
      short = omega (arith, long, short);
    }
