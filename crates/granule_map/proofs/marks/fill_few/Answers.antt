use Rattle.std.proofs.Common.{◌≡◌, ◌+◌, ◌-◌, ◌∙◌, List, ℕ, ap, arith, set}
use Rattle.granule_map.proofs.PartsReplaced.{replaced, replaced_ends, replaced_more, replaced_none}
use Rattle.granule_map.proofs.marks.fill_few.Goals as goal

pub returns-then-count-ge8 : goal.returns-then-count-ge8
returns-then-count-ge8 c =
    c.fill_8-then-count-ge8.ensures ∙ ap (λ (bs : List ℕ). replaced (c.args.from + (c.args.count - 8)) 8 c.args.byte bs) c.fill_8.ensures
    ∙ replaced_ends c.args.bytes.now c.args.from 8 c.args.count c.args.byte (omega (arith, c.if-count-ge8.true)) (omega (arith, c.requires.few)) c.requires.within

pub returns-then-count-ge4 : goal.returns-then-count-ge4
returns-then-count-ge4 c =
    c.fill_4-then-count-ge4.ensures ∙ ap (λ (bs : List ℕ). replaced (c.args.from + (c.args.count - 4)) 4 c.args.byte bs) c.fill_4.ensures
    ∙ replaced_ends c.args.bytes.now c.args.from 4 c.args.count c.args.byte (omega (arith, c.if-count-ge4.true)) (omega (arith, c.if-count-ge8.false)) c.requires.within

pub returns-then-count-ge2 : goal.returns-then-count-ge2
returns-then-count-ge2 c =
    c.fill_2-then-count-ge2.ensures ∙ ap (λ (bs : List ℕ). replaced (c.args.from + (c.args.count - 2)) 2 c.args.byte bs) c.fill_2.ensures
    ∙ replaced_ends c.args.bytes.now c.args.from 2 c.args.count c.args.byte (omega (arith, c.if-count-ge2.true)) (omega (arith, c.if-count-ge4.false)) c.requires.within

pub returns-then-count-eq1 : goal.returns-then-count-eq1
returns-then-count-eq1 c =
    let bytes = c.args.bytes.now in
    let from = c.args.from in
    let one : 0 + 1 ≡ c.args.count = omega (arith, c.if-count-eq1.true) in
    let here : from ≡ from + 0 = omega arith in
    ap (λ (bs : List ℕ). set bs from c.args.byte) (replaced_none bytes from c.args.byte)
    ∙ ap (λ n. set (replaced from 0 c.args.byte bytes) n c.args.byte) here
    ∙ replaced_more bytes from 0 c.args.byte (omega (arith, one, c.requires.within))
    ∙ ap (λ k. replaced from k c.args.byte bytes) one
