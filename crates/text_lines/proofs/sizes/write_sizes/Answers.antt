use Rattle.std.proofs.Common.{◌≡◌, ◌==◌, ◌/◌, ◌%◌, ◌^◌, true, false, arith, ap, sym, ◌∙◌, ◌++◌}
use Rattle.std.proofs.lemmas.Bool.{eq-eqb, ne_eqb}
use Rattle.text_lines.proofs.SizeLaws.{no_size, no_sizes, none_first, none_of, size_more, size_there}
use Rattle.text_lines.proofs.sizes.write_sizes.Goals.{then-mask-size-eq1+in_ok-write_one, else-mask-size-eq1}
use Rattle.text_lines.specs.Sizes.{commas_text, size_behind, sizes_below, sizes_text}
use Rattle.text_lines.proofs.sizes.write_sizes.Goals as goal

pub loop-n-init : goal.loop-n-init
loop-n-init c = record { text = no_sizes c.args.mask c.args.out.now; first = none_first c.args.mask }

pub loop-n-preserved : goal.loop-n-preserved
loop-n-preserved c =
    let bit = c.size_of_bit-size.ensures.value in
    elim c.if-mask-size-eq1.branch [
      | then-mask-size-eq1+in_ok-write_one w ↦
          let set : (c.args.mask / 2 ^ c.loop-n.n % 2 == 1) ≡ true = eq-eqb _ 1 (ap (λ size. c.args.mask / size % 2) (sym bit) ∙ w.if-mask-size-eq1.true) in
          record {
            text = w.out-is ∙ w.in_ok-write_one.ensures ∙ ap (λ size. c.loop-n.out ++ size_behind c.loop-n.first size) bit ∙ size_more c.args.mask c.loop-n.n c.loop-n.out c.args.out.now c.loop-n.first c.loop-n.invariant.text c.loop-n.invariant.first set;
            first = w.first-is ∙ size_there c.args.mask c.loop-n.n set;
          }
      | else-mask-size-eq1 w ↦
          let unset : (c.args.mask / 2 ^ c.loop-n.n % 2 == 1) ≡ false = ne_eqb _ 1 (λ e. w.if-mask-size-eq1.false (ap (λ size. c.args.mask / size % 2) bit ∙ e)) in
          let same = no_size c.args.mask c.loop-n.n unset in
          record {
            text = w.out-is ∙ c.loop-n.invariant.text ∙ ap (λ sizes. c.args.out.now ++ commas_text sizes) same;
            first = w.first-is ∙ c.loop-n.invariant.first ∙ ap none_of same;
          }
    ]

pub returns : goal.returns
unfolding sizes_text
returns c = let e : c.loop-n.n ≡ 64 = omega arith in c.loop-n.invariant.text ∙ ap (λ n. c.args.out.now ++ commas_text (sizes_below c.args.mask n)) e
