use Rattle.std.proofs.Common.{◌≡◌, ◌++◌}
use Rattle.text_lines.{specs.Sizes.commas_text, specs.Sizes.sizes_below, proofs.SizeLaws.none_of}
use Rattle.text_lines.proofs.sizes.write_sizes.Given as goal

abbrev pub invariant-loop-n : goal.invariant-loop-n
invariant-loop-n l = record {
  text : l.out ≡ l.fn.out ++ commas_text (sizes_below l.mask l.n);
  first : l.first ≡ none_of (sizes_below l.mask l.n);
}
