use Rattle.script_text.proofs.PrintLaws.{adds_then, starts_then}
use Rattle.script_text.proofs.printing.write_region.Goals as goal

pub returns : goal.returns
returns c =
    starts_then c.in_ok-begin_with.ensures
    (adds_then c.in_ok-write_count.ensures
    (adds_then c.in_ok-write_named_number.ensures
    (adds_then c.in_ok-write_named_number-2.ensures
    (adds_then c.in_ok-write_key.ensures
    (adds_then c.in_ok-write_block_sizes.ensures
    (adds_then c.in_ok-write_named_number-3.ensures
    (adds_then c.in_ok-write_may_count.ensures
    (adds_then c.in_ok-write_flag.ensures c.in_ok-write_flag-2.ensures))))))))
    c.in_ok-end_line.ensures
