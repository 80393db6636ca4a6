use Rattle.std.proofs.Common.{rules}
use Rattle.dcd_c.proofs.Filling.{with_end}
use Rattle.dcd_c.proofs.names.put_words.Goals as goal

pub returns : goal.returns
returns c = (
  search rules,
  with_end c.args.room.now c.put_bytes.new.out c.put_byte.new.out c.args.words.now 0 c.put_bytes.ensures.put c.put_bytes.ensures.rest c.put_byte.ensures.put c.put_byte.ensures.rest,
)
