use Rattle.std.{proofs.Common.◌≡◌, proofs.Common.ℕ, proofs.Common.take, specs.Prelude.if◌then◌else◌, specs.List.list_any}
use Rattle.granule_mem.specs.Contents.{word_among}
use Rattle.isolation_laws.specs.Solo.{has_byte}
use Rattle.device_plain.proofs.words_alone.clear_extents.Given as goal

abbrev pub invariant-loop-i : goal.invariant-loop-i
invariant-loop-i l = (d : ℕ) → word_among l.words.entries d ≡ (if list_any (has_byte d) (take l.i l.extents) then 0 else word_among l.fn.words.entries d)
