-- Bytes that are filled from their start to their end.
use Rattle.std.proofs.Common.{◌≡◌, ℕ, List, ◌++◌, length, take, sym, ◌∙◌, arith, append_assoc, take_all}

-- what was put up to the end is all
pub filled : {out bytes : List ℕ} (n : ℕ) → length out ≡ n → take n out ≡ bytes → out ≡ bytes
filled {out} {bytes} n long e = sym (take_all n out (omega (arith, long))) ∙ e

-- what stands before a tag, the tag, and what stands behind it
pub around : (before tag next after : List ℕ) → ((before ++ tag) ++ next) ++ after ≡ before ++ (tag ++ (next ++ after))
around before tag next after = append_assoc (before ++ tag) next after ∙ append_assoc before tag (next ++ after)
