-- Sources and sinks in memory, which fail at calls that are told beforehand.
use Rattle.std.specs.Prelude.{◌≡◌, if◌then◌else◌, ℕ, ◌+◌, ◌-◌, ◌^◌, min, Bool, ◌==◌, List, ◌++◌, length, take, drop, IsTrue, IsFalse}
use Rattle.std.specs.{List.list_any, declared.result.Result.Result, declared.result.Result.TheVariants.Ok, declared.result.Result.TheVariants.Err}
use Rattle.dcd_base.specs.declared.failures.Failed.{Failed}

-- one more, up to the last value of 64 bits
abbrev pub one_more : ℕ → ℕ
one_more n = min (n + 1) (2 ^ 64 - 1)

-- whether the call of that number, from 1, is one that fails
abbrev pub fails_at : List ℕ → ℕ → Bool
fails_at fails call = list_any (λ n. n == call) fails

-- A source in memory: the bytes that are left, how many it gives a call at the most, the numbers of the calls
-- that fail, how many calls there were and how many failed.
pub record Given : Type 0 where
  pub left : List ℕ
  pub most : ℕ
  pub fails : List ℕ
  pub calls : ℕ
  pub faults : ℕ

-- how many bytes a call gives into so many places
abbrev pub share_of : Given → ℕ → ℕ
share_of source places = min source.most (min places (length source.left))

-- One call: it fails exactly at its numbers, or else gives as many bytes as it may.
abbrev pub IsRead : Given → Given → List ℕ → Result ℕ Failed → Type 0
IsRead old new buf (Ok n) =
    IsFalse (fails_at old.fails (one_more old.calls))
    × (n ≡ share_of old (length buf))
    × (take n buf ≡ take n old.left)
    × (new ≡ record old { left = drop n old.left; calls = one_more old.calls })
IsRead old new buf (Err e) =
    IsTrue (fails_at old.fails (one_more old.calls))
    × (new ≡ record old { calls = one_more old.calls; faults = one_more old.faults })

-- A sink in memory: what it took, how many bytes a call at the most, the numbers of the calls that fail,
-- how many calls there were, how many failed, and at how many of those memory to grow was refused.
pub record Taken : Type 0 where
  pub bytes : List ℕ
  pub most : ℕ
  pub fails : List ℕ
  pub calls : ℕ
  pub faults : ℕ
  pub refused : ℕ

-- One call: it takes as many bytes as it may, and not at the numbers where it fails. A failure at another number is
-- memory refused, which is counted apart.
abbrev pub IsWrite : Taken → Taken → List ℕ → Result ℕ Failed → Type 0
IsWrite old new piece (Ok n) =
    IsFalse (fails_at old.fails (one_more old.calls))
    × (n ≡ min old.most (length piece))
    × (new ≡ record old { bytes = old.bytes ++ take n piece; calls = one_more old.calls })
IsWrite old new piece (Err e) =
    new ≡ record old {
      calls = one_more old.calls;
      faults = one_more old.faults;
      refused = if fails_at old.fails (one_more old.calls) then old.refused else one_more old.refused;
    }
