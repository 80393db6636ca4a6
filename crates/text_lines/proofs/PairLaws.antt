-- Bytes as pairs of digits.
use Rattle.std.proofs.Common.{◌≡◌, ℕ, ◌<◌, ◌≤◌, ◌==◌, false, List, [], ◌∷◌, ◌++◌, length, take, drop, get_or, Option, Some, None, refl, sym, ap, ◌∙◌, arith, append-nil, append_assoc}
use Rattle.text_lines.specs.{WordChains.◌>>?◌ as ◌>>=◌, Pairs.AppendsPairs, Pairs.pair_said, Pairs.pairs_said}

-- bytes behind those that are there
abbrev pub pairs_behind : List ℕ → Option (List ℕ) → Option (List ℕ)
pairs_behind front None = None
pairs_behind front (Some bytes) = Some (front ++ bytes)

-- what was said so far is nothing, so that nothing is said
pub said_nothing : (old out new : List ℕ) (said : Option (List ℕ)) → pairs_behind old said ≡ None → AppendsPairs old new said false
said_nothing old out new None is = tt
said_nothing old out new (Some bytes) is = cc

-- fewer than two characters are left
pub said_all : (old out rest : List ℕ) (said : Option (List ℕ)) → length rest ≤ 1 → pairs_behind out (pairs_said rest) ≡ pairs_behind old said → AppendsPairs old out said (length rest == 0)
unfolding pairs_said
said_all old out [] None few is = cc
said_all old out [] (Some bytes) few is = let e : out ++ [] ≡ old ++ bytes = (cc) in sym (append-nil out) ∙ e
said_all old out (c ∷ []) None few is = tt
said_all old out (c ∷ []) (Some bytes) few is = cc
said_all old out (c ∷ d ∷ rest) said few is = absurd (omega (arith, few))

push_behind : (out : List ℕ) (b : ℕ) (said : Option (List ℕ)) → pairs_behind (out ++ b ∷ []) said ≡ pairs_behind out (said >>= (λ bytes. Some (b ∷ bytes)))
push_behind out b None = refl
push_behind out b (Some bytes) = ap Some (append_assoc out (b ∷ []) bytes)

-- one pair more
pub pair_goes_on : (out two behind rest : List ℕ) (b : ℕ) (whole : Option (List ℕ)) → 1 < length rest → two ≡ take 2 rest → behind ≡ drop 2 rest → pair_said (get_or two 0 0) (get_or two 1 0) ≡ Some b → pairs_behind out (pairs_said rest) ≡ whole → pairs_behind (out ++ b ∷ []) (pairs_said behind) ≡ whole
unfolding pairs_said
pair_goes_on out two behind [] b whole more front back pair is = absurd (omega (arith, more))
pair_goes_on out two behind (c ∷ []) b whole more front back pair is = absurd (omega (arith, more))
pair_goes_on out two behind (c ∷ d ∷ rest) b whole more front back pair is =
    let said : pair_said c d ≡ Some b = ap (λ (xs : List ℕ). pair_said (get_or xs 0 0) (get_or xs 1 0)) (sym front) ∙ pair in
    ap (λ xs. pairs_behind (out ++ b ∷ []) (pairs_said xs)) back ∙ push_behind out b (pairs_said rest)
    ∙ sym (ap (λ (p : Option ℕ). pairs_behind out (p >>= (λ byte. pairs_said rest >>= (λ bytes. Some (byte ∷ bytes))))) said) ∙ is

-- a pair that is none
pub pair_fails : (out two rest : List ℕ) (whole : Option (List ℕ)) → 1 < length rest → two ≡ take 2 rest → pair_said (get_or two 0 0) (get_or two 1 0) ≡ None → pairs_behind out (pairs_said rest) ≡ whole → whole ≡ None
unfolding pairs_said
pair_fails out two [] whole more front pair is = absurd (omega (arith, more))
pair_fails out two (c ∷ []) whole more front pair is = absurd (omega (arith, more))
pair_fails out two (c ∷ d ∷ rest) whole more front pair is =
    let said : pair_said c d ≡ None = ap (λ (xs : List ℕ). pair_said (get_or xs 0 0) (get_or xs 1 0)) (sym front) ∙ pair in
    sym is ∙ ap (λ (p : Option ℕ). pairs_behind out (p >>= (λ byte. pairs_said rest >>= (λ bytes. Some (byte ∷ bytes))))) said
