-- What is appended piece by piece is the whole.
use Rattle.std.proofs.Common.{◌≡◌, ℕ, List, ◌++◌, ap, ◌∙◌, append_assoc}

pub puts_then : (old mid new a b : List ℕ) → mid ≡ old ++ a → new ≡ mid ++ b → new ≡ old ++ (a ++ b)
puts_then old mid new a b first then = then ∙ ap (λ out. out ++ b) first ∙ append_assoc old a b

pub puts_three : (old one two new a b c : List ℕ) → one ≡ old ++ a → two ≡ one ++ b → new ≡ two ++ c → new ≡ old ++ (a ++ b ++ c)
puts_three old one two new a b c first then last = puts_then old two new (a ++ b) c (puts_then old one two a b first then) last
