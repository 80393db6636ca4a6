use Rattle.std.proofs.Common.{◌≡◌, ◌≤◌, ℕ, Bool, eqb, not, length, length-drop, drop, refl, arith}
use Rattle.std.{specs.Int.w8, proofs.lemmas.Simd.bitmask_splat, proofs.lemmas.Simd.length-chunk}
use lib.Lanes.{chunk}
use Rattle.granule_map.proofs.NextOfLanes.{next_none, next_some}
use Rattle.granule_map.proofs.marks.other_of_16.Goals as goal

abbrev differs : ℕ → ℕ → Bool
differs a b = not (eqb a b)

pub returns-then-found-eq0 : goal.returns-then-found-eq0
returns-then-found-eq0 c =
    let part = drop c.args.from c.args.marks.now in
    let room : 16 ≤ length part = omega (arith, length-drop c.args.from c.args.marks.now, c.requires) in
    let long : length (chunk 0 16 part) ≡ 16 = length-chunk 0 16 part (omega (arith, room)) in
    next_none (λ b. differs b c.args.mark) c.args.marks.now part c.args.from 16 _ refl room (omega arith) (bitmask_splat w8 differs (chunk 0 16 part) 16 c.args.mark long (omega arith)) c.if-found-eq0.true

pub returns-else-found-eq0 : goal.returns-else-found-eq0
returns-else-found-eq0 c =
    let part = drop c.args.from c.args.marks.now in
    let room : 16 ≤ length part = omega (arith, length-drop c.args.from c.args.marks.now, c.requires) in
    let long : length (chunk 0 16 part) ≡ 16 = length-chunk 0 16 part (omega (arith, room)) in
    next_some (λ b. differs b c.args.mark) c.args.marks.now part c.args.from 16 _ refl room (omega arith) (bitmask_splat w8 differs (chunk 0 16 part) 16 c.args.mark long (omega arith)) (omega (arith, c.if-found-eq0.false)) (omega arith)
