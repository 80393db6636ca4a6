use Rattle.std.proofs.Common.{◌≡◌, ◌≤◌, ℕ, Bool, eqb, not, get_or, length, length-drop, drop, refl, arith}
use Rattle.std.{specs.Int.w16, proofs.lemmas.Bool.eqb-true, proofs.lemmas.Bool.not-false, proofs.lemmas.Simd.bitmask_splat, proofs.lemmas.Simd.length-chunk}
use lib.Lanes.{chunk}
use Rattle.granule_map.proofs.NextOfLanes.{next_none}
use Rattle.device_state.proofs.alike.are_held_so.Goals as goal

abbrev differs : ℕ → ℕ → Bool
differs a b = not (eqb a b)

pub returns : goal.returns
returns c = λ none g low high.
    let bits = c.args.bits.now in
    let part = drop c.args.first bits in
    let room : 32 ≤ length part = omega (arith, length-drop c.args.first bits, c.requires) in
    let long : length (chunk 0 32 part) ≡ 32 = length-chunk 0 32 part (omega (arith, room)) in
    let next = next_none (λ b. differs b c.args.held) bits part c.args.first 32 _ refl room (omega arith) (bitmask_splat w16 differs (chunk 0 32 part) 32 c.args.held long (omega arith)) (eqb-true _ 0 none) in
    eqb-true (get_or bits g 0) c.args.held (not-false (eqb (get_or bits g 0) c.args.held) (next.none_before g low high))
