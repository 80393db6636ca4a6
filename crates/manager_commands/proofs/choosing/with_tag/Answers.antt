use Rattle.std.proofs.Common.{◌≡◌, ◌+◌, ℕ, List, [], ◌∷◌, ◌++◌, get_or, length, map, take, arith, ap, sym, ◌∙◌}
use Rattle.std.{specs.Prelude.if◌then◌else◌, specs.List.enumerate_from, proofs.lemmas.List.length-take-le, proofs.lemmas.List.map-append, proofs.lemmas.List.take_more}
use Rattle.event_records.specs.dcd_base.specs.declared.capacity.Extent.{Extent}
use Rattle.device_state.specs.host_lists.proofs.TagCounting.{no_extent}
use Rattle.manager_commands.proofs.ListPages.{numbered_more}
use Rattle.manager_commands.proofs.choosing.with_tag.Goals as goal

pub loop-i-preserved : goal.loop-i-preserved
loop-i-preserved c =
    let xs : List Extent = c.args.extents.now in
    let i : ℕ = c.loop-i.i in
    let x : Extent = get_or xs i no_extent in
    let f : ℕ × Extent → Extent = λ y. record y.1 { tag = c.args.tag.now; sequence = if c.args.shareable then y.0 else 0 } in
    let number : 1 + length (take i xs) ≡ i + 1 = omega (arith, length-take-le i xs (omega (arith, c.loop-i-test.true))) in
    record {
      put =
          c.push_reserved.ensures.items
          ∙ (λ j. c.loop-i.invariant.put j ++ c.tagged_one.ensures j ∷ [])
          ∙ sym (ap (λ ys. map f (enumerate_from 1 ys)) (take_more xs i no_extent c.loop-i-test.true)
          ∙ ap (map f) (numbered_more 1 (take i xs) x)
          ∙ map-append f (enumerate_from 1 (take i xs)) ((1 + length (take i xs), x) ∷ [])
          ∙ ap (λ n. map f (enumerate_from 1 (take i xs)) ++ f (n, x) ∷ []) number);
      room = omega (arith, c.loop-i.invariant.room, c.push_reserved.ensures.len, c.push_reserved.ensures.capacity, c.loop-i-test.true);
    }
