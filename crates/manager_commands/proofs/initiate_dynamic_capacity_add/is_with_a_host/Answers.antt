use Rattle.std.proofs.Common.{◌≡◌, ◌<◌, ◌+◌, ◌||◌, ℕ, Bool, false, [], ◌∷◌, get_or, arith, ap, sym, ◌∙◌}
use Rattle.std.proofs.lemmas.List.{Folds.list_any-append, Folds.list_any_at, FromFn.get_or-range_with_len, FromFn.length-range_with_len}
use Rattle.std.specs.List.{list_any, range_with_len}
use Rattle.manager_commands.{proofs.ListPages.from_zero, specs.InitiateDynamicCapacityAdd.lists_have}
use Rattle.device_state.specs.StateAfter.{part_of}
use Rattle.manager_commands.proofs.initiate_dynamic_capacity_add.is_with_a_host.Goals as goal

pub returns-then-has_tag : goal.returns-then-has_tag
returns-then-has_tag c =
    let p : ℕ → Bool = λ h. lists_have c.args.tag.now (part_of c.args.state.now h).lists in
    let n = c.args.state.now.present.hosts in
    let i = c.loop-host.host in
    let below : i < n = omega (arith, c.loop-host-test.true, c.hosts-host-end.ensures.value) in
    let at : get_or (range_with_len 0 n) i 0 ≡ i = get_or-range_with_len 0 n i 0 below ∙ (let e : 0 + i ≡ i = omega arith in e) in
    sym (list_any_at p (range_with_len 0 n) i 0 (omega (arith, below, length-range_with_len 0 n)) (ap p at ∙ sym c.has_tag.ensures ∙ c.if-has_tag.true))

pub loop-host-preserved : goal.loop-host-preserved
loop-host-preserved c =
    let p : ℕ → Bool = λ h. lists_have c.args.tag.now (part_of c.args.state.now h).lists in
    let i = c.loop-host.host in
    let fails : p i ≡ false = sym c.has_tag.ensures ∙ c.if-has_tag.false in
    ap (list_any p) (from_zero i) ∙ list_any-append p (range_with_len 0 i) (i ∷ []) ∙ (λ j. c.loop-host.invariant j || (fails j || false))
