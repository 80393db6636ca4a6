use Rattle.std.proofs.Common.{◌≡◌, [], None, ap, arith, false, rules, sym, ◌∙◌}
use Rattle.std.proofs.lemmas.List.{take_all}
use Rattle.extent_list.specs.{Listing.too_many_listed, dcd_codes.proofs.RuleSteps.each_in_found, dcd_codes.proofs.RuleSteps.each_in_more, dcd_codes.specs.Rules.each_in}
use Rattle.extent_list.specs.dcd_codes.specs.dcd_base.specs.{Words.is_empty, declared.capacity.Extent.Extent}
use Rattle.granule_map.specs.StateLists.{is_free_at}
use Rattle.selection.{specs.Selections.free_extent_rule, proofs.Prescribed.extent_broken, proofs.Prescribed.kept_apart, proofs.Prescribed.kept_free, proofs.Prescribed.kept_runs}
use Rattle.selection.proofs.listed.prescriptive_rule.Goals as goal

-- what an index past the end would give
abbrev no_extent : Extent
no_extent = record { start = 0; length = 0; tag = record { 0 = [] }; sequence = 0 }

-- none of the extents breaks a rule
unbroken : (c : goal.After-loop-i) → each_in c.args.list.now (free_extent_rule c.args.config.now c.args.host (is_free_at c.args.map.now.states) c.args.region) ≡ None
unbroken c =
    let check = free_extent_rule c.args.config.now c.args.host (is_free_at c.args.map.now.states) c.args.region in
    ap (λ xs. each_in xs check) (sym (take_all c.loop-i.i c.as_slice-listed.result.now (omega (arith, c.loop-i-test.false)) ∙ c.as_slice-listed.ensures)) ∙ c.loop-i.invariant

pub returns-in-Some-extent_rule-clause-rule : goal.returns-in-Some-extent_rule-clause-rule
returns-in-Some-extent_rule-clause-rule c =
    let list = c.args.list.now in
    let free = is_free_at c.args.map.now.states in
    let check = free_extent_rule c.args.config.now c.args.host free c.args.region in
    let found = each_in_found check c.as_slice-listed.result.now c.loop-i.i no_extent c.in-Some-extent_rule.rule c.loop-i-test.true c.loop-i.invariant (sym c.extent_rule.ensures ∙ c.in-Some-extent_rule.is) in
    let some : is_empty list ≡ false = search rules in
    let few : too_many_listed list ≡ None = search rules in
    sym (extent_broken c.args.config.now c.args.host free c.args.region list some few c.in-Some-extent_rule.rule (ap (λ xs. each_in xs check) (sym c.as_slice-listed.ensures) ∙ found))

pub loop-i-preserved : goal.loop-i-preserved
loop-i-preserved c =
    let check = free_extent_rule c.args.config.now c.args.host (is_free_at c.args.map.now.states) c.args.region in
    each_in_more check c.as_slice-listed.result.now c.loop-i.i no_extent c.loop-i-test.true c.loop-i.invariant (search rules)

pub returns-clause-runs : goal.returns-clause-runs
returns-clause-runs c = kept_runs c.args.config.now c.args.host c.regions-regions.ensures.sound c.requires.host c.args.region (is_free_at c.args.map.now.states) [] c.args.list.now (unbroken c)

pub returns-clause-apart : goal.returns-clause-apart
returns-clause-apart c = kept_apart c.args.config.now c.args.host c.regions-regions.ensures.sound c.requires.host c.args.region (is_free_at c.args.map.now.states) [] c.args.list.now (unbroken c)

pub returns-clause-are_free : goal.returns-clause-are_free
returns-clause-are_free c = kept_free c.args.config.now c.args.host c.regions-regions.ensures.sound c.requires.host c.args.region (is_free_at c.args.map.now.states) [] c.args.list.now (unbroken c)

pub extent_rule-requires-clause-apart : goal.extent_rule-requires-clause-apart
extent_rule-requires-clause-apart c = λ yes. c.are_apart-apart.ensures.apart yes c.loop-i.i no_extent c.loop-i-test.true
