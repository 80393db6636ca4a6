-- What a removal by force leaves of all extents that a host has in a region.
use Rattle.std.proofs.Common.{◌≡◌, ℕ, ◌<◌, ◌≤◌, Bool, true, false, ◌==◌, List, [], ◌∷◌, length, map, Option, Some, None, refl, sym, ap, subst, ◌∙◌, arith}
use Rattle.std.proofs.lemmas.{Bool.and_parts, Bool.eqb-true, Bool.ltb-false, Bool.ltb-true, List.length-map}
use Rattle.std.specs.{List.AllByRecursion, List.list_all, Prelude.nat_lt, Result.result_err, declared.result.Result.TheVariants.Ok}
use Rattle.dcd_base.specs.{declared.capacity.Extent.Extent, declared.ids.HostId.HostId, declared.steps.LogId.LogId, Words.zero_tag, Layouts.spelling}
use Rattle.dcd_codes.specs.{Rules.◌breaks◌, declared.rules.Rule.Rule}
use Rattle.cci_codec.specs.declared.messages.Request.{Request}
use Rattle.event_log.specs.Logs.{room_in}
use Rattle.extent_list.specs.ExtentLists.{marked}
use Rattle.fm_payloads.specs.{ManagerPayloads.manager_fields, ManagerPayloads.manager_request, declared.requests.FmRequest.FmRequest}
use Rattle.region_config.{specs.Configurations.Configuration, specs.Soundness.IsSound, proofs.Searches.or_parts as option_parts}
use Rattle.media_map.specs.Places.{region_at}
use Rattle.journal_core.specs.{Entries.effects, declared.entries.Entry.Entry}
use Rattle.isolation_laws.specs.device_rules.proofs.{ListSteps.each-both, Overlaps.not_broken}
use Rattle.isolation_laws.specs.device_rules.specs.{Answers.manager_outcome, Answers.manager_result, Answers.manager_rule, Answers.unless, Hosts.accepted_of, Legal.Legal, Logs.log_of}
use Rattle.isolation_laws.specs.device_rules.specs.{Outcomes.Outcome, Views.view_of}
use Rattle.plan_rules.proofs.{Acts.behind_is, Emptying.empties_regions, PartsGivenBack.EndsLow, PartsGivenBack.each_filter, PartsGivenBack.region_few, PartsGivenBack.region_low}
use Rattle.plan_rules.proofs.{RemovalHeard.IsTellable, RemovalHeard.removal_heard, ToldExtents.accepted_tellable, ToldExtents.is_tellable, ToldExtents.legal_told}
use Rattle.plan_rules.specs.{ActsLeft.RegionLeft, ActsLeft.Unbroken, ActsLeft.emptying, ActsLeft.journal_behind, Holding.extents_in_region}

-- ---- lists

each_of : (test : Extent → Bool) (xs : List Extent) → list_all test xs ≡ true → AllByRecursion (λ x. test x ≡ true) xs
each_of test [] all = tt
each_of test (x ∷ xs) all = let parts = and_parts (test x) (list_all test xs) all in (parts.0, each_of test xs parts.1)

-- ---- the act

rule_none : (rule : Option Rule) (o : Outcome) → result_err (unless rule o) ≡ None → rule ≡ None
rule_none None o none = refl
rule_none (Some rule) o none = absurd (cc)

module _ (c : Configuration) (sound : IsSound c) (journal : List Entry) (legal : Legal c journal) (h : HostId) (host : h < c.hosts) (r : ℕ) (known : r < length c.regions) where
  abbrev own : List Extent
  own = extents_in_region c h r (effects journal)

  -- its extents can be told in a message
  own_tellable : AllByRecursion IsTellable (extents_in_region c h r (effects journal))
  own_tellable =
      let test : Extent → Bool = λ x. region_at c h x.start == r in
      let told = each_of is_tellable (accepted_of c h (effects journal)) (accepted_tellable c h (effects journal) (legal_told c journal legal)) in
      each-both EndsLow (λ x. is_tellable x ≡ true) IsTellable (λ x low is. let parts = and_parts (length x.tag.0 == 16) (nat_lt x.sequence 65536) is in
      record { start = omega (arith, low); long = omega (arith, low); tag = eqb-true (length x.tag.0) 16 parts.0; sequence = ltb-true x.sequence 65536 parts.1 })
      own (region_low c sound journal legal h host r) (each_filter (λ x. is_tellable x ≡ true) test (accepted_of c h (effects journal)) told)

  abbrev removal : Request
  removal = record { tag = 0; opcode = 0x5605; payload = spelling (manager_fields (FmRequest.Remove h 17 r 0 zero_tag (extents_in_region c h r (effects journal)))) }

  pub removal_read : manager_request 0x5605 (spelling (manager_fields (FmRequest.Remove h 17 r 0 zero_tag (extents_in_region c h r (effects journal))))) ≡ Ok (FmRequest.Remove h 17 r 0 zero_tag (extents_in_region c h r (effects journal)))
  removal_read = removal_heard h r own (omega (arith, host, sound.hosts)) (omega (arith, known, sound.regions)) (omega (arith, region_few c sound journal legal h host r)) own_tellable

  -- and its log has room, since the act breaks no rule
  room : Unbroken c journal (emptying c h r (effects journal) ∷ []) → length (extents_in_region c h r (effects journal)) ≤ room_in (LogId.Host h) (log_of (LogId.Host h) (effects journal))
  room none =
      let request : FmRequest = FmRequest.Remove h 17 r 0 zero_tag own in
      let row = rule_none (manager_rule c (effects journal) (λ k. view_of c k journal) request) (manager_outcome c (effects journal) (λ k. view_of c k journal) request)
      (sym (ap (λ read. result_err (manager_result c journal read)) removal_read) ∙ none.0) in
      let all : List Extent = map (marked (accepted_of c h (effects journal))) own in
      let place : ℕ = room_in (LogId.Host h) (log_of (LogId.Host h) (effects journal)) in
      let full : nat_lt place (length all) ≡ false = not_broken (nat_lt place (length all)) (Rule.LogFull h (length all) place) (option_parts _ (nat_lt place (length all) breaks Rule.LogFull h (length all) place) row).1 in
      omega (arith, ltb-false place (length all) full, length-map own (marked (accepted_of c h (effects journal))))

  pub emptying_leaves : 0 < length (extents_in_region c h r (effects journal)) → Unbroken c journal (emptying c h r (effects journal) ∷ []) →
      RegionLeft c h r (effects journal) (effects (journal_behind c journal (emptying c h r (effects journal))))
  emptying_leaves some none =
      let left = empties_regions c sound journal legal h r 0 zero_tag removal host known (record { some = some; room = room none }) removal_read in
      subst (RegionLeft c h r (effects journal)) (sym (behind_is c journal (emptying c h r (effects journal)))) (record {
        only = record {
          keeps = left.keeps;
          offers = left.offers;
          elsewhere = λ s other. left.elsewhere s (λ is. other (sym is));
        };
        none = left.there;
      })
