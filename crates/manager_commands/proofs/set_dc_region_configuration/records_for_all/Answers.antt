use Rattle.std.proofs.{Common.◌∷◌, Common.[], Common.◌++◌, Common.map, Common.ap, Common.sym, Common.◌∙◌, lemmas.List.map-append}
use Rattle.std.specs.List.{range_with_len}
use Rattle.manager_commands.{specs.SetDcRegionConfiguration.told_to, proofs.ListPages.from_zero}
use Rattle.manager_commands.proofs.set_dc_region_configuration.records_for_all.Goals as goal

pub loop-host-preserved : goal.loop-host-preserved
loop-host-preserved c =
    let i = c.loop-host.host in
    let f = told_to c.args.region in
    c.in_ok-push.ensures.pushed
    ∙ (λ j. c.loop-host.invariant j ++ told_to c.args.region i ∷ [])
    ∙ sym (ap (map f) (from_zero i) ∙ map-append f (range_with_len 0 i) (i ∷ []))
