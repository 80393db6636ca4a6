use Rattle.std.proofs.Common.{◌+◌, ◌*◌, ◌++◌, ◌∙◌, ap, drop, flat_map, length, refl, rules, sym, take}
use Rattle.std.specs.List.{range_with_len}
use Rattle.region_config.specs.Configurations.{Configuration}
use Rattle.dcd_c.{specs.Lists.host_bases, proofs.BaseSteps.base_next, proofs.BaseSteps.bases_count, proofs.BaseSteps.bases_more, proofs.Filling.drop_on}
use Rattle.dcd_c.proofs.lists.bases_of.Goals as goal

pub returns-then-count-room : goal.returns-then-count-room
returns-then-count-room c =
    let cfg = c.first_config-config.result.now in (
      refl,
      search rules,
      λ life leads.
          c.bases_before-count.ensures ∙ ap (λ k. k * length cfg.regions) c.hosts.ensures.value ∙ sym (bases_count cfg 0 cfg.hosts)
          ∙ ap (λ (k : Configuration). length (flat_map (host_bases k) (range_with_len 0 k.hosts))) c.first_config-config.ensures.config,
    )

pub loop-host-preserved : goal.loop-host-preserved
loop-host-preserved c =
    let cfg = c.first_config-config.result.now in
    let h = c.loop-host.host in
    let n = length cfg.regions in
    let place = c.bases_before.ensures in
    let next = base_next h n ∙ ap (λ k. k + n) (sym place) in
    record {
      put = ap (λ k. take k c.put_bases.new.room) next ∙ c.put_bases.ensures.put ∙ ap (λ k. take k c.loop-host.room ++ host_bases cfg h) place ∙ (λ j. c.loop-host.invariant.put j ++ host_bases cfg h) ∙ sym (bases_more cfg h);
      rest = ap (λ k. drop k c.put_bases.new.room) next ∙ c.put_bases.ensures.rest ∙ ap (λ k. drop (k + n) c.loop-host.room) place ∙ drop_on c.loop-host.room c.args.room.now (h * n) n c.loop-host.invariant.rest ∙ ap (λ k. drop k c.args.room.now) (sym (base_next h n));
      size = c.put_bases.ensures.size ∙ c.loop-host.invariant.size;
    }
