use Rattle.std.proofs.Common.{[], sym, ap, ◌∙◌}
use Rattle.region_config.specs.Granules.{granule_total}
use Rattle.device_plain.proofs.LifeSteps.{life_first, life_seen}
use Rattle.device_plain.proofs.live.LiveDevice.new.Goals as goal

pub invariant_of-result : goal.invariant_of-result
invariant_of-result c =
    let control = c.in_ok-control.control in
    record {
      alive = record { life = []; leads = life_first c.args.config control c.in_ok-words.words c.in_ok-control.ensures.config c.in_ok-control.ensures.fresh c.in_ok-words.ensures.fresh };
      granules = c.in_ok-words.ensures.granules ∙ c.granules.ensures.value ∙ ap granule_total (sym c.in_ok-control.ensures.config);
    }

pub returns-clause-fresh : goal.returns-clause-fresh
returns-clause-fresh c =
    let control = c.in_ok-control.control in
    life_seen control.config control.state c.in_ok-words.words []
    (life_first c.args.config control c.in_ok-words.words c.in_ok-control.ensures.config c.in_ok-control.ensures.fresh c.in_ok-words.ensures.fresh)
