use Rattle.std.proofs.Common.{refl}
use Rattle.control_core.specs.device_rules.specs.Outcomes.{records_of_extents}
use Rattle.event_records.specs.declared.events.EventKind.{EventKind}
use Rattle.isolation_laws.specs.declared.items.Item.{Item}
use Rattle.device_plain.proofs.ToldAlone.{takes_told}
use Rattle.device_plain.proofs.alone.Alone.ask.Goals as goal

pub returns : goal.returns
returns c = λ c'.
    takes_told c' c.args.host (Item.Asked c.args.extents.now) (λ v. records_of_extents c.args.host v EventKind.Release c.args.extents.now) (λ v. v)
    c.args.self.now c.args.self.now c.tell.new.self (λ v word alone. alone) (λ v word alone. refl) (λ d v n. refl)
    c.tell.result (c.tell.ensures c')
