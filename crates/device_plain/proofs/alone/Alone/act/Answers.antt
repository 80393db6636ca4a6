use Rattle.std.proofs.Common.{sym, subst}
use Rattle.device_plain.specs.Alone.{DoesAlone}
use Rattle.isolation_laws.specs.declared.items.SoloReply.{SoloReply}
use Rattle.device_plain.proofs.alone.Alone.act.Goals as goal

pub returns-in_ok-command-in-Command : goal.returns-in_ok-command-in-Command
returns-in_ok-command-in-Command c =
    subst (λ act. DoesAlone c.args.config.now c.args.host act c.args.self.now c.command.new.self (SoloReply.Said c.in_ok-command-in-Command.field-0)) (sym c.in-Command.is) c.in_ok-command-in-Command.ensures

pub returns-in_ok-store-in-Store : goal.returns-in_ok-store-in-Store
returns-in_ok-store-in-Store c =
    subst (λ act. DoesAlone c.args.config.now c.args.host act c.args.self.now c.store.new.self (SoloReply.Said c.in_ok-store-in-Store.field-0)) (sym c.in-Store.is) c.in_ok-store-in-Store.ensures
