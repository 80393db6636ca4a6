use Rattle.std.proofs.Common.{sym}
use Rattle.extent_list.{specs.Listing.shared_of, proofs.Shares.none_incomplete, proofs.Shares.none_left}
use Rattle.extent_list.proofs.tag_rules.incomplete_among.Goals as goal

pub returns-then-not-has_shareable : goal.returns-then-not-has_shareable
returns-then-not-has_shareable c = sym (none_incomplete c.args.config.now c.args.host c.args.owners.now c.args.list.now (c.has_shareable.ensures c.if-not-has_shareable.true))

pub returns-then-are_all_shared : goal.returns-then-are_all_shared
returns-then-are_all_shared c =
    sym (none_left c.args.owners.now (shared_of c.args.config.now c.args.host c.args.owners.now c.args.list.now) (c.are_all_shared.ensures c.if-are_all_shared.true))
