use Rattle.std.proofs.Common.{ap, arith, length}
use Rattle.extent_list.specs.HostLists.{Lists, extent_total}
use Rattle.host_lists.proofs.Offered.{length_extents}
use Rattle.host_lists.proofs.lists.HostLists.extents_available.Goals as goal

pub returns : goal.returns
returns c = omega (arith, c.saturating_sub-left.ensures, c.saturating_sub.ensures, length_extents c.args.self.now, ap (λ (l : Lists). extent_total l) c.self.view_is, ap length c.list.ensures)
