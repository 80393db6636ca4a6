use Rattle.std.proofs.Common.{◌≡◌, ◌<◌, ◌∙◌, List, ap, arith, length, sym}
use Rattle.cci_codec.specs.dcd_base.specs.declared.capacity.Extent.{Extent}
use Rattle.device_state.{proofs.Leaves.left_listed, proofs.Leaves.told_over, specs.Entered.with_lists, specs.EnteredLists.lists_of, specs.Leaves.lists_left, specs.Leaves.told_left}
use Rattle.device_state.specs.StateAfter.{part_of}
use Rattle.device_state.proofs.state.State.list_at_once.Goals as goal

pub returns-clause-listed : goal.returns-clause-listed
returns-clause-listed c =
    let conf = c.args.config.now in
    let old = c.args.self.now in
    let h = c.args.host in
    let es = c.args.effects.now in
    let was = (part_of old h).lists in
    let known : h < length old.hosts.items = omega (arith, c.requires.host, c.requires.hosts) in
    let ranges = c.as_slice.ensures ∙ c.ranges_of-ranges.ensures.ranges in
    record {
      listed = left_listed conf h old c.leave_all.new.self es known c.requires.leaving
          (c.leave_all.ensures.hosts ∙ (λ i. with_lists old h (lists_left (ranges i) was)));
      tags = c.leave_all.ensures.tags
          ∙ (λ i. told_left h was (ranges i) old.tags.entries)
          ∙ sym (told_over conf h es (lists_of old) old.tags.entries c.requires.leaving);
    }
