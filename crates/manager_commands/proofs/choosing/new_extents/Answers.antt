use Rattle.std.proofs.Common.{◌≤◌, length, arith, ap, rules}
use Rattle.device_state.specs.Entered.{runs_in}
use Rattle.manager_commands.proofs.TaggedRuns.{length-tagged_runs, length-with_tag}
use Rattle.manager_commands.proofs.choosing.new_extents.Goals as goal

pub returns-in_ok-with_tag-in-None-clause-few : goal.returns-in_ok-with_tag-in-None-clause-few
returns-in_ok-with_tag-in-None-clause-few c =
    let few : length c.args.list.now ≤ 4096 = search rules in
    omega (arith, ap length c.in_ok-with_tag-in-None.ensures, length-with_tag c.region-shareable.result.shareable c.args.asked.now.tag c.as_slice.result.now, ap length c.as_slice.ensures, few)

pub returns-in_ok-shared-clause-few : goal.returns-in_ok-shared-clause-few
returns-in_ok-shared-clause-few c =
    let s = c.args.state.now in
    let a = c.args.asked.now in
    omega (arith, ap length c.in_ok-shared.ensures, length-tagged_runs s a c.region-shareable.result.shareable (runs_in s a.tag), c.requires.few_runs)
