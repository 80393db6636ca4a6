use Rattle.std.proofs.Common.{◌≡◌, ◌<◌, ◌∙◌, [], ◌∷◌, arith, length, sym}
use Rattle.extent_list.specs.{ExtentLists.cut, HostLists.Lists, media_map.specs.Places.bytes_of_run, media_map.specs.Places.start_of}
use Rattle.journal_core.specs.declared.outcome.Effect.{Effect}
use Rattle.device_state.{proofs.Listed.listed, proofs.Listed.of_leave, proofs.Listed.own_leave, specs.Entered.with_lists}
use Rattle.device_state.specs.{EnteredLists.lists_by, EnteredLists.tag_left, EnteredLists.told, Leaves.lists_left, Leaves.owner_tag, Leaves.told_left, StateAfter.part_of}
use Rattle.device_state.proofs.state.State.list_leave.Goals as goal

pub returns-clause-listed : goal.returns-clause-listed
returns-clause-listed c =
    let conf = c.args.config.now in
    let old = c.args.self.now in
    let h = c.args.host in
    let run = c.args.run.now in
    let was : Lists = (part_of old h).lists in
    let l : Lists = record was { accepted = cut (start_of conf h run) (bytes_of_run conf run) was.accepted } in
    let known : h < length old.hosts.items = omega (arith, c.requires.host, c.requires.hosts) in
    let is : l ≡ lists_by conf h was (Effect.Leave h run) = sym (own_leave conf h was run) in
    let value = c.extent_of.ensures.value in
    record {
      listed = listed conf old c.leave_all.new.self h l (Effect.Leave h run) known (of_leave conf h run) is
          (c.leave_all.ensures.hosts ∙ (λ i. with_lists old h (lists_left (value i ∷ []) was)));
      tags = c.leave_all.ensures.tags
          ∙ (λ i. told_left h was (value i ∷ []) old.tags.entries)
          ∙ (λ i. told h (is i) (tag_left conf h run was.accepted) old.tags.entries);
    }
