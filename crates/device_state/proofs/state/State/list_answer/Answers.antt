use Rattle.std.proofs.Common.{◌≡◌, ◌<◌, ◌++◌, ◌∙◌, ap, arith, drop, length, sym}
use Rattle.extent_list.specs.HostLists.{Lists}
use Rattle.journal_core.specs.declared.outcome.Effect.{Effect}
use Rattle.offer_core.specs.Offerings.{oldest_of}
use Rattle.device_state.{proofs.Listed.listed, proofs.Listed.of_answer, proofs.Listed.own_answer, proofs.Listed.own_part, proofs.Listed.twice, specs.Entered.with_lists}
use Rattle.device_state.specs.{EnteredLists.each_tag, EnteredLists.lists_by, EnteredLists.told, StateAfter.part_of, declared.parts.HostPart.HostPart, declared.state.State.State}
use Rattle.device_state.proofs.state.State.list_answer.Goals as goal

pub returns-clause-listed : goal.returns-clause-listed
returns-clause-listed c =
    let conf = c.args.config.now in
    let old = c.args.self.now in
    let h = c.args.host in
    let xs = c.args.extents.now in
    let was : Lists = (part_of old h).lists in
    let first : Lists = record was { accepted = was.accepted ++ xs } in
    let l : Lists = record was { accepted = was.accepted ++ xs; offers = drop 1 was.offers } in
    let known : h < length old.hosts.items = omega (arith, c.requires.host, c.requires.hosts) in
    let is : l ≡ lists_by conf h was (Effect.Answer h xs) = sym (own_answer conf h was xs) in
    let mid = c.enter_accepted.new.self in
    let two = c.tell_answer.new.self in
    let at_mid : (part_of mid h).lists ≡ first = own_part old mid h first known c.enter_accepted.ensures.hosts in
    let two_hosts = ap (λ (s : State). s.hosts.items) c.tell_answer.ensures.kept ∙ c.enter_accepted.ensures.hosts in
    let at_two : (part_of two h).lists ≡ first = own_part old two h first known two_hosts in
    record {
      listed = listed conf old c.drop_oldest.new.self h l (Effect.Answer h xs) known (of_answer conf h xs) is
          (twice old two h first l c.drop_oldest.new.self.hosts.items known two_hosts
          (c.drop_oldest.ensures.hosts ∙ (λ i. with_lists two h (record (at_two i) { offers = drop 1 (at_two i).offers }))));
      tags = ap (λ (s : State). s.tags.entries) c.drop_oldest.ensures.kept
          ∙ c.tell_answer.ensures.tags
          ∙ (λ i. told h (record (at_mid i) { offers = drop 1 (at_mid i).offers }) (each_tag (oldest_of (at_mid i).offers) ++ each_tag xs) mid.tags.entries)
          ∙ (λ i. told h (is i) (each_tag (oldest_of was.offers) ++ each_tag xs) mid.tags.entries)
          ∙ ap (λ (s : State). told h (lists_by conf h was (Effect.Answer h xs)) (each_tag (oldest_of was.offers) ++ each_tag xs) s.tags.entries) c.enter_accepted.ensures.kept;
    }
