use Rattle.std.proofs.Common.{◌∙◌, ap, length, map, refl, sym}
use lib.ListN.{get_elem?}
use Rattle.atomic_table.proofs.Lists.{at_index}
use Rattle.block_shard.specs.journal_core.specs.Merging.{call_of}
use Rattle.shared_device.proofs.shared.Shared.pass.Goals as goal

pub invariant_of-result-clause-resting : goal.invariant_of-result-clause-resting
invariant_of-result-clause-resting c = c.requires.new.no_turns

pub invariant_of-result-clause-idle : goal.invariant_of-result-clause-idle
invariant_of-result-clause-idle c = ap (λ v. v.entry) c.requires.new.view

pub invariant_of-result-clause-seen_is : goal.invariant_of-result-clause-seen_is
invariant_of-result-clause-seen_is c = ap (λ v. v.seen) c.requires.new.view

pub invariant_of-result-clause-counted : goal.invariant_of-result-clause-counted
invariant_of-result-clause-counted c = ap (λ v. length v.calls) c.requires.new.view

pub invariant_of-result-clause-acts : goal.invariant_of-result-clause-acts
invariant_of-result-clause-acts c =
    let new = c.requires.new in
    (λ i. get_elem? (new.view i).about.actors (new.number i)) ∙ at_index c.args.actors.now c.args.number _ c.requires.number c.index-actors-number.is

pub returns : goal.returns
returns c =
    let new = c.requires.new in
    record {
      of = record {
        seat = new.of;
        config = ap (λ v. v.about.config) new.view;
        about = ap (λ v. v.about) new.view ∙ (λ i. record { config = sym c.args.self.now.config_is i; actors = sym c.requires.opened i });
        number = ap (λ v. v.number) new.view ∙ sym new.number;
      };
      number = new.number;
      actor = at_index c.args.actors.now c.args.number _ c.requires.number c.index-actors-number.is;
      calls = ap (λ v. map call_of v.calls) new.view;
      seen = refl;
    }
