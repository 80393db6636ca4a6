-- Changes of an entry do to a shard that is right what its effects say.
use Rattle.std.{proofs.Common.ℕ, proofs.Common.List, proofs.Common.sym, proofs.Common.ap, proofs.Common.◌∙◌, specs.Prelude.fold, specs.Prelude.if◌then◌else◌}
use Rattle.dcd_base.specs.{Hosts.has_host, declared.media.Change.Change}
use Rattle.journal_core.{specs.declared.entries.Entry.Entry, specs.Entries.effects, specs.Holders.holding_after, proofs.HoldingSteps.holds-append}
use Rattle.shard_laws.specs.{Owed.FollowsEffects, Stripes.Stripe, Stripes.holders_at, Stripes.stripe_word}

pub follows_effects : (k : ℕ) (x y : Stripe) (log : List Entry) (e : Entry) (changes : List Change) → FollowsEffects k x y log e changes
follows_effects k x y log e changes right are stamp made = record {
  index_is = made.index_is;
  config_is = made.config_is;
  entries_are = made.entries_are;
  clock_is = made.clock_is ∙ sym stamp;
  holders = λ g under same h known.
      let held = right.1.holders g under (same ∙ right.0) in
      ap (λ bits. has_host bits h) (made.media.holders g same)
      ∙ are.holders g under (holders_at x g) held h known
      ∙ holds-append h g (effects log) e.effects
      ∙ ap (λ b. fold (holding_after h g) b e.effects) (sym (held h known));
  words = λ g w under same. made.media.words g w same ∙ ap (λ b. if b then 0 else stripe_word x g w) (are.zeroed g under);
}
