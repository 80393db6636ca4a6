use Rattle.std.proofs.Common.{◌≡◌, ℕ, ◌+◌, [], ◌∷◌, ◌++◌, length, ap, ◌∙◌, rules}
use Rattle.std.proofs.lemmas.List.{length_push}
use Rattle.block_shard.specs.shard_laws.specs.{Changing.IsFreshStripe, Right.IsRight, Stripes.Stripe}
use Rattle.shared_device.proofs.Fresh.{each_more}
use Rattle.shared_device.proofs.making.fresh_shards.Goals as goal

pub loop-index-preserved : goal.loop-index-preserved
loop-index-preserved c =
    let old = c.loop-index.row.items in
    let x : Stripe = c.in_ok-fresh_shard.field-0 in
    let pushed : c.push.new.self.items ≡ old ++ x ∷ [] = search rules in
    let i = c.loop-index.invariant in record {
      count = ap length pushed ∙ (length_push old x ∙ ap (λ n. n + 1) i.count);
      each = each_more (λ (k : ℕ) (y : Stripe). IsFreshStripe c.args.config.now k y × IsRight k y []) old _ x c.loop-index.index pushed i.count i.each c.in_ok-fresh_shard.ensures;
    }
