use Rattle.std.{proofs.Common.rules, proofs.Common.ap, proofs.Common.◌∙◌, specs.Prelude.not, proofs.lemmas.Map.Made.filter_same_pairs}
use Rattle.granule_mem.specs.Contents.{word_among}
use Rattle.isolation_laws.specs.Solo.{has_byte}
use Rattle.device_plain.proofs.KeptWords.{word_filter}
use Rattle.device_plain.proofs.words_alone.clear_extent.Goals as goal

pub returns : goal.returns
returns c = λ d.
    ap (λ es. word_among es d) (filter_same_pairs _ (λ e. not (has_byte e.0 c.args.extent.now)) _ (λ k v b w f' t. search rules) _ _ c.retain.ensures.filtered)
    ∙ word_filter (λ k. has_byte k c.args.extent.now) c.args.words.now.entries d
