use Rattle.std.proofs.Common.{[], List, sym, subst, ◌∙◌}
use Rattle.journal_core.specs.declared.entries.Entry.{Entry}
use Rattle.region_config.specs.Configurations.{Configuration}
use Rattle.device_plain.{specs.Keeping.KeepsBoth, proofs.Merged.both_first}
use Rattle.device_plain.proofs.device.Device.new.Goals as goal

pub invariant_of-result : goal.invariant_of-result
invariant_of-result c =
    subst (λ (x : Configuration). KeepsBoth x c.in_ok-new.field-0.entries c.new-3.result.items c.in_ok-words.words 0) (sym c.in_ok-new.ensures.config)
    (subst (λ (es : List Entry). KeepsBoth c.args.config es c.new-3.result.items c.in_ok-words.words 0) (sym c.in_ok-new.ensures.fresh)
    (subst (λ (es : List Entry). KeepsBoth c.args.config [] es c.in_ok-words.words 0) (sym c.new-3.ensures.items)
    (both_first c.args.config c.in_ok-words.words c.hosts-hosts.ensures.sound (c.in_ok-words.ensures.granules ∙ c.granules.ensures.value) c.in_ok-words.ensures.fresh)))
