-- Effects that zero words one after another.
use Rattle.std.proofs.Common.{◌≡◌, ℕ, suc, ◌+◌, ◌<◌, Bool, true, false, ◌||◌, List, [], ◌∷◌, ◌++◌, length, refl, sym, ap, subst, ◌∙◌, take, get_or, arith}
use Rattle.std.{specs.Prelude.if◌then◌else◌, specs.List.list_any, proofs.lemmas.List.take_more, proofs.lemmas.List.Folds.list_any-append}
use Rattle.dcd_base.specs.declared.media.Place.{Place}
use Rattle.granule_mem.specs.Contents.{word_kept}
use Rattle.journal_core.specs.declared.outcome.Effect.{Effect}
use Rattle.media_map.specs.Places.{IsWord}
use Rattle.region_config.{specs.Configurations.Configuration, specs.Granules.granule_total, proofs.Faultless.granules_rise}
use Rattle.control_core.specs.device_rules.specs.Legal.{is_zeroing}
use Rattle.device_plain.specs.Accesses.{AreZeroed, IsZeroedBy, Stored}

-- a word's granule is one of the device
pub word_inside : (c : Configuration) (p : Place) → IsWord c p → p.granule < granule_total c
word_inside c p is = let rise = granules_rise c (suc p.region) (length c.regions) is.known in omega (arith, is.to, rise)

-- one more
zeroed_push : (old mid new : Stored) (es : List Effect) (e : Effect) → AreZeroed old mid es → IsZeroedBy mid new e → AreZeroed old new (es ++ e ∷ [])
zeroed_push old mid new es e so_far one g w =
    one g w
    ∙ ap (λ value. if is_zeroing g e then 0 else value) (so_far g w)
    ∙ either (is_zeroing g e) (list_any (is_zeroing g) es) (word_kept old g w)
    ∙ ap (λ b. if b then 0 else word_kept old g w) (sym (list_any-append (is_zeroing g) es (e ∷ [])))
  where
    either : (a b : Bool) (value : ℕ) → (if a then 0 else (if b then 0 else value)) ≡ (if b || (a || false) then 0 else value)
    either true true value = refl
    either true false value = refl
    either false true value = refl
    either false false value = refl

-- the first i + 1 of them
pub zeroed_more : (old mid new : Stored) (es : List Effect) (i : ℕ) (d : Effect) → i < length es → AreZeroed old mid (take i es) → IsZeroedBy mid new (get_or es i d) → AreZeroed old new (take (i + 1) es)
zeroed_more old mid new es i d below so_far one = subst (AreZeroed old new) (sym (take_more es i d below)) (zeroed_push old mid new (take i es) (get_or es i d) so_far one)
