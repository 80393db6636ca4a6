-- Since when a tag lives, over more effects.
use Rattle.std.proofs.Common.{◌≡◌, ℕ, ◌+◌, ◌<◌, Bool, true, false, List, [], ◌∷◌, ◌++◌, length, length-append, refl, sym, ap, subst, ◌∙◌, arith, append_assoc, append-nil}
use Rattle.std.{specs.Prelude.if◌then◌else◌, proofs.lemmas.Bool.and_parts, proofs.lemmas.Bool.false≢true}
use Rattle.cci_codec.specs.dcd_base.specs.declared.capacity.Tag.{Tag}
use Rattle.extent_list.specs.media_map.specs.region_config.specs.Configurations.{Configuration}
use Rattle.journal_core.specs.declared.outcome.Effect.{Effect}
use Rattle.device_rules.{specs.Invariants.live_since, specs.Tags.is_live, specs.Tags.is_live_shareable, proofs.Fading.Lasts}

module _ (c : Configuration) (t : Tag) where
  since-append : (before : List Effect) (since : ℕ) (past new : List Effect) → live_since c t before since (past ++ new) ≡ live_since c t (before ++ past) (live_since c t before since past) new
  since-append before since [] new = ap (λ b. live_since c t b since new) (sym (append-nil before))
  since-append before since (e ∷ past) new =
      let next : ℕ = if is_live_shareable c t before then since else length before in
      since-append (before ++ e ∷ []) next past new
      ∙ ap (λ b. live_since c t b (live_since c t (before ++ e ∷ []) next past) new) (append_assoc before (e ∷ []) past)

  -- where it lives all the while
  since-kept : (past : List Effect) (since : ℕ) (new : List Effect) → is_live_shareable c t past ≡ true → Lasts c t past new → live_since c t past since new ≡ since
  since-kept past since [] alive lasts = refl
  since-kept past since (e ∷ new) alive lasts =
      ap (λ b. live_since c t (past ++ e ∷ []) (if b then since else length past) new) alive
      ∙ since-kept (past ++ e ∷ []) since new lasts.0 lasts.1

  pub since_before : (past new : List Effect) → is_live_shareable c t past ≡ true → Lasts c t past new → live_since c t [] 0 (past ++ new) ≡ live_since c t [] 0 past
  since_before past new alive lasts = since-append [] 0 past new ∙ since-kept past (live_since c t [] 0 past) new alive lasts

  -- where it begins to live
  pub since_now : (past : List Effect) (e : Effect) (new : List Effect) → is_live_shareable c t past ≡ false → is_live_shareable c t (past ++ e ∷ []) ≡ true → Lasts c t (past ++ e ∷ []) new →
      live_since c t [] 0 (past ++ e ∷ new) ≡ length past
  since_now past e new dead alive lasts =
      since-append [] 0 past (e ∷ new)
      ∙ ap (λ b. live_since c t (past ++ e ∷ []) (if b then live_since c t [] 0 past else length past) new) dead
      ∙ since-kept (past ++ e ∷ []) (length past) new alive lasts

  -- a tag that lives began to live before now
  next_within : (alive : Bool) (since size : ℕ) → (alive ≡ true → since < size) → (if alive then since else size) < size + 1
  next_within true since size within = omega (arith, within refl)
  next_within false since size within = omega arith

  since-within : (before : List Effect) (since : ℕ) (past : List Effect) → (is_live_shareable c t before ≡ true → since < length before) → is_live_shareable c t (before ++ past) ≡ true →
      live_since c t before since past < length (before ++ past)
  since-within before since [] within alive = subst (λ b. since < length b) (sym (append-nil before)) (within (ap (is_live_shareable c t) (sym (append-nil before)) ∙ alive))
  since-within before since (e ∷ past) within alive =
      let next : ℕ = if is_live_shareable c t before then since else length before in
      let longer : length (before ++ e ∷ []) ≡ length before + 1 = length-append before (e ∷ []) in
      subst (λ b. live_since c t (before ++ e ∷ []) next past < length b) (append_assoc before (e ∷ []) past)
      (since-within (before ++ e ∷ []) next past
      (λ now. subst (λ n. next < n) (sym longer) (next_within (is_live_shareable c t before) since (length before) within))
      (ap (is_live_shareable c t) (append_assoc before (e ∷ []) past) ∙ alive))

  pub since_past : (past : List Effect) → is_live_shareable c t past ≡ true → live_since c t [] 0 past < length past
  since_past past alive = since-within [] 0 past (λ none. absurd (false≢true (and_parts (is_live c t []) false none).1)) alive
