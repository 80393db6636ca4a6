-- What effects and entries leave of a granule that they do not touch.
use Rattle.std.proofs.Common.{◌≡◌, ℕ, ◌%◌, Bool, true, false, ◌||◌, ◌&&◌, ◌==◌, List, [], ◌∷◌, refl, ap, ◌∙◌}
use Rattle.std.{proofs.lemmas.Bool.or_parts, proofs.lemmas.List.Elements.All-head, proofs.lemmas.List.Elements.All-tail, proofs.lemmas.List.Sums.fold-append, specs.List.list_any}
use Rattle.std.specs.Prelude.{fold, All, if◌then◌else◌}
use Rattle.dcd_base.specs.{Words.has_granule, declared.ids.HostId.HostId}
use Rattle.device_rules.specs.Legal.{is_zeroing, word_after, word_by}
use Rattle.journal_core.specs.{declared.entries.Entry.Entry, declared.outcome.Effect.Effect, Entries.effects, Entries.is_control, Holders.holding_after}
use Rattle.region_config.specs.Configurations.{Configuration}
use Rattle.shard_laws.{specs.Belonging.touches_own, specs.Belonging.touches_shard, proofs.LeftOut.stores_nothing, proofs.OwnGranules.none_of_run}

-- The effect leaves holders and words of the granule.
record IsUntouched (g : ℕ) (f : Effect) : Type 0 where
  held : (h : HostId) (b : Bool) → holding_after h g b f ≡ b
  zeroed : is_zeroing g f ≡ false

module _ (k g : ℕ) (same : g % 16 ≡ k) where
  untouched : (f : Effect) → touches_own k f ≡ false → IsUntouched g f
  untouched (Effect.Take j run) none = record { held = λ h b. kept (j == h) true b (has_granule run g) (none_of_run k g same run none); zeroed = refl }
    where
      kept : (p v b t : Bool) → t ≡ false → (if p && t then v else b) ≡ b
      kept true v b t is = ap (λ t. if t then v else b) is
      kept false v b t is = refl
  untouched (Effect.Leave j run) none = record { held = λ h b. kept (j == h) false b (has_granule run g) (none_of_run k g same run none); zeroed = refl }
    where
      kept : (p v b t : Bool) → t ≡ false → (if p && t then v else b) ≡ b
      kept true v b t is = ap (λ t. if t then v else b) is
      kept false v b t is = refl
  untouched (Effect.Zero run) none = record { held = λ h b. refl; zeroed = none_of_run k g same run none }
  untouched (Effect.Offer h xs) none = record { held = λ h b. refl; zeroed = refl }
  untouched (Effect.Answer h xs) none = record { held = λ h b. refl; zeroed = refl }
  untouched (Effect.Hold h kind xs) none = record { held = λ h b. refl; zeroed = refl }
  untouched (Effect.Unhold h kind) none = record { held = λ h b. refl; zeroed = refl }
  untouched (Effect.Logged l event) none = record { held = λ h b. refl; zeroed = refl }
  untouched (Effect.Missed l) none = record { held = λ h b. refl; zeroed = refl }
  untouched (Effect.Cleared l n) none = record { held = λ h b. refl; zeroed = refl }
  untouched (Effect.Reset l) none = record { held = λ h b. refl; zeroed = refl }
  untouched (Effect.Ref t on) none = record { held = λ h b. refl; zeroed = refl }
  untouched (Effect.TagEnd t) none = record { held = λ h b. refl; zeroed = refl }
  untouched (Effect.Block r size) none = record { held = λ h b. refl; zeroed = refl }
  untouched (Effect.Soil run) none = record { held = λ h b. refl; zeroed = refl }

  -- ---- the effects of an entry

  pub held_still : (h : HostId) (b : Bool) (fs : List Effect) → list_any (touches_own k) fs ≡ false → fold (holding_after h g) b fs ≡ b
  held_still h b [] none = refl
  held_still h b (f ∷ fs) none =
      let parts = or_parts (touches_own k f) (list_any (touches_own k) fs) none in
      ap (λ held. fold (holding_after h g) held fs) ((untouched f parts.0).held h b) ∙ held_still h b fs parts.1

  pub not_zeroed : (fs : List Effect) → list_any (touches_own k) fs ≡ false → list_any (is_zeroing g) fs ≡ false
  not_zeroed [] none = refl
  not_zeroed (f ∷ fs) none =
      let parts = or_parts (touches_own k f) (list_any (touches_own k) fs) none in
      (λ i. (untouched f parts.0).zeroed i || not_zeroed fs parts.1 i)

-- ---- commands and scrubs

-- a command or a scrub that touches nothing of the shard
abbrev pub LeavesShard : ℕ → Entry → Type 0
LeavesShard k e = (is_control e.act ≡ true) × (touches_shard k e ≡ false)

module _ (k g : ℕ) (same : g % 16 ≡ k) where
  word_left : (c : Configuration) (w value : ℕ) (e : Entry) → LeavesShard k e → word_after c g w value e ≡ value
  word_left c w value e left =
      ap (λ b. if b then 0 else word_by c g w value e.actor e.act e.reply) (not_zeroed k g same e.effects left.1)
      ∙ stores_nothing c g w value e.actor e.act e.reply left.0

  pub words_left : (c : Configuration) (w value : ℕ) (rest : List Entry) → All (LeavesShard k) rest → fold (word_after c g w) value rest ≡ value
  words_left c w value [] all = refl
  words_left c w value (e ∷ rest) all =
      ap (λ v. fold (word_after c g w) v rest) (word_left c w value e (All-head (LeavesShard k) e rest all))
      ∙ words_left c w value rest (All-tail (LeavesShard k) e rest all)

  pub holders_left : (h : HostId) (b : Bool) (rest : List Entry) → All (LeavesShard k) rest → fold (holding_after h g) b (effects rest) ≡ b
  holders_left h b [] all = refl
  holders_left h b (e ∷ rest) all =
      fold-append (holding_after h g) b e.effects (effects rest)
      ∙ ap (λ held. fold (holding_after h g) held (effects rest)) (held_still k g same h b e.effects (All-head (LeavesShard k) e rest all).1)
      ∙ holders_left h b rest (All-tail (LeavesShard k) e rest all)
