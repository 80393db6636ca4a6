-- Effects that touch no list, no holder, no block and no tag keep the picture: records, held lists, soiling and zeroing.
use Rattle.std.proofs.Common.{◌≡◌, ℕ, Bool, true, false, List, [], ◌∷◌, ◌++◌, map, refl, sym, subst, ◌∙◌, inl}
use Rattle.std.{specs.List.list_all, proofs.lemmas.Bool.and_parts, proofs.lemmas.Bool.false≢true}
use Rattle.cci_codec.specs.dcd_base.specs.declared.{capacity.Extent.Extent, ids.HostId.HostId}
use Rattle.extent_list.specs.media_map.specs.region_config.specs.{Configurations.Configuration, Granules.same_region}
use Rattle.granule_map.specs.Choices.{joined}
use Rattle.journal_core.specs.declared.outcome.{Effect.Effect, HeldKind.HeldKind}
use Rattle.device_rules.{proofs.Pictures.picture-append, proofs.Settling.outcome_keeps, specs.Answers.zeroes, specs.Outcomes.Outcome, specs.Outcomes.effects_of}
use Rattle.device_rules.specs.{Pictures.Picture, Pictures.picture_after, Pictures.picture_of, ResponseOutcomes.hold, ResponseOutcomes.unhold, Standing.Sound}

abbrev pub is_quiet : Effect → Bool
is_quiet (Effect.Offer h xs) = false
is_quiet (Effect.Answer h xs) = false
is_quiet (Effect.Take h run) = false
is_quiet (Effect.Leave h run) = false
is_quiet (Effect.Ref t on) = false
is_quiet (Effect.TagEnd t) = false
is_quiet (Effect.Block r size) = false
is_quiet (Effect.Zero run) = true
is_quiet (Effect.Soil run) = true
is_quiet (Effect.Hold h kind xs) = true
is_quiet (Effect.Unhold h kind) = true
is_quiet (Effect.Logged l e) = true
is_quiet (Effect.Missed l) = true
is_quiet (Effect.Cleared l n) = true
is_quiet (Effect.Reset l) = true

-- one quiet effect in front
quiet_first : (c : Configuration) (p : Picture) (e : Effect) (new : List Effect) → is_quiet e ≡ true → picture_after c p (e ∷ new) ≡ picture_after c p new
quiet_first c p (Effect.Offer h xs) new q = absurd (false≢true q)
quiet_first c p (Effect.Answer h xs) new q = absurd (false≢true q)
quiet_first c p (Effect.Take h run) new q = absurd (false≢true q)
quiet_first c p (Effect.Leave h run) new q = absurd (false≢true q)
quiet_first c p (Effect.Ref t on) new q = absurd (false≢true q)
quiet_first c p (Effect.TagEnd t) new q = absurd (false≢true q)
quiet_first c p (Effect.Block r size) new q = absurd (false≢true q)
quiet_first c p (Effect.Zero run) new q = refl
quiet_first c p (Effect.Soil run) new q = refl
quiet_first c p (Effect.Hold h kind xs) new q = refl
quiet_first c p (Effect.Unhold h kind) new q = refl
quiet_first c p (Effect.Logged l e) new q = refl
quiet_first c p (Effect.Missed l) new q = refl
quiet_first c p (Effect.Cleared l n) new q = refl
quiet_first c p (Effect.Reset l) new q = refl

-- quiet effects in front of others leave what those do
pub quiet_front : (c : Configuration) (p : Picture) (quiet new : List Effect) → list_all is_quiet quiet ≡ true → picture_after c p (quiet ++ new) ≡ picture_after c p new
quiet_front c p [] new q = refl
quiet_front c p (e ∷ quiet) new q =
    let parts = and_parts (is_quiet e) (list_all is_quiet quiet) q in
    quiet_first c p e (quiet ++ new) parts.0 ∙ quiet_front c p quiet new parts.1

pub quiet_picture : (c : Configuration) (p : Picture) (new : List Effect) → list_all is_quiet new ≡ true → picture_after c p new ≡ p
quiet_picture c p [] q = refl
quiet_picture c p (e ∷ new) q =
    let parts = and_parts (is_quiet e) (list_all is_quiet new) q in
    quiet_first c p e new parts.0 ∙ quiet_picture c p new parts.1

-- Quiet effects keep what every legal journal keeps.
pub quiet_keeps : (c : Configuration) (past new : List Effect) → list_all is_quiet new ≡ true → Sound c (picture_of c past) → Sound c (picture_of c (past ++ new))
quiet_keeps c past new q before = subst (Sound c) (sym (picture-append c past new ∙ quiet_picture c (picture_of c past) new q)) before

-- A command with quiet changes keeps it too, whatever tags may end by it.
pub quiet_outcome_keeps : (c : Configuration) (past : List Effect) (o : Outcome) → list_all is_quiet o.changes ≡ true → Sound c (picture_of c past) → Sound c (picture_of c (past ++ effects_of c past o))
quiet_outcome_keeps c past o q before =
    let same : picture_after c (picture_of c past) o.changes ≡ picture_of c past = quiet_picture c (picture_of c past) o.changes q in
    let all = subst (Sound c) (sym same) before in
    outcome_keeps c past o all.stands (λ t e. inl (all.live t e))

-- ---- which effects are quiet

-- those of a scrub
zeroed_quiet : (runs : List (ℕ × ℕ)) → list_all is_quiet (map (λ r. Effect.Zero (record { first = r.0; count = r.1 })) runs) ≡ true
zeroed_quiet [] = refl
zeroed_quiet (r ∷ runs) = zeroed_quiet runs

pub zeroes_quiet : (c : Configuration) (gs : List ℕ) → list_all is_quiet (zeroes c gs) ≡ true
zeroes_quiet c gs = zeroed_quiet (joined (same_region c) gs)

pub hold_quiet : (h : HostId) (kind : HeldKind) (list : List Extent) → list_all is_quiet (hold h kind list) ≡ true
hold_quiet h kind [] = refl
hold_quiet h kind (x ∷ list) = refl

pub unhold_quiet : (h : HostId) (kind : HeldKind) (list : List Extent) → list_all is_quiet (unhold h kind list) ≡ true
unhold_quiet h kind [] = refl
unhold_quiet h kind (x ∷ list) = refl
