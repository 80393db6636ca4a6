-- A tag that lives before a step and after it lives all the while.
use Rattle.std.proofs.Common.{◌≡◌, Bool, true, false, not, ◌&&◌, ◌||◌, ◌==◌, List, [], ◌∷◌, ◌++◌, refl, sym, ap, ◌∙◌, inl, inr, append_assoc, append-nil}
use Rattle.std.proofs.lemmas.Bool.{and_from, and_parts, cases_Bool, false≢true, or_left, or_right}
use Rattle.std.specs.{List.list_all, List.list_any, Prelude.if◌then◌else◌}
use Rattle.cci_codec.specs.dcd_base.specs.{declared.capacity.Tag.Tag, declared.ids.HostId.HostId, declared.media.Run.Run, Words.same_tag}
use Rattle.extent_list.specs.{ExtentLists.cut, ExtentLists.has_extent_of, media_map.specs.Places.bytes_of_run, media_map.specs.Places.start_of}
use Rattle.extent_list.specs.media_map.specs.region_config.specs.Configurations.{Configuration}
use Rattle.journal_core.specs.declared.outcome.Effect.{Effect}
use Rattle.device_rules.proofs.{OpenLive.has_cut, OpenLive.keeps, OpenLive.lives_less, Pictures.picture-append, Quiet.is_quiet, Quiet.quiet_picture}
use Rattle.device_rules.specs.{Pictures.Picture, Pictures.lives, Pictures.picture_after, Pictures.picture_of, Tags.is_in_shareable, Tags.is_live_shareable, Tags.tag_region}

-- whether the tag lives as a shareable one in the picture
abbrev pub shares : Configuration → Tag → Picture → Bool
shares c t p = lives c p t && is_in_shareable c (tag_region c (p.last t))

-- No tag begins to live by the effect.
abbrev pub fades : Effect → Bool
fades (Effect.Offer h xs) = false
fades (Effect.Answer h xs) = false
fades (Effect.Ref t on) = not on
fades e = true

-- ---- one effect

module _ (c : Configuration) (t : Tag) (p : Picture) where
  by_leave : (h : HostId) (run : Run) → shares c t (picture_after c p (Effect.Leave h run ∷ [])) ≡ true → shares c t p ≡ true
  by_leave h run alive =
      let q : Picture = picture_after c p (Effect.Leave h run ∷ []) in
      let parts = and_parts (lives c q t) (is_in_shareable c (tag_region c (p.last t))) alive in
      and_from (lives c p t) (is_in_shareable c (tag_region c (p.last t))) (lives_less c p q t (λ k has. less k (h == k) has) (λ e. e) parts.0) parts.1
    where
      less : (k : HostId) (b : Bool) → (has_extent_of t (if b then cut (start_of c k run) (bytes_of_run c run) (p.accepted k) else p.accepted k) || list_any (has_extent_of t) (p.offers k)) ≡ true → keeps p t k ≡ true
      less k false has = has
      less k true has = elim (cases_Bool (has_extent_of t (cut (start_of c k run) (bytes_of_run c run) (p.accepted k)))) [
        | inl held ↦ or_left (has_extent_of t (p.accepted k)) (list_any (has_extent_of t) (p.offers k)) (has_cut t (start_of c k run) (bytes_of_run c run) (p.accepted k) held)
        | inr not_held ↦ or_right (has_extent_of t (p.accepted k)) (list_any (has_extent_of t) (p.offers k)) (rw not_held at has)
      ]

  by_dropping : (u : Tag) → shares c t (picture_after c p (Effect.Ref u false ∷ [])) ≡ true → shares c t p ≡ true
  by_dropping u alive =
      let q : Picture = picture_after c p (Effect.Ref u false ∷ []) in
      let parts = and_parts (lives c q t) (is_in_shareable c (tag_region c (p.last t))) alive in
      and_from (lives c p t) (is_in_shareable c (tag_region c (p.last t))) (lives_less c p q t (λ k has. has) (λ e. was (same_tag u t) e) parts.0) parts.1
    where
      was : (b : Bool) → (if b then false else p.referenced t) ≡ true → p.referenced t ≡ true
      was true e = absurd (false≢true e)
      was false e = e

  faded : (e : Effect) → fades e ≡ true → shares c t (picture_after c p (e ∷ [])) ≡ true → shares c t p ≡ true
  faded (Effect.Offer h xs) fade alive = absurd (false≢true fade)
  faded (Effect.Answer h xs) fade alive = absurd (false≢true fade)
  faded (Effect.Ref u true) fade alive = absurd (false≢true fade)
  faded (Effect.Ref u false) fade alive = by_dropping u alive
  faded (Effect.Leave h run) fade alive = by_leave h run alive
  faded (Effect.Take h run) fade alive = alive
  faded (Effect.TagEnd u) fade alive = alive
  faded (Effect.Block r size) fade alive = alive
  faded (Effect.Zero run) fade alive = alive
  faded (Effect.Soil run) fade alive = alive
  faded (Effect.Hold h kind xs) fade alive = alive
  faded (Effect.Unhold h kind) fade alive = alive
  faded (Effect.Logged l event) fade alive = alive
  faded (Effect.Missed l) fade alive = alive
  faded (Effect.Cleared l n) fade alive = alive
  faded (Effect.Reset l) fade alive = alive

module _ (c : Configuration) (t : Tag) where
  -- It lives after each of the effects.
  abbrev pub Lasts : List Effect → List Effect → Type 0
  Lasts past [] = Unit {0}
  Lasts past (e ∷ new) = (is_live_shareable c t (past ++ e ∷ []) ≡ true) × Lasts (past ++ e ∷ []) new

  one_faded : (past : List Effect) (e : Effect) → fades e ≡ true → is_live_shareable c t (past ++ e ∷ []) ≡ true → is_live_shareable c t past ≡ true
  one_faded past e fade alive = faded c t (picture_of c past) e fade (sym (ap (shares c t) (picture-append c past (e ∷ []))) ∙ alive)

  one_quiet : (past : List Effect) (e : Effect) → is_quiet e ≡ true → is_live_shareable c t past ≡ true → is_live_shareable c t (past ++ e ∷ []) ≡ true
  one_quiet past e quiet alive = ap (shares c t) (picture-append c past (e ∷ []) ∙ quiet_picture c (picture_of c past) (e ∷ []) (ap (λ b. b && true) quiet)) ∙ alive

  -- ---- some effects

  moved : (past : List Effect) (e : Effect) (new : List Effect) → is_live_shareable c t (past ++ e ∷ new) ≡ true → is_live_shareable c t ((past ++ e ∷ []) ++ new) ≡ true
  moved past e new alive = ap (is_live_shareable c t) (append_assoc past (e ∷ []) new) ∙ alive

  pub lived : (past new : List Effect) → list_all fades new ≡ true → is_live_shareable c t (past ++ new) ≡ true → is_live_shareable c t past ≡ true
  lived past [] fade alive = ap (is_live_shareable c t) (sym (append-nil past)) ∙ alive
  lived past (e ∷ new) fade alive =
      let parts = and_parts (fades e) (list_all fades new) fade in
      one_faded past e parts.0 (lived (past ++ e ∷ []) new parts.1 (moved past e new alive))

  pub lasted : (past new : List Effect) → list_all fades new ≡ true → is_live_shareable c t (past ++ new) ≡ true → Lasts past new
  lasted past [] fade alive = tt
  lasted past (e ∷ new) fade alive =
      let parts = and_parts (fades e) (list_all fades new) fade in
      (lived (past ++ e ∷ []) new parts.1 (moved past e new alive), lasted (past ++ e ∷ []) new parts.1 (moved past e new alive))

-- No tag begins to live by any of them but the first that is not quiet.
abbrev pub is_single : List Effect → Bool
is_single [] = true
is_single (e ∷ new) = if is_quiet e then is_single new else list_all fades new

pub single_fading : (new : List Effect) → list_all fades new ≡ true → is_single new ≡ true
single_fading [] fade = refl
single_fading (e ∷ new) fade = by (is_quiet e) (single_fading new (and_parts (fades e) (list_all fades new) fade).1)
  where
    by : (b : Bool) → is_single new ≡ true → (if b then is_single new else list_all fades new) ≡ true
    by true rest = rest
    by false rest = (and_parts (fades e) (list_all fades new) fade).1

pub lasts : (c : Configuration) (t : Tag) (past new : List Effect) → is_single new ≡ true → is_live_shareable c t past ≡ true → is_live_shareable c t (past ++ new) ≡ true → Lasts c t past new
lasts c t past [] single before after = tt
lasts c t past (e ∷ new) single before after = elim (cases_Bool (is_quiet e)) [
  | inl quiet ↦ (let here = one_quiet c t past e quiet before in
      (here, lasts c t (past ++ e ∷ []) new (rw quiet at single) here (moved c t past e new after)))
  | inr loud ↦ (let rest : list_all fades new ≡ true = rw loud at single in
      (lived c t (past ++ e ∷ []) new rest (moved c t past e new after), lasted c t (past ++ e ∷ []) new rest (moved c t past e new after)))
]
