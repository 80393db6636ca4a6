-- What commands that change no list of extents make of the views of all hosts.
use Rattle.std.proofs.Common.{◌≡◌, ℕ, ◌+◌, Bool, true, false, ◌&&◌, ◌||◌, List, [], ◌∷◌, refl, ap, ◌∙◌}
use Rattle.std.{proofs.lemmas.Bool.and_parts, proofs.lemmas.Bool.eq-eqb, proofs.lemmas.Bool.false≢true, specs.List.list_all, specs.List.list_any}
use Rattle.std.specs.Prelude.{fold, ◌==◌, if◌then◌else◌}
use Rattle.cci_codec.specs.dcd_base.specs.declared.{capacity.Extent.Extent, ids.HostId.HostId, steps.LogId.LogId}
use Rattle.journal_core.specs.declared.outcome.{Effect.Effect, HeldKind.HeldKind}
use Rattle.extent_list.specs.media_map.specs.region_config.specs.Configurations.{Configuration}
use Rattle.device_rules.{proofs.Leaving.over-leaving, specs.Answers.dropped, specs.Hosts.accepted_after, specs.Hosts.block_after, specs.Hosts.held_after, specs.Hosts.moves, specs.Hosts.offers_after}
use Rattle.device_rules.specs.{Logs.log_after, ResponseOutcomes.unhold, Views.View, Views.view_after}

-- ---- records of a log, and their clearing, change a view in its log alone

abbrev pub only_logs : Effect → Bool
only_logs (Effect.Logged l event) = true
only_logs (Effect.Missed l) = true
only_logs (Effect.Cleared l n) = true
only_logs (Effect.Reset l) = true
only_logs e = false

module _ (c : Configuration) (k : HostId) where
  offers-logs : (offers : List (List Extent)) (e : Effect) → only_logs e ≡ true → offers_after k offers e ≡ offers
  offers-logs offers (Effect.Offer h xs) only = absurd (false≢true only)
  offers-logs offers (Effect.Answer h xs) only = absurd (false≢true only)
  offers-logs offers e only = refl

  accepted-logs : (accepted : List Extent) (e : Effect) → only_logs e ≡ true → accepted_after c k accepted e ≡ accepted
  accepted-logs accepted (Effect.Answer h xs) only = absurd (false≢true only)
  accepted-logs accepted (Effect.Leave h run) only = absurd (false≢true only)
  accepted-logs accepted e only = refl

  held-logs : (kind : HeldKind) (held : List Extent) (e : Effect) → only_logs e ≡ true → held_after k kind held e ≡ held
  held-logs kind held (Effect.Hold h other xs) only = absurd (false≢true only)
  held-logs kind held (Effect.Unhold h other) only = absurd (false≢true only)
  held-logs kind held e only = refl

  block-logs : (r size : ℕ) (e : Effect) → only_logs e ≡ true → block_after r size e ≡ size
  block-logs r size (Effect.Block s new) only = absurd (false≢true only)
  block-logs r size e only = refl

  still-logs : (new : List Effect) → list_all only_logs new ≡ true → list_any (moves k) new ≡ false
  still-logs [] all = refl
  still-logs (e ∷ new) all =
      let parts = and_parts (only_logs e) (list_all only_logs new) all in
      ap (λ b. b || list_any (moves k) new) (one e parts.0) ∙ still-logs new parts.1
    where
      one : (e : Effect) → only_logs e ≡ true → moves k e ≡ false
      one (Effect.Answer h xs) only = absurd (false≢true only)
      one (Effect.Leave h run) only = absurd (false≢true only)
      one e only = refl

  pub view_after-logs : (v : View) (new : List Effect) → list_all only_logs new ≡ true → view_after c k v new ≡ record v { log = fold (log_after (LogId.Host k)) v.log new }
  view_after-logs v new all = λ i. record {
    offers = over-leaving (offers_after k) only_logs offers-logs v.offers new all i;
    accepted = over-leaving (accepted_after c k) only_logs accepted-logs v.accepted new all i;
    changes = if still-logs new all i then v.changes + 1 else v.changes;
    responses = over-leaving (held_after k HeldKind.Responses) only_logs (held-logs HeldKind.Responses) v.responses new all i;
    releases = over-leaving (held_after k HeldKind.Releases) only_logs (held-logs HeldKind.Releases) v.releases new all i;
    log = fold (log_after (LogId.Host k)) v.log new;
    block = λ r. over-leaving (block_after r) only_logs (block-logs r) (v.block r) new all i;
  }

-- ---- a refusal ends the held list of its kind

module _ (c : Configuration) (h : HostId) (v : View) where
  own : (h == h) ≡ true
  own = eq-eqb h h refl

  unhold-responses : (xs : List Extent) → v.responses ≡ xs → view_after c h v (unhold h HeldKind.Responses xs) ≡ record v { responses = [] }
  unhold-responses [] is = λ i. record v { responses = is i }
  unhold-responses (x ∷ xs) is = λ i. record v {
    responses = if own i && true then [] else v.responses;
    releases = if own i && false then [] else v.releases;
  }

  unhold-releases : (xs : List Extent) → v.releases ≡ xs → view_after c h v (unhold h HeldKind.Releases xs) ≡ record v { releases = [] }
  unhold-releases [] is = λ i. record v { releases = is i }
  unhold-releases (x ∷ xs) is = λ i. record v {
    responses = if own i && false then [] else v.responses;
    releases = if own i && true then [] else v.releases;
  }

-- what the host sees after its own refused command
abbrev pub after_refusal : ℕ → View → View
after_refusal opcode v =
    if opcode == 0x4802 then record v { responses = [] }
    else if opcode == 0x4803 then record v { releases = [] }
    else v

pub view_after-dropped : (c : Configuration) (h : HostId) (v : View) (opcode : ℕ) → view_after c h v (dropped h v opcode) ≡ after_refusal opcode v
view_after-dropped c h v opcode = by (opcode == 0x4802) (opcode == 0x4803)
  where
    by : (a b : Bool) → view_after c h v (if a then unhold h HeldKind.Responses v.responses else if b then unhold h HeldKind.Releases v.releases else [])
        ≡ (if a then record v { responses = [] } else if b then record v { releases = [] } else v)
    by true b = unhold-responses c h v v.responses refl
    by false true = unhold-releases c h v v.releases refl
    by false false = refl
