-- A map that is kept by the runs that are told is what the host holds.
use Rattle.std.proofs.Common.{◌≡◌, ℕ, ◌==◌, ◌&&◌, Bool, true, false, List, [], ◌∷◌, ◌++◌, refl, sym, ap, subst, ◌∙◌, append-nil, fold, inl, inr, if◌then◌else◌}
use Rattle.std.proofs.lemmas.{List.append_assoc, Grind.flat_map-append, Grind.fold-append}
use Rattle.dcd_base.specs.{Words.has_granule, declared.ids.HostId.HostId}
use Rattle.region_config.specs.Configurations.{Configuration}
use Rattle.journal_core.specs.{Entries.effects, Holders.holding_after, Holders.holds, declared.entries.Entry.Entry, declared.outcome.Effect.Effect}
use Rattle.device_plain.specs.{device_rules.specs.Legal.right_answer, Lives.IsLife}
use Rattle.dcd_c.specs.{Changes.mapped, Changes.mapped_after, Changes.runs_told, Changes.told_by, Maps.MovesOn, Maps.all_changed, declared.sessions.Session.Session}

if_same : (b m : Bool) → (if b then m else m) ≡ m
if_same true m = refl
if_same false m = refl

-- what one effect tells maps as it gives and takes
told_one : (c : Configuration) (h : HostId) (g : ℕ) (m : Bool) (e : Effect) → fold (mapped_after h g) m (told_by c e) ≡ holding_after h g m e
told_one c h g m (Effect.Take k run) = refl
told_one c h g m (Effect.Leave k run) = refl
told_one c h g m (Effect.Zero run) = if_same ((255 == h) && has_granule run g) m
told_one c h g m (Effect.Offer k xs) = refl
told_one c h g m (Effect.Answer k xs) = refl
told_one c h g m (Effect.Soil run) = refl
told_one c h g m (Effect.Hold k kind xs) = refl
told_one c h g m (Effect.Unhold k kind) = refl
told_one c h g m (Effect.Logged l event) = refl
told_one c h g m (Effect.Missed l) = refl
told_one c h g m (Effect.Cleared l n) = refl
told_one c h g m (Effect.Reset l) = refl
told_one c h g m (Effect.Ref t on) = refl
told_one c h g m (Effect.TagEnd t) = refl
told_one c h g m (Effect.Block r size) = refl

told_all : (c : Configuration) (h : HostId) (g : ℕ) (m : Bool) (es : List Effect) → fold (mapped_after h g) m (runs_told c es) ≡ fold (holding_after h g) m es
unfolding runs_told
told_all c h g m [] = refl
told_all c h g m (e ∷ es) =
    fold-append (mapped_after h g) m (told_by c e) (runs_told c es)
    ∙ ap (λ k. fold (mapped_after h g) k (runs_told c es)) (told_one c h g m e)
    ∙ told_all c h g (holding_after h g m e) es

pub maps_hold : (c : Configuration) (h : HostId) (g : ℕ) (es : List Effect) → mapped h g (runs_told c es) ≡ holds h g es
maps_hold c h g es = told_all c h g false es

-- ---- what was told since

-- A journal leads to the device, and its effects behind these entries are what was kept as changed.
pub record HasChanged (before : List Entry) (changed : List (List Effect)) (now : Session) : Type 0 where
  pub life : List Entry
  pub leads : IsLife life now.device
  pub tells : effects life ≡ effects before ++ all_changed changed

pub changed_on : (changed : List (List Effect)) (before : List Entry) (old now : Session) → IsLife before old.device → MovesOn old changed now → HasChanged before changed now
changed_on [] before old now leads same = record {
  life = before;
  leads = subst (λ (s : Session). IsLife before s.device) same leads;
  tells = sym (append-nil (effects before));
}
changed_on (es ∷ later) before old now leads (mid, inl did, is, rest) =
    let e : Entry = record {
      pass = 0;
      line = 0;
      actor = did.actor;
      act = did.act;
      reply = did.reply;
      effects = (right_answer old.device.config before did.actor did.act).1;
      stamp = record { number = 0; count = 0 };
    } in
    let step = did.steps.step in
    let on = changed_on later (before ++ e ∷ []) mid now
    (step.led before leads e refl refl (record { allowed = step.allowed; reply = step.reply before leads; effects = refl })) rest in
    let new : effects (e ∷ []) ≡ es = append-nil e.effects ∙ sym (did.steps.last before leads) ∙ is in
    record {
      life = on.life;
      leads = on.leads;
      tells = on.tells ∙ ap (λ xs. xs ++ all_changed later) (flat_map-append (λ (x : Entry). x.effects) before (e ∷ []) ∙ ap (λ xs. effects before ++ xs) new)
          ∙ append_assoc (effects before) es (all_changed later);
    }
changed_on (es ∷ later) before old now leads (mid, inr rested, is, rest) =
    let on = changed_on later before mid now (subst (λ d. IsLife before d) (sym rested.device) leads) rest in
    let none : es ≡ [] = sym is ∙ rested.last in
    record {
      life = on.life;
      leads = on.leads;
      tells = on.tells ∙ ap (λ (xs : List Effect). effects before ++ (xs ++ all_changed later)) (sym none);
    }
