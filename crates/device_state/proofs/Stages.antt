-- What is kept after one more effect.
use Rattle.std.proofs.Common.{◌≡◌, ℕ, ◌+◌, ◌<◌, List, length, get_or, take, refl, sym, ap, ◌∙◌, arith}
use Rattle.std.{specs.Prelude.fold, proofs.lemmas.List.Sums.fold_more}
use Rattle.cci_codec.specs.dcd_base.specs.declared.{ids.HostId.HostId, steps.LogId.LogId}
use Rattle.event_log.specs.LogStates.{LogState}
use Rattle.granule_map.specs.Tables.{Cell, cell_at}
use Rattle.extent_list.specs.{HostLists.Lists, media_map.specs.region_config.specs.Configurations.Configuration}
use Rattle.journal_core.specs.declared.outcome.Effect.{Effect}
use Rattle.offer_core.specs.Offerings.{oldest_of}
use Rattle.device_rules.specs.GranuleCells.{cell_after, cell_over, ended_run, unoffered_extent}
use Rattle.device_state.specs.{Entered.log_by, Entered.oldest_in, Entered.runs_found, Entered.runs_in, Granules.CellsAfter, Granules.CellsOver, Stages.ArePartsAfter, Stages.PartsOver}
use Rattle.device_state.specs.{StateAfter.part_of, Updates.IsOfDevice, declared.state.State.State}
use Rattle.tag_refs.specs.Tables.{TagTable, entry_with}

-- ---- the hosts' parts and the manager's log

pub parts_more : (old mid new : State) (es : List Effect) (i : ℕ) (e : Effect) → i < length es → e ≡ get_or es i e →
    PartsOver (take i es) old mid → ArePartsAfter e mid new → PartsOver (take (i + 1) es) old new
parts_more old mid new es i e below is so_far one = record {
  hosts = one.hosts ∙ so_far.hosts;
  manager = one.manager ∙ ap (log_by LogId.Manager mid.manager) is
      ∙ ap (λ (l : LogState). log_by LogId.Manager l (get_or es i e)) so_far.manager ∙ sym (fold_more (log_by LogId.Manager) old.manager es i e below);
  logs = λ h host. one.logs h (omega (arith, host, so_far.hosts)) ∙ ap (log_by (LogId.Host h) (part_of mid h).log) is
      ∙ ap (λ (l : LogState). log_by (LogId.Host h) l (get_or es i e)) (so_far.logs h host) ∙ sym (fold_more (log_by (LogId.Host h)) (part_of old h).log es i e below);
  lists = λ h host. one.lists h (omega (arith, host, so_far.hosts)) ∙ so_far.lists h host;
}

-- ---- no effect changes offers or tags here, so it makes of a granule what it would have made of it at first

as_at_first : (c : Configuration) (old mid : State) → ((h : HostId) → h < c.hosts → oldest_in mid h ≡ oldest_in old h) → mid.tags ≡ old.tags →
    (e : Effect) → IsOfDevice c e → (g : ℕ) (cell : Cell) → cell_after c (oldest_in mid) (runs_in mid) g cell e ≡ cell_after c (oldest_in old) (runs_in old) g cell e
as_at_first c old mid offers tags (Effect.Answer h xs) is g cell = ap (fold (unoffered_extent c h g) cell) (offers h is)
as_at_first c old mid offers tags (Effect.TagEnd t) is g cell = ap (λ (s : TagTable). fold (ended_run g) cell (runs_found (entry_with t s.entries))) tags
as_at_first c old mid offers tags (Effect.Offer h xs) is g cell = refl
as_at_first c old mid offers tags (Effect.Take h run) is g cell = refl
as_at_first c old mid offers tags (Effect.Leave h run) is g cell = refl
as_at_first c old mid offers tags (Effect.Zero run) is g cell = refl
as_at_first c old mid offers tags (Effect.Soil run) is g cell = refl
as_at_first c old mid offers tags (Effect.Hold h kind xs) is g cell = refl
as_at_first c old mid offers tags (Effect.Unhold h kind) is g cell = refl
as_at_first c old mid offers tags (Effect.Logged l event) is g cell = refl
as_at_first c old mid offers tags (Effect.Missed l) is g cell = refl
as_at_first c old mid offers tags (Effect.Cleared l n) is g cell = refl
as_at_first c old mid offers tags (Effect.Reset l) is g cell = refl
as_at_first c old mid offers tags (Effect.Ref t on) is g cell = refl
as_at_first c old mid offers tags (Effect.Block r size) is g cell = refl

pub cells_more : (c : Configuration) (old mid new : State) (es : List Effect) (i : ℕ) (e : Effect) → i < length es → e ≡ get_or es i e →
    length old.hosts.items ≡ c.hosts → IsOfDevice c e → PartsOver (take i es) old mid → mid.tags ≡ old.tags →
    CellsOver c (take i es) old mid.granules → CellsAfter c e mid new.granules → CellsOver c (take (i + 1) es) old new.granules
cells_more c old mid new es i e below is hosts of_device parts tags so_far one = record {
  granules = one.granules ∙ so_far.granules;
  each = λ g inside.
      one.each g (omega (arith, inside, so_far.granules))
      ∙ as_at_first c old mid offers tags e of_device g (cell_at mid.granules g)
      ∙ ap (λ (cell : Cell). cell_after c (oldest_in old) (runs_in old) g cell e) (so_far.each g inside)
      ∙ ap (cell_after c (oldest_in old) (runs_in old) g (cell_over c (oldest_in old) (runs_in old) g (cell_at old.granules g) (take i es))) is
      ∙ sym (fold_more (cell_after c (oldest_in old) (runs_in old) g) (cell_at old.granules g) es i e below);
}
  where
    offers : (h : HostId) → h < c.hosts → oldest_in mid h ≡ oldest_in old h
    offers h host = ap (λ (l : Lists). oldest_of l.offers) (parts.lists h (omega (arith, host, hosts)))
