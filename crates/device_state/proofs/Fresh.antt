-- What a device keeps at first.
use Rattle.std.proofs.Common.{◌≡◌, ℕ, ◌<◌, Bool, true, false, ◌&&◌, ◌||◌, not, List, [], ◌∷◌, length, get_or, replicate, refl, ap, sym, subst, ◌∙◌, arith}
use Rattle.std.proofs.lemmas.{List.ext_get_or, List.get_or-replicate, List.length-map, List.length-replicate, List.FromFn.length-enumerate_from, Nat.Bits.bit_at-zero}
use Rattle.std.specs.{List.enumerate_from, List.list_any, Prelude.◌==◌, Prelude.if◌then◌else◌}
use Rattle.cci_codec.specs.dcd_base.specs.{declared.ids.HostId.HostId, declared.steps.LogId.LogId, Hosts.has_host}
use Rattle.event_log.{proofs.Histories.begins, specs.Logs.empty_log, specs.Logs.IsLogOf}
use Rattle.device_rules.specs.{GranuleCells.IsCell, Tags.Dirty, Tags.Free, Tags.Held, Tags.Offered, Tags.Status, Tags.Tagged, Tags.is_offered, Tags.status, Views.view_of, TagTable.IsTable}
use Rattle.granule_map.specs.{declared.states.GranuleState.GranuleState, Tables.CellTable, Tables.cell_at}
use Rattle.device_state.specs.{StateAfter.IsStateAfter, StateAfter.IsPart, StateAfter.no_part, declared.state.State.State}
use Rattle.extent_list.specs.media_map.specs.region_config.{proofs.PresentBlocks.region_spec-with_blocks, specs.Configurations.Configuration}
use Rattle.extent_list.specs.media_map.specs.region_config.specs.Granules.{granule_total, hosts_of, no_region, region_of, region_spec, with_blocks}
use Rattle.extent_list.specs.media_map.specs.region_config.specs.declared.region_spec.RegionSpec.{RegionSpec}

-- the configuration with its own blocks
pub own_blocks : (c : Configuration) → with_blocks c (λ r. (region_spec c r).block) ≡ c
own_blocks c = λ i. record { hosts = c.hosts; regions = same i; bases = c.bases }
  where
    long : length (with_blocks c (λ r. (region_spec c r).block)).regions ≡ length c.regions
    long = length-map (enumerate_from 0 c.regions) (λ (spec : ℕ × RegionSpec). record spec.1 { block = (region_spec c spec.0).block }) ∙ length-enumerate_from 0 c.regions

    same : (with_blocks c (λ r. (region_spec c r).block)).regions ≡ c.regions
    same = ext_get_or no_region (with_blocks c (λ r. (region_spec c r).block)).regions c.regions long
        (λ r below. region_spec-with_blocks c (λ r. (region_spec c r).block) r (omega (arith, below, long)))

-- ---- granules

-- no member passes a test that fails always
never : {X : Type 0} (xs : List X) → list_any (λ x. false) xs ≡ false
never [] = refl
never (x ∷ xs) = never xs

-- what a granule is that no open tag has and that nobody took or soiled
abbrev pub status_when : Bool → Bool → Bool → Bool → Status
status_when shareable held offered sanitize =
    if not shareable && held then Held
    else if not shareable && offered then Offered
    else if false then Tagged
    else if (sanitize && false) || false then Dirty
    else Free

untouched : (shareable sanitize : Bool) → status_when shareable false false sanitize ≡ Free
untouched true true = refl
untouched true false = refl
untouched false true = refl
untouched false false = refl

first_status : (c : Configuration) (g : ℕ) → status c g [] ≡ Free
first_status c g =
    let spec = region_spec c (region_of c g) in
    ap (λ held. status_when spec.shareable held (is_offered c g []) spec.sanitize) (never (hosts_of c))
    ∙ ap (λ offered. status_when spec.shareable false offered spec.sanitize) (never (hosts_of c))
    ∙ untouched spec.shareable spec.sanitize

clean : (sanitize : Bool) → false ≡ ((sanitize && false) || false)
clean true = refl
clean false = refl

pub first_cell : (c : Configuration) (g : ℕ) → IsCell c [] g (record { state = GranuleState.Free; unclean = false })
first_cell c g = record { status_is = sym (first_status c g); unclean_is = clean (region_spec c (region_of c g)).sanitize }

first_cells : (c : Configuration) (t : CellTable) → t.states ≡ replicate (granule_total c) GranuleState.Free → t.unclean ≡ replicate (granule_total c) false →
    (g : ℕ) → g < granule_total c → IsCell c [] g (cell_at t g)
first_cells c t states unclean g below =
    let state = ap (λ xs. get_or xs g GranuleState.Dirty) states ∙ get_or-replicate (granule_total c) g GranuleState.Free GranuleState.Dirty below in
    let marks = ap (λ xs. get_or xs g true) unclean ∙ get_or-replicate (granule_total c) g false true below in
    subst (IsCell c [] g) (λ i. record { state = sym state i; unclean = sym marks i }) (first_cell c g)

-- ---- hosts

first_part : (c : Configuration) (h : HostId) → IsPart h (view_of c h []) no_part
first_part c h = record { lists_are = refl; log_is = record { is = sym (begins 64).0; told = (begins 64).1 } }

-- ---- all

pub first_kept : (c : Configuration) (s : State) → s.present ≡ c → s.hosts.items ≡ replicate c.hosts no_part → IsLogOf LogId.Manager empty_log s.manager →
    s.granules.states ≡ replicate (granule_total c) GranuleState.Free → s.granules.unclean ≡ replicate (granule_total c) false →
    s.holders ≡ replicate (granule_total c) 0 → s.tags.entries ≡ [] → IsStateAfter c [] s
first_kept c s present hosts manager states unclean holders tags = record {
  present_is = present ∙ sym (own_blocks c);
  host_count = ap length hosts ∙ length-replicate c.hosts no_part;
  parts = λ h below. subst (IsPart h (view_of c h [])) (sym (ap (λ xs. get_or xs h no_part) hosts ∙ get_or-replicate c.hosts h no_part no_part below)) (first_part c h);
  manager_log = manager;
  granule_count = ap length states ∙ length-replicate (granule_total c) GranuleState.Free;
  cells = first_cells c s.granules states unclean;
  holder_count = ap length holders ∙ length-replicate (granule_total c) 0;
  held = λ g h granule host. ap (λ xs. has_host (get_or xs g 0) h) holders ∙ ap (λ b. has_host b h) (get_or-replicate (granule_total c) g 0 0 granule) ∙ ap (λ n. n == 1) (bit_at-zero h);
  no_others = λ g h granule other. ap (λ xs. has_host (get_or xs g 0) h) holders ∙ ap (λ b. has_host b h) (get_or-replicate (granule_total c) g 0 0 granule) ∙ ap (λ n. n == 1) (bit_at-zero h);
  tags_are = subst (IsTable c []) (sym tags) (record { tags_are = refl; each = tt });
}
