-- The invariant gives the holdings, and holds before any entry.
use Rattle.std.proofs.Common.{◌≡◌, ℕ, zero, suc, ◌+◌, ◌%◌, ◌<◌, ◌≤◌, Bool, true, false, not, ◌&&◌, List, [], length, refl, ap, sym, subst, inl, inr, arith, leb, ltb, eqb}
use Rattle.std.specs.List.{list_all, range_with_len}
use Rattle.std.proofs.lemmas.Bool.{and_from, cases_Bool, cases_lt, false≢true, le-leb, lt-ltb, ne_eqb, not_from_false, or_left, or_right}
use Rattle.cci_codec.specs.dcd_base.specs.{declared.capacity.Extent.Extent, declared.ids.HostId.HostId, declared.media.Run.Run, Words.has_granule, Words.has_in_runs, Words.has_tag}
use Rattle.extent_list.specs.{Listing.is_aligned, Listing.lies_in_region, media_map.specs.Places.region_at, media_map.specs.Places.run_of}
use Rattle.extent_list.specs.media_map.specs.region_config.{proofs.PresentBlocks.region_spec-with_blocks, specs.Configurations.Configuration}
use Rattle.extent_list.specs.media_map.specs.region_config.specs.{Granules.base_of, Granules.granule_size, Granules.region_spec, Granules.with_blocks, Soundness.IsSound}
use Rattle.journal_core.specs.{declared.entries.Entry.Entry, declared.outcome.Effect.Effect, Entries.effects}
use Rattle.device_rules.proofs.{Homes.base_same, Homes.made_region, Homes.supported_whole, ListSteps.each-list_all}
use Rattle.device_rules.specs.{Invariants.Holdings, Invariants.is_placed, Invariants.is_under_tag, Pictures.Picture, Pictures.extents_at, Pictures.picture_of}
use Rattle.device_rules.specs.{Standing.IsHome, Standing.IsMade, Standing.IsUnder, Standing.Sound, Standing.Stands, Tags.last_offer, Tags.open_tags, Tags.tag_runs, Views.view_of}

pub range_all : (p : ℕ → Bool) (a n : ℕ) → ((k : ℕ) → a ≤ k → k < a + n → p k ≡ true) → list_all p (range_with_len a n) ≡ true
range_all p a zero each = refl
range_all p a (suc n) each = and_from (p a) _ (each a (omega arith) (omega arith)) (range_all p (a + 1) n (λ k low high. each k (omega (arith, low)) (omega (arith, high))))

pub in_run : (run : Run) (g : ℕ) → run.first ≤ g → g < run.first + run.count → has_granule run g ≡ true
in_run run g low high = and_from (leb run.first g) (ltb g (run.first + run.count)) (le-leb _ _ low) (lt-ltb _ _ high)

-- what is made of present blocks lies in its region and is aligned to them
pub made_lies : (c : Configuration) (size : ℕ) (h : HostId) (r : ℕ) (x : Extent) → IsMade c size h r x → lies_in_region c h r x ≡ true
made_lies c size h r x m =
    and_from (ltb r (length c.regions) && leb (base_of c h r) x.start) (leb (x.start + x.length) (base_of c h r + (region_spec c r).length))
    (and_from (ltb r (length c.regions)) (leb (base_of c h r) x.start) (lt-ltb _ _ m.known) (le-leb _ _ m.from)) (le-leb _ _ m.within)

pub made_aligned : (c : Configuration) (b : ℕ → ℕ) (h : HostId) (r : ℕ) (x : Extent) → IsMade c (b r) h r x → is_aligned (with_blocks c b) h r x ≡ true
made_aligned c b h r x m =
    let block : (region_spec (with_blocks c b) r).block ≡ b r = ap (λ spec. spec.block) (region_spec-with_blocks c b r m.known) in
    rw (block, base_same c b h r, m.begins, m.ends) refl

module _ (c : Configuration) (sound : IsSound c) (p : Picture) (s : Stands c p) where
  -- present blocks are made of granules
  pub present_whole : (r : ℕ) → r < length c.regions → p.block r % granule_size c r ≡ 0
  present_whole r known = supported_whole c r (p.block r) (s.blocks r known)

  -- an extent of a host lies where its first address does
  pub home_made : (h : HostId) (x : Extent) → h < c.hosts → IsHome c p h x → IsMade c (p.block (region_at c h x.start)) h (region_at c h x.start) x
  home_made h x host a =
      let at = made_region c h sound host (p.block a.region) a.region x (present_whole a.region a.made.known) a.made in
      subst (λ r. IsMade c (p.block r) h r x) (sym at) a.made

  pub no_extents : (h : HostId) → c.hosts ≤ h → extents_at p h ≡ []
  no_extents h past = rw (s.no_accepted h past, s.no_offers h past) refl

under_tag : (c : Configuration) (past : List Effect) (h : HostId) (x : Extent) → IsUnder c (picture_of c past) h x → is_under_tag c past h x ≡ true
under_tag c past h x u =
    let shared : Bool = (region_spec c (region_at c h x.start)).shareable in
    let run : Run = run_of c h x in
    let covered : ℕ → Bool = has_in_runs (tag_runs c (last_offer x.tag past)) in
    let whole : Bool = has_tag (open_tags c past) x.tag && list_all covered (range_with_len run.first run.count) in
    elim (cases_Bool shared) [
      | inr private ↦ or_left (not shared) whole (not_from_false shared private)
      | inl is ↦ (let a = u is in or_right (not shared) whole (and_from _ _ a.open_tag (range_all covered run.first run.count (λ k low high. a.covered k (in_run run k low high)))))
    ]

-- After any journal whose picture is sound, the holdings hold.
pub sound_gives_holdings : (c : Configuration) → IsSound c → (journal : List Entry) → Sound c (picture_of c (effects journal)) → Holdings c journal
sound_gives_holdings c sound journal sound_now =
    let past : List Effect = effects journal in
    let p : Picture = picture_of c past in
    let s : Stands c p = sound_now.stands in record {
      held = s.held;
      once = λ h g private. s.once h g;
      one = λ h k g private a b. s.one h k g private a b;
      apart = s.apart;
      tagged = λ h. each-list_all (IsUnder c p h) (is_under_tag c past h) (under_tag c past h) (extents_at p h) (s.under h);
      few = s.few;
      placed = λ h. elim (cases_lt h c.hosts) [
        | inr past_all ↦ ap (list_all (is_placed c h (view_of c h journal))) (no_extents c sound p s h past_all)
        | inl host ↦ each-list_all (IsHome c p h) (is_placed c h (view_of c h journal)) (λ x a.
            let m = home_made c sound p s h x host a in
            let r : ℕ = region_at c h x.start in
            let long : eqb x.length 0 ≡ false = ne_eqb x.length 0 (λ e. absurd (omega (arith, e, m.some))) in
            and_from (lies_in_region c h r x && is_aligned (with_blocks c p.block) h r x) (not (eqb x.length 0))
            (and_from (lies_in_region c h r x) (is_aligned (with_blocks c p.block) h r x) (made_lies c (p.block r) h r x m) (made_aligned c p.block h r x m))
            (not_from_false (eqb x.length 0) long)) (extents_at p h) (s.home h)
      ];
    }

-- Before any entry nothing is held, offered or open, and each region has the block of the configuration.
pub first_is_sound : (c : Configuration) → IsSound c → Sound c (picture_of c [])
first_is_sound c sound = record {
  stands = record {
    no_accepted = λ h past. refl;
    no_offers = λ h past. refl;
    held = λ h g. refl;
    once = λ h g. omega arith;
    one = λ h k g private a b. absurd (omega (arith, a));
    apart = λ g. omega arith;
    few = λ h. omega arith;
    home = λ h. tt;
    under = λ h. tt;
    together = λ h. tt;
    opened = λ t e. absurd (false≢true e);
    blocks = λ r known. (sound.each r known).supported;
  };
  live = λ t e. absurd (false≢true e);
}
