-- What a turn of the sanitizer zeroes is what a scrub zeroes.
use Rattle.std.proofs.Common.{◌≡◌, ℕ, zero, suc, ◌+◌, ◌<◌, min, cond, List, [], ◌∷◌, length, map, get_or, take, drop, refl, ap, sym, ◌∙◌, arith}
use Rattle.std.proofs.{Math.Seq.drop-length, lemmas.List.drop_more, lemmas.List.get_or_default, lemmas.List.take_min, lemmas.List.Sums.length-filter, lemmas.List.Sums.sum_by-cons}
use Rattle.std.specs.{List.filter, List.range_with_len, Prelude.count_by}
use Rattle.event_records.specs.dcd_base.specs.declared.media.Run.{Run}
use Rattle.extent_list.specs.media_map.specs.region_config.specs.{Configurations.Configuration, Granules.granule_total, Granules.same_region}
use Rattle.device_state.specs.{StateAfter.IsStateAfter, declared.state.State.State, device_rules.specs.Answers.scrubbed as rules_scrubbed, device_rules.specs.Answers.zeroes}
use Rattle.device_state.specs.device_rules.specs.{GranuleCells.IsCell, GranuleCells.status_of, Tags.is_dirty, Tags.status}
use Rattle.selection.specs.granule_map.specs.{Choices.joined, StateLists.count_of, StateLists.is_dirty_at, StateLists.is_dirty_state, StateLists.same_state, Tables.CellTable, Tables.cell_at}
use Rattle.selection.specs.granule_map.specs.declared.states.GranuleState.{GranuleState}
use Rattle.journal_core.specs.{Entries.effects, declared.acts.Reply.Reply, declared.entries.Entry.Entry, declared.outcome.Effect.Effect}
use Rattle.sanitizer.{specs.Turns.granules_of_runs, specs.Turns.run_of_pair, specs.Turns.scrub_runs, specs.Turns.lowest_dirty, proofs.Scrubbed.scrub_runs_agree, proofs.Scrubbed.scrubbed_agree}
use Rattle.manager_commands.specs.Scrub.{IsZeroed}

-- ---- which granules are dirty

dirty_is : (s : GranuleState) → is_dirty_state s ≡ is_dirty (status_of s)
dirty_is GranuleState.Free = refl
dirty_is (GranuleState.Reserved h) = refl
dirty_is (GranuleState.Held h) = refl
dirty_is (GranuleState.Tagged t) = refl
dirty_is GranuleState.Dirty = refl

-- a granule is dirty by its state just where it is by the effects so far
pub same_dirty : (c : Configuration) (past : List Effect) (t : CellTable) (g : ℕ) → g < length t.states → IsCell c past g (cell_at t g) →
    is_dirty_at t.states g ≡ is_dirty (status c g past)
same_dirty c past t g below is =
    ap is_dirty_state (get_or_default t.states g GranuleState.Free GranuleState.Dirty below)
    ∙ dirty_is (cell_at t g).state
    ∙ ap is_dirty is.status_is

-- ---- how many are dirty

dirty_one : (s : GranuleState) → same_state GranuleState.Dirty s ≡ is_dirty_state s
dirty_one GranuleState.Free = refl
dirty_one (GranuleState.Reserved h) = refl
dirty_one (GranuleState.Held h) = refl
dirty_one (GranuleState.Tagged t) = refl
dirty_one GranuleState.Dirty = refl

dirty_many : (states : List GranuleState) (a n : ℕ) → a + n ≡ length states →
    count_by (is_dirty_at states) (range_with_len a n) ≡ count_by (same_state GranuleState.Dirty) (drop a states)
dirty_many states a zero whole =
    let end : length states ≡ a = omega (arith, whole) in
    sym (ap (count_by (same_state GranuleState.Dirty)) (ap (λ m. drop m states) (sym end) ∙ drop-length states))
dirty_many states a (suc n) whole =
    let here = get_or states a GranuleState.Free in
    sum_by-cons (λ g. cond (is_dirty_at states g) 1 0) a (range_with_len (a + 1) n)
    ∙ ap (λ m. cond (is_dirty_at states a) 1 0 + m) (dirty_many states (a + 1) n (omega (arith, whole)))
    ∙ ap (λ b. cond b 1 0 + count_by (same_state GranuleState.Dirty) (drop (a + 1) states)) (sym (dirty_one (get_or states a GranuleState.Free)))
    ∙ sym (sum_by-cons (λ s. cond (same_state GranuleState.Dirty s) 1 0) here (drop (a + 1) states))
    ∙ ap (count_by (same_state GranuleState.Dirty)) (sym (drop_more states a GranuleState.Free (omega (arith, whole))))

-- no more are zeroed than are dirty
pub no_more : (c : Configuration) (states : List GranuleState) (n many : ℕ) → length states ≡ granule_total c → many ≡ count_of states GranuleState.Dirty →
    lowest_dirty c (is_dirty_at states) (min n many) ≡ lowest_dirty c (is_dirty_at states) n
no_more c states n many long count =
    let dirty = filter (is_dirty_at states) (range_with_len 0 (granule_total c)) in
    let all : many ≡ length (filter (is_dirty_at states) (range_with_len 0 (granule_total c))) =
    count ∙ sym (dirty_many states 0 (granule_total c) (omega (arith, long))) ∙ sym (length-filter (is_dirty_at states) (range_with_len 0 (granule_total c))) in
    ap (λ m. take (min n m) dirty) all ∙ take_min n dirty

-- ---- what is zeroed

pub map_twice : {X Y Z : Type 0} (f : X → Y) (g : Y → Z) (xs : List X) → map g (map f xs) ≡ map (λ x. g (f x)) xs
map_twice f g [] = refl
map_twice f g (x ∷ xs) = ap (λ ys. g (f x) ∷ ys) (map_twice f g xs)

module _ (c : Configuration) (before : List Entry) (s : State) (kept : IsStateAfter c before s) (n : ℕ) where
  agree : (g : ℕ) → g < granule_total c → is_dirty_at s.granules.states g ≡ is_dirty (status c g (effects before))
  agree g below = same_dirty c (effects before) s.granules g (omega (arith, below, kept.granule_count)) (kept.cells g below)

  pub same_granules : lowest_dirty c (is_dirty_at s.granules.states) n ≡ rules_scrubbed c (effects before) n
  same_granules = scrubbed_agree c (is_dirty_at s.granules.states) (λ g. is_dirty (status c g (effects before))) n agree

  pub same_zeroes : map Effect.Zero (scrub_runs c (is_dirty_at s.granules.states) n) ≡ zeroes c (rules_scrubbed c (effects before) n)
  same_zeroes =
      ap (λ runs. map Effect.Zero runs) (scrub_runs_agree c (is_dirty_at s.granules.states) (λ g. is_dirty (status c g (effects before))) n agree)
      ∙ map_twice run_of_pair Effect.Zero (joined (same_region c) (rules_scrubbed c (effects before) n))

-- So many granules are zeroed as by a scrub.
pub is_zeroed : (c : Configuration) (s : State) (n : ℕ) (runs : List Run) (granules : ℕ) (changes : List Effect) → granules ≡ granules_of_runs runs → changes ≡ map Effect.Zero runs →
    runs ≡ scrub_runs c (is_dirty_at s.granules.states) n → granules_of_runs runs ≡ length (lowest_dirty c (is_dirty_at s.granules.states) n) →
    IsZeroed c s n (record { granules = granules; changes = changes })
is_zeroed c s n runs granules changes count new runs_are total = λ before legal kept.
    let zeroed = new ∙ ap (λ rs. map Effect.Zero rs) runs_are ∙ same_zeroes c before s kept n in
    let many = count ∙ total ∙ ap length (same_granules c before s kept n) in
    (λ i. (Reply.Scrubbed (many i), zeroed i))
