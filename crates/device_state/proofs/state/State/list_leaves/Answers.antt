use Rattle.std.proofs.Common.{◌≡◌, ◌≤◌, ◌∙◌, List, ap, arith, get_or, length, subst, sym, take}
use Rattle.std.{specs.Prelude.All, specs.Prelude.fold, proofs.lemmas.List.Elements.All-take}
use Rattle.extent_list.specs.HostLists.{Lists}
use Rattle.journal_core.specs.declared.outcome.Effect.{Effect}
use Rattle.device_state.proofs.{Leaves.runs_fit, Leaves.same_room, Listed.fits_at, Listed.listed_one, Listed.room_one}
use Rattle.device_state.specs.{EnteredLists.HasPlaces, EnteredLists.lists_of, EnteredLists.room_by, Leaves.HasRun, Leaves.IsLeaving, Stages.IsListedOver, StateAfter.no_part, StateAfter.part_of}
use Rattle.device_state.proofs.state.State.list_leaves.Goals as goal

pub list_at_once-requires-clause-places : goal.list_at_once-requires-clause-places
list_at_once-requires-clause-places c =
    let at = c.lists_in.ensures no_part ∙ (λ j. (get_or (c.as_slice.ensures.value j) c.args.host no_part).lists) in
    let few = c.leaving_front-front.ensures.places (omega (arith, c.if-front-gt1.true)) in
    omega (arith, few, ap (λ (l : Lists). length l.accepted) at, c.split_at.ensures.front_len)

pub list_at_once-requires-clause-runs : goal.list_at_once-requires-clause-runs
list_at_once-requires-clause-runs c =
    let conf = c.args.config.now in
    let h = c.args.host in
    let es = c.args.effects.now in
    let old = c.args.self.now in
    subst (λ (xs : List Effect). All (HasRun conf h) xs) (sym c.split_at.ensures.front)
    (All-take (HasRun conf h) c.leaving_front-front.result es (runs_fit conf h (lists_of old) old.tags.spare es c.requires.fits))

pub list_at_once-requires-clause-leaving : goal.list_at_once-requires-clause-leaving
list_at_once-requires-clause-leaving c =
    subst (λ (xs : List Effect). All (IsLeaving c.args.host) xs) (sym c.split_at.ensures.front) c.leaving_front-front.ensures.leaving

pub returns-then-front-gt1-clause-listed : goal.returns-then-front-gt1-clause-listed
returns-then-front-gt1-clause-listed c =
    subst (λ (xs : List Effect). IsListedOver c.args.config.now xs c.args.self.now c.list_at_once.new.self) c.split_at.ensures.front c.list_at_once.ensures.listed

pub returns-then-front-gt1-clause-spare : goal.returns-then-front-gt1-clause-spare
returns-then-front-gt1-clause-spare c =
    let old = c.args.self.now in
    omega (
      arith,
      c.list_at_once.ensures.spare,
      same_room c.args.config.now c.args.host (take c.leaving_front-front.result c.args.effects.now) old.tags.spare c.leaving_front-front.ensures.leaving,
    )

pub list-requires-clause-places : goal.list-requires-clause-places
list-requires-clause-places c =
    let conf = c.args.config.now in
    let old = c.args.self.now in
    let e = c.index-effects-0.result in
    subst (HasPlaces conf (lists_of old) old.tags.spare) (sym c.index-effects-0.is) (fits_at conf (lists_of old) old.tags.spare c.args.effects.now 0 e c.requires.some c.requires.fits)

pub returns-else-front-gt1-clause-listed : goal.returns-else-front-gt1-clause-listed
returns-else-front-gt1-clause-listed c =
    listed_one c.args.config.now c.args.self.now c.list.new.self c.args.effects.now c.index-effects-0.result c.requires.some c.index-effects-0.is c.list.ensures.listed

pub returns-else-front-gt1-clause-spare : goal.returns-else-front-gt1-clause-spare
returns-else-front-gt1-clause-spare c =
    omega (arith, c.list.ensures.spare, room_one c.args.self.now.tags.spare c.args.effects.now c.index-effects-0.result c.requires.some c.index-effects-0.is)
