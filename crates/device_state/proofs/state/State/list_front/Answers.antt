use Rattle.std.proofs.Common.{arith, sym, subst}
use Rattle.device_state.{specs.EnteredLists.HasPlaces, specs.EnteredLists.lists_of, proofs.Listed.fits_at, proofs.Listed.listed_one, proofs.Listed.room_one}
use Rattle.device_state.proofs.state.State.list_front.Goals as goal

pub list-requires-clause-places : goal.list-requires-clause-places
list-requires-clause-places c =
    let conf = c.args.config.now in
    let old = c.args.self.now in
    let e = c.index-effects-0-in_default.result in
    subst (HasPlaces conf (lists_of old) old.tags.spare) (sym c.index-effects-0-in_default.is) (fits_at conf (lists_of old) old.tags.spare c.args.effects.now 0 e c.requires.some c.requires.fits)

pub returns-in_default-clause-listed : goal.returns-in_default-clause-listed
returns-in_default-clause-listed c =
    listed_one c.args.config.now c.args.self.now c.list.new.self c.args.effects.now c.index-effects-0-in_default.result c.requires.some c.index-effects-0-in_default.is c.list.ensures.listed

pub returns-in_default-clause-spare : goal.returns-in_default-clause-spare
returns-in_default-clause-spare c =
    omega (arith, c.list.ensures.spare, room_one c.args.self.now.tags.spare c.args.effects.now c.index-effects-0-in_default.result c.requires.some c.index-effects-0-in_default.is)
