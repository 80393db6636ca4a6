use Rattle.std.proofs.Common.{◌≡◌, ◌+◌, ◌≤◌, ◌++◌, ◌∙◌, List, ap, arith, drop, subst, sym, take}
use Rattle.std.{specs.Prelude.All, specs.Prelude.fold, proofs.Math.Seq.take-add, proofs.lemmas.List.take_all, proofs.lemmas.List.Elements.All-drop}
use Rattle.journal_core.specs.declared.outcome.Effect.{Effect}
use Rattle.device_state.proofs.Listed.{fits_behind, fits_more, listed_behind, room_behind, room_left}
use Rattle.device_state.specs.{EnteredLists.Fits, EnteredLists.lists_of, EnteredLists.room_by, Stages.IsListedOver, Updates.IsOfDevice, declared.state.State.State}
use Rattle.device_state.proofs.state.State.list_all.Goals as goal

pub list_front-done-requires-clause-of_device : goal.list_front-done-requires-clause-of_device
list_front-done-requires-clause-of_device c =
    let conf = c.args.config.now in
    let es = c.args.effects.now in
    subst (λ (rest : List Effect). All (IsOfDevice conf) rest) (sym c.split_at.ensures.back) (All-drop (IsOfDevice conf) c.loop-done.done es c.requires.of_device)

pub list_front-done-requires-clause-fits : goal.list_front-done-requires-clause-fits
list_front-done-requires-clause-fits c =
    let conf = c.args.config.now in
    let es = c.args.effects.now in
    let done = c.loop-done.done in
    let old = c.args.self.now in
    let mid = c.loop-done.self in
    let so_far = c.loop-done.invariant in
    subst (λ (rest : List Effect). Fits conf (lists_of mid) mid.tags.spare rest) (sym c.split_at.ensures.back)
    (fits_more conf (lists_of mid) (fold room_by 1 (take done es)) mid.tags.spare (drop done es) so_far.room
    (subst (λ lists. Fits conf lists (fold room_by 1 (take done es)) (drop done es)) (sym so_far.listed.listed.lists_are) (fits_behind conf (lists_of old) 1 done es c.requires.fits)))

pub loop-done-preserved : goal.loop-done-preserved
loop-done-preserved c =
    let conf = c.args.config.now in
    let es = c.args.effects.now in
    let done = c.loop-done.done in
    let n = c.list_front-done.result in
    let old = c.args.self.now in
    let mid = c.loop-done.self in
    let new = c.list_front-done.new.self in
    let so_far = c.loop-done.invariant in
    let one = c.list_front-done.ensures in
    let back = c.split_at.ensures.back in
    let whole : take done es ++ take n (drop done es) ≡ take (done + n) es = sym (take-add done n es) in
    let left = subst (λ (rest : List Effect). fold room_by mid.tags.spare (take n rest) ≤ new.tags.spare) back one.spare in
    record {
      within = omega (arith, one.known, c.split_at.ensures.back_len, so_far.within);
      listed = subst (λ (xs : List Effect). IsListedOver conf xs old new) whole
          (listed_behind conf old mid new (take done es) (take n (drop done es)) so_far.listed (subst (λ (rest : List Effect). IsListedOver conf (take n rest) mid new) back one.listed));
      room = subst (λ (xs : List Effect). fold room_by 1 xs ≤ new.tags.spare) whole (room_behind 1 mid.tags.spare new.tags.spare (take done es) (take n (drop done es)) so_far.room left);
      spare = subst (λ (xs : List Effect). fold room_by old.tags.spare xs ≤ new.tags.spare) whole
          (room_behind old.tags.spare mid.tags.spare new.tags.spare (take done es) (take n (drop done es)) so_far.spare left);
      kept = one.kept ∙ ap (λ (s : State). record s { hosts = new.hosts; tags = new.tags }) so_far.kept;
    }

pub returns-clause-listed : goal.returns-clause-listed
returns-clause-listed c =
    let es = c.args.effects.now in
    subst (λ (done : List Effect). IsListedOver c.args.config.now done c.args.self.now c.loop-done.self) (take_all c.loop-done.done es (omega (arith, c.loop-done-test.false))) c.loop-done.invariant.listed

pub returns-clause-spare : goal.returns-clause-spare
returns-clause-spare c =
    let es = c.args.effects.now in
    let old = c.args.self.now in
    let all : fold room_by old.tags.spare (take c.loop-done.done es) ≡ fold room_by old.tags.spare es = ap (fold room_by old.tags.spare) (take_all c.loop-done.done es (omega (arith, c.loop-done-test.false))) in
    omega (arith, c.loop-done.invariant.spare, all, room_left c.args.config.now (lists_of old) 1 old.tags.spare es c.requires.fits)
