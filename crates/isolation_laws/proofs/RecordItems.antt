-- What the effects of a command bring a host: the extents of the records in its log, and block sizes.
use Rattle.std.proofs.Common.{◌≡◌, ◌<◌, ◌≤◌, Bool, true, false, ◌&&◌, not, List, [], ◌∷◌, ◌++◌, Option, Some, None, length, refl, sym, ap, ◌∙◌, arith}
use Rattle.std.proofs.lemmas.{Bool.and_parts, Bool.eq-eqb, Bool.false≢true, Bool.not-true, List.Elements.filter_map-append}
use Rattle.std.specs.{List.cons_option, List.list_all, Prelude.filter_map, Prelude.map, Prelude.if◌then◌else◌, Prelude.◌==◌}
use Rattle.dcd_base.specs.{declared.capacity.Extent.Extent, declared.ids.HostId.HostId, declared.steps.LogId.LogId, Words.is_empty}
use Rattle.event_log.specs.Logs.{Log, recorded, room_in}
use Rattle.event_records.specs.{Records.kind_number, declared.events.Event.Event, declared.events.EventKind.EventKind}
use Rattle.journal_core.specs.declared.outcome.Effect.{Effect}
use Rattle.extent_list.specs.media_map.specs.region_config.specs.Configurations.{Configuration}
use Rattle.device_rules.proofs.{EffectKinds.any_log, EffectKinds.tells_any, EffectKinds.told_passes, Leaving.both_pass, Leaving.map_passes, LogHistories.leaves_logs, LogHistories.told as records_for}
use Rattle.device_rules.proofs.{LogSteps.IsSound, LogSteps.IsSound-recorded, LogSteps.after-entered, LogSteps.entered-room, LogSteps.room-recorded, ViewCommands.only_logs, ViewsLeft.leaves_view}
use Rattle.device_rules.specs.{Logs.log_after, Outcomes.Outcome, Outcomes.effects_of, Outcomes.ended, Outcomes.entered, Outcomes.entered_all, Outcomes.record_for, Outcomes.records_of_extents}
use Rattle.device_rules.specs.Views.{View}
use Rattle.isolation_laws.specs.{Solo.block_item, Solo.delivered, Solo.item_of, Solo.extents_recorded, Solo.told_by, declared.items.Item.Item}

-- ---- effects that bring nothing

pub none_found : {Y : Type 0} (f : Effect → Option Y) (test : Effect → Bool) → ((e : Effect) → test e ≡ true → f e ≡ None) → (new : List Effect) → list_all test new ≡ true → filter_map f new ≡ []
none_found f test none [] all = refl
none_found f test none (e ∷ new) all =
    let parts = and_parts (test e) (list_all test new) all in
    ap (λ o. cons_option o (filter_map f new)) (none e parts.0) ∙ none_found f test none new parts.1

-- where nothing comes into a log
told-quiet : (h : HostId) (kind : EventKind) (e : Effect) → leaves_logs e ≡ true → told_by h kind e ≡ None
told-quiet h kind (Effect.Logged l event) left = absurd (false≢true left)
told-quiet h kind e left = refl

-- where only logs change
block-quiet : (e : Effect) → only_logs e ≡ true → block_item e ≡ None
block-quiet (Effect.Block r size) only = absurd (false≢true only)
block-quiet e only = refl

-- where the host's view stays
told-left : (h : HostId) (kind : EventKind) (e : Effect) → leaves_view h e ≡ true → told_by h kind e ≡ None
told-left h kind (Effect.Logged (LogId.Host k) event) left = ap (λ b. if b && (kind_number event.kind == kind_number kind) then Some event.extent else None) (not-true (k == h) left)
told-left h kind (Effect.Logged LogId.Manager event) left = refl
told-left h kind e left = refl

block-left : (h : HostId) (e : Effect) → leaves_view h e ≡ true → block_item e ≡ None
block-left h (Effect.Block r size) left = absurd (false≢true left)
block-left h e left = refl

pub told_passing : (h : HostId) (kind : EventKind) (new : List Effect) → list_all (leaves_view h) new ≡ true → extents_recorded h kind new ≡ []
told_passing h kind new all = none_found (told_by h kind) (leaves_view h) (told-left h kind) new all

-- ---- the items, from the parts

pub delivered_is : (h : HostId) (new : List Effect) (given asked taken : List Extent) (blocks : List Item) →
    extents_recorded h EventKind.Add new ≡ given → extents_recorded h EventKind.Release new ≡ asked → extents_recorded h EventKind.Forced new ≡ taken → filter_map block_item new ≡ blocks →
    delivered h new ≡ item_of Item.Given given ++ item_of Item.Asked asked ++ item_of Item.Taken taken ++ blocks
delivered_is h new given asked taken blocks a b t s = λ i. item_of Item.Given (a i) ++ item_of Item.Asked (b i) ++ item_of Item.Taken (t i) ++ s i

-- A host whose view stays is brought nothing.
pub delivered-left : (h : HostId) (new : List Effect) → list_all (leaves_view h) new ≡ true → delivered h new ≡ []
delivered-left h new all = delivered_is h new [] [] [] []
    (told_passing h EventKind.Add new all) (told_passing h EventKind.Release new all) (told_passing h EventKind.Forced new all)
    (none_found block_item (leaves_view h) (block-left h) new all)

-- ---- of a command the records tell, and the changes set blocks

pub told_outcome : (h : HostId) (kind : EventKind) (c : Configuration) (past : List Effect) (o : Outcome) → list_all leaves_logs o.changes ≡ true →
    extents_recorded h kind (effects_of c past o) ≡ extents_recorded h kind (records_for past o.log_records)
told_outcome h kind c past o left =
    let ends : List Effect = map Effect.TagEnd (ended c past o.changes o.tags) in
    filter_map-append (told_by h kind) (o.changes ++ ends) (records_for past o.log_records)
    ∙ ap (λ front. front ++ extents_recorded h kind (records_for past o.log_records))
    (none_found (told_by h kind) leaves_logs (told-quiet h kind) (o.changes ++ ends) (both_pass leaves_logs o.changes ends left (map_passes leaves_logs Effect.TagEnd (λ t. refl) (ended c past o.changes o.tags))))

abbrev is_end : Effect → Bool
is_end (Effect.TagEnd t) = true
is_end e = false

block-end : (e : Effect) → is_end e ≡ true → block_item e ≡ None
block-end (Effect.Block r size) is = absurd (false≢true is)
block-end e is = refl

nil_behind : {X : Type 0} (xs ys zs : List X) → ys ≡ [] → zs ≡ [] → (xs ++ ys) ++ zs ≡ xs
nil_behind [] ys zs a b = (λ i. a i ++ b i)
nil_behind (x ∷ xs) ys zs a b = ap (λ more. x ∷ more) (nil_behind xs ys zs a b)

pub blocks_outcome : (c : Configuration) (past : List Effect) (o : Outcome) → filter_map block_item (effects_of c past o) ≡ filter_map block_item o.changes
blocks_outcome c past o =
    let ends : List Effect = map Effect.TagEnd (ended c past o.changes o.tags) in
    filter_map-append block_item (o.changes ++ ends) (records_for past o.log_records)
    ∙ ap (λ front. front ++ filter_map block_item (records_for past o.log_records)) (filter_map-append block_item o.changes ends)
    ∙ nil_behind (filter_map block_item o.changes) (filter_map block_item ends) (filter_map block_item (records_for past o.log_records))
    (none_found block_item is_end block-end ends (map_passes is_end Effect.TagEnd (λ t. refl) (ended c past o.changes o.tags)))
    (none_found block_item only_logs block-quiet (records_for past o.log_records) (told_passes only_logs any_log (λ l any. record { logged = λ event. refl; missed = refl }) past o.log_records (tells_any o.log_records)))

-- ---- the records of one kind

joined_if : (b : Bool) (x : Extent) (xs : List Extent) → cons_option (if b then Some x else None) (if b then xs else []) ≡ (if b then x ∷ xs else [])
joined_if true x xs = refl
joined_if false x xs = refl

nothing_if : (b : Bool) (none : List Extent) → (if b then none else none) ≡ none
nothing_if true none = refl
nothing_if false none = refl

told_entered : (h : HostId) (kind : EventKind) (log : Log) (e : Event) → 0 < room_in (LogId.Host h) log →
    told_by h kind (entered (LogId.Host h) log e) ≡ (if kind_number e.kind == kind_number kind then Some e.extent else None)
told_entered h kind log e room =
    ap (told_by h kind) (entered-room (LogId.Host h) log e room)
    ∙ ap (λ b. if b && (kind_number e.kind == kind_number kind) then Some e.extent else None) (eq-eqb h h refl)

-- A log with room tells the host these extents, where they are asked for by their kind.
pub told_records : (h : HostId) (kind own : EventKind) (v : View) (log : Log) (xs : List Extent) → IsSound log → length xs ≤ room_in (LogId.Host h) log →
    extents_recorded h kind (entered_all (LogId.Host h) log (records_of_extents h v own xs)) ≡ (if kind_number own == kind_number kind then xs else [])
told_records h kind own v log [] sound room = sym (nothing_if (kind_number own == kind_number kind) [])
told_records h kind own v log (x ∷ xs) sound room =
    let l : LogId = LogId.Host h in
    let e : Event = record_for h v own (not (is_empty xs)) x in
    let some : 0 < room_in l log = omega (arith, room) in
    let left : length xs ≤ room_in l (recorded log e) = rw (room-recorded l log e sound) (omega (arith, room)) in
    let asked : Bool = kind_number own == kind_number kind in
    ap (λ o. cons_option o (extents_recorded h kind (entered_all l (log_after l log (entered l log e)) (records_of_extents h v own xs)))) (told_entered h kind log e some)
    ∙ ap (λ u. cons_option (if asked then Some x else None) (extents_recorded h kind (entered_all l u (records_of_extents h v own xs)))) (after-entered l log e some)
    ∙ ap (cons_option (if asked then Some x else None)) (told_records h kind own v (recorded log e) xs (IsSound-recorded log e sound) left)
    ∙ joined_if asked x xs
