-- A journal with one more entry: the host's items, and its view alone.
use Rattle.std.proofs.Common.{◌≡◌, List, [], ◌∷◌, ◌++◌, sym, ap, ◌∙◌, append-nil}
use Rattle.std.{specs.Prelude.fold, proofs.lemmas.Grind.flat_map-append, proofs.lemmas.List.Sums.fold-append}
use Rattle.dcd_base.specs.declared.ids.HostId.{HostId}
use Rattle.journal_core.specs.declared.entries.Entry.{Entry}
use Rattle.extent_list.specs.media_map.specs.region_config.specs.Configurations.{Configuration}
use Rattle.device_rules.{specs.Views.first_view, specs.Views.view_of, proofs.ViewSteps.view_of-push}
use Rattle.isolation_laws.{specs.Laws.SeesAlone, specs.Solo.items_of, specs.Solo.own_items, specs.Solo.solo_after, specs.Solo.solo_view, proofs.OneItem.BringsItems}

pub own_items-push : (h : HostId) (journal : List Entry) (e : Entry) → own_items h (journal ++ e ∷ []) ≡ own_items h journal ++ items_of h e
own_items-push h journal e = flat_map-append (items_of h) journal (e ∷ []) ∙ ap (λ new. own_items h journal ++ new) (append-nil (items_of h e))

pub solo_view-push : (c : Configuration) (h : HostId) (journal : List Entry) (e : Entry) →
    solo_view c h (own_items h (journal ++ e ∷ [])) ≡ fold (solo_after c h) (solo_view c h (own_items h journal)) (items_of h e)
solo_view-push c h journal e = ap (solo_view c h) (own_items-push h journal e) ∙ fold-append (solo_after c h) (first_view c) (own_items h journal) (items_of h e)

-- The entry changes the view as the items that it brings the host change it alone.
abbrev pub StepsAlone : Configuration → HostId → List Entry → Entry → Type 0
StepsAlone c h before e = BringsItems c h (view_of c h before) e.effects (items_of h e)

-- So the host sees as alone after it, where it did before it.
pub stays_alone : (c : Configuration) (h : HostId) (before : List Entry) (e : Entry) → StepsAlone c h before e → SeesAlone c h before → SeesAlone c h (before ++ e ∷ [])
stays_alone c h before e step alone =
    view_of-push c h before e ∙ step.alone ∙ ap (λ v. fold (solo_after c h) v (items_of h e)) alone ∙ sym (solo_view-push c h before e)
