-- Extents with a tag, and runs of granules as such extents.
use Rattle.std.proofs.Common.{◌≡◌, ◌+◌, ◌<◌, ℕ, Bool, List, [], ◌∷◌, ◌++◌, get_or, length, map, take, arith, ap, sym, ◌∙◌}
use Rattle.std.proofs.lemmas.List.{length-map, length-take-le, map-append, take_more, FromFn.length-enumerate_from}
use Rattle.std.specs.{List.enumerate_from, Prelude.if◌then◌else◌}
use Rattle.event_records.specs.dcd_base.specs.{Words.zero_tag, declared.capacity.Extent.Extent, declared.capacity.Tag.Tag, declared.media.Run.Run}
use Rattle.device_state.specs.{device_rules.specs.Adding.extents_of, device_rules.specs.Adding.with_tag, declared.state.State.State}
use Rattle.extent_list.specs.media_map.specs.Places.{extent_of}
use Rattle.manager_commands.{proofs.ListPages.numbered_more, specs.InitiateDynamicCapacityAdd.tagged_runs, specs.declared.choosing.Asked.Asked}

-- with the tag there are as many
pub length-with_tag : (shareable : Bool) (tag : Tag) (xs : List Extent) → length (with_tag shareable tag xs) ≡ length xs
length-with_tag shareable tag xs =
    let f : ℕ × Extent → Extent = λ y. record y.1 { tag = tag; sequence = if shareable then y.0 else 0 } in
    omega (arith, length-map (enumerate_from 1 xs) f, length-enumerate_from 1 xs)

pub length-tagged_runs : (s : State) (a : Asked) (shareable : Bool) (runs : List Run) → length (tagged_runs s a shareable runs) ≡ length runs
length-tagged_runs s a shareable runs =
    length-with_tag shareable a.tag (extents_of s.present a.host runs) ∙ length-map runs (λ run. extent_of s.present a.host run zero_tag 0)

-- one run more
pub tagged_more : (s : State) (a : Asked) (shareable : Bool) (runs : List Run) (i : ℕ) (run : Run) → i < length runs → run ≡ get_or runs i run →
    tagged_runs s a shareable (take (i + 1) runs) ≡ tagged_runs s a shareable (take i runs) ++ extent_of s.present a.host run a.tag (if shareable then i + 1 else 0) ∷ []
tagged_more s a shareable runs i run below is =
    let f : ℕ × Extent → Extent = λ y. record y.1 { tag = a.tag; sequence = if shareable then y.0 else 0 } in
    let g : Run → Extent = λ r. extent_of s.present a.host r zero_tag 0 in
    let front : List Extent = map g (take i runs) in
    let number : 1 + length front ≡ i + 1 = omega (arith, length-map (take i runs) g, length-take-le i runs (omega (arith, below))) in
    ap (λ rs. map f (enumerate_from 1 (map g rs))) (take_more runs i run below ∙ ap (λ r. take i runs ++ r ∷ []) (sym is))
    ∙ ap (λ xs. map f (enumerate_from 1 xs)) (map-append g (take i runs) (run ∷ []))
    ∙ ap (map f) (numbered_more 1 front (g run))
    ∙ map-append f (enumerate_from 1 front) ((1 + length front, g run) ∷ [])
    ∙ ap (λ n. map f (enumerate_from 1 front) ++ f (n, g run) ∷ []) number
