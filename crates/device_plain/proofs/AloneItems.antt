-- What a device with one host alone replies, item by item.
use Rattle.std.proofs.Common.{◌≡◌, ℕ, List, [], ◌∷◌, ◌++◌, refl, sym, ap, ◌∙◌, subst, append-nil, append_assoc}
use Rattle.std.{specs.Prelude.fold, specs.declared.result.Result.Result, specs.declared.result.Result.TheVariants.Ok, specs.declared.result.Result.TheVariants.Err, proofs.lemmas.List.Sums.fold_push}
use Rattle.dcd_base.specs.declared.{failures.AccessFault.AccessFault, ids.HostId.HostId, media.Place.Place}
use Rattle.control_core.specs.device_rules.specs.Views.{View, first_view}
use Rattle.journal_core.specs.declared.acts.Act.{Act}
use Rattle.media_map.specs.Places.{locate}
use Rattle.region_config.specs.Configurations.{Configuration}
use Rattle.device_plain.specs.{Alone.IsAlone, Alone.access_in, Alone.replies_after, Alone.reply_in, Alone.solo_replies, Telling.replies_to, declared.alone.Alone.Alone}
use Rattle.isolation_laws.specs.{Solo.solo, Solo.solo_access, Solo.solo_after, Solo.solo_view, Solo.solo_word, Solo.solo_word_after, declared.items.Item.Item, declared.items.SoloReply.SoloReply}

module _ (c : Configuration) (h : HostId) where
  -- ---- the view and the words after one more item

  pub solo_view_push : (items : List Item) (item : Item) → solo_view c h (items ++ item ∷ []) ≡ solo_after c h (solo_view c h items) item
  solo_view_push items item = fold_push (solo_after c h) (first_view c) items item

  abbrev step : ℕ → View × ℕ → Item → View × ℕ
  step d s item = (solo_after c h s.0 item, solo_word_after c h d s.0 s.1 item)

  step_view : (d : ℕ) (s : View × ℕ) (items : List Item) → (fold (step d) s items).0 ≡ fold (solo_after c h) s.0 items
  step_view d s [] = refl
  step_view d s (item ∷ items) = step_view d (step d s item) items

  pub solo_word_push : (d : ℕ) (items : List Item) (item : Item) → solo_word c h d (items ++ item ∷ []) ≡ solo_word_after c h d (solo_view c h items) (solo_word c h d items) item
  solo_word_push d items item =
      ap (λ (s : View × ℕ). s.1) (fold_push (step d) (first_view c, 0) items item)
      ∙ ap (λ (v : View). solo_word_after c h d v (solo_word c h d items) item) (step_view d (first_view c, 0) items)

  pub alone_push : (items : List Item) (item : Item) (a : Alone) →
      IsAlone c h (solo_after c h (solo_view c h items) item) (λ d. solo_word_after c h d (solo_view c h items) (solo_word c h d items) item) a →
      IsAlone c h (solo_view c h (items ++ item ∷ [])) (λ d. solo_word c h d (items ++ item ∷ [])) a
  alone_push items item a is =
      subst (λ (word : ℕ → ℕ). IsAlone c h (solo_view c h (items ++ item ∷ [])) word a) (λ i d. sym (solo_word_push d items item) i)
      (subst (λ (v : View). IsAlone c h v (λ d. solo_word_after c h d (solo_view c h items) (solo_word c h d items) item) a) (sym (solo_view_push items item)) is)

  -- ---- the replies

  same_load : (items : List Item) (d : ℕ) (found : Result Place AccessFault) →
      solo_access c h items (Act.Load d) d found ≡ access_in c (solo_view c h items) (λ e. solo_word c h e items) (Act.Load d) d found
  same_load items d (Err fault) = refl
  same_load items d (Ok p) = refl

  same_store : (items : List Item) (d value : ℕ) (found : Result Place AccessFault) →
      solo_access c h items (Act.Store d value) d found ≡ access_in c (solo_view c h items) (λ e. solo_word c h e items) (Act.Store d value) d found
  same_store items d value (Err fault) = refl
  same_store items d value (Ok p) = refl

  pub solo_is : (items : List Item) (act : Act) → solo c h items act ≡ reply_in c h (solo_view c h items) (λ d. solo_word c h d items) act
  solo_is items (Act.Command q) = refl
  solo_is items (Act.Load d) = same_load items d (locate c h d)
  solo_is items (Act.Store d value) = same_store items d value (locate c h d)
  solo_is items (Act.Scrub n) = refl

  -- what is replied to an item after those
  abbrev replied : List Item → Item → List SoloReply
  replied before item = replies_to c h (solo_view c h before) (λ d. solo_word c h d before) item

  one_reply : (before : List Item) (item : Item) → replies_after c h before (item ∷ []) ≡ replied before item
  one_reply before (Item.Own act) = ap (λ (r : SoloReply). r ∷ []) (solo_is before act)
  one_reply before (Item.Given xs) = refl
  one_reply before (Item.Asked xs) = refl
  one_reply before (Item.Taken xs) = refl
  one_reply before (Item.Block r size) = refl

  replies_after_push : (before items : List Item) (item : Item) → replies_after c h before (items ++ item ∷ []) ≡ replies_after c h before items ++ replied (before ++ items) item
  replies_after_push before [] item = one_reply before item ∙ ap (λ (front : List Item). replied front item) (sym (append-nil before))
  replies_after_push before (Item.Own act ∷ items) item =
      ap (λ (later : List SoloReply). solo c h before act ∷ later) (replies_after_push (before ++ Item.Own act ∷ []) items item
      ∙ ap (λ (front : List Item). replies_after c h (before ++ Item.Own act ∷ []) items ++ replied front item) (append_assoc before (Item.Own act ∷ []) items))
  replies_after_push before (Item.Given xs ∷ items) item = replies_after_push (before ++ Item.Given xs ∷ []) items item
      ∙ ap (λ (front : List Item). replies_after c h (before ++ Item.Given xs ∷ []) items ++ replied front item) (append_assoc before (Item.Given xs ∷ []) items)
  replies_after_push before (Item.Asked xs ∷ items) item = replies_after_push (before ++ Item.Asked xs ∷ []) items item
      ∙ ap (λ (front : List Item). replies_after c h (before ++ Item.Asked xs ∷ []) items ++ replied front item) (append_assoc before (Item.Asked xs ∷ []) items)
  replies_after_push before (Item.Taken xs ∷ items) item = replies_after_push (before ++ Item.Taken xs ∷ []) items item
      ∙ ap (λ (front : List Item). replies_after c h (before ++ Item.Taken xs ∷ []) items ++ replied front item) (append_assoc before (Item.Taken xs ∷ []) items)
  replies_after_push before (Item.Block r size ∷ items) item = replies_after_push (before ++ Item.Block r size ∷ []) items item
      ∙ ap (λ (front : List Item). replies_after c h (before ++ Item.Block r size ∷ []) items ++ replied front item) (append_assoc before (Item.Block r size ∷ []) items)

  pub solo_replies_push : (items : List Item) (item : Item) → solo_replies c h (items ++ item ∷ []) ≡ solo_replies c h items ++ replies_to c h (solo_view c h items) (λ d. solo_word c h d items) item
  solo_replies_push items item = replies_after_push [] items item
