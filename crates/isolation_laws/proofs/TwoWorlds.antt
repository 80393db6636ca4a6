-- What a host is told of an isolated journal is a function of its items alone.
use Rattle.std.proofs.Common.{◌≡◌, ◌<◌, true, List, [], ◌∷◌, ◌++◌, inl, inr, refl, sym, ap, subst, ◌∙◌, append_assoc, append-nil}
use Rattle.std.{specs.Prelude.if◌then◌else◌, specs.List.list_all, proofs.lemmas.Bool.cases_Bool, proofs.lemmas.Bool.false≢true}
use Rattle.dcd_base.specs.declared.ids.HostId.{HostId}
use Rattle.journal_core.specs.{Entries.EachFrom, declared.acts.Reply.Reply, declared.entries.Entry.Entry}
use Rattle.extent_list.specs.media_map.specs.region_config.specs.Configurations.{Configuration}
use Rattle.device_rules.specs.Legal.{Legal}
use Rattle.isolation_laws.proofs.{BroughtItems.actor_is, BroughtItems.all_brought, BroughtItems.is_brought, OwnItems.own_items-push}
use Rattle.isolation_laws.specs.Laws.{SameReplies, hushed, replies_with}
use Rattle.isolation_laws.specs.{Solo.Agrees, Solo.AgreesAlone, Solo.Isolated, Solo.delivered, Solo.acts_for, Solo.items_of, Solo.own_items, Solo.solo, declared.items.Item.Item}
use Rattle.isolation_laws.specs.declared.items.SoloReply.{SoloReply}

-- what agrees is what was said
hushed_is : (s : SoloReply) (reply : Reply) → Agrees s reply → hushed s reply ≡ s
hushed_is (SoloReply.Said said) reply agrees = ap SoloReply.Said agrees
hushed_is SoloReply.Unsaid reply agrees = refl

module _ (c : Configuration) (h : HostId) where
  -- the reply to an item after others, and those to each of a list
  abbrev reply_to : List Item → Item → List SoloReply
  reply_to before (Item.Own act) = solo c h before act ∷ []
  reply_to before item = []

  abbrev alone_replies : List Item → List Item → List SoloReply
  alone_replies before [] = []
  alone_replies before (item ∷ items) = reply_to before item ++ alone_replies (before ++ item ∷ []) items

  replies-append : (before xs ys : List Item) → alone_replies before (xs ++ ys) ≡ alone_replies before xs ++ alone_replies (before ++ xs) ys
  replies-append before [] ys = ap (λ b. alone_replies b ys) (sym (append-nil before))
  replies-append before (x ∷ xs) ys =
      ap (λ rest. reply_to before x ++ rest) (replies-append (before ++ x ∷ []) xs ys ∙ ap (λ b. alone_replies (before ++ x ∷ []) xs ++ alone_replies b ys) (append_assoc before (x ∷ []) xs))
      ∙ sym (append_assoc (reply_to before x) (alone_replies (before ++ x ∷ []) xs) (alone_replies (before ++ x ∷ xs) ys))

  -- nothing is replied to what others bring
  none_replied : (before xs : List Item) → list_all is_brought xs ≡ true → alone_replies before xs ≡ []
  none_replied before [] all = refl
  none_replied before (Item.Own act ∷ xs) all = absurd (false≢true all)
  none_replied before (item ∷ xs) all = none_replied (before ++ item ∷ []) xs all

  -- what an entry replies to the host
  first_replies : (items : List Item) (e : Entry) → (acts_for h e.actor ≡ true → Agrees (solo c h items e.act) e.reply) →
      (if acts_for h e.actor then hushed (solo c h items e.act) e.reply ∷ [] else []) ≡ alone_replies items (items_of h e)
  first_replies items e agrees = elim (cases_Bool (acts_for h e.actor)) [
    | inl own ↦ (λ i. if own i then hushed (solo c h items e.act) e.reply ∷ [] else [])
        ∙ ap (λ s. s ∷ []) (hushed_is (solo c h items e.act) e.reply (agrees own))
        ∙ sym (ap (λ b. alone_replies items (if b then Item.Own e.act ∷ [] else delivered h e.effects)) own)
    | inr other ↦ (λ i. if other i then hushed (solo c h items e.act) e.reply ∷ [] else [])
        ∙ sym (none_replied items (delivered h e.effects) (all_brought h e.effects))
        ∙ sym (ap (λ b. alone_replies items (if b then Item.Own e.act ∷ [] else delivered h e.effects)) other)
  ]

  told_alone : (before journal : List Entry) → EachFrom before (AgreesAlone c h) journal → replies_with c h (own_items h before) journal ≡ alone_replies (own_items h before) (own_items h journal)
  told_alone before [] all = refl
  told_alone before (e ∷ journal) all =
      let items : List Item = own_items h before in
      let more : replies_with c h (items ++ items_of h e) journal ≡ alone_replies (items ++ items_of h e) (own_items h journal) =
      subst (λ b. replies_with c h b journal ≡ alone_replies b (own_items h journal)) (own_items-push h before e) (told_alone (before ++ e ∷ []) journal all.1) in
      (λ i. first_replies items e (λ own. all.0 (actor_is h e.actor own)) i ++ more i)
      ∙ sym (replies-append items (items_of h e) (own_items h journal))

-- Two isolated journals that bring a host the same items bring it the same replies.
pub same_items : (c : Configuration) (left right : List Entry) → Isolated c left → Isolated c right → (h : HostId) → SameReplies c h left right
same_items c left right one other h same = told_alone c h [] left (one h) ∙ ap (alone_replies c h []) same ∙ sym (told_alone c h [] right (other h))

-- So it is of legal journals, where they are isolated.
pub two_worlds_by : (c : Configuration) → ((journal : List Entry) → Legal c journal → Isolated c journal) →
    (left right : List Entry) → Legal c left → Legal c right → (h : HostId) → h < c.hosts → SameReplies c h left right
two_worlds_by c isolated left right one other h known = same_items c left right (isolated left one) (isolated right other) h
