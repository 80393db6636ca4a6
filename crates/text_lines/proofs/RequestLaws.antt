-- What commands say behind their names: what is read is what the words say.
use Rattle.std.proofs.Common.{◌≡◌, ℕ, Bool, false, ◌==◌, List, [], ◌∷◌, ◌++◌, Result, Ok, refl, sym, ap, ◌∙◌, subst, inl, inr}
use lib.Pointwise.{pointwise}
use Rattle.dcd_base.specs.declared.capacity.{Extent.Extent, Tag.Tag}
use Rattle.fm_payloads.specs.declared.requests.FmRequest.{FmRequest}
use Rattle.host_payloads.specs.declared.requests.HostRequest.{HostRequest}
use Rattle.text_lines.proofs.{KeywordLaws.IsInner, KeywordLaws.extents_not, KeywordLaws.is_key, KeywordLaws.stops_not, ListLaws.Stops}
use Rattle.text_lines.{proofs.PolicyLaws.add_policy_goes, proofs.PolicyLaws.add_policy_sound, proofs.PolicyLaws.release_flags_goes, proofs.PolicyLaws.release_flags_sound, specs.Actors.host_ahead}
use Rattle.text_lines.specs.{Chains.◌>>!◌ as ◌>>=◌, Fields.extents_ahead, Fields.flag_ahead, Fields.handles_ahead, Fields.may_ahead, Fields.may_tag_ahead, Fields.named_ahead, Fields.tag_ahead}
use Rattle.text_lines.specs.{HostRequests.clearing_ahead, HostRequests.host_request_ahead, HostRequests.listing_ahead, HostRequests.page_ahead, Keywords.keyword_text}
use Rattle.text_lines.specs.ManagerRequests.{add_ahead, capacity_ahead, host_page_ahead, manager_request_ahead, remove_ahead, setting_ahead, spot_ahead}
use Rattle.text_lines.specs.{Parts.Form, Parts.Part, Parts.ReadsPart, Parts.Takes, Parts.key, Policies.add_policy_ahead, Policies.release_flags_ahead, Unread.UnreadWords}
use Rattle.text_lines.specs.declared.{commands.HostCommand.HostCommand, commands.ManagerCommand.ManagerCommand, faults.TextFault.TextFault, forms.Capacity.Capacity, forms.Clearing.Clearing}
use Rattle.text_lines.specs.declared.{forms.HostPage.HostPage, forms.Listing.Listing, forms.Page.Page, forms.Setting.Setting, forms.Spot.Spot, keywords.Keyword.Keyword}
use Rattle.text_lines.specs.Layouts.{capacity_parts, clearing_parts, host_command_of, host_tail, listing_parts, manager_command_of, manager_tail, most_32, most_64, page_parts, setting_parts, spot_parts}
use Rattle.text_lines.proofs.FieldLaws.{Goes, IsNot, Took, bound, flag_goes, flag_sound, flag_then, goes_then, may_goes, may_sound, named_goes, named_sound, ok_is, took_then}
use Rattle.text_lines.proofs.PartLaws.{extents_goes, extents_sound, handles_goes, handles_sound, host_goes, host_sound, may_tag_goes, may_tag_sound, tag_goes, tag_sound}

-- what was read, made into something else
pub goes_made : {A B : Type 0} (read : Result (A × UnreadWords) TextFault) (x : A) (rest : List (List ℕ)) (make : A → B) → Goes read x rest → Goes (read >>= (λ y. Ok (make y.0, y.1))) (make x) rest
goes_made read x rest make g = record { left = g.left; is = ap (λ r. r >>= (λ y. Ok (make y.0, y.1))) g.is; words = g.words }

pub record MadeOf {A B : Type 0} (read : Result (A × UnreadWords) TextFault) (make : A → B) (x : B × UnreadWords) : Type 0 where
  pub found : A × UnreadWords
  pub begun : read ≡ Ok found
  pub value_is : make found.0 ≡ x.0
  pub left_is : found.1 ≡ x.1

pub made_of : {A B : Type 0} (read : Result (A × UnreadWords) TextFault) (make : A → B) (x : B × UnreadWords) → (read >>= (λ y. Ok (make y.0, y.1))) ≡ Ok x → MadeOf read make x
made_of {A} {B} read make x is =
    let b = bound read (λ y. Ok (make y.0, y.1)) x is in
    let e : (make b.value.0, b.value.1) ≡ x = ok_is _ x b.done in
    record { found = b.value; begun = b.begun; value_is = ap (λ (p : B × UnreadWords). p.0) e; left_is = ap (λ (p : B × UnreadWords). p.1) e }

-- ---- pages
pub page_goes : (most first count : ℕ) (u : UnreadWords) (rest : List (List ℕ)) → Takes u.words (page_parts most first count) rest → Goes (page_ahead most u) (record { first = first; count = count }) rest
unfolding page_ahead
page_goes most first count u rest takes =
    let next : takes.1 ≡ keyword_text Keyword.Count ∷ takes.4.1 = takes.4.2 ∙ ap (λ ws. ws ++ takes.4.1) takes.4.3 in
    goes_then _ _ rest (may_goes Keyword.First Form.Count most first u takes.0 takes.1 takes.2 takes.3 (is_key Keyword.First Keyword.Count takes.1 takes.4.1 next refl))
    (λ left here. goes_made (named_ahead Keyword.Count most left) count rest (λ n. record { first = first; count = n })
    (named_goes Keyword.Count Form.Count most count left rest (subst (λ ws. Takes ws (key Keyword.Count ∷ Part.Number Form.Count most count ∷ []) rest) (sym here) takes.4)))

pub page_sound : (most : ℕ) (u : UnreadWords) (x : Page × UnreadWords) → page_ahead most u ≡ Ok x → Took u.words (page_parts most x.0.first x.0.count) x.1.words
unfolding page_ahead
page_sound most u x is =
    let first = bound (may_ahead Keyword.First most u) (λ f. named_ahead Keyword.Count most f.1 >>= (λ c. Ok (record { first = f.0; count = c.0 }, c.1))) x is in
    let count = made_of (named_ahead Keyword.Count most first.value.1) (λ n. record { first = first.value.0; count = n }) x first.done in
    subst (λ (p : Page). Took u.words (page_parts most p.first p.count) x.1.words) count.value_is
    (subst (λ (v : UnreadWords). Took u.words (page_parts most first.value.0 count.found.0) v.words) count.left_is
    (took_then (may_sound Keyword.First Form.Count most u first.value first.begun) (named_sound Keyword.Count Form.Count most first.value.1 count.found count.begun)))

-- ---- clearing
all_inner : IsInner Keyword.All
all_inner = record { some = refl; no_tag = refl }

handles_inner : IsInner Keyword.Handles
handles_inner = record { some = refl; no_tag = refl }

-- behind the log no other flag comes
handles_not : (handles : List ℕ) (words front rest : List (List ℕ)) → words ≡ front ++ rest → ReadsPart front (Part.Handles handles) → Stops rest → IsNot Keyword.All words
handles_not handles words front rest is (inl absent) stops = subst (IsNot Keyword.All) (sym (is ∙ ap (λ ws. ws ++ rest) absent.0)) (stops_not Keyword.All rest all_inner stops)
handles_not handles words front rest is (inr tells) stops = is_key Keyword.All Keyword.Handles words (tells.rest ++ rest) (is ∙ ap (λ ws. ws ++ rest) tells.words_are) refl

clearing_goes : (log : ℕ) (all : Bool) (handles : List ℕ) (u : UnreadWords) (rest : List (List ℕ)) → Takes u.words (clearing_parts log all handles) rest → Stops rest → Goes (clearing_ahead u) (record { log = log; all = all; handles = handles }) rest
unfolding clearing_ahead
clearing_goes log all handles u rest takes stops =
    let number = takes.4 in
    let set = number.4 in
    let list = set.4 in
    goes_then _ _ rest (named_goes Keyword.Log Form.Count 255 log u number.1 (takes.0, takes.1, takes.2, takes.3, (number.0, number.1, number.2, number.3, refl)))
    (λ left here.
    flag_then (λ (set : Bool × UnreadWords). handles_ahead set.1 >>= (λ hs. Ok (record { log = log; all = set.0; handles = hs.0 }, hs.1))) _ rest
    (flag_goes Keyword.All left all set.0 set.1 (here ∙ set.2) set.3 (handles_not handles set.1 list.0 list.1 list.2 list.3 (subst Stops (sym list.4) stops)))
    (λ next there.
    goes_made (handles_ahead next) handles rest (λ hs. record { log = log; all = all; handles = hs })
    (handles_goes handles next list.0 rest (there ∙ list.2 ∙ ap (λ ws. list.0 ++ ws) list.4) list.3 stops (stops_not Keyword.Handles rest handles_inner stops))))

clearing_sound : (u : UnreadWords) (x : Clearing × UnreadWords) → clearing_ahead u ≡ Ok x → Took u.words (clearing_parts x.0.log x.0.all x.0.handles) x.1.words
unfolding clearing_ahead
clearing_sound u x is =
    let log = bound (named_ahead Keyword.Log 255 u) (λ log. let all = flag_ahead Keyword.All log.1 in handles_ahead all.1 >>= (λ hs. Ok (record { log = log.0; all = all.0; handles = hs.0 }, hs.1))) x is in
    let all = flag_ahead Keyword.All log.value.1 in
    let handles = made_of (handles_ahead all.1) (λ hs. record { log = log.value.0; all = all.0; handles = hs }) x log.done in
    subst (λ (p : Clearing). Took u.words (clearing_parts p.log p.all p.handles) x.1.words) handles.value_is
    (subst (λ (v : UnreadWords). Took u.words (clearing_parts log.value.0 all.0 handles.found.0) v.words) handles.left_is
    (took_then (named_sound Keyword.Log Form.Count 255 u log.value log.begun) (took_then (flag_sound Keyword.All log.value.1) (handles_sound all.1 handles.found handles.begun))))

-- ---- listings
more_inner : IsInner Keyword.More
more_inner = record { some = refl; no_tag = refl }

listing_goes : (more : Bool) (xs : List Extent) (u : UnreadWords) (rest : List (List ℕ)) → Takes u.words (listing_parts more xs) rest → Stops rest → Goes (listing_ahead u) (record { more = more; extents = xs }) rest
unfolding listing_ahead
listing_goes more xs u rest takes stops =
    let list = takes.4 in
    let words : takes.1 ≡ list.0 ++ rest = list.2 ∙ ap (λ ws. list.0 ++ ws) list.4 in
    flag_then (λ (more : Bool × UnreadWords). extents_ahead 2729 more.1 >>= (λ ys. Ok (record { more = more.0; extents = ys.0 }, ys.1))) _ rest
    (flag_goes Keyword.More u more takes.0 takes.1 takes.2 takes.3 (subst (IsNot Keyword.More) (sym words) (extents_not Keyword.More xs list.0 rest more_inner list.3.1 stops)))
    (λ left here. goes_made (extents_ahead 2729 left) xs rest (λ ys. record { more = more; extents = ys }) (extents_goes 2729 xs left list.0 rest (here ∙ words) list.3 stops))

listing_sound : (u : UnreadWords) (x : Listing × UnreadWords) → listing_ahead u ≡ Ok x → Took u.words (listing_parts x.0.more x.0.extents) x.1.words
unfolding listing_ahead
listing_sound u x is =
    let more = flag_ahead Keyword.More u in
    let extents = made_of (extents_ahead 2729 more.1) (λ ys. record { more = more.0; extents = ys }) x is in
    subst (λ (p : Listing). Took u.words (listing_parts p.more p.extents) x.1.words) extents.value_is
    (subst (λ (v : UnreadWords). Took u.words (listing_parts more.0 extents.found.0) v.words) extents.left_is
    (took_then (flag_sound Keyword.More u) (extents_sound 2729 more.1 extents.found extents.begun)))

-- ---- requests of hosts
pub host_request_goes : (q : HostRequest) (u : UnreadWords) (rest : List (List ℕ)) → Takes u.words (host_tail q) rest → Stops rest → Goes (host_request_ahead (host_command_of q) u) q rest
unfolding host_request_ahead
host_request_goes (HostRequest.GetEvents log) u rest takes stops = goes_made (named_ahead Keyword.Log 255 u) log rest (λ n. HostRequest.GetEvents n) (named_goes Keyword.Log Form.Count 255 log u rest takes)
host_request_goes (HostRequest.ClearEvents log all handles) u rest takes stops =
    goes_made (clearing_ahead u) (record { log = log; all = all; handles = handles }) rest (λ (p : Clearing). HostRequest.ClearEvents p.log p.all p.handles) (clearing_goes log all handles u rest takes stops)
host_request_goes (HostRequest.GetConfiguration count first) u rest takes stops =
    goes_made (page_ahead 255 u) (record { first = first; count = count }) rest (λ (p : Page). HostRequest.GetConfiguration p.count p.first) (page_goes 255 first count u rest takes)
host_request_goes (HostRequest.GetExtents count first) u rest takes stops =
    goes_made (page_ahead most_32 u) (record { first = first; count = count }) rest (λ (p : Page). HostRequest.GetExtents p.count p.first) (page_goes most_32 first count u rest takes)
host_request_goes (HostRequest.AddResponse more xs) u rest takes stops =
    goes_made (listing_ahead u) (record { more = more; extents = xs }) rest (λ (p : Listing). HostRequest.AddResponse p.more p.extents) (listing_goes more xs u rest takes stops)
host_request_goes (HostRequest.GiveBack more xs) u rest takes stops =
    goes_made (listing_ahead u) (record { more = more; extents = xs }) rest (λ (p : Listing). HostRequest.GiveBack p.more p.extents) (listing_goes more xs u rest takes stops)

-- What was read of a command of a host: its request, and the words that say it.
pub record HostRead (command : HostCommand) (u : UnreadWords) (x : HostRequest × UnreadWords) : Type 0 where
  pub command_is : host_command_of x.0 ≡ command
  pub took : Took u.words (host_tail x.0) x.1.words

host_made : {A : Type 0} (command : HostCommand) (u : UnreadWords) (read : Result (A × UnreadWords) TextFault) (make : A → HostRequest) (x : HostRequest × UnreadWords)
    → ((y : A) → host_command_of (make y) ≡ command) → ((y : A × UnreadWords) → read ≡ Ok y → Took u.words (host_tail (make y.0)) y.1.words)
    → (read >>= (λ y. Ok (make y.0, y.1))) ≡ Ok x → HostRead command u x
host_made command u read make x names sound is =
    let m = made_of read make x is in
    record {
      command_is = ap host_command_of (sym m.value_is) ∙ names m.found.0;
      took = subst (λ q. Took u.words (host_tail q) x.1.words) m.value_is (subst (λ (v : UnreadWords). Took u.words (host_tail (make m.found.0)) v.words) m.left_is (sound m.found m.begun));
    }

pub host_request_sound : (command : HostCommand) (u : UnreadWords) (x : HostRequest × UnreadWords) → host_request_ahead command u ≡ Ok x → HostRead command u x
unfolding host_request_ahead
host_request_sound HostCommand.GetEventRecords u x is = host_made HostCommand.GetEventRecords u (named_ahead Keyword.Log 255 u) (λ n. HostRequest.GetEvents n) x (λ y. refl) (λ y e. named_sound Keyword.Log Form.Count 255 u y e) is
host_request_sound HostCommand.ClearEventRecords u x is = host_made HostCommand.ClearEventRecords u (clearing_ahead u) (λ (p : Clearing). HostRequest.ClearEvents p.log p.all p.handles) x (λ y. refl) (λ y e. clearing_sound u y e) is
host_request_sound HostCommand.GetConfiguration u x is = host_made HostCommand.GetConfiguration u (page_ahead 255 u) (λ (p : Page). HostRequest.GetConfiguration p.count p.first) x (λ y. refl) (λ y e. page_sound 255 u y e) is
host_request_sound HostCommand.GetExtentList u x is = host_made HostCommand.GetExtentList u (page_ahead most_32 u) (λ (p : Page). HostRequest.GetExtents p.count p.first) x (λ y. refl) (λ y e. page_sound most_32 u y e) is
host_request_sound HostCommand.AddResponse u x is = host_made HostCommand.AddResponse u (listing_ahead u) (λ (p : Listing). HostRequest.AddResponse p.more p.extents) x (λ y. refl) (λ y e. listing_sound u y e) is
host_request_sound HostCommand.Release u x is = host_made HostCommand.Release u (listing_ahead u) (λ (p : Listing). HostRequest.GiveBack p.more p.extents) x (λ y. refl) (λ y e. listing_sound u y e) is

-- ---- parts of the manager's commands
host_page_goes : (most host first count : ℕ) (u : UnreadWords) (rest : List (List ℕ)) → Takes u.words (Part.HostOf host ∷ page_parts most first count) rest → Goes (host_page_ahead most u) (record { host = host; page = record { first = first; count = count } }) rest
unfolding host_page_ahead
host_page_goes most host first count u rest takes =
    goes_then _ _ rest (host_goes host u takes.0 takes.1 takes.2 takes.3)
    (λ left here. goes_made (page_ahead most left) (record { first = first; count = count }) rest (λ (p : Page). record { host = host; page = p })
    (page_goes most first count left rest (subst (λ ws. Takes ws (page_parts most first count) rest) (sym here) takes.4)))

host_page_sound : (most : ℕ) (u : UnreadWords) (x : HostPage × UnreadWords) → host_page_ahead most u ≡ Ok x → Took u.words (Part.HostOf x.0.host ∷ page_parts most x.0.page.first x.0.page.count) x.1.words
unfolding host_page_ahead
host_page_sound most u x is =
    let host = bound (host_ahead u) (λ h. page_ahead most h.1 >>= (λ p. Ok (record { host = h.0; page = p.0 }, p.1))) x is in
    let page = made_of (page_ahead most host.value.1) (λ (p : Page). record { host = host.value.0; page = p }) x host.done in
    subst (λ (p : HostPage). Took u.words (Part.HostOf p.host ∷ page_parts most p.page.first p.page.count) x.1.words) page.value_is
    (subst (λ (v : UnreadWords). Took u.words (Part.HostOf host.value.0 ∷ page_parts most page.found.0.first page.found.0.count) v.words) page.left_is
    (took_then (host_sound u host.value host.begun) (page_sound most host.value.1 page.found page.begun)))

sanitize_inner : IsInner Keyword.Sanitize
sanitize_inner = record { some = refl; no_tag = refl }

setting_goes : (region block : ℕ) (sanitize : Bool) (u : UnreadWords) (rest : List (List ℕ)) → Takes u.words (setting_parts region block sanitize) rest → Stops rest → Goes (setting_ahead u) (record { region = region; block = block; sanitize = sanitize }) rest
unfolding setting_ahead
setting_goes region block sanitize u rest takes stops =
    let number = takes.4 in
    let key_block = number.4 in
    let size = key_block.4 in
    let set = size.4 in
    goes_then _ _ rest (named_goes Keyword.Region Form.Count 255 region u number.1 (takes.0, takes.1, takes.2, takes.3, (number.0, number.1, number.2, number.3, refl)))
    (λ left here.
    goes_then _ _ rest (named_goes Keyword.Block Form.Size most_64 block left size.1 (key_block.0, key_block.1, here ∙ key_block.2, key_block.3, (size.0, size.1, size.2, size.3, refl)))
    (λ next there.
    flag_then (λ (set : Bool × UnreadWords). Ok (record { region = region; block = block; sanitize = set.0 }, set.1)) _ rest
    (flag_goes Keyword.Sanitize next sanitize set.0 rest (there ∙ set.2 ∙ ap (λ ws. set.0 ++ ws) set.4) set.3 (stops_not Keyword.Sanitize rest sanitize_inner stops))
    (λ last end. record { left = last; is = refl; words = end })))

setting_sound : (u : UnreadWords) (x : Setting × UnreadWords) → setting_ahead u ≡ Ok x → Took u.words (setting_parts x.0.region x.0.block x.0.sanitize) x.1.words
unfolding setting_ahead
setting_sound u x is =
    let region = bound (named_ahead Keyword.Region 255 u) (λ r. named_ahead Keyword.Block most_64 r.1 >>= (λ b. let s = flag_ahead Keyword.Sanitize b.1 in Ok (record { region = r.0; block = b.0; sanitize = s.0 }, s.1))) x is in
    let block = bound (named_ahead Keyword.Block most_64 region.value.1) (λ b. let s = flag_ahead Keyword.Sanitize b.1 in Ok (record { region = region.value.0; block = b.0; sanitize = s.0 }, s.1)) x region.done in
    let set = flag_ahead Keyword.Sanitize block.value.1 in
    let e : (record { region = region.value.0; block = block.value.0; sanitize = set.0 }, set.1) ≡ x = ok_is _ x block.done in
    subst (λ (p : Setting × UnreadWords). Took u.words (setting_parts p.0.region p.0.block p.0.sanitize) p.1.words) e
    (took_then (named_sound Keyword.Region Form.Count 255 u region.value region.begun)
    (took_then (named_sound Keyword.Block Form.Size most_64 region.value.1 block.value block.begun) (flag_sound Keyword.Sanitize block.value.1)))

spot_goes : (host region : ℕ) (u : UnreadWords) (rest : List (List ℕ)) → Takes u.words (spot_parts host region) rest → Goes (spot_ahead u) (record { host = host; region = region }) rest
unfolding spot_ahead
spot_goes host region u rest takes =
    goes_then _ _ rest (host_goes host u takes.0 takes.1 takes.2 takes.3)
    (λ left here. goes_made (named_ahead Keyword.Region 255 left) region rest (λ r. record { host = host; region = r })
    (named_goes Keyword.Region Form.Count 255 region left rest (subst (λ ws. Takes ws (key Keyword.Region ∷ Part.Number Form.Count 255 region ∷ []) rest) (sym here) takes.4)))

spot_sound : (u : UnreadWords) (x : Spot × UnreadWords) → spot_ahead u ≡ Ok x → Took u.words (spot_parts x.0.host x.0.region) x.1.words
unfolding spot_ahead
spot_sound u x is =
    let host = bound (host_ahead u) (λ h. named_ahead Keyword.Region 255 h.1 >>= (λ r. Ok (record { host = h.0; region = r.0 }, r.1))) x is in
    let region = made_of (named_ahead Keyword.Region 255 host.value.1) (λ r. record { host = host.value.0; region = r }) x host.done in
    subst (λ (p : Spot). Took u.words (spot_parts p.host p.region) x.1.words) region.value_is
    (subst (λ (v : UnreadWords). Took u.words (spot_parts host.value.0 region.found.0) v.words) region.left_is
    (took_then (host_sound u host.value host.begun) (named_sound Keyword.Region Form.Count 255 host.value.1 region.found region.begun)))

length_inner : IsInner Keyword.Length
length_inner = record { some = refl; no_tag = refl }

tag_inner : IsInner Keyword.Tag
tag_inner = record { some = refl; no_tag = refl }

-- what comes before extents, or they themselves, or what is behind them
tag_not : (k : Keyword) (tag : Tag) (xs : List Extent) (words front mid list rest : List (List ℕ)) → IsInner k → pointwise ◌==◌ (keyword_text Keyword.Tag) (keyword_text k) ≡ false
    → words ≡ front ++ mid → ReadsPart front (Part.MayTag tag) → mid ≡ list ++ rest → ReadsPart list (Part.Extents 1637 xs) → Stops rest → IsNot k words
tag_not k tag xs words front mid list rest inner differs is (inl absent) behind reads stops =
    subst (IsNot k) (sym (is ∙ ap (λ ws. ws ++ mid) absent.0 ∙ behind)) (extents_not k xs list rest inner reads.1 stops)
tag_not k tag xs words front mid list rest inner differs is (inr present) behind reads stops =
    is_key k Keyword.Tag words (present.0 ∷ mid) (is ∙ ap (λ ws. ws ++ mid) present.1) differs

-- no other keyword begins what is said of capacity
capacity_not : (k : Keyword) (bytes : ℕ) (tag : Tag) (xs : List Extent) (words rest : List (List ℕ)) → IsInner k → pointwise ◌==◌ (keyword_text Keyword.Tag) (keyword_text k) ≡ false → pointwise ◌==◌ (keyword_text Keyword.Length) (keyword_text k) ≡ false
    → Takes words (capacity_parts bytes tag xs) rest → Stops rest → IsNot k words
capacity_not k bytes tag xs words rest inner no_tag no_length takes stops = by takes.3
  where
    by : ReadsPart takes.0 (Part.May Keyword.Length Form.Size most_64 bytes) → IsNot k words
    by (inl absent) = subst (IsNot k) (sym (takes.2 ∙ ap (λ ws. ws ++ takes.1) absent.0))
        (tag_not k tag xs takes.1 takes.4.0 takes.4.1 takes.4.4.0 rest inner no_tag takes.4.2 takes.4.3 (takes.4.4.2 ∙ ap (λ ws. takes.4.4.0 ++ ws) takes.4.4.4) takes.4.4.3 stops)
    by (inr present) = is_key k Keyword.Length words (present.0 ∷ takes.1) (takes.2 ∙ ap (λ ws. ws ++ takes.1) present.1) no_length

capacity_goes : (bytes : ℕ) (tag : Tag) (xs : List Extent) (u : UnreadWords) (rest : List (List ℕ)) → Takes u.words (capacity_parts bytes tag xs) rest → Stops rest → Goes (capacity_ahead u) (record { length = bytes; tag = tag; extents = xs }) rest
unfolding capacity_ahead
capacity_goes bytes tag xs u rest takes stops =
    let mark = takes.4 in
    let list = mark.4 in
    let end : mark.1 ≡ list.0 ++ rest = list.2 ∙ ap (λ ws. list.0 ++ ws) list.4 in
    goes_then _ _ rest (may_goes Keyword.Length Form.Size most_64 bytes u takes.0 takes.1 takes.2 takes.3 (tag_not Keyword.Length tag xs takes.1 mark.0 mark.1 list.0 rest length_inner refl mark.2 mark.3 end list.3 stops))
    (λ left here.
    goes_then _ _ rest (may_tag_goes tag left mark.0 mark.1 (here ∙ mark.2) mark.3 (subst (IsNot Keyword.Tag) (sym end) (extents_not Keyword.Tag xs list.0 rest tag_inner list.3.1 stops)))
    (λ next there. goes_made (extents_ahead 1637 next) xs rest (λ ys. record { length = bytes; tag = tag; extents = ys }) (extents_goes 1637 xs next list.0 rest (there ∙ end) list.3 stops)))

capacity_sound : (u : UnreadWords) (x : Capacity × UnreadWords) → capacity_ahead u ≡ Ok x → Took u.words (capacity_parts x.0.length x.0.tag x.0.extents) x.1.words
unfolding capacity_ahead
capacity_sound u x is =
    let size = bound (may_ahead Keyword.Length most_64 u) (λ s. may_tag_ahead s.1 >>= (λ t. extents_ahead 1637 t.1 >>= (λ ys. Ok (record { length = s.0; tag = t.0; extents = ys.0 }, ys.1)))) x is in
    let tag = bound (may_tag_ahead size.value.1) (λ t. extents_ahead 1637 t.1 >>= (λ ys. Ok (record { length = size.value.0; tag = t.0; extents = ys.0 }, ys.1))) x size.done in
    let extents = made_of (extents_ahead 1637 tag.value.1) (λ ys. record { length = size.value.0; tag = tag.value.0; extents = ys }) x tag.done in
    subst (λ (p : Capacity). Took u.words (capacity_parts p.length p.tag p.extents) x.1.words) extents.value_is
    (subst (λ (v : UnreadWords). Took u.words (capacity_parts size.value.0 tag.value.0 extents.found.0) v.words) extents.left_is
    (took_then (may_sound Keyword.Length Form.Size most_64 u size.value size.begun) (took_then (may_tag_sound size.value.1 tag.value tag.begun) (extents_sound 1637 tag.value.1 extents.found extents.begun))))

forced_inner : IsInner Keyword.Forced
forced_inner = record { some = refl; no_tag = refl }

-- the parts of a spot, and what is behind them
spot_front : (host region : ℕ) (words rest : List (List ℕ)) (parts : List Part) → Takes words (spot_parts host region ++ parts) rest → (mid : List (List ℕ)) × Takes words (spot_parts host region) mid × Takes mid parts rest
spot_front host region words rest parts takes =
    let name = takes.4 in
    let number = name.4 in
    (number.1, (takes.0, takes.1, takes.2, takes.3, (name.0, name.1, name.2, name.3, (number.0, number.1, number.2, number.3, refl))), number.4)

add_goes : (host policy region bytes : ℕ) (tag : Tag) (xs : List Extent) (u : UnreadWords) (rest : List (List ℕ)) → Takes u.words (spot_parts host region ++ Part.AddPolicy policy ∷ capacity_parts bytes tag xs) rest → Stops rest → Goes (add_ahead u) (FmRequest.Add host policy region bytes tag xs) rest
unfolding add_ahead
add_goes host policy region bytes tag xs u rest takes stops =
    let p = spot_front host region u.words rest (Part.AddPolicy policy ∷ capacity_parts bytes tag xs) takes in
    goes_then _ _ rest (spot_goes host region u p.0 p.1)
    (λ left here.
    goes_then _ _ rest (add_policy_goes policy left p.2.0 p.2.1 (here ∙ p.2.2) p.2.3)
    (λ next there. goes_made (capacity_ahead next) (record { length = bytes; tag = tag; extents = xs }) rest (λ (y : Capacity). FmRequest.Add host policy region y.length y.tag y.extents)
    (capacity_goes bytes tag xs next rest (subst (λ ws. Takes ws (capacity_parts bytes tag xs) rest) (sym there) p.2.4) stops)))

remove_goes : (host flags region bytes : ℕ) (tag : Tag) (xs : List Extent) (u : UnreadWords) (rest : List (List ℕ)) → Takes u.words (spot_parts host region ++ Part.ReleaseFlags flags ∷ capacity_parts bytes tag xs) rest → Stops rest → Goes (remove_ahead u) (FmRequest.Remove host flags region bytes tag xs) rest
unfolding remove_ahead
remove_goes host flags region bytes tag xs u rest takes stops =
    let p = spot_front host region u.words rest (Part.ReleaseFlags flags ∷ capacity_parts bytes tag xs) takes in
    goes_then _ _ rest (spot_goes host region u p.0 p.1)
    (λ left here.
    goes_then _ _ rest (release_flags_goes flags left p.2.0 p.2.1 (here ∙ p.2.2) p.2.3
    (capacity_not Keyword.Forced bytes tag xs p.2.1 rest forced_inner refl refl p.2.4 stops) (capacity_not Keyword.Sanitize bytes tag xs p.2.1 rest sanitize_inner refl refl p.2.4 stops))
    (λ next there. goes_made (capacity_ahead next) (record { length = bytes; tag = tag; extents = xs }) rest (λ (y : Capacity). FmRequest.Remove host flags region y.length y.tag y.extents)
    (capacity_goes bytes tag xs next rest (subst (λ ws. Takes ws (capacity_parts bytes tag xs) rest) (sym there) p.2.4) stops)))

pub manager_request_goes : (q : FmRequest) (u : UnreadWords) (rest : List (List ℕ)) → Takes u.words (manager_tail q) rest → Stops rest → Goes (manager_request_ahead (manager_command_of q) u) q rest
unfolding manager_request_ahead
manager_request_goes (FmRequest.GetEvents log) u rest takes stops = goes_made (named_ahead Keyword.Log 255 u) log rest (λ n. FmRequest.GetEvents n) (named_goes Keyword.Log Form.Count 255 log u rest takes)
manager_request_goes (FmRequest.ClearEvents log all handles) u rest takes stops =
    goes_made (clearing_ahead u) (record { log = log; all = all; handles = handles }) rest (λ (p : Clearing). FmRequest.ClearEvents p.log p.all p.handles) (clearing_goes log all handles u rest takes stops)
manager_request_goes FmRequest.GetInfo u rest takes stops = record { left = u; is = refl; words = takes }
manager_request_goes (FmRequest.GetRegions host count first) u rest takes stops =
    goes_made (host_page_ahead 255 u) (record { host = host; page = record { first = first; count = count } }) rest (λ (p : HostPage). FmRequest.GetRegions p.host p.page.count p.page.first) (host_page_goes 255 host first count u rest takes)
manager_request_goes (FmRequest.SetRegion region sanitize block) u rest takes stops =
    goes_made (setting_ahead u) (record { region = region; block = block; sanitize = sanitize }) rest (λ (p : Setting). FmRequest.SetRegion p.region p.sanitize p.block) (setting_goes region block sanitize u rest takes stops)
manager_request_goes (FmRequest.GetExtentLists host count first) u rest takes stops =
    goes_made (host_page_ahead most_32 u) (record { host = host; page = record { first = first; count = count } }) rest (λ (p : HostPage). FmRequest.GetExtentLists p.host p.page.count p.page.first) (host_page_goes most_32 host first count u rest takes)
manager_request_goes (FmRequest.Add host policy region bytes tag xs) u rest takes stops = add_goes host policy region bytes tag xs u rest takes stops
manager_request_goes (FmRequest.Remove host flags region bytes tag xs) u rest takes stops = remove_goes host flags region bytes tag xs u rest takes stops
manager_request_goes (FmRequest.AddReference tag) u rest takes stops = goes_made (tag_ahead u) tag rest (λ t. FmRequest.AddReference t) (tag_goes tag u takes.0 rest (takes.2 ∙ ap (λ ws. takes.0 ++ ws) takes.4) takes.3)
manager_request_goes (FmRequest.RemoveReference tag) u rest takes stops = goes_made (tag_ahead u) tag rest (λ t. FmRequest.RemoveReference t) (tag_goes tag u takes.0 rest (takes.2 ∙ ap (λ ws. takes.0 ++ ws) takes.4) takes.3)
manager_request_goes (FmRequest.ListTags first count) u rest takes stops =
    goes_made (page_ahead most_32 u) (record { first = first; count = count }) rest (λ (p : Page). FmRequest.ListTags p.first p.count) (page_goes most_32 first count u rest takes)

-- What was read of a command of the manager: its request, and the words that say it.
pub record ManagerRead (command : ManagerCommand) (u : UnreadWords) (x : FmRequest × UnreadWords) : Type 0 where
  pub command_is : manager_command_of x.0 ≡ command
  pub took : Took u.words (manager_tail x.0) x.1.words

manager_made : {A : Type 0} (command : ManagerCommand) (u : UnreadWords) (read : Result (A × UnreadWords) TextFault) (make : A → FmRequest) (x : FmRequest × UnreadWords)
    → ((y : A) → manager_command_of (make y) ≡ command) → ((y : A × UnreadWords) → read ≡ Ok y → Took u.words (manager_tail (make y.0)) y.1.words)
    → (read >>= (λ y. Ok (make y.0, y.1))) ≡ Ok x → ManagerRead command u x
manager_made command u read make x names sound is =
    let m = made_of read make x is in
    record {
      command_is = ap manager_command_of (sym m.value_is) ∙ names m.found.0;
      took = subst (λ q. Took u.words (manager_tail q) x.1.words) m.value_is (subst (λ (v : UnreadWords). Took u.words (manager_tail (make m.found.0)) v.words) m.left_is (sound m.found m.begun));
    }

add_sound : (u : UnreadWords) (x : FmRequest × UnreadWords) → add_ahead u ≡ Ok x → ManagerRead ManagerCommand.InitiateAdd u x
unfolding add_ahead
add_sound u x is =
    let spot = bound (spot_ahead u) (λ s. add_policy_ahead s.1 >>= (λ p. capacity_ahead p.1 >>= (λ c. Ok (FmRequest.Add s.0.host p.0 s.0.region c.0.length c.0.tag c.0.extents, c.1)))) x is in
    let policy = bound (add_policy_ahead spot.value.1) (λ p. capacity_ahead p.1 >>= (λ c. Ok (FmRequest.Add spot.value.0.host p.0 spot.value.0.region c.0.length c.0.tag c.0.extents, c.1))) x spot.done in
    let made = made_of (capacity_ahead policy.value.1) (λ (c : Capacity). FmRequest.Add spot.value.0.host policy.value.0 spot.value.0.region c.length c.tag c.extents) x policy.done in
    record {
      command_is = ap manager_command_of (sym made.value_is);
      took = subst (λ q. Took u.words (manager_tail q) x.1.words) made.value_is
          (subst (λ (v : UnreadWords). Took u.words (manager_tail (FmRequest.Add spot.value.0.host policy.value.0 spot.value.0.region made.found.0.length made.found.0.tag made.found.0.extents)) v.words) made.left_is
          (took_then (spot_sound u spot.value spot.begun) (took_then (add_policy_sound spot.value.1 policy.value policy.begun) (capacity_sound policy.value.1 made.found made.begun))));
    }

remove_sound : (u : UnreadWords) (x : FmRequest × UnreadWords) → remove_ahead u ≡ Ok x → ManagerRead ManagerCommand.InitiateRelease u x
unfolding remove_ahead
remove_sound u x is =
    let spot = bound (spot_ahead u) (λ s. release_flags_ahead s.1 >>= (λ p. capacity_ahead p.1 >>= (λ c. Ok (FmRequest.Remove s.0.host p.0 s.0.region c.0.length c.0.tag c.0.extents, c.1)))) x is in
    let flags = bound (release_flags_ahead spot.value.1) (λ p. capacity_ahead p.1 >>= (λ c. Ok (FmRequest.Remove spot.value.0.host p.0 spot.value.0.region c.0.length c.0.tag c.0.extents, c.1))) x spot.done in
    let made = made_of (capacity_ahead flags.value.1) (λ (c : Capacity). FmRequest.Remove spot.value.0.host flags.value.0 spot.value.0.region c.length c.tag c.extents) x flags.done in
    record {
      command_is = ap manager_command_of (sym made.value_is);
      took = subst (λ q. Took u.words (manager_tail q) x.1.words) made.value_is
          (subst (λ (v : UnreadWords). Took u.words (manager_tail (FmRequest.Remove spot.value.0.host flags.value.0 spot.value.0.region made.found.0.length made.found.0.tag made.found.0.extents)) v.words) made.left_is
          (took_then (spot_sound u spot.value spot.begun) (took_then (release_flags_sound spot.value.1 flags.value flags.begun) (capacity_sound flags.value.1 made.found made.begun))));
    }

pub manager_request_sound : (command : ManagerCommand) (u : UnreadWords) (x : FmRequest × UnreadWords) → manager_request_ahead command u ≡ Ok x → ManagerRead command u x
unfolding manager_request_ahead
manager_request_sound ManagerCommand.GetEventRecords u x is = manager_made ManagerCommand.GetEventRecords u (named_ahead Keyword.Log 255 u) (λ n. FmRequest.GetEvents n) x (λ y. refl) (λ y e. named_sound Keyword.Log Form.Count 255 u y e) is
manager_request_sound ManagerCommand.ClearEventRecords u x is = manager_made ManagerCommand.ClearEventRecords u (clearing_ahead u) (λ (p : Clearing). FmRequest.ClearEvents p.log p.all p.handles) x (λ y. refl) (λ y e. clearing_sound u y e) is
manager_request_sound ManagerCommand.GetInfo u x is =
    let e : (FmRequest.GetInfo, u) ≡ x = ok_is _ x is in
    subst (ManagerRead ManagerCommand.GetInfo u) e (record { command_is = refl; took = record { all = refl } })
manager_request_sound ManagerCommand.GetRegionConfiguration u x is = manager_made ManagerCommand.GetRegionConfiguration u (host_page_ahead 255 u) (λ (p : HostPage). FmRequest.GetRegions p.host p.page.count p.page.first) x (λ y. refl) (λ y e. host_page_sound 255 u y e) is
manager_request_sound ManagerCommand.SetRegionConfiguration u x is = manager_made ManagerCommand.SetRegionConfiguration u (setting_ahead u) (λ (p : Setting). FmRequest.SetRegion p.region p.sanitize p.block) x (λ y. refl) (λ y e. setting_sound u y e) is
manager_request_sound ManagerCommand.GetRegionExtentLists u x is = manager_made ManagerCommand.GetRegionExtentLists u (host_page_ahead most_32 u) (λ (p : HostPage). FmRequest.GetExtentLists p.host p.page.count p.page.first) x (λ y. refl) (λ y e. host_page_sound most_32 u y e) is
manager_request_sound ManagerCommand.InitiateAdd u x is = add_sound u x is
manager_request_sound ManagerCommand.InitiateRelease u x is = remove_sound u x is
manager_request_sound ManagerCommand.AddReference u x is = manager_made ManagerCommand.AddReference u (tag_ahead u) (λ t. FmRequest.AddReference t) x (λ y. refl) (λ y e. tag_sound u y e) is
manager_request_sound ManagerCommand.RemoveReference u x is = manager_made ManagerCommand.RemoveReference u (tag_ahead u) (λ t. FmRequest.RemoveReference t) x (λ y. refl) (λ y e. tag_sound u y e) is
manager_request_sound ManagerCommand.ListTags u x is = manager_made ManagerCommand.ListTags u (page_ahead most_32 u) (λ (p : Page). FmRequest.ListTags p.first p.count) x (λ y. refl) (λ y e. page_sound most_32 u y e) is
