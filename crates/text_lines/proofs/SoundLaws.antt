-- A line that words say is one that a script may have: its actor is there, and its message is short.
use Rattle.std.proofs.Common.{◌≡◌, ℕ, ◌*◌, ◌≤◌, true, ◌==◌, ◌&&◌, nat_lt, List, [], ◌∷◌, length, Option, Some, None, Result, Ok, Err, refl, sym, ap, ◌∙◌, subst, inl, inr, arith, append-nil, length-append}
use Rattle.std.proofs.lemmas.Bool.{and_from, cases_Bool, cond-false, cond-true, eq-eqb, eqb-true, le-leb}
use Rattle.std.specs.Prelude.{flat_map}
use Rattle.cci_codec.specs.{Messages.ReadsRequest, Messages.request_fields, declared.messages.Request.Request}
use Rattle.dcd_base.{proofs.Fields.length_of_fields, specs.EventCommands.handle_fields, specs.Extents.extent_fields, specs.Layouts.spelling, specs.declared.capacity.Extent.Extent}
use Rattle.dcd_base.specs.declared.{capacity.Tag.Tag, ids.HostId.HostId, steps.Actor.Actor}
use Rattle.fm_payloads.specs.{ManagerPayloads.manager_fields, ManagerPayloads.placed_fields, declared.requests.FmRequest.FmRequest}
use Rattle.host_payloads.specs.{HostPayloads.host_fields, HostPayloads.listed_fields, declared.requests.HostRequest.HostRequest}
use Rattle.journal_core.specs.declared.acts.Act.{Act}
use Rattle.script_codec.specs.{Scripts.is_sound_line, Writing.has_short_message, declared.script_line.Line.Line}
use Rattle.text_lines.proofs.LineLaws.{split_parts}
use Rattle.text_lines.specs.Actors.{actor_of_seat, actor_of_word, has_dot, host_said, is_manager_word, seat_of_parts, seat_said}
use Rattle.text_lines.specs.Extents.{after, before, extent_said, untagged}
use Rattle.text_lines.specs.Layouts.{NamesHostCommand, NamesManagerCommand, SaysLine, TellsBytes, host_tail, manager_tail, tag_part}
use Rattle.text_lines.specs.{Numbers.digits_said, Numbers.number_said, Numbers.under, Pairs.pairs_said, Pairs.tag_of_bytes, Pairs.tag_said}
use Rattle.text_lines.specs.{Parts.AllSay, Parts.Part, Parts.ReadsPart, Parts.SaysExtent, Parts.Takes, WordChains.◌>>?◌ as ◌>>=◌, declared.actors.Frame.Frame, declared.actors.Speaker.Speaker}
use Rattle.text_lines.specs.declared.{faults.Wanted.Wanted, word_faults.NumberFault.NumberFault}

-- ---- hosts and lanes
number_is : {A : Type 0} (x y : A) → ◌≡◌ {A = Result A NumberFault} (Ok x) (Ok y) → x ≡ y
number_is x y e = cc

under_is : (limit n : ℕ) (o : Option ℕ) → under limit o ≡ Ok n → nat_lt n limit ≡ true
under_is limit n None is = cc
under_is limit n (Some m) is = elim (cases_Bool (nat_lt m limit)) [
  | inl e ↦ subst (λ k. nat_lt k limit ≡ true) (number_is m n (sym (cond-true (nat_lt m limit) (Ok m) (Err NumberFault.TooLarge) e) ∙ is)) e
  | inr e ↦ let f : Err NumberFault.TooLarge ≡ Ok n = sym (cond-false (nat_lt m limit) (Ok m) (Err NumberFault.TooLarge) e) ∙ is in cc
]

record PartsAre (a b : Result ℕ NumberFault) (x : ℕ × ℕ) : Type 0 where
  host : a ≡ Ok x.0
  lane : b ≡ Ok x.1

parts_are : (a b : Result ℕ NumberFault) (x : ℕ × ℕ) → seat_of_parts a b ≡ Ok x → PartsAre a b x
parts_are (Ok h) (Ok l) x is = let e : (h, l) ≡ x = number_is (h, l) x is in record { host = ap (λ (p : ℕ × ℕ). Ok p.0) e; lane = ap (λ (p : ℕ × ℕ). Ok p.1) e }
parts_are (Ok h) (Err NumberFault.NoNumber) x is = cc
parts_are (Ok h) (Err NumberFault.TooLarge) x is = cc
parts_are (Err NumberFault.NoNumber) (Ok l) x is = cc
parts_are (Err NumberFault.NoNumber) (Err NumberFault.NoNumber) x is = cc
parts_are (Err NumberFault.NoNumber) (Err NumberFault.TooLarge) x is = cc
parts_are (Err NumberFault.TooLarge) (Ok l) x is = cc
parts_are (Err NumberFault.TooLarge) (Err NumberFault.NoNumber) x is = cc
parts_are (Err NumberFault.TooLarge) (Err NumberFault.TooLarge) x is = cc

-- A host of the script and a lane of it.
record IsSeat (frame : Frame) (host lane : ℕ) : Type 0 where
  known : nat_lt host frame.hosts ≡ true
  within : nat_lt lane frame.lanes ≡ true

seat_is : (frame : Frame) (word : List ℕ) (x : ℕ × ℕ) → seat_said frame word ≡ Ok x → IsSeat frame x.0 x.1
unfolding seat_said
seat_is frame word x is = elim (cases_Bool ((frame.version == 2) && has_dot word)) [
  | inl e ↦
      let p = parts_are _ _ x (sym (cond-true ((frame.version == 2) && has_dot word) _ _ e) ∙ is) in
      record { known = under_is frame.hosts x.0 (host_said (before 46 word)) p.host; within = under_is frame.lanes x.1 (digits_said 10 (after 46 word)) p.lane }
  | inr e ↦
      let p = parts_are _ _ x (sym (cond-false ((frame.version == 2) && has_dot word) _ _ e) ∙ is) in
      record { known = under_is frame.hosts x.0 (host_said word) p.host; within = under_is frame.lanes x.1 (Some 0) p.lane }
]

spoken_seat : (frame : Frame) (word : List ℕ) (host lane : ℕ) (seat : Result (ℕ × ℕ) NumberFault) → seat_said frame word ≡ seat → actor_of_seat Wanted.Actor seat ≡ Ok (Speaker.Host host lane) → IsSeat frame host lane
spoken_seat frame word host lane (Ok s) e is =
    let h : s.0 ≡ host = (cc) in
    let l : s.1 ≡ lane = (cc) in
    subst (λ n. IsSeat frame n lane) h (subst (λ n. IsSeat frame s.0 n) l (seat_is frame word s e))
spoken_seat frame word host lane (Err NumberFault.NoNumber) e is = cc
spoken_seat frame word host lane (Err NumberFault.TooLarge) e is = cc

host_is : (frame : Frame) (word : List ℕ) (host lane : ℕ) → actor_of_word frame Wanted.Actor word ≡ Ok (Speaker.Host host lane) → IsSeat frame host lane
unfolding actor_of_word
host_is frame word host lane is = elim (cases_Bool (is_manager_word word)) [
  | inl e ↦ let f : Ok Speaker.Manager ≡ Ok (Speaker.Host host lane) = sym (cond-true (is_manager_word word) (Ok Speaker.Manager) (actor_of_seat Wanted.Actor (seat_said frame word)) e) ∙ is in cc
  | inr e ↦ spoken_seat frame word host lane (seat_said frame word) refl (sym (cond-false (is_manager_word word) (Ok Speaker.Manager) (actor_of_seat Wanted.Actor (seat_said frame word)) e) ∙ is)
]

seat_sound : (frame : Frame) (word : List ℕ) (host : HostId) (lane : ℕ) → actor_of_word frame Wanted.Actor word ≡ Ok (Speaker.Host host lane) → (nat_lt host frame.hosts && nat_lt lane frame.lanes) ≡ true
seat_sound frame word host lane is = let s = host_is frame word host lane is in and_from (nat_lt host frame.hosts) (nat_lt lane frame.lanes) s.known s.within

pub sound_line : (frame : Frame) (line : Line) (words : List (List ℕ)) → SaysLine frame line words → is_sound_line frame.hosts frame.lanes line ≡ true
sound_line frame Line.Mark words says = refl
sound_line frame (Line.Do (Actor.Host host) lane (Act.Command message)) words (inl names) = let t = names.reads.all in seat_sound frame t.3.0 host lane t.3.2
sound_line frame (Line.Do (Actor.Host host) lane (Act.Command message)) words (inr tells) = let t = tells.reads.all in seat_sound frame t.4.3.0 host lane t.4.3.2
sound_line frame (Line.Do (Actor.Host host) lane (Act.Load dpa)) words says = let t = says.all in seat_sound frame t.3.0 host lane t.3.2
sound_line frame (Line.Do (Actor.Host host) lane (Act.Store dpa value)) words says = let t = says.all in seat_sound frame t.3.0 host lane t.3.2
sound_line frame (Line.Do (Actor.Host host) lane (Act.Scrub most)) words says = absurd says
sound_line frame (Line.Do Actor.Manager lane (Act.Command message)) words (inl names) = let t = names.reads.all in eq-eqb lane 0 t.3.2.0
sound_line frame (Line.Do Actor.Manager lane (Act.Command message)) words (inr tells) = let t = tells.reads.all in eq-eqb lane 0 t.4.3.2.0
sound_line frame (Line.Do Actor.Manager lane (Act.Load dpa)) words says = absurd says
sound_line frame (Line.Do Actor.Manager lane (Act.Store dpa value)) words says = absurd says
sound_line frame (Line.Do Actor.Manager lane (Act.Scrub most)) words says = absurd says
sound_line frame (Line.Do Actor.Sanitizer lane (Act.Scrub most)) words says = eq-eqb lane 0 says.0
sound_line frame (Line.Do Actor.Sanitizer lane (Act.Command message)) words says = absurd says
sound_line frame (Line.Do Actor.Sanitizer lane (Act.Load dpa)) words says = absurd says
sound_line frame (Line.Do Actor.Sanitizer lane (Act.Store dpa value)) words says = absurd says

-- ---- how long payloads are
handles_size : (handles : List ℕ) → length (spelling (handle_fields handles)) ≡ 2 * length handles
handles_size [] = refl
handles_size (h ∷ handles) = omega (arith, handles_size handles)

listed_size : (xs : List Extent) → length (spelling (flat_map listed_fields xs)) ≡ 24 * length xs
listed_size [] = refl
listed_size (x ∷ xs) = omega (arith, listed_size xs)

-- Tags of sixteen bytes.
abbrev HaveTags : List Extent → Type 0
HaveTags [] = Unit {0}
HaveTags (x ∷ xs) = (length x.tag.0 ≡ 16) × HaveTags xs

whole_size : (xs : List Extent) → HaveTags xs → length (spelling (flat_map extent_fields xs)) ≡ 40 * length xs
whole_size [] have = refl
whole_size (x ∷ xs) have = omega (arith, have.0, whole_size xs have.1, length-append {A = ℕ})

untagged_tag : (x : Extent) (a b : Option ℕ) → (a >>= (λ start. b >>= (λ size. Some (untagged start size)))) ≡ Some x → length x.tag.0 ≡ 16
untagged_tag x None b is = cc
untagged_tag x (Some s) None is = cc
untagged_tag x (Some s) (Some l) is = let e : untagged s l ≡ x = (cc) in ap (λ (y : Extent). length y.tag.0) (sym e)

have_tags : (xs : List Extent) (words : List (List ℕ)) → AllSay SaysExtent xs words → HaveTags xs
unfolding extent_said
have_tags [] [] all = tt
have_tags [] (w ∷ ws) all = absurd all
have_tags (x ∷ xs) [] all = absurd all
have_tags (x ∷ xs) (w ∷ ws) all = (untagged_tag x (number_said (before 43 w)) (number_said (after 43 w)) all.0.said, have_tags xs ws all.1)

tag_size : (tag : Tag) (o : Option (List ℕ)) → (o >>= tag_of_bytes) ≡ Some tag → length tag.0 ≡ 16
tag_size tag None is = cc
tag_size tag (Some bytes) is = elim (cases_Bool (length bytes == 16)) [
  | inl e ↦
      let made : Tag = record { 0 = bytes } in
      let f : Some made ≡ Some tag = sym (cond-true (length bytes == 16) (Some made) None e) ∙ is in
      let g : made ≡ tag = (cc) in
      ap (λ (t : Tag). length t.0) (sym g) ∙ eqb-true (length bytes) 16 e
  | inr e ↦
      let made : Tag = record { 0 = bytes } in
      let f : None ≡ Some tag = sym (cond-false (length bytes == 16) (Some made) None e) ∙ is in cc
]

tag_long : (word : List ℕ) (tag : Tag) → tag_said word ≡ Some tag → length tag.0 ≡ 16
unfolding tag_said
tag_long word tag is = tag_size tag (pairs_said word) is

may_tag_long : (tag : Tag) (words : List (List ℕ)) → ReadsPart words (Part.MayTag tag) → length tag.0 ≡ 16
may_tag_long tag words (inl absent) = ap (λ (t : Tag). length t.0) absent.1
may_tag_long tag words (inr present) = tag_long present.0 tag present.2

few_handles : (handles : List ℕ) (words : List (List ℕ)) → ReadsPart words (Part.Handles handles) → length handles ≤ 255
few_handles handles words (inl absent) = omega (arith, ap length absent.1)
few_handles handles words (inr tells) = tells.few

host_short : (q : HostRequest) (words rest : List (List ℕ)) → Takes words (host_tail q) rest → length (spelling (host_fields q)) ≤ 65523
host_short (HostRequest.GetEvents log) words rest t = omega arith
host_short (HostRequest.ClearEvents log all handles) words rest t = omega (arith, handles_size handles, few_handles handles t.4.4.4.0 t.4.4.4.3)
host_short (HostRequest.GetConfiguration count first) words rest t = omega arith
host_short (HostRequest.GetExtents count first) words rest t = omega arith
host_short (HostRequest.AddResponse more xs) words rest t = let few = t.4.3.0 in omega (arith, listed_size xs, few)
host_short (HostRequest.GiveBack more xs) words rest t = let few = t.4.3.0 in omega (arith, listed_size xs, few)

placed_short : (host choice region bytes : ℕ) (tag : Tag) (xs : List Extent) (words : List (List ℕ)) → length tag.0 ≡ 16 → length xs ≤ 1637 → AllSay SaysExtent xs words → length (spelling (placed_fields host choice region bytes tag xs)) ≤ 65523
placed_short host choice region bytes tag xs words long few all = omega (arith, long, few, whole_size xs (have_tags xs words all), length-append {A = ℕ})

manager_short : (q : FmRequest) (words rest : List (List ℕ)) → Takes words (manager_tail q) rest → length (spelling (manager_fields q)) ≤ 65523
manager_short (FmRequest.GetEvents log) words rest t = omega arith
manager_short (FmRequest.ClearEvents log all handles) words rest t = omega (arith, handles_size handles, few_handles handles t.4.4.4.0 t.4.4.4.3)
manager_short FmRequest.GetInfo words rest t = omega arith
manager_short (FmRequest.GetRegions host count first) words rest t = omega arith
manager_short (FmRequest.SetRegion region sanitize block) words rest t = omega arith
manager_short (FmRequest.GetExtentLists host count first) words rest t = omega arith
manager_short (FmRequest.Add host policy region bytes tag xs) words rest t =
    let mark = t.4.4.4.4.4 in
    let list = mark.4 in
    placed_short host policy region bytes tag xs list.0 (may_tag_long tag mark.0 mark.3) list.3.0 list.3.1
manager_short (FmRequest.Remove host flags region bytes tag xs) words rest t =
    let mark = t.4.4.4.4.4 in
    let list = mark.4 in
    placed_short host flags region bytes tag xs list.0 (may_tag_long tag mark.0 mark.3) list.3.0 list.3.1
manager_short (FmRequest.AddReference tag) words rest t = let long = tag_long t.3.0 tag t.3.2 in omega (arith, long, ap length (append-nil tag.0))
manager_short (FmRequest.RemoveReference tag) words rest t = let long = tag_long t.3.0 tag t.3.2 in omega (arith, long, ap length (append-nil tag.0))
manager_short (FmRequest.ListTags first count) words rest t = omega arith

-- ---- messages are short
told_short : (bytes : List ℕ) (message : Request) → ReadsRequest bytes message → length bytes ≤ 65535 → length message.payload ≤ 65523
unfolding ReadsRequest
told_short bytes message reads short = omega (arith, length_of_fields bytes (request_fields message) reads.agrees, short, ap length (append-nil message.payload))

host_named_short : (frame : Frame) (host : HostId) (lane : ℕ) (message : Request) (words : List (List ℕ)) → NamesHostCommand frame host lane message words → length message.payload ≤ 65523
host_named_short frame host lane message words names =
    let t = names.reads.all in
    let s = split_parts t.4.1 [] (host_tail names.request) (tag_part names.tag ∷ []) t.4.4 in
    let short = host_short names.request t.4.1 s.mid s.front in
    subst (λ (m : Request). length m.payload ≤ 65523) (sym names.message_is) short

manager_named_short : (frame : Frame) (lane : ℕ) (message : Request) (words : List (List ℕ)) → NamesManagerCommand frame lane message words → length message.payload ≤ 65523
manager_named_short frame lane message words names =
    let t = names.reads.all in
    let s = split_parts t.4.1 [] (manager_tail names.request) (tag_part names.tag ∷ []) t.4.4 in
    let short = manager_short names.request t.4.1 s.mid s.front in
    subst (λ (m : Request). length m.payload ≤ 65523) (sym names.message_is) short

told_bytes_short : (frame : Frame) (actor : Actor) (lane : ℕ) (message : Request) (words : List (List ℕ)) → TellsBytes frame actor lane message words → length message.payload ≤ 65523
told_bytes_short frame actor lane message words tells = let t = tells.reads.all in told_short tells.bytes message tells.message_is t.4.4.3.1

pub short_message : (frame : Frame) (line : Line) (words : List (List ℕ)) → SaysLine frame line words → has_short_message line ≡ true
short_message frame Line.Mark words says = refl
short_message frame (Line.Do (Actor.Host host) lane (Act.Command message)) words (inl names) = le-leb (length message.payload) 65523 (host_named_short frame host lane message words names)
short_message frame (Line.Do (Actor.Host host) lane (Act.Command message)) words (inr tells) = le-leb (length message.payload) 65523 (told_bytes_short frame (Actor.Host host) lane message words tells)
short_message frame (Line.Do Actor.Manager lane (Act.Command message)) words (inl names) = le-leb (length message.payload) 65523 (manager_named_short frame lane message words names)
short_message frame (Line.Do Actor.Manager lane (Act.Command message)) words (inr tells) = le-leb (length message.payload) 65523 (told_bytes_short frame Actor.Manager lane message words tells)
short_message frame (Line.Do Actor.Sanitizer lane (Act.Command message)) words says = absurd says
short_message frame (Line.Do actor lane (Act.Load dpa)) words says = refl
short_message frame (Line.Do actor lane (Act.Store dpa value)) words says = refl
short_message frame (Line.Do actor lane (Act.Scrub most)) words says = refl
