-- Lines of a script: what is read is what the words say, and the other way round.
use Rattle.std.proofs.Common.{◌≡◌, ℕ, cond, ◌==◌, ◌⊎◌, List, [], ◌∷◌, ◌++◌, Option, Some, None, Result, Ok, refl, sym, ap, ◌∙◌, subst, inl, inr, append-nil}
use lib.Pointwise.{pointwise, bytes_decides}
use Rattle.std.{specs.Prelude.codes, proofs.lemmas.Bool.cases_Bool, proofs.lemmas.Bool.cond-false, proofs.lemmas.Bool.cond-true}
use Rattle.cci_codec.specs.declared.messages.Request.{Request}
use Rattle.dcd_base.specs.declared.{ids.HostId.HostId, steps.Actor.Actor}
use Rattle.fm_payloads.specs.declared.requests.FmRequest.{FmRequest}
use Rattle.host_payloads.specs.declared.requests.HostRequest.{HostRequest}
use Rattle.journal_core.specs.declared.acts.Act.{Act}
use Rattle.script_codec.specs.declared.script_line.Line.{Line}
use Rattle.text_lines.proofs.{ListLaws.Stops, MessageLaws.bytes_goes, MessageLaws.bytes_sound, MessageLaws.message_goes, MessageLaws.message_sound}
use Rattle.text_lines.proofs.NameLaws.{host_command_known, host_command_named, manager_command_known, manager_command_named}
use Rattle.text_lines.proofs.OpeningLaws.{OpenedBy, opened_by, opens_actor, opens_command, opens_mark, opens_scrub}
use Rattle.text_lines.proofs.PartLaws.{actor_by, actor_goes, actor_sound, lane_by, says_speaker}
use Rattle.text_lines.proofs.RequestLaws.{goes_made, host_request_goes, host_request_sound, made_of, manager_request_goes, manager_request_sound}
use Rattle.text_lines.specs.{Actors.actor_ahead, Actors.actor_of_word, Chains.◌>>!◌ as ◌>>=◌}
use Rattle.text_lines.specs.Commands.{host_command_said, host_command_text, manager_command_said, manager_command_text}
use Rattle.text_lines.specs.{Fields.end_ahead, Fields.may_ahead, Fields.number_ahead, Fields.one_word, HostRequests.host_request_ahead, Keywords.keyword_text, ManagerRequests.manager_request_ahead}
use Rattle.text_lines.specs.{Parts.Form, Parts.Part, Parts.ReadsPart, Parts.ReadsParts, Parts.Takes, Unread.UnreadWords, Unread.first_unread, declared.actors.Frame.Frame}
use Rattle.text_lines.specs.declared.{actors.Speaker.Speaker, commands.HostCommand.HostCommand, commands.ManagerCommand.ManagerCommand, faults.Cause.Cause, faults.TextFault.TextFault}
use Rattle.text_lines.specs.declared.{faults.Wanted.Wanted, keywords.Keyword.Keyword, openings.HostWord.HostWord, openings.Opening.Opening}
use Rattle.text_lines.specs.Layouts.{NamesHostCommand, NamesManagerCommand, SaysAct, SaysLine, TellsBytes, command_line, host_command_of, host_tail, load_parts, manager_command_of, manager_tail, most_64, store_parts, tag_part}
use Rattle.text_lines.specs.Lines.{actor_line_ahead, bytes_ahead, command_ahead, host_act_ahead, host_asked_ahead, host_message, host_rest_ahead, host_word, host_word_of, line_by, load_ahead, manager_act_ahead, manager_asked_ahead, manager_message, manager_word, message_said, opened_ahead, opening_ahead, opening_of_word, rest_ahead, scrub_ahead, speaker_act_ahead, store_ahead}
use Rattle.text_lines.proofs.FieldLaws.{Goes, Took, bound, end_goes, end_sound, goes_then, may_goes, may_sound, number_goes, number_sound, ok_is, one_goes, one_sound, took_one, took_then}

-- ---- parts in front and parts behind
pub record Split (words rest : List (List ℕ)) (ps qs : List Part) : Type 0 where
  pub mid : List (List ℕ)
  pub front : Takes words ps mid
  pub back : Takes mid qs rest

pub split_parts : (words rest : List (List ℕ)) (ps qs : List Part) → Takes words (ps ++ qs) rest → Split words rest ps qs
split_parts words rest [] qs t = record { mid = words; front = refl; back = t }
split_parts words rest (p ∷ ps) qs t = let s = split_parts t.1 rest ps qs t.4 in record { mid = s.mid; front = (t.0, t.1, t.2, t.3, s.front); back = s.back }

-- words whose front is one word
pub word_first : (words front behind : List (List ℕ)) (w : List ℕ) → words ≡ front ++ behind → front ≡ w ∷ [] → words ≡ w ∷ behind
word_first words front behind w is one = is ∙ ap (λ ws. ws ++ behind) one

pub word_last : (words front behind : List (List ℕ)) → words ≡ front ++ behind → behind ≡ [] → words ≡ front ++ []
word_last words front behind is none = is ∙ ap (λ ws. front ++ ws) none

pub reads_all : (words rest : List (List ℕ)) (ps : List Part) → Took words ps rest → rest ≡ [] → ReadsParts words ps
reads_all words rest ps t none = record { all = subst (λ ws. Takes words ps ws) none t.all }

pub fixed_took : (words rest : List (List ℕ)) (w text : List ℕ) → words ≡ w ∷ rest → w ≡ text → Took words (Part.Fixed text ∷ []) rest
fixed_took words rest w text is same = took_one words (text ∷ []) rest (Part.Fixed text) (is ∙ ap (λ x. x ∷ rest) same) refl

-- ---- what opens a line, and what is read behind that
pub record LineRead (frame : Frame) (u : UnreadWords) (line : Line) : Type 0 where
  pub opening : Opening
  pub left : UnreadWords
  pub opened : opening_ahead frame u ≡ Ok (opening, left)
  pub rest : rest_ahead frame opening left ≡ Ok line

opens : (frame : Frame) (u : UnreadWords) (o : Opening) (w : List ℕ) (rest : List (List ℕ)) → u.words ≡ w ∷ rest → opening_of_word frame w ≡ Ok o → Goes (opening_ahead frame u) o rest
unfolding opening_ahead
opens frame u o w rest is said = one_goes Wanted.Line u (opening_of_word frame) o w rest is said

line_read : (frame : Frame) (u : UnreadWords) (o : Opening) (line : Line) (rest : List (List ℕ)) → Goes (opening_ahead frame u) o rest → ((left : UnreadWords) → left.words ≡ rest → Goes (opened_ahead frame o left) line []) → LineRead frame u line
unfolding rest_ahead
line_read frame u o line rest g f =
    let h = f g.left g.words in
    let end = end_goes h.left h.words in
    record {
      opening = o;
      left = g.left;
      opened = g.is;
      rest = ap (λ (r : Result (Line × UnreadWords) TextFault). r >>= (λ l. end_ahead l.1 >>= (λ e. Ok l.0))) h.is ∙ ap (λ (r : Result (Unit {0} × UnreadWords) TextFault). r >>= (λ e. Ok line)) end.is;
    }

-- ---- marks and scrubs
mark_goes : (frame : Frame) (u : UnreadWords) → ReadsParts u.words (Part.Fixed (codes "mark") ∷ []) → LineRead frame u Line.Mark
mark_goes frame u reads =
    let t = reads.all in
    line_read frame u Opening.Mark Line.Mark [] (opens frame u Opening.Mark (codes "mark") [] (word_first u.words t.0 t.1 (codes "mark") t.2 t.3 ∙ ap (λ ws. codes "mark" ∷ ws) t.4) (opens_mark frame))
    (λ left here. record { left = left; is = refl; words = here })

scrub_goes : (frame : Frame) (u : UnreadWords) (most : ℕ) → ReadsParts u.words (Part.Fixed (codes "scrub") ∷ Part.Number Form.Count 65535 most ∷ []) → LineRead frame u (Line.Do Actor.Sanitizer 0 (Act.Scrub most))
unfolding scrub_ahead
scrub_goes frame u most reads =
    let t = reads.all in
    line_read frame u Opening.Scrub (Line.Do Actor.Sanitizer 0 (Act.Scrub most)) t.1 (opens frame u Opening.Scrub (codes "scrub") t.1 (word_first u.words t.0 t.1 (codes "scrub") t.2 t.3) (opens_scrub frame))
    (λ left here. goes_made (number_ahead 65535 left) most [] (λ n. Line.Do Actor.Sanitizer 0 (Act.Scrub n)) (number_goes Form.Count 65535 most left t.4.0 [] (here ∙ word_last t.1 t.4.0 t.4.1 t.4.2 t.4.4) t.4.3))

-- ---- messages byte by byte
line_by_is : (speaker : Speaker) (act : Act) → line_by speaker act ≡ Line.Do (actor_by speaker) (lane_by speaker) act
line_by_is (Speaker.Host host lane) act = refl
line_by_is Speaker.Manager act = refl

told_goes : (frame : Frame) (u : UnreadWords) (actor : Actor) (lane : ℕ) (message : Request) → TellsBytes frame actor lane message u.words → LineRead frame u (Line.Do actor lane (Act.Command message))
unfolding command_ahead
told_goes frame u actor lane message tells =
    let t = tells.reads.all in
    let who = t.4.3 in
    let spoken = says_speaker frame actor lane who.0 who.2 in
    let list = t.4.4 in
    let line : line_by spoken.speaker (Act.Command message) ≡ Line.Do actor lane (Act.Command message) =
    line_by_is spoken.speaker (Act.Command message) ∙ (λ i. Line.Do (spoken.actor_is i) (spoken.lane_is i) (Act.Command message)) in
    subst (LineRead frame u) line
    (line_read frame u Opening.Command (line_by spoken.speaker (Act.Command message)) t.1 (opens frame u Opening.Command (codes "command") t.1 (word_first u.words t.0 t.1 (codes "command") t.2 t.3) (opens_command frame))
    (λ left here.
    goes_then (λ a. bytes_ahead a.1 >>= (λ b. message_said a.1.line a.1.word b.0 >>= (λ q. Ok (line_by a.0 (Act.Command q), b.1)))) (line_by spoken.speaker (Act.Command message)) []
    (actor_goes frame spoken.speaker left who.0 t.4.1 (here ∙ word_first t.1 t.4.0 t.4.1 who.0 t.4.2 who.1) spoken.said)
    (λ next there.
    goes_then (λ b. message_said next.line next.word b.0 >>= (λ q. Ok (line_by spoken.speaker (Act.Command q), b.1))) (line_by spoken.speaker (Act.Command message)) []
    (bytes_goes tells.bytes next list.0 (there ∙ word_last t.4.1 list.0 list.1 list.2 list.4 ∙ append-nil list.0) list.3.0 list.3.1 list.3.2)
    (λ last end. record {
      left = last;
      is = ap (λ (r : Result Request TextFault). r >>= (λ q. Ok (line_by spoken.speaker (Act.Command q), last))) (message_goes next.line next.word tells.bytes message tells.message_is);
      words = end;
    }))))

-- ---- what hosts do
host_acts : (frame : Frame) (host : HostId) (lane : ℕ) (u : UnreadWords) (act : Act) (w : List ℕ) (rest : List (List ℕ)) → u.words ≡ w ∷ rest → actor_of_word frame Wanted.Actor w ≡ Ok (Speaker.Host host lane)
    → ((left : UnreadWords) → left.words ≡ rest → Goes (host_act_ahead left) act []) → LineRead frame u (Line.Do (Actor.Host host) lane act)
unfolding actor_line_ahead
host_acts frame host lane u act w rest is said f =
    line_read frame u (Opening.By (Speaker.Host host lane)) (Line.Do (Actor.Host host) lane act) rest (opens frame u (Opening.By (Speaker.Host host lane)) w rest is (opens_actor frame w (Speaker.Host host lane) said))
    (λ left here. goes_made (host_act_ahead left) act [] (λ a. Line.Do (Actor.Host host) lane a) (f left here))

manager_acts : (frame : Frame) (u : UnreadWords) (act : Act) (w : List ℕ) (rest : List (List ℕ)) → u.words ≡ w ∷ rest → actor_of_word frame Wanted.Actor w ≡ Ok Speaker.Manager
    → ((left : UnreadWords) → left.words ≡ rest → Goes (manager_act_ahead left) act []) → LineRead frame u (Line.Do Actor.Manager 0 act)
unfolding actor_line_ahead
manager_acts frame u act w rest is said f =
    line_read frame u (Opening.By Speaker.Manager) (Line.Do Actor.Manager 0 act) rest (opens frame u (Opening.By Speaker.Manager) w rest is (opens_actor frame w Speaker.Manager said))
    (λ left here. goes_made (manager_act_ahead left) act [] (λ a. Line.Do Actor.Manager 0 a) (f left here))

host_act_goes : (u : UnreadWords) (name : HostWord) (act : Act) (w : List ℕ) (rest : List (List ℕ)) → u.words ≡ w ∷ rest → host_word w ≡ Ok name → ((left : UnreadWords) → left.words ≡ rest → Goes (host_rest_ahead name left) act []) → Goes (host_act_ahead u) act []
unfolding host_act_ahead
host_act_goes u name act w rest is said f = goes_then (λ n. host_rest_ahead n.0 n.1) act [] (one_goes Wanted.HostCommand u host_word name w rest is said) f

load_known : host_word (codes "load") ≡ Ok HostWord.Load
unfolding host_word
load_known = refl

store_known : host_word (codes "store") ≡ Ok HostWord.Store
unfolding host_word
store_known = refl

host_word_known : (command : HostCommand) → host_word (host_command_text command) ≡ Ok (HostWord.Ask command)
unfolding host_word
host_word_known HostCommand.GetEventRecords = ap host_word_of (host_command_known HostCommand.GetEventRecords)
host_word_known HostCommand.ClearEventRecords = ap host_word_of (host_command_known HostCommand.ClearEventRecords)
host_word_known HostCommand.GetConfiguration = ap host_word_of (host_command_known HostCommand.GetConfiguration)
host_word_known HostCommand.GetExtentList = ap host_word_of (host_command_known HostCommand.GetExtentList)
host_word_known HostCommand.AddResponse = ap host_word_of (host_command_known HostCommand.AddResponse)
host_word_known HostCommand.Release = ap host_word_of (host_command_known HostCommand.Release)

load_goes : (frame : Frame) (host : HostId) (lane dpa : ℕ) (u : UnreadWords) → ReadsParts u.words (load_parts frame (Actor.Host host) lane dpa) → LineRead frame u (Line.Do (Actor.Host host) lane (Act.Load dpa))
unfolding load_ahead
load_goes frame host lane dpa u reads =
    let t = reads.all in
    let k = t.4 in
    let n = k.4 in
    host_acts frame host lane u (Act.Load dpa) t.3.0 t.1 (word_first u.words t.0 t.1 t.3.0 t.2 t.3.1) t.3.2
    (λ left here. host_act_goes left HostWord.Load (Act.Load dpa) (codes "load") k.1 (here ∙ word_first t.1 k.0 k.1 (codes "load") k.2 k.3) load_known
    (λ next there. goes_made (number_ahead most_64 next) dpa [] (λ d. Act.Load d) (number_goes Form.Size most_64 dpa next n.0 [] (there ∙ word_last k.1 n.0 n.1 n.2 n.4) n.3)))

store_goes : (frame : Frame) (host : HostId) (lane dpa value : ℕ) (u : UnreadWords) → ReadsParts u.words (store_parts frame (Actor.Host host) lane dpa value) → LineRead frame u (Line.Do (Actor.Host host) lane (Act.Store dpa value))
unfolding store_ahead
store_goes frame host lane dpa value u reads =
    let t = reads.all in
    let k = t.4 in
    let n = k.4 in
    let m = n.4 in
    host_acts frame host lane u (Act.Store dpa value) t.3.0 t.1 (word_first u.words t.0 t.1 t.3.0 t.2 t.3.1) t.3.2
    (λ left here. host_act_goes left HostWord.Store (Act.Store dpa value) (codes "store") k.1 (here ∙ word_first t.1 k.0 k.1 (codes "store") k.2 k.3) store_known
    (λ next there.
    goes_then (λ d. number_ahead most_64 d.1 >>= (λ v. Ok (Act.Store d.0 v.0, v.1))) (Act.Store dpa value) [] (number_goes Form.Size most_64 dpa next n.0 n.1 (there ∙ n.2) n.3)
    (λ last end. goes_made (number_ahead most_64 last) value [] (λ v. Act.Store dpa v) (number_goes Form.Size most_64 value last m.0 [] (end ∙ word_last n.1 m.0 m.1 m.2 m.4) m.3))))

-- ---- the message tag
tag_stops : (tag : ℕ) (words : List (List ℕ)) → Takes words (tag_part tag ∷ []) [] → Stops words
tag_stops tag words t = by t.3
  where
    by : ReadsPart t.0 (tag_part tag) → Stops words
    by (inl absent) = inl (t.2 ∙ ap (λ ws. ws ++ t.1) absent.0 ∙ t.4)
    by (inr present) = inr (present.0 ∷ [], t.2 ∙ ap (λ ws. ws ++ t.1) present.1 ∙ ap (λ ws. keyword_text Keyword.MessageTag ∷ present.0 ∷ ws) t.4)

tag_read : (tag : ℕ) (u : UnreadWords) (words : List (List ℕ)) → u.words ≡ words → Takes words (tag_part tag ∷ []) [] → Goes (may_ahead Keyword.MessageTag 255 u) tag []
tag_read tag u words is t = may_goes Keyword.MessageTag Form.Count 255 tag u t.0 [] (is ∙ word_last words t.0 t.1 t.2 t.4) t.3 refl

-- ---- messages by the names of their commands
host_asked_goes : (q : HostRequest) (tag : ℕ) (u : UnreadWords) → Takes u.words (host_tail q ++ tag_part tag ∷ []) [] → Goes (host_asked_ahead (host_command_of q) u) (Act.Command (host_message tag q)) []
unfolding host_asked_ahead
host_asked_goes q tag u takes =
    let s = split_parts u.words [] (host_tail q) (tag_part tag ∷ []) takes in
    goes_then (λ r. may_ahead Keyword.MessageTag 255 r.1 >>= (λ t. Ok (Act.Command (host_message t.0 r.0), t.1))) (Act.Command (host_message tag q)) [] (host_request_goes q u s.mid s.front (tag_stops tag s.mid s.back))
    (λ left here. goes_made (may_ahead Keyword.MessageTag 255 left) tag [] (λ t. Act.Command (host_message t q)) (tag_read tag left s.mid here s.back))

manager_asked_goes : (q : FmRequest) (tag : ℕ) (u : UnreadWords) → Takes u.words (manager_tail q ++ tag_part tag ∷ []) [] → Goes (manager_asked_ahead (manager_command_of q) u) (Act.Command (manager_message tag q)) []
unfolding manager_asked_ahead
manager_asked_goes q tag u takes =
    let s = split_parts u.words [] (manager_tail q) (tag_part tag ∷ []) takes in
    goes_then (λ r. may_ahead Keyword.MessageTag 255 r.1 >>= (λ t. Ok (Act.Command (manager_message t.0 r.0), t.1))) (Act.Command (manager_message tag q)) [] (manager_request_goes q u s.mid s.front (tag_stops tag s.mid s.back))
    (λ left here. goes_made (may_ahead Keyword.MessageTag 255 left) tag [] (λ t. Act.Command (manager_message t q)) (tag_read tag left s.mid here s.back))

host_named_goes : (frame : Frame) (host : HostId) (lane : ℕ) (message : Request) (u : UnreadWords) → NamesHostCommand frame host lane message u.words → LineRead frame u (Line.Do (Actor.Host host) lane (Act.Command message))
host_named_goes frame host lane message u names =
    let t = names.reads.all in
    let k = t.4 in
    let q = names.request in
    let name = host_command_text (host_command_of q) in
    subst (λ m. LineRead frame u (Line.Do (Actor.Host host) lane (Act.Command m))) (sym names.message_is)
    (host_acts frame host lane u (Act.Command (host_message names.tag q)) t.3.0 t.1 (word_first u.words t.0 t.1 t.3.0 t.2 t.3.1) t.3.2
    (λ left here. host_act_goes left (HostWord.Ask (host_command_of q)) (Act.Command (host_message names.tag q)) name k.1 (here ∙ word_first t.1 k.0 k.1 name k.2 k.3) (host_word_known (host_command_of q))
    (λ next there. host_asked_goes q names.tag next (subst (λ ws. Takes ws (host_tail q ++ tag_part names.tag ∷ []) []) (sym there) k.4))))

manager_act_goes : (u : UnreadWords) (command : ManagerCommand) (act : Act) (rest : List (List ℕ)) → u.words ≡ manager_command_text command ∷ rest → ((left : UnreadWords) → left.words ≡ rest → Goes (manager_asked_ahead command left) act []) → Goes (manager_act_ahead u) act []
unfolding manager_act_ahead
manager_act_goes u command act rest is f =
    goes_then (λ n. manager_asked_ahead n.0 n.1) act [] (one_goes Wanted.ManagerCommand u (λ w. manager_word (manager_command_said w)) command (manager_command_text command) rest is (ap manager_word (manager_command_known command))) f

manager_named_goes : (frame : Frame) (lane : ℕ) (message : Request) (u : UnreadWords) → NamesManagerCommand frame lane message u.words → LineRead frame u (Line.Do Actor.Manager lane (Act.Command message))
manager_named_goes frame lane message u names =
    let t = names.reads.all in
    let k = t.4 in
    let q = names.request in
    let name = manager_command_text (manager_command_of q) in
    subst (λ m. LineRead frame u (Line.Do Actor.Manager lane (Act.Command m))) (sym names.message_is)
    (subst (λ n. LineRead frame u (Line.Do Actor.Manager n (Act.Command (manager_message names.tag q)))) (sym t.3.2.0)
    (manager_acts frame u (Act.Command (manager_message names.tag q)) t.3.0 t.1 (word_first u.words t.0 t.1 t.3.0 t.2 t.3.1) t.3.2.1
    (λ left here. manager_act_goes left (manager_command_of q) (Act.Command (manager_message names.tag q)) k.1 (here ∙ word_first t.1 k.0 k.1 name k.2 k.3)
    (λ next there. manager_asked_goes q names.tag next (subst (λ ws. Takes ws (manager_tail q ++ tag_part names.tag ∷ []) []) (sym there) k.4)))))

-- ---- words that say a line are read as it
pub line_goes : (frame : Frame) (line : Line) (u : UnreadWords) → SaysLine frame line u.words → LineRead frame u line
line_goes frame Line.Mark u says = mark_goes frame u says
line_goes frame (Line.Do (Actor.Host host) lane (Act.Command message)) u (inl names) = host_named_goes frame host lane message u names
line_goes frame (Line.Do (Actor.Host host) lane (Act.Command message)) u (inr tells) = told_goes frame u (Actor.Host host) lane message tells
line_goes frame (Line.Do (Actor.Host host) lane (Act.Load dpa)) u says = load_goes frame host lane dpa u says
line_goes frame (Line.Do (Actor.Host host) lane (Act.Store dpa value)) u says = store_goes frame host lane dpa value u says
line_goes frame (Line.Do (Actor.Host host) lane (Act.Scrub most)) u says = absurd says
line_goes frame (Line.Do Actor.Manager lane (Act.Command message)) u (inl names) = manager_named_goes frame lane message u names
line_goes frame (Line.Do Actor.Manager lane (Act.Command message)) u (inr tells) = told_goes frame u Actor.Manager lane message tells
line_goes frame (Line.Do Actor.Manager lane (Act.Load dpa)) u says = absurd says
line_goes frame (Line.Do Actor.Manager lane (Act.Store dpa value)) u says = absurd says
line_goes frame (Line.Do Actor.Manager lane (Act.Scrub most)) u says = absurd says
line_goes frame (Line.Do Actor.Sanitizer lane (Act.Scrub most)) u says = subst (λ n. LineRead frame u (Line.Do Actor.Sanitizer n (Act.Scrub most))) (sym says.0) (scrub_goes frame u most says.1)
line_goes frame (Line.Do Actor.Sanitizer lane (Act.Command message)) u says = absurd says
line_goes frame (Line.Do Actor.Sanitizer lane (Act.Load dpa)) u says = absurd says
line_goes frame (Line.Do Actor.Sanitizer lane (Act.Store dpa value)) u says = absurd says

-- ---- the names of what hosts do
abbrev HostWordOf : List ℕ → HostWord → Type 0
HostWordOf w HostWord.Load = w ≡ codes "load"
HostWordOf w HostWord.Store = w ≡ codes "store"
HostWordOf w (HostWord.Ask command) = w ≡ host_command_text command

name_is : {A : Type 0} (x y : A) → ◌≡◌ {A = Result A Cause} (Ok x) (Ok y) → x ≡ y
name_is x y e = cc

chosen_word : (w text : List ℕ) (a n : HostWord) (more : Result HostWord Cause) → cond (pointwise ◌==◌ w text) (Ok a) more ≡ Ok n → ((w ≡ text) × (a ≡ n)) ⊎ (more ≡ Ok n)
chosen_word w text a n more is = elim (cases_Bool (pointwise ◌==◌ w text)) [
  | inl e ↦ inl ((bytes_decides w text).0 e, name_is a n (sym (cond-true (pointwise ◌==◌ w text) (Ok a) more e) ∙ is))
  | inr e ↦ inr (sym (cond-false (pointwise ◌==◌ w text) (Ok a) more e) ∙ is)
]

asked_word : (w : List ℕ) (n : HostWord) (o : Option HostCommand) → host_command_said w ≡ o → host_word_of o ≡ Ok n → HostWordOf w n
asked_word w n None e is = cc
asked_word w n (Some command) e is = subst (HostWordOf w) (name_is (HostWord.Ask command) n is) (host_command_named w command e)

host_word_is : (w : List ℕ) (n : HostWord) → host_word w ≡ Ok n → HostWordOf w n
unfolding host_word
host_word_is w n is =
    elim (chosen_word w (codes "load") HostWord.Load n _ is) [
      | inl p ↦ subst (HostWordOf w) p.1 p.0
      | inr a ↦
          elim (chosen_word w (codes "store") HostWord.Store n _ a) [
            | inl p ↦ subst (HostWordOf w) p.1 p.0
            | inr b ↦ asked_word w n (host_command_said w) refl b
          ]
    ]

manager_word_is : (w : List ℕ) (n : ManagerCommand) (o : Option ManagerCommand) → manager_command_said w ≡ o → manager_word o ≡ Ok n → w ≡ manager_command_text n
manager_word_is w n None e is = cc
manager_word_is w n (Some command) e is = manager_command_named w command e ∙ ap manager_command_text (name_is command n is)

-- ---- what was read of a host
module _ (frame : Frame) (host : HostId) (lane : ℕ) (words : List (List ℕ)) where
  asked_sound : (command : HostCommand) (mid : List (List ℕ)) (w : List ℕ) (v : UnreadWords) (x : Act × UnreadWords) → Took words (Part.ActorOf frame (Actor.Host host) lane ∷ []) mid → mid ≡ w ∷ v.words → w ≡ host_command_text command
      → host_asked_ahead command v ≡ Ok x → x.1.words ≡ [] → SaysAct frame (Actor.Host host) lane x.0 words
  unfolding host_asked_ahead
  asked_sound command mid w v x who is named got none =
      let request = bound (host_request_ahead command v) (λ r. may_ahead Keyword.MessageTag 255 r.1 >>= (λ t. Ok (Act.Command (host_message t.0 r.0), t.1))) x got in
      let tag = made_of (may_ahead Keyword.MessageTag 255 request.value.1) (λ t. Act.Command (host_message t request.value.0)) x request.done in
      let read = host_request_sound command v request.value request.begun in
      let all =
      took_then who (took_then (fixed_took mid v.words w (host_command_text (host_command_of request.value.0)) is (named ∙ ap host_command_text (sym read.command_is)))
      (took_then read.took (may_sound Keyword.MessageTag Form.Count 255 request.value.1 tag.found tag.begun))) in
      subst (λ act. SaysAct frame (Actor.Host host) lane act words) tag.value_is
      (inl (record { tag = tag.found.0; request = request.value.0; message_is = refl; reads = reads_all words tag.found.1.words _ all (ap (λ (r : UnreadWords). r.words) tag.left_is ∙ none) }))

  host_rest_sound : (name : HostWord) (mid : List (List ℕ)) (w : List ℕ) (v : UnreadWords) (x : Act × UnreadWords) → Took words (Part.ActorOf frame (Actor.Host host) lane ∷ []) mid → mid ≡ w ∷ v.words → HostWordOf w name
      → host_rest_ahead name v ≡ Ok x → x.1.words ≡ [] → SaysAct frame (Actor.Host host) lane x.0 words
  unfolding load_ahead store_ahead
  host_rest_sound HostWord.Load mid w v x who is named got none =
      let dpa = made_of (number_ahead most_64 v) (λ d. Act.Load d) x got in
      let all = took_then who (took_then (fixed_took mid v.words w (codes "load") is named) (number_sound Form.Size most_64 v dpa.found dpa.begun)) in
      subst (λ act. SaysAct frame (Actor.Host host) lane act words) dpa.value_is
      (reads_all words dpa.found.1.words (load_parts frame (Actor.Host host) lane dpa.found.0) all (ap (λ (r : UnreadWords). r.words) dpa.left_is ∙ none))
  host_rest_sound HostWord.Store mid w v x who is named got none =
      let dpa = bound (number_ahead most_64 v) (λ d. number_ahead most_64 d.1 >>= (λ n. Ok (Act.Store d.0 n.0, n.1))) x got in
      let value = made_of (number_ahead most_64 dpa.value.1) (λ n. Act.Store dpa.value.0 n) x dpa.done in
      let all =
      took_then who (took_then (fixed_took mid v.words w (codes "store") is named)
      (took_then (number_sound Form.Size most_64 v dpa.value dpa.begun) (number_sound Form.Size most_64 dpa.value.1 value.found value.begun))) in
      subst (λ act. SaysAct frame (Actor.Host host) lane act words) value.value_is
      (reads_all words value.found.1.words (store_parts frame (Actor.Host host) lane dpa.value.0 value.found.0) all (ap (λ (r : UnreadWords). r.words) value.left_is ∙ none))
  host_rest_sound (HostWord.Ask command) mid w v x who is named got none = asked_sound command mid w v x who is named got none

  host_act_sound : (w : List ℕ) (v : UnreadWords) (x : Act × UnreadWords) → words ≡ w ∷ v.words → actor_of_word frame Wanted.Actor w ≡ Ok (Speaker.Host host lane) → host_act_ahead v ≡ Ok x → x.1.words ≡ [] → SaysAct frame (Actor.Host host) lane x.0 words
  unfolding host_act_ahead
  host_act_sound w v x is said got none =
      let name = bound (one_word Wanted.HostCommand v (host_word (first_unread v))) (λ n. host_rest_ahead n.0 n.1) x got in
      let n = one_sound Wanted.HostCommand v (host_word (first_unread v)) name.value name.begun in
      host_rest_sound name.value.0 v.words (first_unread v) name.value.1 x
      (took_one words (w ∷ []) v.words (Part.ActorOf frame (Actor.Host host) lane) is (w, refl, said))
      n.words (host_word_is (first_unread v) name.value.0 n.said) name.done none

-- ---- what was read of the manager
manager_act_sound : (frame : Frame) (words : List (List ℕ)) (w : List ℕ) (v : UnreadWords) (x : Act × UnreadWords) → words ≡ w ∷ v.words → actor_of_word frame Wanted.Actor w ≡ Ok Speaker.Manager → manager_act_ahead v ≡ Ok x → x.1.words ≡ [] → SaysAct frame Actor.Manager 0 x.0 words
unfolding manager_act_ahead manager_asked_ahead
manager_act_sound frame words w v x is said got none =
    let name = bound (one_word Wanted.ManagerCommand v (manager_word (manager_command_said (first_unread v)))) (λ n. manager_asked_ahead n.0 n.1) x got in
    let n = one_sound Wanted.ManagerCommand v (manager_word (manager_command_said (first_unread v))) name.value name.begun in
    let command = name.value.0 in
    let named = manager_word_is (first_unread v) command (manager_command_said (first_unread v)) refl n.said in
    let request = bound (manager_request_ahead command name.value.1) (λ r. may_ahead Keyword.MessageTag 255 r.1 >>= (λ t. Ok (Act.Command (manager_message t.0 r.0), t.1))) x name.done in
    let tag = made_of (may_ahead Keyword.MessageTag 255 request.value.1) (λ t. Act.Command (manager_message t request.value.0)) x request.done in
    let read = manager_request_sound command name.value.1 request.value request.begun in
    let all =
    took_then (took_one words (w ∷ []) v.words (Part.ActorOf frame Actor.Manager 0) is (w, refl, (refl, said)))
    (took_then (fixed_took v.words name.value.1.words (first_unread v) (manager_command_text (manager_command_of request.value.0)) n.words (named ∙ ap manager_command_text (sym read.command_is)))
    (took_then read.took (may_sound Keyword.MessageTag Form.Count 255 request.value.1 tag.found tag.begun))) in
    subst (λ act. SaysAct frame Actor.Manager 0 act words) tag.value_is
    (inl (record { tag = tag.found.0; request = request.value.0; message_is = refl; reads = reads_all words tag.found.1.words _ all (ap (λ (r : UnreadWords). r.words) tag.left_is ∙ none) }))

-- ---- what was read byte by byte
told_says : (frame : Frame) (speaker : Speaker) (message : Request) (words : List (List ℕ)) → TellsBytes frame (actor_by speaker) (lane_by speaker) message words → SaysLine frame (line_by speaker (Act.Command message)) words
told_says frame (Speaker.Host host lane) message words tells = inr tells
told_says frame Speaker.Manager message words tells = inr tells

command_sound : (frame : Frame) (words : List (List ℕ)) (w : List ℕ) (v : UnreadWords) (x : Line × UnreadWords) → words ≡ w ∷ v.words → w ≡ codes "command" → command_ahead frame v ≡ Ok x → SaysLine frame x.0 words
unfolding command_ahead
command_sound frame words w v x is named got =
    let actor = bound (actor_ahead frame v) (λ a. bytes_ahead a.1 >>= (λ b. message_said a.1.line a.1.word b.0 >>= (λ q. Ok (line_by a.0 (Act.Command q), b.1)))) x got in
    let bytes = bound (bytes_ahead actor.value.1) (λ b. message_said actor.value.1.line actor.value.1.word b.0 >>= (λ q. Ok (line_by actor.value.0 (Act.Command q), b.1))) x actor.done in
    let message = bound (message_said actor.value.1.line actor.value.1.word bytes.value.0) (λ q. Ok (line_by actor.value.0 (Act.Command q), bytes.value.1)) x bytes.done in
    let e : (line_by actor.value.0 (Act.Command message.value), bytes.value.1) ≡ x = ok_is _ x message.done in
    let pairs = bytes_sound actor.value.1 bytes.value bytes.begun in
    let all =
    took_then (fixed_took words v.words w (codes "command") is named)
    (took_then (actor_sound frame v actor.value actor.begun)
    (took_one actor.value.1.words actor.value.1.words [] (Part.Pairs bytes.value.0) (sym (append-nil actor.value.1.words)) (pairs.some, pairs.short, pairs.are))) in
    subst (λ (p : Line × UnreadWords). SaysLine frame p.0 words) e
    (told_says frame actor.value.0 message.value words (record {
      bytes = bytes.value.0;
      message_is = message_sound actor.value.1.line actor.value.1.word bytes.value.0 actor.value.1.words message.value pairs.are message.begun;
      reads = reads_all words [] (command_line frame (actor_by actor.value.0) (lane_by actor.value.0) bytes.value.0) all refl;
    }))

-- ---- what was read says the line
acts_sound : (frame : Frame) (speaker : Speaker) (words : List (List ℕ)) (w : List ℕ) (v : UnreadWords) (x : Act × UnreadWords) → words ≡ w ∷ v.words → actor_of_word frame Wanted.Actor w ≡ Ok speaker → speaker_act_ahead speaker v ≡ Ok x → x.1.words ≡ [] → SaysLine frame (line_by speaker x.0) words
acts_sound frame (Speaker.Host host lane) words w v x is said got none = host_act_sound frame host lane words w v x is said got none
acts_sound frame Speaker.Manager words w v x is said got none = manager_act_sound frame words w v x is said got none

opened_sound : (frame : Frame) (o : Opening) (words : List (List ℕ)) (w : List ℕ) (v : UnreadWords) (x : Line × UnreadWords) → words ≡ w ∷ v.words → OpenedBy frame w o → opened_ahead frame o v ≡ Ok x → x.1.words ≡ [] → SaysLine frame x.0 words
unfolding scrub_ahead actor_line_ahead
opened_sound frame Opening.Mark words w v x is opened got none =
    let e : (Line.Mark, v) ≡ x = ok_is _ x got in
    subst (λ (p : Line × UnreadWords). SaysLine frame p.0 words) e
    (reads_all words v.words (Part.Fixed (codes "mark") ∷ []) (fixed_took words v.words w (codes "mark") is opened) (ap (λ (p : Line × UnreadWords). p.1.words) e ∙ none))
opened_sound frame Opening.Scrub words w v x is opened got none =
    let most = made_of (number_ahead 65535 v) (λ n. Line.Do Actor.Sanitizer 0 (Act.Scrub n)) x got in
    let all = took_then (fixed_took words v.words w (codes "scrub") is opened) (number_sound Form.Count 65535 v most.found most.begun) in
    subst (λ line. SaysLine frame line words) most.value_is
    (refl, reads_all words most.found.1.words (Part.Fixed (codes "scrub") ∷ Part.Number Form.Count 65535 most.found.0 ∷ []) all (ap (λ (r : UnreadWords). r.words) most.left_is ∙ none))
opened_sound frame Opening.Command words w v x is opened got none = command_sound frame words w v x is opened got
opened_sound frame (Opening.By speaker) words w v x is opened got none =
    let act = made_of (speaker_act_ahead speaker v) (λ a. line_by speaker a) x got in
    subst (λ line. SaysLine frame line words) act.value_is
    (acts_sound frame speaker words w v act.found is opened act.begun (ap (λ (r : UnreadWords). r.words) act.left_is ∙ none))

pub line_sound : (frame : Frame) (u v : UnreadWords) (o : Opening) (line : Line) → opening_ahead frame u ≡ Ok (o, v) → rest_ahead frame o v ≡ Ok line → SaysLine frame line u.words
unfolding opening_ahead rest_ahead
line_sound frame u v o line opened rest =
    let first = one_sound Wanted.Line u (opening_of_word frame (first_unread u)) (o, v) opened in
    let body = bound (opened_ahead frame o v) (λ l. end_ahead l.1 >>= (λ e. Ok l.0)) line rest in
    let end = bound (end_ahead body.value.1) (λ e. Ok body.value.0) line body.done in
    subst (λ l. SaysLine frame l u.words) (ok_is body.value.0 line end.done)
    (opened_sound frame o u.words (first_unread u) v body.value first.words (opened_by frame (first_unread u) o first.said) body.begun (end_sound body.value.1 end.value end.begun))
