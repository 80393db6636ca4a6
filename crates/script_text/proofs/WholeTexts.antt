-- Whole texts: the script that is read is the one that the text says.
use Rattle.std.proofs.Common.{◌≡◌, ℕ, zero, suc, ◌+◌, ◌*◌, ◌-◌, ◌<◌, ◌≤◌, true, false, cond, ◌==◌, nat_lt, List, [], ◌∷◌, ◌++◌, length, map, take, drop, Option, Some, None, Result, Ok, Err, refl, sym, ap, ◌∙◌, subst, inl, inr, arith, length-append, length-drop, take-append-drop}
use lib.Pointwise.{pointwise}
use Rattle.std.proofs.{Math.Nat.suc-mul, lemmas.Bool.and_from, lemmas.Bool.cases_Bool, lemmas.Bool.cond-false, lemmas.Bool.cond-true, lemmas.Bool.le-ltb, lemmas.Bool.ltb-false, lemmas.Bool.ne_eqb}
use Rattle.std.{proofs.lemmas.List.drop_at, proofs.lemmas.List.length-take-le, proofs.lemmas.List.take_at, specs.List.list_all, specs.Prelude.IfOk}
use Rattle.region_config.specs.{Configurations.Configuration, Setups.config_fault, declared.faults.ConfigFault.ConfigFault, declared.region_spec.RegionSpec.RegionSpec}
use Rattle.text_lines.proofs.{FieldLaws.begins_with, FieldLaws.begins_words, FieldLaws.bound, FieldLaws.ok_is, FieldLaws.one_sound, LineLaws.line_goes, LineLaws.line_sound, LineLaws.word_first}
use Rattle.text_lines.{proofs.OpeningLaws.host_never_opens, proofs.SoundLaws.short_message, proofs.SoundLaws.sound_line, specs.Chains.◌>>!◌ as ◌>>=◌, specs.Fields.GivesLast, specs.Fields.begins}
use Rattle.text_lines.specs.{Keywords.keyword_text, Layouts.SaysLine, Lines.opening_ahead, Lines.opening_of_word, Lines.rest_ahead, Parts.Part, Parts.ReadsParts}
use Rattle.text_lines.specs.{Unread.Ahead, Unread.UnreadWords, Unread.all_of, Unread.leading_word, declared.actors.Frame.Frame, declared.faults.Cause.Cause, declared.faults.TextFault.TextFault}
use Rattle.text_lines.specs.{declared.faults.Wanted.Wanted, declared.keywords.Keyword.Keyword, declared.openings.Opening.Opening, script_codec.proofs.Writable.counted}
use Rattle.text_lines.specs.script_codec.specs.{Reading.most_bytes, Reading.most_lines, Scripts.are_lanes, Scripts.is_sound_line, Writing.IsWritable, Writing.has_short_message, Writing.script_bytes}
use Rattle.text_lines.specs.script_codec.specs.declared.{heads.Head.Head, script_line.Line.Line, scripts.Script.Script}
use Rattle.script_text.proofs.HeadLaws.{host_goes, host_sound, region_goes, region_sound, start_goes, start_sound}
use Rattle.script_text.specs.Heads.{host_line_ahead, host_lines_at, hosts_behind, region_ahead, regions_at, regions_behind, start_ahead}
use Rattle.script_text.specs.Layouts.{ReadsLines, Says, SaysLines, frame_of_script, head_parts, host_parts, hosts_parts, regions_parts, start_parts}
use Rattle.script_text.specs.Texts.{IsParsed, IsParsedAs, config_ahead, config_or_fault, config_checked, first_begins, frame_of, frame_of_head, head_ahead, lines_at, lines_behind, made_config, opening_read, room_for_line, script_of_lines, script_said, script_with, short_script, some_hosts_ahead, some_read, some_regions_ahead, started}

-- ---- lines with words that are still to come
abbrev pub LinesTake : List UnreadWords → List (List Part) → List UnreadWords → Type 0
LinesTake us [] rest = us ≡ rest
LinesTake [] (p ∷ ps) rest = ⊥
LinesTake (u ∷ us) (p ∷ ps) rest = ReadsParts u.words p × LinesTake us ps rest

abbrev pub LinesSay : Frame → List UnreadWords → List Line → Type 0
LinesSay frame [] [] = Unit {0}
LinesSay frame [] (l ∷ ls) = ⊥
LinesSay frame (u ∷ us) [] = ⊥
LinesSay frame (u ∷ us) (l ∷ ls) = SaysLine frame l u.words × LinesSay frame us ls

abbrev words_of : List UnreadWords → List (List (List ℕ))
words_of us = map (λ (u : UnreadWords). u.words) us

record Both (frame : Frame) (us : List UnreadWords) (ps : List (List Part)) (ls : List Line) : Type 0 where
  rest : List UnreadWords
  head : LinesTake us ps rest
  body : LinesSay frame rest ls

says_of : (frame : Frame) (us : List UnreadWords) (body : List (List (List ℕ))) (ls : List Line) → words_of us ≡ body → SaysLines frame body ls → LinesSay frame us ls
says_of frame [] [] [] is says = tt
says_of frame [] [] (l ∷ ls) is says = absurd says
says_of frame [] (b ∷ body) ls is says = let e : [] ≡ b ∷ body = is in cc
says_of frame (u ∷ us) [] ls is says = let e : u.words ∷ words_of us ≡ [] = is in cc
says_of frame (u ∷ us) (b ∷ body) [] is says = absurd says
says_of frame (u ∷ us) (b ∷ body) (l ∷ ls) is says =
    let e : u.words ∷ words_of us ≡ b ∷ body = is in
    let first : u.words ≡ b = (cc) in
    let others : words_of us ≡ body = (cc) in
    (subst (SaysLine frame l) (sym first) says.0, says_of frame us body ls others says.1)

cut : (frame : Frame) (us : List UnreadWords) (head body : List (List (List ℕ))) (ps : List (List Part)) (ls : List Line) → words_of us ≡ head ++ body → ReadsLines head ps → SaysLines frame body ls → Both frame us ps ls
cut frame us [] body [] ls is reads says = record { rest = us; head = refl; body = says_of frame us body ls is says }
cut frame us [] body (p ∷ ps) ls is reads says = absurd reads
cut frame us (h ∷ head) body [] ls is reads says = absurd reads
cut frame [] (h ∷ head) body (p ∷ ps) ls is reads says = let e : [] ≡ h ∷ (head ++ body) = is in cc
cut frame (u ∷ us) (h ∷ head) body (p ∷ ps) ls is reads says =
    let e : u.words ∷ words_of us ≡ h ∷ (head ++ body) = is in
    let first : u.words ≡ h = (cc) in
    let others : words_of us ≡ head ++ body = (cc) in
    let more = cut frame us head body ps ls others reads.1 says in
    record { rest = more.rest; head = (subst (λ ws. ReadsParts ws p) (sym first) reads.0, more.head); body = more.body }

record Joined (frame : Frame) (us : List UnreadWords) (ps : List (List Part)) (ls : List Line) : Type 0 where
  head : List (List (List ℕ))
  body : List (List (List ℕ))
  is : words_of us ≡ head ++ body
  reads : ReadsLines head ps
  says : SaysLines frame body ls

body_of : (frame : Frame) (us : List UnreadWords) (ls : List Line) → LinesSay frame us ls → SaysLines frame (words_of us) ls
body_of frame [] [] says = tt
body_of frame [] (l ∷ ls) says = absurd says
body_of frame (u ∷ us) [] says = absurd says
body_of frame (u ∷ us) (l ∷ ls) says = (says.0, body_of frame us ls says.1)

join : (frame : Frame) (us : List UnreadWords) (ps : List (List Part)) (rest : List UnreadWords) (ls : List Line) → LinesTake us ps rest → LinesSay frame rest ls → Joined frame us ps ls
join frame us [] rest ls takes says = record { head = []; body = words_of us; is = refl; reads = tt; says = body_of frame us ls (subst (λ vs. LinesSay frame vs ls) (sym takes) says) }
join frame [] (p ∷ ps) rest ls takes says = absurd takes
join frame (u ∷ us) (p ∷ ps) rest ls takes says =
    let more = join frame us ps rest ls takes.1 says in
    record { head = u.words ∷ more.head; body = more.body; is = ap (λ ws. u.words ∷ ws) more.is; reads = (takes.0, more.reads); says = more.says }

record Cut (us : List UnreadWords) (ps qs : List (List Part)) (rest : List UnreadWords) : Type 0 where
  mid : List UnreadWords
  front : LinesTake us ps mid
  back : LinesTake mid qs rest

cut_lines : (us : List UnreadWords) (ps qs : List (List Part)) (rest : List UnreadWords) → LinesTake us (ps ++ qs) rest → Cut us ps qs rest
cut_lines us [] qs rest takes = record { mid = us; front = refl; back = takes }
cut_lines [] (p ∷ ps) qs rest takes = absurd takes
cut_lines (u ∷ us) (p ∷ ps) qs rest takes = let more = cut_lines us ps qs rest takes.1 in record { mid = more.mid; front = (takes.0, more.front); back = more.back }

join_lines : (us mid rest : List UnreadWords) (ps qs : List (List Part)) → LinesTake us ps mid → LinesTake mid qs rest → LinesTake us (ps ++ qs) rest
join_lines us mid rest [] qs a b = subst (λ vs. LinesTake vs qs rest) (sym a) b
join_lines [] mid rest (p ∷ ps) qs a b = absurd a
join_lines (u ∷ us) mid rest (p ∷ ps) qs a b = (a.0, join_lines us mid rest ps qs a.1 b)

-- ---- regions
no_regions : (turn : ℕ) (us : List UnreadWords) → first_begins Keyword.Region us ≡ false → regions_at turn us ≡ Ok ([], us)
unfolding regions_at
no_regions turn [] none = refl
no_regions turn (u ∷ us) none = cond-false (begins Keyword.Region u) _ _ none

regions_go : (turn : ℕ) (regions : List RegionSpec) (us rest : List UnreadWords) → LinesTake us (regions_parts turn regions) rest → first_begins Keyword.Region rest ≡ false → regions_at turn us ≡ Ok (regions, rest)
unfolding regions_at
regions_go turn [] us rest takes none = subst (λ vs. regions_at turn us ≡ Ok ([], vs)) takes (no_regions turn us (subst (λ vs. first_begins Keyword.Region vs ≡ false) (sym takes) none))
regions_go turn (region ∷ regions) [] rest takes none = absurd takes
regions_go turn (region ∷ regions) (u ∷ us) rest takes none =
    let t = takes.0.all in
    let begun = begins_with Keyword.Region u t.1 (word_first u.words t.0 t.1 (keyword_text Keyword.Region) t.2 t.3) in
    cond-true (begins Keyword.Region u) _ _ begun
    ∙ ap (λ (r : Result RegionSpec TextFault). r >>= (λ x. regions_behind (x ∷ []) (regions_at (turn + 1) us))) (region_goes turn region u takes.0)
    ∙ ap (regions_behind (region ∷ [])) (regions_go (turn + 1) regions us rest takes.1 none)

regions_are : (region : RegionSpec) (read : Result (List RegionSpec × List UnreadWords) TextFault) (x : List RegionSpec × List UnreadWords) → regions_behind (region ∷ []) read ≡ Ok x → (y : List RegionSpec × List UnreadWords) × (read ≡ Ok y) × ((region ∷ y.0, y.1) ≡ x)
regions_are region (Ok y) x is = (y, refl, ok_is (region ∷ y.0, y.1) x is)
regions_are region (Err fault) x is = cc

regions_sound : (turn : ℕ) (us : List UnreadWords) (x : List RegionSpec × List UnreadWords) → regions_at turn us ≡ Ok x → LinesTake us (regions_parts turn x.0) x.1
unfolding regions_at
regions_sound turn [] x is = subst (λ (p : List RegionSpec × List UnreadWords). LinesTake [] (regions_parts turn p.0) p.1) (ok_is ([], []) x is) refl
regions_sound turn (u ∷ us) x is = elim (cases_Bool (begins Keyword.Region u)) [
  | inl e ↦
      let region = bound (region_ahead turn u) (λ r. regions_behind (r ∷ []) (regions_at (turn + 1) us)) x (sym (cond-true (begins Keyword.Region u) _ _ e) ∙ is) in
      let more = regions_are region.value (regions_at (turn + 1) us) x region.done in
      subst (λ (p : List RegionSpec × List UnreadWords). LinesTake (u ∷ us) (regions_parts turn p.0) p.1) more.2
      (region_sound turn u region.value region.begun, regions_sound (turn + 1) us more.0 more.1)
  | inr e ↦
      subst (λ (p : List RegionSpec × List UnreadWords). LinesTake (u ∷ us) (regions_parts turn p.0) p.1) (ok_is ([], u ∷ us) x (sym (cond-false (begins Keyword.Region u) _ _ e) ∙ is)) refl
]

-- ---- hosts
no_hosts : (regions turn : ℕ) (us : List UnreadWords) → first_begins Keyword.Host us ≡ false → host_lines_at regions turn us ≡ Ok ((turn, []), us)
unfolding host_lines_at
no_hosts regions turn [] none = refl
no_hosts regions turn (u ∷ us) none = cond-false (begins Keyword.Host u) _ _ none

nothing : (bases : List ℕ) → length bases ≡ 0 → bases ≡ []
nothing [] none = refl
nothing (b ∷ bases) none = absurd (omega (arith, none))

hosts_go : (n regions turn : ℕ) (bases : List ℕ) (us rest : List UnreadWords) → length bases ≡ n * regions → LinesTake us (hosts_parts n turn regions bases) rest → first_begins Keyword.Host rest ≡ false → host_lines_at regions turn us ≡ Ok ((turn + n, bases), rest)
unfolding host_lines_at
hosts_go zero regions turn bases us rest all takes none =
    let e : turn ≡ turn + 0 = omega arith in
    let few : [] ≡ bases = sym (nothing bases (omega (arith, all))) in
    subst (λ vs. host_lines_at regions turn us ≡ Ok ((turn + 0, bases), vs)) takes
    (no_hosts regions turn us (subst (λ vs. first_begins Keyword.Host vs ≡ false) (sym takes) none)
    ∙ (λ i. Ok ((e i, few i), us)))
hosts_go (suc n) regions turn bases [] rest all takes none = absurd takes
hosts_go (suc n) regions turn bases (u ∷ us) rest all takes none =
    let t = takes.0.all in
    let begun = begins_with Keyword.Host u t.1 (word_first u.words t.0 t.1 (keyword_text Keyword.Host) t.2 t.3) in
    let whole : length bases ≡ regions + n * regions = all ∙ suc_times n regions in
    let front : length (take regions bases) ≡ regions = length-take-le regions bases (omega (arith, whole)) in
    let back : length (drop regions bases) ≡ n * regions = omega (arith, whole, length-drop regions bases) in
    let e : (turn + 1) + n ≡ turn + suc n = omega arith in
    let both : take regions bases ++ drop regions bases ≡ bases = take-append-drop regions bases in
    cond-true (begins Keyword.Host u) _ _ begun
    ∙ ap (λ (r : Result (List ℕ) TextFault). r >>= (λ x. hosts_behind x (host_lines_at regions (turn + 1) us))) (host_goes regions turn (take regions bases) u front takes.0)
    ∙ ap (hosts_behind (take regions bases)) (hosts_go n regions (turn + 1) (drop regions bases) us rest back takes.1 none)
    ∙ (λ i. Ok ((e i, both i), rest))
  where
    suc_times : (n k : ℕ) → suc n * k ≡ k + n * k
    suc_times n k = omega (arith, suc-mul n k)

-- the hosts that were read
record HostsRead (regions turn : ℕ) (us : List UnreadWords) (x : (ℕ × List ℕ) × List UnreadWords) : Type 0 where
  count : ℕ
  hosts : x.0.0 ≡ turn + count
  all : length x.0.1 ≡ count * regions
  takes : LinesTake us (hosts_parts count turn regions x.0.1) x.1

hosts_are : (bases : List ℕ) (read : Result ((ℕ × List ℕ) × List UnreadWords) TextFault) (x : (ℕ × List ℕ) × List UnreadWords) → hosts_behind bases read ≡ Ok x → (y : (ℕ × List ℕ) × List UnreadWords) × (read ≡ Ok y) × (((y.0.0, bases ++ y.0.1), y.1) ≡ x)
hosts_are bases (Ok y) x is = (y, refl, ok_is ((y.0.0, bases ++ y.0.1), y.1) x is)
hosts_are bases (Err fault) x is = cc

hosts_sound : (regions turn : ℕ) (us : List UnreadWords) (x : (ℕ × List ℕ) × List UnreadWords) → host_lines_at regions turn us ≡ Ok x → HostsRead regions turn us x
unfolding host_lines_at
hosts_sound regions turn [] x is = subst (HostsRead regions turn []) (ok_is ((turn, []), []) x is) (record { count = 0; hosts = omega arith; all = omega arith; takes = refl })
hosts_sound regions turn (u ∷ us) x is = elim (cases_Bool (begins Keyword.Host u)) [
  | inl e ↦
      let bases = bound (host_line_ahead regions turn u) (λ b. hosts_behind b (host_lines_at regions (turn + 1) us)) x (sym (cond-true (begins Keyword.Host u) _ _ e) ∙ is) in
      let more = hosts_are bases.value (host_lines_at regions (turn + 1) us) x bases.done in
      let one = host_sound regions turn u bases.value bases.begun in
      let rest = hosts_sound regions (turn + 1) us more.0 more.1 in
      subst (HostsRead regions turn (u ∷ us)) more.2 (record {
        count = suc rest.count;
        hosts = omega (arith, rest.hosts);
        all = omega (arith, length-append bases.value more.0.0.1, one.all, rest.all, suc-mul rest.count regions);
        takes = (
          subst (λ b. ReadsParts u.words (host_parts turn b)) (sym (take_at bases.value more.0.0.1 regions one.all)) one.reads,
          subst (λ b. LinesTake us (hosts_parts rest.count (turn + 1) regions b) more.0.1) (sym (drop_at bases.value more.0.0.1 regions one.all)) rest.takes,
        );
      })
  | inr e ↦ subst (HostsRead regions turn (u ∷ us)) (ok_is ((turn, []), u ∷ us) x (sym (cond-false (begins Keyword.Host u) _ _ e) ∙ is)) (record { count = 0; hosts = omega arith; all = omega arith; takes = refl })
]

-- ---- the lines of the script
lines_go : (frame : Frame) (ls : List Line) (us : List UnreadWords) (left : ℕ) → length ls ≤ left → LinesSay frame us ls → lines_at left frame us ≡ Ok ls
unfolding lines_at
lines_go frame [] [] left few says = refl
lines_go frame [] (u ∷ us) left few says = absurd says
lines_go frame (l ∷ ls) [] left few says = absurd says
lines_go frame (l ∷ ls) (u ∷ us) left few says =
    let r = line_goes frame l u says.0 in
    ap (λ (o : Result (Opening × UnreadWords) TextFault). o >>= (λ opening. room_for_line left u.line >>= (λ room. rest_ahead frame opening.0 opening.1 >>= (λ line. lines_behind (line ∷ []) (lines_at (left - 1) frame us))))) r.opened
    ∙ ap (λ (o : Result (Unit {0}) TextFault). o >>= (λ room. rest_ahead frame r.opening r.left >>= (λ line. lines_behind (line ∷ []) (lines_at (left - 1) frame us)))) (cond-false (left == 0) (Err (TextFault.Refused u.line 1 Cause.TooManyLines)) (Ok tt) (ne_eqb left 0 (λ e. omega (arith, few, e))))
    ∙ ap (λ (o : Result Line TextFault). o >>= (λ line. lines_behind (line ∷ []) (lines_at (left - 1) frame us))) r.rest
    ∙ ap (lines_behind (l ∷ [])) (lines_go frame ls us (left - 1) (omega (arith, few)) says.1)

lines_are : (l : Line) (read : Result (List Line) TextFault) (x : List Line) → lines_behind (l ∷ []) read ≡ Ok x → (y : List Line) × (read ≡ Ok y) × (l ∷ y ≡ x)
lines_are l (Ok y) x is = (y, refl, ok_is (l ∷ y) x is)
lines_are l (Err fault) x is = cc

-- the lines that were read
record LinesRead (frame : Frame) (us : List UnreadWords) (left : ℕ) (ls : List Line) : Type 0 where
  says : LinesSay frame us ls
  few : length ls ≤ left

some_room : (left line : ℕ) (x : Unit {0}) → room_for_line left line ≡ Ok x → (left ≡ 0 → ⊥)
some_room left line x is none =
    let f : Err (TextFault.Refused line 1 Cause.TooManyLines) ≡ Ok x = ap (λ n. cond (n == 0) (Err (TextFault.Refused line 1 Cause.TooManyLines)) (Ok tt)) (sym none) ∙ is in cc

lines_sound : (frame : Frame) (us : List UnreadWords) (left : ℕ) (ls : List Line) → lines_at left frame us ≡ Ok ls → LinesRead frame us left ls
unfolding lines_at
lines_sound frame [] left ls is = subst (LinesRead frame [] left) (ok_is [] ls is) (record { says = tt; few = omega arith })
lines_sound frame (u ∷ us) left ls is =
    let opening = bound (opening_ahead frame u) _ ls is in
    let room = bound (room_for_line left u.line) _ ls opening.done in
    let line = bound (rest_ahead frame opening.value.0 opening.value.1) (λ l. lines_behind (l ∷ []) (lines_at (left - 1) frame us)) ls room.done in
    let more = lines_are line.value (lines_at (left - 1) frame us) ls line.done in
    let rest = lines_sound frame us (left - 1) more.0 more.1 in
    let some = some_room left u.line room.value room.begun in
    subst (LinesRead frame (u ∷ us) left) more.2 (record {
      says = (line_sound frame u opening.value.1 opening.value.0 line.value opening.begun line.begun, rest.says);
      few = omega (arith, rest.few, some);
    })

-- ---- between the head and the lines
other_key : (k other : Keyword) (us : List UnreadWords) (ps : List Part) (more : List (List Part)) (rest : List UnreadWords) → pointwise ◌==◌ (keyword_text other) (keyword_text k) ≡ false → LinesTake us ((Part.Fixed (keyword_text other) ∷ ps) ∷ more) rest → first_begins k us ≡ false
other_key k other [] ps more rest differs takes = absurd takes
other_key k other (u ∷ us) ps more rest differs takes =
    let t = takes.0.all in
    ap (λ ws. pointwise ◌==◌ (leading_word ws) (keyword_text k)) (word_first u.words t.0 t.1 (keyword_text other) t.2 t.3) ∙ differs

opened_word : (frame : Frame) (u : UnreadWords) (o : Opening) (v : UnreadWords) → opening_ahead frame u ≡ Ok (o, v) → opening_of_word frame (leading_word u.words) ≡ Ok o
unfolding opening_ahead
opened_word frame u o v is = (one_sound Wanted.Line u (opening_of_word frame (leading_word u.words)) (o, v) is).said

no_host : (frame : Frame) (us : List UnreadWords) (ls : List Line) → LinesSay frame us ls → first_begins Keyword.Host us ≡ false
no_host frame [] ls says = refl
no_host frame (u ∷ us) [] says = absurd says
no_host frame (u ∷ us) (l ∷ ls) says = elim (cases_Bool (begins Keyword.Host u)) [
  | inl e ↦
      let r = line_goes frame l u says.0 in
      let word : leading_word u.words ≡ keyword_text Keyword.Host = ap leading_word (begins_words Keyword.Host u.line u.word u.words e) in
      absurd (host_never_opens frame r.opening (ap (opening_of_word frame) (sym word) ∙ opened_word frame u r.opening r.left r.opened))
  | inr e ↦ e
]

opening_is_read : (frame : Frame) (us : List UnreadWords) (ls : List Line) → LinesSay frame us ls → opening_read frame us ≡ Ok tt
opening_is_read frame [] ls says = refl
opening_is_read frame (u ∷ us) [] says = absurd says
opening_is_read frame (u ∷ us) (l ∷ ls) says = ap (λ (o : Result (Opening × UnreadWords) TextFault). o >>= (λ opening. Ok tt)) (line_goes frame l u says.0).opened

some_is_read : (end : ℕ) (us : List UnreadWords) (k : Keyword) (count : ℕ) → 0 < count → some_read end us k count ≡ Ok tt
some_is_read end us k count some = cond-false (count == 0) _ _ (ne_eqb count 0 (λ e. omega (arith, some, e)))

-- ---- a text that says a script is read as it
abbrev with_rest : {A : Type 0} → List UnreadWords → A → Result (A × List UnreadWords) TextFault
with_rest us x = Ok (x, us)

abbrev as_listed : List RegionSpec → List UnreadWords → Result (List RegionSpec × List UnreadWords) TextFault
as_listed regions us = Ok (regions, us)

abbrev as_seated : ℕ → List ℕ → List UnreadWords → Result ((ℕ × List ℕ) × List UnreadWords) TextFault
as_seated hosts bases us = Ok ((hosts, bases), us)

head_goes : (end : ℕ) (s : Script) (u : UnreadWords) (us rest : List UnreadWords) → IsWritable s → ReadsParts u.words (start_parts s.version s.lanes) → LinesTake us (regions_parts 0 s.config.regions ++ hosts_parts s.config.hosts 0 (length s.config.regions) s.config.bases) rest
    → LinesSay (frame_of_script s) rest s.lines → head_ahead end (u ∷ us) ≡ Ok (record { version = s.version; lanes = s.lanes; config = s.config }, rest)
unfolding head_ahead config_ahead some_regions_ahead some_hosts_ahead made_config
head_goes end s u us rest may start takes says =
    let good = counted s.config may.script.configured in
    let c = cut_lines us (regions_parts 0 s.config.regions) (hosts_parts s.config.hosts 0 (length s.config.regions) s.config.bases) rest takes in
    let n = length s.config.regions in
    let all_hosts : 0 + s.config.hosts ≡ s.config.hosts = omega arith in
    let regions = regions_go 0 s.config.regions us c.mid c.front (hosts_follow s.config.hosts n s.config.bases c.mid rest good.some_host c.back) in
    let hosts = hosts_go s.config.hosts n 0 s.config.bases c.mid rest may.script.based c.back (no_host (frame_of_script s) rest s.lines says) ∙ ap (λ h. Ok ((h, s.config.bases), rest)) all_hosts in
    ap (λ (r : Result (ℕ × ℕ) TextFault). (r >>= (λ start. with_rest us start)) >>= (λ start. config_ahead end start.0 start.1)) (start_goes s.version s.lanes u may.script.versioned start)
    ∙ ap (λ (r : Result (List RegionSpec × List UnreadWords) TextFault). (r >>= (λ regions. some_read end regions.1 Keyword.Region (length regions.0) >>= (λ some. Ok regions))) >>= (λ regions. some_hosts_ahead end (length regions.0) regions.1 >>= (λ hosts. made_config end (s.version, s.lanes) regions.0 hosts))) regions
    ∙ ap (λ (r : Result (Unit {0}) TextFault). (r >>= (λ some. as_listed s.config.regions c.mid)) >>= (λ regions. some_hosts_ahead end (length regions.0) regions.1 >>= (λ hosts. made_config end (s.version, s.lanes) regions.0 hosts))) (some_is_read end c.mid Keyword.Region n good.some_region)
    ∙ ap (λ (r : Result ((ℕ × List ℕ) × List UnreadWords) TextFault). (r >>= (λ hosts. some_read end hosts.1 Keyword.Host hosts.0.0 >>= (λ some. Ok hosts))) >>= (λ hosts. made_config end (s.version, s.lanes) s.config.regions hosts)) hosts
    ∙ ap (λ (r : Result (Unit {0}) TextFault). (r >>= (λ some. as_seated s.config.hosts s.config.bases rest)) >>= (λ hosts. made_config end (s.version, s.lanes) s.config.regions hosts)) (some_is_read end rest Keyword.Host s.config.hosts good.some_host)
    ∙ ap (λ (r : Result (Unit {0}) TextFault). r >>= (λ opened. config_checked end rest s.config >>= (λ config. Ok (record { version = s.version; lanes = s.lanes; config = config }, rest)))) (opening_is_read (frame_of_script s) rest s.lines says)
    ∙ ap (λ (fault : Option ConfigFault). config_or_fault end rest s.config fault >>= (λ config. Ok (record { version = s.version; lanes = s.lanes; config = config }, rest))) may.script.configured
  where
    hosts_follow : (h n : ℕ) (bases : List ℕ) (mid rest : List UnreadWords) → 0 < h → LinesTake mid (hosts_parts h 0 n bases) rest → first_begins Keyword.Region mid ≡ false
    hosts_follow zero n bases mid rest some takes = absurd (omega (arith, some))
    hosts_follow (suc h) n bases mid rest some takes = other_key Keyword.Region Keyword.Host mid _ _ rest refl takes

pub script_goes : (text : List ℕ) (s : Script) → Says text s → script_said text ≡ Ok s
unfolding script_said script_of_lines
script_goes text s says = by (all_of text).lines (cut (frame_of_script s) (all_of text).lines says.head says.body (head_parts s) s.lines says.lines_are says.head_reads says.body_says)
  where
    by : (us : List UnreadWords) → Both (frame_of_script s) us (head_parts s) s.lines → script_of_lines (all_of text).end us ≡ Ok s
    by [] both = absurd both.head
    by (u ∷ us) both =
        let may = says.script in
        let end = (all_of text).end in
        let head : Head = record { version = s.version; lanes = s.lanes; config = s.config } in
        ap (λ (r : Result (Head × List UnreadWords) TextFault). r >>= (λ h. lines_at most_lines (frame_of_head h.0) h.1 >>= (λ rest. short_script end (script_with h.0 rest)))) (head_goes end s u us both.rest may both.head.0 both.head.1 both.body)
        ∙ ap (λ (r : Result (List Line) TextFault). r >>= (λ rest. short_script end (script_with head rest))) (lines_go (frame_of_script s) s.lines both.rest most_lines may.script.few both.body)
        ∙ cond-false (nat_lt most_bytes (length (script_bytes s))) _ _ (le-ltb most_bytes (length (script_bytes s)) may.short)

-- ---- what is read is what the text says
record HeadRead (us : List UnreadWords) (x : Head × List UnreadWords) : Type 0 where
  lanes : are_lanes x.0.version x.0.lanes ≡ true
  configured : config_fault x.0.config ≡ None
  based : length x.0.config.bases ≡ x.0.config.hosts * length x.0.config.regions
  takes : LinesTake us (start_parts x.0.version x.0.lanes ∷ regions_parts 0 x.0.config.regions ++ hosts_parts x.0.config.hosts 0 (length x.0.config.regions) x.0.config.bases) x.1

config_sound : (end : ℕ) (us : List UnreadWords) (config found : Configuration) (fault : Option ConfigFault) → config_fault config ≡ fault → config_or_fault end us config fault ≡ Ok found → (config_fault config ≡ None) × (config ≡ found)
config_sound end us config found None e is = (e, ok_is config found is)
config_sound end us config found (Some fault) e is = cc

head_sound : (end : ℕ) (us : List UnreadWords) (x : Head × List UnreadWords) → head_ahead end us ≡ Ok x → HeadRead us x
unfolding head_ahead config_ahead some_regions_ahead some_hosts_ahead made_config
head_sound end [] x is = cc
head_sound end (u ∷ us) x is =
    let begun = bound (started end (u ∷ us)) (λ start. config_ahead end start.0 start.1) x is in
    let start = bound (start_ahead u) (λ start. Ok (start, us)) begun.value begun.begun in
    let first : (start.value, us) ≡ begun.value = ok_is (start.value, us) begun.value start.done in
    let rest : config_ahead end start.value us ≡ Ok x = subst (λ (p : (ℕ × ℕ) × List UnreadWords). config_ahead end p.0 p.1 ≡ Ok x) (sym first) begun.done in
    let regions = bound (some_regions_ahead end us) (λ regions. some_hosts_ahead end (length regions.0) regions.1 >>= (λ hosts. made_config end start.value regions.0 hosts)) x rest in
    let listed = bound (regions_at 0 us) (λ regions. some_read end regions.1 Keyword.Region (length regions.0) >>= (λ some. Ok regions)) regions.value regions.begun in
    let any = bound (some_read end listed.value.1 Keyword.Region (length listed.value.0)) (λ some. Ok listed.value) regions.value listed.done in
    let same : listed.value ≡ regions.value = ok_is listed.value regions.value any.done in
    let hosts = bound (some_hosts_ahead end (length regions.value.0) regions.value.1) (λ hosts. made_config end start.value regions.value.0 hosts) x regions.done in
    let seats = bound (host_lines_at (length regions.value.0) 0 regions.value.1) (λ hosts. some_read end hosts.1 Keyword.Host hosts.0.0 >>= (λ some. Ok hosts)) hosts.value hosts.begun in
    let some = bound (some_read end seats.value.1 Keyword.Host seats.value.0.0) (λ some. Ok seats.value) hosts.value seats.done in
    let alike : seats.value ≡ hosts.value = ok_is seats.value hosts.value some.done in
    let opened = bound (opening_read (frame_of start.value.0 hosts.value.0.0 start.value.1) hosts.value.1) _ x hosts.done in
    let config = bound (config_checked end hosts.value.1 (record { hosts = hosts.value.0.0; regions = regions.value.0; bases = hosts.value.0.1 })) _ x opened.done in
    let sound = config_sound end hosts.value.1 (record { hosts = hosts.value.0.0; regions = regions.value.0; bases = hosts.value.0.1 }) config.value (config_fault (record { hosts = hosts.value.0.0; regions = regions.value.0; bases = hosts.value.0.1 })) refl config.begun in
    let made : (record { version = start.value.0; lanes = start.value.1; config = config.value }, hosts.value.1) ≡ x = ok_is _ x config.done in
    let version = start_sound u start.value start.begun in
    let front = subst (λ (p : List RegionSpec × List UnreadWords). LinesTake us (regions_parts 0 p.0) p.1) same (regions_sound 0 us listed.value listed.begun) in
    let read = subst (HostsRead (length regions.value.0) 0 regions.value.1) alike (hosts_sound (length regions.value.0) 0 regions.value.1 seats.value seats.begun) in
    let count : read.count ≡ hosts.value.0.0 = omega (arith, read.hosts) in
    subst (HeadRead (u ∷ us)) made (record {
      lanes = version.lanes;
      configured = subst (λ (c : Configuration). config_fault c ≡ None) sound.1 sound.0;
      based = subst (λ (c : Configuration). length c.bases ≡ c.hosts * length c.regions) sound.1 (read.all ∙ ap (λ n. n * length regions.value.0) count);
      takes = subst (λ (c : Configuration). LinesTake (u ∷ us) (start_parts start.value.0 start.value.1 ∷ regions_parts 0 c.regions ++ hosts_parts c.hosts 0 (length c.regions) c.bases) hosts.value.1) sound.1 (
        version.reads,
        join_lines us regions.value.1 hosts.value.1 (regions_parts 0 regions.value.0) (hosts_parts hosts.value.0.0 0 (length regions.value.0) hosts.value.0.1) front
            (subst (λ n. LinesTake regions.value.1 (hosts_parts n 0 (length regions.value.0) hosts.value.0.1) hosts.value.1) count read.takes),
      );
    })

-- lines that are said are sound, and their messages short
sound_lines : (frame : Frame) (us : List UnreadWords) (ls : List Line) → LinesSay frame us ls → list_all (is_sound_line frame.hosts frame.lanes) ls ≡ true
sound_lines frame [] [] says = refl
sound_lines frame [] (l ∷ ls) says = absurd says
sound_lines frame (u ∷ us) [] says = absurd says
sound_lines frame (u ∷ us) (l ∷ ls) says = and_from (is_sound_line frame.hosts frame.lanes l) (list_all (is_sound_line frame.hosts frame.lanes) ls) (sound_line frame l u.words says.0) (sound_lines frame us ls says.1)

short_lines : (frame : Frame) (us : List UnreadWords) (ls : List Line) → LinesSay frame us ls → list_all has_short_message ls ≡ true
short_lines frame [] [] says = refl
short_lines frame [] (l ∷ ls) says = absurd says
short_lines frame (u ∷ us) [] says = absurd says
short_lines frame (u ∷ us) (l ∷ ls) says = and_from (has_short_message l) (list_all has_short_message ls) (short_message frame l u.words says.0) (short_lines frame us ls says.1)

short_is : (end : ℕ) (made s : Script) → short_script end made ≡ Ok s → (length (script_bytes made) ≤ 16777216) × (made ≡ s)
short_is end made s is = elim (cases_Bool (nat_lt most_bytes (length (script_bytes made)))) [
  | inl long ↦ let f : Err (TextFault.Refused end 1 Cause.TooLong) ≡ Ok s = sym (cond-true (nat_lt most_bytes (length (script_bytes made))) (Err (TextFault.Refused end 1 Cause.TooLong)) (Ok made) long) ∙ is in cc
  | inr short ↦ (ltb-false most_bytes (length (script_bytes made)) short, ok_is made s (sym (cond-false (nat_lt most_bytes (length (script_bytes made))) (Err (TextFault.Refused end 1 Cause.TooLong)) (Ok made) short) ∙ is))
]

pub script_sound : (text : List ℕ) (s : Script) → script_said text ≡ Ok s → Says text s
unfolding script_said script_of_lines
script_sound text s is =
    let end = (all_of text).end in
    let head = bound (head_ahead end (all_of text).lines) _ s is in
    let lines = bound (lines_at most_lines (frame_of_head head.value.0) head.value.1) _ s head.done in
    let made = script_with head.value.0 lines.value in
    let short = short_is end made s lines.done in
    let h = head_sound end (all_of text).lines head.value head.begun in
    let l = lines_sound (frame_of_head head.value.0) head.value.1 most_lines lines.value lines.begun in
    let j = join (frame_of_head head.value.0) (all_of text).lines (head_parts made) head.value.1 lines.value h.takes l.says in
    subst (Says text) short.1 (record {
      script = record {
        script = record {
          versioned = h.lanes;
          configured = h.configured;
          based = h.based;
          sound = sound_lines (frame_of_head head.value.0) head.value.1 lines.value l.says;
          few = l.few;
        };
        messages = short_lines (frame_of_head head.value.0) head.value.1 lines.value l.says;
        short = short.0;
      };
      head = j.head;
      body = j.body;
      lines_are = j.is;
      head_reads = j.reads;
      body_says = j.says;
    })

-- ---- what parsing answers
pub parsed_is : (text : List ℕ) (lines : Ahead) (r : Result Script TextFault) → lines ≡ all_of text → GivesLast (λ (s : Script). s) r (script_of_lines lines.end lines.lines) → IsParsed text r
unfolding script_said
parsed_is text lines (Ok s) is gives = ap (λ (a : Ahead). script_of_lines a.end a.lines) (sym is) ∙ gives
parsed_is text lines (Err fault) is gives = λ real. ap (λ (a : Ahead). script_of_lines a.end a.lines) (sym is) ∙ gives real

pub parsed_says : (text : List ℕ) (r : Result Script TextFault) → IsParsed text r → IfOk r (λ s. Says text s)
parsed_says text (Ok s) is = script_sound text s is
parsed_says text (Err fault) is = tt

pub parsed_writable : (text : List ℕ) (r : Result Script TextFault) → IsParsed text r → IfOk r (λ s. IsWritable s)
parsed_writable text (Ok s) is = (script_sound text s is).script
parsed_writable text (Err fault) is = tt

other_fault : (fault : TextFault) → ((fault ≡ TextFault.NoMemory → ⊥) → ⊥) → fault ≡ TextFault.NoMemory
other_fault TextFault.NoMemory un = refl
other_fault (TextFault.Refused line word cause) un = absurd (un (λ e. cc))

pub parsed_only : (text : List ℕ) (r : Result Script TextFault) → IsParsed text r → (s : Script) → Says text s → IsParsedAs s r
parsed_only text (Ok found) is s says = ok_is found s (sym is ∙ script_goes text s says)
parsed_only text (Err fault) is s says = other_fault fault (λ real. let e : Ok s ≡ Err fault = sym (script_goes text s says) ∙ is real in cc)
