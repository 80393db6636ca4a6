-- The steps of the loops over the lines of a text, and over the bases of a host.
use Rattle.std.proofs.Common.{◌≡◌, ℕ, suc, ◌+◌, ◌-◌, true, false, ◌==◌, List, [], ◌∷◌, ◌++◌, Result, Ok, Err, refl, sym, ap, ◌∙◌, append-nil, append_assoc}
use Rattle.std.proofs.lemmas.Bool.{cond-false, cond-true, eq-eqb, ne_eqb}
use Rattle.region_config.specs.declared.region_spec.RegionSpec.{RegionSpec}
use Rattle.text_lines.specs.{Chains.◌>>!◌ as ◌>>=◌, Fields.begins, Fields.number_ahead, Layouts.most_64, Lines.opening_ahead, Lines.rest_ahead, Unread.UnreadWords, declared.actors.Frame.Frame}
use Rattle.text_lines.specs.declared.{faults.Cause.Cause, faults.TextFault.TextFault, keywords.Keyword.Keyword, openings.Opening.Opening}
use Rattle.text_lines.specs.script_codec.specs.declared.script_line.Line.{Line}
use Rattle.script_text.specs.Heads.{base_list_behind, bases_at, bases_behind, host_line_ahead, host_lines_at, hosts_behind, region_ahead, regions_at, regions_behind}
use Rattle.script_text.specs.Texts.{first_begins, lines_at, lines_behind, room_for_line}

-- ---- regions
pub regions_end : (turn : ℕ) (done : List RegionSpec) (us : List UnreadWords) (whole : Result (List RegionSpec × List UnreadWords) TextFault) → first_begins Keyword.Region us ≡ false → regions_behind done (regions_at turn us) ≡ whole → whole ≡ Ok (done, us)
unfolding regions_at
regions_end turn done [] whole none is = sym is ∙ ap (λ rs. Ok (rs, [])) (append-nil done)
regions_end turn done (u ∷ us) whole none is = sym is ∙ ap (regions_behind done) (cond-false (begins Keyword.Region u) _ _ none) ∙ ap (λ rs. Ok (rs, u ∷ us)) (append-nil done)

regions_push : (done : List RegionSpec) (x : RegionSpec) (rest : Result (List RegionSpec × List UnreadWords) TextFault) → regions_behind (done ++ x ∷ []) rest ≡ regions_behind done (regions_behind (x ∷ []) rest)
regions_push done x (Ok others) = ap (λ rs. Ok (rs, others.1)) (append_assoc done (x ∷ []) others.0)
regions_push done x (Err fault) = refl

regions_step : (turn : ℕ) (u : UnreadWords) (us : List UnreadWords) → begins Keyword.Region u ≡ true → regions_at turn (u ∷ us) ≡ (region_ahead turn u >>= (λ r. regions_behind (r ∷ []) (regions_at (turn + 1) us)))
unfolding regions_at
regions_step turn u us begun = cond-true (begins Keyword.Region u) _ _ begun

pub regions_go_on : (turn next : ℕ) (done new : List RegionSpec) (u : UnreadWords) (old us : List UnreadWords) (region : RegionSpec) (whole : Result (List RegionSpec × List UnreadWords) TextFault) → old ≡ u ∷ us → begins Keyword.Region u ≡ true → region_ahead turn u ≡ Ok region → next ≡ turn + 1 → new ≡ done ++ region ∷ []
    → regions_behind done (regions_at turn old) ≡ whole → regions_behind new (regions_at next us) ≡ whole
regions_go_on turn next done new u old us region whole here begun read after pushed is =
    (λ i. regions_behind (pushed i) (regions_at (after i) us)) ∙ regions_push done region (regions_at (turn + 1) us)
    ∙ sym (ap (λ vs. regions_behind done (regions_at turn vs)) here ∙ ap (regions_behind done) (regions_step turn u us begun ∙ ap (λ (r : Result RegionSpec TextFault). r >>= (λ x. regions_behind (x ∷ []) (regions_at (turn + 1) us))) read)) ∙ is

pub regions_fail : (turn : ℕ) (done : List RegionSpec) (u : UnreadWords) (old us : List UnreadWords) (fault : TextFault) (whole : Result (List RegionSpec × List UnreadWords) TextFault) → old ≡ u ∷ us → begins Keyword.Region u ≡ true → region_ahead turn u ≡ Err fault
    → regions_behind done (regions_at turn old) ≡ whole → whole ≡ Err fault
regions_fail turn done u old us fault whole here begun read is =
    sym is ∙ ap (λ vs. regions_behind done (regions_at turn vs)) here ∙ ap (regions_behind done) (regions_step turn u us begun ∙ ap (λ (r : Result RegionSpec TextFault). r >>= (λ x. regions_behind (x ∷ []) (regions_at (turn + 1) us))) read)

-- ---- bases
bases_push : (done : List ℕ) (base : ℕ) (rest : Result (List ℕ × UnreadWords) TextFault) → bases_behind (done ++ base ∷ []) rest ≡ bases_behind done (bases_behind (base ∷ []) rest)
bases_push done base (Ok others) = ap (λ bs. Ok (bs, others.1)) (append_assoc done (base ∷ []) others.0)
bases_push done base (Err fault) = refl

abbrev base_then : ℕ → Result (ℕ × UnreadWords) TextFault → Result (List ℕ × UnreadWords) TextFault
base_then left read = read >>= (λ b. bases_behind (b.0 ∷ []) (bases_at left b.1))

bases_step : (n left : ℕ) (u : UnreadWords) → n ≡ suc left → bases_at n u ≡ base_then left (number_ahead most_64 u)
unfolding bases_at
bases_step n left u more = ap (λ k. bases_at k u) more

pub bases_end : (n : ℕ) (done : List ℕ) (u : UnreadWords) (whole : Result (List ℕ × UnreadWords) TextFault) → n ≡ 0 → bases_behind done (bases_at n u) ≡ whole → whole ≡ Ok (done, u)
unfolding bases_at
bases_end n done u whole none is = sym is ∙ ap (λ k. bases_behind done (bases_at k u)) none ∙ ap (λ bs. Ok (bs, u)) (append-nil done)

pub bases_go_on : (n left : ℕ) (done new : List ℕ) (u v : UnreadWords) (base : ℕ) (whole : Result (List ℕ × UnreadWords) TextFault) → n ≡ suc left → number_ahead most_64 u ≡ Ok (base, v) → new ≡ done ++ base ∷ []
    → bases_behind done (bases_at n u) ≡ whole → bases_behind new (bases_at left v) ≡ whole
bases_go_on n left done new u v base whole more read pushed is =
    ap (λ bs. bases_behind bs (bases_at left v)) pushed ∙ bases_push done base (bases_at left v) ∙ sym (ap (bases_behind done) (bases_step n left u more ∙ ap (base_then left) read)) ∙ is

pub bases_fail : (n left : ℕ) (done : List ℕ) (u : UnreadWords) (fault : TextFault) (whole : Result (List ℕ × UnreadWords) TextFault) → n ≡ suc left → number_ahead most_64 u ≡ Err fault → bases_behind done (bases_at n u) ≡ whole → whole ≡ Err fault
bases_fail n left done u fault whole more read is = sym is ∙ ap (bases_behind done) (bases_step n left u more ∙ ap (base_then left) read)

-- ---- hosts
pub hosts_end : (regions turn : ℕ) (done : List ℕ) (us : List UnreadWords) (whole : Result ((ℕ × List ℕ) × List UnreadWords) TextFault) → first_begins Keyword.Host us ≡ false → hosts_behind done (host_lines_at regions turn us) ≡ whole → whole ≡ Ok ((turn, done), us)
unfolding host_lines_at
hosts_end regions turn done [] whole none is = sym is ∙ ap (λ bs. Ok ((turn, bs), [])) (append-nil done)
hosts_end regions turn done (u ∷ us) whole none is = sym is ∙ ap (hosts_behind done) (cond-false (begins Keyword.Host u) _ _ none) ∙ ap (λ bs. Ok ((turn, bs), u ∷ us)) (append-nil done)

hosts_push : (done bases : List ℕ) (rest : Result ((ℕ × List ℕ) × List UnreadWords) TextFault) → hosts_behind (done ++ bases) rest ≡ hosts_behind done (hosts_behind bases rest)
hosts_push done bases (Ok others) = ap (λ bs. Ok ((others.0.0, bs), others.1)) (append_assoc done bases others.0.1)
hosts_push done bases (Err fault) = refl

hosts_step : (regions turn : ℕ) (u : UnreadWords) (us : List UnreadWords) → begins Keyword.Host u ≡ true → host_lines_at regions turn (u ∷ us) ≡ (host_line_ahead regions turn u >>= (λ b. hosts_behind b (host_lines_at regions (turn + 1) us)))
unfolding host_lines_at
hosts_step regions turn u us begun = cond-true (begins Keyword.Host u) _ _ begun

-- a line of a host behind bases, and the hosts behind it
hosts_one : (regions turn : ℕ) (done : List ℕ) (us : List UnreadWords) (read : Result (List ℕ) TextFault) (new : List ℕ) → base_list_behind done read ≡ Ok new → hosts_behind done (read >>= (λ b. hosts_behind b (host_lines_at regions (turn + 1) us))) ≡ hosts_behind new (host_lines_at regions (turn + 1) us)
hosts_one regions turn done us (Ok bases) new is = sym (hosts_push done bases (host_lines_at regions (turn + 1) us)) ∙ ap (λ bs. hosts_behind bs (host_lines_at regions (turn + 1) us)) (let e : done ++ bases ≡ new = (cc) in e)
hosts_one regions turn done us (Err fault) new is = cc

hosts_bad : (regions turn : ℕ) (done : List ℕ) (us : List UnreadWords) (read : Result (List ℕ) TextFault) (fault : TextFault) → base_list_behind done read ≡ Err fault → hosts_behind done (read >>= (λ b. hosts_behind b (host_lines_at regions (turn + 1) us))) ≡ Err fault
hosts_bad regions turn done us (Ok bases) fault is = cc
hosts_bad regions turn done us (Err other) fault is = let e : other ≡ fault = (cc) in ap (λ (f : TextFault). Err f) e

pub hosts_go_on : (regions turn : ℕ) (done new : List ℕ) (u : UnreadWords) (old us : List UnreadWords) (whole : Result ((ℕ × List ℕ) × List UnreadWords) TextFault) → old ≡ u ∷ us → begins Keyword.Host u ≡ true → base_list_behind done (host_line_ahead regions turn u) ≡ Ok new
    → hosts_behind done (host_lines_at regions turn old) ≡ whole → hosts_behind new (host_lines_at regions (turn + 1) us) ≡ whole
hosts_go_on regions turn done new u old us whole here begun read is =
    sym (ap (λ vs. hosts_behind done (host_lines_at regions turn vs)) here ∙ ap (hosts_behind done) (hosts_step regions turn u us begun) ∙ hosts_one regions turn done us (host_line_ahead regions turn u) new read) ∙ is

pub hosts_fail : (regions turn : ℕ) (done : List ℕ) (u : UnreadWords) (old us : List UnreadWords) (fault : TextFault) (whole : Result ((ℕ × List ℕ) × List UnreadWords) TextFault) → old ≡ u ∷ us → begins Keyword.Host u ≡ true → base_list_behind done (host_line_ahead regions turn u) ≡ Err fault
    → hosts_behind done (host_lines_at regions turn old) ≡ whole → whole ≡ Err fault
hosts_fail regions turn done u old us fault whole here begun read is =
    sym is ∙ ap (λ vs. hosts_behind done (host_lines_at regions turn vs)) here ∙ ap (hosts_behind done) (hosts_step regions turn u us begun) ∙ hosts_bad regions turn done us (host_line_ahead regions turn u) fault read

-- ---- the lines of the script
pub lines_end : (left : ℕ) (frame : Frame) (done : List Line) (us : List UnreadWords) (whole : Result (List Line) TextFault) → us ≡ [] → lines_behind done (lines_at left frame us) ≡ whole → whole ≡ Ok done
unfolding lines_at
lines_end left frame done [] whole none is = sym is ∙ ap (λ ls. Ok ls) (append-nil done)
lines_end left frame done (u ∷ us) whole none is = cc

lines_push : (done : List Line) (x : Line) (rest : Result (List Line) TextFault) → lines_behind (done ++ x ∷ []) rest ≡ lines_behind done (lines_behind (x ∷ []) rest)
lines_push done x (Ok others) = ap (λ ls. Ok ls) (append_assoc done (x ∷ []) others)
lines_push done x (Err fault) = refl

-- what is read of the next line, and then of the others
abbrev line_then : ℕ → Frame → UnreadWords → List UnreadWords → Result (List Line) TextFault
line_then left frame u us =
    opening_ahead frame u >>= (λ opening. room_for_line left u.line >>= (λ room. rest_ahead frame opening.0 opening.1 >>= (λ line. lines_behind (line ∷ []) (lines_at (left - 1) frame us))))

lines_step : (left : ℕ) (frame : Frame) (u : UnreadWords) (us : List UnreadWords) → lines_at left frame (u ∷ us) ≡ line_then left frame u us
unfolding lines_at
lines_step left frame u us = refl

module _ (frame : Frame) (left : ℕ) (done : List Line) (u : UnreadWords) (old us : List UnreadWords) (whole : Result (List Line) TextFault) (here : old ≡ u ∷ us) (is : lines_behind done (lines_at left frame old) ≡ whole) where
  stepped : whole ≡ lines_behind done (line_then left frame u us)
  stepped = sym is ∙ ap (λ vs. lines_behind done (lines_at left frame vs)) here ∙ ap (lines_behind done) (lines_step left frame u us)

  pub opening_fails : (fault : TextFault) → opening_ahead frame u ≡ Err fault → whole ≡ Err fault
  opening_fails fault read = stepped ∙ ap (λ (o : Result (Opening × UnreadWords) TextFault). lines_behind done (o >>= (λ opening. room_for_line left u.line >>= (λ room. rest_ahead frame opening.0 opening.1 >>= (λ line. lines_behind (line ∷ []) (lines_at (left - 1) frame us)))))) read

  opening_goes : (opening : Opening) (v : UnreadWords) → opening_ahead frame u ≡ Ok (opening, v) → whole ≡ lines_behind done (room_for_line left u.line >>= (λ room. rest_ahead frame opening v >>= (λ line. lines_behind (line ∷ []) (lines_at (left - 1) frame us))))
  opening_goes opening v read = stepped ∙ ap (λ (o : Result (Opening × UnreadWords) TextFault). lines_behind done (o >>= (λ opening. room_for_line left u.line >>= (λ room. rest_ahead frame opening.0 opening.1 >>= (λ line. lines_behind (line ∷ []) (lines_at (left - 1) frame us)))))) read

  pub room_fails : (opening : Opening) (v : UnreadWords) → opening_ahead frame u ≡ Ok (opening, v) → left ≡ 0 → whole ≡ Err (TextFault.Refused u.line 1 Cause.TooManyLines)
  room_fails opening v read none =
      opening_goes opening v read
      ∙ ap (λ (r : Result (Unit {0}) TextFault). lines_behind done (r >>= (λ room. rest_ahead frame opening v >>= (λ line. lines_behind (line ∷ []) (lines_at (left - 1) frame us))))) (cond-true (left == 0) (Err (TextFault.Refused u.line 1 Cause.TooManyLines)) (Ok tt) (eq-eqb left 0 none))

  room_goes : (opening : Opening) (v : UnreadWords) → opening_ahead frame u ≡ Ok (opening, v) → (left ≡ 0 → ⊥) → whole ≡ lines_behind done (rest_ahead frame opening v >>= (λ line. lines_behind (line ∷ []) (lines_at (left - 1) frame us)))
  room_goes opening v read some =
      opening_goes opening v read
      ∙ ap (λ (r : Result (Unit {0}) TextFault). lines_behind done (r >>= (λ room. rest_ahead frame opening v >>= (λ line. lines_behind (line ∷ []) (lines_at (left - 1) frame us))))) (cond-false (left == 0) (Err (TextFault.Refused u.line 1 Cause.TooManyLines)) (Ok tt) (ne_eqb left 0 some))

  pub rest_fails : (opening : Opening) (v : UnreadWords) (fault : TextFault) → opening_ahead frame u ≡ Ok (opening, v) → (left ≡ 0 → ⊥) → rest_ahead frame opening v ≡ Err fault → whole ≡ Err fault
  rest_fails opening v fault read some bad = room_goes opening v read some ∙ ap (λ (r : Result Line TextFault). lines_behind done (r >>= (λ line. lines_behind (line ∷ []) (lines_at (left - 1) frame us)))) bad

  pub lines_go_on : (opening : Opening) (v : UnreadWords) (line : Line) (new : List Line) → opening_ahead frame u ≡ Ok (opening, v) → (left ≡ 0 → ⊥) → rest_ahead frame opening v ≡ Ok line → new ≡ done ++ line ∷ [] → lines_behind new (lines_at (left - 1) frame us) ≡ whole
  lines_go_on opening v line new read some good pushed =
      ap (λ ls. lines_behind ls (lines_at (left - 1) frame us)) pushed ∙ lines_push done line (lines_at (left - 1) frame us)
      ∙ sym (room_goes opening v read some ∙ ap (λ (r : Result Line TextFault). lines_behind done (r >>= (λ x. lines_behind (x ∷ []) (lines_at (left - 1) frame us)))) good)
