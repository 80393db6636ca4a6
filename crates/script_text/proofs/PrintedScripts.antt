-- What is printed of a script says it.
use Rattle.std.proofs.Common.{◌≡◌, ℕ, zero, suc, ◌+◌, ◌*◌, ◌-◌, ◌<◌, List, [], ◌∷◌, ◌++◌, length, map, take, drop, get_or, refl, sym, ap, ◌∙◌, subst, arith, append-nil, append_assoc, length-drop}
use Rattle.std.proofs.{Math.Nat.suc-mul, lemmas.Grind.flat_map-append}
use Rattle.std.proofs.lemmas.List.{drop-drop, get_or-drop, get_or-take, length-take-le, map-append, take_more}
use Rattle.std.specs.List.{AllByRecursion, flat_map}
use Rattle.region_config.specs.declared.region_spec.RegionSpec.{RegionSpec}
use Rattle.text_lines.{proofs.TextLaws.text_parts as text_has, specs.Layouts.line_parts, specs.Layouts.most_64, specs.Parts.Form, specs.Parts.Part, specs.Parts.parts_words}
use Rattle.text_lines.specs.{Texts.IsWordLine, Texts.words_of_lines, Words.line_text, declared.actors.Frame.Frame, script_codec.proofs.Adding.within_seats, script_codec.specs.Writing.IsWritable}
use Rattle.text_lines.specs.script_codec.specs.declared.{script_line.Line.Line, scripts.Script.Script}
use Rattle.script_text.proofs.PrintLaws.{adds_then, each_then as all_then}
use Rattle.script_text.specs.LinePrinting.{AddsLine, AddsParts, PrintsLine, printed_words}
use Rattle.script_text.specs.Printing.{AddsLines, AddsScriptLines, printed_line, printed_script_line, script_text, text_parts}
use Rattle.script_text.specs.Layouts.{ReadsLines, Says, SaysLines, base_parts, frame_of_script, head_parts, host_parts, hosts_parts, region_parts, regions_parts}

-- ---- lines of the head
reads_then : (ps qs : List (List Part)) → ReadsLines (map parts_words ps) ps → ReadsLines (map parts_words qs) qs → ReadsLines (map parts_words (ps ++ qs)) (ps ++ qs)
reads_then [] qs a b = b
reads_then (p ∷ ps) qs a b = (a.0, reads_then ps qs a.1 b)

each_then : (ps qs : List (List Part)) → AllByRecursion IsWordLine (map parts_words ps) → AllByRecursion IsWordLine (map parts_words qs) → AllByRecursion IsWordLine (map parts_words (ps ++ qs))
each_then [] qs a b = b
each_then (p ∷ ps) qs a b = (a.0, each_then ps qs a.1 b)

pub lines_then : {a b d : List ℕ} {ps qs : List (List Part)} → AddsLines a b ps → AddsLines b d qs → AddsLines a d (ps ++ qs)
lines_then {a} {b} {d} {ps} {qs} x y = record {
  is = y.is ∙ ap (λ out. out ++ flat_map printed_line qs) x.is ∙ append_assoc a (flat_map printed_line ps) (flat_map printed_line qs) ∙ ap (λ text. a ++ text) (sym (flat_map-append printed_line ps qs));
  reads = reads_then ps qs x.reads y.reads;
  each = each_then ps qs x.each y.each;
}

pub one_line : {old new : List ℕ} {parts : List Part} → AddsLine old new parts → AddsLines old new (parts ∷ [])
one_line {old} {new} {parts} a = record { is = a.is ∙ ap (λ text. old ++ text) (sym (append-nil (line_text (parts_words parts)))); reads = (a.reads, tt); each = (a.words, tt) }

-- ---- regions
regions_push : (n : ℕ) (xs : List RegionSpec) (x : RegionSpec) → regions_parts n (xs ++ x ∷ []) ≡ regions_parts n xs ++ region_parts (n + length xs) x ∷ []
regions_push n [] x = ap (λ k. region_parts k x ∷ []) (let e : n ≡ n + 0 = omega arith in e)
regions_push n (y ∷ ys) x =
    let e : (n + 1) + length ys ≡ n + suc (length ys) = omega arith in
    ap (λ lines. region_parts n y ∷ lines) (regions_push (n + 1) ys x ∙ ap (λ k. regions_parts (n + 1) ys ++ region_parts k x ∷ []) e)

pub regions_more : (a b d : List ℕ) (xs : List RegionSpec) (i : ℕ) (x : RegionSpec) → i < length xs → AddsLines a b (regions_parts 0 (take i xs)) → AddsLine b d (region_parts i (get_or xs i x)) → AddsLines a d (regions_parts 0 (take (i + 1) xs))
regions_more a b d xs i x under before line =
    let size : 0 + length (take i xs) ≡ i = omega (arith, length-take-le i xs (omega (arith, under))) in
    subst (AddsLines a d)
    (sym (ap (regions_parts 0) (take_more xs i x under) ∙ regions_push 0 (take i xs) (get_or xs i x) ∙ ap (λ k. regions_parts 0 (take i xs) ++ region_parts k (get_or xs i x) ∷ []) size))
    (lines_then before (one_line line))

-- ---- hosts
hosts_push : (h k n : ℕ) (bases : List ℕ) → hosts_parts (suc h) k n bases ≡ hosts_parts h k n bases ++ host_parts (k + h) (take n (drop (h * n) bases)) ∷ []
hosts_push zero k n bases =
    let e : k ≡ k + 0 = omega arith in
    let f : 0 ≡ 0 * n = omega arith in
    λ i. host_parts (e i) (take n (drop (f i) bases)) ∷ []
hosts_push (suc h) k n bases =
    let e : (k + 1) + h ≡ k + suc h = omega arith in
    let size : n + h * n ≡ suc h * n = omega (arith, suc-mul h n) in
    let rest : drop (h * n) (drop n bases) ≡ drop (suc h * n) bases = drop-drop (h * n) n bases ∙ ap (λ m. drop m bases) size in
    ap (λ lines. host_parts k (take n bases) ∷ lines) (hosts_push h (k + 1) n (drop n bases) ∙ (λ i. hosts_parts h (k + 1) n (drop n bases) ++ host_parts (e i) (take n (rest i)) ∷ []))

pub hosts_more : (a b d : List ℕ) (h n : ℕ) (bases : List ℕ) → AddsLines a b (hosts_parts h 0 n bases) → AddsLine b d (host_parts h (take n (drop (h * n) bases))) → AddsLines a d (hosts_parts (h + 1) 0 n bases)
hosts_more a b d h n bases before line =
    let next : suc h ≡ h + 1 = omega arith in
    let same : 0 + h ≡ h = omega arith in
    subst (AddsLines a d)
    (sym (ap (λ m. hosts_parts m 0 n bases) (sym next) ∙ hosts_push h 0 n bases ∙ ap (λ k. hosts_parts h 0 n bases ++ host_parts k (take n (drop (h * n) bases)) ∷ []) same))
    (lines_then before (one_line line))

pub bases_more : (a b d : List ℕ) (xs : List ℕ) (i : ℕ) → i < length xs → AddsParts a b (base_parts (take i xs)) → AddsParts b d (Part.Number Form.Size most_64 (get_or xs i 0) ∷ []) → AddsParts a d (base_parts (take (i + 1) xs))
bases_more a b d xs i under before base =
    subst (AddsParts a d) (sym (ap base_parts (take_more xs i 0 under) ∙ map-append (Part.Number Form.Size most_64) (take i xs) (get_or xs i 0 ∷ []))) (adds_then before base)

-- a base of a host, among those of all hosts
pub base_within : (h hosts n : ℕ) (bases : List ℕ) (i : ℕ) → h < hosts → i < n → length bases ≡ hosts * n → i < length (take n (drop (h * n) bases))
base_within h hosts n bases i host under all =
    let last = within_seats h (n - 1) hosts n host (omega (arith, under)) in
    let rest = length-drop (h * n) bases in
    let size = length-take-le n (drop (h * n) bases) (omega (arith, last, rest, all, under)) in
    omega (arith, size, under)

pub base_is : (h n : ℕ) (bases : List ℕ) (i : ℕ) → i < n → get_or (take n (drop (h * n) bases)) i 0 ≡ get_or bases (h * n + i) 0
base_is h n bases i under = get_or-take n (drop (h * n) bases) i 0 under ∙ get_or-drop (h * n) bases i 0

-- ---- lines of the script
module _ (frame : Frame) where
  says_then : (xs ys : List Line) → SaysLines frame (map (printed_words frame) xs) xs → SaysLines frame (map (printed_words frame) ys) ys → SaysLines frame (map (printed_words frame) (xs ++ ys)) (xs ++ ys)
  says_then [] ys a b = b
  says_then (x ∷ xs) ys a b = (a.0, says_then xs ys a.1 b)

  words_then : (xs ys : List Line) → AllByRecursion IsWordLine (map (printed_words frame) xs) → AllByRecursion IsWordLine (map (printed_words frame) ys) → AllByRecursion IsWordLine (map (printed_words frame) (xs ++ ys))
  words_then [] ys a b = b
  words_then (x ∷ xs) ys a b = (a.0, words_then xs ys a.1 b)

  pub script_lines_more : (a b d : List ℕ) (xs : List Line) (i : ℕ) (x : Line) → i < length xs → AddsScriptLines frame a b (take i xs) → PrintsLine frame (get_or xs i x) b d → AddsScriptLines frame a d (take (i + 1) xs)
  script_lines_more a b d xs i x under before line =
      let front = take i xs in
      let one = get_or xs i x in
      let print = printed_script_line frame in
      subst (AddsScriptLines frame a d) (sym (take_more xs i x under)) (record {
        is = line.is ∙ ap (λ out. out ++ print one) before.is ∙ append_assoc a (flat_map print front) (print one)
            ∙ ap (λ text. a ++ (flat_map print front ++ text)) (sym (append-nil (print one))) ∙ ap (λ text. a ++ text) (sym (flat_map-append print front (one ∷ [])));
        says = says_then front (one ∷ []) before.says (line.says, tt);
        each = words_then front (one ∷ []) before.each (line.words, tt);
      })

-- ---- the whole text
flat_of_map : {X Y : Type 0} (f : Y → List ℕ) (g : X → Y) (xs : List X) → flat_map f (map g xs) ≡ flat_map (λ x. f (g x)) xs
flat_of_map f g [] = refl
flat_of_map f g (x ∷ xs) = ap (λ text. f (g x) ++ text) (flat_of_map f g xs)

map_of_map : {X Y Z : Type 0} (f : Y → Z) (g : X → Y) (xs : List X) → map f (map g xs) ≡ map (λ x. f (g x)) xs
map_of_map f g [] = refl
map_of_map f g (x ∷ xs) = ap (λ ys. f (g x) ∷ ys) (map_of_map f g xs)

-- what was printed is the text of the script
pub printed_text : (s : Script) (old mid new : List ℕ) → AddsLines old mid (head_parts s) → AddsScriptLines (frame_of_script s) mid new s.lines → new ≡ old ++ script_text s
unfolding script_text
printed_text s old mid new head body =
    let frame = frame_of_script s in
    body.is ∙ ap (λ out. out ++ flat_map (printed_script_line frame) s.lines) head.is
    ∙ append_assoc old (flat_map printed_line (head_parts s)) (flat_map (printed_script_line frame) s.lines)
    ∙ ap (λ text. old ++ (flat_map printed_line (head_parts s) ++ text)) (sym (flat_of_map printed_line (line_parts frame) s.lines))
    ∙ ap (λ text. old ++ text) (sym (flat_map-append printed_line (head_parts s) (map (line_parts frame) s.lines)))

-- and the text says the script
pub printed_says : (s : Script) (old mid new : List ℕ) → IsWritable s → AddsLines old mid (head_parts s) → AddsScriptLines (frame_of_script s) mid new s.lines → Says (script_text s) s
unfolding script_text
printed_says s old mid new may head body =
    let frame = frame_of_script s in
    let words = map parts_words (head_parts s) ++ map (printed_words frame) s.lines in
    let all : map parts_words (text_parts s) ≡ words =
    map-append parts_words (head_parts s) (map (line_parts frame) s.lines) ∙ ap (λ ws. map parts_words (head_parts s) ++ ws) (map_of_map parts_words (line_parts frame) s.lines) in
    let text : flat_map printed_line (text_parts s) ≡ flat_map line_text words = sym (flat_of_map line_text parts_words (text_parts s)) ∙ ap (flat_map line_text) all in
    record {
      script = may;
      head = map parts_words (head_parts s);
      body = map (printed_words frame) s.lines;
      lines_are = ap words_of_lines text ∙ text_has words (all_then IsWordLine (map parts_words (head_parts s)) (map (printed_words frame) s.lines) head.each body.each);
      head_reads = head.reads;
      body_says = body.says;
    }
