-- Words of a line that are put one after another say its parts.
use Rattle.std.proofs.Common.{◌≡◌, ℕ, List, [], ◌∷◌, ◌++◌, refl, sym, ap, ◌∙◌, subst, arith, append-nil, append_assoc}
use Rattle.std.{specs.List.AllByRecursion, specs.List.flat_map, proofs.lemmas.Grind.flat_map-append}
use Rattle.text_lines.{proofs.FieldLaws.Took, proofs.FieldLaws.took_then, specs.Characters.IsTextWord, specs.Keywords.keyword_text}
use Rattle.text_lines.specs.{Parts.Part, Parts.ReadsPart, Parts.ReadsParts, Parts.Takes, Parts.part_words, Parts.parts_words, Texts.IsWordLine, Words.line_text, Words.spaced}
use Rattle.text_lines.specs.declared.keywords.Keyword.{Keyword}
use Rattle.script_text.specs.LinePrinting.{AddsLine, AddsParts, StartsLine}

-- ---- one after another
takes_more : (words rest more : List (List ℕ)) (ps : List Part) → Takes words ps rest → Takes (words ++ more) ps (rest ++ more)
takes_more words rest more [] t = ap (λ ws. ws ++ more) t
takes_more words rest more (p ∷ ps) t = (t.0, t.1 ++ more, ap (λ ws. ws ++ more) t.2 ∙ append_assoc t.0 t.1 more, t.3, takes_more t.1 rest more ps t.4)

took_more : (words more : List (List ℕ)) (ps : List Part) → ReadsParts words ps → Took (words ++ more) ps more
took_more words more ps t = record { all = takes_more words [] more ps t.all }

took_all : (words : List (List ℕ)) (ps : List Part) → ReadsParts words ps → Took words ps []
took_all words ps t = record { all = t.all }

parts_took : (words : List (List ℕ)) (ps : List Part) → Took words ps [] → ReadsParts words ps
parts_took words ps t = record { all = t.all }

reads_then : (a b : List (List ℕ)) (ps qs : List Part) → ReadsParts a ps → ReadsParts b qs → ReadsParts (a ++ b) (ps ++ qs)
reads_then a b ps qs x y = parts_took (a ++ b) (ps ++ qs) (took_then (took_more a b ps x) (took_all b qs y))

pub each_then : {X : Type 0} (P : X → Type 0) (xs ys : List X) → AllByRecursion P xs → AllByRecursion P ys → AllByRecursion P (xs ++ ys)
each_then P [] ys a b = b
each_then P (x ∷ xs) ys a b = (a.0, each_then P xs ys a.1 b)

pub adds_then : {a b c : List ℕ} {ps qs : List Part} → AddsParts a b ps → AddsParts b c qs → AddsParts a c (ps ++ qs)
adds_then {a} {b} {c} {ps} {qs} x y =
    let words : parts_words ps ++ parts_words qs ≡ parts_words (ps ++ qs) = sym (flat_map-append part_words ps qs) in
    let texts : flat_map spaced (parts_words ps) ++ flat_map spaced (parts_words qs) ≡ flat_map spaced (parts_words (ps ++ qs)) =
    sym (flat_map-append spaced (parts_words ps) (parts_words qs)) ∙ ap (flat_map spaced) words in
    record {
      is = y.is ∙ ap (λ out. out ++ flat_map spaced (parts_words qs)) x.is ∙ append_assoc a (flat_map spaced (parts_words ps)) (flat_map spaced (parts_words qs)) ∙ ap (λ out. a ++ out) texts;
      reads = subst (λ ws. ReadsParts ws (ps ++ qs)) words (reads_then (parts_words ps) (parts_words qs) ps qs x.reads y.reads);
      each = subst (AllByRecursion IsTextWord) words (each_then IsTextWord (parts_words ps) (parts_words qs) x.each y.each);
    }

-- nothing
pub adds_none : (old : List ℕ) → AddsParts old old []
adds_none old = record { is = sym (append-nil old); reads = record { all = refl }; each = tt }

-- a part of these words
pub adds_words : {old new : List ℕ} (part : Part) (words : List (List ℕ)) → part_words part ≡ words → ReadsPart words part → AllByRecursion IsTextWord words → new ≡ old ++ flat_map spaced words → AddsParts old new (part ∷ [])
adds_words {old} {new} part words are reads each is =
    let all : words ≡ parts_words (part ∷ []) = sym (append-nil words) ∙ ap (λ ws. ws ++ []) (sym are) in
    record {
      is = is ∙ ap (λ ws. old ++ flat_map spaced ws) all;
      reads = subst (λ ws. ReadsParts ws (part ∷ [])) all (record { all = (words, [], sym (append-nil words), reads, refl) });
      each = subst (AllByRecursion IsTextWord) all each;
    }

-- a part of one word
pub adds_word : {old new : List ℕ} (part : Part) (word : List ℕ) → part_words part ≡ word ∷ [] → ReadsPart (word ∷ []) part → IsTextWord word → new ≡ old ++ spaced word → AddsParts old new (part ∷ [])
adds_word {old} {new} part word are reads each is = adds_words part (word ∷ []) are reads (each, tt) (is ∙ ap (λ text. old ++ text) (sym (append-nil (spaced word))))

-- a space and then a word
pub space_then : {mid new : List ℕ} (old word : List ℕ) → mid ≡ old ++ 32 ∷ [] → new ≡ mid ++ word → new ≡ old ++ spaced word
space_then {mid} {new} old word space is = is ∙ ap (λ out. out ++ word) space ∙ append_assoc old (32 ∷ []) word

-- ---- lines
first_parts : (word : List ℕ) (part : Part) (parts : List Part) → part_words part ≡ word ∷ [] → word ∷ parts_words parts ≡ parts_words (part ∷ parts)
first_parts word part parts are = ap (λ ws. ws ++ parts_words parts) (sym are)

line_is : (a word more : List ℕ) → ((a ++ word) ++ more) ++ 10 ∷ [] ≡ a ++ ((word ++ more) ++ 10 ∷ [])
line_is a word more = append_assoc (a ++ word) more (10 ∷ []) ∙ append_assoc a word (more ++ 10 ∷ []) ∙ ap (λ text. a ++ text) (sym (append_assoc word more (10 ∷ [])))

pub starts_then : {a b c d : List ℕ} {p : Part} {ps : List Part} → StartsLine a b p → AddsParts b c ps → d ≡ c ++ 10 ∷ [] → AddsLine a d (p ∷ ps)
unfolding line_text
starts_then {a} {b} {c} {d} {p} {ps} x y end =
    let all : x.word ∷ parts_words ps ≡ parts_words (p ∷ ps) = first_parts x.word p ps x.words_are in
    record {
      is = end ∙ ap (λ out. out ++ 10 ∷ []) (y.is ∙ ap (λ out. out ++ flat_map spaced (parts_words ps)) x.is) ∙ line_is a x.word (flat_map spaced (parts_words ps)) ∙ ap (λ ws. a ++ line_text ws) all;
      reads = subst (λ ws. ReadsParts ws (p ∷ ps)) all (reads_then (x.word ∷ []) (parts_words ps) (p ∷ []) ps (record { all = (x.word ∷ [], [], refl, x.reads, refl) }) y.reads);
      words = subst IsWordLine all (record { some = omega arith; each = (x.each, y.each) });
    }

pub starts_word : {old new : List ℕ} (part : Part) (word : List ℕ) → part_words part ≡ word ∷ [] → ReadsPart (word ∷ []) part → IsTextWord word → new ≡ old ++ word → StartsLine old new part
starts_word part word are reads each is = record { word = word; words_are = are; is = is; reads = reads; each = each }

pub starts_alone : {a b d : List ℕ} {p : Part} → StartsLine a b p → d ≡ b ++ 10 ∷ [] → AddsLine a d (p ∷ [])
starts_alone {a} {b} {d} {p} x end = starts_then x (adds_none b) end

-- ---- the words of the grammar
pub keyword_word : (k : Keyword) → IsTextWord (keyword_text k)
keyword_word Keyword.Script = (refl, omega arith)
keyword_word Keyword.Lanes = (refl, omega arith)
keyword_word Keyword.Region = (refl, omega arith)
keyword_word Keyword.Length = (refl, omega arith)
keyword_word Keyword.Block = (refl, omega arith)
keyword_word Keyword.Sizes = (refl, omega arith)
keyword_word Keyword.Decode = (refl, omega arith)
keyword_word Keyword.Handle = (refl, omega arith)
keyword_word Keyword.Sanitize = (refl, omega arith)
keyword_word Keyword.Shareable = (refl, omega arith)
keyword_word Keyword.Host = (refl, omega arith)
keyword_word Keyword.Bases = (refl, omega arith)
keyword_word Keyword.MessageTag = (refl, omega arith)
keyword_word Keyword.Log = (refl, omega arith)
keyword_word Keyword.All = (refl, omega arith)
keyword_word Keyword.Handles = (refl, omega arith)
keyword_word Keyword.First = (refl, omega arith)
keyword_word Keyword.Count = (refl, omega arith)
keyword_word Keyword.More = (refl, omega arith)
keyword_word Keyword.Tag = (refl, omega arith)
keyword_word Keyword.Policy = (refl, omega arith)
keyword_word Keyword.Forced = (refl, omega arith)
keyword_word Keyword.Flags = (refl, omega arith)
