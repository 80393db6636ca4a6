-- What is printed for each part of a line says that part.
use Rattle.std.proofs.Common.{◌≡◌, ℕ, suc, ◌+◌, ◌^◌, ◌-◌, ◌<◌, ◌≤◌, Bool, true, false, cond, ◌==◌, nat_le, List, [], ◌∷◌, ◌++◌, length, map, take, get_or, Some, refl, sym, ap, ◌∙◌, subst, inl, inr, arith, append-nil, append_assoc, decimal}
use lib.Pointwise.{bytes_decides}
use Rattle.std.proofs.lemmas.{Bool.and_from, Bool.and_parts, Bool.cases_Bool, Bool.eq-eqb, Bool.eqb-true, Bool.le-leb, Bool.ne_eqb, Grind.flat_map-append, List.map-append, List.take_more}
use Rattle.std.{proofs.lemmas.List.Folds.list_all_at, specs.List.AllByRecursion, specs.List.flat_map, specs.List.list_all}
use Rattle.dcd_base.{specs.Words.is_zero_tag, specs.Words.zero_tag, specs.declared.capacity.Extent.Extent, specs.declared.capacity.Tag.Tag, proofs.WholeExtents.same_extent, specs.Layouts.is_byte}
use Rattle.hex.specs.Hex.{IsBytes}
use Rattle.host_payloads.specs.HostPayloads.{is_untagged}
use Rattle.text_lines.proofs.{PrintedPairs.each_small, PrintedPairs.pair_reads_back, PrintedPairs.pair_word, PrintedWords.high_printed, PrintedWords.number_is_word}
use Rattle.text_lines.specs.{Actors.host_said, Actors.host_text, Characters.IsNumberWord, Characters.IsTextWord, Characters.is_printed, Extents.extent_said, Extents.extent_text, Extents.untagged}
use Rattle.text_lines.specs.{Keywords.keyword_text, Numbers.digits_said, Numbers.number_said, Pairs.pair_text, Pairs.tag_said, Pairs.tag_text, Sizes.sizes_said, Sizes.sizes_text, Words.spaced}
use Rattle.text_lines.specs.declared.keywords.Keyword.{Keyword}
use Rattle.text_lines.specs.Parts.{AllSay, AreBytes, Behind, Form, OneWord, Part, ReadsPart, ReadsParts, SaysExtent, SaysNumber, behind_key, handle_words, key, number_text}
use Rattle.script_text.proofs.PrintLaws.{adds_word, adds_words, each_then, keyword_word, space_then}
use Rattle.script_text.specs.LinePrinting.{AddsItems, AddsParts}

-- ---- numbers
pub number_adds : {old mid new : List ℕ} (form : Form) (most n : ℕ) → n ≤ most → number_said (number_text form n) ≡ Some n → IsNumberWord (number_text form n) → mid ≡ old ++ 32 ∷ [] → new ≡ mid ++ number_text form n → AddsParts old new (Part.Number form most n ∷ [])
number_adds form most n room said word space is =
    adds_word (Part.Number form most n) (number_text form n) refl (number_text form n, refl, record { said = said; room = room }) (number_is_word (number_text form n) word) (space_then _ (number_text form n) space is)

-- the word behind a keyword
part_behind : (k : Keyword) (part : Part) (P : List ℕ → Type 0) → ((ws : List (List ℕ)) → ReadsPart ws part → OneWord ws P) → (words : List (List ℕ)) → ReadsParts words (key k ∷ part ∷ []) → Behind k words P
part_behind k part P one words reads =
    let t = reads.all in
    let o = one t.4.0 t.4.3 in
    (o.0, t.2 ∙ ap (λ ws. ws ++ t.1) t.3 ∙ ap (λ ws. keyword_text k ∷ ws) (t.4.2 ∙ ap (λ ws. ws ++ t.4.1) o.1 ∙ ap (λ ws. o.0 ∷ ws) t.4.4), o.2)

pub number_behind : (k : Keyword) (form : Form) (most n : ℕ) (words : List (List ℕ)) → ReadsParts words (key k ∷ Part.Number form most n ∷ []) → Behind k words (SaysNumber most n)
number_behind k form most n words reads = part_behind k (Part.Number form most n) (SaysNumber most n) (λ ws r. r) words reads

pub may_none : (old : List ℕ) (k : Keyword) (form : Form) (most n : ℕ) → n ≡ 0 → AddsParts old old (Part.May k form most n ∷ [])
may_none old k form most n none =
    adds_words (Part.May k form most n) [] (ap (λ b. behind_key k b (number_text form n)) (eq-eqb n 0 none)) (inl (refl, none)) tt (sym (append-nil old))

pub may_some : {old new : List ℕ} (k : Keyword) (form : Form) (most n : ℕ) → (n ≡ 0 → ⊥) → AddsParts old new (key k ∷ Part.Number form most n ∷ []) → AddsParts old new (Part.May k form most n ∷ [])
may_some k form most n some a =
    adds_words (Part.May k form most n) (keyword_text k ∷ number_text form n ∷ []) (ap (λ b. behind_key k b (number_text form n)) (ne_eqb n 0 some)) (inr (number_behind k form most n (keyword_text k ∷ number_text form n ∷ []) a.reads)) a.each a.is

-- ---- keywords that are there or not
pub flag_none : (old : List ℕ) (k : Keyword) (set : Bool) → set ≡ false → AddsParts old old (Part.Flag k set ∷ [])
flag_none old k set unset = adds_words (Part.Flag k set) [] (ap (λ b. cond b (keyword_text k ∷ []) []) unset) (inl (refl, unset)) tt (sym (append-nil old))

pub flag_some : {old new : List ℕ} (k : Keyword) (set : Bool) → set ≡ true → AddsParts old new (key k ∷ []) → AddsParts old new (Part.Flag k set ∷ [])
flag_some k set is_set a = adds_words (Part.Flag k set) (keyword_text k ∷ []) (ap (λ b. cond b (keyword_text k ∷ []) []) is_set) (inr (refl, is_set)) a.each a.is

-- ---- tags
pub tag_adds : {old mid new : List ℕ} (tag : Tag) → tag_said (tag_text tag) ≡ Some tag → IsTextWord (tag_text tag) → mid ≡ old ++ 32 ∷ [] → new ≡ mid ++ tag_text tag → AddsParts old new (Part.TagOf tag ∷ [])
tag_adds tag said word space is = adds_word (Part.TagOf tag) (tag_text tag) refl (tag_text tag, refl, said) word (space_then _ (tag_text tag) space is)

zero_is : (tag : Tag) → is_zero_tag tag ≡ true → tag ≡ zero_tag
zero_is tag e = let make : List ℕ → Tag = λ (bytes : List ℕ). record { 0 = bytes } in ap make ((bytes_decides tag.0 zero_tag.0).0 e)

pub may_tag_none : (old : List ℕ) (tag : Tag) → is_zero_tag tag ≡ true → AddsParts old old (Part.MayTag tag ∷ [])
may_tag_none old tag none = adds_words (Part.MayTag tag) [] (ap (λ b. behind_key Keyword.Tag b (tag_text tag)) none) (inl (refl, zero_is tag none)) tt (sym (append-nil old))

pub may_tag_some : {old new : List ℕ} (tag : Tag) → is_zero_tag tag ≡ false → AddsParts old new (key Keyword.Tag ∷ Part.TagOf tag ∷ []) → AddsParts old new (Part.MayTag tag ∷ [])
may_tag_some tag some a =
    adds_words (Part.MayTag tag) (keyword_text Keyword.Tag ∷ tag_text tag ∷ []) (ap (λ b. behind_key Keyword.Tag b (tag_text tag)) some)
    (inr (part_behind Keyword.Tag (Part.TagOf tag) (λ word. tag_said word ≡ Some tag) (λ ws r. r) (keyword_text Keyword.Tag ∷ tag_text tag ∷ []) a.reads)) a.each a.is

-- ---- hosts
pub host_reads : (host : ℕ) → digits_said 10 (decimal host) ≡ Some host → host_said (host_text host) ≡ Some host
unfolding host_said
host_reads host said = said

pub host_word : (host : ℕ) → IsNumberWord (decimal host) → IsTextWord (host_text host)
host_word host word = (and_from (is_printed 104) (list_all is_printed (decimal host)) refl (high_printed (decimal host) word.0), omega arith)

pub host_adds : {old mid new : List ℕ} (host : ℕ) → host ≤ 65535 → digits_said 10 (decimal host) ≡ Some host → IsNumberWord (decimal host) → mid ≡ old ++ 32 ∷ [] → new ≡ mid ++ host_text host → AddsParts old new (Part.HostOf host ∷ [])
host_adds host room said word space is =
    adds_word (Part.HostOf host) (host_text host) refl (host_text host, refl, (host_reads host said, room)) (host_word host word) (space_then _ (host_text host) space is)

-- ---- block sizes
pub sizes_adds : {old mid new : List ℕ} (mask : ℕ) → sizes_said (sizes_text mask) ≡ Some mask → IsTextWord (sizes_text mask) → mid ≡ old ++ 32 ∷ [] → new ≡ mid ++ sizes_text mask → AddsParts old new (Part.Sizes mask ∷ [])
sizes_adds mask said word space is = adds_word (Part.Sizes mask) (sizes_text mask) refl (sizes_text mask, refl, said) word (space_then _ (sizes_text mask) space is)

-- ---- lists
module _ {X : Type 0} (Says : X → List ℕ → Type 0) (text : X → List ℕ) where
  pub items_none : (old : List ℕ) → AddsItems Says text [] old old
  items_none old = record { is = sym (append-nil old); says = tt; each = tt }

  pub one_item : {old new : List ℕ} (x : X) → Says x (text x) → IsTextWord (text x) → new ≡ old ++ spaced (text x) → AddsItems Says text (x ∷ []) old new
  one_item {old} {new} x says word is = record { is = is ∙ ap (λ t. old ++ t) (sym (append-nil (spaced (text x)))); says = (says, tt); each = (word, tt) }

  say_then : (xs ys : List X) → AllSay Says xs (map text xs) → AllSay Says ys (map text ys) → AllSay Says (xs ++ ys) (map text (xs ++ ys))
  say_then [] ys a b = b
  say_then (x ∷ xs) ys a b = (a.0, say_then xs ys a.1 b)

  items_then : (a b d : List ℕ) (xs ys : List X) → AddsItems Says text xs a b → AddsItems Says text ys b d → AddsItems Says text (xs ++ ys) a d
  items_then a b d xs ys x y =
      let words : map text xs ++ map text ys ≡ map text (xs ++ ys) = sym (map-append text xs ys) in
      record {
        is = y.is ∙ ap (λ out. out ++ flat_map spaced (map text ys)) x.is ∙ append_assoc a (flat_map spaced (map text xs)) (flat_map spaced (map text ys))
            ∙ ap (λ t. a ++ t) (sym (flat_map-append spaced (map text xs) (map text ys)) ∙ ap (flat_map spaced) words);
        says = say_then xs ys x.says y.says;
        each = subst (AllByRecursion IsTextWord) words (each_then IsTextWord (map text xs) (map text ys) x.each y.each);
      }

  pub items_more : (a b d : List ℕ) (xs : List X) (i : ℕ) (x : X) → i < length xs → AddsItems Says text (take i xs) a b → AddsItems Says text (get_or xs i x ∷ []) b d → AddsItems Says text (take (i + 1) xs) a d
  items_more a b d xs i x under before item =
      subst (λ ys. AddsItems Says text ys a d) (sym (take_more xs i x under)) (items_then a b d (take i xs) (get_or xs i x ∷ []) before item)

pub handle_item : {old mid new : List ℕ} (handle : ℕ) → handle ≤ 65535 → number_said (decimal handle) ≡ Some handle → IsNumberWord (decimal handle) → mid ≡ old ++ 32 ∷ [] → new ≡ mid ++ decimal handle → AddsItems (SaysNumber 65535) decimal (handle ∷ []) old new
handle_item handle room said word space is =
    one_item (SaysNumber 65535) decimal handle (record { said = said; room = room }) (number_is_word (decimal handle) word) (space_then _ (decimal handle) space is)

pub handles_none : (old : List ℕ) (handles : List ℕ) → length handles ≡ 0 → AddsParts old old (Part.Handles handles ∷ [])
handles_none old [] none = adds_words (Part.Handles []) [] refl (inl (refl, refl)) tt (sym (append-nil old))
handles_none old (handle ∷ handles) none = absurd (omega (arith, none))

handles_are : (handles : List ℕ) → (length handles ≡ 0 → ⊥) → handle_words handles ≡ keyword_text Keyword.Handles ∷ map decimal handles
handles_are [] some = absurd (some refl)
handles_are (handle ∷ handles) some = refl

pub handles_some : {old mid new : List ℕ} (handles : List ℕ) → (length handles ≡ 0 → ⊥) → length handles ≤ 255 → AddsParts old mid (key Keyword.Handles ∷ []) → AddsItems (SaysNumber 65535) decimal handles mid new → AddsParts old new (Part.Handles handles ∷ [])
handles_some {old} {mid} {new} handles some few k a =
    adds_words (Part.Handles handles) (keyword_text Keyword.Handles ∷ map decimal handles) (handles_are handles some)
    (inr (record { rest = map decimal handles; words_are = refl; some = omega (arith, some); few = few; each = a.says }))
    (keyword_word Keyword.Handles, a.each)
    (a.is ∙ ap (λ out. out ++ flat_map spaced (map decimal handles)) k.is ∙ append_assoc old (spaced (keyword_text Keyword.Handles) ++ []) (flat_map spaced (map decimal handles))
    ∙ ap (λ t. old ++ (t ++ flat_map spaced (map decimal handles))) (append-nil (spaced (keyword_text Keyword.Handles))))

pub untagged_at : (xs : List Extent) (i : ℕ) (x : Extent) → i < length xs → list_all is_untagged xs ≡ true → is_untagged (get_or xs i x) ≡ true
untagged_at xs i x under all = elim (cases_Bool (is_untagged (get_or xs i x))) [
  | inl e ↦ e
  | inr e ↦ let f : true ≡ false = sym all ∙ list_all_at is_untagged xs i x under e in cc
]

untagged_is : (x : Extent) → is_untagged x ≡ true → untagged x.start x.length ≡ x
untagged_is x e =
    let p = and_parts (is_zero_tag x.tag) (x.sequence == 0) e in
    same_extent (untagged x.start x.length) x refl refl (sym ((bytes_decides x.tag.0 zero_tag.0).0 p.0)) (sym (eqb-true x.sequence 0 p.1))

pub extent_item : {old mid new : List ℕ} (x : Extent) → is_untagged x ≡ true → x.start < 2 ^ 64 → x.length < 2 ^ 64 → extent_said (extent_text x) ≡ Some (untagged x.start x.length) → IsTextWord (extent_text x) → mid ≡ old ++ 32 ∷ [] → new ≡ mid ++ extent_text x → AddsItems SaysExtent extent_text (x ∷ []) old new
extent_item x alone start size said word space is =
    one_item SaysExtent extent_text x
    (record { said = said ∙ ap Some (untagged_is x alone); room = and_from (nat_le x.start (2 ^ 64 - 1)) (nat_le x.length (2 ^ 64 - 1)) (le-leb x.start (2 ^ 64 - 1) (omega (arith, start))) (le-leb x.length (2 ^ 64 - 1) (omega (arith, size))) })
    word (space_then _ (extent_text x) space is)

pub extents_adds : {old new : List ℕ} (most : ℕ) (xs : List Extent) → length xs ≤ most → AddsItems SaysExtent extent_text xs old new → AddsParts old new (Part.Extents most xs ∷ [])
extents_adds most xs few a = adds_words (Part.Extents most xs) (map extent_text xs) refl (few, a.says) a.each a.is

-- ---- bytes
are_pairs : (bytes : List ℕ) → IsBytes bytes → AreBytes bytes (map pair_text bytes)
are_pairs [] small = refl
are_pairs (b ∷ bytes) small = (b ∷ [], bytes, refl, pair_reads_back b (small 0), are_pairs bytes (λ i. small (suc i)))

pair_words : (bytes : List ℕ) → IsBytes bytes → AllByRecursion IsTextWord (map pair_text bytes)
pair_words [] small = tt
pair_words (b ∷ bytes) small = (pair_word b (small 0), pair_words bytes (λ i. small (suc i)))

some_pairs : (bytes : List ℕ) → 0 < length bytes → 0 < length (map pair_text bytes)
some_pairs [] some = absurd (omega (arith, some))
some_pairs (b ∷ bytes) some = omega arith

pub pairs_add : {old new : List ℕ} (bytes : List ℕ) → list_all is_byte bytes ≡ true → 0 < length bytes → length bytes ≤ 65535 → new ≡ old ++ flat_map spaced (map pair_text bytes) → AddsParts old new (Part.Pairs bytes ∷ [])
pairs_add bytes small some short is =
    adds_words (Part.Pairs bytes) (map pair_text bytes) refl (some_pairs bytes some, short, are_pairs bytes (each_small bytes small)) (pair_words bytes (each_small bytes small)) is
