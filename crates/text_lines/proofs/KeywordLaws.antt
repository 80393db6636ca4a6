-- Which words are no keywords.
use Rattle.std.proofs.Common.{◌≡◌, ℕ, false, ◌==◌, List, [], ◌∷◌, ◌++◌, Option, Some, None, refl, sym, ap, ◌∙◌, inl, inr}
use lib.Pointwise.{pointwise, bytes_decides}
use Rattle.std.proofs.lemmas.Bool.{cases_Bool}
use Rattle.dcd_base.specs.declared.capacity.Extent.{Extent}
use Rattle.text_lines.{proofs.FieldLaws.IsNot, proofs.ListLaws.Stops, specs.Extents.extent_said, specs.Keywords.keyword_text, specs.Numbers.digits_from, specs.Numbers.number_said}
use Rattle.text_lines.specs.{Parts.AllSay, Parts.SaysExtent, Parts.SaysNumber, Unread.leading_word, declared.keywords.Keyword.Keyword}

-- no keyword is a number or an extent
no_number : (k : Keyword) → number_said (keyword_text k) ≡ None
unfolding number_said digits_from
no_number Keyword.Script = refl
no_number Keyword.Lanes = refl
no_number Keyword.Region = refl
no_number Keyword.Length = refl
no_number Keyword.Block = refl
no_number Keyword.Sizes = refl
no_number Keyword.Decode = refl
no_number Keyword.Handle = refl
no_number Keyword.Sanitize = refl
no_number Keyword.Shareable = refl
no_number Keyword.Host = refl
no_number Keyword.Bases = refl
no_number Keyword.MessageTag = refl
no_number Keyword.Log = refl
no_number Keyword.All = refl
no_number Keyword.Handles = refl
no_number Keyword.First = refl
no_number Keyword.Count = refl
no_number Keyword.More = refl
no_number Keyword.Tag = refl
no_number Keyword.Policy = refl
no_number Keyword.Forced = refl
no_number Keyword.Flags = refl

no_extent : (k : Keyword) → extent_said (keyword_text k) ≡ None
unfolding extent_said number_said digits_from
no_extent Keyword.Script = refl
no_extent Keyword.Lanes = refl
no_extent Keyword.Region = refl
no_extent Keyword.Length = refl
no_extent Keyword.Block = refl
no_extent Keyword.Sizes = refl
no_extent Keyword.Decode = refl
no_extent Keyword.Handle = refl
no_extent Keyword.Sanitize = refl
no_extent Keyword.Shareable = refl
no_extent Keyword.Host = refl
no_extent Keyword.Bases = refl
no_extent Keyword.MessageTag = refl
no_extent Keyword.Log = refl
no_extent Keyword.All = refl
no_extent Keyword.Handles = refl
no_extent Keyword.First = refl
no_extent Keyword.Count = refl
no_extent Keyword.More = refl
no_extent Keyword.Tag = refl
no_extent Keyword.Policy = refl
no_extent Keyword.Forced = refl
no_extent Keyword.Flags = refl

-- a word that says something which the keyword does not say is another word
pub other_word : {A : Type 0} (said : List ℕ → Option A) (word other : List ℕ) (x : A) → said other ≡ None → said word ≡ Some x → pointwise ◌==◌ word other ≡ false
other_word said word other x none is = elim (cases_Bool (pointwise ◌==◌ word other)) [
  | inl e ↦ let f : None ≡ Some x = sym none ∙ ap said (sym ((bytes_decides word other).0 e)) ∙ is in cc
  | inr e ↦ e
]

pub number_not : (k : Keyword) (most n : ℕ) (word : List ℕ) → SaysNumber most n word → pointwise ◌==◌ word (keyword_text k) ≡ false
number_not k most n word says = other_word number_said word (keyword_text k) n (no_number k) says.said

pub extent_not : (k : Keyword) (x : Extent) (word : List ℕ) → SaysExtent x word → pointwise ◌==◌ word (keyword_text k) ≡ false
extent_not k x word says = other_word extent_said word (keyword_text k) x (no_extent k) says.said

-- another keyword, or the end, comes next
pub is_key : (k other : Keyword) (words rest : List (List ℕ)) → words ≡ keyword_text other ∷ rest → pointwise ◌==◌ (keyword_text other) (keyword_text k) ≡ false → IsNot k words
is_key k other words rest is differs = ap (λ ws. pointwise ◌==◌ (leading_word ws) (keyword_text k)) is ∙ differs

-- A keyword that is neither empty nor that of the message tag.
pub record IsInner (k : Keyword) : Type 0 where
  pub some : pointwise ◌==◌ [] (keyword_text k) ≡ false
  pub no_tag : pointwise ◌==◌ (keyword_text Keyword.MessageTag) (keyword_text k) ≡ false

pub stops_not : (k : Keyword) (words : List (List ℕ)) → IsInner k → Stops words → IsNot k words
stops_not k words inner (inl none) = ap (λ ws. pointwise ◌==◌ (leading_word ws) (keyword_text k)) none ∙ inner.some
stops_not k words inner (inr tag) = is_key k Keyword.MessageTag words tag.0 tag.1 inner.no_tag

pub extents_not : (k : Keyword) (xs : List Extent) (front rest : List (List ℕ)) → IsInner k → AllSay SaysExtent xs front → Stops rest → IsNot k (front ++ rest)
extents_not k [] [] rest inner all stops = stops_not k rest inner stops
extents_not k [] (w ∷ ws) rest inner all stops = absurd all
extents_not k (x ∷ xs) [] rest inner all stops = absurd all
extents_not k (x ∷ xs) (w ∷ ws) rest inner all stops = extent_not k x w all.0
