-- Lists of words of one form, and tags.
use Rattle.std.proofs.Common.{◌≡◌, ℕ, ◌+◌, ◌-◌, ◌<◌, ◌≤◌, Bool, true, false, cond, ◌==◌, ◌⊎◌, List, [], ◌∷◌, ◌++◌, length, Option, Some, None, Result, Ok, Err, refl, sym, ap, ◌∙◌, subst, inl, inr, arith}
use lib.Pointwise.{pointwise, bytes_decides}
use Rattle.std.proofs.lemmas.Bool.{cases_Bool, cond-false, cond-true, eqb-false, ne_eqb}
use Rattle.dcd_base.specs.declared.capacity.Extent.{Extent}
use Rattle.text_lines.{proofs.FieldLaws.Goes, proofs.FieldLaws.bound, proofs.FieldLaws.ok_is, specs.Chains.◌>>!◌ as ◌>>=◌}
use Rattle.text_lines.specs.{Extents.extent_said, Extents.fits_64, Extents.limited_extent, Fields.and_room, Fields.extent_of_word, Fields.extent_or, Fields.list_at, Fields.list_behind, Fields.told}
use Rattle.text_lines.specs.{Keywords.keyword_text, Parts.AllSay, Parts.SaysExtent, Unread.UnreadWords, Unread.behind_next, Unread.leading_word, declared.faults.Cause.Cause}
use Rattle.text_lines.specs.declared.{faults.TextFault.TextFault, keywords.Keyword.Keyword, word_faults.NumberFault.NumberFault}

-- ---- extents
pub says_extent : (x : Extent) (word : List ℕ) → SaysExtent x word → extent_of_word word ≡ Ok x
says_extent x word says = ap (λ o. extent_or (limited_extent o)) says.said ∙ ap (λ test. extent_or (cond test (Ok x) (Err NumberFault.TooLarge))) says.room

limited_extent_says : (x y : Extent) (test : Bool) → fits_64 y ≡ test → extent_or (cond test (Ok y) (Err NumberFault.TooLarge)) ≡ Ok x → (y ≡ x) × (fits_64 y ≡ true)
limited_extent_says x y true e is = ((cc), e)
limited_extent_says x y false e is = cc

said_extent : (x : Extent) (word : List ℕ) (said : Option Extent) → extent_said word ≡ said → extent_or (limited_extent said) ≡ Ok x → SaysExtent x word
said_extent x word None e is = cc
said_extent x word (Some y) e is =
    let p = limited_extent_says x y (fits_64 y) refl is in
    record { said = e ∙ ap Some p.0; room = subst (λ z. fits_64 z ≡ true) p.0 p.1 }

pub extent_says : (x : Extent) (word : List ℕ) → extent_of_word word ≡ Ok x → SaysExtent x word
extent_says x word is = said_extent x word (extent_said word) refl is

-- ---- lists
-- No further word of a list comes: the line ends, or its message tag comes.
abbrev pub Stops : List (List ℕ) → Type 0
Stops words = (words ≡ []) ⊎ ((rest : List (List ℕ)) × (words ≡ keyword_text Keyword.MessageTag ∷ rest))

-- the word is no message tag
abbrev IsItem : List ℕ → Type 0
IsItem word = pointwise ◌==◌ word (keyword_text Keyword.MessageTag) ≡ false

pub behind_goes : {A : Type 0} (before xs : List A) (read : Result (List A × UnreadWords) TextFault) (rest : List (List ℕ)) → Goes read xs rest → Goes (list_behind before read) (before ++ xs) rest
behind_goes before xs read rest g = record { left = g.left; is = ap (list_behind before) g.is; words = g.words }

pub behind_is : {A : Type 0} (before : List A) (read : Result (List A × UnreadWords) TextFault) (x : List A × UnreadWords) → list_behind before read ≡ Ok x → (y : List A × UnreadWords) × (read ≡ Ok y) × ((before ++ y.0, y.1) ≡ x)
behind_is before (Ok y) x is = (y, refl, ok_is _ x is)
behind_is before (Err fault) x is = cc

module _ {A : Type 0} (read : List ℕ → Result A Cause) (Says : A → List ℕ → Type 0) where
  stops_empty : (left line word : ℕ) (rest : List (List ℕ)) → Stops rest → Goes (list_at read left line word rest) [] rest
  unfolding list_at
  stops_empty left line word [] stops = record { left = record { line = line; word = word; words = [] }; is = refl; words = refl }
  stops_empty left line word (w ∷ ws) (inl none) = cc
  stops_empty left line word (w ∷ ws) (inr tag) =
      let first : w ≡ keyword_text Keyword.MessageTag = ap leading_word tag.1 in
      record {
        left = record { line = line; word = word; words = w ∷ ws };
        is = cond-true (pointwise ◌==◌ w (keyword_text Keyword.MessageTag)) _ _ ((bytes_decides w (keyword_text Keyword.MessageTag)).1 first);
        words = refl;
      }

  -- a list whose words say its items is read as them
  pub list_goes : ((x : A) (w : List ℕ) → Says x w → (read w ≡ Ok x) × IsItem w) → (left line word : ℕ) (xs : List A) (front rest : List (List ℕ)) → length xs ≤ left → AllSay Says xs front → Stops rest → Goes (list_at read left line word (front ++ rest)) xs rest
  unfolding list_at
  list_goes each left line word [] [] rest few all stops = stops_empty left line word rest stops
  list_goes each left line word [] (w ∷ ws) rest few all stops = absurd all
  list_goes each left line word (x ∷ xs) [] rest few all stops = absurd all
  list_goes each left line word (x ∷ xs) (w ∷ ws) rest few all stops =
      let p = each x w all.0 in
      let more = list_goes each (left - 1) line (word + 1) xs ws rest (omega (arith, few)) all.1 stops in
      let room : and_room left (read w) ≡ Ok x = ap (and_room left) p.0 ∙ cond-false (left == 0) (Err Cause.MessageTooLong) (Ok x) (ne_eqb left 0 (λ e. omega (arith, few, e))) in
      record {
        left = more.left;
        is = cond-false (pointwise ◌==◌ w (keyword_text Keyword.MessageTag)) _ _ p.1
            ∙ ap (λ (r : Result A Cause). told (record { line = line; word = word; words = w ∷ (ws ++ rest) }) r >>= (λ first. list_behind (first.0 ∷ []) (list_at read (left - 1) line (word + 1) (ws ++ rest)))) room
            ∙ ap (list_behind (x ∷ [])) more.is;
        words = more.words;
      }

  -- the words that were read, and those behind them
  pub record ListRead (words : List (List ℕ)) (left : ℕ) (x : List A × UnreadWords) : Type 0 where
    pub front : List (List ℕ)
    pub is : words ≡ front ++ x.1.words
    pub few : length x.0 ≤ left
    pub all : AllSay Says x.0 front

  room_left : (left : ℕ) (r : Result A Cause) (x : A) → and_room left r ≡ Ok x → (r ≡ Ok x) × (0 < left)
  room_left left (Ok y) x is = elim (cases_Bool (left == 0)) [
    | inl e ↦ let f : Err Cause.MessageTooLong ≡ Ok x = sym (cond-true (left == 0) (Err Cause.MessageTooLong) (Ok y) e) ∙ is in cc
    | inr e ↦ (sym (cond-false (left == 0) (Err Cause.MessageTooLong) (Ok y) e) ∙ is, let h = eqb-false left 0 e in omega (arith, h))
  ]
  room_left left (Err cause) x is = cc

  told_item : (u : UnreadWords) (left : ℕ) (r : Result A Cause) (x : A × UnreadWords) → told u (and_room left r) ≡ Ok x → (r ≡ Ok x.0) × (0 < left)
  told_item u left r x is = by (and_room left r) refl is
    where
      by : (s : Result A Cause) → and_room left r ≡ s → told u s ≡ Ok x → (r ≡ Ok x.0) × (0 < left)
      by (Ok y) e f = let g : (y, behind_next u) ≡ x = ok_is (y, behind_next u) x f in room_left left r x.0 (e ∙ ap (λ (p : A × UnreadWords). Ok p.0) g)
      by (Err cause) e f = cc

  pub list_sound : ((x : A) (w : List ℕ) → read w ≡ Ok x → Says x w) → (left line word : ℕ) (words : List (List ℕ)) (x : List A × UnreadWords) → list_at read left line word words ≡ Ok x → ListRead words left x
  unfolding list_at
  list_sound each left line word [] x is =
      let e : ([], record { line = line; word = word; words = [] }) ≡ x = ok_is _ x is in
      subst (ListRead [] left) e (record { front = []; is = refl; few = omega arith; all = tt })
  list_sound each left line word (w ∷ ws) x is = elim (cases_Bool (pointwise ◌==◌ w (keyword_text Keyword.MessageTag))) [
    | inl t ↦
        let e : ([], record { line = line; word = word; words = w ∷ ws }) ≡ x = ok_is _ x (sym (cond-true (pointwise ◌==◌ w (keyword_text Keyword.MessageTag)) _ _ t) ∙ is) in
        subst (ListRead (w ∷ ws) left) e (record { front = []; is = refl; few = omega arith; all = tt })
    | inr t ↦
        let u : UnreadWords = record { line = line; word = word; words = w ∷ ws } in
        let first = bound (told u (and_room left (read w))) (λ f. list_behind (f.0 ∷ []) (list_at read (left - 1) line (word + 1) ws)) x (sym (cond-false (pointwise ◌==◌ w (keyword_text Keyword.MessageTag)) _ _ t) ∙ is) in
        let others = behind_is (first.value.0 ∷ []) (list_at read (left - 1) line (word + 1) ws) x first.done in
        let p = told_item u left (read w) first.value first.begun in
        let rest = list_sound each (left - 1) line (word + 1) ws others.0 others.1 in
        subst (ListRead (w ∷ ws) left) others.2 (record {
          front = w ∷ rest.front;
          is = ap (λ xs. w ∷ xs) rest.is;
          few = omega (arith, rest.few, p.1);
          all = (each first.value.0 w p.0, rest.all);
        })
  ]
