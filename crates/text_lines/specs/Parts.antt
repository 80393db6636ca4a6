-- A line as the parts of the grammar: which words say a part, and how a part is printed.
use Rattle.std.specs.Prelude.{◌≡◌, ◌⊎◌, ℕ, ◌<◌, ◌≤◌, Bool, true, false, ◌==◌, List, [], ◌∷◌, ◌++◌, length, map, Some, if◌then◌else◌, decimal}
use Rattle.std.specs.List.{flat_map}
use Rattle.dcd_base.specs.{Words.is_zero_tag, Words.zero_tag, declared.capacity.Extent.Extent, declared.capacity.Tag.Tag, declared.steps.Actor.Actor}
use Rattle.text_lines.specs.{Actors.SaysActor, Actors.actor_text, Actors.host_said, Actors.host_text, Extents.extent_said, Extents.extent_text, Extents.fits_64, Keywords.keyword_text}
use Rattle.text_lines.specs.{Numbers.number_said, Numbers.size_text, Pairs.pair_text, Pairs.pairs_said, Pairs.tag_said, Pairs.tag_text}
use Rattle.text_lines.specs.Policies.{add_policy_said, add_policy_text, release_flags, release_flags_text, release_policy_said, word_where}
use Rattle.text_lines.specs.{Sizes.sizes_said, Sizes.sizes_text, declared.actors.Frame.Frame, declared.keywords.Keyword.Keyword}

-- how a number is printed
pub data Form : Type 0 where
  Count Size : Form

-- A part of a line. Numbers have the most that their field has room for.
pub data Part : Type 0 where
  Fixed : List ℕ → Part  -- this very word
  Number : Form → ℕ → ℕ → Part  -- a number
  May : Keyword → Form → ℕ → ℕ → Part  -- a number behind its keyword; 0 may be left out
  Flag : Keyword → Bool → Part  -- a keyword that is there or not
  Handles : List ℕ → Part  -- handles behind their keyword; none may be left out
  Extents : ℕ → List Extent → Part  -- so many extents at most
  TagOf : Tag → Part  -- a tag
  MayTag : Tag → Part  -- a tag behind its keyword; none may be left out
  HostOf : ℕ → Part  -- a host that the manager speaks of
  ActorOf : Frame → Actor → ℕ → Part  -- an actor and its lane
  AddPolicy : ℕ → Part  -- the policy of an add
  ReleaseFlags : ℕ → Part  -- the flags of a release
  Pairs : List ℕ → Part  -- the bytes of a message
  Sizes : ℕ → Part  -- block sizes, as a mask

abbrev pub key : Keyword → Part
key k = Fixed (keyword_text k)

-- ---- which words say a part

-- The word says the number, which its field has room for.
pub record SaysNumber (most n : ℕ) (word : List ℕ) : Type 0 where
  pub said : number_said word ≡ Some n
  pub room : n ≤ most

-- The word says the extent, in numbers of 64 bits.
pub record SaysExtent (x : Extent) (word : List ℕ) : Type 0 where
  pub said : extent_said word ≡ Some x
  pub room : fits_64 x ≡ true

-- Each word says its item.
abbrev pub AllSay : {X : Type 0} → (X → List ℕ → Type 0) → List X → List (List ℕ) → Type 0
AllSay Says [] [] = Unit {0}
AllSay Says [] (w ∷ ws) = ⊥
AllSay Says (x ∷ xs) [] = ⊥
AllSay Says (x ∷ xs) (w ∷ ws) = Says x w × AllSay Says xs ws

-- There is one word, of which that holds.
abbrev pub OneWord : List (List ℕ) → (List ℕ → Type 0) → Type 0
OneWord words P = (word : List ℕ) × (words ≡ word ∷ []) × P word

-- A keyword and a word behind it, of which that holds.
abbrev pub Behind : Keyword → List (List ℕ) → (List ℕ → Type 0) → Type 0
Behind k words P = (word : List ℕ) × (words ≡ keyword_text k ∷ word ∷ []) × P word

-- Handles behind their keyword.
pub record TellsHandles (handles : List ℕ) (words : List (List ℕ)) : Type 0 where
  pub rest : List (List ℕ)
  pub words_are : words ≡ keyword_text Keyword.Handles ∷ rest
  pub some : 0 < length handles
  pub few : length handles ≤ 255
  pub each : AllSay (SaysNumber 65535) handles rest

-- A policy of a release by its name, and what is set.
pub record NamesRelease (flags : ℕ) (words : List (List ℕ)) : Type 0 where
  pub name : List ℕ
  pub policy : ℕ
  pub forced : Bool
  pub sanitize : Bool
  pub named : release_policy_said name ≡ Some policy
  pub words_are : words ≡ name ∷ (word_where forced (keyword_text Keyword.Forced) ++ word_where sanitize (keyword_text Keyword.Sanitize))
  pub flags_are : flags ≡ release_flags policy forced sanitize

-- Bytes as pairs of digits, in one word or several.
abbrev pub AreBytes : List ℕ → List (List ℕ) → Type 0
AreBytes bytes [] = bytes ≡ []
AreBytes bytes (w ∷ ws) = (front rest : List ℕ) × (bytes ≡ front ++ rest) × (pairs_said w ≡ Some front) × AreBytes rest ws

-- These words, and no others, say the part.
abbrev pub ReadsPart : List (List ℕ) → Part → Type 0
ReadsPart words (Fixed word) = words ≡ word ∷ []
ReadsPart words (Number form most n) = OneWord words (SaysNumber most n)
ReadsPart words (May k form most n) = ((words ≡ []) × (n ≡ 0)) ⊎ Behind k words (SaysNumber most n)
ReadsPart words (Flag k set) = ((words ≡ []) × (set ≡ false)) ⊎ ((words ≡ keyword_text k ∷ []) × (set ≡ true))
ReadsPart words (Handles handles) = ((words ≡ []) × (handles ≡ [])) ⊎ TellsHandles handles words
ReadsPart words (Extents most xs) = (length xs ≤ most) × AllSay SaysExtent xs words
ReadsPart words (TagOf tag) = OneWord words (λ word. tag_said word ≡ Some tag)
ReadsPart words (MayTag tag) = ((words ≡ []) × (tag ≡ zero_tag)) ⊎ Behind Keyword.Tag words (λ word. tag_said word ≡ Some tag)
ReadsPart words (HostOf host) = OneWord words (λ word. (host_said word ≡ Some host) × (host ≤ 65535))
ReadsPart words (ActorOf frame actor lane) = OneWord words (SaysActor frame actor lane)
ReadsPart words (AddPolicy policy) = OneWord words (λ word. add_policy_said word ≡ Some policy) ⊎ Behind Keyword.Policy words (SaysNumber 255 policy)
ReadsPart words (ReleaseFlags flags) = NamesRelease flags words ⊎ Behind Keyword.Flags words (SaysNumber 255 flags)
ReadsPart words (Pairs bytes) = (0 < length words) × (length bytes ≤ 65535) × AreBytes bytes words
ReadsPart words (Sizes mask) = OneWord words (λ word. sizes_said word ≡ Some mask)

-- The words are the parts, one after another, and then the rest.
abbrev pub Takes : List (List ℕ) → List Part → List (List ℕ) → Type 0
Takes words [] rest = words ≡ rest
Takes words (part ∷ parts) rest = (front behind : List (List ℕ)) × (words ≡ front ++ behind) × ReadsPart front part × Takes behind parts rest

-- The words are the parts, and no others.
pub record ReadsParts (words : List (List ℕ)) (parts : List Part) : Type 0 where
  pub all : Takes words parts []

-- ---- the words that are printed for a part

abbrev pub number_text : Form → ℕ → List ℕ
number_text Form.Count n = decimal n
number_text Form.Size n = size_text n

abbrev pub behind_key : Keyword → Bool → List ℕ → List (List ℕ)
behind_key k true word = []
behind_key k false word = keyword_text k ∷ word ∷ []

abbrev pub handle_words : List ℕ → List (List ℕ)
handle_words [] = []
handle_words (handle ∷ handles) = keyword_text Keyword.Handles ∷ map decimal (handle ∷ handles)

abbrev pub part_words : Part → List (List ℕ)
part_words (Fixed word) = word ∷ []
part_words (Number form most n) = number_text form n ∷ []
part_words (May k form most n) = behind_key k (n == 0) (number_text form n)
part_words (Flag k set) = if set then keyword_text k ∷ [] else []
part_words (Handles handles) = handle_words handles
part_words (Extents most xs) = map extent_text xs
part_words (TagOf tag) = tag_text tag ∷ []
part_words (MayTag tag) = behind_key Keyword.Tag (is_zero_tag tag) (tag_text tag)
part_words (HostOf host) = host_text host ∷ []
part_words (ActorOf frame actor lane) = actor_text frame.version actor lane ∷ []
part_words (AddPolicy policy) = add_policy_text policy
part_words (ReleaseFlags flags) = release_flags_text flags
part_words (Pairs bytes) = map pair_text bytes
part_words (Sizes mask) = sizes_text mask ∷ []

-- the words that are printed for a line
abbrev pub parts_words : List Part → List (List ℕ)
parts_words parts = flat_map part_words parts
