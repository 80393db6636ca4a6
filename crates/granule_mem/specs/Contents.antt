-- The words of a device's granules, and who holds each granule.
use Rattle.std.specs.Prelude.{◌≡◌, ◌==◌, ◌&&◌, ℕ, nat_le, nat_lt, List, [], if◌then◌else◌, slice_index, slice_index_or, unwrap_or}
use Rattle.std.specs.{BTreeMap.is_at, Map.lookup, Ordering.nat_cmp}
use Rattle.dcd_base.specs.{Words.has_granule, declared.media.Run.Run}

-- for each granule the words that were stored, by their numbers, and a bit for each host that holds it
pub record Media : Type 0 where
  pub words : List (List (ℕ × ℕ))
  pub holders : List ℕ

-- the word among those that were stored; one that was not is 0
abbrev pub word_among : List (ℕ × ℕ) → ℕ → ℕ
word_among stored w = unwrap_or (lookup (is_at (nat_cmp w)) stored) 0

-- word w of granule g, among the words that were stored in each granule
abbrev pub word_kept : List (List (ℕ × ℕ)) → ℕ → ℕ → ℕ
word_kept stored g w = word_among (slice_index_or stored g []) w

abbrev pub word_in : Media → ℕ → ℕ → ℕ
word_in m g w = word_kept m.words g w

-- the hosts that hold granule g: bit h is host h
abbrev pub holders_in : Media → ℕ → ℕ
holders_in m g = slice_index m.holders g

-- Nobody holds a granule, and each word is 0.
pub record IsFresh (m : Media) : Type 0 where
  pub zeroed : (g w : ℕ) → word_in m g w ≡ 0
  pub unheld : (g : ℕ) → holders_in m g ≡ 0

-- Each word is 0.
abbrev pub AreZero : List (List (ℕ × ℕ)) → Type 0
AreZero stored = (g w : ℕ) → word_kept stored g w ≡ 0

-- One word is this value, and each other word is what it was.
abbrev pub StoresWord : List (List (ℕ × ℕ)) → List (List (ℕ × ℕ)) → ℕ → ℕ → ℕ → Type 0
StoresWord old new granule word value =
    (g w : ℕ) → word_kept new g w ≡ (if (granule == g) && (word == w) then value else word_kept old g w)

abbrev pub Stores : Media → Media → ℕ → ℕ → ℕ → Type 0
Stores old new granule word value = StoresWord old.words new.words granule word value

-- Each word of the run is 0, and each other word is what it was.
abbrev pub ZeroesWords : List (List (ℕ × ℕ)) → List (List (ℕ × ℕ)) → Run → Type 0
ZeroesWords old new run = (g w : ℕ) → word_kept new g w ≡ (if has_granule run g then 0 else word_kept old g w)

abbrev pub Zeroes : Media → Media → Run → Type 0
Zeroes old new run = ZeroesWords old.words new.words run

-- Each granule of the run has these holders, and each other granule has those that it had.
abbrev pub SetsHolders : Media → Media → Run → ℕ → Type 0
SetsHolders old new run holders = (g : ℕ) → holders_in new g ≡ (if has_granule run g then holders else holders_in old g)

-- Each place from `first` to before `end` has these holders, and each other place has those that it had.
abbrev pub SetsHeld : List ℕ → List ℕ → ℕ → ℕ → ℕ → Type 0
SetsHeld old new first end holders =
    (g : ℕ) → slice_index new g ≡ (if nat_le first g && nat_lt g end then holders else slice_index old g)
