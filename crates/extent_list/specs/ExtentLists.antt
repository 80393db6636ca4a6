-- Lists of extents: what lies in them, what is cut out of them, and their tags.
use Rattle.std.specs.Prelude.{sum_by, length, position, ℕ, ◌+◌, ◌-◌, Bool, ◌&&◌, not, ◌==◌, nat_le, nat_lt, List, [], ◌∷◌, ◌++◌, fold, if◌then◌else◌, map, count_by, filter, find, unwrap_or, Option}
use Rattle.std.specs.List.{list_any}
use Rattle.dcd_base.specs.{declared.capacity.Extent.Extent, declared.capacity.Tag.Tag, Words.same_tag, Words.is_zero_tag, Words.distinct_tags}

-- whether these bytes from start on lie in the extent
abbrev pub has_range : ℕ → ℕ → Extent → Bool
has_range start bytes y = nat_le y.start start && nat_le (start + bytes) (y.start + y.length)

-- whether they share an address with it
abbrev pub shares_range : ℕ → ℕ → Extent → Bool
shares_range start bytes y = nat_lt start (y.start + y.length) && nat_lt y.start (start + bytes)

-- the index of the first extent in which they lie
abbrev pub holder_of : ℕ → ℕ → List Extent → Option ℕ
holder_of start bytes xs = position (has_range start bytes) xs

-- whether one extent lies in another
abbrev pub lies_in : Extent → Extent → Bool
lies_in x y = has_range x.start x.length y

-- whether the extent lies in one of those, and in which one
abbrev pub is_in : List Extent → Extent → Bool
is_in owners x = list_any (λ y. lies_in x y) owners

abbrev pub owner_of : List Extent → Extent → Extent
owner_of owners x = unwrap_or (find (λ y. lies_in x y) owners) x

-- the extent with the tag and the sequence of the one in which it lies
abbrev pub marked : List Extent → Extent → Extent
marked owners x = record x { tag = (owner_of owners x).tag; sequence = (owner_of owners x).sequence }

abbrev pub is_whole : List Extent → Extent → Bool
is_whole owners x = (x.start == (owner_of owners x).start) && (x.length == (owner_of owners x).length)

-- whether two extents share an address
abbrev pub overlaps : Extent → Extent → Bool
overlaps x y = shares_range x.start x.length y

-- an extent from one address up to another, unless nothing lies between
abbrev pub piece : Extent → ℕ → ℕ → List Extent
piece x from to = if nat_lt from to then record x { start = from; length = to - from } ∷ [] else []

-- what remains of x without the bytes from start on, the lower piece first
abbrev pub without : Extent → ℕ → ℕ → List Extent
without x start bytes = piece x x.start start ++ piece x (start + bytes) (x.start + x.length)

-- the first extent in which these bytes lie gives way to what remains of it
abbrev pub cut : ℕ → ℕ → List Extent → List Extent
cut start bytes [] = []
cut start bytes (x ∷ xs) = if has_range start bytes x then without x start bytes ++ xs else x ∷ cut start bytes xs

-- the accepted list without those extents
abbrev pub cut_all : List Extent → List Extent → List Extent
cut_all list accepted = fold (λ xs x. cut x.start x.length xs) accepted list

-- whether an extent has the tag
abbrev pub has_extent_of : Tag → List Extent → Bool
has_extent_of t xs = list_any (λ x. same_tag x.tag t) xs

abbrev pub count_of_tag : Tag → List Extent → ℕ
count_of_tag t xs = count_by (λ x. same_tag x.tag t) xs

abbrev pub tags_of : List Extent → List Tag
tags_of xs = distinct_tags (map (λ x. x.tag) xs)

abbrev pub real_tags : List Extent → List Tag
real_tags xs = filter (λ t. not (is_zero_tag t)) (tags_of xs)

-- how many extents stand in lists of them
abbrev pub count_in : List (List Extent) → ℕ
count_in offers = sum_by (λ (xs : List Extent). length xs) offers
