-- Small words that the other definitions share.
use Rattle.std.specs.Prelude.{if◌then◌else◌, Option, Some, None, Bool, ◌==◌, List, [], ◌∷◌, ℕ, ◌+◌, ◌++◌, fold, replicate, nat_lt, ◌&&◌, nat_le}
use Rattle.std.specs.List.{list_any}
use lib.Pointwise.{pointwise}
use Rattle.dcd_base.specs.declared.{capacity.Tag.Tag, media.Run.Run}

-- whether these are one tag
abbrev pub same_tag : Tag → Tag → Bool
same_tag a b = pointwise ◌==◌ a.0 b.0

-- whether the tag is among those
abbrev pub has_tag : List Tag → Tag → Bool
has_tag tags t = list_any (same_tag t) tags

-- The first of two that is there: a row of rules or of faults reads from left to right.
infixl 10 ◌or◌
abbrev pub ◌or◌ : {X : Type 0} → Option X → Option X → Option X
None or next = next
(Some x) or next = Some x

-- a rule or a fault that is looked for only where the test holds
abbrev pub where_true : {X : Type 0} → Bool → Option X → Option X
where_true test found = if test then found else None

abbrev pub is_empty : {X : Type 0} → List X → Bool
is_empty [] = Bool.true
is_empty (x ∷ xs) = Bool.false

-- sixteen zero bytes are no tag
abbrev pub zero_tag : Tag
zero_tag = record { 0 = replicate 16 0 }

abbrev pub is_zero_tag : Tag → Bool
is_zero_tag t = same_tag t zero_tag

-- each tag once, in the order of first appearance
abbrev pub distinct_tags : List Tag → List Tag
distinct_tags tags = fold (λ seen t. if has_tag seen t then seen else seen ++ t ∷ []) [] tags

-- whether the run has the granule
abbrev pub has_granule : Run → ℕ → Bool
has_granule run g = nat_le run.first g && nat_lt g (run.first + run.count)

abbrev pub has_in_runs : List Run → ℕ → Bool
has_in_runs runs g = list_any (λ run. has_granule run g) runs

-- a flag as a number
abbrev pub flag_of : Bool → ℕ
flag_of b = if b then 1 else 0
