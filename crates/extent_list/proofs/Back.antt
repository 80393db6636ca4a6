-- Whole extents that leave from the back of a list.
use Rattle.std.proofs.Common.{◌≡◌, ℕ, ◌+◌, ◌-◌, ◌<◌, false, inl, inr, List, [], ◌∷◌, ◌++◌, length, get_or, take, drop, ap, sym, ◌∙◌, arith, zero, suc}
use Rattle.std.proofs.lemmas.{Bool.cases_Bool, List.drop_more, List.get_or-take, List.length-take-le, List.take_more}
use Rattle.dcd_base.specs.declared.capacity.Extent.{Extent}
use Rattle.extent_list.{specs.Apart.StandApart, specs.ExtentLists.cut, specs.ExtentLists.cut_all, specs.ExtentLists.has_range, proofs.ApartLists.within, proofs.Front.cut-whole}

-- the last one goes, where none before it has the range
cut-last : (xs : List Extent) (x d : Extent) (start bytes : ℕ) → start ≡ x.start → bytes ≡ x.length → ((k : ℕ) → k < length xs → has_range start bytes (get_or xs k d) ≡ false)
    → cut start bytes (xs ++ x ∷ []) ≡ xs
cut-last [] x d start bytes from long none = cut-whole x [] start bytes from long
cut-last (y ∷ ys) x d start bytes from long none =
    rw (none zero (omega arith)) (ap (λ (zs : List Extent). y ∷ zs) (cut-last ys x d start bytes from long (λ k below. none (suc k) (omega (arith, below)))))

-- none before the last one has its range
none-before : (kept : List Extent) (n k : ℕ) (d : Extent) (start bytes : ℕ) → StandApart kept → n < length kept → k < n → 0 < bytes → start ≡ (get_or kept n d).start → bytes ≡ (get_or kept n d).length
    → has_range start bytes (get_or kept k d) ≡ false
none-before kept n k d start bytes apart known below some from long = elim (cases_Bool (has_range start bytes (get_or kept k d))) [
  | inr other ↦ other
  | inl also ↦
      let was = within start bytes (get_or kept k d) also in
      elim (apart k n d below known) [
        | inl under ↦ absurd (omega (arith, was.ends, under, some, from))
        | inr over ↦ absurd (omega (arith, was.begins, over, some, from, long))
      ]
]

-- one more goes from the back
pub cut_back : (leaving kept : List Extent) (i n : ℕ) (d : Extent) → StandApart kept → i < length leaving → n + 1 + i ≡ length kept → 0 < (get_or leaving i d).length
    → (get_or leaving i d).start ≡ (get_or kept n d).start → (get_or leaving i d).length ≡ (get_or kept n d).length
    → cut_all (drop i leaving) (take (length kept - i) kept) ≡ cut_all (drop (i + 1) leaving) (take (length kept - (i + 1)) kept)
cut_back leaving kept i n d apart in_leaving at some from long =
    let x = get_or leaving i d in
    let known : n < length kept = omega (arith, at) in
    let whole : length kept - i ≡ n + 1 = omega (arith, at) in
    let left : length kept - (i + 1) ≡ n = omega (arith, at) in
    let none : (k : ℕ) → k < length (take n kept) → has_range x.start x.length (get_or (take n kept) k d) ≡ false =
    λ k below. (let less : k < n = omega (arith, below, length-take-le n kept (omega (arith, known))) in
    rw (get_or-take n kept k d less) (none-before kept n k d x.start x.length apart known less some from long)) in
    ap (λ (xs : List Extent). cut_all xs (take (length kept - i) kept)) (drop_more leaving i d in_leaving)
    ∙ ap (λ (j : ℕ). cut_all (x ∷ drop (i + 1) leaving) (take j kept)) whole
    ∙ ap (λ (xs : List Extent). cut_all (x ∷ drop (i + 1) leaving) xs) (take_more kept n d known)
    ∙ ap (cut_all (drop (i + 1) leaving)) (cut-last (take n kept) (get_or kept n d) d x.start x.length from long none)
    ∙ ap (λ (j : ℕ). cut_all (drop (i + 1) leaving) (take j kept)) (sym left)
