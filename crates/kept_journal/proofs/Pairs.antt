-- What is next of two lists that rise, put in order as one.
use Rattle.std.proofs.Common.{◌≡◌, ◌+◌, Bool, true, false, cond, not, List, [], ◌∷◌, ◌++◌, drop, length, refl, sym, ap, ◌∙◌, length-append, arith}
use Rattle.std.proofs.lemmas.{Bool.Decides.nat_tests, List.Elements.All-append, List.Elements.All-cons, List.Elements.All-weaker, List.Sums.fold-append}
use Rattle.std.specs.Prelude.{IsFalse, Option}
use Rattle.dcd_base.specs.declared.steps.Stamp.{Stamp}
use Rattle.kept_journal.specs.{declared.both.Side.Side, Lending.IsNext, Lending.first_entry, Lending.first_stamp, Lending.goes_first}
use Rattle.journal_core.proofs.{Inserting.first_stays, Inserting.in_order_alone, Inserting.in_order_before_none, Inserting.insert_all, Merges.in_order-length, Merges.in_order-rising}
use Rattle.journal_core.proofs.Rising.{rising_drop, rising_head, rising_tail}
use Rattle.journal_core.specs.{Merging.Rising, Merging.in_order, Merging.insert_entry, Merging.is_later, declared.entries.Entry.Entry}

not_before : (x y z : Stamp) → is_later x y ≡ false → is_later y z ≡ false → is_later x z ≡ false
not_before x y z first second = grind (arith, nat_tests)

is_not : (b : Bool) → not b ≡ true → b ≡ false
is_not true e = cc
is_not false e = refl

is_so : (b : Bool) → not b ≡ false → b ≡ true
is_so true e = refl
is_so false e = cc

-- where no entry of the second list is earlier, the first of both is that of the first list
first_of_first : (x : Entry) (xs : List Entry) (y : Entry) (ys : List Entry) → Rising (x ∷ xs) → Rising (y ∷ ys) → is_later x.stamp y.stamp ≡ false →
    in_order (x ∷ xs ++ y ∷ ys) ≡ x ∷ in_order (xs ++ y ∷ ys)
first_of_first x xs y ys up up' apart =
    first_stays x [] (xs ++ y ∷ ys) (All-append (λ (z : Entry). IsFalse (is_later x.stamp z.stamp)) xs (y ∷ ys) (rising_head x xs up)
    (All-cons (λ (z : Entry). IsFalse (is_later x.stamp z.stamp)) y ys apart
    (All-weaker (λ (z : Entry). IsFalse (is_later y.stamp z.stamp)) (λ (z : Entry). IsFalse (is_later x.stamp z.stamp)) (λ z h. not_before x.stamp y.stamp z.stamp apart h) ys (rising_head y ys up'))))

-- where it is earlier, the first of both is that of the second list
first_of_second : (x : Entry) (xs : List Entry) (y : Entry) (ys : List Entry) → Rising (x ∷ xs) → Rising (y ∷ ys) → is_later x.stamp y.stamp ≡ true →
    in_order (x ∷ xs ++ y ∷ ys) ≡ y ∷ in_order (x ∷ xs ++ ys)
first_of_second x xs y ys up up' later =
    fold-append (λ journal e. insert_entry e journal) [] (x ∷ xs) (y ∷ ys)
    ∙ ap (λ j. insert_all (insert_entry y j) ys) (in_order_alone (x ∷ xs) up)
    ∙ ap (λ b. insert_all (cond b (y ∷ x ∷ xs) (x ∷ insert_entry y xs)) ys) later
    ∙ first_stays y (x ∷ xs) ys (rising_head y ys up')
    ∙ ap (λ j. y ∷ insert_all j ys) (sym (in_order_alone (x ∷ xs) up))
    ∙ ap (λ j. y ∷ j) (sym (fold-append (λ journal e. insert_entry e journal) [] (x ∷ xs) ys))

-- ---- what is next

-- The first of both is the first of these, and what is left of them is what is left of both.
pub record IsNextOf (both these : List Entry) (left : List Entry) : Type 0 where
  pub head : first_entry these ≡ first_entry both
  pub stamp : first_stamp these ≡ first_stamp both
  pub tail : left ≡ drop 1 both

pub next_of_first : (xs ys : List Entry) → Rising xs → Rising ys → goes_first (first_stamp xs) (first_stamp ys) ≡ true → IsNextOf (in_order (xs ++ ys)) xs (in_order (drop 1 xs ++ ys))
next_of_first xs [] up up' goes =
    let whole = in_order_before_none xs up in
    record {
      head = sym (ap first_entry whole);
      stamp = sym (ap first_stamp whole);
      tail = in_order_before_none (drop 1 xs) (rising_drop xs up) ∙ sym (ap (drop 1) whole);
    }
next_of_first [] (y ∷ ys) up up' goes = absurd (never goes)
  where
    never : false ≡ true → ⊥
    never e = cc
next_of_first (x ∷ xs) (y ∷ ys) up up' goes =
    let whole = first_of_first x xs y ys up up' (is_not (is_later x.stamp y.stamp) goes) in
    record {
      head = sym (ap first_entry whole);
      stamp = sym (ap first_stamp whole);
      tail = sym (ap (drop 1) whole);
    }

pub next_of_second : (xs ys : List Entry) → Rising xs → Rising ys → goes_first (first_stamp xs) (first_stamp ys) ≡ false → IsNextOf (in_order (xs ++ ys)) ys (in_order (xs ++ drop 1 ys))
next_of_second [] [] up up' goes = absurd (never goes)
  where
    never : true ≡ false → ⊥
    never e = cc
next_of_second (x ∷ xs) [] up up' goes = absurd (never goes)
  where
    never : true ≡ false → ⊥
    never e = cc
next_of_second [] (y ∷ ys) up up' goes =
    let whole = in_order_alone (y ∷ ys) up' in
    record {
      head = sym (ap first_entry whole);
      stamp = sym (ap first_stamp whole);
      tail = in_order_alone ys (rising_tail y ys up') ∙ sym (ap (drop 1) whole);
    }
next_of_second (x ∷ xs) (y ∷ ys) up up' goes =
    let whole = first_of_second x xs y ys up up' (is_so (is_later x.stamp y.stamp) goes) in
    record {
      head = sym (ap first_entry whole);
      stamp = sym (ap first_stamp whole);
      tail = sym (ap (drop 1) whole);
    }

-- ---- the same of two that lend

first_goes : (b : Bool) → cond b Side.First Side.Second ≡ Side.First → b ≡ true
first_goes true e = refl
first_goes false e = cc

second_goes : (b : Bool) → cond b Side.First Side.Second ≡ Side.Second → b ≡ false
second_goes true e = cc
second_goes false e = refl

module _ (xs ys : List Entry) (a b : Option Stamp) (s : Side) (known : IsNext xs ys a b s) where
  goes_is : (r : Bool) → goes_first a b ≡ r → goes_first (first_stamp xs) (first_stamp ys) ≡ r
  goes_is r is = sym (λ i. goes_first (known.next.first_is i) (known.next.second_is i)) ∙ is

  pub if_first : s ≡ Side.First → IsNextOf (in_order (xs ++ ys)) xs (in_order (drop 1 xs ++ ys))
  if_first is = next_of_first xs ys known.next.first_rises known.next.second_rises (goes_is true (first_goes (goes_first a b) (sym known.side_is ∙ is)))

  pub if_second : s ≡ Side.Second → IsNextOf (in_order (xs ++ ys)) ys (in_order (xs ++ drop 1 ys))
  if_second is = next_of_second xs ys known.next.first_rises known.next.second_rises (goes_is false (second_goes (goes_first a b) (sym known.side_is ∙ is)))

  pub stamp_of_first : s ≡ Side.First → a ≡ first_stamp (in_order (xs ++ ys))
  stamp_of_first is = known.next.first_is ∙ (if_first is).stamp

  pub stamp_of_second : s ≡ Side.Second → b ≡ first_stamp (in_order (xs ++ ys))
  stamp_of_second is = known.next.second_is ∙ (if_second is).stamp

  pub peek_first : s ≡ Side.First → (e : Option Entry) → e ≡ first_entry xs → e ≡ first_entry (in_order (xs ++ ys))
  peek_first is e e_is = e_is ∙ (if_first is).head

  pub peek_second : s ≡ Side.Second → (e : Option Entry) → e ≡ first_entry ys → e ≡ first_entry (in_order (xs ++ ys))
  peek_second is e e_is = e_is ∙ (if_second is).head

  pub skip_first : s ≡ Side.First → (left : List Entry) → left ≡ drop 1 xs → in_order (left ++ ys) ≡ drop 1 (in_order (xs ++ ys))
  skip_first is left left_is = ap (λ zs. in_order (zs ++ ys)) left_is ∙ (if_first is).tail

  pub skip_second : s ≡ Side.Second → (left : List Entry) → left ≡ drop 1 ys → in_order (xs ++ left) ≡ drop 1 (in_order (xs ++ ys))
  skip_second is left left_is = ap (λ zs. in_order (xs ++ zs)) left_is ∙ (if_second is).tail

pub length_of_both : (xs ys : List Entry) → length (in_order (xs ++ ys)) ≡ length xs + length ys
length_of_both xs ys = in_order-length (xs ++ ys) ∙ length-append xs ys

pub both_rise : (xs ys : List Entry) → Rising (in_order (xs ++ ys))
both_rise xs ys = in_order-rising (xs ++ ys)
