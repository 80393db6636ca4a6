-- A word writes a number just where the test says so.
use Rattle.std.proofs.Common.{◌≡◌, ℕ, true, ◌&&◌, leb, List, length, refl}
use Rattle.std.{proofs.lemmas.Bool.and_from, proofs.lemmas.Bool.and_parts, proofs.lemmas.Bool.le-leb, proofs.lemmas.Bool.leb-true, specs.List.list_all}
use Rattle.edge_io.specs.Words.{IsNumber, is_digit, is_number, number_in}

pub number_is : (most : ℕ) (digits : List ℕ) → is_number most digits ≡ true → IsNumber most digits (number_in digits)
number_is most digits good =
    let some = and_parts (leb 1 (length digits)) (leb (length digits) most && list_all is_digit digits) good in
    let few = and_parts (leb (length digits) most) (list_all is_digit digits) some.1 in
    record { some = leb-true 1 (length digits) some.0; few = leb-true (length digits) most few.0; each = few.1; value = refl }

pub is_a_number : (most : ℕ) (digits : List ℕ) (n : ℕ) → IsNumber most digits n → is_number most digits ≡ true
is_a_number most digits n is =
    and_from (leb 1 (length digits)) (leb (length digits) most && list_all is_digit digits) (le-leb 1 (length digits) is.some)
    (and_from (leb (length digits) most) (list_all is_digit digits) (le-leb (length digits) most is.few) is.each)
