-- How parts of a text make up the whole.
use Rattle.std.proofs.Common.{◌/◌, ◌%◌, slice_index, ◌≡◌, Bool, if◌then◌else◌, ℕ, zero, suc, ◌+◌, ◌≤◌, ◌<◌, List, [], ◌∷◌, ◌++◌, Option, Some, None, sym, ap, ◌∙◌, arith, take, length, flat_map, subst, refl}
use Rattle.std.proofs.lemmas.{Grind.flat_map-append, List.append_assoc, List.append-nil, List.flat_map_more, List.take_more, Option.get_or_from_slice_get}
use Rattle.std.specs.{List.enumerate_from, List.range_with_len, Prelude.slice_get, Prelude.IsFalse, Prelude.OnErr, Prelude.OnOk, declared.result.Result.Result}
use Rattle.std.specs.declared.result.Result.TheVariants.{Ok, Err}
use Rattle.dcd_base.proofs.Passing.{passes_start, passes_more, passes_then, risen_before}
use Rattle.dcd_base.specs.{Layouts.Field, Layouts.Raw, Layouts.spell, Layouts.spelling, Streams.HasRisen, Streams.Passes}
use Rattle.cci_codec.specs.{declared.messages.Response.Response, Messages.response_bytes, Messages.response_head_fields}
use Rattle.journal_core.specs.declared.entries.Entry.{Entry}
use Rattle.hex.specs.Hex.{encode_lower, encode_with, lower_digits}
use Rattle.report.specs.Printing.{with_bytes, Printed, Prints}

-- nothing was put
pub prints_nothing : (taken : Option (List ℕ)) (count : ℕ) (waits : Option (List ℕ)) → Prints taken count waits taken count waits []
prints_nothing taken count waits = record {
  onto = λ start faults text printed.
      subst (λ ys. Printed start faults taken count waits ys) (sym (append-nil text)) printed;
}

-- one part after another
pub prints_then : {t t' t'' : Option (List ℕ)} {n n' n'' : ℕ} {w w' w'' : Option (List ℕ)} {a b : List ℕ}
    → Prints t n w t' n' w' a → Prints t' n' w' t'' n'' w'' b → Prints t n w t'' n'' w'' (a ++ b)
prints_then {t} {t'} {t''} {n} {n'} {n''} {w} {w'} {w''} {a} {b} first next = record {
  onto = λ start faults text printed.
      subst (λ ys. Printed start faults t'' n'' w'' ys) (append_assoc text a b)
      (next.onto start faults (text ++ a) (first.onto start faults text printed));
}

-- the last part of what was put so far
pub prints_more : {t t' t'' : Option (List ℕ)} {n n' n'' : ℕ} {w w' w'' : Option (List ℕ)} {a b c : List ℕ}
    → Prints t n w t' n' w' a → Prints t' n' w' t'' n'' w'' b → c ≡ a ++ b → Prints t n w t'' n'' w'' c
prints_more {t} {t'} {t''} {n} {n'} {n''} {w} {w'} {w''} first next e =
    subst (λ ys. Prints t n w t'' n'' w'' ys) (sym e) (prints_then first next)

-- more bytes wait
printed_bytes : (start : Option (List ℕ)) (faults : ℕ) (taken : Option (List ℕ)) (count : ℕ) (waits : Option (List ℕ)) (text bytes : List ℕ)
    → Printed start faults taken count waits text → Printed start faults taken count (with_bytes bytes waits) (text ++ bytes)
printed_bytes start faults taken count None text bytes printed =
    (printed.0, record { risen = printed.1.risen; rest = printed.1.rest ++ bytes; took = passes_more bytes printed.1.took })
printed_bytes start faults taken count (Some waits) text bytes printed = (printed.0, passes_more bytes printed.1)

pub prints_waiting : (t : Option (List ℕ)) (n : ℕ) (w w' : Option (List ℕ)) (bytes : List ℕ) → w' ≡ with_bytes bytes w → Prints t n w t n w' bytes
prints_waiting t n w w' bytes e = record {
  onto = λ start faults text printed.
      subst (λ x. Printed start faults t n x (text ++ bytes)) (sym e) (printed_bytes start faults t n w text bytes printed);
}

-- the digits of bytes that follow on others
encode_with-append : (table xs ys : List ℕ) → encode_with table (xs ++ ys) ≡ encode_with table xs ++ encode_with table ys
unfolding encode_with
encode_with-append table [] ys = refl
encode_with-append table (x ∷ xs) ys =
    ap (λ digits. slice_index table (x / 16) ∷ slice_index table (x % 16) ∷ digits) (encode_with-append table xs ys)

pub encode_lower-append : (xs ys : List ℕ) → encode_lower (xs ++ ys) ≡ encode_lower xs ++ encode_lower ys
encode_lower-append xs ys = encode_with-append lower_digits xs ys

-- the digits of one more part of bytes
pub digits_more : {t t' t'' : Option (List ℕ)} {n n' n'' : ℕ} {w w' w'' : Option (List ℕ)} (done part : List ℕ)
    → Prints t n w t' n' w' (encode_lower done) → Prints t' n' w' t'' n'' w'' (encode_lower part) → Prints t n w t'' n'' w'' (encode_lower (done ++ part))
digits_more done part first next = prints_more first next (encode_lower-append done part)

-- a text of which a piece waits, and what is left of it once the sink took some of the piece
passes_piece : {start t t' : Option (List ℕ)} {piece text rest : List ℕ} → Passes start t piece text → Passes t t' rest piece
    → Passes start t' rest (text ++ [])
passes_piece {start} {t} {t'} {piece} {text} {rest} before now =
    subst (λ ys. Passes start t' rest ys) (sym (append-nil text))
    (passes_then now.sent rest (subst (λ ys. Passes start t ys text) now.parts before) now.took)

-- all that waited was taken
pub prints_sent : {t t' : Option (List ℕ)} {n n' : ℕ} {w w' : Option (List ℕ)} {piece : List ℕ}
    → w ≡ Some piece → w' ≡ Some [] → Passes t t' [] piece → n ≤ n' → Prints t n w t' n' w' []
prints_sent {t} {t'} {n} {n'} {w} {w'} {piece} e e' took le = record {
  onto = λ start faults text printed.
      let was = subst (λ x. Printed start faults t n x text) e printed in
      subst (λ x. Printed start faults t' n' x (text ++ [])) (sym e') (omega (arith, was.0, le), passes_piece was.1 took);
}

-- a write of what waited failed
pub prints_cut : {t t' : Option (List ℕ)} {n n' : ℕ} {w w' : Option (List ℕ)} {piece : List ℕ}
    → w ≡ Some piece → w' ≡ None → (rest : List ℕ) × Passes t t' rest piece → HasRisen n n' → n ≤ n' → Prints t n w t' n' w' []
prints_cut {t} {t'} {n} {n'} {w} {w'} {piece} e e' front risen le = record {
  onto = λ start faults text printed.
      let was = subst (λ x. Printed start faults t n x text) e printed in
      subst (λ x. Printed start faults t' n' x (text ++ [])) (sym e')
      (omega (arith, was.0, le), record { risen = risen_before was.0 risen; rest = front.0; took = passes_piece was.1 front.1 });
}

-- what waits in a printer whose writes did not fail
pub waits_are : {w : Option (List ℕ)} {piece waits : List ℕ} (failed : Bool) → IsFalse failed
    → (if failed then None else Some waits) ≡ w → piece ≡ waits → w ≡ Some piece
waits_are {w} {piece} {waits} failed off is e = sym is ∙ ap (λ b. if b then None else Some waits) off ∙ ap (λ ys. Some ys) (sym e)

-- ---- a whole text, between a printer in which nothing waits and the end

begun : (t : Option (List ℕ)) (n : ℕ) {w : Option (List ℕ)} → w ≡ Some [] → Printed t n t n w []
begun t n {w} e = subst (λ x. Printed t n t n x []) (sym e) (omega arith, passes_start t [])

ended : {t t' : Option (List ℕ)} {n n' : ℕ} {w w' : Option (List ℕ)} {text : List ℕ} → w ≡ Some [] → Prints t n w t' n' w' text → Printed t n t' n' w' text
ended {t} {t'} {n} {n'} {w} {w'} {text} e all = all.onto t n [] (begun t n e)

finished : {t t' t'' : Option (List ℕ)} {n n' n'' : ℕ} {w w' w'' : Option (List ℕ)} {text : List ℕ} → Prints t n w t' n' w' text
    → Prints t' n' w' t'' n'' w'' [] → Prints t n w t'' n'' w'' text
finished {text = text} first last = prints_more first last (sym (append-nil text))

count_of : (start : Option (List ℕ)) (faults : ℕ) (taken : Option (List ℕ)) (count : ℕ) (waits : Option (List ℕ)) (text : List ℕ)
    → Printed start faults taken count waits text → faults ≤ count
count_of start faults taken count None text printed = printed.0
count_of start faults taken count (Some waits) text printed = printed.0

-- all of it was taken
pub text_whole : {t t' : Option (List ℕ)} {n n' : ℕ} {w w' : Option (List ℕ)} {text : List ℕ} {A E : Type 0} (t'' : Option (List ℕ)) (n'' : ℕ) (r : Result A E)
    → w ≡ Some [] → Prints t n w t' n' w' text → OnOk r (Prints t' n' w' t'' n'' (Some []) []) → OnOk r (Passes t t'' [] text)
text_whole t'' n'' (Ok x) e first last = (ended e (finished first last)).1
text_whole t'' n'' (Err x) e first last = tt

-- a front of it was taken
pub text_front : {t t' : Option (List ℕ)} {n n' : ℕ} {w w' : Option (List ℕ)} {text : List ℕ} {A E : Type 0} (t'' : Option (List ℕ)) (n'' : ℕ) (r : Result A E)
    → w ≡ Some [] → Prints t n w t' n' w' text → OnErr r (Prints t' n' w' t'' n'' None []) → OnErr r ((rest : List ℕ) × Passes t t'' rest text)
text_front t'' n'' (Ok x) e first last = tt
text_front t'' n'' (Err x) e first last = let cut = (ended e (finished first last)).1 in (cut.rest, cut.took)

-- a fault was counted
pub text_failed : {t t' : Option (List ℕ)} {n n' : ℕ} {w w' : Option (List ℕ)} {text : List ℕ} {A E : Type 0} (t'' : Option (List ℕ)) (n'' : ℕ) (r : Result A E)
    → w ≡ Some [] → Prints t n w t' n' w' text → OnErr r (Prints t' n' w' t'' n'' None []) → OnErr r (HasRisen n n'')
text_failed t'' n'' (Ok x) e first last = tt
text_failed t'' n'' (Err x) e first last = (ended e (finished first last)).1.risen

-- no fault was taken back
pub text_counts : {t t' : Option (List ℕ)} {n n' : ℕ} {w w' : Option (List ℕ)} {text : List ℕ} {A E : Type 0} (t'' : Option (List ℕ)) (n'' : ℕ) (r : Result A E)
    → w ≡ Some [] → Prints t n w t' n' w' text → OnOk r (Prints t' n' w' t'' n'' (Some []) []) → OnErr r (Prints t' n' w' t'' n'' None []) → n ≤ n''
text_counts {t} {t'} {n} {n'} {w} {w'} {text} t'' n'' (Ok x) e first last cut = count_of t n t'' n'' (Some []) text (ended e (finished first last))
text_counts {t} {t'} {n} {n'} {w} {w'} {text} t'' n'' (Err x) e first last cut = count_of t n t'' n'' None text (ended e (finished first cut))

-- the same bytes, written otherwise
pub prints_as : {t t' : Option (List ℕ)} {n n' : ℕ} {w w' : Option (List ℕ)} {a b : List ℕ} → Prints t n w t' n' w' a → a ≡ b → Prints t n w t' n' w' b
prints_as {t} {t'} {n} {n'} {w} {w'} first e = subst (λ ys. Prints t n w t' n' w' ys) e first

-- one more member of a list of parts
pub prints_each : {t t' t'' : Option (List ℕ)} {n n' n'' : ℕ} {w w' w'' : Option (List ℕ)} {A : Type 0} (f : A → List ℕ) (xs : List A) (x : A) {ys : List A}
    → Prints t n w t' n' w' (flat_map f xs) → Prints t' n' w' t'' n'' w'' (f x) → ys ≡ xs ++ x ∷ [] → Prints t n w t'' n'' w'' (flat_map f ys)
prints_each {t} {t'} {t''} {n} {n'} {n''} {w} {w'} {w''} {A} f xs x {ys} first next e =
    prints_more first next (ap (flat_map f) e ∙ sym (flat_map_more f [] xs x))

-- the next number of a range
pub range_push : (n k : ℕ) → range_with_len n (k + 1) ≡ range_with_len n k ++ (n + k) ∷ []
range_push n zero = ap (λ k. k ∷ []) (omega arith)
range_push n (suc k) =
    let e : suc k + 1 ≡ suc (k + 1) = omega arith in
    ap (range_with_len n) e
    ∙ ap (λ xs. n ∷ xs) (range_push (n + 1) k ∙ ap (λ m. range_with_len (n + 1) k ++ m ∷ []) (omega arith))

pub hosts_push : (k : ℕ) → range_with_len 0 (k + 1) ≡ range_with_len 0 k ++ k ∷ []
hosts_push k = range_push 0 k ∙ ap (λ m. range_with_len 0 k ++ m ∷ []) (omega arith)

-- the next member of a list
pub take_got : {A : Type 0} (xs : List A) (i : ℕ) (x : A) → slice_get xs i ≡ Some x → i < length xs → take (i + 1) xs ≡ take i xs ++ x ∷ []
take_got xs i x e lt = take_more xs i x lt ∙ ap (λ y. take i xs ++ y ∷ []) (get_or_from_slice_get xs i x x e)

-- the next entry of a numbered list
pub enumerate_push : {A : Type 0} (n : ℕ) (xs : List A) (x : A) → enumerate_from n (xs ++ x ∷ []) ≡ enumerate_from n xs ++ (n + length xs, x) ∷ []
enumerate_push n [] x = ap (λ k. (k, x) ∷ []) (omega arith)
enumerate_push n (y ∷ xs) x =
    ap (λ zs. (n, y) ∷ zs) (enumerate_push (n + 1) xs x ∙ ap (λ k. enumerate_from (n + 1) xs ++ (k, x) ∷ []) (omega arith))

-- the digits of a response are those of its header and then those of its payload
pub response_digits : (s : Response) (head payload end : List ℕ) → head ≡ spelling (response_head_fields s.tag s.opcode s.code (length s.payload)) → payload ≡ s.payload
    → encode_lower head ++ (encode_lower payload ++ end) ≡ encode_lower (response_bytes s) ++ end
unfolding response_bytes
response_digits s head payload end e f =
    let front : List Field = response_head_fields s.tag s.opcode s.code (length s.payload) in
    sym (append_assoc (encode_lower head) (encode_lower payload) end)
    ∙ ap (λ ys. ys ++ end) (sym (encode_lower-append head payload))
    ∙ ap (λ bytes. encode_lower bytes ++ end) (ap (λ xs. xs ++ payload) e ∙ ap (λ ys. spelling front ++ ys) (f ∙ sym (append-nil s.payload))
    ∙ sym (flat_map-append spell front (Raw (length s.payload) s.payload ∷ [])))

-- one more entry behind those whose lines are put
pub entries_push : (done : List Entry) (e : Entry) → enumerate_from 1 (done ++ e ∷ []) ≡ enumerate_from 1 done ++ (length done + 1, e) ∷ []
entries_push done e = enumerate_push 1 done e ∙ ap (λ n. enumerate_from 1 done ++ (n, e) ∷ []) (omega arith)
