-- The bytes of a slot, told one after another.
use Rattle.std.proofs.Common.{◌≡◌, ◌≢◌, ℕ, zero, suc, ◌+◌, ◌-◌, ◌*◌, ◌^◌, ◌<◌, ◌≤◌, List, [], ◌∷◌, ◌++◌, length, get_or, take, set, refl, sym, ap, subst, ◌∙◌, arith}
use Rattle.std.proofs.lemmas.{List.get_or-set_other, List.get_or-set_same, List.length-set, List.take-set, List.take_more, Nat.from_le_bytes-to_le_bytes_8}
use Rattle.std.specs.Int.{w64, from_le_bytes, to_le_bytes}
use Rattle.dcd_base.proofs.Fields.{IsBytes}
use Rattle.kept_journal.proofs.{CoderSteps.codes_byte, CoderSteps.codes_none, CoderSteps.codes_number, Slotting.IsBytes-set, Slotting.bytes_small, Slotting.with_slot-same}
use Rattle.kept_journal.specs.{Coding.AddsBytes, Coding.CodesTo, Slots.slots_in, Slots.with_slot, declared.coding.Coder.Coder}

-- From coder a on the first bytes of slot k were told, whose bytes were the old ones and are to be the wanted ones.
pub record InChange (a b : Coder) (k i : ℕ) (old wanted : List ℕ) : Type 0 where
  pub bytes : List ℕ
  pub kept : b.slots ≡ a.slots
  pub wide : length b.slots ≡ 16
  pub eight : length bytes ≡ 8
  pub eight_wanted : length wanted ≡ 8
  pub small : IsBytes bytes
  pub small_wanted : IsBytes wanted
  pub same : take i bytes ≡ take i wanted
  pub rest : (j : ℕ) → i ≤ j → get_or bytes j 0 ≡ get_or old j 0
  pub coded : CodesTo a b (with_slot (slots_in a.slots) k (from_le_bytes w64 bytes)) []

pub change_starts : (a : Coder) (k n : ℕ) (old wanted : List ℕ) → length a.slots ≡ 16 → get_or a.slots k 0 < 2 ^ 64 → old ≡ to_le_bytes w64 (get_or a.slots k 0) → wanted ≡ to_le_bytes w64 n → InChange a a k 0 old wanted
change_starts a k n old wanted wide fits is is_wanted = record {
  bytes = old;
  kept = refl;
  wide = wide;
  eight = ap length is;
  eight_wanted = ap length is_wanted;
  small = rw is (bytes_small (get_or a.slots k 0));
  small_wanted = rw is_wanted (bytes_small n);
  same = refl;
  rest = λ j le. refl;
  coded = codes_none a _ (ap (λ (z : List ℕ). with_slot (slots_in a.slots) k (from_le_bytes w64 z)) is ∙ ap (λ m. with_slot (slots_in a.slots) k m) (from_le_bytes-to_le_bytes_8 _ fits) ∙ with_slot-same (slots_in a.slots) k);
}

-- the next byte is as it has to be
change_skips_one : {a b : Coder} {k i : ℕ} {old wanted : List ℕ} → InChange a b k i old wanted → i < 8 → get_or old i 0 ≡ get_or wanted i 0 → InChange a b k (suc i) old wanted
change_skips_one {a} {b} {k} {i} {old} {wanted} h lt same =
    let more : suc i ≡ i + 1 = omega arith in record {
      bytes = h.bytes;
      kept = h.kept;
      wide = h.wide;
      eight = h.eight;
      eight_wanted = h.eight_wanted;
      small = h.small;
      small_wanted = h.small_wanted;
      same =
          ap (λ m. take m h.bytes) more
          ∙ take_more h.bytes i 0 (omega (arith, h.eight))
          ∙ ap (λ (z : List ℕ). z ++ get_or h.bytes i 0 ∷ []) h.same
          ∙ ap (λ n. take i wanted ++ n ∷ []) (h.rest i (omega arith) ∙ same)
          ∙ sym (take_more wanted i 0 (omega (arith, h.eight_wanted)))
          ∙ ap (λ m. take m wanted) (sym more);
      rest = λ j le. h.rest j (omega arith);
      coded = h.coded;
    }

skips_so_many : {a b : Coder} {k : ℕ} {old wanted : List ℕ} (d i : ℕ) → InChange a b k i old wanted → i + d ≤ 8 → ((j : ℕ) → i ≤ j → j < i + d → get_or old j 0 ≡ get_or wanted j 0) → InChange a b k (i + d) old wanted
skips_so_many {a} {b} {k} {old} {wanted} zero i h le same =
    let e : i ≡ i + 0 = omega arith in subst (λ m. InChange a b k m old wanted) e h
skips_so_many {a} {b} {k} {old} {wanted} (suc d) i h le same =
    let e : suc i + d ≡ i + suc d = omega arith in
    subst (λ m. InChange a b k m old wanted) e
    (skips_so_many d (suc i) (change_skips_one h (omega arith) (same i (omega arith) (omega arith))) (omega arith) (λ j from below. same j (omega arith) (omega arith)))

-- the bytes up to a place are as they have to be
pub change_skips : {a b : Coder} {k i : ℕ} {old wanted : List ℕ} (n next : ℕ) → InChange a b k i old wanted → wanted ≡ to_le_bytes w64 n → i ≤ next → next ≤ 8 → ((j : ℕ) → i ≤ j → j < next → get_or old j 0 ≡ get_or (to_le_bytes w64 n) j 0) → InChange a b k next old wanted
change_skips {a} {b} {k} {i} {old} {wanted} n next h is from le same =
    let e : i + (next - i) ≡ next = omega arith in
    subst (λ m. InChange a b k m old wanted) e
    (skips_so_many (next - i) i h (omega arith) (λ j from below. same j from (omega arith) ∙ ap (λ (z : List ℕ). get_or z j 0) (sym is)))

pub change_tells : {a b c : Coder} {k i : ℕ} {old wanted : List ℕ} → InChange a b k i old wanted → k < 16 → i < 8 → AddsBytes b c ((8 * k + i) ∷ get_or wanted i 0 ∷ []) → InChange a c k (i + 1) old wanted
change_tells {a} {b} {c} {k} {i} {old} {wanted} h in_slots lt adds =
    let n = get_or wanted i 0 in
    let long : i < length h.bytes = omega (arith, h.eight) in
    let longer : i < length (set h.bytes i n) = omega (arith, length-set h.bytes i n, h.eight) in record {
      bytes = set h.bytes i n;
      kept = adds.slots ∙ h.kept;
      wide = ap length adds.slots ∙ h.wide;
      eight = length-set h.bytes i n ∙ h.eight;
      eight_wanted = h.eight_wanted;
      small = IsBytes-set h.bytes i n long (h.small_wanted i) h.small;
      small_wanted = h.small_wanted;
      same =
          take_more (set h.bytes i n) i 0 longer
          ∙ ap (λ (z : List ℕ). z ++ get_or (set h.bytes i n) i 0 ∷ []) (take-set h.bytes i n ∙ h.same)
          ∙ ap (λ m. take i wanted ++ m ∷ []) (get_or-set_same h.bytes i n 0 long)
          ∙ sym (take_more wanted i 0 (omega (arith, h.eight_wanted)));
      rest = λ j le. let apart : j ≢ i = λ e. omega (arith, e) in get_or-set_other h.bytes i j n 0 apart ∙ h.rest j (omega arith);
      coded = codes_byte a b c k i n h.bytes in_slots lt h.eight h.small h.coded adds;
    }

pub change_ends : {a b : Coder} {k i : ℕ} {old wanted : List ℕ} (n : ℕ) → InChange a b k i old wanted → i ≡ 8 → wanted ≡ to_le_bytes w64 n → n < 2 ^ 64 → CodesTo a b (with_slot (slots_in a.slots) k n) []
change_ends {a} {b} {k} {i} {old} {wanted} n h e is fits =
    codes_number a b k n h.bytes wanted h.eight h.eight_wanted
    (ap (λ m. take m h.bytes) (sym e) ∙ h.same ∙ ap (λ m. take m wanted) e)
    (ap (from_le_bytes w64) is ∙ from_le_bytes-to_le_bytes_8 n fits) h.coded
