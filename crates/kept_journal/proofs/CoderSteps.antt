-- What a coder writes, step by step.
use Rattle.std.proofs.Common.{◌≡◌, ℕ, ◌+◌, ◌*◌, ◌/◌, ◌%◌, ◌<◌, ◌≤◌, Bool, true, cond, List, [], ◌∷◌, ◌++◌, length, take, set, Some, None, refl, sym, ap, subst, ◌∙◌, arith, append_assoc, append-nil}
use Rattle.std.{specs.Int.w64, specs.Int.from_le_bytes, proofs.lemmas.Bool.le-ltb, proofs.lemmas.Bool.lt-ltb, proofs.lemmas.List.take_all}
use Rattle.dcd_base.proofs.Fields.{IsBytes}
use Rattle.kept_journal.{proofs.Slotting.with_slot-byte, specs.Coding.AddsBytes, specs.Coding.CodesTo, specs.Coding.IsFront, specs.Slots.slots_in, specs.Slots.with_byte, specs.Slots.with_slot}
use Rattle.kept_journal.specs.{Tokens.token_of, Tokens.tokens_in, declared.coding.Coder.Coder, declared.tokens.Token.Token}

-- ---- what bytes tell

place_read : (s : ℕ → ℕ) (place byte : ℕ) (bytes : List ℕ) (t : Bool) → t ≡ true → cond t (tokens_in s (Some place) (byte ∷ bytes)) (token_of place s ∷ tokens_in s None (byte ∷ bytes)) ≡ tokens_in (with_slot s (place / 8) (with_byte (s (place / 8)) (place % 8) byte)) None bytes
unfolding tokens_in
place_read s place byte bytes t e = ap (λ t. cond t (tokens_in s (Some place) (byte ∷ bytes)) (token_of place s ∷ tokens_in s None (byte ∷ bytes))) e

pub place_told : (s : ℕ → ℕ) (place byte : ℕ) (bytes : List ℕ) → place < 128 → tokens_in s None (place ∷ byte ∷ bytes) ≡ tokens_in (with_slot s (place / 8) (with_byte (s (place / 8)) (place % 8) byte)) None bytes
unfolding tokens_in
place_told s place byte bytes lt = place_read s place byte bytes _ (lt-ltb place 128 lt)

pub kind_ends : (s : ℕ → ℕ) (kind : ℕ) (bytes : List ℕ) → 128 ≤ kind → tokens_in s None (kind ∷ bytes) ≡ token_of kind s ∷ tokens_in s None bytes
unfolding tokens_in
kind_ends s kind bytes le = ap (λ t. cond t (tokens_in s (Some kind) bytes) (token_of kind s ∷ tokens_in s None bytes)) (le-ltb kind 128 le)

pub nothing_told : (s : ℕ → ℕ) → tokens_in s None [] ≡ []
unfolding tokens_in
nothing_told s = refl

pub place_alone : (s : ℕ → ℕ) (place : ℕ) → place < 128 → tokens_in s None (place ∷ []) ≡ []
unfolding tokens_in
place_alone s place lt = ap (λ t. cond t (tokens_in s (Some place) []) (token_of place s ∷ tokens_in s None [])) (lt-ltb place 128 lt)

-- ---- the front of the bytes

pub front_same : (a b : List ℕ) → b ≡ a → IsFront a b
front_same a b is = record { more = []; is = is ∙ sym (append-nil a) }

pub front_then : {a b c : List ℕ} → IsFront a b → IsFront b c → IsFront a c
front_then {a} {b} {c} p q = record {
  more = p.more ++ q.more;
  is = q.is ∙ ap (λ (z : List ℕ). z ++ q.more) p.is ∙ append_assoc a p.more q.more;
}

-- ---- steps of a coder

pub codes_none : (a : Coder) (s : ℕ → ℕ) → s ≡ slots_in a.slots → CodesTo a a s []
codes_none a s e = record {
  coded = λ ok. (ok, record { added = []; put = sym (append-nil a.bytes.items); told = λ more. ap (λ (z : ℕ → ℕ). tokens_in z None more) (sym e) });
  front = front_same a.bytes.items a.bytes.items refl;
}

pub codes_then : {a b c : Coder} {s : ℕ → ℕ} {xs ys : List Token} → CodesTo a b (slots_in b.slots) xs → CodesTo b c s ys → CodesTo a c s (xs ++ ys)
codes_then {a} {b} {c} {s} {xs} {ys} p q = record {
  coded = λ ok.
      let r = q.coded ok in
      let t = p.coded r.0 in (
        t.0,
        record {
          added = t.1.added ++ r.1.added;
          put = r.1.put ∙ ap (λ (z : List ℕ). z ++ r.1.added) t.1.put ∙ append_assoc a.bytes.items t.1.added r.1.added;
          told = λ more.
              ap (tokens_in (slots_in a.slots) None) (append_assoc t.1.added r.1.added more)
              ∙ t.1.told (r.1.added ++ more)
              ∙ ap (λ (z : List Token). xs ++ z) (r.1.told more)
              ∙ sym (append_assoc xs ys (tokens_in s None more));
        },
      );
  front = front_then p.front q.front;
}

-- nothing was written since then
pub codes_still : {a b c : Coder} {s : ℕ → ℕ} → CodesTo a b s [] → AddsBytes b c [] → CodesTo a c s []
codes_still {a} {b} {c} {s} before adds = record {
  coded = λ ok.
      let r = adds.appended ok in
      let t = before.coded r.0 in
      (t.0, record { added = t.1.added; put = r.1 ∙ append-nil b.bytes.items ∙ t.1.put; told = t.1.told });
  front = front_then before.front adds.front;
}

-- a byte of a slot, whose bytes so far are these
pub codes_byte : (a b c : Coder) (k place byte : ℕ) (bytes : List ℕ) → k < 16 → place < 8 → length bytes ≡ 8 → IsBytes bytes → CodesTo a b (with_slot (slots_in a.slots) k (from_le_bytes w64 bytes)) [] → AddsBytes b c ((8 * k + place) ∷ byte ∷ []) → CodesTo a c (with_slot (slots_in a.slots) k (from_le_bytes w64 (set bytes place byte))) []
codes_byte a b c k place byte bytes lt in_eight len small before adds = record {
  coded = λ ok.
      let r = adds.appended ok in
      let t = before.coded r.0 in
      let s = slots_in a.slots in
      let now : ℕ → ℕ = with_slot s k (from_le_bytes w64 bytes) in
      let slot : (8 * k + place) / 8 ≡ k = omega arith in
      let rest : (8 * k + place) % 8 ≡ place = omega arith in (
        t.0,
        record {
          added = t.1.added ++ (8 * k + place) ∷ byte ∷ [];
          put = r.1 ∙ ap (λ (z : List ℕ). z ++ (8 * k + place) ∷ byte ∷ []) t.1.put ∙ append_assoc a.bytes.items t.1.added _;
          told = λ more.
              ap (tokens_in s None) (append_assoc t.1.added ((8 * k + place) ∷ byte ∷ []) more)
              ∙ t.1.told ((8 * k + place) ∷ byte ∷ more)
              ∙ place_told now (8 * k + place) byte more (omega arith)
              ∙ ap (λ m. tokens_in (with_slot now m (with_byte (now m) ((8 * k + place) % 8) byte)) None more) slot
              ∙ ap (λ m. tokens_in (with_slot now k (with_byte (now k) m byte)) None more) rest
              ∙ ap (λ (z : ℕ → ℕ). tokens_in z None more) (with_slot-byte s k place byte bytes len small);
        },
      );
  front = front_then before.front adds.front;
}

-- a slot all of whose bytes are set
pub codes_number : (a b : Coder) (k n : ℕ) (bytes wanted : List ℕ) → length bytes ≡ 8 → length wanted ≡ 8 → take 8 bytes ≡ take 8 wanted → from_le_bytes w64 wanted ≡ n → CodesTo a b (with_slot (slots_in a.slots) k (from_le_bytes w64 bytes)) [] → CodesTo a b (with_slot (slots_in a.slots) k n) []
codes_number a b k n bytes wanted len len' same is before =
    let whole : bytes ≡ wanted = sym (take_all 8 bytes (omega arith)) ∙ same ∙ take_all 8 wanted (omega arith) in
    subst (λ m. CodesTo a b (with_slot (slots_in a.slots) k m) []) (ap (from_le_bytes w64) whole ∙ is) before

-- the end of a token
pub codes_end : (a b : Coder) (kind : ℕ) → 128 ≤ kind → AddsBytes a b (kind ∷ []) → CodesTo a b (slots_in b.slots) (token_of kind (slots_in a.slots) ∷ [])
codes_end a b kind le adds = record {
  coded = λ ok.
      let r = adds.appended ok in (
        r.0,
        record {
          added = kind ∷ [];
          put = r.1;
          told = λ more.
              kind_ends (slots_in a.slots) kind more le
              ∙ ap (λ (z : List ℕ). token_of kind (slots_in a.slots) ∷ tokens_in (slots_in z) None more) (sym adds.slots);
        },
      );
  front = adds.front;
}

-- the end of a token that these slots hold
pub codes_ended : {a b c : Coder} {slots : ℕ → ℕ} (kind : ℕ) (t : Token) → slots_in b.slots ≡ slots → token_of kind slots ≡ t → CodesTo a b (slots_in b.slots) [] → CodesTo b c (slots_in c.slots) (token_of kind (slots_in b.slots) ∷ []) → CodesTo a c (slots_in c.slots) (t ∷ [])
codes_ended {a} {b} {c} {slots} kind t holds is p q =
    subst (λ (u : Token). CodesTo a c (slots_in c.slots) (u ∷ [])) (ap (token_of kind) holds ∙ is) (codes_then p q)
