-- How many bytes a script has.
use Rattle.std.proofs.Common.{◌≡◌, ℕ, ◌+◌, ◌*◌, ◌-◌, ◌^◌, ◌<◌, ◌≤◌, Bool, true, false, ◌==◌, nat_le, List, [], ◌∷◌, ◌++◌, length, map, min, refl, sym, ap, ◌∙◌, inl, inr, arith, length-append}
use Rattle.std.proofs.{Math.Nat.mul_assoc, lemmas.Bool.cases_Bool, lemmas.Bool.le-leb, lemmas.Bool.leb-false, lemmas.Bool.leb-true, lemmas.Grind.flat_map-append}
use Rattle.std.specs.{Int.w8, Int.w64, Prelude.flat_map}
use Rattle.dcd_base.specs.Layouts.{Field, Number, spell, spelling}
use Rattle.region_config.specs.declared.region_spec.RegionSpec.{RegionSpec}
use Rattle.text_lines.specs.script_codec.specs.{Scripts.lanes_fields, Scripts.line_fields, Scripts.region_fields, Scripts.script_head, Scripts.start_fields, Writing.script_bytes}
use Rattle.text_lines.specs.script_codec.specs.declared.scripts.Script.{Script}

joined_size : (fs gs : List Field) → length (spelling (fs ++ gs)) ≡ length (spelling fs) + length (spelling gs)
joined_size fs gs = ap length (flat_map-append spell fs gs) ∙ length-append (spelling fs) (spelling gs)

-- ---- the head
lanes_size : (version lanes : ℕ) → length (spelling (lanes_fields version lanes)) ≡ 6
lanes_size version lanes = elim (cases_Bool (version == 2)) [
  | inl e ↦ rw e refl
  | inr e ↦ rw e refl
]

start_size : (s : Script) → length (spelling (start_fields s)) ≡ 16
start_size s = omega (arith, lanes_size s.version s.lanes)

regions_size : (xs : List RegionSpec) → length (spelling (flat_map region_fields xs)) ≡ 40 * length xs
regions_size [] = refl
regions_size (x ∷ xs) = omega (arith, regions_size xs)

bases_size : (bases : List ℕ) → length (spelling (map (λ base. Number w64 base) bases)) ≡ 8 * length bases
bases_size [] = refl
bases_size (base ∷ bases) = omega (arith, bases_size bases)

head_size : (s : Script) (n : ℕ) → length s.config.bases ≡ n → length (spelling (script_head s)) ≡ 16 + 40 * length s.config.regions + 8 * n
head_size s n all =
    let first = joined_size (start_fields s ++ flat_map region_fields s.config.regions) (map (λ base. Number w64 base) s.config.bases) in
    let second = joined_size (start_fields s) (flat_map region_fields s.config.regions) in
    omega (arith, first, second, start_size s, regions_size s.config.regions, bases_size s.config.bases, all)

pub head_told : (s : Script) (regions hosts : ℕ) → regions ≡ length s.config.regions → hosts ≡ s.config.hosts → length s.config.bases ≡ s.config.hosts * length s.config.regions → 16 + 40 * regions + 8 * hosts * regions ≡ length (spelling (script_head s))
head_told s regions hosts r h all =
    let n = length s.config.regions in
    let times : 8 * s.config.hosts * n ≡ 8 * (s.config.hosts * n) = mul_assoc 8 s.config.hosts n in
    let size = head_size s (s.config.hosts * n) all in
    (λ i. 16 + 40 * r i + 8 * h i * r i) ∙ omega (arith, times, size)

-- ---- the lines

-- ---- the whole
whole_size : (s : Script) → length (script_bytes s) ≡ length (spelling (script_head s)) + length (spelling (flat_map line_fields s.lines)) + 1
unfolding script_bytes
whole_size s =
    let first = joined_size (script_head s ++ flat_map line_fields s.lines) (Number w8 0 ∷ []) in
    let second = joined_size (script_head s) (flat_map line_fields s.lines) in
    omega (arith, first, second)

same_test : (a b c d : ℕ) → (a ≤ b → c ≤ d) → (c ≤ d → a ≤ b) → nat_le a b ≡ nat_le c d
same_test a b c d to from = elim (cases_Bool (nat_le a b)) [
  | inl e ↦ e ∙ sym (le-leb c d (to (leb-true a b e)))
  | inr e ↦ e ∙ sym (other (nat_le c d) refl (leb-false a b e))
]
  where
    other : (test : Bool) → nat_le c d ≡ test → b < a → nat_le c d ≡ false
    other true f over = let under = from (leb-true c d f) in absurd (omega (arith, over, under))
    other false f over = f

-- the bytes of a script fit where those of its lines fit behind those of its head
pub script_fits : (s : Script) (head size : ℕ) → length (spelling (script_head s)) ≡ head → head < 2 ^ 16 → size ≡ min (length (spelling (flat_map line_fields s.lines))) 18446744073709551615 → nat_le size (16777215 - head) ≡ nat_le (length (script_bytes s)) 16777216
script_fits s head size first small is =
    let whole = whole_size s in
    same_test size (16777215 - head) (length (script_bytes s)) 16777216 (λ h. omega (arith, h, whole, first, small, is)) (λ h. omega (arith, h, whole, first, small, is))
