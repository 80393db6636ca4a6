-- What is appended part by part: a region of a head, and the words of a fault.
use Rattle.std.proofs.{Common.◌≡◌, Common.ℕ, Common.List, Common.◌++◌, Common.◌%◌, Common.sym, Common.ap, Common.◌∙◌, lemmas.List.append_assoc}
use Rattle.std.specs.Prelude.{codes}
use Rattle.dcd_base.specs.Layouts.{u32_bytes, u64_bytes}
use Rattle.dcd_c.specs.{Opening.region_spelled, Texts.cause_text, Texts.place_words, Texts.region_words, declared.heads.RegionTold.RegionTold}

-- what stands behind a part stands behind what the part was appended to
behind : (mid out part rest : List ℕ) → mid ≡ out ++ part → mid ++ rest ≡ out ++ (part ++ rest)
behind mid out part rest is = ap (λ xs. xs ++ rest) is ∙ append_assoc out part rest

pub region_added : (r : RegionTold) (out o1 o2 o3 o4 o5 : List ℕ) → o1 ≡ out ++ u64_bytes r.decode_units → o2 ≡ o1 ++ u64_bytes r.length → o3 ≡ o2 ++ u64_bytes r.block → o4 ≡ o3 ++ u64_bytes r.sizes
    → o5 ≡ o4 ++ u32_bytes r.handle → o5 ++ u32_bytes (r.flags % 4) ≡ out ++ region_spelled r
unfolding region_spelled
region_added r out o1 o2 o3 o4 o5 e1 e2 e3 e4 e5 =
    let f = u32_bytes (r.flags % 4) in
    let e = u32_bytes r.handle in
    let d = u64_bytes r.sizes in
    let c = u64_bytes r.block in
    let b = u64_bytes r.length in
    behind o5 o4 e f e5 ∙ behind o4 o3 d (e ++ f) e4 ∙ behind o3 o2 c (d ++ e ++ f) e3 ∙ behind o2 o1 b (c ++ d ++ e ++ f) e2
    ∙ behind o1 out (u64_bytes r.decode_units) (b ++ c ++ d ++ e ++ f) e1

-- ---- the words of the causes 3 to 6

pub cause_3 : (n host region : ℕ) (out mid : List ℕ) → n ≡ 3 → mid ≡ out ++ region_words region
    → mid ++ codes "has a block that it does not support, or supports none or one that is not 2^6 to 2^40" ≡ out ++ cause_text n host region
unfolding cause_text
cause_3 n host region out mid is words = behind mid out (region_words region) _ words ∙ ap (λ k. out ++ cause_text k host region) (sym is)

pub cause_4 : (n host region : ℕ) (out mid : List ℕ) → n ≡ 4 → mid ≡ out ++ region_words region
    → mid ++ codes "has no whole number of its largest blocks, or more than it decodes" ≡ out ++ cause_text n host region
unfolding cause_text
cause_4 n host region out mid is words = behind mid out (region_words region) _ words ∙ ap (λ k. out ++ cause_text k host region) (sym is)

pub cause_5 : (n host region : ℕ) (out mid : List ℕ) → n ≡ 5 → mid ≡ out ++ place_words host region
    → mid ++ codes "begins below the end of the region before it" ≡ out ++ cause_text n host region
unfolding cause_text
cause_5 n host region out mid is words = behind mid out (place_words host region) _ words ∙ ap (λ k. out ++ cause_text k host region) (sym is)

pub cause_6 : (n host region : ℕ) (out : List ℕ) → n ≡ 6 → out ++ codes "there are more than 4096 granules" ≡ out ++ cause_text n host region
unfolding cause_text
cause_6 n host region out is = ap (λ k. out ++ cause_text k host region) (sym is)
