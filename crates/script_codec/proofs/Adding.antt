-- Fields that are put one after another.
use Rattle.std.proofs.Common.{◌≡◌, ℕ, suc, ◌+◌, ◌*◌, ◌<◌, ◌≤◌, arith, map, take, length, get_or, subst, List, [], ◌∷◌, ◌++◌, sym, ap, ◌∙◌, append-nil, append_assoc}
use Rattle.std.{specs.Prelude.flat_map, proofs.lemmas.List.take_more, proofs.lemmas.List.map-append, proofs.Math.Nat.mul-le-mul_right, proofs.Math.Nat.suc-mul, proofs.lemmas.Grind.flat_map-append}
use Rattle.cci_codec.specs.dcd_base.{specs.Layouts.Field, specs.Layouts.spell, specs.Layouts.spelling, proofs.Agreement.fits-append}
use Rattle.script_codec.specs.Writing.{AppendsLines}

pub appends_then : {old mid new : List ℕ} {fs gs : List Field} → AppendsLines old mid fs → AppendsLines mid new gs → AppendsLines old new (fs ++ gs)
appends_then {old} {mid} {new} {fs} {gs} a b = record {
  fits = fits-append fs gs a.fits b.fits;
  is = b.is ∙ ap (λ bytes. bytes ++ spelling gs) a.is ∙ append_assoc old (spelling fs) (spelling gs) ∙ ap (λ bytes. old ++ bytes) (sym (flat_map-append spell fs gs));
}

-- one more of a list
pub appends_item : {X : Type 0} (layout : X → List Field) (xs : List X) (i : ℕ) (d : X) (old mid new : List ℕ) → i < length xs → AppendsLines old mid (flat_map layout (take i xs)) → AppendsLines mid new (layout (get_or xs i d)) → AppendsLines old new (flat_map layout (take (i + 1) xs))
appends_item layout xs i d old mid new under a b =
    subst (λ fields. AppendsLines old new fields)
    (sym (ap (flat_map layout) (take_more xs i d under) ∙ flat_map-append layout (take i xs) (get_or xs i d ∷ []) ∙ ap (λ fs. flat_map layout (take i xs) ++ fs) (append-nil (layout (get_or xs i d)))))
    (appends_then a b)

pub appends_member : {X : Type 0} (field : X → Field) (xs : List X) (i j : ℕ) (d : X) (old mid new : List ℕ) → i < length xs → j ≡ i + 1 → AppendsLines old mid (map field (take i xs)) → AppendsLines mid new (field (get_or xs i d) ∷ []) → AppendsLines old new (map field (take j xs))
appends_member field xs i j d old mid new under next a b =
    subst (λ fields. AppendsLines old new fields)
    (sym (ap (λ k. map field (take k xs)) next ∙ ap (map field) (take_more xs i d under) ∙ map-append field (take i xs) (get_or xs i d ∷ [])))
    (appends_then a b)

-- the place of a host's region among the bases
pub within_seats : (h r hosts n : ℕ) → h < hosts → r < n → h * n + r < hosts * n
within_seats h r hosts n host region =
    let one : suc h ≤ hosts = omega (arith, host) in
    let rows : suc h * n ≤ hosts * n = mul-le-mul_right n one in
    let row : suc h * n ≡ h * n + n = suc-mul h n in
    omega (arith, region)
