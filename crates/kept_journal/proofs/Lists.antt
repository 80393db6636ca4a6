-- The first entry of a list and what is behind it.
use Rattle.std.proofs.Common.{◌≡◌, ◌+◌, ◌<◌, List, [], ◌∷◌, ◌++◌, drop, get_or, length, length-append, refl, sym, ap, subst, ◌∙◌, append_assoc, arith}
use Rattle.std.{proofs.Math.Seq.get_or-append_seam, specs.Prelude.All, specs.Prelude.Some, specs.Prelude.None}
use Rattle.journal_core.specs.declared.entries.Entry.{Entry}
use Rattle.kept_journal.specs.Lending.{first_entry, first_stamp}

pub no_stamp : (entries : List Entry) → length entries ≡ 0 → None ≡ first_stamp entries
no_stamp [] none = refl
no_stamp (e ∷ entries) none = absurd (omega (arith, none))

pub no_entry : (entries : List Entry) → length entries ≡ 0 → None ≡ first_entry entries
no_entry [] none = refl
no_entry (e ∷ entries) none = absurd (omega (arith, none))

pub none_left : (entries : List Entry) → length entries ≡ 0 → entries ≡ drop 1 entries
none_left [] none = refl
none_left (e ∷ entries) none = absurd (omega (arith, none))

-- ---- entries that are taken one after another

inner : (e f : Entry) → Some e ≡ Some f → e ≡ f
inner e f is = cc

-- what is next stands before what is left
pub next_and_left : (entries : List Entry) (e : Entry) → Some e ≡ first_entry entries → entries ≡ e ∷ drop 1 entries
next_and_left [] e is = absurd (never is)
  where
    never : Some e ≡ None → ⊥
    never x = cc
next_and_left (f ∷ entries) e is = ap (λ x. x ∷ entries) (sym (inner e f is))

pub nothing_left : (entries : List Entry) → None ≡ first_entry entries → entries ≡ []
nothing_left [] is = refl
nothing_left (e ∷ entries) is = absurd (never is)
  where
    never : None ≡ Some e → ⊥
    never x = cc

-- one more of them is done
pub one_more_done : (done entries left whole : List Entry) (e : Entry) → Some e ≡ first_entry entries → left ≡ drop 1 entries → done ++ entries ≡ whole → (done ++ e ∷ []) ++ left ≡ whole
one_more_done done entries left whole e is left_is so_far =
    append_assoc done (e ∷ []) left
    ∙ ap (λ l. done ++ e ∷ l) left_is
    ∙ ap (λ l. done ++ l) (sym (next_and_left entries e is))
    ∙ so_far

-- what all entries are, the next one is
pub next_has : (P : Entry → Type 0) (done entries whole : List Entry) (e : Entry) → Some e ≡ first_entry entries → done ++ entries ≡ whole → All P whole → P e
next_has P done entries whole e is parts all =
    let its : whole ≡ done ++ e ∷ drop 1 entries = sym parts ∙ ap (λ l. done ++ l) (next_and_left entries e is) in
    let under : length done < length whole = omega (arith, ap length its, length-append done (e ∷ drop 1 entries)) in
    subst P (ap (λ l. get_or l (length done) e) its ∙ get_or-append_seam done e (drop 1 entries) e) (all (length done) e under)
