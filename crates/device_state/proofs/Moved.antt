-- Of which hosts the effects of a step change what they have accepted, one effect more at a time.
use Rattle.std.proofs.Common.{◌≡◌, ℕ, ◌+◌, ◌<◌, Bool, true, false, ◌||◌, List, [], ◌∷◌, Option, Some, None, get_or, length, set, take, replicate, inl, inr, refl, sym, subst, ap, ◌∙◌, arith}
use Rattle.std.proofs.{Math.Bool.or-false, Math.Bool.or-true, lemmas.Bool.cases_eq, lemmas.Bool.eq-eqb, lemmas.Bool.ne_eqb}
use Rattle.std.proofs.lemmas.List.{get_or-replicate, get_or-set_other, get_or-set_same, length-replicate, length-set, Folds.list_any_more}
use Rattle.std.specs.{List.list_any, Prelude.◌==◌, Prelude.option_to_list}
use Rattle.cci_codec.specs.dcd_base.specs.declared.ids.HostId.{HostId}
use Rattle.device_rules.specs.Hosts.{moves}
use Rattle.journal_core.specs.declared.outcome.Effect.{Effect}
use Rattle.device_state.specs.Stages.{AreMoved}

pub none_moved : AreMoved [] (replicate 256 false)
none_moved = record {
  all = length-replicate 256 false;
  each = λ h below. get_or-replicate 256 h false false below;
}

one_any : (p : HostId → Bool) (k : HostId) → list_any p (k ∷ []) ≡ p k
one_any p k = or-false (p k)

module _ (es : List Effect) (marks : List Bool) (i : ℕ) (e : Effect) (below : i < length es) (is : e ≡ get_or es i e) (so_far : AreMoved (take i es) marks) where
  next : (h : HostId) (b : Bool) → moves h e ≡ b → list_any (moves h) (take (i + 1) es) ≡ (list_any (moves h) (take i es) || b)
  next h b moved = list_any_more (moves h) es i e below ∙ ap (λ m. list_any (moves h) (take i es) || m) (sym (ap (moves h) is) ∙ moved)

  pub still : ((h : HostId) → moves h e ≡ list_any (λ k. k == h) (option_to_list None)) → AreMoved (take (i + 1) es) marks
  still none = record {
    all = so_far.all;
    each = λ h known. so_far.each h known ∙ sym (next h false (none h) ∙ or-false (list_any (moves h) (take i es)));
  }

  pub one_moved : (k : HostId) → k < 256 → ((h : HostId) → moves h e ≡ list_any (λ m. m == h) (option_to_list (Some k))) → AreMoved (take (i + 1) es) (set marks k true)
  one_moved k is_host moved = record {
    all = length-set marks k true ∙ so_far.all;
    each = λ h known. elim (cases_eq k h) [
      | inl same ↦ subst (λ m. get_or (set marks k true) m false ≡ list_any (moves m) (take (i + 1) es)) same
          (get_or-set_same marks k true false (omega (arith, so_far.all, is_host))
          ∙ sym (next k true (moved k ∙ one_any (λ m. m == k) k ∙ eq-eqb k k refl) ∙ or-true (list_any (moves k) (take i es))))
      | inr other ↦ get_or-set_other marks k h true false (λ e. other (sym e)) ∙ so_far.each h known
          ∙ sym (next h false (moved h ∙ one_any (λ m. m == h) k ∙ ne_eqb k h other) ∙ or-false (list_any (moves h) (take i es)))
    ];
  }
