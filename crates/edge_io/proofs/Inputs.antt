-- What was read is the input of a task.
use Rattle.std.proofs.Common.{◌≡◌, ℕ, ◌<◌, List, Option, Some, None, Ok, Err, inl, inr, refl, sym, subst, ◌∙◌, length, arith}
use Rattle.std.specs.{Prelude.IfOk, Option.IfSome, declared.result.Result.Result}
use Rattle.dcd_base.specs.declared.failures.NoMemory.{NoMemory}
use Rattle.edge_io.{proofs.Fronts.all_is, proofs.Fronts.more_left, specs.Meanings.Decides, specs.Meanings.Meaning, specs.ReadEnds.Ends, specs.ReadEnds.TakesMore}
use Rattle.edge_io.specs.{Runs.IsRead, Runs.IsTold, Runs.ReadsFront, Settling.Settles, Settling.or_stop, declared.ends.Stop.Stop, declared.reading.ReadEnd.ReadEnd}

-- An input that is told is the one that was read.
pub told_is : (most : Option ℕ) (left now : Option (List ℕ)) (input told : List ℕ) → IsRead most left now input → IsTold most left told → told ≡ input
told_is None left now input told read is = is ∙ sym read
told_is (Some most) left now input told (inl t) is = sym (subst (λ l. IfSome l (λ all. input ≡ all)) is (all_is most left now input t))
told_is (Some most) left now input told (inr f) is = sym (subst (λ l. IfSome l (λ all. input ≡ all)) is f.all)

-- An input of which a front was read.
pub front_read : (most : ℕ) (left now : Option (List ℕ)) → TakesMore most left now → (input : List ℕ) × ReadsFront most left now input
front_read most None now t = (t.bytes, record { took = t; all = tt; long = omega (arith, t.one_more) })
front_read most (Some all) now t = (all, record { took = t; all = refl; long = more_left most (Some all) now t })

pub more_is : (most : ℕ) (left now : Option (List ℕ)) (reads count : ℕ) (end : ReadEnd) → end ≡ ReadEnd.TooLong → Ends most left now reads count (Err end) → TakesMore most left now
more_is most left now reads count end is ends = subst (λ x. Ends most left now reads count (Err x)) is ends

module _ {T E X : Type 0} (m : Meaning T E) (bytes : X → List ℕ) (task : T) (left now : Option (List ℕ)) (reads count : ℕ) where
  -- over an input that was read
  settles_over : (input : List ℕ) → IsRead (m.most task) left now input → (decided : Result (E × X) NoMemory) (result : Result (E × X) Stop) → result ≡ or_stop decided
      → IfOk decided (λ end. Decides m task input end.0 (bytes end.1)) → Settles m bytes task left now reads count result
  settles_over input read (Ok end) result is d = subst (Settles m bytes task left now reads count) (sym is) (input, read, d)
  settles_over input read (Err e) result is d = subst (Settles m bytes task left now reads count) (sym is) tt

  -- over one of which a front was read
  pub settles_long : (most : ℕ) → Some most ≡ m.most task → TakesMore most left now → (decided : Result (E × X) NoMemory) (result : Result (E × X) Stop) → result ≡ or_stop decided
      → IfOk decided (λ end. (input : List ℕ) (n : ℕ) → m.most task ≡ Some n → n < length input → Decides m task input end.0 (bytes end.1))
      → Settles m bytes task left now reads count result
  settles_long most is t (Ok end) result same d =
      let f = front_read most left now t in
      settles_over f.0 (subst (λ o. IsRead o left now f.0) is (inr f.1)) (Ok end) result same (d f.0 most (sym is) f.1.long)
  settles_long most is t (Err e) result same d = subst (Settles m bytes task left now reads count) (sym same) tt
