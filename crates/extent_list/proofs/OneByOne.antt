-- The rules of an extent beside its owner and those before it, one by one.
use Rattle.std.proofs.Common.{◌≡◌, Bool, true, false, not, Option, Some, None, refl}
use Rattle.dcd_base.specs.Words.{◌or◌}
use Rattle.dcd_codes.specs.{declared.rules.Rule.Rule, Rules.◌breaks◌}

module _ (inside : Bool) (missing : Rule) (overlap part : Option Rule) where
  abbrev pub row : Option Rule
  row = not inside breaks missing or overlap or part

  pub row_missing : inside ≡ false → row ≡ Some missing
  row_missing none = rw none refl

  pub row_overlap : (rule : Rule) → inside ≡ true → overlap ≡ Some rule → row ≡ Some rule
  row_overlap rule in_one shares = rw (in_one, shares) refl

  pub row_part : inside ≡ true → overlap ≡ None → row ≡ part
  row_part in_one apart = rw (in_one, apart) refl
