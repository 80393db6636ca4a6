-- The rule at the end.
use Rattle.std.proofs.Common.{◌≡◌, ℕ, suc, ◌≤◌, false, List, [], length, get_or, sym, refl, ap, ◌∙◌, subst, arith}
use mathlib.Core.Option.{some}
use lib.ListN.{get_elem?}
use Rattle.atomic_table.proofs.Lists.{at_map}
use Rattle.journal_core.specs.declared.entries.Entry.{Entry}
use Rattle.ruled_cells.{proofs.Places.at_same, specs.Booking.Fits, specs.Booking.Whole, specs.Resting.IsAtRest, specs.Resting.Accounts, specs.Ruling.Names, specs.Ruling.Ruled}
use Rattle.ruled_cells.specs.{Stamps.IsControlLog, Stamps.stamps_after, Stamps.pending, Telling.values, declared.about.About.About, declared.about.SeatView.SeatView}
use Rattle.ruled_cells.specs.declared.cell_value.CellValue.{CellValue, TheVariants.First, TheVariants.Rest}

module _ {F S : Type 0} (w : Names F S) (about : About) (first : F) (row : List S) (words : List ℕ) (views : List SeatView) (h : Whole w about words (values first row) views) (free : get_or words 0 0 ≡ 0) where
  r : Ruled w about h.log words (values first row) views
  r = h.ruled

  same : r.first ≡ first
  same = let e : ◌≡◌ {A = CellValue F S} (First r.first) (First first) = at_same (values first row) 0 (First r.first) (First first) r.chief refl in cc

  log_is : h.log ≡ w.journal first
  log_is = r.log_is ∙ (ap (stamps_after (w.journal r.first)) (r.at_rest free) ∙ ap w.journal same)

  pub rests : IsAtRest w about first row
  rests = record {
    about_is = ap w.about (sym same) ∙ r.about_is;
    sound = subst w.sound same r.sound;
    control = subst IsControlLog log_is r.control;
    actors = subst (λ (l : List Entry). (k : ℕ) (e : Entry) → get_elem? l k ≡ some e → get_elem? about.actors e.pass ≡ some e.actor) log_is r.actors;
    shard = λ i x e. let o = r.shard (suc i) x (at_map {B = CellValue F S} (λ (y : S). Rest y) row i x e) in record {
      config_is = o.config_is;
      own = o.own;
      rise = o.rise;
      tidy = o.tidy;
      low = subst (λ (l : List Entry). (w.clock x).number ≤ length l) log_is o.low;
      right = subst (w.right (suc i) x) log_is (o.steady (ap (λ q. pending w.touches q r.changed (suc i)) (r.at_rest free)));
    };
  }

  fits_is : (j : ℕ) (calls : List Entry) → Fits w h.log (values first row) j calls → Fits w (w.journal first) (values first row) j calls
  fits_is j calls f = subst (λ (l : List Entry). Fits w l (values first row) j calls) log_is f

  pub accounts_own : (id : ℕ) (v : SeatView) → get_elem? views id ≡ some v → v.spent ≡ false → Accounts w first row id v.calls
  accounts_own id v at used = let b = h.books.each id v at used in record { fits = fits_is id v.calls b.fits; rising = (v.seen, b.rising) }

  pub accounts_kept : (id : ℕ) (v : SeatView) → get_elem? views id ≡ some v → v.spent ≡ false → (k i : ℕ) (calls : List Entry) → get_elem? v.kept k ≡ some (i, calls) → Accounts w first row i calls
  accounts_kept id v at used k i calls e = let b = (h.books.each id v at used).kept k i calls e in record { fits = fits_is i calls b.fits; rising = b.rising }

  pub no_others : (seats : ℕ) → length views ≤ seats → (j : ℕ) → seats ≤ j → Fits w (w.journal first) (values first row) j []
  no_others seats few j le = fits_is j [] (h.books.later j (omega (arith, few, le)))
