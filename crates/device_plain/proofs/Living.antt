-- A device that took steps one after another has lived as it told.
use Rattle.std.proofs.Common.{◌≡◌, List, [], ◌∷◌, ◌++◌, refl, sym, ap, subst, append-nil, map}
use Rattle.std.proofs.lemmas.List.{append_assoc}
use Rattle.journal_core.specs.declared.entries.Entry.{Entry}
use Rattle.control_core.specs.device_rules.specs.Legal.{right_answer}
use Rattle.device_plain.specs.Lives.{IsLife, Living, TakesSteps, ToldStep, step_told}

-- what it lived since then: the journal behind one that led to it, and what it tells
pub record HasLivedOn (before : List Entry) (told : List ToldStep) (d : Living) : Type 0 where
  pub later : List Entry
  pub tells : map step_told later ≡ told
  pub leads : IsLife (before ++ later) d

pub lived_on : (told : List ToldStep) (before : List Entry) (old now : Living) → IsLife before old → TakesSteps old told now → HasLivedOn before told now
lived_on [] before old now leads same = record {
  later = [];
  tells = refl;
  leads = subst (λ (d : Living). IsLife (before ++ []) d) same (subst (λ journal. IsLife journal old) (sym (append-nil before)) leads);
}
lived_on (t ∷ told) before old now leads (mid, step, later) =
    let e : Entry = record {
      pass = 0;
      line = 0;
      actor = t.actor;
      act = t.act;
      reply = t.reply;
      effects = (right_answer old.config before t.actor t.act).1;
      stamp = record { number = 0; count = 0 };
    } in
    let on = lived_on told (before ++ e ∷ []) mid now
    (step.led before leads e refl refl (record { allowed = step.allowed; reply = step.reply before leads; effects = refl })) later in
    record {
      later = e ∷ on.later;
      tells = ap (λ ts. t ∷ ts) on.tells;
      leads = subst (λ journal. IsLife journal now) (append_assoc before (e ∷ []) on.later) on.leads;
    }
