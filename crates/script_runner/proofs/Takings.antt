-- What a run has taken of its source.
use Rattle.std.proofs.Common.{◌≡◌, ℕ, List, [], Option, Some, None, refl, sym, ap, subst, ◌∙◌, inl, inr, arith}
use Rattle.std.{proofs.lemmas.Option.none-some, specs.Prelude.◌⊎◌, specs.Prelude.String}
use Rattle.dcd_base.specs.Streams.{IsAtEnd, with_front}
use Rattle.edge_io.specs.{ReadEnds.TakesAll, ReadEnds.TakesAtMost, Words.words_of}
use Rattle.edge_io.specs.Runs.{AsksToRead, EndsAs, IsRead, IsToWrite, IsWritten, Ran, ReadsFront, Seen, seen_of}
use Rattle.script_gen.specs.script_codec.specs.Reading.{most_bytes}
use Rattle.script_runner.{proofs.WordItems.one_choice, specs.Planning.IsAskedText, specs.Planning.IsTextOf, specs.Planning.most_for, specs.Planning.most_read, specs.Planning.runner}
use Rattle.script_runner.specs.{Statuses.OnDone, Statuses.status_end, Words.Accepts, Words.AskForSource, Words.IsChoice, declared.status.Status.Status, declared.words.Choice.Choice}
use Rattle.script_runner.specs.declared.words.Mode.{Mode}

still : (left : Option (List ℕ)) → left ≡ with_front [] left
still None = refl
still (Some all) = refl

takes_nothing : (left now : Option (List ℕ)) → now ≡ left → TakesAtMost most_read left now
takes_nothing left now same = record { bytes = []; few = omega arith; taken = still left ∙ ap (with_front []) (sym same) }

-- with a seed nothing is read
reads_none : (words : List (List ℕ)) (choice : Choice) (n : ℕ) → choice.seed ≡ Some n → Accepts words choice → (most : ℕ) → AsksToRead runner words most → ⊥
reads_none words choice n is asked most a =
    let same : a.task.seed ≡ Some n = ap (λ (c : Choice). c.seed) (one_choice words a.task choice a.asked asked) ∙ is in
    none-some most (subst (λ seed. most_for seed ≡ Some most) same a.most_is)

-- a script is not longer than is read
read_whole : (mode : Mode) (input printed : List ℕ) (left now : Option (List ℕ)) → TakesAll most_bytes left now input ⊎ ReadsFront most_bytes left now input → IsTextOf mode input printed → IsAtEnd now
read_whole mode input printed left now (inl all) t = all.end
read_whole mode input printed left now (inr more) t = absurd (omega (arith, more.long, t.reads.short))

module _ (words : List (List ℕ)) (seen : Seen) where
  -- ---- how a run ended says what its words ask for

  begun_by : (printed : List ℕ) → IsToWrite runner words seen printed → (found : Option Choice) × IsChoice words found
  begun_by printed (inl refused) = (None, refused.0)
  begun_by printed (inr planned) = (Some planned.1.task, planned.1.asked)

  asked_by : (status : Status) → EndsAs runner words seen (status_end status) status → (found : Option Choice) × IsChoice words found
  asked_by Status.Done e = (Some e.planned.task, e.planned.asked)
  asked_by Status.Usage e = (None, e.refused)
  asked_by (Status.ScriptRefused fault) e = (Some e.planned.task, e.planned.asked)
  asked_by Status.NoMemory e = (Some e.task, e.asked)
  asked_by Status.ReadFault e = (Some e.task, e.asked)
  asked_by Status.WriteFault e = begun_by e.printed e.planned

  -- ---- all of a script is read

  done_to_end : IsWritten runner words seen Status.Done → AskForSource words → IsAtEnd seen.left_now
  done_to_end w source =
      let choice : Choice = w.planned.task in
      let input : List ℕ = w.planned.input in
      let is : choice.seed ≡ None = ap (λ (c : Choice). c.seed) (one_choice words choice (record { mode = source.0; seed = None }) w.planned.asked source.1) in
      read_whole choice.mode input w.printed seen.left seen.left_now
      (subst (λ seed. IsRead (most_for seed) seen.left seen.left_now input) is w.planned.read)
      (subst (λ seed. IsAskedText choice.mode seed input w.printed) is w.planned.plan)

  at_the_end : (status : Status) → EndsAs runner words seen (status_end status) status → OnDone status (AskForSource words → IsAtEnd seen.left_now)
  at_the_end Status.Done e = done_to_end e
  at_the_end Status.Usage e = tt
  at_the_end (Status.ScriptRefused fault) e = tt
  at_the_end Status.NoMemory e = tt
  at_the_end Status.ReadFault e = tt
  at_the_end Status.WriteFault e = tt

module _ {Z S K : Type 0} (words : List (String Z)) (left : S → Option (List ℕ)) (reads : S → ℕ) (taken : K → Option (List ℕ)) (writes : K → ℕ)
    (source source' : S) (sink sink' : K) (status : Status) (ran : Ran runner words left reads taken writes source source' sink sink' status) where
  takes_by_seed : (choice : Choice) (seed : Option ℕ) → choice.seed ≡ seed → Accepts (words_of words) choice → TakesAtMost most_read (left source) (left source')
  takes_by_seed choice None is asked = ran.ends.taken most_bytes (record { task = choice; asked = asked; most_is = ap most_for is })
  takes_by_seed choice (Some n) is asked = takes_nothing (left source) (left source') (ap left (ran.untouched (reads_none (words_of words) choice n is asked)))

  takes_by : (found : Option Choice) → IsChoice (words_of words) found → TakesAtMost most_read (left source) (left source')
  takes_by None refused = takes_nothing (left source) (left source') (ap left (ran.untouched (λ most a. refused a.task a.asked)))
  takes_by (Some choice) asked = takes_by_seed choice choice.seed refl asked

  pub takes : TakesAtMost most_read (left source) (left source')
  takes =
      let asked : (found : Option Choice) × IsChoice (words_of words) found = asked_by (words_of words) (seen_of left reads taken writes source source' sink sink') status ran.ends.ends in
      takes_by asked.0 asked.1

  pub to_the_end : OnDone status (AskForSource (words_of words) → IsAtEnd (left source'))
  to_the_end = at_the_end (words_of words) (seen_of left reads taken writes source source' sink sink') status ran.ends.ends
