-- Stamps tell nothing: a journal without them is legal too, and the lines of its entries fix it.
use Rattle.std.proofs.Common.{◌≡◌, ℕ, ◌+◌, ◌-◌, List, [], ◌∷◌, ◌++◌, map, refl, sym, ap, subst, ◌∙◌}
use Rattle.std.{proofs.lemmas.List.map-append, proofs.lemmas.List.Concat.flat_map-cons, proofs.lemmas.List.Folds.fold-map, proofs.lemmas.Option.same_Some, specs.List.list_any}
use Rattle.std.specs.{Prelude.slice_get, Prelude.if◌then◌else◌, declared.result.Result.Result, declared.result.Result.TheVariants.Ok, declared.result.Result.TheVariants.Err}
use Rattle.dcd_base.specs.declared.{media.Place.Place, failures.AccessFault.AccessFault, ids.HostId.HostId, steps.Actor.Actor}
use Rattle.media_map.specs.Places.{locate}
use Rattle.journal_core.specs.{Holders.holds, declared.acts.Act.Act, declared.acts.Reply.Reply, declared.outcome.Effect.Effect, declared.entries.Entry.Entry, Entries.effects, Entries.EachFrom}
use Rattle.device_plain.specs.device_rules.specs.{Answers.answer, Hosts.changes_of, Hosts.moves, Legal.Legal, Legal.Meets, Legal.right_answer, Legal.word_of, Legal.word_after, Legal.access_at}
use Rattle.device_plain.specs.device_rules.proofs.Answered
use Rattle.region_config.specs.Configurations.{Configuration}
use Rattle.report.specs.script_codec.specs.{declared.script_line.Line.Line, declared.scripts.Script.Script, Covering.IsOfLine}
use Rattle.journal_check.{specs.Following.left_by_entry, specs.Following.without_line, specs.Following.FollowsPasses, proofs.CoveringOrders.in_pass as pass_in, proofs.Due.actor_of as actor_in}

abbrev pub unstamped : Entry → Entry
unstamped e = record e { stamp = record { number = 0; count = 0 } }

-- ---- the rules do not look at them
pub effects_same : (journal : List Entry) → effects (map unstamped journal) ≡ effects journal
effects_same [] = refl
effects_same (e ∷ journal) = flat_map-cons (λ (f : Entry). f.effects) (unstamped e) (map unstamped journal)
    ∙ ap (λ (rest : List Effect). e.effects ++ rest) (effects_same journal) ∙ sym (flat_map-cons (λ (f : Entry). f.effects) e journal)

word_same : (c : Configuration) (journal : List Entry) (g w : ℕ) → word_of c (map unstamped journal) g w ≡ word_of c journal g w
word_same c journal g w = fold-map (word_after c g w) unstamped 0 journal

access_same : (c : Configuration) (journal : List Entry) (h : HostId) (act : Act) (at : Result Place AccessFault)
    → access_at c (map unstamped journal) h act at ≡ access_at c journal h act at
access_same c journal h act (Err fault) = refl
access_same c journal h (Act.Load d) (Ok p) = λ i.
    if holds h p.granule (effects_same journal i) then Reply.Word (word_same c journal p.granule p.word i) else Reply.Refused AccessFault.NotGranted
access_same c journal h (Act.Store d value) (Ok p) = λ i.
    if holds h p.granule (effects_same journal i) then Reply.Stored else Reply.Refused AccessFault.NotGranted
access_same c journal h (Act.Command q) (Ok p) = λ i.
    if holds h p.granule (effects_same journal i) then Reply.Stored else Reply.Refused AccessFault.NotGranted
access_same c journal h (Act.Scrub n) (Ok p) = λ i.
    if holds h p.granule (effects_same journal i) then Reply.Stored else Reply.Refused AccessFault.NotGranted

changes_same : (journal : List Entry) (h : HostId) → changes_of h (map unstamped journal) ≡ changes_of h journal
changes_same journal h = fold-map (λ n (e : Entry). if list_any (moves h) e.effects then n + 1 else n) unstamped 0 journal

rules_same : (c : Configuration) (journal : List Entry) (actor : Actor) (act : Act) → answer c (map unstamped journal) actor act ≡ answer c journal actor act
rules_same c journal actor act = Answered.answer_same c (map unstamped journal) journal (effects_same journal) (changes_same journal) actor act

pub answer_same : (c : Configuration) (journal : List Entry) (actor : Actor) (act : Act) → right_answer c (map unstamped journal) actor act ≡ right_answer c journal actor act
answer_same c journal (Actor.Host h) (Act.Command q) = rules_same c journal (Actor.Host h) (Act.Command q)
answer_same c journal (Actor.Host h) (Act.Load d) = λ i. (access_same c journal h (Act.Load d) (locate c h d) i, [])
answer_same c journal (Actor.Host h) (Act.Store d value) = λ i. (access_same c journal h (Act.Store d value) (locate c h d) i, [])
answer_same c journal (Actor.Host h) (Act.Scrub n) = rules_same c journal (Actor.Host h) (Act.Scrub n)
answer_same c journal Actor.Manager act = rules_same c journal Actor.Manager act
answer_same c journal Actor.Sanitizer act = rules_same c journal Actor.Sanitizer act

meets_same : (c : Configuration) (before : List Entry) (e : Entry) → Meets c before e → Meets c (map unstamped before) (unstamped e)
meets_same c before e met = record {
  allowed = met.allowed;
  reply = met.reply ∙ ap (λ (a : Reply × List Effect). a.0) (sym (answer_same c before e.actor e.act));
  effects = met.effects ∙ ap (λ (a : Reply × List Effect). a.1) (sym (answer_same c before e.actor e.act));
}

each_unstamped : (c : Configuration) (before journal : List Entry) → EachFrom before (Meets c) journal → EachFrom (map unstamped before) (Meets c) (map unstamped journal)
each_unstamped c before [] all = tt
each_unstamped c before (e ∷ journal) all =
    (meets_same c before e all.0, subst (λ b. EachFrom b (Meets c) (map unstamped journal)) (map-append unstamped before (e ∷ [])) (each_unstamped c (before ++ e ∷ []) journal all.1))

pub legal_unstamped : (c : Configuration) (journal : List Entry) → Legal c journal → Legal c (map unstamped journal)
legal_unstamped c journal legal = each_unstamped c [] journal legal

-- ---- two journals of the same lines are the same but for their stamps
abbrev act_in : Act → Line → Act
act_in d (Line.Do actor lane act) = act
act_in d Line.Mark = d

-- two entries of one line that meet what the same entries ask
pub same_entry : (c : Configuration) (s : Script) (before : List Entry) (e f : Entry) → e.line ≡ f.line → IsOfLine s e → IsOfLine s f
    → Meets c before (unstamped e) → Meets c before (unstamped f) → unstamped e ≡ unstamped f
same_entry c s before e f same of its met meets =
    let line : Line.Do e.actor of.lane e.act ≡ Line.Do f.actor its.lane f.act =
    same_Some (Line.Do e.actor of.lane e.act) (Line.Do f.actor its.lane f.act) (sym of.line ∙ ap (λ n. slice_get s.lines (n - 1)) same ∙ its.line) in
    let actor : e.actor ≡ f.actor = ap (actor_in e.actor) line in
    let act : e.act ≡ f.act = ap (act_in e.act) line in
    let pass : e.pass ≡ f.pass = of.pass ∙ ap (pass_in s.config.hosts s.lanes) line ∙ sym its.pass in
    let answer : right_answer c before e.actor e.act ≡ right_answer c before f.actor f.act = λ i. right_answer c before (actor i) (act i) in
    let reply : e.reply ≡ f.reply = met.reply ∙ ap (λ (a : Reply × List Effect). a.0) answer ∙ sym meets.reply in
    let effects : e.effects ≡ f.effects = met.effects ∙ ap (λ (a : Reply × List Effect). a.1) answer ∙ sym meets.effects in
    λ i. record { pass = pass i; line = same i; actor = actor i; act = act i; reply = reply i; effects = effects i; stamp = record { number = 0; count = 0 } }

abbrev pub SameLines : List Entry → List Entry → Type 0
SameLines [] [] = Unit {0}
SameLines (e ∷ one) (f ∷ other) = (e.line ≡ f.line) × SameLines one other
SameLines [] (f ∷ other) = ⊥
SameLines (e ∷ one) [] = ⊥

same_from : (c : Configuration) (before one other : List Entry) (s : Script) → FollowsPasses s one → FollowsPasses s other
    → EachFrom before (Meets c) (map unstamped one) → EachFrom before (Meets c) (map unstamped other) → SameLines one other → map unstamped one ≡ map unstamped other
same_from c before [] [] s follows goes met meets same = refl
same_from c before [] (f ∷ other) s follows goes met meets same = absurd same
same_from c before (e ∷ one) [] s follows goes met meets same = absurd same
same_from c before (e ∷ one) (f ∷ other) s follows goes met meets same =
    let entry : unstamped e ≡ unstamped f = same_entry c s before e f same.0 follows.0.of_line goes.0.of_line met.0 meets.0 in
    let rest : FollowsPasses (left_by_entry e s) other = subst (λ n. FollowsPasses (record s { lines = without_line s.lines (n - 1) }) other) (sym same.0) goes.1 in
    let here : EachFrom (before ++ unstamped e ∷ []) (Meets c) (map unstamped other) =
    subst (λ x. EachFrom (before ++ x ∷ []) (Meets c) (map unstamped other)) (sym entry) meets.1 in
    λ i. entry i ∷ same_from c (before ++ unstamped e ∷ []) one other (left_by_entry e s) follows.1 rest met.1 here same.1 i

-- two legal journals that follow a script by the same lines
pub same_journal : (c : Configuration) (s : Script) (one other : List Entry) → Legal c one → Legal c other → FollowsPasses s one → FollowsPasses s other
    → SameLines one other → map unstamped one ≡ map unstamped other
same_journal c s one other legal lawful follows goes same =
    same_from c [] one other s follows goes (legal_unstamped c one legal) (legal_unstamped c other lawful) same
