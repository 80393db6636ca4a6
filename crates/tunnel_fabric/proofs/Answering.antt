-- A command is answered by a short response.
use Rattle.std.proofs.Common.{◌≡◌, ℕ, List, [], true, Ok, Err, sym, ap, ◌∙◌, subst}
use Rattle.std.{specs.declared.result.Result.Result, specs.List.Contains, proofs.lemmas.List.Elements.All-contains, proofs.lemmas.List.Elements.Contains-push}
use Rattle.dcd_base.specs.declared.steps.Actor.{Actor}
use Rattle.dcd_codes.specs.declared.rules.Rule.{Rule}
use Rattle.cci_codec.specs.declared.messages.Request.{Request}
use Rattle.region_config.specs.Configurations.{Configuration}
use Rattle.journal_core.{specs.declared.acts.Act.Act, specs.declared.acts.Reply.Reply, specs.declared.entries.Entry.Entry, specs.Entries.fits, proofs.EachPlaces.Each-at}
use Rattle.fm_payloads.specs.ManagerPayloads.{manager_request}
use Rattle.device_plain.specs.{Devices.Enters, Devices.Plain, control_core.specs.Deciding.AreShort, control_core.specs.Deciding.IsShort}
use Rattle.device_plain.specs.device_rules.specs.{Answers.manager_result, Answers.reply_with, Legal.Legal, Legal.Meets, Legal.right_answer, Outcomes.Outcome}
use Rattle.tunnel_fabric.specs.Stepping.{AnswersCommand}

-- what answers a message is a response
short_answer : (q q' : Request) (r : Result Outcome Rule) → IsShort (reply_with q r) → AnswersCommand (Act.Command q') (reply_with q r)
short_answer q q' (Ok o) short = short
short_answer q q' (Err rule) short = short

right_is_short : (c : Configuration) (before : List Entry) (act : Act) → fits c.hosts Actor.Manager act ≡ true → IsShort (right_answer c before Actor.Manager act).0 → AnswersCommand act (right_answer c before Actor.Manager act).0
right_is_short c before (Act.Command q) fit short = short_answer q q (manager_result c before (manager_request q.opcode q.payload)) short
right_is_short c before (Act.Load d) fit short = tt
right_is_short c before (Act.Store d value) fit short = tt
right_is_short c before (Act.Scrub n) fit short = tt

pub answers_command : (old new : Plain) (pass line : ℕ) (act : Act) (reply : Reply) → Enters old new pass line Actor.Manager act reply → Legal new.config new.journal → AreShort new.journal → AnswersCommand act reply
answers_command old new pass line act reply enters legal short =
    let e = enters.entry in
    let meets : Meets new.config old.journal enters.entry = Each-at (Meets new.config) new.journal old.journal enters.entry [] enters.journal legal in
    let is : (right_answer new.config old.journal Actor.Manager act).0 ≡ reply =
    ap (λ a. (right_answer new.config old.journal Actor.Manager a).0) (sym enters.act) ∙ ap (λ a. (right_answer new.config old.journal a enters.entry.act).0) (sym enters.actor) ∙ sym meets.reply ∙ enters.reply in
    let fit : fits new.config.hosts Actor.Manager act ≡ true =
    ap (λ a. fits new.config.hosts Actor.Manager a) (sym enters.act) ∙ ap (λ a. fits new.config.hosts a enters.entry.act) (sym enters.actor) ∙ meets.allowed in
    let last : IsShort reply = subst IsShort enters.reply (All-contains (λ (x : Entry). IsShort x.reply) new.journal enters.entry short (subst (λ journal. Contains journal enters.entry) (sym enters.journal) (Contains-push old.journal enters.entry))) in
    subst (λ r. AnswersCommand act r) is (right_is_short new.config old.journal act fit (subst IsShort (sym is) last))
