-- The rule that a request would break now, and its sentence.
use Rattle.std.specs.Prelude.{◌≡◌, ◌≢◌, ℕ, List, [], slice_index, Option, Some, None, Result, Ok, Err}
use Rattle.cci_codec.specs.{Messages.ReadsRequest, Messages.message_fault, declared.faults.MessageFault.MessageFault, declared.messages.Request.Request}
use Rattle.dcd_base.specs.declared.steps.Actor.{Actor}
use Rattle.dcd_codes.specs.{Rules.code_of, Rules.number_of, declared.rules.Rule.Rule}
use Rattle.region_config.specs.Configurations.{Configuration}
use Rattle.journal_core.specs.declared.acts.Act.{Act}
use Rattle.text_lines.specs.CauseWords.{cause_words}
use Rattle.device_plain.specs.{device_rules.specs.Answers.broken, Lives.ByEveryLife, Lives.Living}
use Rattle.dcd_c.specs.{Calls.actor_numbered, RuleNumbers.rule_number, RuleNumbers.rule_values, RuleNumbers.value_count, Words.PutsWords, declared.faults.Fault.Fault}
use Rattle.dcd_c.specs.declared.refusals.RefusalTold.{RefusalTold}

-- a rule as C sees it, or none
abbrev pub refusal_told : Option Rule → RefusalTold
refusal_told None = record { size = 40; rule = 0; code = 0; first = 0; second = 0; third = 0; values = 0; reserved = 0 }
refusal_told (Some rule) = let values = rule_values rule in record {
  size = 40;
  rule = rule_number rule;
  code = number_of (code_of rule);
  first = slice_index values 0;
  second = slice_index values 1;
  third = slice_index values 2;
  values = value_count rule;
  reserved = 0;
}

-- The request is the one that the bytes are, and by every journal that leads to the device this is the rule that it breaks first.
pub record IsBrokenBy (d : Living) (number : ℕ) (message : List ℕ) (rule : Option Rule) : Type 0 where
  pub actor : Actor
  pub request : Request
  pub named : actor_numbered d.config.hosts number ≡ Some actor
  pub reads : ReadsRequest message request
  pub broken : ByEveryLife d (λ life. rule ≡ broken d.config life actor (Act.Command request))

-- What asking for the rule of a message answers: it, or none, or why the bytes are no message of an actor.
abbrev pub AsksRule : ℕ → List ℕ → Living → Result (Option Rule) Fault → Type 0
AsksRule number message d (Ok rule) = IsBrokenBy d number message rule
AsksRule number message d (Err Fault.NoMemory) = Unit {0}
AsksRule number message d (Err Fault.NoActor) = actor_numbered d.config.hosts number ≡ None
AsksRule number message d (Err (Fault.Message fault)) = (fault ≢ MessageFault.NoMemory) × (message_fault message ≡ Some fault)
AsksRule number message d (Err fault) = ⊥

-- The same as C sees it.
abbrev pub AsksRefusal : ℕ → List ℕ → Living → Result RefusalTold Fault → Type 0
AsksRefusal number message d (Ok told) = (rule : Option Rule) × IsBrokenBy d number message rule × (told ≡ refusal_told rule)
AsksRefusal number message d (Err fault) = AsksRule number message d (Err fault)

-- the sentence of a rule, of no bytes where none is broken
abbrev pub refusal_words : Configuration → Option Rule → List ℕ
refusal_words c None = []
refusal_words c (Some rule) = cause_words c rule

-- What putting the sentence of a rule answers. It takes memory.
abbrev pub PutsSentence : Configuration → Option Rule → List ℕ → List ℕ → Result ℕ Fault → Type 0
PutsSentence c rule was is (Err Fault.NoMemory) = is ≡ was
PutsSentence c rule was is outcome = PutsWords (refusal_words c rule) was is outcome

-- What putting that of the rule that a message breaks answers.
abbrev pub PutsRule : ℕ → List ℕ → List ℕ → List ℕ → Living → Result ℕ Fault → Type 0
PutsRule number message was is d outcome = (rule : Option Rule) × IsBrokenBy d number message rule × PutsSentence d.config rule was is outcome

-- The same, or why there is none: then the room is as it was.
abbrev pub PutsRefusal : ℕ → List ℕ → List ℕ → List ℕ → Living → Result ℕ Fault → Type 0
PutsRefusal number message was is d (Ok n) = PutsRule number message was is d (Ok n)
PutsRefusal number message was is d (Err (Fault.NoRoom n)) = PutsRule number message was is d (Err (Fault.NoRoom n))
PutsRefusal number message was is d (Err fault) = (is ≡ was) × AsksRule number message d (Err fault)
