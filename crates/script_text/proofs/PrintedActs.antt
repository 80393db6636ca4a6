-- What is printed of an act and of a line says it.
use Rattle.std.proofs.Common.{◌≡◌, ℕ, List, [], ◌∷◌, ◌++◌, Some, None, refl, sym, ap, ◌∙◌, subst, inl, inr, arith}
use Rattle.cci_codec.specs.{Messages.ReadsRequest, Messages.request_bytes, declared.messages.Request.Request}
use Rattle.dcd_base.specs.declared.steps.Actor.{Actor}
use Rattle.fm_payloads.specs.{ManagerPayloads.manager_request, declared.requests.FmRequest.FmRequest}
use Rattle.host_payloads.specs.{HostPayloads.host_request, declared.requests.HostRequest.HostRequest}
use Rattle.text_lines.specs.{Characters.IsTextWord, Commands.host_command_text, Commands.manager_command_text}
use Rattle.text_lines.specs.Layouts.{command_line, host_form, host_named, host_request_parts, manager_form, manager_named, manager_request_parts, tag_part}
use Rattle.text_lines.specs.{Lines.host_message, Lines.manager_message, Parts.Part, Parts.ReadsParts, Parts.parts_words, Texts.IsWordLine, Words.line_text, declared.actors.Frame.Frame}
use Rattle.text_lines.specs.declared.commands.{HostCommand.HostCommand, ManagerCommand.ManagerCommand}
use Rattle.script_text.specs.LinePrinting.{AddsLine, PrintsHostCommand, PrintsManagerCommand}

-- ---- names of commands are words
pub host_command_word : (command : HostCommand) → IsTextWord (host_command_text command)
host_command_word HostCommand.GetEventRecords = (refl, omega arith)
host_command_word HostCommand.ClearEventRecords = (refl, omega arith)
host_command_word HostCommand.GetConfiguration = (refl, omega arith)
host_command_word HostCommand.GetExtentList = (refl, omega arith)
host_command_word HostCommand.AddResponse = (refl, omega arith)
host_command_word HostCommand.Release = (refl, omega arith)

pub manager_command_word : (command : ManagerCommand) → IsTextWord (manager_command_text command)
manager_command_word ManagerCommand.GetEventRecords = (refl, omega arith)
manager_command_word ManagerCommand.ClearEventRecords = (refl, omega arith)
manager_command_word ManagerCommand.GetInfo = (refl, omega arith)
manager_command_word ManagerCommand.GetRegionConfiguration = (refl, omega arith)
manager_command_word ManagerCommand.SetRegionConfiguration = (refl, omega arith)
manager_command_word ManagerCommand.GetRegionExtentLists = (refl, omega arith)
manager_command_word ManagerCommand.InitiateAdd = (refl, omega arith)
manager_command_word ManagerCommand.InitiateRelease = (refl, omega arith)
manager_command_word ManagerCommand.AddReference = (refl, omega arith)
manager_command_word ManagerCommand.RemoveReference = (refl, omega arith)
manager_command_word ManagerCommand.ListTags = (refl, omega arith)

-- ---- messages
pub host_named_printed : {old new : List ℕ} (frame : Frame) (actor : Actor) (lane : ℕ) (message : Request) (request : HostRequest)
    → host_named message.payload (host_request message.opcode message.payload) ≡ Some request → message ≡ host_message message.tag request
    → AddsLine old new (Part.ActorOf frame actor lane ∷ host_request_parts request ++ tag_part message.tag ∷ []) → PrintsHostCommand frame actor lane message old new
host_named_printed {old} {new} frame (Actor.Host h) lane message request named is a =
    let parts = ap (λ o. parts_words (host_form frame h lane message o)) (sym named) in
    record {
      is = a.is ∙ ap (λ ws. old ++ line_text ws) parts;
      says = inl (record { tag = message.tag; request = request; message_is = is; reads = subst (λ ws. ReadsParts ws (Part.ActorOf frame (Actor.Host h) lane ∷ host_request_parts request ++ tag_part message.tag ∷ [])) parts a.reads });
      words = subst IsWordLine parts a.words;
    }
host_named_printed frame Actor.Manager lane message request named is a = tt
host_named_printed frame Actor.Sanitizer lane message request named is a = tt

pub host_told_printed : {old new : List ℕ} (frame : Frame) (actor : Actor) (lane : ℕ) (message : Request) → host_named message.payload (host_request message.opcode message.payload) ≡ None → ReadsRequest (request_bytes message) message
    → AddsLine old new (command_line frame actor lane (request_bytes message)) → PrintsHostCommand frame actor lane message old new
host_told_printed {old} {new} frame (Actor.Host h) lane message unnamed reads a =
    let parts = ap (λ o. parts_words (host_form frame h lane message o)) (sym unnamed) in
    record {
      is = a.is ∙ ap (λ ws. old ++ line_text ws) parts;
      says = inr (record { bytes = request_bytes message; message_is = reads; reads = subst (λ ws. ReadsParts ws (command_line frame (Actor.Host h) lane (request_bytes message))) parts a.reads });
      words = subst IsWordLine parts a.words;
    }
host_told_printed frame Actor.Manager lane message unnamed reads a = tt
host_told_printed frame Actor.Sanitizer lane message unnamed reads a = tt

pub manager_named_printed : {old new : List ℕ} (frame : Frame) (actor : Actor) (lane : ℕ) (message : Request) (request : FmRequest)
    → manager_named message.payload (manager_request message.opcode message.payload) ≡ Some request → message ≡ manager_message message.tag request
    → AddsLine old new (Part.ActorOf frame actor lane ∷ manager_request_parts request ++ tag_part message.tag ∷ []) → PrintsManagerCommand frame actor lane message old new
manager_named_printed frame (Actor.Host h) lane message request named is a = tt
manager_named_printed {old} {new} frame Actor.Manager lane message request named is a =
    let parts = ap (λ o. parts_words (manager_form frame lane message o)) (sym named) in
    record {
      is = a.is ∙ ap (λ ws. old ++ line_text ws) parts;
      says = inl (record { tag = message.tag; request = request; message_is = is; reads = subst (λ ws. ReadsParts ws (Part.ActorOf frame Actor.Manager lane ∷ manager_request_parts request ++ tag_part message.tag ∷ [])) parts a.reads });
      words = subst IsWordLine parts a.words;
    }
manager_named_printed frame Actor.Sanitizer lane message request named is a = tt

pub manager_told_printed : {old new : List ℕ} (frame : Frame) (actor : Actor) (lane : ℕ) (message : Request) → manager_named message.payload (manager_request message.opcode message.payload) ≡ None → ReadsRequest (request_bytes message) message
    → AddsLine old new (command_line frame actor lane (request_bytes message)) → PrintsManagerCommand frame actor lane message old new
manager_told_printed frame (Actor.Host h) lane message unnamed reads a = tt
manager_told_printed {old} {new} frame Actor.Manager lane message unnamed reads a =
    let parts = ap (λ o. parts_words (manager_form frame lane message o)) (sym unnamed) in
    record {
      is = a.is ∙ ap (λ ws. old ++ line_text ws) parts;
      says = inr (record { bytes = request_bytes message; message_is = reads; reads = subst (λ ws. ReadsParts ws (command_line frame Actor.Manager lane (request_bytes message))) parts a.reads });
      words = subst IsWordLine parts a.words;
    }
manager_told_printed frame Actor.Sanitizer lane message unnamed reads a = tt
