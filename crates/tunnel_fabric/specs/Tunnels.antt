-- Messages to the tunnel: which device each reaches, the rule that it breaks, and the reply.
use Rattle.std.specs.Prelude.{ℕ, ◌==◌, not, nat_le, nat_lt, List, [], ◌∷◌, length, drop, Option, Some, None, if◌then◌else◌}
use Rattle.std.specs.Int.{w16}
use Rattle.dcd_base.specs.Layouts.{Field, Number, Raw, Reserved, number_at, spelling}
use Rattle.cci_codec.specs.{Messages.message_fault, Messages.request_in, Messages.response_bytes, declared.faults.MessageFault.MessageFault, declared.messages.Request.Request}
use Rattle.cci_codec.specs.declared.messages.Response.{Response}
use Rattle.dcd_codes.specs.{declared.codes.Code.Code, Rules.number_of}
use Rattle.tunnel_fabric.specs.declared.rules.TunnelRule.{TunnelRule}

-- Tunnel Management
abbrev pub tunnel_opcode : ℕ
tunnel_opcode = 0x5300

-- the device that a message names, and the bytes of the message for it
abbrev pub target_of : Request → ℕ
target_of outer = number_at w16 outer.payload 0

abbrev pub inner_bytes : Request → List ℕ
inner_bytes outer = drop 4 outer.payload

abbrev pub inner_of : Request → Request
inner_of outer = request_in (inner_bytes outer)

abbrev pub inner_rule : Option MessageFault → Option TunnelRule
inner_rule None = None
inner_rule (Some fault) = Some (TunnelRule.BadInner fault)

-- The first broken rule of a message to so many devices, in this order.
abbrev pub tunnel_rule : ℕ → Request → Option TunnelRule
tunnel_rule devices outer =
    if not (outer.opcode == tunnel_opcode) then Some (TunnelRule.NotTunnel outer.opcode)
    else if nat_lt (length outer.payload) 4 then Some (TunnelRule.TunnelLength 4 (length outer.payload))
    else if nat_le devices (target_of outer) then Some (TunnelRule.NoSuchDevice (target_of outer))
    else inner_rule (message_fault (inner_bytes outer))

-- the return code of a message that breaks a rule
abbrev pub tunnel_code : TunnelRule → Code
tunnel_code (TunnelRule.NotTunnel opcode) = Code.Unsupported
tunnel_code (TunnelRule.TunnelLength need have) = Code.InvalidPayloadLength
tunnel_code (TunnelRule.NoSuchDevice n) = Code.InvalidInput
tunnel_code (TunnelRule.BadInner fault) = Code.InvalidInput

-- ---- replies

-- the device, and the whole response of its
abbrev pub wrapped_fields : ℕ → Response → List Field
wrapped_fields device inner =
    Number w16 device ∷ Reserved 2 ∷ Raw (length (response_bytes inner)) (response_bytes inner) ∷ []

-- the reply to a message that breaks a rule: its code, and no payload
abbrev pub tunnel_refused : Request → TunnelRule → Response
tunnel_refused outer rule = record { tag = outer.tag; opcode = outer.opcode; code = number_of (tunnel_code rule); payload = [] }

-- the reply to one that reached a device: Success, whatever the device's own response says
abbrev pub tunnel_wrapped : Request → Response → Response
tunnel_wrapped outer inner =
    record { tag = outer.tag; opcode = outer.opcode; code = 0; payload = spelling (wrapped_fields (target_of outer) inner) }
