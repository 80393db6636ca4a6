-- A driver as contracts see it, and why it gives no request or takes no reply.
use Rattle.std.specs.Prelude.{ℕ, Bool, false, Option, Some, None, if◌then◌else◌}
use Rattle.dcd_base.specs.declared.ids.HostId.{HostId}
use Rattle.cci_codec.specs.declared.messages.Response.{Response}
use Rattle.host_driver.specs.{declared.faults.DriverFault.DriverFault, Driving.Driven, Driving.first_driven, Driving.gives, Driving.replied, Driving.reply_fault}

-- its host, the most bytes that it takes, whether a request is out, and what it keeps
pub record Standing : Type 0 where
  pub host : HostId
  pub most : ℕ
  pub out : Bool
  pub driven : Driven

abbrev pub first_standing : HostId → ℕ → Standing
first_standing h most = record { host = h; most = most; out = false; driven = first_driven }

abbrev pub next_fault : Standing → Option DriverFault
next_fault d = if d.out then Some (DriverFault.Outstanding (gives d.most d.driven).opcode) else None

abbrev pub took_fault : Standing → Response → Option DriverFault
took_fault d s = if d.out then reply_fault d.most d.driven s else Some DriverFault.NoRequest

-- the driver once it took the reply
abbrev pub taking : Standing → Response → Standing
taking d s = record d { out = false; driven = replied d.most d.driven s }
