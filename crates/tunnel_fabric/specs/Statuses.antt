-- Which end each status is.
use Rattle.edge_io.specs.declared.ends.End.{End}
use Rattle.tunnel_fabric.specs.declared.status.FabricStatus.{FabricStatus}

abbrev pub fabric_end : FabricStatus → End
fabric_end FabricStatus.Done = End.Done
fabric_end FabricStatus.Usage = End.Usage
fabric_end (FabricStatus.Refused fault) = End.Refused
fabric_end FabricStatus.NoMemory = End.NoMemory
fabric_end FabricStatus.ReadFault = End.ReadFault
fabric_end FabricStatus.WriteFault = End.WriteFault
