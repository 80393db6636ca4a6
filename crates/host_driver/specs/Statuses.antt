-- Which end each status is.
use Rattle.edge_io.specs.declared.ends.End.{End}
use Rattle.host_driver.specs.declared.status.DriveStatus.{DriveStatus}

abbrev pub drive_end : DriveStatus → End
drive_end DriveStatus.Done = End.Done
drive_end DriveStatus.Usage = End.Usage
drive_end (DriveStatus.ScriptRefused fault) = End.Refused
drive_end DriveStatus.NoMemory = End.NoMemory
drive_end DriveStatus.ReadFault = End.ReadFault
drive_end DriveStatus.WriteFault = End.WriteFault
drive_end DriveStatus.NoSuchHost = End.Refusal 7
