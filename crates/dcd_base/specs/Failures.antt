-- What a person reads of an access that is refused, as bytes of text.
use Rattle.std.specs.Prelude.{ℕ, List, codes}
use Rattle.dcd_base.specs.declared.failures.AccessFault.{AccessFault}

abbrev pub fault_words : AccessFault → List ℕ
fault_words AccessFault.Misaligned = codes "the address is no multiple of 8"
fault_words AccessFault.OutsideRegions = codes "no region of the host has the address"
fault_words AccessFault.NotGranted = codes "the host does not hold the granule"
