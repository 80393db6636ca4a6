-- The names of the return codes, as bytes of text.
use Rattle.std.specs.Prelude.{ℕ, List, codes}
use Rattle.dcd_codes.specs.declared.codes.Code.{Code}

abbrev pub name_of : Code → List ℕ
name_of Code.Success = codes "Success"
name_of Code.InvalidInput = codes "Invalid Input"
name_of Code.Unsupported = codes "Unsupported"
name_of Code.RetryRequired = codes "Retry Required"
name_of Code.InvalidHandle = codes "Invalid Handle"
name_of Code.InvalidPhysicalAddress = codes "Invalid Physical Address"
name_of Code.InvalidPayloadLength = codes "Invalid Payload Length"
name_of Code.ResourcesExhausted = codes "Resources Exhausted"
name_of Code.InvalidExtentList = codes "Invalid Extent List"
