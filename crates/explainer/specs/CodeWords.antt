-- Return codes in words.
use Rattle.std.specs.Prelude.{ℕ, ◌==◌, List, ◌++◌, Option, Some, None, if◌then◌else◌, codes}
use Rattle.dcd_codes.specs.{Names.name_of, Rules.number_of, declared.codes.Code.Code}
use Rattle.script_text.specs.text_lines.specs.Numbers.{hexadecimal}

-- the code of a number, where the device answers one of it
unfoldable pub code_numbered : ℕ → Option Code
code_numbered n =
    if n == number_of Code.Success then Some Code.Success
    else if n == number_of Code.InvalidInput then Some Code.InvalidInput
    else if n == number_of Code.Unsupported then Some Code.Unsupported
    else if n == number_of Code.RetryRequired then Some Code.RetryRequired
    else if n == number_of Code.InvalidHandle then Some Code.InvalidHandle
    else if n == number_of Code.InvalidPhysicalAddress then Some Code.InvalidPhysicalAddress
    else if n == number_of Code.InvalidPayloadLength then Some Code.InvalidPayloadLength
    else if n == number_of Code.ResourcesExhausted then Some Code.ResourcesExhausted
    else if n == number_of Code.InvalidExtentList then Some Code.InvalidExtentList
    else None

abbrev pub known_code_words : Option Code → ℕ → List ℕ
known_code_words (Some code) n = name_of code
known_code_words None n = codes "return code " ++ hexadecimal n

-- a return code by its name in the specification, or by its number where the device has none of it
abbrev pub return_code_words : ℕ → List ℕ
return_code_words n = known_code_words (code_numbered n) n
