-- What a writer holds, where a write takes none of it.
use Rattle.std.proofs.{Common.ℕ, Common.take, Common.List, Common.Option, Common.Some, Common.None, Common.◌∙◌, lemmas.List.append-nil}
use Rattle.std.specs.Io.KnownBytes.{Appends, Keeps}

-- To take no byte of a piece is to keep what there was.
pub none_appended : (old now new : Option (List ℕ)) (piece : List ℕ) → Keeps old now → Appends now new (take 0 piece) → Keeps old new
none_appended None now new piece kept appended = tt
none_appended (Some held) None new piece kept appended = absurd kept
none_appended (Some held) (Some same) None piece kept appended = absurd appended
none_appended (Some held) (Some same) (Some after) piece kept appended = appended ∙ append-nil same ∙ kept
