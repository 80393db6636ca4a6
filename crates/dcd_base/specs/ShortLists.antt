-- What a short list has.
use Rattle.std.specs.Prelude.{List, []}
use Rattle.dcd_base.specs.declared.lists.Kept.{Kept}

-- its items in order
abbrev pub items_of : {T : Type 0} → Kept T → List T
items_of Kept.Nothing = []
items_of (Kept.One items) = items
items_of (Kept.Several items) = items
