-- What a removal by force does to a host's lists.
use Rattle.std.specs.Prelude.{List}
use Rattle.extent_list.specs.{dcd_codes.specs.dcd_base.specs.declared.capacity.Extent.Extent, ExtentLists.cut_all, HostLists.Lists, HostLists.next_generation}

-- the lists without extents that are taken out
abbrev pub lists_less : List Extent → Lists → Lists
lists_less extents old = record old { accepted = cut_all extents old.accepted; generation = next_generation old.generation }
