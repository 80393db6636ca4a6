-- How much a device keeps at most, and how much one message has.
use Rattle.std.specs.Prelude.{ℕ}

-- how many extents a host has, accepted and offered together
abbrev pub extents_supported : ℕ
extents_supported = 64

-- how many extents the list of one command has, over all its messages
abbrev pub extents_listed : ℕ
extents_listed = 64

-- how many tags the extents of a host have, accepted and offered together
abbrev pub tags_supported : ℕ
tags_supported = 32

-- how many records a reply to Get Event Records has
abbrev pub reply_records : ℕ
reply_records = 15

-- how many extents a reply with accepted extents has
abbrev pub page_extents : ℕ
page_extents = 50

-- how many tags a reply to List Tags has
abbrev pub page_tags : ℕ
page_tags = 84

-- how many records the log of a host holds
abbrev pub host_records : ℕ
host_records = 64

-- how many records the log of the Fabric Manager holds
abbrev pub manager_records : ℕ
manager_records = 128
