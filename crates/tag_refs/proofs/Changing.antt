-- No change touches the tag.
use Rattle.std.proofs.Common.{◌≡◌, refl}
use Rattle.tag_refs.specs.{Changes.entry_changed, declared.changes.Change.Change}
use Rattle.tag_refs.specs.declared.changes.Change.TheVariants.{Offer, Settle, Leave, Host, Refer, Soil}
use Rattle.tag_refs.specs.declared.entries.TagEntry.{TagEntry}

pub tag_stays : (change : Change) (e : TagEntry) → (entry_changed change e).tag ≡ e.tag
tag_stays (Offer h) e = refl
tag_stays (Settle h accepted) e = refl
tag_stays (Leave h) e = refl
tag_stays (Host h held offered) e = refl
tag_stays (Refer on) e = refl
tag_stays Soil e = refl
