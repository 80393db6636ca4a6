-- How the commands of the manager are read behind their names.
use Rattle.std.specs.Prelude.{ℕ, ◌-◌, ◌^◌, Result, Ok}
use Rattle.fm_payloads.specs.declared.requests.FmRequest.{FmRequest}
use Rattle.text_lines.specs.{Actors.host_ahead, Chains.◌>>!◌ as ◌>>=◌, Fields.extents_ahead, Fields.flag_ahead, Fields.may_ahead, Fields.may_tag_ahead, Fields.named_ahead, Fields.tag_ahead}
use Rattle.text_lines.specs.{HostRequests.clearing_ahead, HostRequests.page_ahead, Policies.add_policy_ahead, Policies.release_flags_ahead, Unread.UnreadWords}
use Rattle.text_lines.specs.declared.{commands.ManagerCommand.ManagerCommand, faults.TextFault.TextFault, forms.Capacity.Capacity, forms.HostPage.HostPage, forms.Setting.Setting, forms.Spot.Spot}
use Rattle.text_lines.specs.declared.keywords.Keyword.{Keyword}

-- a host, the first index and how many are wanted
unfoldable pub host_page_ahead : ℕ → UnreadWords → Result (HostPage × UnreadWords) TextFault
host_page_ahead most u = do
  host ← host_ahead u
  page ← page_ahead most host.1
  Ok (record { host = host.0; page = page.0 }, page.1)

-- a region, its block size and whether it sanitizes
unfoldable pub setting_ahead : UnreadWords → Result (Setting × UnreadWords) TextFault
setting_ahead u = do
  region ← named_ahead Keyword.Region 255 u
  block ← named_ahead Keyword.Block (2 ^ 64 - 1) region.1
  let sanitize = flag_ahead Keyword.Sanitize block.1 in
      Ok (record { region = region.0; block = block.0; sanitize = sanitize.0 }, sanitize.1)

-- a host and a region
unfoldable pub spot_ahead : UnreadWords → Result (Spot × UnreadWords) TextFault
spot_ahead u = do
  host ← host_ahead u
  region ← named_ahead Keyword.Region 255 host.1
  Ok (record { host = host.0; region = region.0 }, region.1)

-- a length, a tag, and extents of 40 bytes each in one message
unfoldable pub capacity_ahead : UnreadWords → Result (Capacity × UnreadWords) TextFault
capacity_ahead u = do
  size ← may_ahead Keyword.Length (2 ^ 64 - 1) u
  tag ← may_tag_ahead size.1
  extents ← extents_ahead 1637 tag.1
  Ok (record { length = size.0; tag = tag.0; extents = extents.0 }, extents.1)

unfoldable pub add_ahead : UnreadWords → Result (FmRequest × UnreadWords) TextFault
add_ahead u = do
  spot ← spot_ahead u
  policy ← add_policy_ahead spot.1
  capacity ← capacity_ahead policy.1
  Ok (FmRequest.Add spot.0.host policy.0 spot.0.region capacity.0.length capacity.0.tag capacity.0.extents, capacity.1)

unfoldable pub remove_ahead : UnreadWords → Result (FmRequest × UnreadWords) TextFault
remove_ahead u = do
  spot ← spot_ahead u
  flags ← release_flags_ahead spot.1
  capacity ← capacity_ahead flags.1
  Ok (FmRequest.Remove spot.0.host flags.0 spot.0.region capacity.0.length capacity.0.tag capacity.0.extents, capacity.1)

-- what a command of the manager says
unfoldable pub manager_request_ahead : ManagerCommand → UnreadWords → Result (FmRequest × UnreadWords) TextFault
manager_request_ahead ManagerCommand.GetEventRecords u = do
  log ← named_ahead Keyword.Log 255 u
  Ok (FmRequest.GetEvents log.0, log.1)
manager_request_ahead ManagerCommand.ClearEventRecords u = do
  clearing ← clearing_ahead u
  Ok (FmRequest.ClearEvents clearing.0.log clearing.0.all clearing.0.handles, clearing.1)
manager_request_ahead ManagerCommand.GetInfo u = Ok (FmRequest.GetInfo, u)
manager_request_ahead ManagerCommand.GetRegionConfiguration u = do
  wanted ← host_page_ahead 255 u
  Ok (FmRequest.GetRegions wanted.0.host wanted.0.page.count wanted.0.page.first, wanted.1)
manager_request_ahead ManagerCommand.SetRegionConfiguration u = do
  setting ← setting_ahead u
  Ok (FmRequest.SetRegion setting.0.region setting.0.sanitize setting.0.block, setting.1)
manager_request_ahead ManagerCommand.GetRegionExtentLists u = do
  wanted ← host_page_ahead (2 ^ 32 - 1) u
  Ok (FmRequest.GetExtentLists wanted.0.host wanted.0.page.count wanted.0.page.first, wanted.1)
manager_request_ahead ManagerCommand.InitiateAdd u = add_ahead u
manager_request_ahead ManagerCommand.InitiateRelease u = remove_ahead u
manager_request_ahead ManagerCommand.AddReference u = do
  tag ← tag_ahead u
  Ok (FmRequest.AddReference tag.0, tag.1)
manager_request_ahead ManagerCommand.RemoveReference u = do
  tag ← tag_ahead u
  Ok (FmRequest.RemoveReference tag.0, tag.1)
manager_request_ahead ManagerCommand.ListTags u = do
  page ← page_ahead (2 ^ 32 - 1) u
  Ok (FmRequest.ListTags page.0.first page.0.count, page.1)
