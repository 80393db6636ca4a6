-- How the commands of a host are read behind their names.
use Rattle.std.specs.Prelude.{ℕ, ◌-◌, ◌^◌, Result, Ok}
use Rattle.host_payloads.specs.declared.requests.HostRequest.{HostRequest}
use Rattle.text_lines.specs.{Chains.◌>>!◌ as ◌>>=◌, Fields.extents_ahead, Fields.flag_ahead, Fields.handles_ahead, Fields.may_ahead, Fields.named_ahead, Unread.UnreadWords}
use Rattle.text_lines.specs.declared.{commands.HostCommand.HostCommand, faults.TextFault.TextFault, forms.Clearing.Clearing, forms.Listing.Listing, forms.Page.Page, keywords.Keyword.Keyword}

-- a log, whether all records are meant, and handles
unfoldable pub clearing_ahead : UnreadWords → Result (Clearing × UnreadWords) TextFault
clearing_ahead u = do
  log ← named_ahead Keyword.Log 255 u
  let all = flag_ahead Keyword.All log.1 in (do
    handles ← handles_ahead all.1
    Ok (record { log = log.0; all = all.0; handles = handles.0 }, handles.1))

-- the first index and how many are wanted
unfoldable pub page_ahead : ℕ → UnreadWords → Result (Page × UnreadWords) TextFault
page_ahead most u = do
  first ← may_ahead Keyword.First most u
  count ← named_ahead Keyword.Count most first.1
  Ok (record { first = first.0; count = count.0 }, count.1)

-- whether more follows, and extents of 24 bytes each in one message
unfoldable pub listing_ahead : UnreadWords → Result (Listing × UnreadWords) TextFault
listing_ahead u =
    let more = flag_ahead Keyword.More u in (do
      extents ← extents_ahead 2729 more.1
      Ok (record { more = more.0; extents = extents.0 }, extents.1))

-- what a command of a host says
unfoldable pub host_request_ahead : HostCommand → UnreadWords → Result (HostRequest × UnreadWords) TextFault
host_request_ahead HostCommand.GetEventRecords u = do
  log ← named_ahead Keyword.Log 255 u
  Ok (HostRequest.GetEvents log.0, log.1)
host_request_ahead HostCommand.ClearEventRecords u = do
  clearing ← clearing_ahead u
  Ok (HostRequest.ClearEvents clearing.0.log clearing.0.all clearing.0.handles, clearing.1)
host_request_ahead HostCommand.GetConfiguration u = do
  page ← page_ahead 255 u
  Ok (HostRequest.GetConfiguration page.0.count page.0.first, page.1)
host_request_ahead HostCommand.GetExtentList u = do
  page ← page_ahead (2 ^ 32 - 1) u
  Ok (HostRequest.GetExtents page.0.count page.0.first, page.1)
host_request_ahead HostCommand.AddResponse u = do
  listing ← listing_ahead u
  Ok (HostRequest.AddResponse listing.0.more listing.0.extents, listing.1)
host_request_ahead HostCommand.Release u = do
  listing ← listing_ahead u
  Ok (HostRequest.GiveBack listing.0.more listing.0.extents, listing.1)
