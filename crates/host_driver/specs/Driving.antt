-- The driver of one host: what it keeps, what it asks next, and what a reply makes of it.
use Rattle.std.specs.Prelude.{ℕ, ◌+◌, Bool, false, ◌&&◌, ◌||◌, not, ◌==◌, nat_le, nat_lt, List, [], ◌∷◌, ◌++◌, length, map, take, fold, find, sum_by, Option, Some, None, if◌then◌else◌}
use Rattle.std.specs.Option.{is_some}
use Rattle.dcd_base.specs.{declared.capacity.Extent.Extent, Words.is_empty, Words.zero_tag, Layouts.spelling}
use Rattle.cci_codec.specs.declared.messages.{Request.Request, Response.Response}
use Rattle.event_records.specs.declared.events.{EventKind.EventKind, Event.Event}
use Rattle.extent_list.specs.ExtentLists.{cut, has_range}
use Rattle.host_payloads.specs.{declared.requests.HostRequest.HostRequest, HostPayloads.host_fields, HostPayloads.host_opcode}
use Rattle.host_driver.specs.{declared.due.Due.Due, declared.faults.DriverFault.DriverFault, Pages.events_in, Pages.page_fault}

-- The table of the host's extents; what offers and requests to release have gathered; which request is next, or is out;
-- of the page at hand the records that are still to be treated, and all its handles; and whether the last page had no
-- record.
pub record Driven : Type 0 where
  pub table : List Extent
  pub offered : List Extent
  pub asked : List Extent
  pub due : Due
  pub records : List Event
  pub handles : List ℕ
  pub idle : Bool

-- a driver that has asked nothing yet
abbrev pub first_driven : Driven
first_driven = record { table = []; offered = []; asked = []; due = Due.Page; records = []; handles = []; idle = false }

-- ---- what it asks next

-- how many extents it lists at most, and how many handles
abbrev pub most_listed : ℕ
most_listed = 64

abbrev pub most_handles : ℕ
most_handles = 255

-- the bytes of some extents together
abbrev pub bytes_of : List Extent → ℕ
bytes_of xs = sum_by (λ (x : Extent). x.length) xs

-- whether it takes what it is offered: not too many extents, and not too many bytes with those that it has
abbrev pub can_take : ℕ → Driven → Bool
can_take most d = nat_le (length d.offered) most_listed && nat_le (bytes_of d.table + bytes_of d.offered) most

-- the extents that it takes, all that are offered or none
abbrev pub taken_by : ℕ → Driven → List Extent
taken_by most d = if can_take most d then d.offered else []

-- the extents that it gives back, all that it is asked for or none
abbrev pub given_by : Driven → List Extent
given_by d = if nat_le (length d.asked) most_listed then d.asked else []

-- an extent as it is listed: without tag and sequence
abbrev pub bare : Extent → Extent
bare x = record x { tag = zero_tag; sequence = 0 }

-- what is asked: the next page of log 4, or that the records of the page be cleared, the first 255 where there are more;
-- or an offer is answered, or a request to release
abbrev pub asked_by : ℕ → Driven → Due → HostRequest
asked_by most d Due.Page = HostRequest.GetEvents 4
asked_by most d Due.Clear = HostRequest.ClearEvents 4 false (take most_handles d.handles)
asked_by most d Due.Response = HostRequest.AddResponse false (map bare (taken_by most d))
asked_by most d Due.Release = HostRequest.GiveBack false (map bare (given_by d))

-- a request as a message
abbrev pub driver_message : HostRequest → Request
driver_message q = record { tag = 0; opcode = host_opcode q; payload = spelling (host_fields q) }

-- the message that the driver sends next, or has sent and got no reply to
abbrev pub gives : ℕ → Driven → Request
gives most d = driver_message (asked_by most d d.due)

-- ---- what a record makes of it

-- The first extent of the table in which x lies gives way to what remains of it. Where x lies in none, the table stays;
-- so it does where what remains above would begin past the last address of 64 bits.
abbrev pub is_below_end : Extent → Extent → Bool
is_below_end x y = nat_lt (x.start + x.length) 18446744073709551616 || nat_le (y.start + y.length) 18446744073709551616

abbrev pub cut_within : List Extent → Extent → Option Extent → List Extent
cut_within table x None = table
cut_within table x (Some y) = if is_below_end x y then cut x.start x.length table else table

abbrev pub cut_out : List Extent → Extent → List Extent
cut_out table x = cut_within table x (find (has_range x.start x.length) table)

abbrev pub cut_all_out : List Extent → List Extent → List Extent
cut_all_out xs table = fold cut_out table xs

-- A record is gathered or cuts the table, by its kind.
abbrev pub noted : Driven → Extent → EventKind → Driven
noted d x EventKind.Add = record d { offered = d.offered ++ x ∷ [] }
noted d x EventKind.Release = record d { asked = d.asked ++ x ∷ [] }
noted d x EventKind.Forced = record d { table = cut_out d.table x }
noted d x other = d

-- what is due behind a record: an answer where it is the last of an offer, or of a request to release
abbrev pub answer_to : EventKind → Option Due
answer_to EventKind.Add = Some Due.Response
answer_to EventKind.Release = Some Due.Release
answer_to other = None

abbrev pub due_behind : Event → Option Due
due_behind e = if e.more then None else answer_to e.kind

-- what is due behind a page with these handles
abbrev pub behind_page : List ℕ → Due
behind_page [] = Due.Page
behind_page (handle ∷ handles) = Due.Clear

abbrev pub unless_due : Option Due → Driven → Driven → Driven
unless_due (Some due) now later = record now { due = due }
unless_due None now later = later

-- The records are treated in order, up to the first behind which an answer is due.
abbrev pub treated : Driven → List Event → Driven
treated d [] = record d { due = behind_page d.handles; records = [] }
treated d (e ∷ records) =
    let now = noted (record d { records = records }) e.extent e.kind in
    unless_due (due_behind e) now (treated now records)

abbrev pub gone_on : Driven → Driven
gone_on d = treated d d.records

-- a page is at hand
abbrev pub with_page : Driven → List Event → Driven
with_page d events = gone_on (record d { records = events; handles = map (λ (e : Event). e.handle) events; idle = is_empty events })

-- ---- what a reply makes of it

-- An offer that was answered: the table has what was taken.
abbrev pub offer_ended : ℕ → Driven → Driven
offer_ended most d = record d { table = d.table ++ taken_by most d; offered = [] }

-- A request to release that was answered: where the release is done, the table has lost what was given back.
abbrev pub request_ended : Bool → Driven → Driven
request_ended done d = record d { table = if done then cut_all_out (given_by d) d.table else d.table; asked = [] }

-- The reply to the request that is due, where it has no fault. Records that were cleared have no handle any more. A
-- response changes the table as the accepted list of the device, and so does a release whose code is Success.
abbrev pub answered_by : ℕ → Driven → Response → Due → Driven
answered_by most d s Due.Page = with_page d (events_in s.payload)
answered_by most d s Due.Clear = record d { due = Due.Page; handles = [] }
answered_by most d s Due.Response = gone_on (offer_ended most d)
answered_by most d s Due.Release = gone_on (request_ended (s.code == 0) d)

-- a code other than Success is a fault but for a release
abbrev pub is_refusal : Response → Bool
is_refusal s = not (s.code == 0) && not (s.opcode == 0x4803)

-- why the payload of the reply is not taken: a page is read
abbrev pub due_fault : List ℕ → Due → Option DriverFault
due_fault payload Due.Page = page_fault payload
due_fault payload other = None

-- why the reply is not taken, in this order
abbrev pub reply_fault : ℕ → Driven → Response → Option DriverFault
reply_fault most d s = let want = (gives most d).opcode in
    if not (s.opcode == want) then Some (DriverFault.OtherOpcode want s.opcode)
    else if is_refusal s then Some (DriverFault.Refused s.opcode s.code)
    else due_fault s.payload d.due

-- the driver after a reply; one that is not taken changes nothing
abbrev pub replied : ℕ → Driven → Response → Driven
replied most d s = if is_some (reply_fault most d s) then d else answered_by most d s d.due

-- ---- after requests and their replies

-- The driver after a list of requests with their replies. The requests are those that it gave.
abbrev pub driven : ℕ → List (Request × Response) → Driven
driven most pairs = fold (λ d (pair : Request × Response). replied most d pair.1) first_driven pairs
