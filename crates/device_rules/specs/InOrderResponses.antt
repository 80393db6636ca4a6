-- Responses that list extents of the host's oldest offer whole and in order.
use Rattle.std.specs.Prelude.{◌≡◌, ◌⊎◌, Bool, List, [], ◌∷◌, length, IsTrue, None}
use Rattle.std.specs.declared.result.Result.TheVariants.{Ok}
use Rattle.cci_codec.specs.{declared.messages.Request.Request, dcd_base.specs.declared.capacity.Extent.Extent, dcd_base.specs.declared.ids.HostId.HostId, dcd_base.specs.declared.steps.Actor.Actor}
use Rattle.extent_list.specs.{dcd_codes.specs.declared.codes.Code.Code, media_map.specs.region_config.specs.Configurations.Configuration, media_map.specs.region_config.specs.Granules.region_spec}
use Rattle.host_payloads.specs.{HostPayloads.host_request, declared.requests.HostRequest.HostRequest}
use Rattle.offer_core.specs.InOrder.{AreSome, SameAddresses}
use Rattle.journal_core.specs.declared.{acts.Act.Act, entries.Entry.Entry}
use Rattle.device_rules.specs.{Answers.host_rule, Answers.response, Legal.right_answer, Tags.region_of_offer, Views.View, Views.view_of}

-- The list has extents of the host's oldest offer whole, in order and each at most once, and nothing is held of earlier
-- responses. Where the offer's region is shareable, the list has all of them or none.
pub record ListsInOrder (c : Configuration) (h : HostId) (v : View) (list : List Extent) : Type 0 where
  pub offer : List Extent
  pub later : List (List Extent)
  pub oldest : v.offers ≡ offer ∷ later
  pub alone : v.responses ≡ []
  pub some : AreSome SameAddresses list offer
  pub shared : IsTrue (region_spec c (region_of_offer c h offer)).shareable → (list ≡ []) ⊎ (length list ≡ length offer)

-- A response in one message with such a list breaks no rule.
abbrev pub AllowsInOrder : Configuration → List Entry → Type 0
AllowsInOrder c journal = (h : HostId) (list : List Extent) → ListsInOrder c h (view_of c h journal) list →
    host_rule c h (view_of c h journal) (HostRequest.AddResponse Bool.false list) ≡ None

-- So a message that is such a response succeeds.
abbrev pub SucceedsInOrder : Configuration → List Entry → Type 0
SucceedsInOrder c journal = (h : HostId) (q : Request) (list : List Extent) → ListsInOrder c h (view_of c h journal) list →
    host_request q.opcode q.payload ≡ Ok (HostRequest.AddResponse Bool.false list) →
    (right_answer c journal (Actor.Host h) (Act.Command q)).0 ≡ response q Code.Success []
