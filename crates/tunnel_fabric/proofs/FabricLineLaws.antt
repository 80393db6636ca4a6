-- What reading a line of a fabric answers is what stands there.
use Rattle.std.proofs.Common.{◌≡◌, ℕ, zero, suc, ◌+◌, ◌*◌, ◌≤◌, Bool, true, false, cond, nat_lt, ◌==◌, ◌&&◌, ◌||◌, not, List, [], ◌∷◌, length, Option, Some, None, Ok, Err, refl, sym, ap, ◌∙◌, subst, arith}
use Rattle.std.{specs.Prelude.slice_get, specs.Int.w8, specs.Int.w16, proofs.lemmas.Bool.le-ltb, proofs.lemmas.Bool.false≢true, proofs.lemmas.Bool.Decides.nat_tests}
use borrow.Author.Tests.{ltb-true, ltb-false, eqb-true}
use Rattle.dcd_base.{specs.declared.steps.Actor.Actor, specs.Layouts.Number, proofs.Fields.IsBytes, proofs.Widths.wide_8, proofs.Widths.wide_16}
use Rattle.cci_codec.specs.{declared.messages.Request.Request, Messages.request_fields}
use Rattle.region_config.specs.Configurations.{Configuration}
use Rattle.journal_core.specs.{declared.acts.Act.Act, Entries.fits}
use Rattle.report.specs.script_codec.proofs.FieldLaws.{bound, number_is, number_sound, ok_is, passed, skip_is}
use Rattle.report.specs.script_codec.proofs.{LineLaws.LineStands, LineLaws.line_is, LineLaws.line_sound, LineLaws.message_is, LineLaws.message_sound, Spans.Spans, Spans.Stands, Spans.spans_then}
use Rattle.report.specs.script_codec.{proofs.Writable.both_first, proofs.Writable.both_second, specs.Fields.number_from, specs.Lines.kind_from, specs.Lines.line_from, specs.Lines.message_from}
use Rattle.report.specs.script_codec.specs.{Scripts.act_fields, Scripts.is_lane, declared.faults.ScriptFault.ScriptFault, declared.script_line.Line.Line}
use Rattle.tunnel_fabric.specs.{declared.fabric_lines.FabricLine.FabricLine, FabricLayout.fabric_line_fields, FabricLayout.fits_there, FabricLayout.is_manager, FabricLayout.is_sound_fabric_line}
use Rattle.tunnel_fabric.specs.FabricLines.{as_local, device_from, fabric_kind_from, fabric_line_from, hosts_in, hosts_of_device, local_from, local_kind_from, no_manager_from, tunnel_from}

either_first : (a b : Bool) → (a || b) ≡ false → a ≡ false
either_first true b none = cc
either_first false b none = refl

either_second : (a b : Bool) → (a || b) ≡ false → b ≡ false
either_second true b none = cc
either_second false b none = none

-- the one lane of an actor is 0
lane_zero : (actor : Actor) (lane : ℕ) → is_lane 1 actor lane ≡ true → lane ≡ 0
lane_zero (Actor.Host h) lane is = omega (arith, ltb-true lane 1 is)
lane_zero Actor.Manager lane is = eqb-true lane 0 is
lane_zero Actor.Sanitizer lane is = eqb-true lane 0 is

-- the line has an act
abbrev does : Line → Bool
does (Line.Do actor lane act) = true
does Line.Mark = false

module _ (bytes : List ℕ) (small : IsBytes bytes) where
  -- a number is read once
  same_number : (at m n next : ℕ) → number_from w8 bytes at ≡ Ok (m, next) → Stands bytes at (Number w8 n) → m ≡ n
  same_number at m n next is stands = ap (λ (x : ℕ × ℕ). x.0) (ok_is (m, next) (n, at + 1) (sym is ∙ number_is w8 wide_8 bytes at n stands))

  -- a kind is a number
  kind_number : (at : ℕ) (x : ℕ × ℕ) → kind_from bytes at ≡ Ok x → (number_from w8 bytes at ≡ Ok x) × (x.0 ≤ 5)
  unfolding kind_from
  kind_number at x is =
      let kind = bound (number_from w8 bytes at) _ x is in
      let p = passed (nat_lt 5 kind.value.0) (ScriptFault.UnknownKind at) kind.value x kind.done in
      (kind.begun ∙ ap Ok p.1, subst (λ (y : ℕ × ℕ). y.0 ≤ 5) p.1 (ltb-false 5 kind.value.0 p.0))

  local_kind_sound : (at : ℕ) (x : ℕ × ℕ) → local_kind_from bytes at ≡ Ok x → Spans bytes at x.1 (Number w8 x.0 ∷ []) × (1 ≤ x.0) × (x.0 ≤ 4)
  unfolding local_kind_from
  local_kind_sound at x is =
      let kind = bound (number_from w8 bytes at) _ x is in
      let p = passed (nat_lt kind.value.0 1 || nat_lt 4 kind.value.0) (ScriptFault.UnknownKind at) kind.value x kind.done in
      subst (λ (y : ℕ × ℕ). Spans bytes at y.1 (Number w8 y.0 ∷ []) × (1 ≤ y.0) × (y.0 ≤ 4)) p.1 (
        number_sound w8 wide_8 bytes at kind.value small kind.begun,
        ltb-false kind.value.0 1 (either_first (nat_lt kind.value.0 1) (nat_lt 4 kind.value.0) p.0),
        ltb-false 4 kind.value.0 (either_second (nat_lt kind.value.0 1) (nat_lt 4 kind.value.0) p.0),
      )

  local_kind_is : (at kind next : ℕ) → number_from w8 bytes at ≡ Ok (kind, next) → 1 ≤ kind → kind ≤ 4 → local_kind_from bytes at ≡ Ok (kind, next)
  unfolding local_kind_from
  local_kind_is at kind next is low high = rw (is, le-ltb kind 1 low, le-ltb 4 kind high) refl

  pub fabric_kind_sound : (at : ℕ) (x : ℕ × ℕ) → fabric_kind_from bytes at ≡ Ok x → Spans bytes at x.1 (Number w8 x.0 ∷ []) × (x.0 ≤ 2)
  unfolding fabric_kind_from
  fabric_kind_sound at x is =
      let kind = bound (number_from w8 bytes at) _ x is in
      let p = passed (nat_lt 2 kind.value.0) (ScriptFault.UnknownKind at) kind.value x kind.done in
      subst (λ (y : ℕ × ℕ). Spans bytes at y.1 (Number w8 y.0 ∷ []) × (y.0 ≤ 2)) p.1 (number_sound w8 wide_8 bytes at kind.value small kind.begun, ltb-false 2 kind.value.0 p.0)

  pub fabric_kind_is : (at kind : ℕ) → Stands bytes at (Number w8 kind) → kind ≤ 2 → fabric_kind_from bytes at ≡ Ok (kind, at + 1)
  unfolding fabric_kind_from
  fabric_kind_is at kind stands few = rw (number_is w8 wide_8 bytes at kind stands, le-ltb 2 kind few) refl

  -- ---- commands of the manager
  -- what was read where no command of the manager may stand
  record NoManager (kind at next : ℕ) : Type 0 where
    pub byte : ℕ × ℕ
    pub read : number_from w8 bytes at ≡ Ok byte
    pub other : ((kind == 1) && (byte.0 == 0xFE)) ≡ false
    pub same : at ≡ next

  no_manager_sound : (kind at next : ℕ) → no_manager_from kind bytes at ≡ Ok next → NoManager kind at next
  unfolding no_manager_from
  no_manager_sound kind at next is =
      let byte = bound (number_from w8 bytes at) _ next is in
      let p = passed ((kind == 1) && (byte.value.0 == 0xFE)) (ScriptFault.UnknownActor at) at next byte.done in
      record { byte = byte.value; read = byte.begun; other = p.0; same = p.1 }

  not_manager : (hosts kind from mid behind next : ℕ) (actor : Actor) (lane : ℕ) (act : Act) → fits hosts actor act ≡ true → Spans bytes from mid (Number w8 kind ∷ []) → Spans bytes from next (act_fields actor lane act) → NoManager kind mid behind → is_manager actor ≡ false
  not_manager hosts kind from mid behind next (Actor.Host h) lane act fit kinds fields none = refl
  not_manager hosts kind from mid behind next Actor.Sanitizer lane act fit kinds fields none = refl
  not_manager hosts kind from mid behind next Actor.Manager lane (Act.Command q) fit kinds fields none =
      let one : kind ≡ 1 = same_number from kind 1 (from + 1) (number_is w8 wide_8 bytes from kind kinds.all.0) fields.all.0 in
      let manager : none.byte.0 ≡ 0xFE = same_number mid none.byte.0 0xFE none.byte.1 none.read (subst (λ place. Stands bytes place (Number w8 0xFE)) kinds.all.1 fields.all.1.0) in
      absurd (false≢true (sym none.other ∙ rw (one, manager) refl))
  not_manager hosts kind from mid behind next Actor.Manager lane (Act.Load d) fit kinds fields none = cc
  not_manager hosts kind from mid behind next Actor.Manager lane (Act.Store d value) fit kinds fields none = cc
  not_manager hosts kind from mid behind next Actor.Manager lane (Act.Scrub n) fit kinds fields none = cc

  host_byte_is : (kind at h : ℕ) → h ≤ 15 → Stands bytes at (Number w8 (h + 16 * 0)) → no_manager_from kind bytes at ≡ Ok at
  unfolding no_manager_from
  host_byte_is kind at h few stands = rw (number_is w8 wide_8 bytes at (h + 16 * 0) stands) (by (kind == 1) (h + 16 * 0 == 0xFE) refl)
    where
      by : (a b : Bool) → (h + 16 * 0 == 0xFE) ≡ b → cond (a && b) (Err (ScriptFault.UnknownActor at)) (Ok at) ≡ Ok at
      by false b is = refl
      by true false is = refl
      by true true is = absurd (omega (arith, few, eqb-true (h + 16 * 0) 0xFE is))

  scrub_byte_is : (at n : ℕ) → Stands bytes at (Number w16 n) → no_manager_from 4 bytes at ≡ Ok at
  unfolding no_manager_from number_from
  scrub_byte_is at n stands = rw (skip_is 1 bytes at (omega (arith, stands.within))) refl

  no_manager_is : (hosts kind at next : ℕ) (actor : Actor) (act : Act) → hosts ≤ 16 → fits hosts actor act ≡ true → is_manager actor ≡ false → number_from w8 bytes at ≡ Ok (kind, at + 1) → Spans bytes at next (act_fields actor 0 act) → no_manager_from kind bytes (at + 1) ≡ Ok (at + 1)
  no_manager_is hosts kind at next (Actor.Host h) (Act.Command q) few fit other is spans = host_byte_is kind (at + 1) h (omega (arith, few, ltb-true h hosts fit)) spans.all.1.0
  no_manager_is hosts kind at next (Actor.Host h) (Act.Load d) few fit other is spans = host_byte_is kind (at + 1) h (omega (arith, few, ltb-true h hosts fit)) spans.all.1.0
  no_manager_is hosts kind at next (Actor.Host h) (Act.Store d value) few fit other is spans = host_byte_is kind (at + 1) h (omega (arith, few, ltb-true h hosts fit)) spans.all.1.0
  no_manager_is hosts kind at next (Actor.Host h) (Act.Scrub n) few fit other is spans = cc
  no_manager_is hosts kind at next Actor.Manager act few fit other is spans = cc
  no_manager_is hosts kind at next Actor.Sanitizer (Act.Scrub n) few fit other is spans =
      subst (λ k. no_manager_from k bytes (at + 1) ≡ Ok (at + 1)) (sym (same_number at kind 4 (at + 1) is spans.all.0)) (scrub_byte_is (at + 1) n spans.all.1.0)
  no_manager_is hosts kind at next Actor.Sanitizer (Act.Command q) few fit other is spans = cc
  no_manager_is hosts kind at next Actor.Sanitizer (Act.Load d) few fit other is spans = cc
  no_manager_is hosts kind at next Actor.Sanitizer (Act.Store d value) few fit other is spans = cc

  -- the kind of an act is 1 to 4
  act_kind : (hosts kind at next : ℕ) (actor : Actor) (act : Act) → (kind == 0) ≡ false → kind ≤ 5 → line_from kind hosts 1 bytes at ≡ Ok (Line.Do actor 0 act, next) → (1 ≤ kind) × (kind ≤ 4)
  act_kind hosts zero at next actor act other few is = cc
  act_kind hosts (suc zero) at next actor act other few is = (omega arith, omega arith)
  act_kind hosts (suc (suc zero)) at next actor act other few is = (omega arith, omega arith)
  act_kind hosts (suc (suc (suc zero))) at next actor act other few is = (omega arith, omega arith)
  act_kind hosts (suc (suc (suc (suc zero)))) at next actor act other few is = (omega arith, omega arith)
  act_kind hosts (suc (suc (suc (suc (suc zero))))) at next actor act other few is =
      absurd (false≢true (ap (λ (x : Line × ℕ). does x.0) (ok_is (Line.Mark, at) (Line.Do actor 0 act, next) is)))
  act_kind hosts (suc (suc (suc (suc (suc (suc kind)))))) at next actor act other few is = absurd (omega (arith, few))

  module _ (configs : List Configuration) where
    -- ---- the device that a byte names
    record DeviceNamed (at : ℕ) (x : (ℕ × ℕ) × ℕ) : Type 0 where
      pub spans : Spans bytes at x.1 (Number w8 x.0.0 ∷ [])
      pub config : Configuration
      pub there : slice_get configs x.0.0 ≡ Some config
      pub hosts : config.hosts ≡ x.0.1

    named_in : (at hosts : ℕ) (found : Option Configuration) → hosts_in at found ≡ Ok hosts → (c : Configuration) × (found ≡ Some c) × (c.hosts ≡ hosts)
    named_in at hosts None is = cc
    named_in at hosts (Some c) is = (c, refl, ok_is c.hosts hosts is)

    device_named : (at : ℕ) (x : (ℕ × ℕ) × ℕ) → device_from configs bytes at ≡ Ok x → DeviceNamed at x
    unfolding device_from
    device_named at x is =
        let device = bound (number_from w8 bytes at) _ x is in
        let hosts = bound (hosts_of_device configs at device.value.0) _ x device.done in
        let found = named_in at hosts.value (slice_get configs device.value.0) hosts.begun in
        subst (λ (y : (ℕ × ℕ) × ℕ). DeviceNamed at y) (ok_is _ x hosts.done)
        (record { spans = number_sound w8 wide_8 bytes at device.value small device.begun; config = found.0; there = found.1; hosts = found.2 })

    device_named_is : (at device : ℕ) (c : Configuration) → slice_get configs device ≡ Some c → Stands bytes at (Number w8 device) → device_from configs bytes at ≡ Ok ((device, c.hosts), at + 1)
    unfolding device_from
    device_named_is at device c there stands = rw (number_is w8 wide_8 bytes at device stands, there) refl

    -- ---- lines by their kinds
    -- a line's fields behind its kind byte
    pub record FabricLineStands (at kind : ℕ) (x : FabricLine × ℕ) : Type 0 where
      pub spans : (from : ℕ) → Spans bytes from at (Number w8 kind ∷ []) → Spans bytes from x.1 (fabric_line_fields x.0)
      pub sound : is_sound_fabric_line configs x.0 ≡ true

    fits_named : (device hosts : ℕ) (c : Configuration) (actor : Actor) (act : Act) → slice_get configs device ≡ Some c → c.hosts ≡ hosts → fits hosts actor act ≡ true → is_manager actor ≡ false → is_sound_fabric_line configs (FabricLine.Local device actor act) ≡ true
    fits_named device hosts c actor act there same fit other = rw (there, same, fit, other) refl

    as_line : (at mid behind kind : ℕ) (device : (ℕ × ℕ) × ℕ) → DeviceNamed at device → Spans bytes device.1 mid (Number w8 kind ∷ []) → NoManager kind mid behind → (line : Line) (next : ℕ) (local : FabricLine) → LineStands bytes small device.0.1 1 mid kind (line, next) → as_local device.1 device.0.0 line ≡ Ok local → FabricLineStands at 1 (local, next)
    as_line at mid behind kind device named kinds none Line.Mark next local stands is = cc
    as_line at mid behind kind device named kinds none (Line.Do actor lane act) next local stands is =
        let fit : fits device.0.1 actor act ≡ true = both_first (fits device.0.1 actor act) (is_lane 1 actor lane) stands.sound in
        let zero_lane : lane ≡ 0 = lane_zero actor lane (both_second (fits device.0.1 actor act) (is_lane 1 actor lane) stands.sound) in
        let inner : Spans bytes device.1 next (act_fields actor lane act) = stands.spans device.1 kinds in
        let other : is_manager actor ≡ false = not_manager device.0.1 kind device.1 mid behind next actor lane act fit kinds inner none in
        subst (λ found. FabricLineStands at 1 (found, next)) (ok_is (FabricLine.Local device.0.0 actor act) local is)
        (record {
          spans = λ from outer. spans_then outer (spans_then named.spans (subst (λ n. Spans bytes device.1 next (act_fields actor n act)) zero_lane inner));
          sound = fits_named device.0.0 device.0.1 named.config actor act named.there named.hosts fit other;
        })

    local_sound : (at : ℕ) (x : FabricLine × ℕ) → local_from configs bytes at ≡ Ok x → FabricLineStands at 1 x
    unfolding local_from
    local_sound at x is =
        let device = bound (device_from configs bytes at) _ x is in
        let kind = bound (local_kind_from bytes device.value.1) _ x device.done in
        let behind = bound (no_manager_from kind.value.0 bytes kind.value.1) _ x kind.done in
        let line = bound (line_from kind.value.0 device.value.0.1 1 bytes behind.value) _ x behind.done in
        let local = bound (as_local device.value.1 device.value.0.0 line.value.0) _ x line.done in
        let kinds = local_kind_sound device.value.1 kind.value kind.begun in
        let none = no_manager_sound kind.value.0 kind.value.1 behind.value behind.begun in
        let here : line_from kind.value.0 device.value.0.1 1 bytes kind.value.1 ≡ Ok line.value = ap (λ place. line_from kind.value.0 device.value.0.1 1 bytes place) none.same ∙ line.begun in
        let stands = line_sound bytes small device.value.0.1 1 kind.value.0 kind.value.1 line.value (some_kind kind.value.0 kinds.1) (omega (arith, kinds.2)) here in
        subst (λ y. FabricLineStands at 1 y) (ok_is _ x local.done)
        (as_line at kind.value.1 behind.value kind.value.0 device.value (device_named at device.value device.begun) kinds.0 none line.value.0 line.value.1 local.value stands local.begun)
      where
        some_kind : (kind : ℕ) → 1 ≤ kind → (kind == 0) ≡ false
        some_kind kind some = grind (arith, nat_tests)

    tunnel_sound : (at : ℕ) (x : FabricLine × ℕ) → tunnel_from bytes at ≡ Ok x → FabricLineStands at 2 x
    unfolding tunnel_from
    tunnel_sound at x is =
        let size = bound (number_from w16 bytes at) _ x is in
        let request = bound (message_from size.value.0 bytes size.value.1) _ x size.done in
        let message = message_sound bytes small 1 1 size.value.0 size.value.1 request.value request.begun in
        subst (λ y. FabricLineStands at 2 y) (ok_is _ x request.done)
        (record {
          spans = λ from kind. spans_then kind (spans_then (subst (λ n. Spans bytes at size.value.1 (Number w16 n ∷ [])) (sym message.1) (number_sound w16 wide_16 bytes at size.value small size.begun)) message.0);
          sound = refl;
        })

    pub fabric_line_sound : (kind at : ℕ) (x : FabricLine × ℕ) → (kind == 0) ≡ false → kind ≤ 2 → fabric_line_from kind configs bytes at ≡ Ok x → FabricLineStands at kind x
    fabric_line_sound zero at x other few is = cc
    fabric_line_sound (suc zero) at x other few is = local_sound at x is
    fabric_line_sound (suc (suc zero)) at x other few is = tunnel_sound at x is
    fabric_line_sound (suc (suc (suc kind))) at x other few is = absurd (omega (arith, few))

    -- a line that stands at a place is read there
    pub record FabricLineIs (at next : ℕ) (line : FabricLine) : Type 0 where
      pub kind : ℕ
      pub kind_is : fabric_kind_from bytes at ≡ Ok (kind, at + 1)
      pub other : (kind == 0) ≡ false
      pub line_is : fabric_line_from kind configs bytes (at + 1) ≡ Ok (line, next)

    local_is : (at next device : ℕ) (actor : Actor) (act : Act) (c : Configuration) → slice_get configs device ≡ Some c → c.hosts ≤ 16 → fits c.hosts actor act ≡ true → is_manager actor ≡ false → Stands bytes at (Number w8 device) → Spans bytes (at + 1) next (act_fields actor 0 act) → local_from configs bytes at ≡ Ok (FabricLine.Local device actor act, next)
    unfolding local_from
    local_is at next device actor act c there few fit other stands spans =
        let inner = line_is bytes small c.hosts 1 few (omega arith) (at + 1) next (Line.Do actor 0 act) (seated actor) spans in
        let number = kind_number (at + 1) (inner.kind, at + 1 + 1) inner.kind_is in
        let kinds = act_kind c.hosts inner.kind (at + 1 + 1) next actor act inner.other number.1 inner.line_is in
        rw (
          device_named_is at device c there stands,
          local_kind_is (at + 1) inner.kind (at + 1 + 1) number.0 kinds.0 kinds.1,
          no_manager_is c.hosts inner.kind (at + 1) next actor act few fit other number.0 spans,
          inner.line_is,
        ) refl
      where
        seated : (its : Actor) → (fits c.hosts actor act && is_lane 1 its 0) ≡ true
        seated (Actor.Host h) = rw fit refl
        seated Actor.Manager = rw fit refl
        seated Actor.Sanitizer = rw fit refl

    sound_local : (actor : Actor) (act : Act) (found : Option Configuration) → (fits_there found actor act && not (is_manager actor)) ≡ true → (c : Configuration) × (found ≡ Some c) × (fits c.hosts actor act ≡ true) × (is_manager actor ≡ false)
    sound_local actor act None sound = cc
    sound_local actor act (Some c) sound = (c, refl, both_first (fits c.hosts actor act) (not (is_manager actor)) sound, host (is_manager actor) (both_second (fits c.hosts actor act) (not (is_manager actor)) sound))
      where
        host : (b : Bool) → not b ≡ true → b ≡ false
        host true is = cc
        host false is = refl

    tunnel_is : (at next : ℕ) (q : Request) → Stands bytes at (Number w16 (12 + length q.payload)) → Spans bytes (at + 2) next (request_fields q) → tunnel_from bytes at ≡ Ok (FabricLine.Tunnel q, next)
    unfolding tunnel_from
    tunnel_is at next q size message = rw (number_is w16 wide_16 bytes at (12 + length q.payload) size, message_is bytes small 1 1 (omega arith) (omega arith) (at + 2) (12 + length q.payload) next q message refl) refl

    pub fabric_line_is : ((k : ℕ) (c : Configuration) → slice_get configs k ≡ Some c → c.hosts ≤ 16) → (at next : ℕ) (line : FabricLine) → is_sound_fabric_line configs line ≡ true → Spans bytes at next (fabric_line_fields line) → FabricLineIs at next line
    fabric_line_is few at next (FabricLine.Local device actor act) sound spans =
        let found = sound_local actor act (slice_get configs device) sound in
        record {
          kind = 1;
          kind_is = fabric_kind_is at 1 spans.all.0 (omega arith);
          other = refl;
          line_is = local_is (at + 1) next device actor act found.0 found.1 (few device found.0 found.1) found.2 found.3 spans.all.1.0 (record { all = spans.all.1.1 });
        }
    fabric_line_is few at next (FabricLine.Tunnel q) sound spans = record {
      kind = 2;
      kind_is = fabric_kind_is at 2 spans.all.0 (omega arith);
      other = refl;
      line_is = tunnel_is (at + 1) next q spans.all.1.0 (record { all = spans.all.1.1 });
    }
