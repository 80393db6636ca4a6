-- What reading a line answers is what stands there.
use Rattle.std.proofs.Common.{◌≡◌, ℕ, zero, suc, ◌+◌, ◌*◌, ◌/◌, ◌%◌, ◌<◌, ◌≤◌, Bool, true, false, cond, nat_lt, ◌==◌, ◌&&◌, List, [], ◌∷◌, length, drop, Option, Some, None, Ok, Err, refl, sym, ap, ◌∙◌, subst, arith, length-drop}
use Rattle.std.{specs.List.list_all, specs.Int.w8, specs.Int.w16, specs.Int.w64, proofs.lemmas.Bool.le-ltb}
use borrow.Author.Tests.{ltb-true, ltb-false, eqb-true}
use Rattle.cci_codec.proofs.Reading.{no_message_fault, request_reads, request_read}
use Rattle.cci_codec.specs.{Messages.message_fault, Messages.request_in, Messages.request_fields, Messages.ReadsRequest, dcd_base.proofs.Fields.all_bytes, dcd_base.proofs.Fields.IsBytes}
use Rattle.cci_codec.specs.dcd_base.{proofs.Widths.wide_8, proofs.Widths.wide_16, proofs.Widths.wide_64, specs.Layouts.Number, specs.Layouts.Reads, specs.Layouts.is_byte}
use Rattle.cci_codec.specs.{dcd_base.specs.declared.ids.HostId.HostId, dcd_base.specs.declared.steps.Actor.Actor, declared.faults.MessageFault.MessageFault, declared.messages.Request.Request}
use Rattle.journal_core.specs.declared.acts.Act.{Act}
use Rattle.script_codec.proofs.{Spans.Stands, Spans.Spans, Spans.spans_then, Spans.spans_out, Spans.spans_in, Spans.part_length, Writable.both_first, Writable.both_second}
use Rattle.script_codec.specs.{Fields.skip, Fields.part, Fields.number_from, Scripts.actor_byte, Scripts.line_fields, Scripts.is_sound_line, declared.faults.ScriptFault.ScriptFault}
use Rattle.script_codec.specs.declared.script_line.Line.{Line}
use Rattle.script_codec.specs.Lines.{is_host_byte, host_of, commander_of, host_from, commander_from, sound_message, message_of, message_from, command_from, load_from, store_from, scrub_from, line_from, kind_from}
use Rattle.script_codec.proofs.FieldLaws.{part_bytes, bound, ok_is, passed, passing, skip_sound, skip_is, number_sound, number_is}

and_false : (a : Bool) → (a && false) ≡ false
and_false true = refl
and_false false = refl

pub both : (a b : Bool) → a ≡ true → b ≡ true → (a && b) ≡ true
both a b p q = rw (p, q) refl

-- the actor and the lane are ones of a device of so many hosts and lanes
abbrev pub is_seat : ℕ → ℕ → Actor → ℕ → Bool
is_seat hosts lanes (Actor.Host h) lane = nat_lt h hosts && nat_lt lane lanes
is_seat hosts lanes Actor.Manager lane = lane == 0
is_seat hosts lanes Actor.Sanitizer lane = false

module _ (bytes : List ℕ) (small : IsBytes bytes) (hosts lanes : ℕ) where
  pub host_sound : (at : ℕ) (x : (HostId × ℕ) × ℕ) → host_from hosts lanes bytes at ≡ Ok x → Spans bytes at x.1 (Number w8 (x.0.0 + 16 * x.0.1) ∷ []) × (is_seat hosts lanes (Actor.Host x.0.0) x.0.1 ≡ true)
  unfolding host_from
  host_sound at x is =
      let byte = bound (number_from w8 bytes at) _ x is in
      let host = bound (host_of hosts lanes at byte.value.0) _ x byte.done in
      let p = passing (is_host_byte hosts lanes byte.value.0) (ScriptFault.UnknownActor at) (byte.value.0 % 16, byte.value.0 / 16) host.value host.begun in
      let whole : byte.value.0 ≡ byte.value.0 % 16 + 16 * (byte.value.0 / 16) = omega arith in
      subst (λ (y : (HostId × ℕ) × ℕ). Spans bytes at y.1 (Number w8 (y.0.0 + 16 * y.0.1) ∷ []) × (is_seat hosts lanes (Actor.Host y.0.0) y.0.1 ≡ true))
      ((λ i. (p.1 i, byte.value.1)) ∙ ok_is _ x host.done)
      (subst (λ n. Spans bytes at byte.value.1 (Number w8 n ∷ [])) whole (number_sound w8 wide_8 bytes at byte.value small byte.begun), p.0)

  commander_by_test : (a b : Bool) (at byte : ℕ) (x : Actor × ℕ) → is_host_byte hosts lanes byte ≡ a → (byte == 0xFE) ≡ b → cond a (Ok (Actor.Host (byte % 16), byte / 16)) (cond b (Ok (Actor.Manager, 0)) (Err (ScriptFault.UnknownActor at))) ≡ Ok x → (actor_byte x.0 x.1 ≡ byte) × (is_seat hosts lanes x.0 x.1 ≡ true)
  commander_by_test true b at byte x p q is =
      subst (λ (y : Actor × ℕ). (actor_byte y.0 y.1 ≡ byte) × (is_seat hosts lanes y.0 y.1 ≡ true)) (ok_is _ x is) (omega arith, p)
  commander_by_test false true at byte x p q is =
      subst (λ (y : Actor × ℕ). (actor_byte y.0 y.1 ≡ byte) × (is_seat hosts lanes y.0 y.1 ≡ true)) (ok_is _ x is) (sym (eqb-true byte 0xFE q), refl)
  commander_by_test false false at byte x p q is = cc

  pub commander_sound : (at : ℕ) (x : (Actor × ℕ) × ℕ) → commander_from hosts lanes bytes at ≡ Ok x → Spans bytes at x.1 (Number w8 (actor_byte x.0.0 x.0.1) ∷ []) × (is_seat hosts lanes x.0.0 x.0.1 ≡ true)
  unfolding commander_from
  commander_sound at x is =
      let byte = bound (number_from w8 bytes at) _ x is in
      let actor = bound (commander_of hosts lanes at byte.value.0) _ x byte.done in
      let p = commander_by_test (is_host_byte hosts lanes byte.value.0) (byte.value.0 == 0xFE) at byte.value.0 actor.value refl refl actor.begun in
      subst (λ (y : (Actor × ℕ) × ℕ). Spans bytes at y.1 (Number w8 (actor_byte y.0.0 y.0.1) ∷ []) × (is_seat hosts lanes y.0.0 y.0.1 ≡ true)) (ok_is _ x actor.done)
      (subst (λ n. Spans bytes at byte.value.1 (Number w8 n ∷ [])) (sym p.0) (number_sound w8 wide_8 bytes at byte.value small byte.begun), p.1)

  module _ (few_hosts : hosts ≤ 16) (few_lanes : lanes ≤ 4) where
    named : (h lane : ℕ) → h < hosts → lane < lanes → ((h + 16 * lane) % 16 ≡ h) × ((h + 16 * lane) / 16 ≡ lane)
    named h lane host_is lane_is = (omega (arith, few_hosts, host_is), omega (arith, few_hosts, host_is))

    names : (h lane : ℕ) → is_seat hosts lanes (Actor.Host h) lane ≡ true → (is_host_byte hosts lanes (h + 16 * lane) ≡ true) × ((h + 16 * lane) % 16 ≡ h) × ((h + 16 * lane) / 16 ≡ lane)
    names h lane seat =
        let p = both_first (nat_lt h hosts) (nat_lt lane lanes) seat in
        let q = both_second (nat_lt h hosts) (nat_lt lane lanes) seat in
        let n = named h lane (ltb-true h hosts p) (ltb-true lane lanes q) in
        (rw (n.0, n.1) seat, n.0, n.1)

    pub host_is : (at h lane : ℕ) → is_seat hosts lanes (Actor.Host h) lane ≡ true → Stands bytes at (Number w8 (h + 16 * lane)) → host_from hosts lanes bytes at ≡ Ok ((h, lane), at + 1)
    unfolding host_from
    host_is at h lane seat stands =
        let n = names h lane seat in
        rw (number_is w8 wide_8 bytes at (h + 16 * lane) stands, n.0) (λ i. Ok ((n.1 i, n.2 i), at + 1))

    pub commander_is : (at : ℕ) (actor : Actor) (lane : ℕ) → is_seat hosts lanes actor lane ≡ true → Stands bytes at (Number w8 (actor_byte actor lane)) → commander_from hosts lanes bytes at ≡ Ok ((actor, lane), at + 1)
    unfolding commander_from
    commander_is at (Actor.Host h) lane seat stands =
        let n = names h lane seat in
        rw (number_is w8 wide_8 bytes at (h + 16 * lane) stands, n.0) (λ i. Ok ((Actor.Host (n.1 i), n.2 i), at + 1))
    commander_is at Actor.Manager lane seat stands =
        let far : nat_lt 15 lanes ≡ false = le-ltb 15 lanes (omega (arith, few_lanes)) in
        rw (number_is w8 wide_8 bytes at 0xFE stands, far, and_false (nat_lt 14 hosts)) (ap (λ n. Ok ((Actor.Manager, n), at + 1)) (sym (eqb-true lane 0 seat)))
    commander_is at Actor.Sanitizer lane seat stands = cc

    -- ---- messages
    message_fits : (at n next : ℕ) (q : Request) → Spans bytes at next (request_fields q) → 12 + length q.payload ≡ n → (at + n ≡ next) × (next ≤ length bytes)
    message_fits at n next q spans size = (omega (arith, spans.all.1.1.1.1.1.1.1.1), omega (arith, spans.all.1.1.1.1.1.1.1.1, spans.all.1.1.1.1.1.1.1.0.within))

    pub message_is : (at n next : ℕ) (q : Request) → Spans bytes at next (request_fields q) → 12 + length q.payload ≡ n → message_from n bytes at ≡ Ok (q, next)
    unfolding message_from ReadsRequest
    message_is at n next q spans size =
        let p = message_fits at n next q spans size in
        let within : at + n ≤ length bytes = omega (arith, p.0, p.1) in
        let in_range : list_all is_byte (part n bytes at) ≡ true = all_bytes (part n bytes at) (part_bytes n bytes at small) in
        let reads : Reads (part n bytes at) (request_fields q) = spans_in bytes at n (request_fields q) within in_range (subst (λ place. Spans bytes at place (request_fields q)) (sym p.0) spans) in
        let found = request_read (part n bytes at) q reads in
        rw (skip_is n bytes at within, no_message_fault (part n bytes at) found.0) (λ i. Ok (sym found.1 i, p.0 i))

  sound_request : (at : ℕ) (piece : List ℕ) (q : Request) (fault : Option MessageFault) → sound_message at piece fault ≡ Ok q → (fault ≡ None) × (request_in piece ≡ q)
  sound_request at piece q None is = (refl, ok_is (request_in piece) q is)
  sound_request at piece q (Some fault) is = cc

  pub message_sound : (n at : ℕ) (x : Request × ℕ) → message_from n bytes at ≡ Ok x → Spans bytes at x.1 (request_fields x.0) × (12 + length x.0.payload ≡ n)
  unfolding message_from ReadsRequest
  message_sound n at x is =
      let skipped = bound (skip n bytes at) _ x is in
      let request = bound (message_of at (part n bytes at)) _ x skipped.done in
      let place = skip_sound n bytes at skipped.value skipped.begun in
      let within : at + n ≤ length bytes = place.all.0.within in
      let p = sound_request at (part n bytes at) request.value (message_fault (part n bytes at)) request.begun in
      let reads : ReadsRequest (part n bytes at) (request_in (part n bytes at)) = request_reads (part n bytes at) (part_bytes n bytes at small) p.0 in
      let long : 12 ≤ length (part n bytes at) = (request_read (part n bytes at) (request_in (part n bytes at)) reads).0.long in
      let size : 12 + length (drop 12 (part n bytes at)) ≡ n = omega (arith, long, length-drop 12 (part n bytes at), part_length bytes at n within) in
      let spans : Spans bytes at (at + n) (request_fields (request_in (part n bytes at))) = spans_out bytes at n (request_fields (request_in (part n bytes at))) within reads in
      subst (λ (y : Request × ℕ). Spans bytes at y.1 (request_fields y.0) × (12 + length y.0.payload ≡ n))
      ((λ i. (p.1 i, place.all.1 i)) ∙ ok_is _ x request.done)
      (spans, size)

  -- ---- lines by their kinds
  -- a line's fields behind its kind byte
  pub record LineStands (at kind : ℕ) (x : Line × ℕ) : Type 0 where
    pub spans : (from : ℕ) → Spans bytes from at (Number w8 kind ∷ []) → Spans bytes from x.1 (line_fields x.0)
    pub sound : is_sound_line hosts lanes x.0 ≡ true

  seat_fits : (actor : Actor) (lane : ℕ) (q : Request) → is_seat hosts lanes actor lane ≡ true → is_sound_line hosts lanes (Line.Do actor lane (Act.Command q)) ≡ true
  seat_fits (Actor.Host h) lane q seat = seat
  seat_fits Actor.Manager lane q seat = seat
  seat_fits Actor.Sanitizer lane q seat = cc

  command_sound : (at : ℕ) (x : Line × ℕ) → command_from hosts lanes bytes at ≡ Ok x → LineStands at 1 x
  unfolding command_from
  command_sound at x is =
      let actor = bound (commander_from hosts lanes bytes at) _ x is in
      let size = bound (number_from w16 bytes actor.value.1) _ x actor.done in
      let request = bound (message_from size.value.0 bytes size.value.1) _ x size.done in
      let named = commander_sound at actor.value actor.begun in
      let message = message_sound size.value.0 size.value.1 request.value request.begun in
      subst (λ y. LineStands at 1 y) (ok_is _ x request.done)
      (record {
        spans = λ from kind. spans_then kind (spans_then named.0
            (spans_then (subst (λ n. Spans bytes actor.value.1 size.value.1 (Number w16 n ∷ [])) (sym message.1) (number_sound w16 wide_16 bytes actor.value.1 size.value small size.begun)) message.0));
        sound = seat_fits actor.value.0.0 actor.value.0.1 request.value.0 named.1;
      })

  load_sound : (at : ℕ) (x : Line × ℕ) → load_from hosts lanes bytes at ≡ Ok x → LineStands at 2 x
  unfolding load_from
  load_sound at x is =
      let host = bound (host_from hosts lanes bytes at) _ x is in
      let dpa = bound (number_from w64 bytes host.value.1) _ x host.done in
      let named = host_sound at host.value host.begun in
      subst (λ y. LineStands at 2 y) (ok_is _ x dpa.done)
      (record {
        spans = λ from kind. spans_then kind (spans_then named.0 (number_sound w64 wide_64 bytes host.value.1 dpa.value small dpa.begun));
        sound = named.1;
      })

  store_sound : (at : ℕ) (x : Line × ℕ) → store_from hosts lanes bytes at ≡ Ok x → LineStands at 3 x
  unfolding store_from
  store_sound at x is =
      let host = bound (host_from hosts lanes bytes at) _ x is in
      let dpa = bound (number_from w64 bytes host.value.1) _ x host.done in
      let value = bound (number_from w64 bytes dpa.value.1) _ x dpa.done in
      let named = host_sound at host.value host.begun in
      subst (λ y. LineStands at 3 y) (ok_is _ x value.done)
      (record {
        spans = λ from kind. spans_then kind (spans_then named.0 (spans_then (number_sound w64 wide_64 bytes host.value.1 dpa.value small dpa.begun) (number_sound w64 wide_64 bytes dpa.value.1 value.value small value.begun)));
        sound = named.1;
      })

  scrub_sound : (at : ℕ) (x : Line × ℕ) → scrub_from bytes at ≡ Ok x → LineStands at 4 x
  unfolding scrub_from
  scrub_sound at x is =
      let most = bound (number_from w16 bytes at) _ x is in
      subst (λ y. LineStands at 4 y) (ok_is _ x most.done)
      (record {
        spans = λ from kind. spans_then kind (number_sound w16 wide_16 bytes at most.value small most.begun);
        sound = refl;
      })

  pub line_sound : (kind at : ℕ) (x : Line × ℕ) → (kind == 0) ≡ false → kind ≤ 5 → line_from kind hosts lanes bytes at ≡ Ok x → LineStands at kind x
  line_sound zero at x other few is = cc
  line_sound (suc zero) at x other few is = command_sound at x is
  line_sound (suc (suc zero)) at x other few is = load_sound at x is
  line_sound (suc (suc (suc zero))) at x other few is = store_sound at x is
  line_sound (suc (suc (suc (suc zero)))) at x other few is = scrub_sound at x is
  line_sound (suc (suc (suc (suc (suc zero))))) at x other few is =
      subst (λ y. LineStands at 5 y) (ok_is (Line.Mark, at) x is) (record { spans = λ from kind. kind; sound = refl })
  line_sound (suc (suc (suc (suc (suc (suc kind)))))) at x other few is = absurd (omega (arith, few))

  pub kind_sound : (at : ℕ) (x : ℕ × ℕ) → kind_from bytes at ≡ Ok x → Spans bytes at x.1 (Number w8 x.0 ∷ []) × (x.0 ≤ 5)
  unfolding kind_from
  kind_sound at x is =
      let kind = bound (number_from w8 bytes at) _ x is in
      let p = passed (nat_lt 5 kind.value.0) (ScriptFault.UnknownKind at) kind.value x kind.done in
      subst (λ (y : ℕ × ℕ). Spans bytes at y.1 (Number w8 y.0 ∷ []) × (y.0 ≤ 5)) p.1 (number_sound w8 wide_8 bytes at kind.value small kind.begun, ltb-false 5 kind.value.0 p.0)

  pub kind_is : (at kind : ℕ) → Stands bytes at (Number w8 kind) → kind ≤ 5 → kind_from bytes at ≡ Ok (kind, at + 1)
  unfolding kind_from
  kind_is at kind stands few = rw (number_is w8 wide_8 bytes at kind stands, le-ltb 5 kind few) refl

  -- a line that stands at a place is read there
  pub record LineIs (at next : ℕ) (line : Line) : Type 0 where
    pub kind : ℕ
    pub kind_is : kind_from bytes at ≡ Ok (kind, at + 1)
    pub other : (kind == 0) ≡ false
    pub line_is : line_from kind hosts lanes bytes (at + 1) ≡ Ok (line, next)

  pub line_is : hosts ≤ 16 → lanes ≤ 4 → (at next : ℕ) (line : Line) → is_sound_line hosts lanes line ≡ true → Spans bytes at next (line_fields line) → LineIs at next line
  unfolding command_from load_from store_from scrub_from
  line_is few_hosts few_lanes at next Line.Mark sound spans = record {
    kind = 5;
    kind_is = kind_is at 5 spans.all.0 (omega arith);
    other = refl;
    line_is = ap (λ place. Ok (Line.Mark, place)) spans.all.1;
  }
  line_is few_hosts few_lanes at next (Line.Do (Actor.Host h) lane (Act.Load d)) sound spans = record {
    kind = 2;
    kind_is = kind_is at 2 spans.all.0 (omega arith);
    other = refl;
    line_is = rw (host_is few_hosts few_lanes (at + 1) h lane sound spans.all.1.0, number_is w64 wide_64 bytes (at + 1 + 1) d spans.all.1.1.0) (ap (λ place. Ok (Line.Do (Actor.Host h) lane (Act.Load d), place)) spans.all.1.1.1);
  }
  line_is few_hosts few_lanes at next (Line.Do (Actor.Host h) lane (Act.Store d value)) sound spans = record {
    kind = 3;
    kind_is = kind_is at 3 spans.all.0 (omega arith);
    other = refl;
    line_is = rw (host_is few_hosts few_lanes (at + 1) h lane sound spans.all.1.0, number_is w64 wide_64 bytes (at + 1 + 1) d spans.all.1.1.0, number_is w64 wide_64 bytes (at + 1 + 1 + 8) value spans.all.1.1.1.0) (ap (λ place. Ok (Line.Do (Actor.Host h) lane (Act.Store d value), place)) spans.all.1.1.1.1);
  }
  line_is few_hosts few_lanes at next (Line.Do (Actor.Host h) lane (Act.Command q)) sound spans = record {
    kind = 1;
    kind_is = kind_is at 1 spans.all.0 (omega arith);
    other = refl;
    line_is = rw (commander_is few_hosts few_lanes (at + 1) (Actor.Host h) lane sound spans.all.1.0, number_is w16 wide_16 bytes (at + 1 + 1) (12 + length q.payload) spans.all.1.1.0, message_is few_hosts few_lanes (at + 1 + 1 + 2) (12 + length q.payload) next q (record { all = spans.all.1.1.1 }) refl) refl;
  }
  line_is few_hosts few_lanes at next (Line.Do (Actor.Host h) lane (Act.Scrub n)) sound spans = cc
  line_is few_hosts few_lanes at next (Line.Do Actor.Manager lane (Act.Command q)) sound spans = record {
    kind = 1;
    kind_is = kind_is at 1 spans.all.0 (omega arith);
    other = refl;
    line_is = rw (commander_is few_hosts few_lanes (at + 1) Actor.Manager lane sound spans.all.1.0, number_is w16 wide_16 bytes (at + 1 + 1) (12 + length q.payload) spans.all.1.1.0, message_is few_hosts few_lanes (at + 1 + 1 + 2) (12 + length q.payload) next q (record { all = spans.all.1.1.1 }) refl) refl;
  }
  line_is few_hosts few_lanes at next (Line.Do Actor.Manager lane (Act.Load d)) sound spans = cc
  line_is few_hosts few_lanes at next (Line.Do Actor.Manager lane (Act.Store d value)) sound spans = cc
  line_is few_hosts few_lanes at next (Line.Do Actor.Manager lane (Act.Scrub n)) sound spans = cc
  line_is few_hosts few_lanes at next (Line.Do Actor.Sanitizer lane (Act.Scrub n)) sound spans = record {
    kind = 4;
    kind_is = kind_is at 4 spans.all.0 (omega arith);
    other = refl;
    line_is = rw (number_is w16 wide_16 bytes (at + 1) n spans.all.1.0) (λ i. Ok (Line.Do Actor.Sanitizer (sym (eqb-true lane 0 sound) i) (Act.Scrub n), spans.all.1.1 i));
  }
  line_is few_hosts few_lanes at next (Line.Do Actor.Sanitizer lane (Act.Command q)) sound spans = cc
  line_is few_hosts few_lanes at next (Line.Do Actor.Sanitizer lane (Act.Load d)) sound spans = cc
  line_is few_hosts few_lanes at next (Line.Do Actor.Sanitizer lane (Act.Store d value)) sound spans = cc
