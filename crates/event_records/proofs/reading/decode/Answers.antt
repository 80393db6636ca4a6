use Rattle.std.proofs.Common.{rules, ◌≡◌, None, Some, Ok, slice_index, refl, ap}
use Rattle.dcd_base.specs.declared.capacity.Tag.{Tag}
use Rattle.event_records.{proofs.Records.record_reads, proofs.Records.record_read, proofs.Records.not_read, proofs.Records.same_event, specs.Records.record_fault}
use Rattle.event_records.specs.declared.faults.RecordFault.{RecordFault}
use Rattle.event_records.proofs.reading.decode.Goals as goal

pub returns-then-not-is_identifier-clause-only : goal.returns-then-not-is_identifier-clause-only
returns-then-not-is_identifier-clause-only c = λ event reads.
    let fault : record_fault c.args.bytes.now ≡ Some RecordFault.OtherUuid = search rules in
    absurd (not_read c.args.bytes.now RecordFault.OtherUuid event fault reads)

pub returns-then-bytes-ne128-clause-only : goal.returns-then-bytes-ne128-clause-only
returns-then-bytes-ne128-clause-only c = λ event reads.
    let fault : record_fault c.args.bytes.now ≡ Some (RecordFault.OtherLength (slice_index c.args.bytes.now 16)) = search rules in
    absurd (not_read c.args.bytes.now _ event fault reads)

pub returns-in_default-clause-only : goal.returns-in_default-clause-only
returns-in_default-clause-only c = λ event reads.
    let fault : record_fault c.args.bytes.now ≡ Some (RecordFault.UnknownKind (slice_index c.args.bytes.now 48)) = search rules in
    absurd (not_read c.args.bytes.now _ event fault reads)

pub returns-clause-reads : goal.returns-clause-reads
returns-clause-reads c =
    let none : record_fault c.args.bytes.now ≡ None = search rules in
    record_reads c.args.bytes.now _ c.fits-bytes c.told-bytes none record {
      handle = c.u16_at-2.ensures;
      kind = c.in-Some.ensures.known;
      host = c.u16_at-3.ensures;
      region = refl;
      more = refl;
      start = c.u64_at.ensures;
      length = c.u64_at-2.ensures;
      tag = ap (λ (t : Tag). t.0) c.tag_at.ensures;
      sequence = c.u16_at.ensures;
      extents_available = c.u32_at.ensures;
      tags_available = c.u32_at-2.ensures;
    }

pub returns-clause-only : goal.returns-clause-only
returns-clause-only c = λ event reads.
    ap (λ e. Ok e) (same_event c.args.bytes.now _ event record {
      handle = c.u16_at-2.ensures;
      kind = c.in-Some.ensures.known;
      host = c.u16_at-3.ensures;
      region = refl;
      more = refl;
      start = c.u64_at.ensures;
      length = c.u64_at-2.ensures;
      tag = ap (λ (t : Tag). t.0) c.tag_at.ensures;
      sequence = c.u16_at.ensures;
      extents_available = c.u32_at.ensures;
      tags_available = c.u32_at-2.ensures;
    } (record_read c.args.bytes.now event reads).1)
