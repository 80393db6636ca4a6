use Rattle.std.proofs.Common.{rules}
use Rattle.event_records.proofs.Records.{record_writes}
use Rattle.event_records.proofs.laws.law_event_is_spelled.Goals as goal

pub returns : goal.returns
returns c =
    record_writes c.args.event.now c.fits_16.ensures c.fits_16-2.ensures c.fits_8.ensures c.fits_64.ensures c.fits_64-2.ensures
    (search rules) c.are_bytes.ensures c.fits_16-3.ensures c.fits_32.ensures c.fits_32-2.ensures
