-- Each field of the template in its place.
use Rattle.std.proofs.Common.{refl}
use Rattle.wave_write.specs.Header.{header}
use Rattle.wave_write.proofs.riff_header.header.Goals as goal

pub returns : goal.returns
unfolding header
returns c =
    rw (
      c.copy_from_slice.ensures.after,
      c.copy_from_slice-2.ensures.after,
      c.copy_from_slice-3.ensures.after,
      c.copy_from_slice-4.ensures.after,
      c.copy_from_slice-5.ensures.after,
      c.copy_from_slice-6.ensures.after,
      c.copy_from_slice-7.ensures.after,
      c.to_le_bytes.ensures,
      c.to_le_bytes-2.ensures,
      c.to_le_bytes-3.ensures,
      c.to_le_bytes-4.ensures,
      c.to_le_bytes-5.ensures,
      c.to_le_bytes-6.ensures,
      c.to_le_bytes-7.ensures,
      c.from.ensures,
      c.from-2.ensures,
      c.from-3.ensures,
      c.from-4.ensures,
    ) refl
