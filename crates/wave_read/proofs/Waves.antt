-- A wave of a lawful format and a part of the file is lawful.
use Rattle.std.proofs.Common.{◌≡◌, ℕ, ◌+◌, ◌/◌, ◌≤◌, List, length, refl}
use Rattle.std.specs.Prelude.{Option}
use Rattle.std.proofs.Math.Nat.{div-mul-le_self}
use Rattle.wave_read.specs.Frames.{frames_held, kind_frames}
use Rattle.wave_read.specs.StepIndices.{block_count}
use Rattle.wave_read.specs.Wave.{wave_from}
use Rattle.wave_read.specs.Laws.{IsLayout, IsFormat, HasWholeFrames, HoldsFrames, IsWaveIn}
use Rattle.wave_read.specs.declared.format.Format.{Format}
use Rattle.wave_read.specs.declared.found.Span.{Span}
use Rattle.wave_read.specs.declared.kind.Kind.{Kind}
use Rattle.wave_read.specs.declared.kind.Kind.TheVariants.{Pcm, Alaw, Ulaw, Ima}
use Rattle.wave_read.specs.declared.wave.Wave.{Wave}
use Rattle.wave_read.proofs.ImaBlocks.{headers_inside, groups_inside, counted_le}

whole : (w : Wave) → w.frames ≡ w.data_len / w.align → HasWholeFrames w
whole w e = record { fit = rw e (div-mul-le_self w.data_len w.align) }

frames_held_by : (kind : Kind) (w : Wave) (count : Option ℕ) → 1 ≤ w.channels → IsLayout kind w.channels w.width w.align
    → w.frames ≡ kind_frames kind w.align w.channels w.data_len count → HoldsFrames kind w
unfolding block_count
frames_held_by Pcm w count some l e = whole w e
frames_held_by Alaw w count some l e = whole w e
frames_held_by Ulaw w count some l e = whole w e
frames_held_by Ima w count some l e =
    let held : w.frames ≤ frames_held w.align w.channels w.data_len = rw e (counted_le count (frames_held w.align w.channels w.data_len)) in
    record {
      held = held;
      headers = λ b below. headers_inside w.align w.channels w.data_len w.frames b some l.header held below;
      groups_of_eight = λ n below. groups_inside w.align w.channels w.data_len w.frames n some l.header l.groups held below;
    }

pub wave_lies : (bytes : List ℕ) (f : Format) (s : Span) (count : Option ℕ) → IsFormat f → s.from + s.len ≤ length bytes
    → IsWaveIn bytes (wave_from f s count)
wave_lies bytes f s count lawful inside = record {
  inside = inside;
  channels_least = lawful.channels_least;
  channels_most = lawful.channels_most;
  rate_least = lawful.rate_least;
  rate_most = lawful.rate_most;
  positive = lawful.positive;
  layout = lawful.layout;
  frames = frames_held_by f.kind (wave_from f s count) count lawful.channels_least lawful.layout refl;
}
