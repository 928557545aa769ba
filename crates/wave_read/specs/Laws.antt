-- What holds of each format that is read, and of each wave that is answered.
use Rattle.std.specs.Prelude.{◌≡◌, ℕ, ◌+◌, ◌*◌, ◌/◌, ◌%◌, ◌<◌, ◌≤◌, List, length}
use Rattle.std.specs.Int.{div_ceil}
use Rattle.wave_read.specs.Frames.{frames_per_block, frames_held}
use Rattle.wave_read.specs.StepIndices.{step_index, block_count, last_step}
use Rattle.wave_read.specs.declared.format.Format.{Format}
use Rattle.wave_read.specs.declared.kind.Kind.{Kind}
use Rattle.wave_read.specs.declared.kind.Kind.TheVariants.{Pcm, Alaw, Ulaw, Ima}
use Rattle.wave_read.specs.declared.wave.Wave.{Wave}

-- a container of 8, 16, 24 or 32 bits, and a frame of one container a channel
pub record IsPcmLayout (channels width align : ℕ) : Type 0 where
  pub whole : width % 8 ≡ 0
  pub width_least : 8 ≤ width
  pub width_most : width ≤ 32
  pub frame : align ≡ channels * (width / 8)

-- a byte a sample
pub record IsG711Layout (channels width align : ℕ) : Type 0 where
  pub byte : width ≡ 8
  pub frame : align ≡ channels * (width / 8)

-- blocks of whole groups of four bytes a channel, the first of which is the header
pub record IsImaLayout (channels width align : ℕ) : Type 0 where
  pub nibble : width ≡ 4
  pub header : 4 * channels ≤ align
  pub groups : align % (4 * channels) ≡ 0

abbrev pub IsLayout : Kind → ℕ → ℕ → ℕ → Type 0
IsLayout Pcm channels width align = IsPcmLayout channels width align
IsLayout Alaw channels width align = IsG711Layout channels width align
IsLayout Ulaw channels width align = IsG711Layout channels width align
IsLayout Ima channels width align = IsImaLayout channels width align

pub record IsFormat (f : Format) : Type 0 where
  pub channels_least : 1 ≤ f.channels
  pub channels_most : f.channels ≤ 8
  pub rate_least : 1 ≤ f.rate
  pub rate_most : f.rate ≤ 768000
  pub positive : 0 < f.align
  pub layout : IsLayout f.kind f.channels f.width f.align

-- the frames of PCM and G.711 stand whole in the data
pub record HasWholeFrames (w : Wave) : Type 0 where
  pub fit : w.frames * w.align ≤ w.data_len

-- The blocks of IMA hold the frames. Each block that holds one of them has its whole header in the data, and each frame
-- has its group of eight there, or only the header of its block where it is the first one.
pub record HasBlocks (w : Wave) : Type 0 where
  pub held : w.frames ≤ frames_held w.align w.channels w.data_len
  pub headers : (block : ℕ) → block < block_count w → block * w.align + 4 * w.channels ≤ w.data_len
  pub groups_of_eight : (frame : ℕ) → frame < w.frames →
      let block_frames = frames_per_block w.align w.channels in
      frame / block_frames * w.align + 4 * w.channels * (1 + div_ceil (frame % block_frames) 8) ≤ w.data_len

abbrev pub HoldsFrames : Kind → Wave → Type 0
HoldsFrames Pcm w = HasWholeFrames w
HoldsFrames Alaw w = HasWholeFrames w
HoldsFrames Ulaw w = HasWholeFrames w
HoldsFrames Ima w = HasBlocks w

-- a wave that lies in the file, but for its step indices
pub record IsWaveIn (bytes : List ℕ) (w : Wave) : Type 0 where
  pub inside : w.data_from + w.data_len ≤ length bytes
  pub channels_least : 1 ≤ w.channels
  pub channels_most : w.channels ≤ 8
  pub rate_least : 1 ≤ w.rate
  pub rate_most : w.rate ≤ 768000
  pub positive : 0 < w.align
  pub layout : IsLayout w.kind w.channels w.width w.align
  pub frames : HoldsFrames w.kind w

-- A wave of the file. In an IMA one no block that holds a frame has a step index above 88.
pub record IsWaveOf (bytes : List ℕ) (w : Wave) : Type 0 where
  pub lies : IsWaveIn bytes w
  pub steps : w.kind ≡ Ima → (block channel : ℕ) → block < block_count w → channel < w.channels
      → step_index bytes w block channel ≤ last_step
