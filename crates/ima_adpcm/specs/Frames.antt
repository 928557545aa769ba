-- Frames of some channels, interleaved: the sample of channel c in frame f stands at f * ch + c.
use Rattle.std.specs.Prelude.{ℕ, ◌+◌, ◌*◌, ◌<◌, ◌≤◌, ◌≡◌, ◌≢◌, List, ℤ, pos, slice_index_or}
use Rattle.ima_adpcm.specs.Decoder.{State}
use Rattle.ima_adpcm.specs.Blocks.{state_after, samples_after, block_state}

abbrev pub sample_at : ℕ → List ℤ → ℕ → ℕ → ℤ
sample_at ch samples f c = slice_index_or samples (f * ch + c) (pos 0)

-- one sample is written, and every other one is as before
pub record Put (ch f c : ℕ) (value : ℤ) (old new : List ℤ) : Type 0 where
  pub here : sample_at ch new f c ≡ value
  pub other_frames : (g d : ℕ) → d < ch → g ≢ f → sample_at ch new g d ≡ sample_at ch old g d
  pub other_channels : (g d : ℕ) → d < ch → d ≢ c → sample_at ch new g d ≡ sample_at ch old g d

-- frames `at` to `at + n - 1` of channel c have the samples `value 0` to `value (n - 1)`, and all else is as before
pub record ChannelWritten (ch c at n : ℕ) (value : ℕ → ℤ) (old new : List ℤ) : Type 0 where
  pub here : (i : ℕ) → i < n → sample_at ch new (at + i) c ≡ value i
  pub before : (f d : ℕ) → d < ch → f < at → sample_at ch new f d ≡ sample_at ch old f d
  pub beyond : (f d : ℕ) → d < ch → at + n ≤ f → sample_at ch new f d ≡ sample_at ch old f d
  pub other_channels : (f d : ℕ) → d < ch → d ≢ c → sample_at ch new f d ≡ sample_at ch old f d

-- a decoder of channel c has run over the n codes from code `from` on, and their samples are written from frame `at` on
pub record ChannelRun (bytes : List ℕ) (ch c from n at : ℕ) (old_state new_state : State) (old new : List ℤ) : Type 0 where
  pub state : new_state ≡ state_after bytes ch c from old_state n
  pub written : ChannelWritten ch c at n (samples_after bytes ch c from old_state) old new

-- the first n frames have the samples `value f c`
pub record FramesAre (ch n : ℕ) (value : ℕ → ℕ → ℤ) (samples : List ℤ) : Type 0 where
  pub each : (f c : ℕ) → f < n → c < ch → sample_at ch samples f c ≡ value f c

-- the decoders of a block's channels stand at a frame
pub record DecodersAt (bytes : List ℕ) (ch frame : ℕ) (decoders : List State) : Type 0 where
  pub each : (c : ℕ) (other : State) → c < ch → slice_index_or decoders c other ≡ block_state bytes ch c frame
