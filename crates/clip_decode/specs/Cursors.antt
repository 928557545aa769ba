-- Where a cursor stands.
use Rattle.std.specs.Prelude.{◌≡◌, ℕ, ◌-◌, ◌*◌, ◌<◌, List, Ok}
use Rattle.ima_adpcm.specs.Decoder.{State}
use Rattle.ima_adpcm.specs.Frames.{DecodersAt}
use Rattle.wave_read.specs.Wave.{wave}
use Rattle.wave_read.specs.declared.kind.Kind.TheVariants.{Ima}
use Rattle.wave_read.specs.declared.wave.Wave.{Wave}
use Rattle.clip_decode.specs.Ima.{block_bytes, block_number, frame_in_block}
use Rattle.clip_decode.specs.Pages.{frames_per_page}
use Rattle.clip_decode.specs.declared.cursor.Cursor.{Cursor}

-- Decoders from which the frames of an IMA sound can be decoded from a frame on. Inside a block those of its channels
-- stand at the frame before. At the beginning of a block they may be any, since a block starts anew.
pub record ReadyAt (bytes : List ℕ) (w : Wave) (frame : ℕ) (decoders : List State) : Type 0 where
  pub inside : 0 < frame_in_block w frame
      → DecodersAt (block_bytes bytes w (block_number w frame)) w.channels (frame_in_block w frame - 1) decoders

-- A cursor can fill the page that it stands at, where it is one of this file: it stands at its beginning, or each
-- earlier page was filled from a file of the same bytes. Only IMA ADPCM needs what those left.
pub record StandsAt (bytes : List ℕ) (cursor : Cursor) : Type 0 where
  pub ready : (w : Wave) → wave bytes ≡ Ok w → w.kind ≡ Ima → frames_per_page * cursor.page < w.frames
      → ReadyAt bytes w (frames_per_page * cursor.page) cursor.decoders
