-- What a stream is when it was opened.
use Rattle.std.specs.Prelude.{◌≡◌, ◌⊎◌, [], map, min}
use Rattle.rtrb.specs.Ring.{sent}
use Rattle.clip_decode.specs.ClipData.{ClipData}
use Rattle.clip_decode.specs.Pages.{page_count}
use Rattle.stream_reel.specs.Asks.{wanted_by, asks_from}
use Rattle.stream_reel.specs.Ends.{heard, IsStream}
use Rattle.stream_reel.specs.Steps.{CannotAsk}
use Rattle.stream_reel.specs.declared.stream.Ends.{Ends}

-- the two ends of a stream of the clip, by which nothing was heard. Pages 0 and 1 were asked for, as far as there are such
pub record IsOpened (clip : ClipData) (ends : Ends) : Type 0 where
  pub stream : IsStream ends.filler ends.listener
  pub this_clip : ends.filler.clip ≡ clip
  pub heard : heard ends.listener ≡ []
  pub round : ends.listener.round ≡ 0
  pub place : ends.listener.place ≡ 0
  pub beside : (ends.listener.kept ≡ []) ⊎ CannotAsk ends.listener
  pub asked : map wanted_by (sent ends.listener.asks) ≡ asks_from 0 0 (min 2 (page_count clip.wave.frames))
