use Rattle.std.proofs.Common.{◌-◌, ◌/◌}
use Rattle.clip_decode.specs.G711.{alaw_value, ulaw_value}
use Rattle.clip_decode.specs.Pcm.{pcm_value}
use Rattle.clip_decode.proofs.FrameContainers.{containers_there, containers_written, pcm_layout, alaw_layout, ulaw_layout, pcm_whole, alaw_whole, ulaw_whole, pcm_written, alaw_written, ulaw_written, ima_written}
use Rattle.clip_decode.proofs.decoding.frames_into.Goals as goal

pub samples_into-requires-clause-there : goal.samples_into-requires-clause-there
samples_into-requires-clause-there c =
    let bytes = c.args.bytes.now in
    let w = c.args.wave.now in
    let lies = c.requires.lawful.lies in
    rw (c.from.ensures, c.sound_from-containers.ensures)
    (containers_there bytes w c.args.frames.start c.args.frames.end (w.width / 8) lies.inside (pcm_layout bytes w lies c.in-Pcm.is)
    (pcm_whole bytes w lies c.in-Pcm.is) c.requires.some c.requires.there)

pub returns-in-Pcm-clause-written : goal.returns-in-Pcm-clause-written
returns-in-Pcm-clause-written c =
    let bytes = c.args.bytes.now in
    let w = c.args.wave.now in
    let lies = c.requires.lawful.lies in
    pcm_written bytes w c.args.frames.start (c.args.frames.end - c.args.frames.start) c.samples_into.new.out c.in-Pcm.is
    (containers_written pcm_value bytes w c.args.frames.start (c.args.frames.end - c.args.frames.start) (w.width / 8) c.samples_into.new.out
    lies.channels_least (pcm_layout bytes w lies c.in-Pcm.is)
    (rw (c.from.ensures, c.sound_from-containers.ensures) at c.samples_into.ensures))

pub alaw_into-requires-clause-there : goal.alaw_into-requires-clause-there
alaw_into-requires-clause-there c =
    let bytes = c.args.bytes.now in
    let w = c.args.wave.now in
    let lies = c.requires.lawful.lies in
    rw (c.from.ensures, c.sound_from.ensures)
    (containers_there bytes w c.args.frames.start c.args.frames.end 1 lies.inside (alaw_layout bytes w lies c.in-Alaw.is)
    (alaw_whole bytes w lies c.in-Alaw.is) c.requires.some c.requires.there)

pub returns-in-Alaw-clause-written : goal.returns-in-Alaw-clause-written
returns-in-Alaw-clause-written c =
    let bytes = c.args.bytes.now in
    let w = c.args.wave.now in
    let lies = c.requires.lawful.lies in
    alaw_written bytes w c.args.frames.start (c.args.frames.end - c.args.frames.start) c.alaw_into.new.out c.in-Alaw.is
    (containers_written alaw_value bytes w c.args.frames.start (c.args.frames.end - c.args.frames.start) 1 c.alaw_into.new.out
    lies.channels_least (alaw_layout bytes w lies c.in-Alaw.is)
    (rw (c.from.ensures, c.sound_from.ensures) at c.alaw_into.ensures))

pub ulaw_into-requires-clause-there : goal.ulaw_into-requires-clause-there
ulaw_into-requires-clause-there c =
    let bytes = c.args.bytes.now in
    let w = c.args.wave.now in
    let lies = c.requires.lawful.lies in
    rw (c.from.ensures, c.sound_from-in-Ulaw.ensures)
    (containers_there bytes w c.args.frames.start c.args.frames.end 1 lies.inside (ulaw_layout bytes w lies c.in-Ulaw.is)
    (ulaw_whole bytes w lies c.in-Ulaw.is) c.requires.some c.requires.there)

pub returns-in-Ulaw-clause-written : goal.returns-in-Ulaw-clause-written
returns-in-Ulaw-clause-written c =
    let bytes = c.args.bytes.now in
    let w = c.args.wave.now in
    let lies = c.requires.lawful.lies in
    ulaw_written bytes w c.args.frames.start (c.args.frames.end - c.args.frames.start) c.ulaw_into.new.out c.in-Ulaw.is
    (containers_written ulaw_value bytes w c.args.frames.start (c.args.frames.end - c.args.frames.start) 1 c.ulaw_into.new.out
    lies.channels_least (ulaw_layout bytes w lies c.in-Ulaw.is)
    (rw (c.from.ensures, c.sound_from-in-Ulaw.ensures) at c.ulaw_into.ensures))

pub returns-in-Ima-clause-written : goal.returns-in-Ima-clause-written
returns-in-Ima-clause-written c =
    ima_written c.args.bytes.now c.args.wave.now c.args.frames.start (c.args.frames.end - c.args.frames.start) c.ima_into.new.out
    c.in-Ima.is c.ima_into.ensures.written
