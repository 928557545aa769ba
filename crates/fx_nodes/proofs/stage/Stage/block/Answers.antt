-- Each effect on frames that follow others.
use Rattle.std.proofs.Common.{◌≡◌, ◌*◌, ◌++◌, length, rules}
use Rattle.std.proofs.lemmas.List.{length-append}
use Rattle.fx_nodes.specs.Samples.{sample}
use Rattle.fx_nodes.proofs.Values.{delay_value, fade_value, level_value, pan_value, reads_behind, taken_of_more}
use Rattle.fx_nodes.proofs.stage.Stage.block.Goals as goal

pub returns-in-Delaying-clause-value : goal.returns-in-Delaying-clause-value
returns-in-Delaying-clause-value c taken even ready =
    let line = c.in-Delaying.line in
    let ys = c.args.frames.now in
    let zs = c.block.new.samples in
    let len : length zs ≡ length ys = search rules in
    let holds = taken_of_more (2 * line.frames) line.decay line.place line.ring.items taken ys (rw c.in-Delaying.is at ready) in
    let out = c.block.ensures.value (sample (taken ++ ys)) (length taken) holds (reads_behind taken ys) in
    rw (c.in-Delaying.is, c.block.ensures.numbers.0, c.block.ensures.numbers.1, length-append taken ys)
    (delay_value line.frames line.decay c.args.start taken ys zs line.some even len out.0, out.1)

pub returns-in-Panning-clause-value : goal.returns-in-Panning-clause-value
returns-in-Panning-clause-value c taken even ready =
    let len : length c.block-in-Panning.new.frames ≡ length c.args.frames.now = search rules in
    rw c.in-Panning.is
    (pan_value c.in-Panning.panner.place c.args.start taken c.args.frames.now c.block-in-Panning.new.frames even len c.block-in-Panning.ensures.made, tt)

pub returns-in-Fading-clause-value : goal.returns-in-Fading-clause-value
returns-in-Fading-clause-value c taken even ready =
    let fader = c.in-Fading.fader in
    let len : length c.block-in-Fading.new.frames ≡ length c.args.frames.now = search rules in
    rw c.in-Fading.is
    (fade_value fader.from fader.to fader.first fader.last c.args.start taken c.args.frames.now c.block-in-Fading.new.frames even len c.block-in-Fading.ensures.made, tt)

pub returns-in-Amplifying-clause-value : goal.returns-in-Amplifying-clause-value
returns-in-Amplifying-clause-value c taken even ready =
    let len : length c.block-in-Amplifying.new.samples ≡ length c.args.frames.now = search rules in
    rw c.in-Amplifying.is
    (level_value c.in-Amplifying.amplifier.gain c.args.start taken c.args.frames.now c.block-in-Amplifying.new.samples even len c.block-in-Amplifying.ensures.made, tt)
