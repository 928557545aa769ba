use Rattle.std.proofs.Common.{◌<◌, ◌∙◌, rules, FitsSigned}
use Rattle.std.specs.Int.{w32}
use Rattle.std.proofs.lemmas.Int.{to_z-of_z}
use Rattle.scene_clips.specs.ConverterData.{ConverterData}
use Rattle.scene_clips.proofs.Rates.{first_only}
use Rattle.scene_clips.proofs.converter.Converter.sample.Goals as goal

pub returns-then-weight-eq0-clause-value : goal.returns-then-weight-eq0-clause-value
returns-then-weight-eq0-clause-value c =
    let inside = c.self.inside in
    let first = c.args.first.now in
    let to : ConverterData = record { conversion = inside.fit; channels = inside.channels } in
    let weighted : c.args.weight < inside.fit.output_rate = rw (← c.self.view_is) at c.requires.weighted in
    let fits : FitsSigned w32 c.channel_of-before.result = search rules in
    rw (to_z-of_z w32 c.channel_of-before.result fits, ← c.self.view_is)
    (c.channel_of-before.ensures.value ∙ first_only to first c.args.second.now c.args.weight c.args.channel weighted c.if-weight-eq0.true)
