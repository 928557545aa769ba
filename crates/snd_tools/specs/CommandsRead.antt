-- The command as a program holds it, and the command that it stands for.
use Rattle.std.specs.Prelude.{◌≡◌, ◌≤◌, ℕ, List, length, All, IsTrue, Result, Ok, Err}
use Rattle.arrayvec.specs.ArrayVec.{ArrayVec}
use Rattle.fx_nodes.specs.Effects.{is_in_range, most_effects}
use Rattle.fx_nodes.specs.declared.effect.Effect.{Effect}
use Rattle.fx_render.specs.Effected.{most_frames}
use Rattle.snd_tools.specs.declared.command.Command.{Command as HeldCommand}
use Rattle.snd_tools.specs.declared.command.Command.TheVariants.{Mix as HeldMix, Info as HeldInfo, Gen as HeldGen, Fx as HeldFx}
use Rattle.snd_tools.specs.declared.render_command.RenderCommand.{RenderCommand}
use Rattle.snd_tools.specs.declared.view_command.ViewCommand.{ViewCommand}
use Rattle.snd_tools.specs.Commands.{Command, Mix, Info, Gen, Fx, Render, View}

-- a command of `scenetool`
abbrev pub said_command : HeldCommand → Command
said_command (HeldMix scene out) = Mix scene.now out.now
said_command (HeldInfo file) = Info file.now
said_command (HeldGen number prefix) = Gen number prefix.now
said_command (HeldFx file out count effects) = Fx file.now out.now count effects.items

-- the command of `scenerender`
abbrev pub said_render : RenderCommand → Command
said_render held = Render held.scene.now held.out.now held.workers

-- the command of `sceneview`
abbrev pub said_view : ViewCommand → Command
said_view held = View held.scene.now held.frame

abbrev pub GivesCommandBy : {Held : Type 0} → (Held → Command) → Result Held ℕ → Result Command ℕ → Type 0
GivesCommandBy said (Ok held) command = command ≡ Ok (said held)
GivesCommandBy said (Err word) command = command ≡ Err word

abbrev pub GivesCommand : Result HeldCommand ℕ → Result Command ℕ → Type 0
GivesCommand held command = GivesCommandBy said_command held command

-- the effects as a program holds them
abbrev pub GivesEffects : Result (ArrayVec Effect) ℕ → Result (List Effect) ℕ → Type 0
GivesEffects (Ok held) effects = effects ≡ Ok held.items
GivesEffects (Err word) effects = effects ≡ Err word

-- what a chain can be opened with: no more effects than it has, with their numbers in range, for no more frames than are written
pub record CanBeHeard (count : ℕ) (effects : List Effect) : Type 0 where
  pub count_most : count ≤ most_frames
  pub effects_most : length effects ≤ most_effects
  pub in_range : All (λ effect. IsTrue (is_in_range effect)) effects

abbrev pub CanBeDone : HeldCommand → Type 0
CanBeDone (HeldMix scene out) = Unit {0}
CanBeDone (HeldInfo file) = Unit {0}
CanBeDone (HeldGen number prefix) = Unit {0}
CanBeDone (HeldFx file out count effects) = CanBeHeard count effects.items
