-- Which files an outcome depends on.
use Rattle.std.specs.Prelude.{◌≡◌, ℕ, List, [], ◌∷◌, Ok}
use Rattle.std.specs.FinMap.{get}
use Rattle.scene_model.specs.SceneData.{SceneData}
use Rattle.scene_model.specs.declared.resource.Resource.{Resource}
use Rattle.snd_io.specs.Files.{Files}
use Rattle.snd_tools.specs.Commands.{Command, Mix, Info, Gen, Fx, Render, View}
use Rattle.snd_tools.specs.Reading.{scene_read}

-- two stores have the same under a name: the same bytes, or nothing
abbrev pub AgreeOn : Files → Files → List ℕ → Type 0
AgreeOn a b name = get a name ≡ get b name

-- and so they do under the names of the resources' sound files
abbrev pub AgreeOnSounds : Files → Files → List Resource → Type 0
AgreeOnSounds a b [] = Unit {0}
AgreeOnSounds a b (resource ∷ more) = AgreeOn a b resource.file × AgreeOnSounds a b more

-- and so they do under SCENE, and under the sound files of the scene that it is
abbrev pub AgreeOnScene : Files → Files → List ℕ → Type 0
AgreeOnScene a b scene =
    AgreeOn a b scene × ((s : SceneData) → scene_read scene (get a scene) ≡ Ok s → AgreeOnSounds a b s.resources)

-- and under each name that the command names
abbrev pub AgreeFor : Files → Files → Command → Type 0
AgreeFor a b (Mix scene out) = AgreeOnScene a b scene
AgreeFor a b (Info file) = AgreeOn a b file
AgreeFor a b (Gen number prefix) = Unit {0}
AgreeFor a b (Fx file out count effects) = AgreeOn a b file
AgreeFor a b (Render scene out workers) = AgreeOnScene a b scene
AgreeFor a b (View scene frame) = AgreeOn a b scene
