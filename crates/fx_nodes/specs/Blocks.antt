-- Frames that come in blocks.
use Rattle.std.specs.Prelude.{◌≡◌, ℤ, List, [], ◌∷◌, ◌++◌}
use Rattle.std.specs.List.{flat_map}
use Rattle.fx_nodes.specs.Effects.{chain_value}
use Rattle.fx_nodes.specs.declared.effect.Effect.{Effect}

-- a block of frames, and the frames that a chain gave for them
pub record Block : Type 0 where
  pub taken : List ℤ
  pub given : List ℤ

-- each block was given what the effects make of its frames after all frames before
abbrev pub AreGiven : List Effect → List ℤ → List Block → Type 0
AreGiven effects before [] = Unit {0}
AreGiven effects before (block ∷ blocks) =
    (chain_value effects (before ++ block.taken) ≡ chain_value effects before ++ block.given) × AreGiven effects (before ++ block.taken) blocks

-- all frames of the blocks, and all that the chain gave
abbrev pub all_taken : List Block → List ℤ
all_taken blocks = flat_map (λ block. block.taken) blocks

abbrev pub all_given : List Block → List ℤ
all_given blocks = flat_map (λ block. block.given) blocks
