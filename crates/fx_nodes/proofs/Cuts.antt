-- Frames that are cut into blocks.
use Rattle.std.proofs.Common.{◌≡◌, ◌∙◌, ℤ, List, [], ◌∷◌, ◌++◌, length, ap, refl, sym, arith, append_assoc}
use Rattle.std.proofs.lemmas.List.{append-nil}
use Rattle.fx_nodes.specs.Blocks.{AreGiven, Block, all_given, all_taken}
use Rattle.fx_nodes.specs.Effects.{chain_value}
use Rattle.fx_nodes.specs.declared.effect.Effect.{Effect}
use Rattle.fx_nodes.proofs.Chained.{length-chain_value}

after : (effects : List Effect) (before : List ℤ) (blocks : List Block) → AreGiven effects before blocks
    → chain_value effects (before ++ all_taken blocks) ≡ chain_value effects before ++ all_given blocks
after effects before [] are = simp append-nil
after effects before (block ∷ blocks) are =
    ap (chain_value effects) (sym (append_assoc before block.taken (all_taken blocks))) ∙ after effects (before ++ block.taken) blocks are.1
    ∙ ap (λ xs. xs ++ all_given blocks) are.0 ∙ append_assoc (chain_value effects before) block.given (all_given blocks)

empty : (xs : List ℤ) → length xs ≡ 0 → xs ≡ []
empty [] none = refl
empty (x ∷ xs) none = absurd (omega (arith, none))

pub cut_anywhere : (effects : List Effect) (blocks : List Block) → AreGiven effects [] blocks → all_given blocks ≡ chain_value effects (all_taken blocks)
cut_anywhere effects blocks are =
    let none : chain_value effects [] ≡ [] = empty _ (length-chain_value effects []) in
    sym (after effects [] blocks are ∙ ap (λ xs. xs ++ all_given blocks) none)
