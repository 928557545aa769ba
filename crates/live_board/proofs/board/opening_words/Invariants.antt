use Rattle.std.proofs.Common.{◌≡◌, ◌∷◌, ◌++◌, take}
use Rattle.std.specs.Prelude.{replicate}
use Rattle.live_board.proofs.board.opening_words.Given as goal

abbrev pub invariant-loop-dial : goal.invariant-loop-dial
invariant-loop-dial l = l.words.items ≡ 0 ∷ take l.dial-index l.opening.dials.items

abbrev pub invariant-loop : goal.invariant-loop
invariant-loop l = l.words.items ≡ 0 ∷ (l.opening.dials.items ++ replicate l.counter 0)
