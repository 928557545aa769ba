use Rattle.std.proofs.Common.{arith, ◌≡◌, [], ◌∷◌, ◌++◌, sym, ap, ◌∙◌}
use Rattle.scene_model.specs.declared.reply.Reply.TheVariants.{Cycle}
use Rattle.live_board.specs.Rule.{told_word}
use Rattle.live_board.specs.Steps.{Me'}
use Rattle.live_board_tests.proofs.one_thread.what_a_hand_tells_is_found_and_not_yet_booked.Goals as goal

-- src/one_thread.rt:38:5
pub store_told-requires-clause-word : goal.store_told-requires-clause-word
store_told-requires-clause-word g c = (
  Cycle 3,
  omega arith,
  c.told_word-word.ensures.word ∙ ap (λ (me : Me'). told_word (me.0.hand.replies ++ Cycle 3 ∷ [])) (sym c.split_hand-hand.ensures.3),
)
