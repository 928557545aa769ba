use Rattle.std.proofs.Common.{◌≡◌, take}
use Rattle.live_graph.specs.Dials.{most_words}
use Rattle.live_graph.proofs.opening.largest_words.Given as goal

abbrev pub invariant-loop-place : goal.invariant-loop-place
invariant-loop-place l = l.words.items ≡ take l.place (most_words l.nodes l.buses)
