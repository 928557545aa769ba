-- Which word of the board an edit changes, and the largest word at each place.
use Rattle.std.specs.Prelude.{ℕ, zero, suc, ◌+◌, ◌*◌, List, [], ◌∷◌, ◌++◌, length, replicate, Option, None, Some, slice_index, if◌then◌else◌}
use Rattle.std.specs.Option.{option_map, option_map_or}
use Rattle.scene_model.specs.declared.edit.Edit.{Edit}
use Rattle.scene_model.specs.declared.edit.Edit.TheVariants.{Attach, Detach, SetGain, Start, Stop, From, Until, Seek, Loop}
use Rattle.scene_model.specs.Limits as limits
use Rattle.scene_model.specs.PlanData.{PlanData}
use Rattle.scene_model.specs.Plans.{made, reply, is_done}
use Rattle.mix_model.specs.Board.{board}
use Rattle.node_graph.specs.ListChanges.{number_of}

-- the place of the word that an edit changes where it is done; an edit of where a bus leads changes none
abbrev pub dial_of : PlanData → Edit → Option ℕ
dial_of p (Attach node out to) = None
dial_of p (Detach node out) = None
dial_of p (SetGain node out gain) = option_map (λ (bus : ℕ). 5 * length p.nodes + bus) (number_of p.buses node out)
dial_of p (Start node) = Some (5 * node)
dial_of p (Stop node) = Some (5 * node)
dial_of p (From node value) = Some (5 * node + 1)
dial_of p (Until node value) = Some (5 * node + 2)
dial_of p (Seek node place) = Some (5 * node + 3)
dial_of p (Loop node on) = Some (5 * node + 4)

-- that place, with the word that a plan has there
abbrev pub word_at : PlanData → Option ℕ → List (ℕ × ℕ)
word_at p dial = option_map_or (λ (place : ℕ). (place, slice_index (board p) place) ∷ []) dial []

-- what is stored where an edit is done: the word that it changes
abbrev pub dial_set : PlanData → Edit → List (ℕ × ℕ)
dial_set p e = if is_done (reply p e) then word_at (made p e) (dial_of p e) else []

-- the largest words of a node: a switch, two times, the last seek's word, and a switch
abbrev pub most_node_words : List ℕ
most_node_words = 1 ∷ limits.most_frames ∷ limits.most_frames ∷ 18446744073709551615 ∷ 1 ∷ []

-- those of that many nodes, with these behind them
abbrev pub most_before : ℕ → List ℕ → List ℕ
most_before zero rest = rest
most_before (suc nodes) rest = most_node_words ++ most_before nodes rest

-- those of a board of that many nodes and buses
abbrev pub most_words : ℕ → ℕ → List ℕ
most_words nodes buses = most_before nodes (replicate buses limits.most_gain)
