-- The words of the board by their places.
use Rattle.std.proofs.Common.{◌≡◌, ℕ, zero, suc, ◌+◌, ◌*◌, ◌<◌, List, [], ◌∷◌, ◌++◌, length, map, Some, refl, ◌∙◌, ap, arith}
use Rattle.std.specs.Prelude.{slice_get}
use Rattle.std.specs.List.{flat_map}
use Rattle.std.proofs.lemmas.List.{length-map}
use Rattle.std.proofs.lemmas.Option.{none-some, same_Some}
use Rattle.scene_model.specs.declared.bus.Bus.{Bus}
use Rattle.scene_model.specs.declared.node_state.NodeState.{NodeState}
use Rattle.scene_model.specs.PlanData.{PlanData}
use Rattle.mix_model.specs.Board.{node_words, board}

abbrev words : List NodeState → List ℕ → List ℕ
words nodes gains = flat_map node_words nodes ++ gains

five_more : (n j : ℕ) → 5 * suc n + j ≡ suc (suc (suc (suc (suc (5 * n + j)))))
five_more n j = omega arith

read_front : (xs ys : List ℕ) (j : ℕ) → j < length xs → slice_get (xs ++ ys) j ≡ slice_get xs j
read_front [] ys j within = absurd (omega arith)
read_front (x ∷ xs) ys zero within = refl
read_front (x ∷ xs) ys (suc j) within = read_front xs ys j (omega arith)

words_of_node : (nodes : List NodeState) (gains : List ℕ) (n j : ℕ) (x : NodeState) → j < 5 → slice_get nodes n ≡ Some x → slice_get (words nodes gains) (5 * n + j) ≡ slice_get (node_words x) j
words_of_node [] gains n j x within at = absurd (none-some x at)
words_of_node (y ∷ nodes) gains zero j x within at =
    let place : 5 * 0 + j ≡ j = omega arith in
    ap (slice_get (words (y ∷ nodes) gains)) place ∙ read_front (node_words y) (words nodes gains) j within ∙ ap (λ (z : NodeState). slice_get (node_words z) j) (same_Some y x at)
words_of_node (y ∷ nodes) gains (suc n) j x within at =
    ap (slice_get (words (y ∷ nodes) gains)) (five_more n j) ∙ words_of_node nodes gains n j x within at

gains_behind : (nodes : List NodeState) (gains : List ℕ) (k : ℕ) → slice_get (words nodes gains) (5 * length nodes + k) ≡ slice_get gains k
gains_behind [] gains k =
    let place : 5 * 0 + k ≡ k = omega arith in ap (slice_get gains) place
gains_behind (y ∷ nodes) gains k =
    ap (slice_get (words (y ∷ nodes) gains)) (five_more (length nodes) k) ∙ gains_behind nodes gains k

length-words : (nodes : List NodeState) (gains : List ℕ) → length (words nodes gains) ≡ 5 * length nodes + length gains
length-words [] gains = omega arith
length-words (y ∷ nodes) gains = omega (arith, length-words nodes gains)

pub length-board : (p : PlanData) → length (board p) ≡ 5 * length p.nodes + length p.buses
length-board p =
    length-words p.nodes (map (λ (b : Bus). b.gain) p.buses) ∙ ap (λ (n : ℕ). 5 * length p.nodes + n) (length-map p.buses (λ (b : Bus). b.gain))

pub node_word : (p : PlanData) (place n j : ℕ) (x : NodeState) → place ≡ 5 * n + j → j < 5 → slice_get p.nodes n ≡ Some x → slice_get (board p) place ≡ slice_get (node_words x) j
node_word p place n j x e within at =
    ap (slice_get (board p)) e ∙ words_of_node p.nodes (map (λ (b : Bus). b.gain) p.buses) n j x within at

pub gain_word : (p : PlanData) (place k : ℕ) → place ≡ 5 * length p.nodes + k → slice_get (board p) place ≡ slice_get (map (λ (b : Bus). b.gain) p.buses) k
gain_word p place k e =
    ap (slice_get (board p)) e ∙ gains_behind p.nodes (map (λ (b : Bus). b.gain) p.buses) k
