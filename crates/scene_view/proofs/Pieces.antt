-- A text that is written piece by piece.
use Rattle.std.proofs.Common.{◌≡◌, ℕ, ◌+◌, ◌<◌, zero, suc, Bool, List, [], ◌∷◌, ◌++◌, length, take, get_or, refl, sym, ◌∙◌, ap, append_assoc, append-nil, zero-add, arith}
use Rattle.std.specs.List.{flat_map, range_with_len}
use Rattle.std.proofs.lemmas.Grind.{flat_map-append}
use Rattle.std.proofs.lemmas.List.{take_more}
use Rattle.std.specs.Prelude.{Option, Some, slice_get, slice_index_or}
use Rattle.std.specs.Option.{option_map_or}
use Rattle.std.proofs.lemmas.Option.{slice_get-get_or}
use Rattle.scene_model.specs.declared.node.Node.{Node}
use Rattle.scene_model.specs.declared.node_state.NodeState.{NodeState}
use Rattle.scene_model.specs.PlanData.{PlanData}
use Rattle.scene_model.specs.SceneData.{SceneData}
use Rattle.mix_model.specs.Pulled.{node, pulled}
use Rattle.scene_view.specs.Wiring.{node_line, node_lines, node_name}

more_of : (f : ℕ → List ℕ) (a n : ℕ) → flat_map f (range_with_len a (n + 1)) ≡ flat_map f (range_with_len a n) ++ f (a + n)
more_of f a zero = let e : a + 0 ≡ a = omega arith in rw e (append-nil (f a))
more_of f a (suc n) =
    let one : suc n + 1 ≡ suc (n + 1) = omega arith in
    let place : a + suc n ≡ a + 1 + n = omega arith in
    rw (one, place) (ap (λ xs. f a ++ xs) (more_of f (a + 1) n) ∙ sym (append_assoc (f a) (flat_map f (range_with_len (a + 1) n)) (f (a + 1 + n))))

-- the pieces of one number more
pub number_more : (f : ℕ → List ℕ) (now new : List ℕ) (n : ℕ) → now ≡ flat_map f (range_with_len 0 n) → new ≡ now ++ f n → new ≡ flat_map f (range_with_len 0 (n + 1))
number_more f now new n before is =
    is ∙ ap (λ xs. xs ++ f n) before ∙ sym (more_of f 0 n ∙ ap (λ k. flat_map f (range_with_len 0 n) ++ f k) (zero-add n))

-- the piece of one element more
pub element_more : {A : Type 0} (f : A → List ℕ) (xs : List A) (now new : List ℕ) (i : ℕ) (d : A) → i < length xs → now ≡ flat_map f (take i xs) → new ≡ now ++ f (get_or xs i d) → new ≡ flat_map f (take (i + 1) xs)
element_more f xs now new i d inside before is =
    is ∙ ap (λ ys. ys ++ f (get_or xs i d)) before
    ∙ ap (λ ys. flat_map f (take i xs) ++ ys) (sym (append-nil (f (get_or xs i d))))
    ∙ sym (ap (flat_map f) (take_more xs i d inside) ∙ flat_map-append f (take i xs) (get_or xs i d ∷ []))

-- the line of one node more
pub node_more : (s : SceneData) (p : PlanData) (t n : ℕ) (now new added name : List ℕ) (state : NodeState) (heard : Bool) → now ≡ node_lines s p t n → new ≡ now ++ added → added ≡ node_line s n name state heard → name ≡ node_name s n → state ≡ node p n → heard ≡ pulled p t n → new ≡ node_lines s p t (n + 1)
unfolding node_lines
node_more s p t n now new added name state heard before is line name_is state_is heard_is =
    let same : added ≡ node_line s n (node_name s n) (node p n) (pulled p t n) = line ∙ rw (name_is, state_is, heard_is) refl in
    number_more (λ k. node_line s k (node_name s k) (node p k) (pulled p t k)) now new n before (is ∙ ap (λ xs. now ++ xs) same)

-- the name of a node, read from its row
pub name_at : (s : SceneData) (rows : List Node) (n : ℕ) (d : Node) (name : List ℕ) → rows ≡ s.nodes → n < length rows → name ≡ (slice_index_or rows n d).name → name ≡ node_name s n
name_at s rows n d name rows_are inside is =
    let found : slice_get rows n ≡ Some (slice_index_or rows n d) = slice_get-get_or rows n d inside in
    is ∙ sym (ap (λ (r : Option Node). option_map_or (λ (x : Node). x.name) r []) (sym (ap (λ (xs : List Node). slice_get xs n) rows_are) ∙ found))
