-- Where names are distinct, the first row of a name is the one that has it.
use Rattle.std.proofs.Common.{◌≡◌, ℕ, zero, suc, ◌<◌, Bool, false, ◌||◌, List, [], ◌∷◌, ◌++◌, length, map, get_or, Option, Some, None, refl, sym, ◌∙◌, ap, arith}
use Rattle.std.specs.Prelude.{◌↔◌, cond, nat_lt, slice_get, Ok}
use Rattle.std.specs.List.{list_any, position, position_or_len}
use Rattle.std.specs.Option.{option_map}
use Rattle.std.specs.Str.{bytes_eq}
use Rattle.std.proofs.lemmas.Bool.Decides.{Decides-ltb}
use Rattle.std.proofs.lemmas.List.Quantifiers.{position-Some}
use Rattle.std.proofs.lemmas.List.Sums.{position_or_len_is}
use Rattle.std.proofs.lemmas.Option.{slice_get-get_or, slice_get_within, get_or_from_slice_get}
use Rattle.std.proofs.lemmas.Slice.Eq.{bytes_eq-Decides}
use Rattle.scene_script.specs.SceneLaws.{AreDistinct}
use Rattle.scene_model.specs.SceneData.{SceneData}
use Rattle.scene_model.specs.declared.node.Node.{Node}
use Rattle.scene_model.specs.declared.node.NodeKind.TheVariants.{Group}
use Rattle.scene_model.specs.declared.resource.Resource.{Resource}
use Rattle.scene_script.specs.Names.{endpoint, node_named, resource_named}
use Rattle.scene_script.specs.Script.{scene}
use Rattle.scene_script.proofs.SceneLaws.{or_first, or_second, resource_names_distinct, node_names_distinct}

module _ {X : Type 0} (key : X → List ℕ) (d : X) where
  none_at : (test : List ℕ → Bool) (items : List X) (i : ℕ) → list_any test (map key items) ≡ false → i < length items → test (key (get_or items i d)) ≡ false
  none_at test [] i none inside = absurd (omega arith)
  none_at test (x ∷ items) zero none inside = or_first (test (key x)) (list_any test (map key items)) none
  none_at test (x ∷ items) (suc i) none inside = none_at test items i (or_second (test (key x)) (list_any test (map key items)) none) (omega arith)

  distinct_at : (items : List X) (k n : ℕ) → AreDistinct (map key items) → k < n → n < length items → bytes_eq (key (get_or items k d)) (key (get_or items n d)) ≡ false
  distinct_at [] k n distinct below inside = absurd (omega arith)
  distinct_at (x ∷ items) k zero distinct below inside = absurd (omega arith)
  distinct_at (x ∷ items) zero (suc n) distinct below inside = none_at (bytes_eq (key x)) items n distinct.0 (omega arith)
  distinct_at (x ∷ items) (suc k) (suc n) distinct below inside = distinct_at items k n distinct.1 (omega arith) (omega arith)

  name_at_number : (items : List X) (name : List ℕ) (n : ℕ) → position (λ x. bytes_eq (key x) name) items ≡ Some n → option_map key (slice_get items n) ≡ Some name
  name_at_number items name n is =
      let first = position-Some (λ x. bytes_eq (key x) name) items n d is in
      ap (option_map key) (slice_get-get_or items n d first.0) ∙ ap Some ((bytes_eq-Decides (key (get_or items n d)) name).0 first.1)

  number_of_name : (items : List X) (name : List ℕ) (n : ℕ) → AreDistinct (map key items) → option_map key (slice_get items n) ≡ Some name → position (λ x. bytes_eq (key x) name) items ≡ Some n
  number_of_name items name n distinct is = by_item (slice_get items n) refl is
    where
      same : (a b : List ℕ) → Some a ≡ Some b → a ≡ b
      same a b e = cc

      by_item : (o : Option X) → slice_get items n ≡ o → option_map key o ≡ Some name → position (λ x. bytes_eq (key x) name) items ≡ Some n
      by_item None at e = absurd (cc)
      by_item (Some x) at e =
          let inside = slice_get_within items n x at in
          let key_is : key (get_or items n d) ≡ name = ap key (get_or_from_slice_get items n x d at) ∙ same (key x) name e in
          let first : position_or_len (λ x. bytes_eq (key x) name) items ≡ n =
          position_or_len_is (λ x. bytes_eq (key x) name) items n d (omega (arith, inside))
          (λ k below. ap (bytes_eq (key (get_or items k d))) (sym key_is) ∙ distinct_at items k n distinct below inside)
          (λ _. (bytes_eq-Decides (key (get_or items n d)) name).1 key_is) in
          ap (λ i. cond (nat_lt i (length items)) (Some i) None) first
          ∙ ap (λ b. cond b (Some n) None) ((Decides-ltb n (length items)).1 inside)

-- names that are distinct with others behind them are distinct
distinct_before : (names later : List (List ℕ)) → AreDistinct (names ++ later) → AreDistinct names
distinct_before [] later distinct = tt
distinct_before (x ∷ names) later distinct = (none_before (bytes_eq x) names distinct.0, distinct_before names later distinct.1)
  where
    none_before : (test : List ℕ → Bool) (names : List (List ℕ)) → list_any test (names ++ later) ≡ false → list_any test names ≡ false
    none_before test [] none = refl
    none_before test (y ∷ names) none =
        ap (λ b. b || list_any test names) (or_first (test y) (list_any test (names ++ later)) none)
        ∙ none_before test names (or_second (test y) (list_any test (names ++ later)) none)

no_resource : Resource
no_resource = record { name = []; file = [] }

no_node : Node
no_node = record { name = []; kind = Group; started = false; from = 0; until = 0 }

pub resource_numbers : (text : List ℕ) (s : SceneData) → scene text ≡ Ok s → (name : List ℕ) (n : ℕ) →
    (resource_named s.resources name ≡ Some n) ↔ (option_map (λ (r : Resource). r.name) (slice_get s.resources n) ≡ Some name)
resource_numbers text s e name n = (
  name_at_number (λ (r : Resource). r.name) no_resource s.resources name n,
  number_of_name (λ (r : Resource). r.name) no_resource s.resources name n (resource_names_distinct text s e),
)

pub node_numbers : (text : List ℕ) (s : SceneData) → scene text ≡ Ok s → (name : List ℕ) (n : ℕ) →
    (node_named s.nodes name ≡ Some n) ↔ (option_map (λ (x : Node). x.name) (slice_get s.nodes n) ≡ Some name)
node_numbers text s e name n = (
  name_at_number (λ (x : Node). x.name) no_node s.nodes name n,
  number_of_name (λ (x : Node). x.name) no_node s.nodes name n
      (distinct_before (map (λ (x : Node). x.name) s.nodes) (endpoint ∷ []) (node_names_distinct text s e)),
)
