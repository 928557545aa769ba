-- The edits that the rows stand for: how many they are, and that they may be made in a plan of the nodes alone.
use Rattle.std.proofs.Common.{◌≡◌, ℕ, zero, suc, ◌+◌, ◌*◌, ◌<◌, ◌≤◌, Bool, true, ◌&&◌, List, [], ◌∷◌, length, map, take, get_or, Option, Some, None, nat_lt, nat_le, Fits, w32, refl, sym, ◌∙◌, subst, arith}
use Rattle.std.specs.Prelude.{fold}
use Rattle.std.specs.List.{list_all}
use Rattle.std.proofs.lemmas.Bool.{and_from, and_parts, ltb-true}
use Rattle.std.proofs.lemmas.List.{length-append, length-map, length-take}
use Rattle.std.proofs.lemmas.List.Folds.{list_all-append, list_all-map}
use Rattle.scene_model.specs.declared.bus_row.BusRow.{BusRow}
use Rattle.scene_model.specs.declared.edit.EditRow.{EditRow}
use Rattle.scene_model.specs.declared.node.Node.{Node}
use Rattle.scene_model.specs.declared.order.NumberedEdit.{NumberedEdit}
use Rattle.scene_model.specs.IsPlan.{can_apply}
use Rattle.scene_model.specs.IsScene.{is_bus_row, is_edit, is_edit_row, is_target, is_time}
use Rattle.scene_model.specs.Limits as limits
use Rattle.scene_model.specs.Opening.{unwired, attach_edits, row_edits}
use Rattle.scene_model.specs.Order.{in_order}
use Rattle.scene_model.specs.PlanData.{PlanData}
use Rattle.scene_model.specs.Plans.{after}
use Rattle.scene_model.specs.SceneData.{SceneData}
use Rattle.scene_model.proofs.Ordered.{order_keeps_all, order_keeps_length, order_numbers_rows}
use Rattle.scene_model.proofs.Seeks.{can_apply_later}
use Rattle.scene_script.specs.declared.placed_edit.PlacedEdit.{PlacedEdit}
use Rattle.scene_script.specs.declared.place.Place.{Place}
use Rattle.scene_script.specs.declared.fault.TableKind.TheVariants as kinds
use Rattle.scene_script.specs.Fields.{place}
use Rattle.scene_script.specs.Limits as script_limits
use Rattle.scene_script.specs.Wiring.{placed, bus_edits, placed_row, all_edits}

pub all_at : {X : Type 0} (p : X → Bool) (xs : List X) (i : ℕ) (d : X) → list_all p xs ≡ true → i < length xs → p (get_or xs i d) ≡ true
all_at p [] i d all within = absurd (omega arith)
all_at p (x ∷ xs) zero d all within = (and_parts (p x) (list_all p xs) all).0
all_at p (x ∷ xs) (suc i) d all within = all_at p xs i d (and_parts (p x) (list_all p xs) all).1 (omega arith)

all_weaker : {X : Type 0} (p q : X → Bool) → ((x : X) → p x ≡ true → q x ≡ true) → (xs : List X) → list_all p xs ≡ true → list_all q xs ≡ true
all_weaker p q weaker [] all = refl
all_weaker p q weaker (x ∷ xs) all =
    let (here, rest) = and_parts (p x) (list_all p xs) all in
    and_from (q x) (list_all q xs) (weaker x here) (all_weaker p q weaker xs rest)

-- the test of an edit by the number of nodes
abbrev may : ℕ → PlacedEdit → Bool
may nodes e = is_edit nodes e.edit

row_may : (nodes : ℕ) (p : Place) (b : BusRow) → is_bus_row nodes b ≡ true → list_all (may nodes) (map (placed p) (row_edits b)) ≡ true
row_may nodes p b is =
    let (node, to) = and_parts (nat_lt b.node nodes) (is_target nodes b.to) is in
    and_from (nat_lt b.node nodes) _ node (by_target b.to to node)
  where
    by_target : (to : Option ℕ) → is_target nodes to ≡ true → nat_lt b.node nodes ≡ true → list_all (may nodes) (map (placed p) (attach_edits b.node b.out to)) ≡ true
    by_target None is_to node = refl
    by_target (Some to) is_to node =
        and_from (nat_lt b.node nodes && nat_le to nodes) true (and_from (nat_lt b.node nodes) (nat_le to nodes) node is_to) refl

buses_may : (nodes row : ℕ) (buses : List BusRow) → list_all (is_bus_row nodes) buses ≡ true → list_all (may nodes) (bus_edits row buses) ≡ true
buses_may nodes row [] are = refl
buses_may nodes row (b ∷ buses) are =
    let (here, rest) = and_parts (is_bus_row nodes b) (list_all (is_bus_row nodes) buses) are in
    let p : Place = place kinds.Bus row in
    list_all-append (may nodes) (map (placed p) (row_edits b)) (bus_edits (row + 1) buses)
    ∙ and_from _ _ (row_may nodes p b here) (buses_may nodes (row + 1) buses rest)

edit_of_row : (nodes : ℕ) (e : EditRow) → is_edit_row nodes e ≡ true → is_edit nodes e.edit ≡ true
edit_of_row nodes e is = (and_parts (is_time e.at && nat_le e.editor limits.last_editor) (is_edit nodes e.edit) is).1

edits_may : (nodes : ℕ) (edits : List EditRow) → list_all (is_edit_row nodes) edits ≡ true → list_all (may nodes) (map placed_row (in_order edits)) ≡ true
edits_may nodes edits are =
    list_all-map (may nodes) placed_row (in_order edits)
    ∙ sym (list_all-map (λ (r : EditRow). is_edit nodes r.edit) (λ (e : NumberedEdit). e.row) (in_order edits))
    ∙ order_keeps_all edits (λ r. is_edit nodes r.edit) (all_weaker (is_edit_row nodes) (λ r. is_edit nodes r.edit) (edit_of_row nodes) edits are)

-- what the rows of a scene stand for are edits of its nodes
pub all_may : (nodes : ℕ) (buses : List BusRow) (edits : List EditRow) → list_all (is_bus_row nodes) buses ≡ true → list_all (is_edit_row nodes) edits ≡ true → list_all (may nodes) (all_edits buses edits) ≡ true
all_may nodes buses edits are are_edits =
    list_all-append (may nodes) (bus_edits 1 buses) (map placed_row (in_order edits))
    ∙ and_from _ _ (buses_may nodes 1 buses are) (edits_may nodes edits are_edits)

length_row : (b : BusRow) → length (row_edits b) ≤ 2
length_row b = by_target b.to
  where
    by_target : (to : Option ℕ) → suc (length (attach_edits b.node b.out to)) ≤ 2
    by_target None = omega arith
    by_target (Some to) = omega arith

length_buses : (row : ℕ) (buses : List BusRow) → length (bus_edits row buses) ≤ 2 * length buses
length_buses row [] = omega arith
length_buses row (b ∷ buses) =
    let p : Place = place kinds.Bus row in
    omega (arith, length-append (map (placed p) (row_edits b)) (bus_edits (row + 1) buses), length-map (row_edits b) (placed p), length_row b, length_buses (row + 1) buses)

pub length_all : (buses : List BusRow) (edits : List EditRow) → length (all_edits buses edits) ≤ 2 * length buses + length edits
length_all buses edits =
    omega (arith, length-append (bus_edits 1 buses) (map placed_row (in_order edits)), length_buses 1 buses, length-map (in_order edits) placed_row, order_keeps_length edits)

-- the scene of these nodes that has no rows
abbrev bare : List Node → SceneData
bare nodes = record { version = 1; rate = 1; channels = 1; width = 16; length = 0; resources = []; nodes = nodes; buses = []; edits = [] }

-- the next edit may be made after those before it
pub may_make : (nodes : List Node) (plan : PlanData) (edits : List PlacedEdit) (i : ℕ) (d : PlacedEdit) → list_all (may (length nodes)) edits ≡ true → length edits ≤ script_limits.most_made → i < length edits → plan ≡ fold after (unwired nodes) (map (λ (e : PlacedEdit). e.edit) (take i edits)) → can_apply plan (get_or edits i d).edit ≡ true
may_make nodes plan edits i d are few within is =
    let made = map (λ (e : PlacedEdit). e.edit) (take i edits) in
    let most : length made < limits.most_seeks = omega (arith, length-map (take i edits) (λ (e : PlacedEdit). e.edit), length-take i edits) in
    subst (λ (p : PlanData). can_apply p (get_or edits i d).edit ≡ true) (sym is)
    (can_apply_later (bare nodes) made most (get_or edits i d).edit (all_at (may (length nodes)) edits i d are within))

-- the number of a row has a next one
pub number_fits : (edits : List EditRow) (ordered : List NumberedEdit) (i : ℕ) (d : NumberedEdit) → length edits ≤ limits.most_edits → ordered ≡ in_order edits → i < length ordered → Fits w32 ((get_or ordered i d).number + 1)
number_fits edits ordered i d few is within =
    let numbers = subst (λ (es : List NumberedEdit). list_all (λ (e : NumberedEdit). nat_lt e.number (length edits)) es ≡ true) (sym is) (order_numbers_rows edits) in
    let below = ltb-true (get_or ordered i d).number (length edits) (all_at (λ (e : NumberedEdit). nat_lt e.number (length edits)) ordered i d numbers within) in
    omega arith
