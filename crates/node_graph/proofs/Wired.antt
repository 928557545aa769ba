-- Which buses are attached to a node once an output has another target or gain.
use Rattle.std.proofs.Common.{◌≡◌, ℕ, ◌<◌, ◌≤◌, Bool, true, false, cond, List, length, get_or, Option, Some, None, refl, sym, ◌∙◌, ap, arith}
use Rattle.std.specs.Prelude.{◌==◌, if◌then◌else◌, nat_lt, slice_get}
use Rattle.std.specs.List.{position_or_len}
use Rattle.std.specs.Option.{option_and_then, option_map, option_map_or}
use Rattle.std.proofs.lemmas.Bool.{le-ltb, lt-ltb, ltb-false}
use Rattle.std.proofs.lemmas.List.Folds.{find_at}
use Rattle.std.proofs.lemmas.List.Quantifiers.{position-Some}
use Rattle.std.proofs.lemmas.List.Sums.{fails_before_first, position_or_len_is}
use Rattle.std.proofs.lemmas.Option.{cond_some, get_or_from_slice_get, slice_get-get_or, slice_get-map, slice_get_within}
use Rattle.scene_model.specs.declared.bus.Bus.{Bus}
use Rattle.scene_model.specs.Wiring.{is_output, target, bus_with_target, with_target, bus_with_gain, with_gain}
use Rattle.scene_model.proofs.Steps.{no_bus}
use Rattle.node_graph.specs.Attached.{leads_to, is_attached}
use Rattle.node_graph.specs.ListChanges.{number_of}

-- the same of what is read at a bus's number
abbrev pub leads : ℕ → Option Bus → Bool
leads node o = option_map_or (leads_to node) o false

pub attached_other : (node out : ℕ) (to : Option ℕ) (buses : List Bus) (n k : ℕ) → ((b : Bus) → slice_get buses k ≡ Some b → is_output node out b ≡ false) → is_attached (with_target node out to buses) n k ≡ is_attached buses n k
attached_other node out to buses n k other =
    ap (leads n) (slice_get-map (bus_with_target node out to) buses k) ∙ by_read (slice_get buses k) refl
  where
    by_read : (o : Option Bus) → slice_get buses k ≡ o → leads n (option_map (bus_with_target node out to) o) ≡ leads n o
    by_read None at = refl
    by_read (Some b) at = ap (λ (t : Bool). leads_to n (if t then record b { to = to } else b)) (other b at)

pub attached_own : (node out : ℕ) (to : Option ℕ) (buses : List Bus) (n k : ℕ) (b : Bus) → slice_get buses k ≡ Some b → is_output node out b ≡ true → is_attached (with_target node out to buses) n k ≡ option_map_or (λ (m : ℕ). m == n) to false
attached_own node out to buses n k b at is =
    ap (leads n) (slice_get-map (bus_with_target node out to) buses k)
    ∙ ap (λ (o : Option Bus). leads n (option_map (bus_with_target node out to) o)) at
    ∙ ap (λ (t : Bool). leads_to n (if t then record b { to = to } else b)) is

pub attached_gain : (node out gain : ℕ) (buses : List Bus) (n k : ℕ) → is_attached (with_gain node out gain buses) n k ≡ is_attached buses n k
attached_gain node out gain buses n k =
    ap (leads n) (slice_get-map (bus_with_gain node out gain) buses k) ∙ by_read (slice_get buses k)
  where
    by_test : (t : Bool) (b : Bus) → leads_to n (if t then record b { gain = gain } else b) ≡ leads_to n b
    by_test true b = refl
    by_test false b = refl

    by_read : (o : Option Bus) → leads n (option_map (bus_with_gain node out gain) o) ≡ leads n o
    by_read None = refl
    by_read (Some b) = by_test (is_output node out b) b

-- ---- the number of an output

pub record IsNumber (buses : List Bus) (node out k : ℕ) (b : Bus) : Type 0 where
  pub within : k < length buses
  pub read : b ≡ get_or buses k no_bus
  pub at : slice_get buses k ≡ Some b
  pub is : is_output node out b ≡ true
  pub target_is : target buses node out ≡ b.to

pub numbered : (buses : List Bus) (node out k : ℕ) → number_of buses node out ≡ Some k → IsNumber buses node out k (get_or buses k no_bus)
numbered buses node out k e =
    let parts = position-Some (is_output node out) buses k no_bus e in
    let at = slice_get-get_or buses k no_bus parts.0 in
    let place = (cond_some (nat_lt (position_or_len (is_output node out) buses) (length buses)) (position_or_len (is_output node out) buses) k e).1 in
    record {
      within = parts.0;
      read = refl;
      at = at;
      is = parts.1;
      target_is = ap (option_and_then (λ (b : Bus). b.to)) (find_at (is_output node out) buses ∙ ap (slice_get buses) place ∙ at);
    }

pub unnumbered : (buses : List Bus) (node out : ℕ) → number_of buses node out ≡ None → (k : ℕ) (b : Bus) → slice_get buses k ≡ Some b → is_output node out b ≡ false
unnumbered buses node out e k b at =
    let first = position_or_len (is_output node out) buses in
    let past : length buses ≤ first = ltb-false first (length buses) (none_from (nat_lt first (length buses)) first e) in
    let within = slice_get_within buses k b at in
    ap (is_output node out) (sym (get_or_from_slice_get buses k b no_bus at)) ∙ fails_before_first (is_output node out) buses k no_bus (omega arith)
  where
    none_from : (t : Bool) (n : ℕ) → cond t (Some n) None ≡ None → t ≡ false
    none_from true n e = absurd (cc)
    none_from false n e = refl

-- ---- a search for the number of an output

pub number_here : (buses : List Bus) (node out i : ℕ) → i < length buses → ((k : ℕ) → k < i → is_output node out (get_or buses k no_bus) ≡ false) → is_output node out (get_or buses i no_bus) ≡ true → Some i ≡ number_of buses node out
number_here buses node out i within before here =
    let first = position_or_len (is_output node out) buses in
    let place : first ≡ i = position_or_len_is (is_output node out) buses i no_bus (omega arith) before (λ w. here) in
    sym (ap (λ (t : Bool). cond t (Some first) None) (lt-ltb first (length buses) (omega arith)) ∙ ap Some place)

pub number_none : (buses : List Bus) (node out i : ℕ) → length buses ≤ i → ((k : ℕ) → k < i → is_output node out (get_or buses k no_bus) ≡ false) → None ≡ number_of buses node out
number_none buses node out i past before =
    let first = position_or_len (is_output node out) buses in
    let place : first ≡ length buses = position_or_len_is (is_output node out) buses (length buses) no_bus (omega arith) (λ k below. before k (omega arith)) (λ w. absurd (omega arith)) in
    sym (ap (λ (t : Bool). cond t (Some first) None) (le-ltb first (length buses) (omega arith)))
