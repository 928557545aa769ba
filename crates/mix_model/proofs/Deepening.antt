-- Depths of nodes are raised until each attached bus leads to a deeper node.
use Rattle.std.proofs.Common.{◌≡◌, ◌≢◌, ℕ, ◌+◌, ◌*◌, ◌<◌, ◌≤◌, Bool, true, false, eqb, ltb, List, length, replicate, get_or, set, Some, refl, sym, ◌∙◌, ap, subst, get_or-set_same, get_or-set_other, arith}
use Rattle.std.specs.Prelude.{sum}
use Rattle.std.specs.List.Sorted.{IsPermutation, IsNonDecreasingBy}
use Rattle.std.proofs.lemmas.Bool.{eqb-true, eqb-false, ltb-true, ltb-false}
use Rattle.std.proofs.lemmas.List.{get_or_default, get_or-replicate, length-replicate}
use Rattle.std.proofs.Math.ListN.{get_or-eq_default}
use Rattle.std.proofs.lemmas.List.Sorted.{All-permutation}
use Rattle.std.proofs.lemmas.List.Sums.{sum_by-set, sum_by-le}
use Rattle.scene_model.specs.declared.bus.Bus.{Bus}
use Rattle.scene_model.specs.Limits as limits
use Rattle.scene_model.specs.Reach.{HasNoCycle}
use Rattle.mix_model.specs.Depths.{Rises, AllRise, depth_at, AreAtMost, AreLeast, StaysBelow, IsDeeper}
use Rattle.mix_model.specs.OrderedBuses.{no_bus, IsOrdered}
use Rattle.mix_model.proofs.Ranks.{ranked}

pub zeros_at : (xs : List ℕ) (count n : ℕ) → xs ≡ replicate count 0 → get_or xs n 0 ≡ 0
zeros_at xs count n e = rw e (by_test (ltb n count) refl)
  where
    by_test : (t : Bool) → ltb n count ≡ t → ◌≡◌ {A = ℕ} (get_or (replicate count 0) n 0) 0
    by_test true is = get_or-replicate count n 0 0 (ltb-true n count is)
    by_test false is = let past = ltb-false n count is in get_or-eq_default (replicate count 0) 0 (omega (arith, length-replicate {A = ℕ} count 0))

-- a written number is within a bound, where it and the others are
set_below : (number : ℕ → ℕ) (old : List ℕ) (to n v : ℕ) (t : Bool) → eqb to n ≡ t → to < length old → v ≤ number to → depth_at old n ≤ number n → depth_at (set old to v) n ≤ number n
set_below number old to n v true e within le was =
    let same : to ≡ n = eqb-true to n e in
    rw (← same, get_or-set_same) le
set_below number old to n v false e within le was =
    let other : n ≢ to = λ same. eqb-false to n e (sym same) in
    rw get_or-set_other was

-- the state of a pass: the depths at its start and now, and whether one was raised
pub record IsPass (buses : List Bus) (i : ℕ) (old new : List ℕ) (is_deeper : Bool) : Type 0 where
  pub kept : StaysBelow buses old new
  pub within : AreAtMost (limits.most_buses + i) new
  pub least : sum old ≤ sum new
  pub deeper : is_deeper ≡ true → sum old < sum new
  pub same : is_deeper ≡ false → new ≡ old
  pub settled : is_deeper ≡ false → (k : ℕ) (d : Bus) → k < i → k < length buses → Rises (depth_at old) (get_or buses k d)

pub pass_start : (buses : List Bus) (old : List ℕ) → AreAtMost limits.most_buses old → IsPass buses 0 old old false
pass_start buses old within = record {
  kept = λ number rise was. was;
  within = λ n. omega (arith, within n);
  least = omega arith;
  deeper = λ e. cc;
  same = λ e. refl;
  settled = λ e k d below inside. absurd (omega arith);
}

pub pass_deeper : (buses : List Bus) (i : ℕ) (old now new : List ℕ) (d : Bus) (is_deeper : Bool) → i < length buses → (get_or buses i d).node < length now → ((to : ℕ) → (get_or buses i d).to ≡ Some to → to < length now) → IsPass buses i old now is_deeper → IsDeeper (get_or buses i d) now new → IsPass buses (i + 1) old new true
pass_deeper buses i old now new d is_deeper short from_within to_within pass step =
    let b = get_or buses i d in
    let inside : step.to < length now = to_within step.to step.to_is in
    let grown = sum_by-set (λ x. x) now step.to (depth_at now b.node + 1) 0 inside in
    let was = step.was in
    let least = pass.least in
    let more : sum now < sum new = rw step.new_is (omega arith) in
    record {
      kept = λ number rise start n.
          let up = rise i d short step.to step.to_is in
          let below = pass.kept number rise start in
          let at_node = below b.node in
          rw step.new_is (set_below number now step.to n (depth_at now b.node + 1) (eqb step.to n) refl inside (omega arith) (below n));
      within = λ n.
          let at_node = pass.within b.node in
          let here = pass.within n in
          rw step.new_is (set_below (λ k. limits.most_buses + (i + 1)) now step.to n (depth_at now b.node + 1) (eqb step.to n) refl inside (omega arith) (omega arith));
      least = omega arith;
      deeper = λ e. omega arith;
      same = λ e. cc;
      settled = λ e. cc;
    }

pub pass_same : (buses : List Bus) (i : ℕ) (old now new : List ℕ) (d : Bus) (is_deeper : Bool) → i < length buses → IsPass buses i old now is_deeper → new ≡ now → Rises (depth_at now) (get_or buses i d) → IsPass buses (i + 1) old new is_deeper
pass_same buses i old now new d is_deeper short pass e here =
    rw e record {
      kept = pass.kept;
      within = λ n. omega (arith, pass.within n);
      least = pass.least;
      deeper = pass.deeper;
      same = pass.same;
      settled = λ f k d' below inside. at_each f k d' (eqb k i) refl below inside;
    }
  where
    at_each : is_deeper ≡ false → (k : ℕ) (d' : Bus) (t : Bool) → eqb k i ≡ t → k < i + 1 → k < length buses → Rises (depth_at old) (get_or buses k d')
    at_each f k d' true at below inside =
        let is : k ≡ i = eqb-true k i at in
        let same : get_or buses i d ≡ get_or buses k d' = ap (λ j. get_or buses j d) (sym is) ∙ get_or_default buses k d d' inside in
        subst (λ (b : Bus). Rises (depth_at old) b) same (subst (λ (xs : List ℕ). Rises (depth_at xs) (get_or buses i d)) (pass.same f) here)
    at_each f k d' false at below inside =
        let not_it : k ≢ i = eqb-false k i at in
        pass.settled f k d' (omega arith) inside

pub pass_end : (buses : List Bus) (i : ℕ) (old new : List ℕ) → length buses ≤ i → IsPass buses i old new false → AllRise (depth_at new) buses
pass_end buses i old new whole pass =
    subst (λ (xs : List ℕ). AllRise (depth_at xs) buses) (sym (pass.same refl)) (λ k d inside. pass.settled refl k d (omega arith) inside)

rank_of : (buses : List Bus) → HasNoCycle buses → length buses ≤ limits.most_buses → (rank : ℕ → ℕ) × AllRise rank buses × ((n : ℕ) → rank n ≤ limits.most_buses)
rank_of buses none few =
    let r = ranked buses none in
    (r.0, λ k d inside. r.1.rises (get_or buses k d) (k, inside, get_or_default buses k (get_or buses k d) d inside), λ n. omega (arith, r.1.bounded n, few))

pub depths_most : (buses : List Bus) (depths : List ℕ) → HasNoCycle buses → length buses ≤ limits.most_buses → AreLeast buses depths → AreAtMost limits.most_buses depths
depths_most buses depths none few below n =
    let r = rank_of buses none few in
    omega (arith, below r.0 r.1 n, r.2 n)

pub sum_most : (depths : List ℕ) → AreAtMost limits.most_buses depths → sum depths ≤ length depths * limits.most_buses
sum_most depths most = sum_by-le (λ x. x) limits.most_buses depths (λ k d inside. rw (get_or_default depths k d 0 inside) (most k))

-- an order by depth
pub ordered_by_depth : (depths : List ℕ) (buses ordered_buses : List Bus) → AllRise (depth_at depths) buses → IsPermutation buses ordered_buses → IsNonDecreasingBy (λ (b : Bus). depth_at depths b.node) ordered_buses → IsOrdered ordered_buses
ordered_by_depth depths buses ordered_buses rise moved sorted j k le inside e =
    let up = All-permutation (Rises (depth_at depths)) buses ordered_buses moved rise k no_bus inside (get_or ordered_buses j no_bus).node e in
    let down = sorted j k no_bus le inside in
    omega arith
