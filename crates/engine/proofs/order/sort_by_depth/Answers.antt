use Rattle.std.proofs.Common.{◌≡◌, ◌<◌, ℕ, List, length, ◌∙◌, ap, arith, rules, ltb, Bool, true, false, refl}
use Rattle.std.specs.Prelude.{slice_index, Contains}
use Rattle.std.specs.List.Sorted.{IsNonDecreasingBy}
use Rattle.std.proofs.lemmas.Bool.{ltb-true, ltb-false}
use Rattle.std.proofs.lemmas.List.{get_or_default}
use Rattle.std.proofs.lemmas.List.Sorted.{IsNonDecreasingBy-from_sort_by_key, Contains-permutation}
use Rattle.mix_model.specs.Depths.{depth_at}
use Rattle.engine.proofs.order.sort_by_depth.Goals as goal

before : (depths order : List ℕ) → IsNonDecreasingBy (λ n. depth_at depths n) order → (k m : ℕ) → k < length order → Contains order m → depth_at depths m < depth_at depths (slice_index order k) → (i : ℕ) × (i < k) × (slice_index order i ≡ m)
before depths order sorted k m inside (i, lt, e) less = by_place (ltb i k) refl
  where
    there : slice_index order i ≡ m
    there = get_or_default order i 0 m lt ∙ e

    by_place : (b : Bool) → ltb i k ≡ b → (j : ℕ) × (j < k) × (slice_index order j ≡ m)
    by_place true is = (i, ltb-true i k is, there)
    by_place false is =
        let past = ltb-false i k is in
        let up = sorted k i 0 past lt in
        let same : depth_at depths (slice_index order i) ≡ depth_at depths m = ap (depth_at depths) there in
        absurd (omega (arith, up, same, less))

pub returns-clause-behind : goal.returns-clause-behind
returns-clause-behind c = λ k m inside among less.
    let depths = c.args.depths.now in
    let order = c.sort_unstable_by_key.new.self in
    before depths order (IsNonDecreasingBy-from_sort_by_key (λ n. depth_at depths n) order c.sort_unstable_by_key.ensures.sorted (λ a r q k. search rules)) k m inside
    (Contains-permutation c.args.order.now order m c.sort_unstable_by_key.ensures.permutation among) less
