-- One bus is added to the sums.
use Rattle.std.proofs.Common.{◌≡◌, ◌≢◌, ℕ, ◌+◌, ◌<◌, Bool, true, false, ◌&&◌, eqb, ℤ, pos, ◌+ℤ◌, List, length, set, Some, refl, sym, ◌∙◌, ap, get_or-set_same, get_or-set_other, arith, w64, w32, FitsSigned, to_z, of_z}
use Rattle.std.specs.Prelude.{if◌then◌else◌, slice_index, slice_index_or}
use Rattle.std.proofs.lemmas.Bool.{eqb-true, eqb-false}
use Rattle.std.proofs.lemmas.Int.{ints}
use Rattle.mix_fixed.specs.Sound.{Is24, IsScaled, sat24, scale}
use Rattle.scene_clips.specs.SceneClipData.{SceneClipData}
use Rattle.scene_model.specs.declared.bus.Bus.{Bus}
use Rattle.scene_model.specs.declared.node_state.NodeState.{NodeState}
use Rattle.mix_model.specs.Pulled.{no_node, node, is_active}
use Rattle.mix_model.specs.Signals.{FrameState, kind_output, share}
use Rattle.mix_model.specs.OrderedBuses.{sum_at, ShareAdded, IsWithin, AreWithin}

-- a sum and a scaled sample fit a word of 64 bits together
pub sum_fits : (a x : ℤ) → IsWithin 1024 a → IsScaled x → FitsSigned w64 (to_z w64 (of_z w64 a) +ℤ to_z w64 (of_z w64 x))
sum_fits a x within scaled = omega (arith, ints)

pub sum_is : (a x : ℤ) → IsWithin 1024 a → IsScaled x → to_z w64 (of_z w64 (to_z w64 (of_z w64 a) +ℤ to_z w64 (of_z w64 x))) ≡ a +ℤ x
sum_is a x within scaled = omega (arith, ints)

kept_32 : (x : ℤ) → Is24 x → to_z w32 (of_z w32 x) ≡ x
kept_32 x is = omega (arith, ints)

kept_64 : (x : ℤ) → IsWithin 1024 x → to_z w64 (of_z w64 x) ≡ x
kept_64 x within = omega (arith, ints)

-- what is passed on, from the answers of the calls that compute it
pub share_from : (nodes : List NodeState) (clips : List SceneClipData) (cursors : List ℕ) (time channel : ℕ) (b : Bus) (sums : List ℤ) (input output share : ℤ)
    → IsWithin 1024 (sum_at sums b.node)
    → input ≡ sat24 (to_z w64 (of_z w64 (sum_at sums b.node))) → Is24 input
    → output ≡ kind_output clips channel (slice_index cursors b.node) (to_z w32 (of_z w32 input)) (slice_index_or nodes b.node no_node).kind → Is24 output
    → share ≡ (if is_active time (slice_index_or nodes b.node no_node) then scale (to_z w32 (of_z w32 output)) b.gain else pos 0)
    → share ≡ (if is_active time (slice_index_or nodes b.node no_node) then scale (kind_output clips channel (slice_index cursors b.node) (sat24 (sum_at sums b.node)) (slice_index_or nodes b.node no_node).kind) b.gain else pos 0)
share_from nodes clips cursors time channel b sums input output share within input_is input_24 output_is output_24 is =
    let kind = (slice_index_or nodes b.node no_node).kind in
    let e : to_z w32 (of_z w32 input) ≡ sat24 (sum_at sums b.node) = kept_32 input input_24 ∙ input_is ∙ ap sat24 (kept_64 (sum_at sums b.node) within) in
    let f = kept_32 output output_24 ∙ output_is ∙ ap (λ x. kind_output clips channel (slice_index cursors b.node) x kind) e in
    is ∙ ap (λ x. if is_active time (slice_index_or nodes b.node no_node) then scale x b.gain else pos 0) f

added_at : (old : List ℤ) (to n : ℕ) (v x : ℤ) (t active : Bool) → eqb to n ≡ t → to < length old → v ≡ sum_at old to +ℤ (if active then x else pos 0) → sum_at (set old to v) n ≡ sum_at old n +ℤ (if t && active then x else pos 0)
added_at old to n v x true active e within is =
    let same : to ≡ n = eqb-true to n e in
    rw (← same, get_or-set_same) is
added_at old to n v x false active e within is =
    let other : n ≢ to = λ same. eqb-false to n e (sym same) in
    rw get_or-set_other (omega (arith, ints))

pub added_is : (m : FrameState) (channel : ℕ) (b : Bus) (to : ℕ) (old : List ℤ) (v : ℤ) → b.to ≡ Some to → to < length old → v ≡ sum_at old to +ℤ (if is_active m.time (node m.plan b.node) then scale (kind_output m.clips channel (m.cursor b.node) (sat24 (sum_at old b.node)) (node m.plan b.node).kind) b.gain else pos 0) → ShareAdded m channel b old (set old to v)
added_is m channel b to old v e within is n lt =
    rw e (added_at old to n v (scale (kind_output m.clips channel (m.cursor b.node) (sat24 (sum_at old b.node)) (node m.plan b.node).kind) b.gain) (eqb to n) (is_active m.time (node m.plan b.node)) refl within is)

within_more : (count : ℕ) (a x : ℤ) → IsWithin count a → IsScaled x → IsWithin (count + 1) (a +ℤ x)
within_more count a x within scaled = record { low = omega (arith, ints, within.low, scaled.low); high = omega (arith, ints, within.high, scaled.high) }

within_still : (count : ℕ) (a : ℤ) → IsWithin count a → IsWithin (count + 1) a
within_still count a within = record { low = omega (arith, ints, within.low); high = omega (arith, ints, within.high) }

within_at : (count : ℕ) (old : List ℤ) (to n : ℕ) (v x : ℤ) (t : Bool) → eqb to n ≡ t → to < length old → v ≡ sum_at old to +ℤ x → IsScaled x → AreWithin count old → IsWithin (count + 1) (sum_at (set old to v) n)
within_at count old to n v x true e inside is scaled within =
    let same : to ≡ n = eqb-true to n e in
    rw (← same, get_or-set_same, is) (within_more count (sum_at old to) x (within to) scaled)
within_at count old to n v x false e inside is scaled within =
    let other : n ≢ to = λ same. eqb-false to n e (sym same) in
    rw get_or-set_other (within_still count (sum_at old n) (within n))

pub within_after : (count : ℕ) (old : List ℤ) (to : ℕ) (v x : ℤ) → to < length old → v ≡ sum_at old to +ℤ x → IsScaled x → AreWithin count old → AreWithin (count + 1) (set old to v)
within_after count old to v x inside is scaled within n = within_at count old to n v x (eqb to n) refl inside is scaled within

pub within_unchanged : (count : ℕ) (old : List ℤ) → AreWithin count old → AreWithin (count + 1) old
within_unchanged count old within n = within_still count (sum_at old n) (within n)
