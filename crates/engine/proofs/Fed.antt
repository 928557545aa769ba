-- What a bus adds to the sums of a node over a span.
use Rattle.std.proofs.Common.{◌≡◌, ℕ, ◌+◌, ◌/◌, ◌%◌, ◌<◌, Bool, true, false, ◌&&◌, ℤ, pos, ◌+ℤ◌, List, [], ◌∷◌, length, take, refl, sym, ◌∙◌, ap, arith}
use Rattle.std.specs.Prelude.{if◌then◌else◌, filter, slice_index_or}
use Rattle.std.proofs.lemmas.Int.{ints}
use Rattle.mix_fixed.specs.Sound.{sat24, scale}
use Rattle.mix_fixed.specs.Kernels.{at}
use Rattle.scene_model.specs.declared.bus.Bus.{Bus}
use Rattle.scene_model.specs.declared.node_state.NodeState.{NodeState}
use Rattle.scene_model.specs.Reach.{HasNoCycle}
use Rattle.mix_model.specs.Pulled.{node, is_active}
use Rattle.mix_model.specs.Signals.{is_attached_to, total}
use Rattle.mix_model.specs.OrderedBuses.{no_bus}
use Rattle.mix_model.proofs.Inputs.{input-solves}
use Rattle.mix_model.proofs.Totals.{total_more, total-IsPermutation}
use Rattle.engine.specs.Span.{Span, state_at, output_at, share_at, AreInputs, AreSums, AreFeeds, IsFedBy, IsFed, AreAdded}

-- ---- all buses of a node

pub sums_more : (s : Span) (n count : ℕ) (feeds : List Bus) (i : ℕ) (old new : List ℤ) → i < length feeds → count ≡ length old → AreSums s count n (take i feeds) old → AreAdded s n (slice_index_or feeds i no_bus) old new → AreSums s count n (take (i + 1) feeds) new
sums_more s n count feeds i old new inside long sums added j below =
    let more = total_more (λ b. share_at s n b j) feeds i no_bus inside in
    added j (omega (arith, long)) ∙ ap (λ x. x +ℤ share_at s n (slice_index_or feeds i no_bus) j) (sums j below) ∙ sym more

-- buses that are not attached to the node add nothing
total-filter : (f : Bus → ℤ) (n : ℕ) (bs : List Bus) → ((b : Bus) → is_attached_to n b.to ≡ false → f b ≡ pos 0) → total f (filter (λ (b : Bus). is_attached_to n b.to) bs) ≡ total f bs
total-filter f n [] none = refl
total-filter f n (b ∷ bs) none = by_test (is_attached_to n b.to) refl (total-filter f n bs none)
  where
    by_test : (t : Bool) → is_attached_to n b.to ≡ t → total f (filter (λ (x : Bus). is_attached_to n x.to) bs) ≡ total f bs → total f (if t then b ∷ filter (λ (x : Bus). is_attached_to n x.to) bs else filter (λ (x : Bus). is_attached_to n x.to) bs) ≡ f b +ℤ total f bs
    by_test true e rest = ap (λ x. f b +ℤ x) rest
    by_test false e rest =
        let here = none b e in
        omega (arith, ints, here, rest)

elsewhere_none : (s : Span) (n j : ℕ) (b : Bus) → is_attached_to n b.to ≡ false → share_at s n b j ≡ pos 0
elsewhere_none s n j b e = ap (λ (t : Bool). if t && is_active (s.first.time + j / s.channels) (node s.first.plan b.node) then scale (output_at s b.node j) b.gain else pos 0) e

pub inputs_are : (s : Span) (n count : ℕ) (feeds : List Bus) (sums out : List ℤ) → HasNoCycle s.first.plan.buses → AreFeeds n s.first.plan.buses feeds → AreSums s count n feeds sums
    → ((j : ℕ) → j < count → at out j ≡ sat24 (at sums j)) → AreInputs s count n out
inputs_are s n count feeds sums out none all_feeds are settled j below =
    let f : Bus → ℤ = λ b. share_at s n b j in
    let whole : total f s.first.plan.buses ≡ total f feeds = sym (total-filter f n s.first.plan.buses (elsewhere_none s n j)) ∙ total-IsPermutation f (filter (λ (b : Bus). is_attached_to n b.to) s.first.plan.buses) feeds all_feeds in
    settled j below ∙ ap sat24 (are j below ∙ sym whole) ∙ sym (input-solves (state_at s j) (j % s.channels) none n)

-- ---- one feed of many

pub fed_by : (s : Span) (n time count : ℕ) (nodes : List NodeState) (feeds : List Bus) (kept : List ℤ) (k : ℕ) → k < length feeds → IsFed s n time count nodes feeds kept → IsFedBy s n time count nodes (slice_index_or feeds k no_bus) kept
fed_by s n time count nodes feeds kept k inside fed = record {
  time_is = fed.time_is;
  nodes_are = fed.nodes_are;
  steady = fed.steady;
  attached = fed.attached k inside;
  outputs = fed.outputs k inside;
}
