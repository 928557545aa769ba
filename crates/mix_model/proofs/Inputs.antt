-- The inputs of a plan without a cycle solve their equations, and nothing else does.
use Rattle.std.proofs.Common.{◌≡◌, ℕ, suc, Bool, true, false, ◌&&◌, ℤ, pos, List, length, Option, Some, None, refl, sym, ◌∙◌, ap}
use Rattle.std.specs.Prelude.{if◌then◌else◌}
use Rattle.std.specs.List.Sorted.{IsPermutation}
use Rattle.std.proofs.lemmas.Bool.{false≢true, eqb-true}
use Rattle.std.proofs.lemmas.List.Sorted.{length_permutation}
use Rattle.mix_fixed.specs.Sound.{sat24, scale}
use Rattle.scene_model.specs.declared.bus.Bus.{Bus}
use Rattle.scene_model.specs.Reach.{HasNoCycle}
use Rattle.mix_model.specs.Pulled.{node, is_active}
use Rattle.mix_model.specs.Signals.{FrameState, kind_output, output, is_attached_to, share, input_by, input}
use Rattle.mix_model.specs.Iteration.{iterate, Solves}
use Rattle.mix_model.proofs.Ranks.{Ranked, ranked}
use Rattle.mix_model.proofs.Totals.{total_same, total-IsPermutation}
use Rattle.mix_model.proofs.Iterating.{LooksDown, iterate-solves, iterate-only, iterate-same}

pub attached_is : (n : ℕ) (to : Option ℕ) → is_attached_to n to ≡ true → to ≡ Some n
attached_is n None e = absurd (false≢true e)
attached_is n (Some to) e = ap Some (eqb-true to n e)

-- what a bus adds hangs on the input of its own node alone, and on that only where the bus is attached
pub share_same : (m : FrameState) (channel : ℕ) (v w : ℕ → ℤ) (n : ℕ) (b : Bus) → (b.to ≡ Some n → v b.node ≡ w b.node) → share m channel v n b ≡ share m channel w n b
share_same m channel v w n b same = by_test (is_attached_to n b.to) (is_active m.time (node m.plan b.node)) (λ e. same (attached_is n b.to e))
  where
    by_test : (attached active : Bool) → (attached ≡ true → v b.node ≡ w b.node) → (if attached && active then scale (output m channel v b.node) b.gain else pos 0) ≡ (if attached && active then scale (output m channel w b.node) b.gain else pos 0)
    by_test true true is = ap (λ x. scale (kind_output m.clips channel (m.cursor b.node) x (node m.plan b.node).kind) b.gain) (is refl)
    by_test true false is = refl
    by_test false active is = refl

inputs_look_down : (m : FrameState) (channel : ℕ) (rank : ℕ → ℕ) → Ranked m.plan.buses rank → LooksDown rank (input_by m channel)
inputs_look_down m channel rank raised = record {
  looks = λ v w n same.
      ap sat24 (total_same (share m channel v n) (share m channel w n) m.plan.buses
      (λ b among. share_same m channel v w n b (λ e. same b.node (raised.rises b among n e))));
}

pub input-solves : (m : FrameState) (channel : ℕ) → HasNoCycle m.plan.buses → Solves (input_by m channel) (input m channel)
unfolding input
input-solves m channel none =
    let r = ranked m.plan.buses none in
    iterate-solves r.0 (input_by m channel) (pos 0) (length m.plan.buses) (inputs_look_down m channel r.0 r.1) r.1.bounded

pub input-only : (m : FrameState) (channel : ℕ) → HasNoCycle m.plan.buses → (v : ℕ → ℤ) → Solves (input_by m channel) v → (n : ℕ) → v n ≡ input m channel n
unfolding input
input-only m channel none v solves =
    let r = ranked m.plan.buses none in
    iterate-only r.0 (input_by m channel) (pos 0) (length m.plan.buses) (inputs_look_down m channel r.0 r.1) r.1.bounded v solves

-- the state with its buses in another order
abbrev pub reordered : FrameState → List Bus → FrameState
reordered m buses = record { plan = record { nodes = m.plan.nodes; buses = buses }; time = m.time; clips = m.clips; cursor = m.cursor }

pub input-reordered : (m : FrameState) (buses : List Bus) (channel n : ℕ) → IsPermutation m.plan.buses buses → input (reordered m buses) channel n ≡ input m channel n
unfolding input
input-reordered m buses channel n moved =
    let count = length_permutation m.plan.buses buses moved in
    ap (λ k. iterate (input_by (reordered m buses) channel) (pos 0) (suc k) n) count
    ∙ iterate-same (input_by (reordered m buses) channel) (input_by m channel) (pos 0)
    (λ v w same k.
    ap sat24 (sym (total-IsPermutation (share m channel v k) m.plan.buses buses moved)
    ∙ total_same (share m channel v k) (share m channel w k) m.plan.buses (λ b among. share_same m channel v w k b (λ e. same b.node))))
    (suc (length m.plan.buses)) n
