-- Buses are added in an order in which each input is whole before it is passed on.
use Rattle.std.proofs.Common.{◌≡◌, ◌≢◌, ℕ, ◌+◌, ◌<◌, ◌≤◌, Bool, true, false, ◌&&◌, ℤ, pos, ◌+ℤ◌, List, length, get_or, take, drop, Some, refl, sym, ◌∙◌, ap, subst, arith}
use Rattle.std.specs.Prelude.{if◌then◌else◌}
use Rattle.std.proofs.lemmas.Int.{ints}
use Rattle.std.proofs.lemmas.List.{take-append-drop, length-drop, get_or-drop, get_or_default}
use Rattle.mix_fixed.specs.Sound.{sat24, scale}
use Rattle.scene_model.specs.declared.bus.Bus.{Bus}
use Rattle.scene_model.specs.Reach.{HasNoCycle}
use Rattle.mix_model.specs.Pulled.{node, is_active}
use Rattle.mix_model.specs.Signals.{FrameState, output, is_attached_to, share, total, input}
use Rattle.mix_model.specs.OrderedBuses.{no_bus, IsOrdered, sum_at, ShareAdded}
use Rattle.mix_model.proofs.Inputs.{attached_is, share_same, input-solves}
use Rattle.mix_model.proofs.Totals.{total-append, total_more, total_none}

-- a bus that leads elsewhere adds nothing
share_none : (m : FrameState) (channel : ℕ) (v : ℕ → ℤ) (n : ℕ) (b : Bus) → b.to ≢ Some n → share m channel v n b ≡ pos 0
share_none m channel v n b elsewhere = by_test (is_attached_to n b.to) (λ e. elsewhere (attached_is n b.to e))
  where
    by_test : (attached : Bool) → (attached ≡ true → ⊥) → (if attached && is_active m.time (node m.plan b.node) then scale (output m channel v b.node) b.gain else pos 0) ≡ pos 0
    by_test true not_so = absurd (not_so refl)
    by_test false not_so = refl

-- where the buses from one place on lead elsewhere, those before it add all that is added
pub front_whole : (m : FrameState) (channel : ℕ) (v : ℕ → ℤ) (n : ℕ) (ordered_buses : List Bus) (i : ℕ) → ((k : ℕ) → i ≤ k → k < length ordered_buses → (get_or ordered_buses k no_bus).to ≢ Some n) → total (share m channel v n) (take i ordered_buses) ≡ total (share m channel v n) ordered_buses
front_whole m channel v n ordered_buses i elsewhere =
    let f = share m channel v n in
    let none : total f (drop i ordered_buses) ≡ pos 0 = total_none f (drop i ordered_buses) (λ k d within. rest k d within) in
    let joined = total-append f (take i ordered_buses) (drop i ordered_buses) in
    let whole : total f (take i ordered_buses) +ℤ total f (drop i ordered_buses) ≡ total f ordered_buses = sym joined ∙ ap (total f) (take-append-drop i ordered_buses) in
    omega (arith, ints)
  where
    rest : (k : ℕ) (d : Bus) → k < length (drop i ordered_buses) → share m channel v n (get_or (drop i ordered_buses) k d) ≡ pos 0
    rest k d within =
        let inside : i + k < length ordered_buses = omega (arith, length-drop i ordered_buses) in
        let same : get_or (drop i ordered_buses) k d ≡ get_or ordered_buses (i + k) no_bus = get_or-drop i ordered_buses k d ∙ sym (get_or_default ordered_buses (i + k) no_bus d inside) in
        subst (λ (b : Bus). share m channel v n b ≡ pos 0) (sym same) (share_none m channel v n (get_or ordered_buses (i + k) no_bus) (elsewhere (i + k) (omega arith) inside))

pub added_more : (m : FrameState) (channel : ℕ) (ordered_buses : List Bus) (old new : List ℤ) (i : ℕ) → m.plan.buses ≡ ordered_buses → HasNoCycle ordered_buses → IsOrdered ordered_buses → i < length ordered_buses → (get_or ordered_buses i no_bus).node < length old → length new ≡ length old
    → ((n : ℕ) → n < length old → sum_at old n ≡ total (share m channel (input m channel) n) (take i ordered_buses))
    → ShareAdded m channel (get_or ordered_buses i no_bus) old new
    → (n : ℕ) → n < length new → sum_at new n ≡ total (share m channel (input m channel) n) (take (i + 1) ordered_buses)
added_more m channel ordered_buses old new i buses none ordered within inside same so_far grown n lt =
    let b = get_or ordered_buses i no_bus in
    let v = input m channel in
    let whole = front_whole m channel v b.node ordered_buses i (λ k. ordered i k) in
    let solves = input-solves m channel (subst (λ (bs : List Bus). HasNoCycle bs) (sym buses) none) in
    let settled : sat24 (sum_at old b.node) ≡ v b.node =
    ap sat24 (so_far b.node inside ∙ whole ∙ ap (total (share m channel v b.node)) (sym buses)) ∙ sym (solves b.node) in
    let added = share_same m channel (λ k. sat24 (sum_at old k)) v n b (λ e. settled) in
    grown n (omega arith)
    ∙ ap (λ x. x +ℤ share m channel (λ k. sat24 (sum_at old k)) n b) (so_far n (omega arith))
    ∙ ap (λ x. total (share m channel v n) (take i ordered_buses) +ℤ x) added
    ∙ sym (total_more (share m channel v n) ordered_buses i no_bus within)

-- when all are added each sum is that of the node's input
pub added_all : (m : FrameState) (channel : ℕ) (ordered_buses : List Bus) (sums : List ℤ) (i n : ℕ) → m.plan.buses ≡ ordered_buses → HasNoCycle ordered_buses → length ordered_buses ≤ i → sum_at sums n ≡ total (share m channel (input m channel) n) (take i ordered_buses) → sat24 (sum_at sums n) ≡ input m channel n
added_all m channel ordered_buses sums i n buses none whole is =
    let v = input m channel in
    let solves = input-solves m channel (subst (λ (bs : List Bus). HasNoCycle bs) (sym buses) none) in
    ap sat24 (is ∙ front_whole m channel v n ordered_buses i (λ k after within. absurd (omega arith)) ∙ ap (total (share m channel v n)) (sym buses)) ∙ sym (solves n)
