-- Nodes are rendered one after the other, each behind those that feed it, and what they put out is kept.
use Rattle.std.proofs.Common.{◌≡◌, ◌≢◌, ℕ, zero, suc, ◌+◌, ◌*◌, ◌%◌, ◌<◌, ◌≤◌, Bool, true, false, ◌&&◌, ◌||◌, eqb, ℤ, pos, List, length, Some, refl, sym, ◌∙◌, ap, subst, arith}
use Rattle.std.specs.Prelude.{slice_index}
use Rattle.std.proofs.lemmas.Bool.{eqb-true, eqb-false, eq-eqb, false≢true}
use Rattle.std.proofs.lemmas.List.{get_or-drop, get_or_default}
use Rattle.mix_fixed.specs.Kernels.{at}
use Rattle.scene_clips.specs.SceneClipData.{SceneClipData}
use Rattle.scene_model.specs.declared.bus.Bus.{Bus}
use Rattle.scene_model.specs.declared.node.NodeKind.{NodeKind}
use Rattle.scene_model.specs.declared.node.NodeKind.TheVariants.{Sound, Group, Splitter}
use Rattle.scene_model.specs.IsPlan.{IsPlan}
use Rattle.scene_model.specs.Plans.{is_sound_kind}
use Rattle.scene_model.specs.Reach.{HasNoCycle}
use Rattle.mix_model.specs.Pulled.{node, endpoint, is_active, leads_to_any, pulled}
use Rattle.mix_model.specs.Signals.{kind_output}
use Rattle.mix_model.proofs.Heard.{source_pulled}
use Rattle.mix_model.proofs.Pulls.{pulled-solves}
use Rattle.engine.specs.Nodes.{IsOrderOf, AreKept}
use Rattle.engine.specs.Room.{AreOthersKept}
use Rattle.engine.specs.Span.{Span, state_at, input_at, output_at, AreOutputs, AreInputs, FeedsKept, kept_at, node_places}

-- ---- an input is what its node puts out, unless that is a sound

passed_on : (clips : List SceneClipData) (channel cursor : ℕ) (x : ℤ) (kind : NodeKind) → is_sound_kind kind ≡ false → x ≡ kind_output clips channel cursor x kind
passed_on clips channel cursor x (Sound resource looped) other = absurd (false≢true (sym other))
passed_on clips channel cursor x Group other = refl
passed_on clips channel cursor x (Splitter outputs) other = refl

pub inputs_put_out : (s : Span) (count n : ℕ) (xs : List ℤ) → is_sound_kind (node s.first.plan n).kind ≡ false → AreInputs s count n xs → AreOutputs s count n xs
inputs_put_out s count n xs other are j below =
    are j below ∙ passed_on s.first.clips (j % s.channels) ((state_at s j).cursor n) (input_at s n j) (node s.first.plan n).kind other

-- ---- all that feeds a node is kept

pub feeds_kept : (s : Span) (places k n : ℕ) (order : List ℕ) (kept : List ℤ) → HasNoCycle s.first.plan.buses → IsOrderOf s.first.plan order → k < length order → slice_index order k ≡ n
    → pulled s.first.plan s.first.time n ≡ true → AreKept s places k order kept → FeedsKept s places n kept
feeds_kept s places k n order kept none is inside here pulls before b among to active =
    let source = source_pulled s.first.plan s.first.time n b none among to pulls active in
    let place = is.behind k b inside among (to ∙ ap Some (sym here)) in
    let e : slice_index order place.0 ≡ b.node = place.2 in
    subst (λ m. AreOutputs s places m (kept_at kept m)) e (before place.0 place.1 (ap (pulled s.first.plan s.first.time) e ∙ source))

-- the endpoint is pulled, and all nodes are in the order
pub endpoint_fed : (s : Span) (places : ℕ) (order : List ℕ) (kept : List ℤ) → IsPlan s.first.plan → IsOrderOf s.first.plan order → AreKept s places (length order) order kept → FeedsKept s places (endpoint s.first.plan) kept
endpoint_fed s places order kept plan is all b among to active =
    let p = s.first.plan in
    let t = s.first.time in
    let pulls : pulled p t (endpoint p) ≡ true = pulled-solves p t plan.no_cycle (endpoint p) ∙ ap (λ (x : Bool). x || (is_active t (node p (endpoint p)) && leads_to_any p.buses (pulled p t) (endpoint p))) (eq-eqb (endpoint p) (endpoint p) refl) in
    let source = source_pulled p t (endpoint p) b plan.no_cycle among to pulls active in
    let below : b.node < length p.nodes = subst (λ (x : Bus). x.node < length p.nodes) among.2 (plan.buses_are among.0 b among.1).node_is in
    let place = is.whole b.node below in
    let e : slice_index order place.0 ≡ b.node = get_or_default order place.0 0 b.node place.1 ∙ place.2 in
    subst (λ m. AreOutputs s places m (kept_at kept m)) e (all place.0 place.1 (ap (pulled p t) e ∙ source))

-- ---- one more node is kept

pub kept_place : (kept : List ℤ) (m j : ℕ) → at (kept_at kept m) j ≡ at kept (m * node_places + j)
kept_place kept m j = get_or-drop (m * node_places) kept j (pos 0)

pub node_kept : (s : Span) (places k n : ℕ) (order : List ℕ) (old new : List ℤ) → places ≤ node_places → slice_index order k ≡ n
    → AreOthersKept n old new → AreOutputs s places n (kept_at new n) → AreKept s places k order old → AreKept s places (k + 1) order new
node_kept s places k n order old new most here others are before i less pulls j below = by_place (eqb (slice_index order i) n) refl (eqb i k) refl
  where
    moved : (m : ℕ) → m ≢ n → at (kept_at new m) j ≡ at (kept_at old m) j
    moved m apart = kept_place new m j ∙ others m j apart (omega (arith, below, most)) ∙ sym (kept_place old m j)

    by_place : (a : Bool) → eqb (slice_index order i) n ≡ a → (b : Bool) → eqb i k ≡ b → at (kept_at new (slice_index order i)) j ≡ output_at s (slice_index order i) j
    by_place true e b f = subst (λ m. at (kept_at new m) j ≡ output_at s m j) (sym (eqb-true (slice_index order i) n e)) (are j below)
    by_place false e true f = absurd (eqb-false (slice_index order i) n e (ap (slice_index order) (eqb-true i k f) ∙ here))
    by_place false e false f =
        let other = eqb-false i k f in
        moved (slice_index order i) (eqb-false (slice_index order i) n e) ∙ before i (omega (arith, less, other)) pulls j below

-- a node that isn't pulled owes nothing
pub none_kept : (s : Span) (places k n : ℕ) (order : List ℕ) (kept : List ℤ) → slice_index order k ≡ n → pulled s.first.plan s.first.time n ≡ false → AreKept s places k order kept → AreKept s places (k + 1) order kept
none_kept s places k n order kept here not_pulled before i less pulls = by_place (eqb i k) refl
  where
    by_place : (b : Bool) → eqb i k ≡ b → AreOutputs s places (slice_index order i) (kept_at kept (slice_index order i))
    by_place true f = absurd (false≢true (sym not_pulled ∙ ap (pulled s.first.plan s.first.time) (sym (ap (slice_index order) (eqb-true i k f) ∙ here)) ∙ pulls))
    by_place false f = let other = eqb-false i k f in before i (omega (arith, less, other)) pulls

-- the places of a span are those of a node's samples at most
pub few_places : (count channels : ℕ) → count ≤ 512 → channels ≤ 2 → count * channels ≤ node_places
few_places count zero few most = let e : count * 0 ≡ 0 = omega arith in omega (arith, e)
few_places count (suc zero) few most = let e : count * 1 ≡ count = omega arith in omega (arith, e, few)
few_places count (suc (suc zero)) few most = let e : count * 2 ≡ count + count = omega arith in omega (arith, e, few)
few_places count (suc (suc (suc more))) few most = absurd (omega (arith, most))
