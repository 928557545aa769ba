-- Inputs on a set of nodes with those that are passed on to it, such as what is pulled.
use Rattle.std.proofs.Common.{◌≡◌, ℕ, zero, suc, ◌<◌, Bool, true, false, ◌&&◌, ◌||◌, not, eqb, ℤ, pos, List, get_or, Some, refl, sym, ◌∙◌, ap, arith}
use Rattle.std.specs.Prelude.{Contains, if◌then◌else◌}
use Rattle.std.specs.List.{list_any}
use Rattle.std.proofs.lemmas.Bool.{and_parts, eq-eqb}
use Rattle.std.proofs.lemmas.List.{get_or_default}
use Rattle.std.proofs.lemmas.List.Elements.{All-contains}
use Rattle.std.proofs.lemmas.List.Folds.{list_any_at}
use Rattle.mix_fixed.specs.Sound.{sat24, scale}
use Rattle.scene_model.specs.declared.bus.Bus.{Bus}
use Rattle.scene_model.specs.declared.node.NodeKind.{NodeKind}
use Rattle.scene_model.specs.declared.node.NodeKind.TheVariants.{Sound, Group, Splitter}
use Rattle.scene_model.specs.PlanData.{PlanData}
use Rattle.scene_model.specs.Plans.{is_sound_kind}
use Rattle.scene_model.specs.Reach.{HasNoCycle, target_passes}
use Rattle.mix_model.specs.Iteration.{SolvesOn}
use Rattle.mix_model.specs.Laws.{passes_on, IsClosed}
use Rattle.mix_model.specs.Pulled.{node, endpoint, is_active, leads_to_any, pulled}
use Rattle.mix_model.specs.Signals.{FrameState, kind_output, is_attached_to, share, input_by, input}
use Rattle.mix_model.proofs.Inputs.{attached_is, input-solves}
use Rattle.mix_model.proofs.Pulls.{pulled-solves}
use Rattle.mix_model.proofs.Ranks.{Ranked, ranked}
use Rattle.mix_model.proofs.Totals.{total_same}

-- what a bus adds hangs on the input of its own node only where it passes that on
share_on : (m : FrameState) (channel : ℕ) (v w : ℕ → ℤ) (n : ℕ) (b : Bus) → (b.to ≡ Some n → passes_on m n b ≡ true → v b.node ≡ w b.node) → share m channel v n b ≡ share m channel w n b
share_on m channel v w n b same =
    by_test (is_attached_to n b.to) (is_active m.time (node m.plan b.node)) (node m.plan b.node).kind (λ e. same (attached_is n b.to e))
  where
    by_test : (attached active : Bool) (kind : NodeKind) → (attached ≡ true → (attached && active && not (is_sound_kind kind)) ≡ true → v b.node ≡ w b.node) → (if attached && active then scale (kind_output m.clips channel (m.cursor b.node) (v b.node) kind) b.gain else pos 0) ≡ (if attached && active then scale (kind_output m.clips channel (m.cursor b.node) (w b.node) kind) b.gain else pos 0)
    by_test true true (Sound resource looped) is = refl
    by_test true true Group is = ap (λ x. scale x b.gain) (is refl refl)
    by_test true true (Splitter outputs) is = ap (λ x. scale x b.gain) (is refl refl)
    by_test true false kind is = refl
    by_test false active kind is = refl

-- two assignments agree where both solve the equations on such a set, rank by rank
same_below : (m : FrameState) (channel : ℕ) (inside : ℕ → Bool) (v w : ℕ → ℤ) (rank : ℕ → ℕ) → Ranked m.plan.buses rank → IsClosed m inside → SolvesOn inside (input_by m channel) v → SolvesOn inside (input_by m channel) w → (k n : ℕ) → rank n < k → inside n ≡ true → v n ≡ w n
same_below m channel inside v w rank raised closed of_v of_w zero n below is = absurd (omega arith)
same_below m channel inside v w rank raised closed of_v of_w (suc k) n below is =
    of_v n is
    ∙ ap sat24 (total_same (share m channel v n) (share m channel w n) m.plan.buses (λ b among.
    share_on m channel v w n b (λ to passes.
    let up = raised.rises b among n to in
    let fed = All-contains (λ (x : Bus). passes_on m n x ≡ true → inside x.node ≡ true) m.plan.buses b (closed n is) among in
    same_below m channel inside v w rank raised closed of_v of_w k b.node (omega arith) (fed passes))))
    ∙ sym (of_w n is)

pub same_on : (m : FrameState) (channel : ℕ) (inside : ℕ → Bool) (v w : ℕ → ℤ) → HasNoCycle m.plan.buses → IsClosed m inside → SolvesOn inside (input_by m channel) v → SolvesOn inside (input_by m channel) w → (n : ℕ) → inside n ≡ true → v n ≡ w n
same_on m channel inside v w none closed of_v of_w n is =
    let r = ranked m.plan.buses none in
    same_below m channel inside v w r.0 r.1 closed of_v of_w (suc (r.0 n)) n (omega arith) is

-- ---- what feeds a pulled node is pulled

any_in : {X : Type 0} (f : X → Bool) (xs : List X) (x : X) → Contains xs x → f x ≡ true → list_any f xs ≡ true
any_in f xs x (k, inside, e) is = list_any_at f xs k x inside (ap f e ∙ is)

pub source_pulled : (p : PlanData) (t n : ℕ) (b : Bus) → HasNoCycle p.buses → Contains p.buses b → b.to ≡ Some n → pulled p t n ≡ true → is_active t (node p b.node) ≡ true → pulled p t b.node ≡ true
source_pulled p t n b none among to is active =
    let leads : leads_to_any p.buses (pulled p t) b.node ≡ true = any_in (λ (x : Bus). eqb x.node b.node && target_passes (pulled p t) x.to) p.buses b among (both (eq-eqb b.node b.node refl) (ap (target_passes (pulled p t)) to ∙ is)) in
    pulled-solves p t none b.node ∙ ap (λ (x : Bool). eqb b.node (endpoint p) || (x && leads_to_any p.buses (pulled p t) b.node)) active
    ∙ ap (λ (x : Bool). eqb b.node (endpoint p) || x) leads ∙ or_true (eqb b.node (endpoint p))
  where
    both : {a c : Bool} → a ≡ true → c ≡ true → (a && c) ≡ true
    both p q = rw (p, q) refl

    or_true : (x : Bool) → (x || true) ≡ true
    or_true true = refl
    or_true false = refl

pub pulled-closed : (m : FrameState) → HasNoCycle m.plan.buses → IsClosed m (pulled m.plan m.time)
pulled-closed m none n is k d within passes =
    let b = get_or m.plan.buses k d in
    let fed = and_parts (is_attached_to n b.to && is_active m.time (node m.plan b.node)) (not (is_sound_kind (node m.plan b.node).kind)) passes in
    let both = and_parts (is_attached_to n b.to) (is_active m.time (node m.plan b.node)) fed.0 in
    source_pulled m.plan m.time n b none (k, within, get_or_default m.plan.buses k b d within) (attached_is n b.to both.0) is both.1

pub heard : (m : FrameState) (channel : ℕ) (v : ℕ → ℤ) → HasNoCycle m.plan.buses → SolvesOn (pulled m.plan m.time) (input_by m channel) v → (n : ℕ) → pulled m.plan m.time n ≡ true → v n ≡ input m channel n
heard m channel v none solves =
    same_on m channel (pulled m.plan m.time) v (input m channel) none (pulled-closed m none) solves (λ n is. input-solves m channel none n)
