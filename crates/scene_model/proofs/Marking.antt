-- What one new mark does, and what the marks say once no bus gives a new one.
use Rattle.std.proofs.Common.{◌≡◌, ℕ, zero, suc, ◌+◌, ◌<◌, ◌≤◌, Bool, true, false, not, cond, List, [], ◌∷◌, length, get_or, set, take, replicate, refl, sym, ◌∙◌, ap, subst, arith, inl, inr}
use Rattle.std.specs.Prelude.{Contains}
use Rattle.std.proofs.lemmas.Bool.{cases_eq, false≢true, true≢false}
use Rattle.std.proofs.lemmas.List.{get_or-set_same, get_or-set_other, take_all, length-replicate}
use Rattle.std.proofs.lemmas.List.Sums.{sum_by-set}
use Rattle.std.proofs.lemmas.List.Elements.{All-contains, All-more, Contains-get_or, All-nil}
use Rattle.scene_model.specs.declared.bus.Bus.{Bus}
use Rattle.scene_model.specs.Marks.{mark, unmarked, AreKept, AreReached, IsSettledAt, AreSettled, IsMarkedAt}
use Rattle.scene_model.specs.Reach.{Path, reaches}
use Rattle.scene_model.proofs.Reachable.{reaches_next, reaches_on, reaches_is, reaches_itself}

mark_same : (marks : List Bool) (n : ℕ) → n < length marks → mark (set marks n true) n ≡ true
mark_same marks n h = get_or-set_same marks n true false h

mark_other : (marks : List Bool) (n m : ℕ) → (m ≡ n → ⊥) → mark (set marks n true) m ≡ mark marks m
mark_other marks n m h = get_or-set_other marks n m true false h

kept_set : (marks : List Bool) (to : ℕ) → to < length marks → AreKept marks (set marks to true)
kept_set marks to within n h =
    elim (cases_eq n to) [
      | inl e ↦ rw e (mark_same marks to within)
      | inr e ↦ mark_other marks to n e ∙ h
    ]

pub kept_by : (b : Bus) (old new : List Bool) → IsMarkedAt b old new → AreKept old new
kept_by b old new w = subst (λ (marks : List Bool). AreKept old marks) (sym w.new_is) (kept_set old w.to w.to_within)

reached_set : (buses : List Bus) (from : ℕ) (marks : List Bool) (to : ℕ) → to < length marks → reaches buses from to ≡ true → AreReached buses from marks → AreReached buses from (set marks to true)
reached_set buses from marks to within r old n h =
    elim (cases_eq n to) [
      | inl e ↦ rw e r
      | inr e ↦ old n (sym (mark_other marks to n e) ∙ h)
    ]

pub reached_by : (buses : List Bus) (b : Bus) (old new : List Bool) → Contains buses b → IsMarkedAt b old new → (from : ℕ) → AreReached buses from old → AreReached buses from new
reached_by buses b old new among w from before =
    let one = reaches_next buses b w.to among w.to_is in
    let r = reaches_on buses from b.node w.to (before b.node w.node_marked) one in
    subst (λ (marks : List Bool). AreReached buses from marks) (sym w.new_is) (reached_set buses from old w.to w.to_within r before)

pub fewer_by : (b : Bus) (old new : List Bool) → IsMarkedAt b old new → unmarked new < unmarked old
fewer_by b old new w =
    let counts = sum_by-set (λ x. cond (not x) 1 0) old w.to true false w.to_within in
    let one : ℕ = 1 in
    let at : cond (not (mark old w.to)) one 0 ≡ one = ap (λ x. cond (not x) one 0) w.to_unmarked in
    let same : unmarked new ≡ unmarked (set old w.to true) = ap unmarked w.new_is in
    omega (arith, counts, at, same)

-- from a marked node attached buses lead to marked nodes alone
marked_along : (buses : List Bus) (marks : List Bool) → AreSettled buses marks → (path : List Bus) (a b : ℕ) → Path buses a path b → mark marks a ≡ true → mark marks b ≡ true
marked_along buses marks settled [] a b e h = rw (← e) h
marked_along buses marks settled (x ∷ path) a b (next, step, rest) h =
    let at = All-contains (IsSettledAt marks) buses x settled step.among in
    marked_along buses marks settled path next b rest (at next step.to_is (rw step.node_is h))

same_tests : (x y : Bool) → (x ≡ true → y ≡ true) → (y ≡ true → x ≡ true) → x ≡ y
same_tests true y f g = sym (f refl)
same_tests false true f g = g refl
same_tests false false f g = refl

-- so the marks are those of the nodes that are reached
pub marks_are : (buses : List Bus) (from : ℕ) (marks : List Bool) → mark marks from ≡ true → AreReached buses from marks → AreSettled buses marks → (to : ℕ) → mark marks to ≡ reaches buses from to
marks_are buses from marks start reached settled to =
    same_tests (mark marks to) (reaches buses from to) (reached to) (λ r. let w = (reaches_is buses from to).0 r in marked_along buses marks settled w.0 from to w.1 start)

-- A round so far: what the first i buses make of the marks at its start.
pub record IsRound (buses : List Bus) (i : ℕ) (start marks : List Bool) (is_new : Bool) : Type 0 where
  pub kept : AreKept start marks
  pub reached : (from : ℕ) → AreReached buses from start → AreReached buses from marks
  pub settled : is_new ≡ false → AreSettled (take i buses) marks
  pub fewer : is_new ≡ true → unmarked marks < unmarked start
  pub few : unmarked marks ≤ unmarked start

pub round_none : (buses : List Bus) (start : List Bool) → IsRound buses 0 start start false
round_none buses start = record {
  kept = λ n h. h;
  reached = λ from h. h;
  settled = λ e. All-nil (IsSettledAt start);
  fewer = λ e. absurd (false≢true e);
  few = omega arith;
}

pub round_marked : (buses : List Bus) (i : ℕ) (d : Bus) (start marks new : List Bool) (is_new : Bool) → i < length buses → IsRound buses i start marks is_new → IsMarkedAt (get_or buses i d) marks new → IsRound buses (i + 1) start new true
round_marked buses i d start marks new is_new within r w =
    let fewer : unmarked new < unmarked marks = fewer_by (get_or buses i d) marks new w in
    let few : unmarked marks ≤ unmarked start = r.few in
    record {
      kept = λ n h. kept_by (get_or buses i d) marks new w n (r.kept n h);
      reached = λ from h. reached_by buses (get_or buses i d) marks new (Contains-get_or buses i d within) w from (r.reached from h);
      settled = λ e. absurd (true≢false e);
      fewer = λ e. omega arith;
      few = omega arith;
    }

pub round_same : (buses : List Bus) (i : ℕ) (d : Bus) (start marks new : List Bool) (is_new : Bool) → i < length buses → IsRound buses i start marks is_new → new ≡ marks → IsSettledAt marks (get_or buses i d) → IsRound buses (i + 1) start new is_new
round_same buses i d start marks new is_new within r same settled =
    subst (λ (m : List Bool). IsRound buses (i + 1) start m is_new) (sym same)
    (record {
      kept = r.kept;
      reached = r.reached;
      settled = λ e. All-more (IsSettledAt marks) buses i d within (r.settled e) settled;
      fewer = r.fewer;
      few = r.few;
    })

-- a round that gave no new mark
pub round_settled : (buses : List Bus) (i : ℕ) (start marks : List Bool) → length buses ≤ i → IsRound buses i start marks false → AreSettled buses marks
round_settled buses i start marks whole r =
    subst (λ (bs : List Bus). AreSettled bs marks) (take_all i buses whole) (r.settled refl)

-- the first mark, on the node itself
no_mark : (size n : ℕ) → mark (replicate size false) n ≡ false
no_mark zero n = refl
no_mark (suc size) zero = refl
no_mark (suc size) (suc n) = no_mark size n

pub first_start : (size from : ℕ) → from < size → mark (set (replicate size false) from true) from ≡ true
first_start size from within = mark_same (replicate size false) from (rw length-replicate within)

pub first_reached : (buses : List Bus) (size from : ℕ) → from < size → AreReached buses from (set (replicate size false) from true)
first_reached buses size from within =
    reached_set buses from (replicate size false) from (rw length-replicate within) (reaches_itself buses from)
    (λ n h. absurd (false≢true (sym (no_mark size n) ∙ h)))
