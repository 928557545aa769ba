-- A cursor stays in its clip.
use Rattle.std.proofs.Common.{ℕ, zero, suc, ◌+◌, ◌≤◌, Bool, true, false, eqb, List, [], ◌∷◌, arith}
use Rattle.std.specs.Prelude.{fold, min, if◌then◌else◌}
use Rattle.scene_clips.specs.SceneClipData.{SceneClipData}
use Rattle.scene_model.specs.declared.edit.Edit.{Edit}
use Rattle.scene_model.specs.declared.edit.Edit.TheVariants.{Attach, Detach, SetGain, Start, Stop, From, Until, Seek, Loop}
use Rattle.scene_model.specs.PlanData.{PlanData}
use Rattle.scene_model.specs.SceneData.{SceneData}
use Rattle.scene_model.specs.Times.{edits_at, plan}
use Rattle.mix_model.specs.Mix.{node_frames, cursor_after_edit, next_frame, next_cursor, cursor_before, cursor}
use Rattle.mix_model.specs.Pulled.{node, pulled}
use Rattle.mix_model.specs.Spans.{cursor_on}
use Rattle.engine.proofs.PlayedParts.{next_most}

after_most : (n frames c : ℕ) (e : Edit) → c ≤ frames → cursor_after_edit n frames c e ≤ frames
after_most n frames c (Seek target place) most = by_target (eqb target n)
  where
    by_target : (b : Bool) → (if b then min place frames else c) ≤ frames
    by_target true = omega arith
    by_target false = most
after_most n frames c (Attach target out to) most = most
after_most n frames c (Detach target out) most = most
after_most n frames c (SetGain target out gain) most = most
after_most n frames c (Start target) most = most
after_most n frames c (Stop target) most = most
after_most n frames c (From target value) most = most
after_most n frames c (Until target value) most = most
after_most n frames c (Loop target on) most = most

all_most : (n frames c : ℕ) (es : List Edit) → c ≤ frames → fold (cursor_after_edit n frames) c es ≤ frames
all_most n frames c [] most = most
all_most n frames c (e ∷ es) most = all_most n frames (cursor_after_edit n frames c e) es (after_most n frames c e most)

next_cursor_most : (p : PlanData) (t n frames c : ℕ) → c ≤ frames → next_cursor p t n frames c ≤ frames
next_cursor_most p t n frames c most = by_pull (pulled p t n)
  where
    by_pull : (b : Bool) → (if b then next_frame frames (node p n).looped c else c) ≤ frames
    by_pull true = next_most frames (node p n).looped c
    by_pull false = most

pub before_most : (clips : List SceneClipData) (s : SceneData) (n t : ℕ) → cursor_before clips s n t ≤ node_frames clips s n
unfolding cursor_before
before_most clips s n zero = omega arith
before_most clips s n (suc t) =
    next_cursor_most (plan s t) t n (node_frames clips s n) (cursor clips s n t)
    (all_most n (node_frames clips s n) (cursor_before clips s n t) (edits_at s.edits t) (before_most clips s n t))

pub cursor_most : (clips : List SceneClipData) (s : SceneData) (n t : ℕ) → cursor clips s n t ≤ node_frames clips s n
cursor_most clips s n t = all_most n (node_frames clips s n) (cursor_before clips s n t) (edits_at s.edits t) (before_most clips s n t)

pub cursor_on_most : (p : PlanData) (t n frames c i : ℕ) → c ≤ frames → cursor_on p t n frames c i ≤ frames
unfolding cursor_on
cursor_on_most p t n frames c zero most = most
cursor_on_most p t n frames c (suc i) most = next_cursor_most p (t + i) n frames (cursor_on p t n frames c i) (cursor_on_most p t n frames c i most)
