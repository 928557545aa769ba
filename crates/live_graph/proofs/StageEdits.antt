-- What a live stage is after an edit that is done.
use Rattle.std.proofs.Common.{◌≡◌, ℕ, ◌+◌, ◌*◌, ◌<◌, ◌≤◌, ◌^◌, Bool, true, List, [], length, Option, Some, None, refl, sym, ◌∙◌, ap, subst, arith}
use Rattle.std.specs.Prelude.{IfSome, if◌then◌else◌, slice_index}
use Rattle.std.proofs.lemmas.List.{length-map}
use Rattle.scene_model.specs.declared.edit.Edit.{Edit}
use Rattle.scene_model.specs.IsPlan.{IsPlan, AreTimesInRange, names_nodes, may_seek, output_of}
use Rattle.scene_model.specs.IsScene.{is_edit}
use Rattle.scene_model.specs.PlanData.{PlanData}
use Rattle.scene_model.specs.Plans.{after, made, reply, is_done}
use Rattle.scene_model.proofs.Kept.{outputs_after}
use Rattle.scene_model.proofs.PlanStays.{IsPlan-made, length-after}
use Rattle.scene_model.proofs.TimesInRange.{times_after}
use Rattle.mix_model.specs.Board.{board}
use Rattle.live_board.specs.declared.board.Board.{Board}
use Rattle.live_board.specs.Rule.{words_set}
use Rattle.node_graph.specs.ListChanges.{list_change, changed}
use Rattle.node_graph.specs.ListData.{AreInputsOf}
use Rattle.node_graph.proofs.ListsKept.{inputs_made}
use Rattle.live_graph.specs.Dials.{dial_of, dial_set, word_at, most_words}
use Rattle.live_graph.specs.InputEditors.{editors_changed, lists_of}
use Rattle.live_graph.specs.Stages.{IsStage, IsBoardOf, IsDialOf, IsEdited, HadFewer, with_changes}
use Rattle.live_graph.specs.declared.stage.LiveStage.{LiveStage}
use Rattle.live_graph.proofs.DialWords.{sets_dial, dial_within, within_most}
use Rattle.live_graph.proofs.EditedLists.{lists_changed}

-- an edit that may be made, and is done
pub record MayBeDone (s : LiveStage) (e : Edit) : Type 0 where
  pub plan : IsPlan s.plan
  pub names : names_nodes (length s.plan.nodes) e ≡ true
  pub may : may_seek s.plan.nodes e ≡ true
  pub edit : is_edit (length s.plan.nodes) e ≡ true
  pub done : is_done (reply s.plan e) ≡ true

pub length-buses : (p : PlanData) (e : Edit) → length (after p e).buses ≡ length p.buses
length-buses p e =
    sym (length-map (after p e).buses output_of) ∙ ap length (outputs_after p e) ∙ length-map p.buses output_of

after_done : (p : PlanData) (e : Edit) → is_done (reply p e) ≡ true → after p e ≡ made p e
after_done p e done = ap (λ (d : Bool). if d then made p e else p) done

if_some : (P : ℕ → Type 0) (o : Option ℕ) → ((place : ℕ) → o ≡ Some place → P place) → IfSome o P
if_some P None each = tt
if_some P (Some place) each = each place refl

pub dial_is : (b : Board) (s : LiveStage) (e : Edit) (o : Option ℕ) → IsStage s → IsBoardOf b s → MayBeDone s e → o ≡ dial_of s.plan e → IfSome o (λ place. IsDialOf b (after s.plan e) place)
dial_is b s e o w of_stage may is = if_some (λ place. IsDialOf b (after s.plan e) place) o each
  where
    each : (place : ℕ) → o ≡ Some place → IsDialOf b (after s.plan e) place
    each place at =
        let q = after s.plan e in
        let low = dial_within s.plan e place may.names (sym is ∙ at) in
        let nodes : length q.nodes ≡ length s.plan.nodes = length-after s.plan e in
        let buses : length q.buses ≡ length s.plan.buses = length-buses s.plan e in
        let count = of_stage.dials_are in
        let plan : IsPlan q = subst IsPlan (sym (after_done s.plan e may.done)) (IsPlan-made s.plan e may.plan may.names may.may may.done) in
        let times = times_after (length s.plan.nodes) s.plan e may.edit w.times_are in
        let of_new : place < 5 * length q.nodes + length q.buses = omega arith in
        record {
          within = omega arith;
          of_plan = of_new;
          in_range =
              subst (λ (most : List ℕ). slice_index (board q) place ≤ slice_index most place)
              (ap (λ (n : ℕ). most_words n (length q.buses)) nodes ∙ ap (most_words (length s.plan.nodes)) buses ∙ sym of_stage.most_is)
              (within_most q place plan times of_new);
        }

pub edited : (old : LiveStage) (e : Edit) (new : LiveStage) (q : PlanData) (o : Option ℕ) → MayBeDone old e → q ≡ after old.plan e → new.plan ≡ q → new.inputs.items ≡ editors_changed old.inputs.items (list_change old.plan.buses e) → new.seat.table_id ≡ old.seat.table_id → o ≡ dial_of old.plan e → new.seat.me ≡ (with_changes (word_at q o) old.seat.me.0, old.seat.me.1) → IsEdited old e new
edited old e new q o may q_is plan inputs table o_is stored =
    let set : dial_set old.plan e ≡ word_at (made old.plan e) (dial_of old.plan e) = ap (λ (d : Bool). if d then word_at (made old.plan e) (dial_of old.plan e) else []) may.done in
    let done = after_done old.plan e may.done in
    let words : word_at q o ≡ dial_set old.plan e = ap (λ (p : PlanData). word_at p o) (q_is ∙ done) ∙ ap (word_at (made old.plan e)) o_is ∙ sym set in
    record {
      plan_is = plan ∙ q_is;
      inputs_are = inputs ∙ sym (ap (λ (d : Bool). if d then editors_changed old.inputs.items (list_change old.plan.buses e) else old.inputs.items) may.done);
      table_is = table;
      stored = stored ∙ ap (λ (ws : List (ℕ × ℕ)). (with_changes ws old.seat.me.0, old.seat.me.1)) words;
      words_are = ap board (plan ∙ q_is ∙ done) ∙ sets_dial old.plan e may.plan may.names ∙ ap (words_set (board old.plan)) (sym set);
    }

pub stage_edited : (old : LiveStage) (e : Edit) (new : LiveStage) → IsStage old → MayBeDone old e → HadFewer (2 ^ 62) (lists_of old.inputs.items) → IsEdited old e new → new.changes ≡ length new.seat.me.0.lock.history → IsStage new
stage_edited old e new w may few done changes =
    let plan : new.plan ≡ made old.plan e = done.plan_is ∙ after_done old.plan e may.done in
    let inputs : new.inputs.items ≡ editors_changed old.inputs.items (list_change old.plan.buses e) = done.inputs_are ∙ ap (λ (d : Bool). if d then editors_changed old.inputs.items (list_change old.plan.buses e) else old.inputs.items) may.done in
    let lists : lists_of new.inputs.items ≡ changed (lists_of old.inputs.items) (list_change old.plan.buses e) = ap lists_of inputs ∙ lists_changed old.inputs.items (list_change old.plan.buses e) few in
    record {
      plan_is = subst IsPlan (sym plan) (IsPlan-made old.plan e may.plan may.names may.may may.done);
      inputs_are =
          subst (λ (p : PlanData). AreInputsOf p (lists_of new.inputs.items)) (sym plan)
          (subst (AreInputsOf (made old.plan e)) (sym lists) (inputs_made old.plan e (lists_of old.inputs.items) may.plan may.names may.done w.inputs_are));
      times_are = subst AreTimesInRange (sym done.plan_is) (times_after (length old.plan.nodes) old.plan e may.edit w.times_are);
      locks = ap (λ me. me.0.locks) done.stored ∙ w.locks;
      counted = ap (λ me. me.0.lock.stored) done.stored;
      changes_are = changes;
    }
