use Rattle.std.proofs.Common.{rules, arith, ℕ, ◌<◌, List, length, take, sym, ap, ◌∙◌, subst, ◌≤◌, get_or}
use Rattle.std.proofs.lemmas.List.{length-set}
use Rattle.std.proofs.Common.{take-suc-set, length-take-le, add-one, Bool}
use Rattle.atomic_table.specs.Table.{Me}
use Rattle.live_board.specs.declared.view.View.{View}
use Rattle.live_board.specs.Steps.{dial_read}
use Rattle.live_board.specs.Steps.{reading_so_far}
use Rattle.live_board.proofs.ReadingSteps.{read_more, in_range_set}
use Rattle.live_board.proofs.reading.read_all.Goals as goal

pub loop-i-preserved : goal.loop-i-preserved
loop-i-preserved c =
    let v = c.loop-i.invariant in
    let e = c.load_dial.ensures in
    let i : ℕ = c.loop-i.i in
    let lt : i < length c.loop-i.out = search rules in
    let f : ℕ = c.load_first_count-from.result in
    record {
      table_is = e.0 ∙ v.table_is;
      same_slots = ap (λ (m : Me Bool View). m.1) e.1 ∙ v.same_slots;
      len_is = length-set c.loop-i.out i c.load_dial.result ∙ v.len_is;
      in_range = λ j lt'. in_range_set c.loop-i.out c.args.seat.now.me.0.mixing.most i j c.load_dial.result lt lt' v.in_range (subst (λ (u : View). c.load_dial.result ≤ get_or u.mixing.most i 0) v.view_is e.2);
      view_is = ap (λ (m : Me Bool View). m.0) e.1 ∙ ap (λ (u : View). dial_read i c.load_dial.result u) v.view_is ∙ read_more f c.load_dial.result i (take i c.loop-i.out) c.args.seat.now.me.0 (length-take-le i c.loop-i.out (omega arith))
          ∙ ap (λ (ws : List ℕ). reading_so_far f ws c.args.seat.now.me.0) (sym (rw add-one (take-suc-set c.loop-i.out i c.load_dial.result lt)));
    }
