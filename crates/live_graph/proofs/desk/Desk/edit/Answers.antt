use Rattle.std.proofs.Common.{◌≡◌, ℕ, ◌<◌, Bool, List, [], ◌∷◌, ◌++◌, length, ◌∙◌, ap, arith, length-append}
use Rattle.std.proofs.lemmas.Bool.{and_parts}
use Rattle.std.proofs.lemmas.Grind.{get_or_default_zero}
use Rattle.atomic_table.specs.Table.{Me}
use Rattle.scene_model.specs.declared.reply.Reply.{Reply}
use Rattle.scene_model.specs.IsPlan.{may_seek, names_nodes}
use Rattle.mix_model.specs.Journals.{edits_by}
use Rattle.live_board.specs.declared.view.View.{View}
use Rattle.live_board.proofs.Hands.{last_snoc}
use Rattle.live_graph.specs.Runs.{HandData, replied}
use Rattle.live_graph.proofs.DeskSteps.{count_is_by, desk_next, edit_is_next, has_room, is_board, made_is_next, may_edit, room_is}
use Rattle.live_graph.proofs.Telling.{booked_is, can_book, heard_is, told_is}
use Rattle.live_graph.proofs.desk.Desk.edit.Goals as goal

abbrev hand_data : ℕ → List Reply → HandData
hand_data e replies = record { editor = e; replies = replies }

pub edit-reply-requires-clause-board : goal.edit-reply-requires-clause-board
edit-reply-requires-clause-board g c =
    is_board g.N.Run.run c.self.inside.stage c.self.inside.made.items c.self.inside.journal.items c.args.board.now c.self.invariant.0 c.requires.board

pub edit-reply-requires-clause-edit : goal.edit-reply-requires-clause-edit
edit-reply-requires-clause-edit g c =
    let d = c.self.invariant.0 in
    let h = c.hand.invariant in
    let e : ℕ = c.hand.inside.editor in
    let k : ℕ = c.hand.inside.next in
    let r = g.N.Run.run in
    let w = c.self.inside.stage in
    let made = c.self.inside.made.items in
    let journal = c.self.inside.journal.items in
    let left : length c.hand.inside.seat.me.0.hand.replies < length (edits_by r.scene e) = rw (← c.hand.view_is) at c.requires.left in
    let at = edit_is_next r.scene e k c.hand.inside.edits.items c.hand.inside.seat.me.0.hand.replies c.index.result.now h.edits_are h.next_is left c.index.ensures in
    may_edit r w made journal e k c.index.result.now d at

pub edit-reply-requires-clause-room : goal.edit-reply-requires-clause-room
edit-reply-requires-clause-room g c =
    room_is g.N.Run.run c.self.inside.stage c.self.inside.made.items c.self.inside.journal.items c.self.invariant.0

pub store_told-requires-clause-word : goal.store_told-requires-clause-word
store_told-requires-clause-word g c =
    let t = c.told_word-word.ensures in
    let n = c.hand.invariant.next_is in
    let l = last_snoc c.hand.inside.seat.me.0.hand.replies c.edit-reply.result in
    (c.edit-reply.result, t.fits, omega (arith, t.word, l, length-append c.hand.inside.seat.me.0.hand.replies (c.edit-reply.result ∷ [])))

pub store_booked-requires-clause-heard : goal.store_booked-requires-clause-heard
store_booked-requires-clause-heard g c =
    let d = c.self.invariant.0 in
    let h = c.hand.invariant in
    let e : ℕ = c.hand.inside.editor in
    let k : ℕ = c.hand.inside.next in
    let r = g.N.Run.run in
    let w = c.self.inside.stage in
    let made = c.self.inside.made.items in
    let journal = c.self.inside.journal.items in
    let left : length c.hand.inside.seat.me.0.hand.replies < length (edits_by r.scene e) = rw (← c.hand.view_is) at c.requires.left in
    let at = edit_is_next r.scene e k c.hand.inside.edits.items c.hand.inside.seat.me.0.hand.replies c.index.result.now h.edits_are h.next_is left c.index.ensures in
    let is_next = made_is_next made e k c.index-2.result.now d.made_are h.editor_most c.index-2.ensures c.wait_for.ensures in
    let t = c.told_word-word.ensures in
    let by = count_is_by r w c.edit-reply.new.self made journal c.index.result.now e k d h.editor_most is_next c.edit-reply.ensures.edited in
    let heard = heard_is e k c.told_word-word.result c.edit-reply.result c.edit-reply.new.self.seat.me c.await_told.new.seat.me c.await_told.ensures.1 by t.fits t.word in
    (c.edit-reply.result, can_book e c.edit-reply.result c.edit-reply.new.self.seat.me c.await_told.new.seat.me heard)

pub push_reserved-requires : goal.push_reserved-requires
push_reserved-requires g c =
    let d = c.self.invariant.0 in
    let h = c.hand.invariant in
    let e : ℕ = c.hand.inside.editor in
    let k : ℕ = c.hand.inside.next in
    let r = g.N.Run.run in
    let w = c.self.inside.stage in
    let made = c.self.inside.made.items in
    let journal = c.self.inside.journal.items in
    let left : length c.hand.inside.seat.me.0.hand.replies < length (edits_by r.scene e) = rw (← c.hand.view_is) at c.requires.left in
    let at = edit_is_next r.scene e k c.hand.inside.edits.items c.hand.inside.seat.me.0.hand.replies c.index.result.now h.edits_are h.next_is left c.index.ensures in
    let is_next = made_is_next made e k c.index-2.result.now d.made_are h.editor_most c.index-2.ensures c.wait_for.ensures in
    let room = has_room r w made journal e d h.editor_most (let q = h.next_is in omega (arith, is_next, left)) in
    let cap = c.self.invariant.1 in
    omega arith

pub invariant_of-self : goal.invariant_of-self
invariant_of-self g c =
    let d = c.self.invariant.0 in
    let h = c.hand.invariant in
    let e : ℕ = c.hand.inside.editor in
    let k : ℕ = c.hand.inside.next in
    let r = g.N.Run.run in
    let w = c.self.inside.stage in
    let made = c.self.inside.made.items in
    let journal = c.self.inside.journal.items in
    let left : length c.hand.inside.seat.me.0.hand.replies < length (edits_by r.scene e) = rw (← c.hand.view_is) at c.requires.left in
    let at = edit_is_next r.scene e k c.hand.inside.edits.items c.hand.inside.seat.me.0.hand.replies c.index.result.now h.edits_are h.next_is left c.index.ensures in
    let is_next = made_is_next made e k c.index-2.result.now d.made_are h.editor_most c.index-2.ensures c.wait_for.ensures in
    let t = c.told_word-word.ensures in
    let by = count_is_by r w c.edit-reply.new.self made journal c.index.result.now e k d h.editor_most is_next c.edit-reply.ensures.edited in
    let heard = heard_is e k c.told_word-word.result c.edit-reply.result c.edit-reply.new.self.seat.me c.await_told.new.seat.me c.await_told.ensures.1 by t.fits t.word in
    let s = c.store_booked.ensures in
    let booked = booked_is e c.edit-reply.result s.booked.0 c.edit-reply.new.self.seat.me c.await_told.new.seat.me c.store_booked.new.seat.me heard s.booked.1 s.booked.2 in
    let p = c.push_reserved.ensures in
    let may = may_edit r w made journal e k c.index.result.now d at in
    let names = (and_parts (names_nodes (length w.plan.nodes) c.index.result.now) (may_seek w.plan.nodes c.index.result.now) may.0).0 in
    let next = desk_next r w c.edit-reply.new.self made journal c.index.result.now c.edit-reply.result e k c.store_booked.new.seat
    d h.editor_most at is_next names c.edit-reply.ensures.reply c.edit-reply.ensures.edited c.edit-reply.ensures.stage (s.table ∙ c.await_told.ensures.0) booked in
    let cap = c.self.invariant.1 in
    let now : c.index_mut.result.now ≡ k = c.index_mut.ensures.value ∙ get_or_default_zero made e c.index_mut.result.now (let q = d.made_are in let b = h.editor_most in omega arith) ∙ is_next in
    (rw (p.items, now) next, omega (arith, p.capacity, cap))

pub returns-clause-hand : goal.returns-clause-hand
returns-clause-hand g c =
    let t = c.store_told.ensures.told in
    let n = c.hand.invariant.next_is in
    let replies : List Reply = c.hand.inside.seat.me.0.hand.replies in
    let same : t.0 ≡ c.edit-reply.result = told_is replies c.edit-reply.result t.0 c.told_word-word.result t.1 (let word = c.told_word-word.ensures.word in omega arith) in
    let is = c.await_booked.ensures.1 in
    let new : c.await_booked.new.seat.me.0.hand.replies ≡ replies ++ c.edit-reply.result ∷ [] = ap (λ (y : Me Bool View). y.0.hand.replies) is ∙ ap (λ (y : Me Bool View). y.0.hand.replies) t.2 ∙ ap (λ (x : Reply). replies ++ x ∷ []) same in
    ap (hand_data c.hand.inside.editor) new ∙ ap (replied c.edit-reply.result) c.hand.view_is
