-- Each step keeps the rule.
use Rattle.std.proofs.Common.{◌≡◌, ℕ, suc, ◌+◌, ◌-◌, ◌<◌, ◌≤◌, Bool, true, false, List, [], ◌∷◌, ◌++◌, length, set, get_or, refl, sym, ap, ◌∙◌, subst, arith}
use Rattle.std.proofs.lemmas.List.{length-set, get_or-set_same, get_or-set_other, set-get_or}
use mathlib.Core.Option.{none}
use Rattle.atomic_table.specs.Table.{Me, Allows, keeps, step}
use Rattle.scene_model.specs.declared.reply.Reply.{Reply}
use Rattle.live_board.specs.declared.view.Opening.{Opening}
use Rattle.live_board.specs.declared.view.View.{View}
use Rattle.live_board.specs.declared.view.LockView.{LockView}
use Rattle.live_board.specs.declared.view.MixView.{MixView}
use Rattle.live_board.specs.declared.view.HandView.{HandView}
use Rattle.live_board.specs.Rule.{replies_of, Kept, Core, board_words, told_at, booked_at, told_word}
use Rattle.live_board.specs.Steps.{dial_stored, counted, begun, dial_read, ended, heard_as, booked_as, told_as, found_as, Heard, Told, Booked, Learns}
use Rattle.live_board.proofs.Core.{core_dial, core_count, core_begin, core_read, core_end}
use Rattle.live_board.specs.Rule.{CoreHand, reply_code}
use Rattle.live_board.proofs.Hands.{upd, core_tell, core_hear, core_book, core_check, whole_is_booked}
use Rattle.live_board.proofs.Cast.{lock_moves, mix_moves, hand_moves}

pub stores_dial : (k : Opening) (slots id i n : ℕ) (me : Me Bool View) → n ≤ get_or k.most.items i 0 → me.0.locks ≡ true → me.0.lock.stored ≡ false → i < length k.dials.items
    → Allows (Kept k) slots id me (i + 1) (λ _. n) (λ _ now. now ≡ (dial_stored (i + 1 - 1) n me.0, me.1))
stores_dial k slots id i n me little l not lt s K homes at small =
    let v = me.0 in
    let e : v.lock ≡ K.d = ((K.cast id v at).locks l).1 in
    let open' : v.lock.opening ≡ k.dials.items = ap (λ (d : LockView). d.opening) e ∙ K.opening_is in
    let D : ℕ = length k.dials.items in
    let len = K.words_are in
    let core = subst (λ (d : LockView). Core (board_words D s.words) d K.m K.h) (sym e) K.core in
    let back : i + 1 - 1 ≡ i = omega arith in (
      dial_stored (i + 1 - 1) n v,
      keeps,
      tt,
      rw back (lock_moves k s K id v (set s.words (i + 1) n) (dial_stored i n v).lock at l (length-set s.words (i + 1) n) (ap (λ (d : LockView). d.opening) e) (ap (λ (d : LockView). d.next) e)
          (core_dial (board_words D s.words) (board_words D (set s.words (i + 1) n)) v.lock K.m K.h i n core not (rw K.most_is little) (omega (arith, ap length open'))
          (get_or-set_same s.words (i + 1) n 0 (omega arith))
          (λ j ne. get_or-set_other s.words (i + 1) (j + 1) n 0 (λ q. ne (omega arith)))
          (get_or-set_other s.words (i + 1) 0 n 0 (λ q. absurd (omega arith)))
          (λ f. get_or-set_other s.words (i + 1) (told_at D f) n 0 (λ q. absurd (omega arith)))
          (λ f. get_or-set_other s.words (i + 1) (booked_at D f) n 0 (λ q. absurd (omega arith))))),
      refl,
    )

pub stores_count : (k : Opening) (slots id n : ℕ) (me : Me Bool View) → me.0.locks ≡ true → me.0.lock.stored ≡ true → n ≡ length me.0.lock.history
    → Allows (Kept k) slots id me 0 (λ _. n) (λ _ now. now ≡ (counted me.0, me.1))
stores_count k slots id n me l is whole s K homes at small =
    let v = me.0 in
    let e : v.lock ≡ K.d = ((K.cast id v at).locks l).1 in
    let D : ℕ = length k.dials.items in
    let len = K.words_are in
    let core = subst (λ (d : LockView). Core (board_words D s.words) d K.m K.h) (sym e) K.core in (
      counted v,
      keeps,
      tt,
      lock_moves k s K id v (set s.words 0 n) (counted v).lock at l (length-set s.words 0 n) (ap (λ (d : LockView). d.opening) e) (ap (λ (d : LockView). d.next) e)
          (core_count (board_words D s.words) (board_words D (set s.words 0 n)) v.lock K.m K.h core is
          (λ j. get_or-set_other s.words 0 (j + 1) n 0 (λ q. absurd (omega arith)))
          (get_or-set_same s.words 0 n 0 (omega arith) ∙ whole)
          (λ f. get_or-set_other s.words 0 (told_at D f) n 0 (λ q. absurd (omega arith)))
          (λ f. get_or-set_other s.words 0 (booked_at D f) n 0 (λ q. absurd (omega arith)))),
      refl,
    )

pub begins_reading : (k : Opening) (slots id : ℕ) (me : Me Bool View) → me.0.mixes ≡ true → Allows (Kept k) slots id me 0 (λ n. n) (λ n now. now ≡ (begun n me.0, me.1))
begins_reading k slots id me l s K homes at small =
    let v = me.0 in
    let e : v.mixing ≡ K.m = ((K.cast id v at).mixes l).1 in
    let n : ℕ = get_or s.words 0 0 in
    let D : ℕ = length k.dials.items in (
      begun n v,
      keeps,
      tt,
      mix_moves k s K id v (set s.words 0 n) (begun n v).mixing at l (set-get_or s.words 0 0) (ap (λ (m : MixView). m.most) e) (core_begin (board_words D s.words) K.d K.m K.h K.core (begun n v).mixing (ap (λ (m : MixView). m.most) e) (ap (λ (m : MixView). m.readings) e) refl refl),
      refl,
    )

pub reads_dial : (k : Opening) (slots id i : ℕ) (me : Me Bool View) → me.0.mixes ≡ true → me.0.mixing.reads ≡ true → length me.0.mixing.words ≡ i → i < length k.dials.items
    → Allows (Kept k) slots id me (i + 1) (λ n. n) (λ n now. (now ≡ (dial_read (i + 1 - 1) n me.0, me.1)) × (n ≤ get_or me.0.mixing.most (i + 1 - 1) 0))
reads_dial k slots id i me l on len lt s K homes at small =
    let v = me.0 in
    let e : v.mixing ≡ K.m = ((K.cast id v at).mixes l).1 in
    let n : ℕ = get_or s.words (i + 1) 0 in
    let D : ℕ = length k.dials.items in
    let back : i + 1 - 1 ≡ i = omega arith in
    let len' : length K.m.words ≡ i = ap (λ (m : MixView). length m.words) (sym e) ∙ len in (
      dial_read (i + 1 - 1) n v,
      keeps,
      tt,
      mix_moves k s K id v (set s.words (i + 1) n) (dial_read (i + 1 - 1) n v).mixing at l (set-get_or s.words (i + 1) 0) (ap (λ (m : MixView). m.most) e)
          (core_read (board_words D s.words) K.d K.m K.h n K.core (ap (λ (m : MixView). m.reads) (sym e) ∙ on) (omega (arith, len', ap length K.opening_is)) (ap (λ (j : ℕ). get_or s.words (j + 1) 0) (sym len'))
          (dial_read (i + 1 - 1) n v).mixing (ap (λ (m : MixView). m.most) e) (ap (λ (m : MixView). m.readings) e) (ap (λ (m : MixView). m.words ++ n ∷ []) e) (ap (λ (m : MixView). m.from) e)),
      (refl, rw back (rw (ap (λ (m : MixView). m.most) e) (K.core.board.in_range i (omega (arith, lt, ap length K.opening_is))))),
    )

pub ends_reading : (k : Opening) (slots id : ℕ) (me : Me Bool View) → me.0.mixes ≡ true → me.0.mixing.reads ≡ true → length me.0.mixing.words ≡ length k.dials.items
    → Allows (Kept k) slots id me 0 (λ n. n) (λ n now. now ≡ (ended n me.0, me.1))
ends_reading k slots id me l on len s K homes at small =
    let v = me.0 in
    let e : v.mixing ≡ K.m = ((K.cast id v at).mixes l).1 in
    let n : ℕ = get_or s.words 0 0 in
    let D : ℕ = length k.dials.items in (
      ended n v,
      keeps,
      tt,
      mix_moves k s K id v (set s.words 0 n) (ended n v).mixing at l (set-get_or s.words 0 0) (ap (λ (m : MixView). m.most) e)
          (core_end (board_words D s.words) K.d K.m K.h K.core (ap (λ (m : MixView). m.reads) (sym e) ∙ on) (ap (λ (m : MixView). length m.words) (sym e) ∙ len ∙ ap length (sym K.opening_is)) (ended n v).mixing (ap (λ (m : MixView). m.most) e)
          (ap (λ (m : MixView). m.readings ++ (record { from = m.from; until = n; words = m.words }) ∷ []) e) refl),
      refl,
    )

pub tells : (k : Opening) (slots id e n : ℕ) (r : Reply) (me : Me Bool View) → reply_code r < 17179869184 → me.0.hands ≡ true → me.0.hand.editor ≡ e → me.0.hand.found ≡ length me.0.hand.replies → e < k.hands → n ≡ told_word (me.0.hand.replies ++ r ∷ [])
    → Allows (Kept k) slots id me (told_at (length k.dials.items) e) (λ _. n) (λ _ now. Told (step slots (told_at (length k.dials.items) e) n 0 none) me now)
tells k slots id e n r me fits l of whole lt is s K homes at small =
    let v = me.0 in
    let mine : v.hand ≡ K.h v.hand.editor = ((K.cast id v at).hands l).1 in
    let D : ℕ = length k.dials.items in
    let len = K.words_are in
    let x : List ℕ = set s.words (told_at D e) n in
    let core : Core (board_words D x) K.d K.m (upd K.h v.hand.editor (record (K.h v.hand.editor) { replies = (K.h v.hand.editor).replies ++ r ∷ [] })) =
    core_tell (board_words D s.words) (board_words D x) K.d K.m K.h v.hand.editor r fits K.core (ap (λ (y : HandView). y.found) (sym mine) ∙ whole ∙ ap (λ (y : HandView). length y.replies) mine)
    (ap (λ (f : ℕ). get_or x (told_at D f) 0) of ∙ get_or-set_same s.words (told_at D e) n 0 (omega arith) ∙ is ∙ ap (λ (y : HandView). told_word (y.replies ++ r ∷ [])) mine)
    (λ f ne. get_or-set_other s.words (told_at D e) (told_at D f) n 0 (λ q. ne (omega (arith, of))))
    (get_or-set_other s.words (told_at D e) 0 n 0 (λ q. absurd (omega arith)))
    (λ i b. get_or-set_other s.words (told_at D e) (i + 1) n 0 (λ q. absurd (omega (arith, ap length K.opening_is))))
    (λ f. get_or-set_other s.words (told_at D e) (booked_at D f) n 0 (λ q. absurd (omega arith))) in (
      told_as r v,
      keeps,
      tt,
      hand_moves k s K id v x (told_as r v).hand at l refl (length-set s.words (told_at D e) n) (subst (λ (y : HandView). Core (board_words D x) K.d K.m (upd K.h v.hand.editor (record y { replies = y.replies ++ r ∷ [] }))) (sym mine) core),
      (r, is, refl),
    )

pub hears : (k : Opening) (slots id e : ℕ) (me : Me Bool View) → me.0.locks ≡ true → Allows (Kept k) slots id me (told_at (length k.dials.items) e) (λ n. n) (λ n now. Heard e me n now)
hears k slots id e me l s K homes at small =
    let v = me.0 in
    let is : v.lock ≡ K.d = ((K.cast id v at).locks l).1 in
    let D : ℕ = length k.dials.items in
    let n : ℕ = get_or s.words (told_at D e) 0 in
    let y = K.core.hands e in
    let same = set-get_or s.words (told_at D e) 0 in (
      heard_as e (K.h e).replies v,
      keeps,
      tt,
      lock_moves k s K id v (set s.words (told_at D e) n) (heard_as e (K.h e).replies v).lock at l (ap length same) (ap (λ (d : LockView). d.opening) is) (ap (λ (d : LockView). d.next) is)
          (subst (λ (ws : List ℕ). Core (board_words D ws) (heard_as e (K.h e).replies v).lock K.m K.h) (sym same)
          (subst (λ (d : LockView). Core (board_words D s.words) (record d { heard_of = e; heard = (K.h e).replies }) K.m K.h) (sym is) (core_hear (board_words D s.words) K.d K.m K.h e K.core))),
      ((K.h e).replies, y.rest, refl, y.told, y.small, y.rest_is ∙ ap (λ (d : LockView). replies_of e d.journal ++ y.rest) (sym is), y.one),
    )

pub books : (k : Opening) (slots id e n : ℕ) (r : Reply) (me : Me Bool View) → me.0.locks ≡ true → me.0.lock.heard_of ≡ e → e < k.hands → me.0.lock.heard ≡ replies_of me.0.lock.heard_of me.0.lock.journal ++ r ∷ [] → n ≡ suc (length (replies_of e me.0.lock.journal))
    → Allows (Kept k) slots id me (booked_at (length k.dials.items) e) (λ _. n) (λ _ now. Booked (step slots (booked_at (length k.dials.items) e) n 0 none) me now)
books k slots id e n r me l of lt heard is s K homes at small =
    let v = me.0 in
    let same : v.lock ≡ K.d = ((K.cast id v at).locks l).1 in
    let D : ℕ = length k.dials.items in
    let len = K.words_are in
    let x : List ℕ = set s.words (booked_at D e) n in
    let core = subst (λ (d : LockView). Core (board_words D s.words) d K.m K.h) (sym same) K.core in
    let opening = ap (λ (d : LockView). length d.opening) same ∙ ap length K.opening_is in (
      booked_as v.lock.heard_of r v,
      keeps,
      tt,
      lock_moves k s K id v x (booked_as v.lock.heard_of r v).lock at l (length-set s.words (booked_at D e) n) (ap (λ (d : LockView). d.opening) same) (ap (λ (d : LockView). d.next) same)
          (core_book (board_words D s.words) (board_words D x) v.lock K.m K.h (length (replies_of v.lock.heard_of v.lock.journal)) r core heard
          (ap (λ (f : ℕ). get_or x (booked_at D f) 0) of ∙ get_or-set_same s.words (booked_at D e) n 0 (omega arith) ∙ is ∙ ap (λ (f : ℕ). suc (length (replies_of f v.lock.journal))) (sym of))
          (λ f ne. get_or-set_other s.words (booked_at D e) (booked_at D f) n 0 (λ q. ne (omega (arith, of))))
          (get_or-set_other s.words (booked_at D e) 0 n 0 (λ q. absurd (omega arith)))
          (λ i b. get_or-set_other s.words (booked_at D e) (i + 1) n 0 (λ q. absurd (omega (arith, opening))))
          (λ f. get_or-set_other s.words (booked_at D e) (told_at D f) n 0 (λ q. absurd (omega arith)))),
      (r, heard, refl),
    )

pub checks : (k : Opening) (slots id e : ℕ) (me : Me Bool View) → me.0.hands ≡ true → me.0.hand.editor ≡ e → Allows (Kept k) slots id me (booked_at (length k.dials.items) e) (λ n. n) (λ n now. now ≡ (found_as n me.0, me.1))
checks k slots id e me l of s K homes at small =
    let v = me.0 in
    let mine : v.hand ≡ K.h v.hand.editor = ((K.cast id v at).hands l).1 in
    let D : ℕ = length k.dials.items in
    let n : ℕ = get_or s.words (booked_at D e) 0 in
    let same = set-get_or s.words (booked_at D e) 0 in
    let core : Core (board_words D s.words) K.d K.m (upd K.h v.hand.editor (record (K.h v.hand.editor) { found = n })) =
    core_check (board_words D s.words) K.d K.m K.h v.hand.editor n K.core (ap (λ (f : ℕ). get_or s.words (booked_at D f) 0) (sym of)) in (
      found_as n v,
      keeps,
      tt,
      hand_moves k s K id v (set s.words (booked_at D e) n) (found_as n v).hand at l refl (ap length same)
          (subst (λ (ws : List ℕ). Core (board_words D ws) K.d K.m (upd K.h v.hand.editor (found_as n v).hand)) (sym same)
          (subst (λ (y : HandView). Core (board_words D s.words) K.d K.m (upd K.h v.hand.editor (record y { found = n }))) (sym mine) core)),
      refl,
    )

-- a seat with the lock looks
pub learns : (k : Opening) (slots id : ℕ) (me : Me Bool View) → me.0.locks ≡ true → Allows (Kept k) slots id me 0 (λ n. n) (λ n now. (now ≡ me) × Learns me)
learns k slots id me l s K homes at small =
    let v = me.0 in
    let P = K.cast id v at in
    let same : v.lock ≡ K.d = (P.locks l).1 in
    let D : ℕ = length k.dials.items in
    let n : ℕ = get_or s.words 0 0 in
    let back = set-get_or s.words 0 0 in
    let core = subst (λ (d : LockView). Core (board_words D s.words) d K.m K.h) (sym same) K.core in (
      v,
      keeps,
      tt,
      lock_moves k s K id v (set s.words 0 n) v.lock at l (ap length back) (ap (λ (d : LockView). d.opening) same) (ap (λ (d : LockView). d.next) same) (subst (λ (ws : List ℕ). Core (board_words D ws) v.lock K.m K.h) (sym back) core),
      (
        refl,
        record {
          readings = λ x. rw (P.mixes x).1 core.mix.readings;
          replies = λ x whole. let q = (P.hands x).1 in let c = core.hands v.hand.editor in
              whole_is_booked (board_words D s.words) v.lock v.hand.editor v.hand.replies v.hand.found (subst (λ (y : HandView). CoreHand (board_words D s.words) v.lock v.hand.editor y.replies y.found) (sym q) c) whole;
        },
      ),
    )

pub hears_as : (k : Opening) (slots id e b : ℕ) (me : Me Bool View) → me.0.locks ≡ true → e ≡ b → Allows (Kept k) slots id me (told_at (length k.dials.items) e) (λ n. n) (λ n now. Heard b me n now)
hears_as k slots id e b me l is = subst (λ (x : ℕ). Allows (Kept k) slots id me (told_at (length k.dials.items) e) (λ n. n) (λ n now. Heard x me n now)) is (hears k slots id e me l)
