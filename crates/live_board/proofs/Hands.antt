-- What each step of a hand, or of the lock about hands, leaves true.
use Rattle.std.proofs.Common.{◌≡◌, ◌≢◌, ℕ, suc, ◌+◌, ◌<◌, ◌≤◌, Bool, List, [], ◌∷◌, ◌++◌, length, map, eqb, refl, sym, ap, ◌∙◌, subst, arith, length-append, eq-eqb, ne_eqb}
use Rattle.std.proofs.lemmas.List.{append-nil, map-append}
use Rattle.std.proofs.lemmas.List.Elements.{filter-append}
use Rattle.std.specs.List.{filter}
use mathlib.Core.Logic.{dite}
use native.Mathlib.Decide.{ℕ_discrete}
use Rattle.std.specs.Prelude.{if◌then◌else◌}
use Rattle.scene_model.specs.declared.reply.Reply.{Reply}
use Rattle.live_board.specs.declared.view.Entry.{Entry}
use Rattle.live_board.specs.declared.view.LockView.{LockView}
use Rattle.live_board.specs.declared.view.MixView.{MixView}
use Rattle.live_board.specs.declared.view.HandView.{HandView}
use Rattle.mix_model.specs.Journals.{EntryData, replies_by}
use Rattle.live_board.specs.Rule.{replies_of, entry_data, BoardWords, CoreHand, Core, told_word, last_code, reply_code}
use Rattle.live_board.specs.Steps.{entry}

by_more : (e : ℕ) (journal : List EntryData) (x : EntryData) → replies_by e (journal ++ x ∷ []) ≡ replies_by e journal ++ replies_by e (x ∷ [])
by_more e journal x =
    ap (map (λ (y : EntryData). y.reply)) (filter-append (λ (y : EntryData). eqb y.editor e) journal (x ∷ [])) ∙ map-append (λ (y : EntryData). y.reply) (filter (λ (y : EntryData). eqb y.editor e) journal) (filter (λ (y : EntryData). eqb y.editor e) (x ∷ []))

pub one_more : (e : ℕ) (journal : List Entry) (x : Entry) → replies_of e (journal ++ x ∷ []) ≡ replies_of e journal ++ replies_of e (x ∷ [])
one_more e journal x = ap (replies_by e) (map-append entry_data journal (x ∷ [])) ∙ by_more e (map entry_data journal) (entry_data x)

pub by_same : (e k : ℕ) (r : Reply) (journal : List Entry) → replies_of e (journal ++ entry e k r ∷ []) ≡ replies_of e journal ++ r ∷ []
by_same e k r journal = one_more e journal (entry e k r) ∙ ap (λ (b : Bool). replies_of e journal ++ map (λ (y : EntryData). y.reply) (if b then entry_data (entry e k r) ∷ [] else [])) (eq-eqb e e refl)

pub by_other : (e f k : ℕ) (r : Reply) (journal : List Entry) → f ≢ e → replies_of e (journal ++ entry f k r ∷ []) ≡ replies_of e journal
by_other e f k r journal ne = one_more e journal (entry f k r) ∙ ap (λ (b : Bool). replies_of e journal ++ map (λ (y : EntryData). y.reply) (if b then entry_data (entry f k r) ∷ [] else [])) (ne_eqb f e ne) ∙ append-nil (replies_of e journal)

-- one hand's view changes
abbrev pub upd : (ℕ → HandView) → ℕ → HandView → ℕ → HandView
upd h e x f = if eqb f e then x else h f

pub upd_same : (h : ℕ → HandView) (e f : ℕ) (x : HandView) → f ≡ e → upd h e x f ≡ x
upd_same h e f x is = ap (λ (b : Bool). if b then x else h f) (eq-eqb f e is)

pub upd_other : (h : ℕ → HandView) (e f : ℕ) (x : HandView) → f ≢ e → upd h e x f ≡ h f
upd_other h e f x ne = ap (λ (b : Bool). if b then x else h f) (ne_eqb f e ne)

nothing : {A : Type 0} → (xs ys : List A) → length (xs ++ ys) ≤ length xs → ys ≡ []
nothing xs [] le = refl
nothing xs (y ∷ ys) le = absurd (omega (arith, length-append xs (y ∷ ys)))

-- what is true of each other hand, and of the one
hands_upd : (x : BoardWords) (d : LockView) (h : ℕ → HandView) (e : ℕ) (y : HandView) → CoreHand x d e y.replies y.found → ((f : ℕ) → f ≢ e → CoreHand x d f (h f).replies (h f).found)
    → (f : ℕ) → CoreHand x d f (upd h e y f).replies (upd h e y f).found
hands_upd x d h e y mine others f = dite (ℕ_discrete f e)
    (λ is. subst (λ (z : HandView). CoreHand x d f z.replies z.found) (sym (upd_same h e f y is)) (subst (λ (g : ℕ). CoreHand x d g y.replies y.found) (sym is) mine))
    (λ ne. subst (λ (z : HandView). CoreHand x d f z.replies z.found) (sym (upd_other h e f y ne)) (others f ne))

pub last_snoc : (rs : List Reply) (r : Reply) → last_code (rs ++ r ∷ []) ≡ reply_code r
last_snoc [] r = refl
last_snoc (x ∷ []) r = refl
last_snoc (x ∷ y ∷ rs) r = last_snoc (y ∷ rs) r

-- a hand tells a reply
pub core_tell : (w x : BoardWords) (d : LockView) (m : MixView) (h : ℕ → HandView) (e : ℕ) (r : Reply) → reply_code r < 17179869184 → Core w d m h → (h e).found ≡ length (h e).replies
    → x.told e ≡ told_word ((h e).replies ++ r ∷ []) → ((f : ℕ) → f ≢ e → x.told f ≡ w.told f) → x.count ≡ w.count → ((i : ℕ) → i < length d.opening → x.dial i ≡ w.dial i) → ((f : ℕ) → x.booked f ≡ w.booked f)
    → Core x d m (upd h e (record (h e) { replies = (h e).replies ++ r ∷ [] }))
core_tell w x d m h e r fits c whole here apart count dial booked =
    let y = c.hands e in
    let by : List Reply = replies_of e d.journal in
    let most = y.found_most in
    let len : length ((h e).replies) ≡ length by + length y.rest = ap length y.rest_is ∙ length-append by y.rest in
    let none : y.rest ≡ [] = nothing by y.rest (omega (arith, whole, length-append by y.rest)) in
    let is : (h e).replies ≡ by = y.rest_is ∙ ap (λ (l : List Reply). by ++ l) none ∙ append-nil by in
    record {
      board = record { dials = λ j b. dial j b ∙ c.board.dials j b; count = omega (arith, count, c.board.count); in_range = λ j b. rw (dial j b) (c.board.in_range j b) };
      mix = record { readings = c.mix.readings; ended = rw count c.mix.ended; now = λ o. rw count (c.mix.now o) };
      hands = hands_upd x d h e (record (h e) { replies = (h e).replies ++ r ∷ [] })
          (record {
            told = here;
            small = subst (λ (c : ℕ). c < 17179869184) (sym (last_snoc (h e).replies r)) fits;
            booked = booked e ∙ y.booked;
            rest = r ∷ [];
            rest_is = ap (λ (l : List Reply). l ++ r ∷ []) is;
            one = omega arith;
            found_most = most;
            heard = λ of long. absurd (let z = y.heard of long in let q : length ((h e).replies) ≡ length d.heard = ap length z in omega (arith, whole));
          })
          (λ f ne. let z = c.hands f in record { told = apart f ne ∙ z.told; small = z.small; booked = booked f ∙ z.booked; rest = z.rest; rest_is = z.rest_is; one = z.one; found_most = z.found_most; heard = z.heard });
    }

-- the lock finds what was told
pub core_hear : (w : BoardWords) (d : LockView) (m : MixView) (h : ℕ → HandView) (e : ℕ) → Core w d m h → Core w (record d { heard_of = e; heard = (h e).replies }) m h
core_hear w d m h e c = record {
  board = record { dials = c.board.dials; count = c.board.count; in_range = c.board.in_range };
  mix = record { readings = c.mix.readings; ended = c.mix.ended; now = c.mix.now };
  hands = λ f. let z = c.hands f in record { told = z.told; small = z.small; booked = z.booked; rest = z.rest; rest_is = z.rest_is; one = z.one; found_most = z.found_most; heard = λ (of : e ≡ f) long. ap (λ (g : ℕ). (h g).replies) (sym of) };
}

-- the lock books it
pub core_book : (w x : BoardWords) (d : LockView) (m : MixView) (h : ℕ → HandView) (k : ℕ) (r : Reply) → Core w d m h → d.heard ≡ replies_of d.heard_of d.journal ++ r ∷ []
    → x.booked d.heard_of ≡ suc (length (replies_of d.heard_of d.journal)) → ((f : ℕ) → f ≢ d.heard_of → x.booked f ≡ w.booked f) → x.count ≡ w.count → ((i : ℕ) → i < length d.opening → x.dial i ≡ w.dial i) → ((f : ℕ) → x.told f ≡ w.told f)
    → Core x (record d { journal = d.journal ++ entry d.heard_of k r ∷ [] }) m h
core_book w x d m h k r c heard here apart count dial told = record {
  board = record { dials = λ j b. dial j b ∙ c.board.dials j b; count = omega (arith, count, c.board.count); in_range = λ j b. rw (dial j b) (c.board.in_range j b) };
  mix = record { readings = c.mix.readings; ended = rw count c.mix.ended; now = λ o. rw count (c.mix.now o) };
  hands = λ f. dite (ℕ_discrete f d.heard_of) (mine f) (other f);
}
  where
    mine : (f : ℕ) → f ≡ d.heard_of → CoreHand x (record d { journal = d.journal ++ entry d.heard_of k r ∷ [] }) f (h f).replies (h f).found
    mine f is =
        let z = c.hands f in
        let now : replies_of f (d.journal ++ entry d.heard_of k r ∷ []) ≡ replies_of f d.journal ++ r ∷ [] = subst (λ (g : ℕ). replies_of g (d.journal ++ entry d.heard_of k r ∷ []) ≡ replies_of g d.journal ++ r ∷ []) (sym is) (by_same d.heard_of k r d.journal) in
        let heard' : d.heard ≡ replies_of f d.journal ++ r ∷ [] = subst (λ (g : ℕ). d.heard ≡ replies_of g d.journal ++ r ∷ []) (sym is) heard in
        let here' : x.booked f ≡ suc (length (replies_of f d.journal)) = subst (λ (g : ℕ). x.booked g ≡ suc (length (replies_of g d.journal))) (sym is) here in
        let len : length (replies_of f (d.journal ++ entry d.heard_of k r ∷ [])) ≡ suc (length (replies_of f d.journal)) = ap length now ∙ omega (arith, length-append (replies_of f d.journal) (r ∷ [])) in
        let long : length d.heard ≡ suc (length (replies_of f d.journal)) = ap length heard' ∙ omega (arith, length-append (replies_of f d.journal) (r ∷ [])) in
        let all : (h f).replies ≡ d.heard = z.heard (sym is) long in
        let most = z.found_most in
        record {
          told = told f ∙ z.told;
          small = z.small;
          booked = here' ∙ sym len;
          rest = [];
          rest_is = all ∙ heard' ∙ sym now ∙ sym (append-nil (replies_of f (d.journal ++ entry d.heard_of k r ∷ [])));
          one = omega arith;
          found_most = omega arith;
          heard = λ of more. absurd (omega arith);
        }

    other : (f : ℕ) → f ≢ d.heard_of → CoreHand x (record d { journal = d.journal ++ entry d.heard_of k r ∷ [] }) f (h f).replies (h f).found
    other f ne =
        let z = c.hands f in
        let now : replies_of f (d.journal ++ entry d.heard_of k r ∷ []) ≡ replies_of f d.journal = by_other f d.heard_of k r d.journal (λ q. ne (sym q)) in
        record {
          told = told f ∙ z.told;
          small = z.small;
          booked = apart f ne ∙ z.booked ∙ ap length (sym now);
          rest = z.rest;
          rest_is = z.rest_is ∙ ap (λ (l : List Reply). l ++ z.rest) (sym now);
          one = z.one;
          found_most = rw now z.found_most;
          heard = λ of. absurd (ne (sym of));
        }

-- a hand finds what is booked
pub core_check : (w : BoardWords) (d : LockView) (m : MixView) (h : ℕ → HandView) (e n : ℕ) → Core w d m h → n ≡ w.booked e → Core w d m (upd h e (record (h e) { found = n }))
core_check w d m h e n c is = record {
  board = c.board;
  mix = c.mix;
  hands = hands_upd w d h e (record (h e) { found = n })
      (let y = c.hands e in let b = y.booked in record { told = y.told; small = y.small; booked = y.booked; rest = y.rest; rest_is = y.rest_is; one = y.one; found_most = omega (arith, is); heard = y.heard })
      (λ f ne. c.hands f);
}

-- what is told once the hand found its whole list booked
pub whole_is_booked : (w : BoardWords) (d : LockView) (e : ℕ) (replies : List Reply) (found : ℕ) → CoreHand w d e replies found → found ≡ length replies → replies_of e d.journal ≡ replies
whole_is_booked w d e replies found y whole =
    let by : List Reply = replies_of e d.journal in
    let most = y.found_most in
    let len : length replies ≡ length by + length y.rest = ap length y.rest_is ∙ length-append by y.rest in
    let none : y.rest ≡ [] = nothing by y.rest (omega (arith, whole, length-append by y.rest)) in
    sym (y.rest_is ∙ ap (λ (l : List Reply). by ++ l) none ∙ append-nil by)
