-- What is told is known again by its word.
use Rattle.std.proofs.Common.{◌≡◌, ℕ, suc, ◌+◌, ◌*◌, ◌<◌, ◌≤◌, List, [], ◌∷◌, ◌++◌, length, refl, sym, ◌∙◌, ap, subst, arith, length-append}
use Rattle.std.proofs.lemmas.List.{append-nil}
use Rattle.atomic_table.specs.Table.{Me}
use Rattle.scene_model.specs.declared.reply.Reply.{Reply}
use Rattle.scene_model.specs.declared.reply.Reply.TheVariants.{Done, NoSuchBus, NoInput, AlreadyAttached, Cycle, NotAttached, GainTooLarge, NotSound}
use Rattle.std.specs.Prelude.{Bool}
use Rattle.live_board.specs.declared.view.View.{View}
use Rattle.live_board.specs.Rule.{last_code, replies_of, reply_code, told_word}
use Rattle.live_board.specs.Steps.{Heard, booked_as, heard_as}
use Rattle.live_board.proofs.Hands.{last_snoc}

code_same : (r q : Reply) → reply_code r ≡ reply_code q → r ≡ q
code_same Done Done e = refl
code_same Done NoSuchBus e = absurd (omega arith)
code_same Done NoInput e = absurd (omega arith)
code_same Done NotAttached e = absurd (omega arith)
code_same Done GainTooLarge e = absurd (omega arith)
code_same Done NotSound e = absurd (omega arith)
code_same Done (AlreadyAttached y) e = absurd (omega arith)
code_same Done (Cycle y) e = absurd (omega arith)
code_same NoSuchBus Done e = absurd (omega arith)
code_same NoSuchBus NoSuchBus e = refl
code_same NoSuchBus NoInput e = absurd (omega arith)
code_same NoSuchBus NotAttached e = absurd (omega arith)
code_same NoSuchBus GainTooLarge e = absurd (omega arith)
code_same NoSuchBus NotSound e = absurd (omega arith)
code_same NoSuchBus (AlreadyAttached y) e = absurd (omega arith)
code_same NoSuchBus (Cycle y) e = absurd (omega arith)
code_same NoInput Done e = absurd (omega arith)
code_same NoInput NoSuchBus e = absurd (omega arith)
code_same NoInput NoInput e = refl
code_same NoInput NotAttached e = absurd (omega arith)
code_same NoInput GainTooLarge e = absurd (omega arith)
code_same NoInput NotSound e = absurd (omega arith)
code_same NoInput (AlreadyAttached y) e = absurd (omega arith)
code_same NoInput (Cycle y) e = absurd (omega arith)
code_same NotAttached Done e = absurd (omega arith)
code_same NotAttached NoSuchBus e = absurd (omega arith)
code_same NotAttached NoInput e = absurd (omega arith)
code_same NotAttached NotAttached e = refl
code_same NotAttached GainTooLarge e = absurd (omega arith)
code_same NotAttached NotSound e = absurd (omega arith)
code_same NotAttached (AlreadyAttached y) e = absurd (omega arith)
code_same NotAttached (Cycle y) e = absurd (omega arith)
code_same GainTooLarge Done e = absurd (omega arith)
code_same GainTooLarge NoSuchBus e = absurd (omega arith)
code_same GainTooLarge NoInput e = absurd (omega arith)
code_same GainTooLarge NotAttached e = absurd (omega arith)
code_same GainTooLarge GainTooLarge e = refl
code_same GainTooLarge NotSound e = absurd (omega arith)
code_same GainTooLarge (AlreadyAttached y) e = absurd (omega arith)
code_same GainTooLarge (Cycle y) e = absurd (omega arith)
code_same NotSound Done e = absurd (omega arith)
code_same NotSound NoSuchBus e = absurd (omega arith)
code_same NotSound NoInput e = absurd (omega arith)
code_same NotSound NotAttached e = absurd (omega arith)
code_same NotSound GainTooLarge e = absurd (omega arith)
code_same NotSound NotSound e = refl
code_same NotSound (AlreadyAttached y) e = absurd (omega arith)
code_same NotSound (Cycle y) e = absurd (omega arith)
code_same (AlreadyAttached x) Done e = absurd (omega arith)
code_same (AlreadyAttached x) NoSuchBus e = absurd (omega arith)
code_same (AlreadyAttached x) NoInput e = absurd (omega arith)
code_same (AlreadyAttached x) NotAttached e = absurd (omega arith)
code_same (AlreadyAttached x) GainTooLarge e = absurd (omega arith)
code_same (AlreadyAttached x) NotSound e = absurd (omega arith)
code_same (AlreadyAttached x) (AlreadyAttached y) e = ap AlreadyAttached (omega arith)
code_same (AlreadyAttached x) (Cycle y) e = absurd (omega arith)
code_same (Cycle x) Done e = absurd (omega arith)
code_same (Cycle x) NoSuchBus e = absurd (omega arith)
code_same (Cycle x) NoInput e = absurd (omega arith)
code_same (Cycle x) NotAttached e = absurd (omega arith)
code_same (Cycle x) GainTooLarge e = absurd (omega arith)
code_same (Cycle x) NotSound e = absurd (omega arith)
code_same (Cycle x) (AlreadyAttached y) e = absurd (omega arith)
code_same (Cycle x) (Cycle y) e = ap Cycle (omega arith)

-- the word shows the last reply
told_same : (rs : List Reply) (r q : Reply) → told_word (rs ++ r ∷ []) ≡ told_word (rs ++ q ∷ []) → r ≡ q
told_same rs r q e =
    code_same r q (let a = last_snoc rs r in let b = last_snoc rs q in omega (arith, e, length-append rs (r ∷ []), length-append rs (q ∷ [])))

-- and whether there is one more
told_more : (by rest : List Reply) (r : Reply) → length rest ≤ 1 → last_code (by ++ rest) < 17179869184 → reply_code r < 17179869184 → told_word (by ++ rest) ≡ suc (length by) * 17179869184 + reply_code r → rest ≡ r ∷ []
told_more by [] r one small fits e = let f = append-nil by in absurd (omega (arith, e, ap (λ (l : List Reply). length l) f))
told_more by (x ∷ []) r one small fits e =
    ap (λ (y : Reply). y ∷ []) (code_same x r (let a = last_snoc by x in omega (arith, e, length-append by (x ∷ []))))
told_more by (x ∷ y ∷ rest) r one small fits e = absurd (omega arith)

-- the reply that was heard is the one that was told
pub heard_is : (e k word : ℕ) (r : Reply) (me now : Me Bool View) → Heard e me word now → k ≡ length (replies_of e me.0.lock.journal) → reply_code r < 17179869184 → word ≡ (k + 1) * 17179869184 + reply_code r → now ≡ (heard_as e (replies_of e me.0.lock.journal ++ r ∷ []) me.0, me.1)
heard_is e k word r me now h k_is fits is =
    let by : List Reply = replies_of e me.0.lock.journal in
    let small : last_code (by ++ h.1) < 17179869184 = subst (λ (l : List Reply). last_code l < 17179869184) h.5 h.4 in
    let word_is : told_word (by ++ h.1) ≡ suc (length by) * 17179869184 + reply_code r = ap told_word (sym h.5) ∙ sym h.3 ∙ is ∙ ap (λ (n : ℕ). n * 17179869184 + reply_code r) (omega arith) in
    let rest : h.1 ≡ r ∷ [] = told_more by h.1 r h.6 small fits word_is in
    h.2 ∙ ap (λ (l : List Reply). (heard_as e l me.0, me.1)) (h.5 ∙ ap (λ (l : List Reply). by ++ l) rest)

pub can_book : (e : ℕ) (r : Reply) (me now : Me Bool View) → now ≡ (heard_as e (replies_of e me.0.lock.journal ++ r ∷ []) me.0, me.1) → now.0.lock.heard ≡ replies_of now.0.lock.heard_of now.0.lock.journal ++ r ∷ []
can_book e r me now is =
    subst (λ (x : Me Bool View). x.0.lock.heard ≡ replies_of x.0.lock.heard_of x.0.lock.journal ++ r ∷ []) (sym is) refl

pub booked_is : (e : ℕ) (r q : Reply) (me now last : Me Bool View) → now ≡ (heard_as e (replies_of e me.0.lock.journal ++ r ∷ []) me.0, me.1) → now.0.lock.heard ≡ replies_of now.0.lock.heard_of now.0.lock.journal ++ q ∷ [] → last ≡ (booked_as e q now.0, now.1) → last ≡ (booked_as e r (heard_as e (replies_of e me.0.lock.journal ++ r ∷ []) me.0), me.1)
booked_is e r q me now last is heard booked =
    let by : List Reply = replies_of e me.0.lock.journal in
    let heard' : by ++ r ∷ [] ≡ by ++ q ∷ [] = subst (λ (x : Me Bool View). x.0.lock.heard ≡ replies_of x.0.lock.heard_of x.0.lock.journal ++ q ∷ []) is heard in
    let same : q ≡ r = told_same by q r (ap told_word (sym heard')) in
    booked ∙ ap (λ (y : Reply). (booked_as e y now.0, now.1)) same ∙ ap (λ (x : Me Bool View). (booked_as e r x.0, x.1)) is

-- what a hand has told is its own reply
pub told_is : (rs : List Reply) (r q : Reply) (word : ℕ) → word ≡ told_word (rs ++ q ∷ []) → word ≡ (length rs + 1) * 17179869184 + reply_code r → q ≡ r
told_is rs r q word is told =
    code_same q r (let a = last_snoc rs q in omega (arith, is, told, length-append rs (q ∷ [])))
