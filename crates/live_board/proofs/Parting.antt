-- Splits and joins keep the rule.
use Rattle.std.proofs.Common.{◌≡◌, ◌≢◌, ◌⊎◌, ⊎_elim, inl, inr, ℕ, zero, suc, ◌<◌, Bool, true, false, true≢false, List, [], ◌∷◌, ◌++◌, length, set, eqb, eq-eqb, ne_eqb, refl, sym, ap, ◌∙◌, subst, arith}
use Rattle.std.specs.Prelude.{if◌then◌else◌}
use mathlib.Core.Option.{Option, some, some-injective, some-ne-none}
use lib.ListN.{get_elem?}
use Rattle.atomic_table.specs.Table.{Splits, Joins}
use Rattle.live_board.specs.declared.view.Opening.{Opening}
use Rattle.live_board.specs.declared.view.View.{View}
use Rattle.live_board.specs.declared.view.LockView.{LockView}
use Rattle.live_board.specs.declared.view.MixView.{MixView}
use Rattle.live_board.specs.declared.view.HandView.{HandView}
use Rattle.live_board.specs.Rule.{HasParts, Kept, Core, BoardWords, board_words, nobody}
use Rattle.atomic_table.proofs.Lists.{at_set}
use Rattle.live_board.specs.Steps.{hand_out, new_hand, without_mix, only_mix, with_hand, with_mix}
use Rattle.live_board.proofs.Cast.{Casts, recast}

at_new : {A : Type 0} (l : List A) (a b : A) (j : ℕ) → get_elem? (l ++ a ∷ []) j ≡ some b → (get_elem? l j ≡ some b) ⊎ ((j ≡ length l) × (a ≡ b))
at_new [] a b zero e = inr (refl, some-injective a b e)
at_new [] a b (suc j) e = absurd (some-ne-none b (sym e))
at_new (x ∷ xs) a b zero e = inl e
at_new (x ∷ xs) a b (suc j) e = ⊎_elim (λ p. inl p) (λ p. inr (ap suc p.0, p.1)) (at_new xs a b j e)

beyond : {A : Type 0} (l : List A) (j : ℕ) (b : A) → get_elem? l j ≡ some b → j < length l
beyond [] j b e = absurd (some-ne-none b (sym e))
beyond (x ∷ xs) zero b e = omega arith
beyond (x ∷ xs) (suc j) b e = let q = beyond xs j b e in omega arith

length_set : {A : Type 0} (l : List A) (i : ℕ) (a : A) → length (set l i a) ≡ length l
length_set [] i a = refl
length_set (x ∷ xs) zero a = refl
length_set (x ∷ xs) (suc i) a = ap suc (length_set xs i a)

off : false ≡ true → ⊥
off e = true≢false (sym e)

-- the owners, once seat i owns hand e
abbrev owns : (ℕ → Option ℕ) → ℕ → ℕ → ℕ → Option ℕ
owns o e i f = if eqb f e then some i else o f

owns_same : (o : ℕ → Option ℕ) (e i f : ℕ) → f ≡ e → owns o e i f ≡ some i
owns_same o e i f is = ap (λ (b : Bool). if b then some i else o f) (eq-eqb f e is)

owns_other : (o : ℕ → Option ℕ) (e i f : ℕ) → f ≢ e → owns o e i f ≡ o f
owns_other o e i f ne = ap (λ (b : Bool). if b then some i else o f) (ne_eqb f e ne)

core_next : (w : BoardWords) (d : LockView) (m : MixView) (h : ℕ → HandView) (n : ℕ) → Core w d m h → Core w (record d { next = n }) m h
core_next w d m h n c = record {
  board = record { dials = c.board.dials; count = c.board.count; in_range = c.board.in_range };
  mix = record { readings = c.mix.readings; ended = c.mix.ended; now = c.mix.now };
  hands = λ f. let z = c.hands f in record { told = z.told; small = z.small; booked = z.booked; rest = z.rest; rest_is = z.rest_is; one = z.one; found_most = z.found_most; heard = z.heard };
}

pub hands_out : (k : Opening) (id : ℕ) (v : View) → v.locks ≡ true → Splits (Kept k) id v (hand_out v) (new_hand v)
hands_out k id v l s K at =
    let e : v.lock ≡ K.d = ((K.cast id v at).locks l).1 in
    let n : ℕ = v.lock.next in
    let next_is : n ≡ K.d.next = ap (λ (d : LockView). d.next) e in
    let free = K.later n (omega (arith, next_is)) in
    let D : ℕ = length k.dials.items in
    let o' : ℕ → Option ℕ = owns K.owner n (length s.views) in
    let stays : (j : ℕ) (u : View) → get_elem? s.views j ≡ some u → u.hands ≡ true → (o' u.hand.editor ≡ some j) × (u.hand ≡ K.h u.hand.editor) =
    λ j u at' g. let q = (K.cast j u at').hands g in
    (owns_other K.owner n (length s.views) u.hand.editor (λ is. some-ne-none j (sym q.0 ∙ ap K.owner is ∙ free.0)) ∙ q.0, q.1) in
    let set_cast : Casts K.lock K.mixer o' (hand_out v).lock K.m K.h (set s.views id (hand_out v)) =
    recast K.lock K.mixer o' (hand_out v).lock K.m K.h s.views id (hand_out v)
    (λ j u ne at'. let p = K.cast j u at' in record { locks = λ g. absurd (ne ((p.locks g).0 ∙ sym ((K.cast id v at).locks l).0)); mixes = p.mixes; hands = λ g. stays j u at' g })
    (let p = K.cast id v at in record { locks = λ _. ((p.locks l).0, refl); mixes = p.mixes; hands = λ g. stays id v at g }) in
    record {
      lock = K.lock;
      mixer = K.mixer;
      owner = o';
      d = (hand_out v).lock;
      m = K.m;
      h = K.h;
      words_are = K.words_are;
      opening_is = ap (λ (d : LockView). d.opening) e ∙ K.opening_is;
      most_is = K.most_is;
      core = core_next (board_words D s.words) v.lock K.m K.h (suc n) (subst (λ (d : LockView). Core (board_words D s.words) d K.m K.h) (sym e) K.core);
      cast = λ j u at'. ⊎_elim
          (λ was. set_cast j u was)
          (λ (new : (j ≡ length (set s.views id (hand_out v))) × (new_hand v ≡ u)). subst (λ (y : View). HasParts K.lock K.mixer o' (hand_out v).lock K.m K.h j y) new.1
          (record { locks = λ g. absurd (off g); mixes = λ g. absurd (off g); hands = λ _. (owns_same K.owner n (length s.views) n refl ∙ ap some (sym (new.0 ∙ length_set s.views id (hand_out v))), sym free.1) }))
          (at_new (set s.views id (hand_out v)) (new_hand v) u j at');
      later = λ f le. let q = K.later f (omega (arith, next_is)) in (owns_other K.owner n (length s.views) f (λ is. absurd (omega arith)) ∙ q.0, q.1);
    }

pub mix_out : (k : Opening) (id : ℕ) (v : View) → v.mixes ≡ true → Splits (Kept k) id v (without_mix v) (only_mix v)
mix_out k id v l s K at =
    let e : v.mixing ≡ K.m = ((K.cast id v at).mixes l).1 in
    let set_cast : Casts K.lock (length s.views) K.owner K.d K.m K.h (set s.views id (without_mix v)) =
    recast K.lock (length s.views) K.owner K.d K.m K.h s.views id (without_mix v)
    (λ j u ne at'. let p = K.cast j u at' in record { locks = p.locks; mixes = λ g. absurd (ne ((p.mixes g).0 ∙ sym ((K.cast id v at).mixes l).0)); hands = p.hands })
    (let p = K.cast id v at in record { locks = p.locks; mixes = λ g. absurd (off g); hands = p.hands }) in
    record {
      lock = K.lock;
      mixer = length s.views;
      owner = K.owner;
      d = K.d;
      m = K.m;
      h = K.h;
      words_are = K.words_are;
      opening_is = K.opening_is;
      most_is = K.most_is;
      core = K.core;
      cast = λ j u at'. ⊎_elim
          (λ was. set_cast j u was)
          (λ (new : (j ≡ length (set s.views id (without_mix v))) × (only_mix v ≡ u)). subst (λ (y : View). HasParts K.lock (length s.views) K.owner K.d K.m K.h j y) new.1
          (record { locks = λ g. absurd (off g); mixes = λ _. (new.0 ∙ length_set s.views id (without_mix v), e); hands = λ g. absurd (off g) }))
          (at_new (set s.views id (without_mix v)) (only_mix v) u j at');
      later = K.later;
    }

-- the spent seat has no part
spends : (a b : ℕ) (o : ℕ → Option ℕ) (d : LockView) (m : MixView) (h : ℕ → HandView) (views : List View) (other : ℕ)
    → ((j : ℕ) (u : View) → j ≢ other → get_elem? views j ≡ some u → HasParts a b o d m h j u) → Casts a b o d m h (set views other nobody)
spends a b o d m h views other rest = recast a b o d m h views other nobody rest (record { locks = λ g. absurd (off g); mixes = λ g. absurd (off g); hands = λ g. absurd (off g) })

pub hand_in : (k : Opening) (id : ℕ) (v : View) (other : ℕ) (w : View) → w.hands ≡ true → Joins (Kept k) id v other w (with_hand v w) nobody
hand_in k id v other w l s K at apart there =
    let x : View = with_hand v w in
    let was : get_elem? s.views other ≡ some w = ⊎_elim (λ (p : (other ≡ id) × (x ≡ w)). absurd (apart p.0)) (λ (p : (other ≢ id) × (get_elem? s.views other ≡ some w)). p.1) (at_set s.views id other x w there) in
    let theirs = (K.cast other w was).hands l in
    let o' : ℕ → Option ℕ = owns K.owner w.hand.editor id in
    record {
      lock = K.lock;
      mixer = K.mixer;
      owner = o';
      d = K.d;
      m = K.m;
      h = K.h;
      words_are = K.words_are;
      opening_is = K.opening_is;
      most_is = K.most_is;
      core = K.core;
      cast = spends K.lock K.mixer o' K.d K.m K.h (set s.views id x) other
          (λ j u ne at'. ⊎_elim
          (λ (p : (j ≡ id) × (x ≡ u)). subst (λ (y : ℕ × View). HasParts K.lock K.mixer o' K.d K.m K.h y.0 y.1) (λ i. (sym p.0 i, p.1 i))
          (let q = K.cast id v at in record { locks = q.locks; mixes = q.mixes; hands = λ _. (owns_same K.owner w.hand.editor id w.hand.editor refl, theirs.1) }))
          (λ (p : (j ≢ id) × (get_elem? s.views j ≡ some u)). let q = K.cast j u p.1 in record {
            locks = q.locks;
            mixes = q.mixes;
            hands = λ g. let z = q.hands g in
                (owns_other K.owner w.hand.editor id u.hand.editor (λ is. ne (some-injective j other (sym z.0 ∙ ap K.owner is ∙ theirs.0))) ∙ z.0, z.1);
          })
          (at_set s.views id j x u at'));
      later = λ f le. let q = K.later f le in (owns_other K.owner w.hand.editor id f (λ is. some-ne-none other (sym theirs.0 ∙ ap K.owner (sym is) ∙ q.0)) ∙ q.0, q.1);
    }

pub mix_in : (k : Opening) (id : ℕ) (v : View) (other : ℕ) (w : View) → w.mixes ≡ true → Joins (Kept k) id v other w (with_mix v w) nobody
mix_in k id v other w l s K at apart there =
    let x : View = with_mix v w in
    let was : get_elem? s.views other ≡ some w = ⊎_elim (λ (p : (other ≡ id) × (x ≡ w)). absurd (apart p.0)) (λ (p : (other ≢ id) × (get_elem? s.views other ≡ some w)). p.1) (at_set s.views id other x w there) in
    let theirs = (K.cast other w was).mixes l in
    record {
      lock = K.lock;
      mixer = id;
      owner = K.owner;
      d = K.d;
      m = K.m;
      h = K.h;
      words_are = K.words_are;
      opening_is = K.opening_is;
      most_is = K.most_is;
      core = K.core;
      cast = spends K.lock id K.owner K.d K.m K.h (set s.views id x) other
          (λ j u ne at'. ⊎_elim
          (λ (p : (j ≡ id) × (x ≡ u)). subst (λ (y : ℕ × View). HasParts K.lock id K.owner K.d K.m K.h y.0 y.1) (λ i. (sym p.0 i, p.1 i))
          (let q = K.cast id v at in record { locks = q.locks; mixes = λ _. (refl, theirs.1); hands = q.hands }))
          (λ (p : (j ≢ id) × (get_elem? s.views j ≡ some u)). let q = K.cast j u p.1 in record { locks = q.locks; mixes = λ g. absurd (ne ((q.mixes g).0 ∙ sym theirs.0)); hands = q.hands })
          (at_set s.views id j x u at'));
      later = K.later;
    }
