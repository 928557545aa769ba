-- Which seats have the parts, after the view of one of them changed.
use Rattle.std.proofs.Common.{◌≡◌, ◌≢◌, ⊎_elim, ℕ, Bool, true, List, length, set, refl, sym, ap, ◌∙◌, subst, arith}
use mathlib.Core.Option.{Option, some, some-injective, some-ne-none}
use mathlib.Core.Logic.{dite}
use native.Mathlib.Decide.{ℕ_discrete}
use lib.ListN.{get_elem?}
use Rattle.atomic_table.specs.Table.{State}
use Rattle.atomic_table.proofs.Lists.{at_set}
use Rattle.live_board.specs.declared.view.Opening.{Opening}
use Rattle.live_board.specs.declared.view.View.{View}
use Rattle.live_board.specs.declared.view.LockView.{LockView}
use Rattle.live_board.specs.declared.view.MixView.{MixView}
use Rattle.live_board.specs.declared.view.HandView.{HandView}
use Rattle.live_board.specs.Rule.{HasParts, Kept, Core, board_words}
use Rattle.live_board.proofs.Hands.{upd, upd_same, upd_other}

abbrev pub Casts : ℕ → ℕ → (ℕ → Option ℕ) → LockView → MixView → (ℕ → HandView) → List View → Type 0
Casts a b o d m h views = (i : ℕ) (v : View) → get_elem? views i ≡ some v → HasParts a b o d m h i v

pub recast : (a b : ℕ) (o : ℕ → Option ℕ) (d : LockView) (m : MixView) (h : ℕ → HandView) (views : List View) (id : ℕ) (w : View)
    → ((j : ℕ) (u : View) → j ≢ id → get_elem? views j ≡ some u → HasParts a b o d m h j u) → HasParts a b o d m h id w → Casts a b o d m h (set views id w)
recast a b o d m h views id w others mine j u e =
    ⊎_elim
    (λ (x : (j ≡ id) × (w ≡ u)). subst (λ (y : ℕ × View). HasParts a b o d m h y.0 y.1) (λ i. (sym x.0 i, x.1 i)) mine)
    (λ (x : (j ≢ id) × (get_elem? views j ≡ some u)). others j u x.0 x.1)
    (at_set views id j w u e)

pub cast_lock : (a b : ℕ) (o : ℕ → Option ℕ) (d : LockView) (m : MixView) (h : ℕ → HandView) (views : List View) (id : ℕ) (v : View) (x : LockView)
    → Casts a b o d m h views → get_elem? views id ≡ some v → v.locks ≡ true → Casts a b o x m h (set views id (record v { lock = x }))
cast_lock a b o d m h views id v x c at l = recast a b o x m h views id (record v { lock = x })
    (λ j u ne e. let p = c j u e in record { locks = λ k. absurd (ne ((p.locks k).0 ∙ sym ((c id v at).locks l).0)); mixes = p.mixes; hands = p.hands })
    (let p = c id v at in record { locks = λ _. ((p.locks l).0, refl); mixes = p.mixes; hands = p.hands })

pub cast_mix : (a b : ℕ) (o : ℕ → Option ℕ) (d : LockView) (m : MixView) (h : ℕ → HandView) (views : List View) (id : ℕ) (v : View) (x : MixView)
    → Casts a b o d m h views → get_elem? views id ≡ some v → v.mixes ≡ true → Casts a b o d x h (set views id (record v { mixing = x }))
cast_mix a b o d m h views id v x c at l = recast a b o d x h views id (record v { mixing = x })
    (λ j u ne e. let p = c j u e in record { locks = p.locks; mixes = λ k. absurd (ne ((p.mixes k).0 ∙ sym ((c id v at).mixes l).0)); hands = p.hands })
    (let p = c id v at in record { locks = p.locks; mixes = λ _. ((p.mixes l).0, refl); hands = p.hands })

pub cast_hand : (a b : ℕ) (o : ℕ → Option ℕ) (d : LockView) (m : MixView) (h : ℕ → HandView) (views : List View) (id : ℕ) (v : View) (x : HandView)
    → Casts a b o d m h views → get_elem? views id ≡ some v → v.hands ≡ true → x.editor ≡ v.hand.editor → Casts a b o d m (upd h v.hand.editor x) (set views id (record v { hand = x }))
cast_hand a b o d m h views id v x c at l same =
    let mine = (c id v at).hands l in
    recast a b o d m (upd h v.hand.editor x) views id (record v { hand = x })
    (λ j u ne e. let p = c j u e in record {
      locks = p.locks;
      mixes = p.mixes;
      hands = λ k. let q = p.hands k in (
        q.0,
        dite (ℕ_discrete u.hand.editor v.hand.editor)
            (λ is. absurd (ne (some-injective j id (sym q.0 ∙ ap o is ∙ mine.0))))
            (λ apart. q.1 ∙ sym (upd_other h v.hand.editor u.hand.editor x apart)),
      );
    })
    (let p = c id v at in record { locks = p.locks; mixes = p.mixes; hands = λ _. (ap o same ∙ mine.0, sym (upd_same h v.hand.editor x.editor x same)) })

-- the lock's seat changes the words and its part
pub lock_moves : (k : Opening) (s : State Bool View) (K : Kept k s) (id : ℕ) (v : View) (words : List ℕ) (x : LockView) → get_elem? s.views id ≡ some v → v.locks ≡ true
    → length words ≡ length s.words → x.opening ≡ K.d.opening → x.next ≡ K.d.next → Core (board_words (length k.dials.items) words) x K.m K.h
    → Kept k (record { words = words; homes = s.homes; views = set s.views id (record v { lock = x }) })
lock_moves k s K id v words x at l len opening next core = record {
  lock = K.lock;
  mixer = K.mixer;
  owner = K.owner;
  d = x;
  m = K.m;
  h = K.h;
  words_are = len ∙ K.words_are;
  opening_is = opening ∙ K.opening_is;
  most_is = K.most_is;
  core = core;
  cast = cast_lock K.lock K.mixer K.owner K.d K.m K.h s.views id v x K.cast at l;
  later = λ e le. K.later e (omega (arith, next));
}

pub mix_moves : (k : Opening) (s : State Bool View) (K : Kept k s) (id : ℕ) (v : View) (words : List ℕ) (x : MixView) → get_elem? s.views id ≡ some v → v.mixes ≡ true
    → words ≡ s.words → x.most ≡ K.m.most → Core (board_words (length k.dials.items) s.words) K.d x K.h
    → Kept k (record { words = words; homes = s.homes; views = set s.views id (record v { mixing = x }) })
mix_moves k s K id v words x at l same most core = record {
  lock = K.lock;
  mixer = K.mixer;
  owner = K.owner;
  d = K.d;
  m = x;
  h = K.h;
  words_are = ap length same ∙ K.words_are;
  opening_is = K.opening_is;
  most_is = most ∙ K.most_is;
  core = subst (λ (ws : List ℕ). Core (board_words (length k.dials.items) ws) K.d x K.h) (sym same) core;
  cast = cast_mix K.lock K.mixer K.owner K.d K.m K.h s.views id v x K.cast at l;
  later = K.later;
}

pub hand_moves : (k : Opening) (s : State Bool View) (K : Kept k s) (id : ℕ) (v : View) (words : List ℕ) (x : HandView) → get_elem? s.views id ≡ some v → v.hands ≡ true → x.editor ≡ v.hand.editor
    → length words ≡ length s.words → Core (board_words (length k.dials.items) words) K.d K.m (upd K.h v.hand.editor x)
    → Kept k (record { words = words; homes = s.homes; views = set s.views id (record v { hand = x }) })
hand_moves k s K id v words x at l same len core = record {
  lock = K.lock;
  mixer = K.mixer;
  owner = K.owner;
  d = K.d;
  m = K.m;
  h = upd K.h v.hand.editor x;
  words_are = len ∙ K.words_are;
  opening_is = K.opening_is;
  most_is = K.most_is;
  core = core;
  cast = cast_hand K.lock K.mixer K.owner K.d K.m K.h s.views id v x K.cast at l same;
  later = λ e le. let p = K.later e le in
      (p.0, upd_other K.h v.hand.editor e x (λ is. some-ne-none id (sym ((K.cast id v at).hands l).0 ∙ ap K.owner (sym is) ∙ p.0)) ∙ p.1);
}
