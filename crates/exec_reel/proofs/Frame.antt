-- A step of one seat keeps what is so of all others.
use Rattle.std.proofs.Common.{◌≡◌, ◌≢◌, ◌⊎◌, ℕ, zero, suc, ◌<◌, cond, ◌==◌, List, [], ◌∷◌, ◌++◌, length, set, refl, sym, ap, ◌∙◌, subst, inl, inr, ⊎_elim, arith}
use Rattle.std.proofs.lemmas.Bool.{eq-eqb, ne_eqb}
use mathlib.Core.Option.{some, none, some-injective, some-ne-none}
use mathlib.Core.Logic.{dite}
use native.Mathlib.Decide.{ℕ_discrete}
use lib.ListN.{get_elem?}
use Rattle.atomic_table.proofs.Lists.{at_set, set_else, at_longer}
use Rattle.clip_decode.specs.ClipData.{ClipData}
use Rattle.exec_reel.specs.declared.cell.Cell.{Cell}
use Rattle.exec_reel.specs.declared.view.Stage.{Stage}
use Rattle.exec_reel.specs.declared.view.Stage.TheVariants.{Ready, CursorTaken, PageTaken, PageHome, CursorHome}
use Rattle.exec_reel.specs.declared.view.Role.{Role}
use Rattle.exec_reel.specs.declared.view.Role.TheVariants.{Opener, Drawing, Drawn, Waiting, Working, Ended, Reading}
use Rattle.exec_reel.specs.declared.view.View.{View}
use Rattle.exec_reel.specs.Rule.{Home, IsAmong, Board, KnowsAs, Knows, OneWorks, AreWorking, ShownPageLies, NextPageLies, PageLies, Turns}

module _ {A : Type 0} where
  -- an element that was replaced
  pub replaced : (l : List A) (i : ℕ) (a b : A) → get_elem? l i ≡ some b → get_elem? (set l i a) i ≡ some a
  replaced [] i a b e = absurd (some-ne-none b (sym e))
  replaced (x ∷ xs) zero a b e = refl
  replaced (x ∷ xs) (suc i) a b e = replaced xs i a b e

  -- the element at a place of a list that one was appended to
  pub at_end : (l : List A) (a b : A) (j : ℕ) → get_elem? (l ++ a ∷ []) j ≡ some b → (get_elem? l j ≡ some b) ⊎ ((j ≡ length l) × (a ≡ b))
  at_end [] a b zero e = inr (refl, some-injective a b e)
  at_end [] a b (suc j) e = absurd (some-ne-none b (sym e))
  at_end (x ∷ xs) a b zero e = inl e
  at_end (x ∷ xs) a b (suc j) e = ⊎_elim (λ (t : get_elem? xs j ≡ some b). inl t) (λ (t : (j ≡ length xs) × (a ≡ b)). inr (ap suc t.0, t.1)) (at_end xs a b j e)

  -- there is no element at a list's length
  pub none_past : (l : List A) (a : A) (j : ℕ) → get_elem? l j ≡ some a → j < length l
  none_past [] a j e = absurd (some-ne-none a (sym e))
  none_past (x ∷ xs) a zero e = omega arith
  none_past (x ∷ xs) a (suc j) e = let h = none_past xs a j e in omega arith

-- a function of numbers that has another value at one of them
pub at_here : {A : Type 0} (f : ℕ → A) (n x : ℕ) (a : A) → x ≡ n → cond (x == n) a (f x) ≡ a
at_here f n x a e = rw (eq-eqb x n e) refl

pub at_else : {A : Type 0} (f : ℕ → A) (n x : ℕ) (a : A) → x ≢ n → cond (x == n) a (f x) ≡ f x
at_else f n x a e = rw (ne_eqb x n e) refl

pub knows_role : (r q : Role) (b : Board) (i number : ℕ) → r ≡ q → KnowsAs r b i number → KnowsAs q b i number
knows_role r q b i number e h = subst (λ z. KnowsAs z b i number) e h

pub knows_from : (r q : Role) (b : Board) (i number : ℕ) → r ≡ q → KnowsAs q b i number → KnowsAs r b i number
knows_from r q b i number e h = subst (λ z. KnowsAs z b i number) (sym e) h

-- one ticket works while the stage isn't the first
pub one_works : (stage : Stage) (b : Board) (views : List View) → stage ≢ Ready → AreWorking stage b views → OneWorks stage b views
one_works Ready b views n h = absurd (n refl)
one_works CursorTaken b views n h = h
one_works PageTaken b views n h = h
one_works PageHome b views n h = h
one_works CursorHome b views n h = h

pub are_working : (stage : Stage) (b : Board) (views : List View) → OneWorks stage b views → AreWorking stage b views
are_working Ready b views h = tt
are_working CursorTaken b views h = h
are_working PageTaken b views h = h
are_working PageHome b views h = h
are_working CursorHome b views h = h

-- while none works, none is asked for
pub ready_works : (stage : Stage) (b : Board) (views : List View) → stage ≡ Ready → AreWorking stage b views
ready_works stage b views e = subst (λ s. AreWorking s b views) (sym e) tt

pub is_ready : (s : Stage) → (s ≡ Ready) ⊎ (s ≢ Ready)
is_ready Ready = inl refl
is_ready CursorTaken = inr (λ e. absurd (cc))
is_ready PageTaken = inr (λ e. absurd (cc))
is_ready PageHome = inr (λ e. absurd (cc))
is_ready CursorHome = inr (λ e. absurd (cc))

-- a role that isn't one of a ticket that works
abbrev pub IsIdle : Role → Type 0
IsIdle Opener = Unit {0}
IsIdle Drawing = Unit {0}
IsIdle Drawn = Unit {0}
IsIdle Waiting = Unit {0}
IsIdle (Working stage) = ⊥
IsIdle Ended = Unit {0}
IsIdle Reading = Unit {0}

pub idle : (r q : Role) → r ≡ q → IsIdle q → IsIdle r
idle r q e h = subst (λ z. IsIdle z) (sym e) h

pub not_idle : (r : Role) (s : Stage) → r ≡ Working s → IsIdle r → ⊥
not_idle r s e h = subst (λ z. IsIdle z) e h

module _ (b b' : Board) (views : List View) (id : ℕ) (v w : View) (at : get_elem? views id ≡ some v) where
  -- a seat that doesn't work steps: who works still does
  pub still_works : AreWorking b.stage b views → IsIdle v.role → b'.stage ≡ b.stage → b'.pointer ≡ b.pointer → (b.stage ≢ Ready → b'.turn b.pointer ≡ b.turn b.pointer) → AreWorking b'.stage b' (set views id w)
  still_works h idle stage pointer turn = ⊎_elim
      (λ (e : b.stage ≡ Ready). ready_works b'.stage b' (set views id w) (stage ∙ e))
      (λ (n : b.stage ≢ Ready).
      let one = one_works b.stage b views n h in
      let here : b'.turn b'.pointer ≡ b.turn b.pointer = ap b'.turn pointer ∙ turn n in
      let apart : b.turn b.pointer ≢ id = λ e. not_idle v.role b.stage (ap (λ (u : View). u.role) (some-injective v one.0 (sym at ∙ ap (get_elem? views) (sym e) ∙ one.1)) ∙ one.2) idle in
      are_working b'.stage b' (set views id w) (one.0, ap (get_elem? (set views id w)) here ∙ set_else views id (b.turn b.pointer) w apart ∙ one.1, one.2 ∙ ap Working (sym stage), one.3 ∙ sym pointer))
      (is_ready b.stage)

  -- no job has begun where the ticket with the pointer's number doesn't work
  pub none_works : AreWorking b.stage b views → IsIdle v.role → b.turn b.pointer ≡ id → b.stage ≡ Ready
  none_works h idle mine = ⊎_elim
      (λ (e : b.stage ≡ Ready). e)
      (λ (n : b.stage ≢ Ready).
      let one = one_works b.stage b views n h in
      absurd (not_idle v.role b.stage (ap (λ (u : View). u.role) (some-injective v one.0 (sym at ∙ ap (get_elem? views) (sym mine) ∙ one.1)) ∙ one.2) idle))
      (is_ready b.stage)

  -- a page that is shown stays where it is
  pub shown_stays : (clip : ClipData) (o : mathlib.Core.Option.Option ℕ) (j : ℕ) (cell : Home) → ((x : ℕ) → IsAmong x v.taken → IsAmong x w.taken) → ShownPageLies clip views o j cell → ShownPageLies clip (set views id w) o j cell
  shown_stays clip none j cell keeps h = h
  shown_stays clip (some i) j cell keeps h = (
    h.0,
    dite (ℕ_discrete i id)
        (λ (e : i ≡ id). (
          w,
          ap (get_elem? (set views id w)) e ∙ replaced views id w v at,
          keeps j (subst (λ (u : View). IsAmong j u.taken) (some-injective h.1.0 v (sym h.1.1 ∙ ap (get_elem? views) e ∙ at)) h.1.2),
        ))
        (λ (n : i ≢ id). (h.1.0, set_else views id i w n ∙ h.1.1, h.1.2)),
  )

  -- a page stays where it is at a step of a seat that doesn't work
  pub page_stays : (clip : ClipData) (j : ℕ) (cell : Home) → ((x : ℕ) → IsAmong x v.taken → IsAmong x w.taken) → b'.stage ≡ b.stage → b'.pointer ≡ b.pointer → b'.taken j ≡ b.taken j → PageLies clip b views j cell → PageLies clip b' (set views id w) j cell
  page_stays clip j cell keeps stage pointer taken h = record {
    before = λ lt. subst (λ o. ShownPageLies clip (set views id w) o j cell) (sym taken) (shown_stays clip (b.taken j) j cell keeps (h.before (omega arith)));
    here = λ e. subst (λ s. NextPageLies clip s j cell) (sym stage) (h.here (e ∙ pointer));
    behind = λ lt. h.behind (omega arith);
  }

  -- what all seats know, from what the one that steps knows and what the others still do
  pub seats_know : (clip : ClipData) → ((i : ℕ) (u : View) → get_elem? views i ≡ some u → Knows clip b i u) → Knows clip b' id w → ((i : ℕ) (u : View) → i ≢ id → Knows clip b i u → Knows clip b' i u)
      → (i : ℕ) (u : View) → get_elem? (set views id w) i ≡ some u → Knows clip b' i u
  seats_know clip all mine other i u there = ⊎_elim
      (λ (a : (i ≡ id) × (w ≡ u)). subst (λ j. Knows clip b' j u) (sym a.0) (subst (λ z. Knows clip b' id z) a.1 mine))
      (λ (a : (i ≢ id) × (get_elem? views i ≡ some u)). other i u a.0 (all i u a.1))
      (at_set views id i w u there)

pub drawer_not_reader : Drawing ≡ Reading → ⊥
drawer_not_reader e = cc

pub drawn_not_reader : Drawn ≡ Reading → ⊥
drawn_not_reader e = cc

-- what is so of a list of seats stays so when a seat is split off
module _ (clip : ClipData) (pages : ℕ) (b : Board) (homes : List (mathlib.Core.Option.Option Cell)) (views : List View) (w : View) where
  shown_longer : (o : mathlib.Core.Option.Option ℕ) (j : ℕ) (cell : Home) → ShownPageLies clip views o j cell → ShownPageLies clip (views ++ w ∷ []) o j cell
  shown_longer none j cell h = h
  shown_longer (some i) j cell h = (h.0, (h.1.0, at_longer views (w ∷ []) i h.1.0 h.1.1, h.1.2))

  works_longer : (stage : Stage) → AreWorking stage b views → AreWorking stage b (views ++ w ∷ [])
  works_longer stage h = ⊎_elim
      (λ (e : stage ≡ Ready). ready_works stage b (views ++ w ∷ []) e)
      (λ (n : stage ≢ Ready). let one = one_works stage b views n h in are_working stage b (views ++ w ∷ []) (one.0, at_longer views (w ∷ []) (b.turn b.pointer) one.0 one.1, one.2, one.3))
      (is_ready stage)

  pub added : Turns clip pages b homes views → Knows clip b (length views) w → Turns clip pages b homes (views ++ w ∷ [])
  added h mine = record {
    bounds = h.bounds;
    works = works_longer b.stage h.works;
    cursor = h.cursor;
    page = λ j lt. let p = h.page j lt in record { before = λ less. shown_longer (b.taken j) j (get_elem? homes j) (p.before less); here = p.here; behind = p.behind };
    seat = λ i u there. ⊎_elim
        (λ (a : get_elem? views i ≡ some u). h.seat i u a)
        (λ (a : (i ≡ length views) × (w ≡ u)). subst (λ z. Knows clip b i z) a.1 (subst (λ j. Knows clip b j w) (sym a.0) mine))
        (at_end views w u i there);
  }
