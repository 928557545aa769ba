-- The loads of the pointer at which no cell moves.
use Rattle.std.proofs.Common.{◌≡◌, ◌≢◌, ℕ, ◌≤◌, ◌<◌, List, [], ◌∷◌, set, refl, sym, ap, ◌∙◌, subst, arith}
use Rattle.std.specs.Prelude.{slice_index}
use Rattle.std.proofs.lemmas.Bool.{eq-eqb, ne_eqb}
use mathlib.Core.Option.{some, none}
use mathlib.Core.Logic.{dite}
use native.Mathlib.Decide.{ℕ_discrete}
use lib.ListN.{get_elem?}
use Rattle.atomic_table.specs.Table.{State, Me, step, Allows, keeps}
use Rattle.exec_reel.specs.ClipPages.{page_total}
use Rattle.exec_reel.specs.declared.cell.Cell.{Cell}
use Rattle.exec_reel.specs.declared.view.Opening.{Opening}
use Rattle.exec_reel.specs.declared.view.Stage.TheVariants.{Ready}
use Rattle.exec_reel.specs.declared.view.Role.TheVariants.{Waiting, Working, Reading}
use Rattle.exec_reel.specs.declared.view.Note.TheVariants.{LoadPointer}
use Rattle.exec_reel.specs.declared.view.View.{View}
use Rattle.exec_reel.specs.Rule.{IsAmong, Board, Knows, Kept}
use Rattle.exec_reel.specs.Steps.{becomes, turn_or_not, shown_to, TicketLoaded, ReaderLoaded}
use Rattle.exec_reel.proofs.Frame.{knows_role, idle, IsIdle, still_works, none_works, page_stays, seats_know}

-- a load leaves the words as they are
pub loaded : (words : List ℕ) (c p : ℕ) → words ≡ c ∷ p ∷ [] → set words 1 (slice_index words 1) ≡ c ∷ p ∷ []
loaded words c p e = ap (λ (l : List ℕ). set l 1 (slice_index l 1)) e

pub pointer_found : (words : List ℕ) (c p : ℕ) → words ≡ c ∷ p ∷ [] → slice_index words 1 ≡ p
pointer_found words c p e = ap (λ (l : List ℕ). slice_index l 1) e

module _ (k : Opening) (id : ℕ) (v w : View) (s : State Cell View) (h : Kept k s) (at : get_elem? s.views id ≡ some v) where
  -- the view of a seat that doesn't work changes, and nothing else
  pub still_kept : IsIdle v.role → ((x : ℕ) → IsAmong x v.taken → IsAmong x w.taken) → Knows k.clip h.board id w → Kept k record { words = set s.words 1 (slice_index s.words 1); homes = s.homes; views = set s.views id w }
  still_kept rests keeps_pages known =
      let b : Board = h.board in
      record {
        board = b;
        few = h.few;
        words = loaded s.words b.counter b.pointer h.words;
        homes = h.homes;
        turns = record {
          bounds = h.turns.bounds;
          works = still_works b b s.views id v w at h.turns.works rests refl refl (λ ne. refl);
          cursor = h.turns.cursor;
          page = λ j lt. page_stays b b s.views id v w at k.clip j (get_elem? s.homes j) keeps_pages refl refl refl (h.turns.page j lt);
          seat = seats_know b b s.views id v w at k.clip h.turns.seat known (λ i u n q. q);
        };
      }

-- by a ticket that waits
module _ (k : Opening) (id : ℕ) (v : View) (s : State Cell View) (h : Kept k s) (at : get_elem? s.views id ≡ some v) (role : v.role ≡ Waiting) where
  known : Knows k.clip h.board id v
  known = h.turns.seat id v at

  waits : (v.number < h.board.counter) × (h.board.pointer ≤ v.number) × (h.board.turn v.number ≡ id)
  waits = knows_role v.role Waiting h.board id v.number role known.role

  rests : IsIdle v.role
  rests = idle v.role Waiting role tt

  found_turn : (n : ℕ) → n ≡ h.board.pointer → n ≡ v.number → Kept k record { words = set s.words 1 (slice_index s.words 1); homes = s.homes; views = set s.views id (becomes (Working Ready) (LoadPointer n) v) }
  found_turn n found e = still_kept k id v (becomes (Working Ready) (LoadPointer n) v) s h at rests (λ x m. m) record {
    clip_is = known.clip_is;
    role = (waits.0, sym e ∙ found, waits.2, sym (none_works h.board h.board s.views id v v at h.turns.works rests (ap h.board.turn (sym found ∙ e) ∙ waits.2)));
    shown = known.shown;
    taken = λ j m. absurd (waiting_not_reader (sym role ∙ (known.taken j m).0));
  }
    where
      waiting_not_reader : Waiting ≡ Reading → ⊥
      waiting_not_reader e = cc

  too_early : (n : ℕ) → Kept k record { words = set s.words 1 (slice_index s.words 1); homes = s.homes; views = set s.views id (becomes v.role (LoadPointer n) v) }
  too_early n = still_kept k id v (becomes v.role (LoadPointer n) v) s h at rests (λ x m. m) record { clip_is = known.clip_is; role = known.role; shown = known.shown; taken = known.taken }

  pub ticket_loaded : (n : ℕ) → n ≡ h.board.pointer → Kept k record { words = set s.words 1 (slice_index s.words 1); homes = s.homes; views = set s.views id (turn_or_not n v) }
  ticket_loaded n found = dite (ℕ_discrete n v.number)
      (λ (e : n ≡ v.number). rw (eq-eqb n v.number e) (found_turn n found e))
      (λ (ne : n ≢ v.number). rw (ne_eqb n v.number ne) (too_early n))

module _ (k : Opening) (slots id : ℕ) where
  pub ticket_loads : (me : Me Cell View) → me.0.role ≡ Waiting → Allows (Kept k) slots id me 1 (λ n. n) (TicketLoaded (step slots 1 0 0 none) me)
  ticket_loads me role s h size at fits =
      let n : ℕ = slice_index s.words 1 in
      let found = pointer_found s.words h.board.counter h.board.pointer h.words in
      (turn_or_not n me.0, keeps, tt, ticket_loaded k id me.0 s h at role n found, (refl, let a = (waits k id me.0 s h at role).1 in omega arith))

  pub reader_loads : (me : Me Cell View) → me.0.role ≡ Reading → Allows (Kept k) slots id me 1 (λ n. n) (ReaderLoaded (step slots 1 0 0 none) me)
  reader_loads me role s h size at fits =
      let n : ℕ = slice_index s.words 1 in
      let found = pointer_found s.words h.board.counter h.board.pointer h.words in
      let known = h.turns.seat id me.0 at in
      let bounds = h.turns.bounds in (
        shown_to n me.0,
        keeps,
        tt,
        still_kept k id me.0 (shown_to n me.0) s h at (idle me.0.role Reading role tt) (λ x m. m)
            record { clip_is = known.clip_is; role = known.role; shown = omega arith; taken = λ j m. let t = known.taken j m in (t.0, let a = t.1 in let c = known.shown in omega arith, t.2) },
        (refl, let c = known.shown in omega arith, subst (λ c. n ≤ page_total c) (sym known.clip_is) (let a = bounds.0 in let c = bounds.1 in omega arith), let a = bounds.0 in let c = bounds.1 in let d = h.few in omega arith),
      )
