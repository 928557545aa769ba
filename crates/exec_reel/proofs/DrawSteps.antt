-- A number is drawn: the fetch_add by the drawer, and the split of the ticket's seat.
use Rattle.std.proofs.Common.{◌≡◌, ◌≢◌, ℕ, ◌+◌, ◌%◌, ◌^◌, ◌≤◌, ◌<◌, cond, ◌==◌, List, [], ◌∷◌, ◌++◌, length, set, refl, sym, ap, ◌∙◌, arith, length-set}
use Rattle.std.specs.Prelude.{slice_index}
use mathlib.Core.Option.{some, none}
use lib.ListN.{get_elem?}
use Rattle.atomic_table.specs.Table.{State, Me, step, stepped, Allows, Splits, keeps}
use Rattle.exec_reel.specs.ClipPages.{page_total}
use Rattle.exec_reel.specs.declared.cell.Cell.{Cell}
use Rattle.exec_reel.specs.declared.view.Opening.{Opening}
use Rattle.exec_reel.specs.declared.view.Role.{Role}
use Rattle.exec_reel.specs.declared.view.Role.TheVariants.{Opener, Drawing, Drawn, Waiting, Working, Ended, Reading}
use Rattle.exec_reel.specs.declared.view.Note.TheVariants.{FetchAdd}
use Rattle.exec_reel.specs.declared.view.View.{View}
use Rattle.exec_reel.specs.Rule.{Board, KnowsAs, Turns, Kept}
use Rattle.exec_reel.specs.Steps.{becomes, drawing_next, new_ticket, FetchedAdd}
use Rattle.exec_reel.proofs.Among.{none_among}
use Rattle.exec_reel.proofs.Frame.{at_here, at_else, knows_role, idle, one_works, still_works, none_works, page_stays, seats_know, added, drawer_not_reader, drawn_not_reader}

-- the fetch_add
module _ (k : Opening) (id : ℕ) (v : View) (s : State Cell View) (h : Kept k s) (at : get_elem? s.views id ≡ some v) (role : v.role ≡ Drawing) (left : v.number < page_total k.clip) where
  abbrev b : Board
  b = h.board

  abbrev b' : Board
  b' = record b { counter = b.counter + 1; turn = λ n. cond (n == b.counter) id (b.turn n) }

  mine : (b.drawer ≡ id) × (v.number ≡ b.counter)
  mine = knows_role v.role Drawing b id v.number role (h.turns.seat id v at).role

  turn_else : (n : ℕ) → n < b.counter → b'.turn n ≡ b.turn n
  turn_else n lt = at_else b.turn b.counter n id (λ e. omega arith)

  role_else : (r : Role) (i number : ℕ) → i ≢ id → KnowsAs r b i number → KnowsAs r b' i number
  role_else Opener i number n q = absurd (n (sym q.0 ∙ mine.0))
  role_else Drawing i number n q = absurd (n (sym q.0 ∙ mine.0))
  role_else Drawn i number n q = absurd (n (sym q.0 ∙ mine.0))
  role_else Waiting i number n q = (let a = q.0 in omega arith, q.1, turn_else number q.0 ∙ q.2)
  role_else (Working stage) i number n q = (let a = q.0 in omega arith, q.1, turn_else number q.0 ∙ q.2, q.3)
  role_else Ended i number n q = (q.0, turn_else number (let a = q.0 in let c = h.turns.bounds.0 in omega arith) ∙ q.1)
  role_else Reading i number n q = q

  pub drawn_kept : (n found : ℕ) → n ≡ b.counter + 1 → Kept k (stepped s 0 n id [] (becomes Drawn (FetchAdd found) v) keeps)
  drawn_kept n found e =
      let w : View = becomes Drawn (FetchAdd found) v in
      let known = h.turns.seat id v at in
      let bounds = h.turns.bounds in
      record {
        board = b';
        few = h.few;
        words = ap (λ (l : List ℕ). set l 0 n) h.words ∙ ap (λ (x : ℕ). x ∷ b.pointer ∷ []) e;
        homes = h.homes;
        turns = record {
          bounds = (let a = bounds.0 in omega arith, let a = mine.1 in omega arith);
          works = still_works b b' s.views id v w at h.turns.works (idle v.role Drawing role tt) refl refl (λ ne. turn_else b.pointer (let one = one_works b.stage b s.views ne h.turns.works in
              let its = knows_role one.0.role (Working b.stage) b (b.turn b.pointer) one.0.number one.2 (h.turns.seat (b.turn b.pointer) one.0 one.1).role in let a = its.0 in let c = its.1 in omega arith));
          cursor = h.turns.cursor;
          page = λ j lt. page_stays b b' s.views id v w at k.clip j (get_elem? s.homes j) (λ x m. m) refl refl refl (h.turns.page j lt);
          seat = seats_know b b' s.views id v w at k.clip h.turns.seat
              record {
                clip_is = known.clip_is;
                role = (mine.0, let a = mine.1 in omega arith, let a = bounds.0 in let c = mine.1 in omega arith, at_here b.turn b.counter v.number id mine.1);
                shown = known.shown;
                taken = λ j m. let t = known.taken j m in absurd (drawer_not_reader (sym role ∙ t.0));
              }
              (λ i u n q. record { clip_is = q.clip_is; role = role_else u.role i u.number n q.role; shown = q.shown; taken = q.taken });
        };
      }

module _ (k : Opening) (slots id : ℕ) where
  pub draws : (me : Me Cell View) → me.0.role ≡ Drawing → me.0.number < page_total k.clip → Allows (Kept k) slots id me 0 (λ n. (n + 1) % 2 ^ 64) (FetchedAdd (step slots 0 1 0 none) me)
  draws me role left s h size at fits =
      let found : ℕ = slice_index s.words 0 in
      let same : found ≡ h.board.counter = ap (λ (l : List ℕ). slice_index l 0) h.words in
      let own = mine k id me.0 s h at role left in
      let sum : (found + 1) % 2 ^ 64 ≡ h.board.counter + 1 = let a = h.turns.bounds.1 in let c = h.few in omega arith in (
        becomes Drawn (FetchAdd found) me.0,
        keeps,
        tt,
        drawn_kept k id me.0 s h at role left ((found + 1) % 2 ^ 64) found sum,
        (refl, same ∙ sym own.1, let a = own.1 in let c = h.turns.bounds.1 in let d = h.few in omega arith),
      )

-- the split of the ticket's seat
module _ (k : Opening) (id : ℕ) (v : View) (s : State Cell View) (h : Kept k s) (at : get_elem? s.views id ≡ some v) (role : v.role ≡ Drawn) where
  abbrev b2 : Board
  b2 = h.board

  abbrev b2' : Board
  b2' = record b2 { turn = λ n. cond (n == v.number) (length s.views) (b2.turn n) }

  has : (b2.drawer ≡ id) × (v.number + 1 ≡ b2.counter) × (b2.pointer ≤ v.number) × (b2.turn v.number ≡ id)
  has = knows_role v.role Drawn b2 id v.number role (h.turns.seat id v at).role

  turn_apart : (i number : ℕ) → i ≢ id → b2.turn number ≡ i → b2'.turn number ≡ b2.turn number
  turn_apart i number n e = at_else b2.turn v.number number (length s.views) (λ same. n (sym e ∙ ap b2.turn same ∙ has.3))

  split_else : (r : Role) (i number : ℕ) → i ≢ id → KnowsAs r b2 i number → KnowsAs r b2' i number
  split_else Opener i number n q = q
  split_else Drawing i number n q = q
  split_else Drawn i number n q = absurd (n (sym q.0 ∙ has.0))
  split_else Waiting i number n q = (q.0, q.1, turn_apart i number n q.2 ∙ q.2)
  split_else (Working stage) i number n q = (q.0, q.1, turn_apart i number n q.2 ∙ q.2, q.3)
  split_else Ended i number n q = (q.0, turn_apart i number n q.1 ∙ q.1)
  split_else Reading i number n q = q

  left_turns : Turns k.clip (page_total k.clip) b2' s.homes (set s.views id (drawing_next v))
  left_turns =
      let w : View = drawing_next v in
      let known = h.turns.seat id v at in
      record {
        bounds = h.turns.bounds;
        works = still_works b2 b2' s.views id v w at h.turns.works (idle v.role Drawn role tt) refl refl
            (λ ne. at_else b2.turn v.number b2.pointer (length s.views) (λ e. ne (none_works b2 b2 s.views id v w at h.turns.works (idle v.role Drawn role tt) (ap b2.turn e ∙ has.3))));
        cursor = h.turns.cursor;
        page = λ j lt. page_stays b2 b2' s.views id v w at k.clip j (get_elem? s.homes j) (λ x m. m) refl refl refl (h.turns.page j lt);
        seat = seats_know b2 b2' s.views id v w at k.clip h.turns.seat
            record { clip_is = known.clip_is; role = (has.0, has.1); shown = known.shown; taken = λ j m. let t = known.taken j m in absurd (drawn_not_reader (sym role ∙ t.0)) }
            (λ i u n q. record { clip_is = q.clip_is; role = split_else u.role i u.number n q.role; shown = q.shown; taken = q.taken });
      }

  pub split_kept : Kept k record { words = s.words; homes = s.homes; views = set s.views id (drawing_next v) ++ new_ticket v ∷ [] }
  split_kept =
      let views : List View = set s.views id (drawing_next v) in
      let known = h.turns.seat id v at in
      record {
        board = b2';
        few = h.few;
        words = h.words;
        homes = h.homes;
        turns = added k.clip (page_total k.clip) b2' s.homes views (new_ticket v) left_turns
            record {
              clip_is = known.clip_is;
              role = (let a = has.1 in omega arith, has.2, at_here b2.turn v.number v.number (length s.views) refl ∙ sym (length-set s.views id (drawing_next v)));
              shown = omega arith;
              taken = λ j m. absurd (none_among m);
            };
      }

pub splits_ticket : (k : Opening) (id : ℕ) (v : View) → v.role ≡ Drawn → Splits (Kept k) id v (drawing_next v) (new_ticket v)
splits_ticket k id v role s h at = split_kept k id v s h at role
