-- What the rule says at every moment, in sentences of its own.
use Rattle.std.proofs.Common.{◌≡◌, ◌⊎◌, ℕ, ◌+◌, ◌≤◌, ◌<◌, List, sym, ap, ◌∙◌, subst, inl, inr, arith}
use Rattle.std.specs.Prelude.{slice_index}
use mathlib.Core.Option.{some, none}
use lib.ListN.{get_elem?}
use Rattle.atomic_table.specs.Table.{State}
use Rattle.clip_decode.specs.declared.cursor.Cursor.{Cursor}
use Rattle.exec_reel.specs.ClipPages.{page_total, page_of, empty_page, ComesTo}
use Rattle.exec_reel.specs.declared.cell.Cell.{Cell}
use Rattle.exec_reel.specs.declared.cell.Cell.TheVariants.{Decoder, Page}
use Rattle.exec_reel.specs.declared.view.Opening.{Opening}
use Rattle.exec_reel.specs.declared.view.Stage.{Stage}
use Rattle.exec_reel.specs.declared.view.Stage.TheVariants.{Ready, CursorTaken, PageTaken, PageHome, CursorHome}
use Rattle.exec_reel.specs.declared.view.Role.{Role}
use Rattle.exec_reel.specs.declared.view.Role.TheVariants.{Opener, Drawing, Drawn, Waiting, Working, Ended, Reading}
use Rattle.exec_reel.specs.declared.view.View.{View}
use Rattle.exec_reel.specs.Rule.{IsAmong, CursorLies, NextPageLies, ShownPageLies, Kept, OneWorks, AreWorking}
use Rattle.exec_reel.proofs.Frame.{knows_role}

-- A seat in this role has a ticket.
abbrev pub HasTicket : Role → Type 0
HasTicket Opener = ⊥
HasTicket Drawing = ⊥
HasTicket Drawn = Unit {0}
HasTicket Waiting = Unit {0}
HasTicket (Working stage) = Unit {0}
HasTicket Ended = Unit {0}
HasTicket Reading = ⊥

module _ (k : Opening) (s : State Cell View) (h : Kept k s) where
  abbrev pub counter : ℕ
  counter = slice_index s.words 0

  abbrev pub pointer : ℕ
  pointer = slice_index s.words 1

  counter_is : counter ≡ h.board.counter
  counter_is = ap (λ (l : List ℕ). slice_index l 0) h.words

  pointer_is : pointer ≡ h.board.pointer
  pointer_is = ap (λ (l : List ℕ). slice_index l 1) h.words

  -- the pointer is at most the counter, and that is at most the number of pages
  pub in_order : (pointer ≤ counter) × (counter ≤ page_total k.clip)
  in_order = let c = counter_is in let p = pointer_is in let b = h.turns.bounds in (let a = b.0 in omega arith, let a = b.1 in omega arith)

  module _ (i : ℕ) (v : View) (at : get_elem? s.views i ≡ some v) where
    its_turn : (r : Role) → v.role ≡ r → HasTicket r → (v.number < h.board.counter) × (h.board.turn v.number ≡ i)
    its_turn Opener e t = absurd t
    its_turn Drawing e t = absurd t
    its_turn Drawn e t = let q = knows_role v.role Drawn h.board i v.number e (h.turns.seat i v at).role in (let a = q.1 in omega arith, q.3)
    its_turn Waiting e t = let q = knows_role v.role Waiting h.board i v.number e (h.turns.seat i v at).role in (q.0, q.2)
    its_turn (Working stage) e t = let q = knows_role v.role (Working stage) h.board i v.number e (h.turns.seat i v at).role in (q.0, q.2)
    its_turn Ended e t = let q = knows_role v.role Ended h.board i v.number e (h.turns.seat i v at).role in (let a = q.0 in let b = h.turns.bounds.0 in omega arith, q.1)
    its_turn Reading e t = absurd t

    -- a ticket's number is below the counter
    pub below_counter : HasTicket v.role → v.number < counter
    below_counter t = let c = counter_is in let a = (its_turn v.role (λ i. v.role) t).0 in omega arith

    -- one that waits has a number of at least the pointer
    pub waits_behind : v.role ≡ Waiting → pointer ≤ v.number
    waits_behind e = let p = pointer_is in let a = (knows_role v.role Waiting h.board i v.number e (h.turns.seat i v at).role).1 in omega arith

    -- one that works has the pointer's
    pub works_at : (stage : Stage) → v.role ≡ Working stage → v.number ≡ pointer
    works_at stage e = (knows_role v.role (Working stage) h.board i v.number e (h.turns.seat i v at).role).1 ∙ sym pointer_is

    -- one that ended has a number below it
    pub ended_before : v.role ≡ Ended → v.number < pointer
    ended_before e = let p = pointer_is in let a = (knows_role v.role Ended h.board i v.number e (h.turns.seat i v at).role).0 in omega arith

    -- a page that a seat has is with the reader, and is below a number that the reader was shown; that is at most the pointer
    pub reader_has : (j : ℕ) → IsAmong j v.taken → (v.role ≡ Reading) × (j < v.shown)
    reader_has j m = let t = (h.turns.seat i v at).taken j m in (t.0, t.1)

    pub shown_before : v.shown ≤ pointer
    shown_before = let p = pointer_is in let a = (h.turns.seat i v at).shown in omega arith

  -- tickets have distinct numbers
  pub one_ticket : (i j : ℕ) (v w : View) → get_elem? s.views i ≡ some v → get_elem? s.views j ≡ some w → HasTicket v.role → HasTicket w.role → v.number ≡ w.number → i ≡ j
  one_ticket i j v w at at' t t' same = sym (its_turn i v at v.role (λ x. v.role) t).1 ∙ ap h.board.turn same ∙ (its_turn j w at' w.role (λ x. w.role) t').1

  -- a ticket works
  abbrev pub OneDoes : Stage → Type 0
  OneDoes stage = (i : ℕ) × (v : View) × (get_elem? s.views i ≡ some v) × (v.role ≡ Working stage) × (v.number ≡ pointer)

  -- the cursor is at home and comes to the pointer's page; or it is with the ticket that works; or that put it home, and it comes to the next page
  pub cursor_lies : ((x : Cursor) × (get_elem? s.homes (page_total k.clip) ≡ some (some (Decoder x))) × ComesTo k.clip h.board.pointer x)
      ⊎ ((get_elem? s.homes (page_total k.clip) ≡ some none) × ((stage : Stage) × OneDoes stage))
      ⊎ ((x : Cursor) × (get_elem? s.homes (page_total k.clip) ≡ some (some (Decoder x))) × ComesTo k.clip (h.board.pointer + 1) x)
  cursor_lies = by_stage h.board.stage (λ i. h.board.stage)
    where
      one : (stage : Stage) → ((v : View) × (get_elem? s.views (h.board.turn h.board.pointer) ≡ some v) × (v.role ≡ Working stage) × (v.number ≡ h.board.pointer)) → (z : Stage) × OneDoes z
      one stage w = (stage, (h.board.turn h.board.pointer, w.0, w.1, w.2, w.3 ∙ sym pointer_is))

      cursor_as : (stage : Stage) → h.board.stage ≡ stage → CursorLies k.clip stage h.board.pointer (get_elem? s.homes (page_total k.clip))
      cursor_as stage e = subst (λ z. CursorLies k.clip z h.board.pointer (get_elem? s.homes (page_total k.clip))) e h.turns.cursor

      works_as : (stage : Stage) → h.board.stage ≡ stage → AreWorking stage h.board s.views
      works_as stage e = subst (λ z. AreWorking z h.board s.views) e h.turns.works

      by_stage : (stage : Stage) → h.board.stage ≡ stage
          → ((x : Cursor) × (get_elem? s.homes (page_total k.clip) ≡ some (some (Decoder x))) × ComesTo k.clip h.board.pointer x)
          ⊎ ((get_elem? s.homes (page_total k.clip) ≡ some none) × ((z : Stage) × OneDoes z))
          ⊎ ((x : Cursor) × (get_elem? s.homes (page_total k.clip) ≡ some (some (Decoder x))) × ComesTo k.clip (h.board.pointer + 1) x)
      by_stage Ready e = inl (cursor_as Ready e)
      by_stage CursorTaken e = inr (inl (cursor_as CursorTaken e, one CursorTaken (works_as CursorTaken e)))
      by_stage PageTaken e = inr (inl (cursor_as PageTaken e, one PageTaken (works_as PageTaken e)))
      by_stage PageHome e = inr (inl (cursor_as PageHome e, one PageHome (works_as PageHome e)))
      by_stage CursorHome e = inr (inr (cursor_as CursorHome e))

  -- a page below the pointer has its samples at home, or is with a seat that has taken it
  pub shown_lies : (j : ℕ) → j < page_total k.clip → j < pointer → (get_elem? s.homes j ≡ some (some (Page (page_of k.clip j)))) ⊎ ((i : ℕ) × (v : View) × (get_elem? s.views i ≡ some v) × IsAmong j v.taken)
  shown_lies j lt less = by_taker (h.board.taken j) ((h.turns.page j lt).before (let p = pointer_is in omega arith))
    where
      by_taker : (o : mathlib.Core.Option.Option ℕ) → ShownPageLies k.clip s.views o j (get_elem? s.homes j) → (get_elem? s.homes j ≡ some (some (Page (page_of k.clip j)))) ⊎ ((i : ℕ) × (v : View) × (get_elem? s.views i ≡ some v) × IsAmong j v.taken)
      by_taker none lies = inl lies
      by_taker (some i) lies = inr (i, lies.1.0, lies.1.1, lies.1.2)

  -- a page above the pointer is empty and at home
  pub behind_is_empty : (j : ℕ) → j < page_total k.clip → pointer < j → get_elem? s.homes j ≡ some (some (Page (empty_page k.clip)))
  behind_is_empty j lt less = (h.turns.page j lt).behind (let p = pointer_is in omega arith)

  -- page p is empty and at home; or it is with the ticket that works; or that has filled it and put it home
  abbrev pub NextLies : ℕ → Type 0
  NextLies p = (get_elem? s.homes p ≡ some (some (Page (empty_page k.clip))))
      ⊎ ((get_elem? s.homes p ≡ some none) × OneDoes PageTaken)
      ⊎ ((get_elem? s.homes p ≡ some (some (Page (page_of k.clip p)))) × ((stage : Stage) × OneDoes stage))

  one_does : (stage : Stage) → OneWorks stage h.board s.views → OneDoes stage
  one_does stage w = (h.board.turn h.board.pointer, w.0, w.1, w.2, w.3 ∙ sym pointer_is)

  next_at : (z : Stage) → NextPageLies k.clip z h.board.pointer (get_elem? s.homes h.board.pointer) → AreWorking z h.board s.views → NextLies h.board.pointer
  next_at Ready lies works = inl lies
  next_at CursorTaken lies works = inl lies
  next_at PageTaken lies works = inr (inl (lies, one_does PageTaken works))
  next_at PageHome lies works = inr (inr (lies, (PageHome, one_does PageHome works)))
  next_at CursorHome lies works = inr (inr (lies, (CursorHome, one_does CursorHome works)))

  -- so lies the pointer's page
  pub next_lies : pointer < page_total k.clip → NextLies pointer
  next_lies lt =
      let p = pointer_is in
      subst (λ x. NextLies x) (sym pointer_is) (next_at h.board.stage ((h.turns.page h.board.pointer (omega arith)).here (λ i. h.board.pointer)) h.turns.works)
