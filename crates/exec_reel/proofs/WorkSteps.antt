-- The steps of a ticket whose job is run.
use Rattle.std.proofs.Common.{◌≡◌, ◌≢◌, ℕ, ◌+◌, ◌<◌, cond, ◌==◌, List, [], ◌∷◌, length, set, refl, sym, ap, ◌∙◌, subst, subst₂, arith, length-set}
use Rattle.std.specs.Prelude.{slice_index}
use mathlib.Core.Option.{some, none}
use mathlib.Core.Logic.{dite}
use native.Mathlib.Decide.{ℕ_discrete}
use lib.ListN.{get_elem?}
use Rattle.atomic_table.specs.Table.{State, Me, step, stepped, Allows, keeps, takes, gives, rest}
use Rattle.atomic_table.proofs.Lists.{set_here, set_else}
use Rattle.clip_decode.specs.declared.cursor.Cursor.{Cursor}
use Rattle.exec_reel.specs.ClipPages.{page_total, page_of, empty_page, ComesTo}
use Rattle.exec_reel.specs.declared.cell.Cell.{Cell}
use Rattle.exec_reel.specs.declared.cell.Cell.TheVariants.{Decoder, Page}
use Rattle.exec_reel.specs.declared.view.Opening.{Opening}
use Rattle.exec_reel.specs.declared.view.Stage.{Stage}
use Rattle.exec_reel.specs.declared.view.Stage.TheVariants.{Ready, CursorTaken, PageTaken, PageHome, CursorHome}
use Rattle.exec_reel.specs.declared.view.Role.{Role}
use Rattle.exec_reel.specs.declared.view.Role.TheVariants.{Opener, Drawing, Drawn, Waiting, Working, Ended, Reading}
use Rattle.exec_reel.specs.declared.view.Note.{Note}
use Rattle.exec_reel.specs.declared.view.Note.TheVariants.{CursorOut, PageOut, PageIn, CursorIn, StorePointer}
use Rattle.exec_reel.specs.declared.view.View.{View}
use Rattle.exec_reel.specs.Rule.{Board, KnowsAs, Knows, CursorLies, NextPageLies, ShownPageLies, Kept}
use Rattle.exec_reel.specs.Steps.{becomes, CursorWentOut, PageWentOut, PageCameIn, CursorCameIn, PointerStored}
use Rattle.exec_reel.proofs.Frame.{replaced, at_here, at_else, knows_role, are_working, shown_stays, seats_know}
use Rattle.exec_reel.proofs.LoadSteps.{loaded, pointer_found}

working_not_reader : (stage : Stage) → Working stage ≡ Reading → ⊥
working_not_reader stage e = cc

module _ (k : Opening) (id : ℕ) (v : View) (s : State Cell View) (h : Kept k s) (at : get_elem? s.views id ≡ some v) (stage : Stage) (role : v.role ≡ Working stage) where
  abbrev b : Board
  b = h.board

  abbrev pages : ℕ
  pages = page_total k.clip

  pub known : Knows k.clip b id v
  known = h.turns.seat id v at

  pub works : (v.number < b.counter) × (v.number ≡ b.pointer) × (b.turn v.number ≡ id) × (stage ≡ b.stage)
  works = knows_role v.role (Working stage) b id v.number role known.role

  pub is_page : b.pointer < pages
  is_page = let a = works.0 in let c = works.1 in let d = h.turns.bounds.1 in omega arith

  pub inside : pages < length s.homes
  inside = let a = h.homes in omega arith

  -- how the cursor and the page lie
  pub cursor_lies : CursorLies k.clip stage b.pointer (get_elem? s.homes pages)
  cursor_lies = subst (λ z. CursorLies k.clip z b.pointer (get_elem? s.homes pages)) (sym works.3) h.turns.cursor

  pub page_lies : NextPageLies k.clip stage b.pointer (get_elem? s.homes b.pointer)
  page_lies = subst (λ z. NextPageLies k.clip z b.pointer (get_elem? s.homes b.pointer)) (sym works.3) ((h.turns.page b.pointer is_page).here refl)

  -- no other seat has the number
  not_other : (i number : ℕ) → i ≢ id → b.turn number ≡ i → number ≢ b.pointer
  not_other i number n turn e = n (sym turn ∙ ap b.turn (e ∙ sym works.1) ∙ works.2)

  -- the job goes on to the next stage
  module _ (next : Stage) (note : Note) (homes : List (mathlib.Core.Option.Option Cell)) (size : length homes ≡ length s.homes) (else : (j : ℕ) → j < pages → j ≢ b.pointer → get_elem? homes j ≡ get_elem? s.homes j)
      (cursor : CursorLies k.clip next b.pointer (get_elem? homes pages)) (page : NextPageLies k.clip next b.pointer (get_elem? homes b.pointer)) where
    abbrev b' : Board
    b' = record b { stage = next }

    abbrev w : View
    w = becomes (Working next) note v

    role_else : (r : Role) (i number : ℕ) → i ≢ id → KnowsAs r b i number → KnowsAs r b' i number
    role_else Opener i number n q = q
    role_else Drawing i number n q = q
    role_else Drawn i number n q = q
    role_else Waiting i number n q = q
    role_else (Working z) i number n q = absurd (not_other i number n q.2 q.1)
    role_else Ended i number n q = q
    role_else Reading i number n q = q

    pub goes_on : Kept k record { words = set s.words 1 (slice_index s.words 1); homes = homes; views = set s.views id w }
    goes_on = record {
      board = b';
      few = h.few;
      words = loaded s.words b.counter b.pointer h.words;
      homes = size ∙ h.homes;
      turns = record {
        bounds = h.turns.bounds;
        works = are_working next b' (set s.views id w) (w, ap (get_elem? (set s.views id w)) (ap b.turn (sym works.1) ∙ works.2) ∙ replaced s.views id w v at, refl, works.1);
        cursor = cursor;
        page = λ j lt. record {
          before = λ less. subst (λ cell. ShownPageLies k.clip (set s.views id w) (b.taken j) j cell) (sym (else j lt (λ e. omega arith)))
              (shown_stays b b' s.views id v w at k.clip (b.taken j) j (get_elem? s.homes j) (λ x m. m) ((h.turns.page j lt).before less));
          here = λ e. subst (λ x. NextPageLies k.clip next x (get_elem? homes x)) (sym e) page;
          behind = λ less. else j lt (λ e. omega arith) ∙ (h.turns.page j lt).behind less;
        };
        seat = seats_know b b' s.views id v w at k.clip h.turns.seat
            record { clip_is = known.clip_is; role = (works.0, works.1, works.2, refl); shown = known.shown; taken = λ j m. absurd (working_not_reader stage (sym role ∙ (known.taken j m).0)) }
            (λ i u n q. record { clip_is = q.clip_is; role = role_else u.role i u.number n q.role; shown = q.shown; taken = q.taken });
      };
    }

-- the cursor goes out
module _ (k : Opening) (slots id : ℕ) where
  pub takes_cursor : (me : Me Cell View) → me.0.role ≡ Working Ready → Allows (Kept k) slots id me 1 (λ n. n) (CursorWentOut (step slots 1 0 0 none) me)
  takes_cursor me role s h size at fits =
      let v : View = me.0 in
      let n : ℕ = slice_index s.words 1 in
      let found = pointer_found s.words h.board.counter h.board.pointer h.words in
      let pages : ℕ = page_total k.clip in
      let own = works k id v s h at Ready role in
      let clip = (known k id v s h at Ready role).clip_is in
      let lies = cursor_lies k id v s h at Ready role in
      let less = is_page k id v s h at Ready role in (
        becomes (Working CursorTaken) (CursorOut n) v,
        takes pages (Decoder lies.0),
        lies.1,
        goes_on k id v s h at Ready role CursorTaken (CursorOut n) (set s.homes pages none) (length-set s.homes pages none)
            (λ j lt ne. set_else s.homes pages j none (λ e. omega arith)) (set_here s.homes pages none (inside k id v s h at Ready role))
            (set_else s.homes pages h.board.pointer none (λ e. omega arith) ∙ page_lies k id v s h at Ready role),
        (
          found ∙ sym own.1,
          (
            lies.0,
            subst₂ (λ c x. ComesTo c x lies.0) (sym clip) (sym own.1) lies.2,
            ap (λ c. (becomes (Working CursorTaken) (CursorOut n) v, (page_total c, Decoder lies.0) ∷ me.1)) (sym clip),
          ),
        ),
      )

  pub takes_page : (me : Me Cell View) → me.0.role ≡ Working CursorTaken → Allows (Kept k) slots id me 1 (λ n. n) (PageWentOut (step slots 1 0 0 none) me)
  takes_page me role s h size at fits =
      let v : View = me.0 in
      let n : ℕ = slice_index s.words 1 in
      let found = pointer_found s.words h.board.counter h.board.pointer h.words in
      let pages : ℕ = page_total k.clip in
      let p : ℕ = h.board.pointer in
      let own = works k id v s h at CursorTaken role in
      let clip = (known k id v s h at CursorTaken role).clip_is in
      let less = is_page k id v s h at CursorTaken role in
      let wide = inside k id v s h at CursorTaken role in (
        becomes (Working PageTaken) (PageOut v.number n) v,
        takes p (Page (empty_page k.clip)),
        page_lies k id v s h at CursorTaken role,
        goes_on k id v s h at CursorTaken role PageTaken (PageOut v.number n) (set s.homes p none) (length-set s.homes p none)
            (λ j lt ne. set_else s.homes p j none ne) (set_else s.homes p pages none (λ e. omega arith) ∙ cursor_lies k id v s h at CursorTaken role)
            (set_here s.homes p none (omega arith)),
        (found ∙ sym own.1, subst₂ (λ c x. ◌≡◌ {A = Me Cell View} (becomes (Working PageTaken) (PageOut v.number n) v, (p, Page (empty_page k.clip)) ∷ me.1) (becomes (Working PageTaken) (PageOut v.number n) v, (x, Page (empty_page c)) ∷ me.1)) (sym clip) (sym own.1) refl),
      )

  page_returns : (v : View) (out : List (ℕ × Cell)) → v.role ≡ Working PageTaken → Allows (Kept k) slots id (v, (v.number, Page (page_of v.clip v.number)) ∷ out) 1 (λ n. n) (PageCameIn (step slots 1 0 0 none) (v, (v.number, Page (page_of v.clip v.number)) ∷ out))
  page_returns v out role s h size at fits =
      let n : ℕ = slice_index s.words 1 in
      let found = pointer_found s.words h.board.counter h.board.pointer h.words in
      let pages : ℕ = page_total k.clip in
      let own = works k id v s h at PageTaken role in
      let clip = (known k id v s h at PageTaken role).clip_is in
      let less = is_page k id v s h at PageTaken role in
      let wide = inside k id v s h at PageTaken role in
      let y = some (Page (page_of v.clip v.number)) in (
        becomes (Working PageHome) (PageIn v.number n) v,
        gives,
        tt,
        goes_on k id v s h at PageTaken role PageHome (PageIn v.number n) (set s.homes v.number y) (length-set s.homes v.number y)
            (λ j lt ne. set_else s.homes v.number j y (λ e. ne (e ∙ own.1))) (set_else s.homes v.number pages y (λ e. let a = own.1 in omega arith) ∙ cursor_lies k id v s h at PageTaken role)
            (ap (get_elem? (set s.homes v.number y)) (sym own.1) ∙ set_here s.homes v.number y (let a = own.1 in omega arith) ∙ subst₂ (λ c x. some y ≡ some (some (Page (page_of c x)))) clip own.1 refl),
        (found ∙ sym own.1, refl),
      )

  pub returns_page : (me : Me Cell View) → me.0.role ≡ Working PageTaken → me.1 ≡ (me.0.number, Page (page_of me.0.clip me.0.number)) ∷ rest me.1 → Allows (Kept k) slots id me 1 (λ n. n) (PageCameIn (step slots 1 0 0 none) me)
  returns_page me role out = subst (λ c. Allows (Kept k) slots id (me.0, c) 1 (λ n. n) (PageCameIn (step slots 1 0 0 none) (me.0, c))) (sym out) (page_returns me.0 (rest me.1) role)

  cursor_returns : (v : View) (out : List (ℕ × Cell)) (slot : ℕ) (x : Cursor) → v.role ≡ Working PageHome → slot ≡ page_total v.clip → ComesTo v.clip (v.number + 1) x → Allows (Kept k) slots id (v, (slot, Decoder x) ∷ out) 1 (λ n. n) (CursorCameIn (step slots 1 0 0 none) (v, (slot, Decoder x) ∷ out))
  cursor_returns v out slot x role place comes s h size at fits =
      let n : ℕ = slice_index s.words 1 in
      let found = pointer_found s.words h.board.counter h.board.pointer h.words in
      let pages : ℕ = page_total k.clip in
      let own = works k id v s h at PageHome role in
      let clip = (known k id v s h at PageHome role).clip_is in
      let less = is_page k id v s h at PageHome role in
      let wide = inside k id v s h at PageHome role in
      let last : slot ≡ pages = place ∙ ap page_total clip in
      let y = some (Decoder x) in (
        becomes (Working CursorHome) (CursorIn n) v,
        gives,
        tt,
        goes_on k id v s h at PageHome role CursorHome (CursorIn n) (set s.homes slot y) (length-set s.homes slot y)
            (λ j lt ne. set_else s.homes slot j y (λ e. omega arith))
            (x, ap (get_elem? (set s.homes slot y)) (sym last) ∙ set_here s.homes slot y (omega arith), subst₂ (λ c z. ComesTo c z x) clip (ap (λ z. z + 1) own.1) comes)
            (set_else s.homes slot h.board.pointer y (λ e. omega arith) ∙ page_lies k id v s h at PageHome role),
        (found ∙ sym own.1, refl),
      )

  pub returns_cursor : (me : Me Cell View) (slot : ℕ) (x : Cursor) → me.0.role ≡ Working PageHome → slot ≡ page_total me.0.clip → ComesTo me.0.clip (me.0.number + 1) x → me.1 ≡ (slot, Decoder x) ∷ rest me.1 → Allows (Kept k) slots id me 1 (λ n. n) (CursorCameIn (step slots 1 0 0 none) me)
  returns_cursor me slot x role place comes out = subst (λ c. Allows (Kept k) slots id (me.0, c) 1 (λ n. n) (CursorCameIn (step slots 1 0 0 none) (me.0, c))) (sym out) (cursor_returns me.0 (rest me.1) slot x role place comes)

-- the store
module _ (k : Opening) (id : ℕ) (v : View) (s : State Cell View) (h : Kept k s) (at : get_elem? s.views id ≡ some v) (role : v.role ≡ Working CursorHome) where
  abbrev o : Board
  o = h.board

  abbrev o' : Board
  o' = record o { pointer = o.pointer + 1; stage = Ready; taken = λ j. cond (j == o.pointer) none (o.taken j) }

  own : (v.number < o.counter) × (v.number ≡ o.pointer) × (o.turn v.number ≡ id) × (CursorHome ≡ o.stage)
  own = works k id v s h at CursorHome role

  apart : (i number : ℕ) → i ≢ id → o.turn number ≡ i → number ≢ o.pointer
  apart i number n turn e = n (sym turn ∙ ap o.turn (e ∙ sym own.1) ∙ own.2)

  store_else : (r : Role) (i number : ℕ) → i ≢ id → KnowsAs r o i number → KnowsAs r o' i number
  store_else Opener i number n q = q
  store_else Drawing i number n q = q
  store_else Drawn i number n q = let ne = apart i number n q.3 in (q.0, q.1, let a = q.2 in omega arith, q.3)
  store_else Waiting i number n q = let ne = apart i number n q.2 in (q.0, let a = q.1 in omega arith, q.2)
  store_else (Working z) i number n q = absurd (apart i number n q.2 q.1)
  store_else Ended i number n q = (let a = q.0 in omega arith, q.1)
  store_else Reading i number n q = q

  pub stored_kept : (n : ℕ) → n ≡ v.number + 1 → Kept k (stepped s 1 n id [] (becomes Ended (StorePointer n) v) keeps)
  stored_kept n e =
      let w : View = becomes Ended (StorePointer n) v in
      let mine = known k id v s h at CursorHome role in
      let clip = k.clip in
      let homes = s.homes in
      let pages : ℕ = page_total clip in
      record {
        board = o';
        few = h.few;
        words = ap (λ (l : List ℕ). set l 1 n) h.words ∙ ap (λ (x : ℕ). o.counter ∷ x ∷ []) (let a = own.1 in e ∙ omega arith);
        homes = h.homes;
        turns = record {
          bounds = (let a = own.0 in let c = own.1 in omega arith, h.turns.bounds.1);
          works = tt;
          cursor = cursor_lies k id v s h at CursorHome role;
          page = λ j lt. let p = h.turns.page j lt in record {
            before = λ less. dite (ℕ_discrete j o.pointer)
                (λ (same : j ≡ o.pointer). subst (λ z. ShownPageLies clip (set s.views id w) z j (get_elem? homes j)) (sym (at_here o.taken o.pointer j none same))
                (subst (λ x. get_elem? homes x ≡ some (some (Page (page_of clip x)))) (sym same) (page_lies k id v s h at CursorHome role)))
                (λ (ne : j ≢ o.pointer). subst (λ z. ShownPageLies clip (set s.views id w) z j (get_elem? homes j)) (sym (at_else o.taken o.pointer j none ne))
                (shown_stays o o' s.views id v w at clip (o.taken j) j (get_elem? homes j) (λ x m. m) (p.before (omega arith))));
            here = λ same. p.behind (omega arith);
            behind = λ less. p.behind (omega arith);
          };
          seat = seats_know o o' s.views id v w at clip h.turns.seat
              record { clip_is = mine.clip_is; role = (let a = own.1 in omega arith, own.2); shown = let a = mine.shown in omega arith; taken = λ j m. absurd (working_not_reader CursorHome (sym role ∙ (mine.taken j m).0)) }
              (λ i u ne q. record {
                clip_is = q.clip_is;
                role = store_else u.role i u.number ne q.role;
                shown = let a = q.shown in omega arith;
                taken = λ j m. let t = q.taken j m in (t.0, t.1, at_else o.taken o.pointer j none (λ e. let a = t.1 in let c = q.shown in omega arith) ∙ t.2);
              });
        };
      }

pub stores_pointer : (k : Opening) (slots id : ℕ) (me : Me Cell View) (n : ℕ) → me.0.role ≡ Working CursorHome → n ≡ me.0.number + 1 → Allows (Kept k) slots id me 1 (λ _. n) (λ _. PointerStored (step slots 1 n 0 none) me n)
stores_pointer k slots id me n role e s h size at fits = (becomes Ended (StorePointer n) me.0, keeps, tt, stored_kept k id me.0 s h at role n e, refl)
