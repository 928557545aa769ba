-- The reader's seat is split off, and a page goes out to it.
use Rattle.std.proofs.Common.{◌≡◌, ◌≢◌, ℕ, ◌<◌, cond, ◌==◌, List, [], ◌∷◌, ◌++◌, length, set, refl, sym, ap, ◌∙◌, subst, ⊎_elim, arith, length-set}
use Rattle.std.specs.Prelude.{slice_index}
use mathlib.Core.Option.{some, none, some-injective, some-ne-none}
use mathlib.Core.Logic.{dite}
use native.Mathlib.Decide.{ℕ_discrete}
use lib.ListN.{get_elem?}
use Rattle.atomic_table.specs.Table.{State, Me, step, Allows, Splits, takes}
use Rattle.atomic_table.proofs.Lists.{set_here, set_else}
use Rattle.exec_reel.specs.ClipPages.{page_total, page_of}
use Rattle.exec_reel.specs.declared.cell.Cell.{Cell}
use Rattle.exec_reel.specs.declared.cell.Cell.TheVariants.{Page}
use Rattle.exec_reel.specs.declared.view.Opening.{Opening}
use Rattle.exec_reel.specs.declared.view.Role.{Role}
use Rattle.exec_reel.specs.declared.view.Role.TheVariants.{Opener, Drawing, Drawn, Waiting, Working, Ended, Reading}
use Rattle.exec_reel.specs.declared.view.View.{View}
use Rattle.exec_reel.specs.Rule.{IsAmong, Board, KnowsAs, Knows, CursorLies, ShownPageLies, PageLies, Turns, Kept}
use Rattle.exec_reel.specs.Steps.{drawing, new_reader, with_page, ReaderTook}
use Rattle.exec_reel.proofs.Frame.{replaced, at_here, at_else, knows_role, knows_from, idle, still_works, page_stays, seats_know, added}
use Rattle.exec_reel.proofs.Among.{among_here, among_there, among_first, none_among}
use Rattle.exec_reel.proofs.LoadSteps.{loaded}

opener_not_reader : Opener ≡ Reading → ⊥
opener_not_reader e = cc

-- the split
module _ (k : Opening) (id : ℕ) (v : View) (s : State Cell View) (h : Kept k s) (at : get_elem? s.views id ≡ some v) (role : v.role ≡ Opener) where
  abbrev b : Board
  b = h.board

  abbrev b' : Board
  b' = record b { reader = some (length s.views) }

  mine : (b.drawer ≡ id) × (v.number ≡ b.counter) × (b.reader ≡ none)
  mine = knows_role v.role Opener b id v.number role (h.turns.seat id v at).role

  role_else : (r : Role) (i number : ℕ) → i ≢ id → KnowsAs r b i number → KnowsAs r b' i number
  role_else Opener i number n q = absurd (n (sym q.0 ∙ mine.0))
  role_else Drawing i number n q = q
  role_else Drawn i number n q = q
  role_else Waiting i number n q = q
  role_else (Working stage) i number n q = q
  role_else Ended i number n q = q
  role_else Reading i number n q = absurd (some-ne-none i (sym q ∙ mine.2))

  pub reader_split_kept : Kept k record { words = s.words; homes = s.homes; views = set s.views id (drawing v) ++ new_reader v ∷ [] }
  reader_split_kept =
      let w : View = drawing v in
      let views : List View = set s.views id w in
      let known = h.turns.seat id v at in
      let turns : Turns k.clip (page_total k.clip) b' s.homes views = record {
        bounds = h.turns.bounds;
        works = still_works b b' s.views id v w at h.turns.works (idle v.role Opener role tt) refl refl (λ ne. refl);
        cursor = h.turns.cursor;
        page = λ j lt. page_stays b b' s.views id v w at k.clip j (get_elem? s.homes j) (λ x m. m) refl refl refl (h.turns.page j lt);
        seat = seats_know b b' s.views id v w at k.clip h.turns.seat
            record { clip_is = known.clip_is; role = (mine.0, mine.1); shown = known.shown; taken = λ j m. absurd (opener_not_reader (sym role ∙ (known.taken j m).0)) }
            (λ i u n q. record { clip_is = q.clip_is; role = role_else u.role i u.number n q.role; shown = q.shown; taken = q.taken });
      } in
      record {
        board = b';
        few = h.few;
        words = h.words;
        homes = h.homes;
        turns = added k.clip (page_total k.clip) b' s.homes views (new_reader v) turns
            record { clip_is = known.clip_is; role = ap (λ (n : ℕ). some n) (sym (length-set s.views id w)); shown = known.shown; taken = λ j m. absurd (none_among m) };
      }

pub splits_reader : (k : Opening) (id : ℕ) (v : View) → v.role ≡ Opener → Splits (Kept k) id v (drawing v) (new_reader v)
splits_reader k id v role s h at = reader_split_kept k id v s h at role

-- the page
module _ (k : Opening) (id j : ℕ) (v : View) (s : State Cell View) (h : Kept k s) (at : get_elem? s.views id ≡ some v) (role : v.role ≡ Reading) (below : j < v.shown) (home : IsAmong j v.taken → ⊥) where
  abbrev old : Board
  old = h.board

  abbrev new : Board
  new = record old { taken = λ x. cond (x == j) (some id) (old.taken x) }

  abbrev w : ℕ → View
  w n = with_page j n v

  known : Knows k.clip old id v
  known = h.turns.seat id v at

  is_shown : j < old.pointer
  is_shown = let a = known.shown in omega arith

  is_page : j < page_total k.clip
  is_page = let a = is_shown in let b = h.turns.bounds.0 in let c = h.turns.bounds.1 in omega arith

  nobody's : (o : mathlib.Core.Option.Option ℕ) → old.taken j ≡ o → ShownPageLies k.clip s.views o j (get_elem? s.homes j) → (old.taken j ≡ none) × (get_elem? s.homes j ≡ some (some (Page (page_of k.clip j))))
  nobody's none e lies = (e, lies)
  nobody's (some i) e lies =
      let u = lies.1 in
      let its = h.turns.seat i u.0 u.1 in
      let reads = knows_role u.0.role Reading old i u.0.number (its.taken j u.2).0 its.role in
      let same : i ≡ id = some-injective i id (sym reads ∙ knows_role v.role Reading old id v.number role known.role) in
      absurd (home (subst (λ (x : View). IsAmong j x.taken) (some-injective u.0 v (sym u.1 ∙ ap (get_elem? s.views) same ∙ at)) u.2))

  pub lies_here : (old.taken j ≡ none) × (get_elem? s.homes j ≡ some (some (Page (page_of k.clip j))))
  lies_here = nobody's (old.taken j) refl ((h.turns.page j is_page).before is_shown)

  pub taken_kept : (n : ℕ) → Kept k record { words = set s.words 1 (slice_index s.words 1); homes = set s.homes j none; views = set s.views id (w n) }
  taken_kept n =
      let size = h.homes in
      let inside = is_page in
      record {
        board = new;
        few = h.few;
        words = loaded s.words old.counter old.pointer h.words;
        homes = length-set s.homes j none ∙ h.homes;
        turns = record {
          bounds = h.turns.bounds;
          works = still_works old new s.views id v (w n) at h.turns.works (idle v.role Reading role tt) refl refl (λ ne. refl);
          cursor = subst (λ x. CursorLies k.clip old.stage old.pointer x) (sym (set_else s.homes j (page_total k.clip) none (λ e. omega arith))) h.turns.cursor;
          page = λ x lt. dite (ℕ_discrete x j)
              (λ (e : x ≡ j). record {
                before = λ less. subst (λ o. ShownPageLies k.clip (set s.views id (w n)) o x (get_elem? (set s.homes j none) x)) (sym (at_here old.taken j x (some id) e))
                    (ap (get_elem? (set s.homes j none)) e ∙ set_here s.homes j none (omega arith), (w n, replaced s.views id (w n) v at, among_here x j v.taken (sym e)));
                here = λ p. let a = is_shown in absurd (omega arith);
                behind = λ less. let a = is_shown in absurd (omega arith);
              })
              (λ (ne : x ≢ j).
              subst (λ cell. PageLies k.clip new (set s.views id (w n)) x cell) (sym (set_else s.homes j x none ne))
              (page_stays old new s.views id v (w n) at k.clip x (get_elem? s.homes x) (λ y m. among_there y j v.taken m) refl refl (at_else old.taken j x (some id) ne) (h.turns.page x lt)));
          seat = seats_know old new s.views id v (w n) at k.clip h.turns.seat
              record {
                clip_is = known.clip_is;
                role = knows_from v.role Reading new id v.number role (knows_role v.role Reading old id v.number role known.role);
                shown = known.shown;
                taken = λ x m. ⊎_elim
                    (λ (e : j ≡ x). (role, let a = below in omega arith, at_here old.taken j x (some id) (sym e)))
                    (λ (m : IsAmong x v.taken). let t = known.taken x m in (role, t.1, at_else old.taken j x (some id) (λ e. home (subst (λ y. IsAmong y v.taken) e m)) ∙ t.2))
                    (among_first x j v.taken m);
              }
              (λ i u ne q. record {
                clip_is = q.clip_is;
                role = same_role u.role i u.number q.role;
                shown = q.shown;
                taken = λ x m. let t = q.taken x m in (t.0, t.1, at_else old.taken j x (some id) (λ e. some-ne-none i (sym t.2 ∙ ap old.taken e ∙ lies_here.0)) ∙ t.2);
              });
        };
      }
    where
      same_role : (r : Role) (i number : ℕ) → KnowsAs r old i number → KnowsAs r new i number
      same_role Opener i number q = q
      same_role Drawing i number q = q
      same_role Drawn i number q = q
      same_role Waiting i number q = q
      same_role (Working stage) i number q = q
      same_role Ended i number q = q
      same_role Reading i number q = q

pub reader_takes : (k : Opening) (slots id j : ℕ) (me : Me Cell View) → me.0.role ≡ Reading → j < me.0.shown → (IsAmong j me.0.taken → ⊥) → Allows (Kept k) slots id me 1 (λ n. n) (ReaderTook j (step slots 1 0 0 none) me)
reader_takes k slots id j me role below home s h size at fits =
    let n : ℕ = slice_index s.words 1 in (
      with_page j n me.0,
      takes j (Page (page_of k.clip j)),
      (lies_here k id j me.0 s h at role below home).1,
      taken_kept k id j me.0 s h at role below home n,
      ap (λ c. (with_page j n me.0, (j, Page (page_of c j)) ∷ me.1)) (sym (h.turns.seat id me.0 at).clip_is),
    )
