-- A visit of the board that goes on.
use Rattle.std.proofs.Common.{◌≡◌, ℕ, suc, ◌+◌, ◌<◌, ◌≤◌, List, [], ◌∷◌, ◌++◌, length, set, sym, ap, ◌∙◌, subst, arith, append_assoc, true, get_or}
use Rattle.std.proofs.lemmas.List.{get_or-set_same, get_or-set_other}
use mathlib.Core.Logic.{dite}
use native.Mathlib.Decide.{ℕ_discrete}
use Rattle.live_board.specs.declared.view.View.{View}
use Rattle.live_board.specs.declared.view.Note.{Note}
use Rattle.live_board.specs.declared.view.Note.TheVariants.{Count, Dial}
use Rattle.live_board.specs.Steps.{dial_read, dial_notes, reading_so_far}

notes_snoc : (i : ℕ) (ws : List ℕ) (n : ℕ) → dial_notes i (ws ++ n ∷ []) ≡ dial_notes i ws ++ Dial (i + length ws) n ∷ []
notes_snoc i [] n = ap (λ (k : ℕ). Dial k n ∷ []) (omega arith)
notes_snoc i (w ∷ ws) n = ap (λ (l : List Note). Dial i w ∷ l) (notes_snoc (suc i) ws n) ∙ ap (λ (k : ℕ). Dial i w ∷ (dial_notes (suc i) ws ++ Dial k n ∷ [])) (omega arith)

pub read_more : (f n i : ℕ) (ws : List ℕ) (v : View) → length ws ≡ i → dial_read i n (reading_so_far f ws v) ≡ reading_so_far f (ws ++ n ∷ []) v
read_more f n i ws v len = ap (λ (l : List Note). record v { mixing = record v.mixing { reads = true; from = f; words = ws ++ n ∷ []; notes = l } })
    (append_assoc v.mixing.notes (Count f ∷ dial_notes 0 ws) (Dial i n ∷ []) ∙ ap (λ (k : ℕ). v.mixing.notes ++ Count f ∷ (dial_notes 0 ws ++ Dial k n ∷ [])) (omega arith) ∙ ap (λ (l : List Note). v.mixing.notes ++ Count f ∷ l) (sym (notes_snoc 0 ws n)))

-- the words so far are in their ranges when the next one is put behind them
pub in_range_set : (out most : List ℕ) (i j n : ℕ) → i < length out → j < i + 1 → ((k : ℕ) → k < i → get_or out k 0 ≤ get_or most k 0) → n ≤ get_or most i 0 → get_or (set out i n) j 0 ≤ get_or most j 0
in_range_set out most i j n lt before were is = dite (ℕ_discrete j i)
    (λ e. subst (λ (k : ℕ). get_or (set out i n) k 0 ≤ get_or most k 0) (sym e) (rw (get_or-set_same out i n 0 lt) is))
    (λ ne. rw (get_or-set_other out i j n 0 ne) (were j (omega (arith, ne))))
