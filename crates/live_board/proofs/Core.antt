-- What each step leaves true of the words, the lock, the mixer and the hands.
use Rattle.std.proofs.Common.{◌≡◌, ◌≢◌, ℕ, zero, suc, ◌+◌, ◌<◌, ◌≤◌, Bool, true, false, List, [], ◌∷◌, ◌++◌, length, get_or, set, refl, sym, ap, ◌∙◌, subst, arith, length-append, true≢false}
use Rattle.std.proofs.lemmas.List.{length-set, get_or-set_same, get_or-set_other}
use Rattle.std.proofs.lemmas.List.Sums.{fold-append}
use Rattle.std.proofs.lemmas.List.{take-append-le}
use Rattle.std.proofs.Math.Seq.{take-length}
use mathlib.Core.Logic.{dite}
use native.Mathlib.Decide.{ℕ_discrete}
use Rattle.std.specs.Prelude.{slice_index}
use Rattle.live_board.specs.declared.view.Reading.{Reading}
use Rattle.live_board.specs.declared.view.LockView.{LockView}
use Rattle.live_board.specs.declared.view.MixView.{MixView}
use Rattle.live_board.specs.declared.view.HandView.{HandView}
use Rattle.mix_model.specs.Readings.{Stood, IsLawfulReading}
use Rattle.live_board.specs.Rule.{words_set, dial_after, reading_data, AreLawful, last_until, BoardWords, Core, uncounted}

pub length-words_set : (dials : List ℕ) (history : List (ℕ × ℕ)) → length (words_set dials history) ≡ length dials
length-words_set dials [] = refl
length-words_set dials (e ∷ es) = length-words_set (set dials e.0 e.1) es ∙ length-set dials e.0 e.1

pub words_set-snoc : (dials : List ℕ) (history : List (ℕ × ℕ)) (i n : ℕ) → words_set dials (history ++ (i, n) ∷ []) ≡ set (words_set dials history) i n
words_set-snoc dials history i n = fold-append (λ (ds : List ℕ) (e : ℕ × ℕ). set ds e.0 e.1) dials history ((i, n) ∷ [])

-- what stood in a window did so when the history grows and the window ends later
pub stood_grows : (dials : List ℕ) (history more : List (ℕ × ℕ)) (from until later i word : ℕ) → until ≤ later → Stood (dial_after dials history i) from until (length history) word
    → Stood (dial_after dials (history ++ more) i) from later (length (history ++ more)) word
stood_grows dials history more from until later i word le w =
    let h : w.count ≤ length history = w.within.within in
    let u = w.within.until_most in
    record {
      count = w.count;
      within = record { from_least = w.within.from_least; until_most = omega arith; within = omega (arith, length-append history more) };
      word_is = w.word_is ∙ ap (λ (es : List (ℕ × ℕ)). get_or (words_set dials es) i 0) (sym (take-append-le w.count history more h));
    }

pub lawful_grows : (dials : List ℕ) (history more : List (ℕ × ℕ)) (r : Reading) → IsLawfulReading (dial_after dials history) (length history) (length dials) (reading_data r)
    → IsLawfulReading (dial_after dials (history ++ more)) (length (history ++ more)) (length dials) (reading_data r)
lawful_grows dials history more r l = record {
  window = record { in_order = l.window.in_order; within = let h = l.window.within in omega (arith, length-append history more) };
  length_is = l.length_is;
  words_are = λ i b. stood_grows dials history more r.from r.until r.until i _ (omega arith) (l.words_are i b);
}

pub all_grow : (dials : List ℕ) (history more : List (ℕ × ℕ)) (least : ℕ) (rs : List Reading) → AreLawful dials history least rs → AreLawful dials (history ++ more) least rs
all_grow dials history more least [] h = tt
all_grow dials history more least (r ∷ rs) h = (h.0, lawful_grows dials history more r h.1, all_grow dials history more r.until rs h.2)

pub all_snoc : (dials : List ℕ) (history : List (ℕ × ℕ)) (least : ℕ) (rs : List Reading) (r : Reading) → AreLawful dials history least rs → last_until least rs ≤ r.from
    → IsLawfulReading (dial_after dials history) (length history) (length dials) (reading_data r) → AreLawful dials history least (rs ++ r ∷ [])
all_snoc dials history least [] r h le l = (le, l, tt)
all_snoc dials history least (q ∷ rs) r h le l = (h.0, h.1, all_snoc dials history q.until rs r h.2 le l)

pub last_snoc : (least : ℕ) (rs : List Reading) (r : Reading) → last_until least (rs ++ r ∷ []) ≡ r.until
last_snoc least [] r = refl
last_snoc least (q ∷ rs) r = last_snoc q.until rs r

-- the word after the whole history stood within the window, where the present count is at most one behind
pub stood_now : (dials : List ℕ) (history : List (ℕ × ℕ)) (from count i word : ℕ) → from ≤ count → count ≤ length history → length history ≤ suc count → word ≡ get_or (words_set dials history) i 0
    → Stood (dial_after dials history i) from count (length history) word
stood_now dials history from count i word f c l e = record {
  count = length history;
  within = record { from_least = omega arith; until_most = l; within = omega arith };
  word_is = e ∙ ap (λ (es : List (ℕ × ℕ)). get_or (words_set dials es) i 0) (sym (take-length history));
}

-- what stood in a window did so in one that ends later
pub stood_later : (word_after : ℕ → ℕ) (from until later entries word : ℕ) → until ≤ later → Stood word_after from until entries word → Stood word_after from later entries word
stood_later word_after from until later entries word le s = record {
  count = s.count;
  within = record { from_least = s.within.from_least; until_most = let u = s.within.until_most in omega arith; within = s.within.within };
  word_is = s.word_is;
}

-- a dial is stored
pub core_dial : (w x : BoardWords) (d : LockView) (m : MixView) (h : ℕ → HandView) (i n : ℕ) → Core w d m h → d.stored ≡ false → n ≤ get_or m.most i 0 → i < length d.opening
    → x.dial i ≡ n → ((j : ℕ) → j ≢ i → x.dial j ≡ w.dial j) → x.count ≡ w.count → ((e : ℕ) → x.told e ≡ w.told e) → ((e : ℕ) → x.booked e ≡ w.booked e)
    → Core x (record d { history = d.history ++ (i, n) ∷ []; stored = true }) m h
core_dial w x d m h i n c not little lt here else count told booked =
    let same : w.count ≡ length d.history = omega (arith, c.board.count, ap uncounted not) in
    record {
      board = record {
        dials = λ j b. dite (ℕ_discrete j i)
            (λ e. ap x.dial e ∙ here ∙ sym (get_or-set_same (words_set d.opening d.history) i n 0 (let l = length-words_set d.opening d.history in omega arith)) ∙ ap (λ (k : ℕ). get_or (set (words_set d.opening d.history) i n) k 0) (sym e) ∙ ap (λ (ds : List ℕ). get_or ds j 0) (sym (words_set-snoc d.opening d.history i n)))
            (λ ne. else j ne ∙ c.board.dials j b ∙ sym (get_or-set_other (words_set d.opening d.history) i j n 0 ne) ∙ ap (λ (ds : List ℕ). get_or ds j 0) (sym (words_set-snoc d.opening d.history i n)));
        count = omega (arith, count, same, length-append d.history ((i, n) ∷ []));
        in_range = λ j b. dite (ℕ_discrete j i) (λ e. subst (λ (y : ℕ). x.dial y ≤ get_or m.most y 0) (sym e) (rw here little)) (λ ne. rw (else j ne) (c.board.in_range j b));
      };
      mix = record {
        readings = all_grow d.opening d.history ((i, n) ∷ []) 0 m.readings c.mix.readings;
        ended = let z = c.mix.ended in omega (arith, count);
        now = λ o. let p = c.mix.now o in (p.0, omega (arith, p.1, count), p.2, λ j b. stood_grows d.opening d.history ((i, n) ∷ []) m.from w.count x.count j _ (omega (arith, count)) (p.3 j b));
      };
      hands = λ e. let y = c.hands e in record { told = told e ∙ y.told; small = y.small; booked = booked e ∙ y.booked; rest = y.rest; rest_is = y.rest_is; one = y.one; found_most = y.found_most; heard = y.heard };
    }

-- the count is stored
pub core_count : (w x : BoardWords) (d : LockView) (m : MixView) (h : ℕ → HandView) → Core w d m h → d.stored ≡ true
    → ((j : ℕ) → x.dial j ≡ w.dial j) → x.count ≡ length d.history → ((e : ℕ) → x.told e ≡ w.told e) → ((e : ℕ) → x.booked e ≡ w.booked e)
    → Core x (record d { stored = false }) m h
core_count w x d m h c is dial count told booked =
    let was : w.count + 1 ≡ length d.history = omega (arith, c.board.count, ap uncounted is) in
    record {
      board = record { dials = λ j b. dial j ∙ c.board.dials j b; count = omega (arith, count); in_range = λ j b. rw (dial j) (c.board.in_range j b) };
      mix = record {
        readings = c.mix.readings;
        ended = let z = c.mix.ended in omega (arith, count);
        now = λ o. let p = c.mix.now o in (p.0, omega (arith, p.1, count), p.2, λ j b. stood_later (dial_after d.opening d.history j) m.from w.count x.count (length d.history) _ (omega (arith, count)) (p.3 j b));
      };
      hands = λ e. let y = c.hands e in record { told = told e ∙ y.told; small = y.small; booked = booked e ∙ y.booked; rest = y.rest; rest_is = y.rest_is; one = y.one; found_most = y.found_most; heard = y.heard };
    }

-- a visit of the board begins
pub core_begin : (w : BoardWords) (d : LockView) (m : MixView) (h : ℕ → HandView) → Core w d m h → (x : MixView) → x.most ≡ m.most → x.readings ≡ m.readings → x.words ≡ [] → x.from ≡ w.count → Core w d x h
core_begin w d m h c x most rs ws from = record {
  board = rw most c.board;
  mix = record {
    readings = subst (λ (l : List Reading). AreLawful d.opening d.history 0 l) (sym rs) c.mix.readings;
    ended = rw rs c.mix.ended;
    now = λ _. (
      rw (rs, from) c.mix.ended,
      omega (arith, from),
      rw ws (omega arith),
      rw ws (λ j b. absurd (omega arith)),
    );
  };
  hands = c.hands;
}

-- a dial is loaded
pub core_read : (w : BoardWords) (d : LockView) (m : MixView) (h : ℕ → HandView) (n : ℕ) → Core w d m h → m.reads ≡ true → length m.words < length d.opening → n ≡ w.dial (length m.words)
    → (x : MixView) → x.most ≡ m.most → x.readings ≡ m.readings → x.words ≡ m.words ++ n ∷ [] → x.from ≡ m.from → Core w d x h
core_read w d m h n c o lt is x most rs ws from =
    let p = c.mix.now o in
    let cnt = c.board.count in
    let one : uncounted d.stored ≤ 1 = at_most d.stored in
    record {
      board = rw most c.board;
      mix = record {
        readings = subst (λ (l : List Reading). AreLawful d.opening d.history 0 l) (sym rs) c.mix.readings;
        ended = rw rs c.mix.ended;
        now = λ _. (
          rw (rs, from) p.0,
          rw from p.1,
          rw ws (omega (arith, length-append m.words (n ∷ []))),
          rw (ws, from) (λ j b. dite (ℕ_discrete j (length m.words))
              (λ e. subst (λ (k : ℕ). Stood (dial_after d.opening d.history k) m.from w.count (length d.history) (slice_index (m.words ++ n ∷ []) k)) (sym e)
              (stood_now d.opening d.history m.from w.count (length m.words) _ p.1 (omega arith) (omega arith) (at_end m.words n ∙ is ∙ c.board.dials (length m.words) lt)))
              (λ ne. let before : j < length m.words = omega (arith, length-append m.words (n ∷ []), b, ne) in
              subst (λ (y : ℕ). Stood (dial_after d.opening d.history j) m.from w.count (length d.history) y) (sym (at_front m.words n j before)) (p.3 j before))),
        );
      };
      hands = c.hands;
    }
  where
    at_most : (b : Bool) → uncounted b ≤ 1
    at_most true = omega arith
    at_most false = omega arith

    at_end : (l : List ℕ) (n : ℕ) → slice_index (l ++ n ∷ []) (length l) ≡ n
    at_end [] n = refl
    at_end (y ∷ ys) n = at_end ys n

    at_front : (l : List ℕ) (n j : ℕ) → j < length l → slice_index (l ++ n ∷ []) j ≡ slice_index l j
    at_front [] n j b = absurd (omega arith)
    at_front (y ∷ ys) n zero b = refl
    at_front (y ∷ ys) n (suc j) b = at_front ys n j (omega arith)

-- a visit of the board ends
pub core_end : (w : BoardWords) (d : LockView) (m : MixView) (h : ℕ → HandView) → Core w d m h → m.reads ≡ true → length m.words ≡ length d.opening
    → (x : MixView) → x.most ≡ m.most → x.readings ≡ m.readings ++ (record { from = m.from; until = w.count; words = m.words }) ∷ [] → x.reads ≡ false → Core w d x h
core_end w d m h c o all x most rs off =
    let p = c.mix.now o in
    let cnt = c.board.count in
    record {
      board = rw most c.board;
      mix = record {
        readings = subst (λ (l : List Reading). AreLawful d.opening d.history 0 l) (sym rs)
            (all_snoc d.opening d.history 0 m.readings (record { from = m.from; until = w.count; words = m.words }) c.mix.readings p.0 (record { window = record { in_order = p.1; within = omega arith }; length_is = all; words_are = p.3 }));
        ended = rw rs (omega (arith, last_snoc 0 m.readings (record { from = m.from; until = w.count; words = m.words })));
        now = λ on. absurd (true≢false (sym on ∙ off));
      };
      hands = c.hands;
    }
