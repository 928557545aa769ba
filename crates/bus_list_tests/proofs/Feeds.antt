-- What a test knows of a list, after an edit.
use Rattle.std.proofs.Common.{◌≡◌, ◌≢◌, ℕ, zero, suc, ◌<◌, List, [], ◌∷◌, ◌++◌, length, refl, sym, ap, ◌∙◌, arith, Some, length-set, get_or-set_same, get_or-set_other}
use Rattle.std.specs.Prelude.{slice_index, slice_set}
use Rattle.bus_list.specs.declared.history.Entry.{Entry}
use Rattle.bus_list.specs.declared.history.Entry.TheVariants.{On, Off}
use Rattle.bus_list.proofs.Visits.{feed_attached, feed_detached, feed_else}
use Rattle.bus_list.proofs.Chains.{cases}
use Rattle.bus_list_tests.specs.Feeds.{Knows, feed_at}

pub knows_on : (feeds : List ℕ) (h : List (Entry ℕ)) (c f : ℕ) → c < length feeds → 0 < f → Knows feeds h → Knows (slice_set feeds c f) (h ++ On c f ∷ [])
knows_on feeds h c f low some k b lt = cases b c
    (λ (e : b ≡ c). feed_attached h c f b e ∙ (some_is f some ∙ sym (ap feed_at (ap (λ x. slice_index (slice_set feeds c f) x) e ∙ get_or-set_same feeds c f 0 low))))
    (λ (n : b ≢ c). feed_else h (On c f) b n ∙ (k b (let s = length-set feeds c f in omega arith) ∙ sym (ap feed_at (get_or-set_other feeds c b f 0 n))))
  where
    some_is : (f : ℕ) → 0 < f → Some f ≡ feed_at f
    some_is zero lt = absurd (omega arith)
    some_is (suc n) lt = refl

pub knows_off : (feeds : List ℕ) (h : List (Entry ℕ)) (c : ℕ) → c < length feeds → Knows feeds h → Knows (slice_set feeds c 0) (h ++ Off c ∷ [])
knows_off feeds h c low k b lt = cases b c
    (λ (e : b ≡ c). feed_detached h c b e ∙ sym (ap feed_at (ap (λ x. slice_index (slice_set feeds c 0) x) e ∙ get_or-set_same feeds c 0 0 low)))
    (λ (n : b ≢ c). feed_else h (Off c) b n ∙ (k b (let s = length-set feeds c 0 in omega arith) ∙ sym (ap feed_at (get_or-set_other feeds c b 0 0 n))))
