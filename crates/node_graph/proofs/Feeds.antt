-- The feeds of buses, and the lists in which they stand.
use Rattle.std.proofs.Common.{◌≡◌, ℕ, zero, suc, ◌<◌, ◌≤◌, Bool, true, false, List, [], ◌∷◌, ◌++◌, length, get_or, Option, Some, None, is_some, refl, sym, ◌∙◌, ap, subst, arith}
use Rattle.std.specs.Prelude.{◌==◌, if◌then◌else◌, slice_get}
use Rattle.std.specs.Option.{option_map, option_map_or}
use Rattle.std.proofs.lemmas.Bool.{and_parts, eqb-true, false≢true}
use Rattle.std.proofs.lemmas.Option.{none-some, same_Some, slice_get-get_or, slice_get-map}
use Rattle.bus_list.specs.declared.history.Entry.{Entry}
use Rattle.bus_list.specs.Visits.{attached_feed}
use Rattle.scene_model.specs.declared.bus.Bus.{Bus}
use Rattle.scene_model.specs.PlanData.{PlanData}
use Rattle.scene_model.specs.Plans.{is_sound}
use Rattle.scene_model.specs.Wiring.{is_output, bus_with_target, with_target, bus_with_gain, with_gain}
use Rattle.node_graph.specs.declared.feed.Feed.{Feed}
use Rattle.node_graph.specs.Attached.{leads_to, is_attached}
use Rattle.node_graph.specs.ListChanges.{with_edit}
use Rattle.node_graph.specs.ListData.{ListData, feed_of, list_numbers, is_kept, IsListOf, IsInputOf}

-- the same of what is read at a bus's number
abbrev feed_at : ℕ → Option Bus → Option Feed
feed_at number o = option_map (λ (b : Bus). record { bus = number; node = b.node; out = b.out }) o

-- a feed that stands in a list, or does not
abbrev pub if_listed : Bool → Option Feed → Option Feed
if_listed t o = if t then o else None

pub feed_target : (node out : ℕ) (to : Option ℕ) (buses : List Bus) (k : ℕ) → feed_of (with_target node out to buses) k ≡ feed_of buses k
feed_target node out to buses k =
    ap (feed_at k) (slice_get-map (bus_with_target node out to) buses k) ∙ by_read (slice_get buses k)
  where
    by_test : (t : Bool) (b : Bus) → feed_at k (Some (if t then record b { to = to } else b)) ≡ feed_at k (Some b)
    by_test true b = refl
    by_test false b = refl

    by_read : (o : Option Bus) → feed_at k (option_map (bus_with_target node out to) o) ≡ feed_at k o
    by_read None = refl
    by_read (Some b) = by_test (is_output node out b) b

pub feed_gain : (node out gain : ℕ) (buses : List Bus) (k : ℕ) → feed_of (with_gain node out gain buses) k ≡ feed_of buses k
feed_gain node out gain buses k =
    ap (feed_at k) (slice_get-map (bus_with_gain node out gain) buses k) ∙ by_read (slice_get buses k)
  where
    by_test : (t : Bool) (b : Bus) → feed_at k (Some (if t then record b { gain = gain } else b)) ≡ feed_at k (Some b)
    by_test true b = refl
    by_test false b = refl

    by_read : (o : Option Bus) → feed_at k (option_map (bus_with_gain node out gain) o) ≡ feed_at k o
    by_read None = refl
    by_read (Some b) = by_test (is_output node out b) b

of_output : ℕ → ℕ → ℕ → Option Feed
of_output bus node out = Some (record { bus = bus; node = node; out = out })

pub feed_own : (buses : List Bus) (node out k : ℕ) (b : Bus) → slice_get buses k ≡ Some b → is_output node out b ≡ true → feed_of buses k ≡ Some (record { bus = k; node = node; out = out })
unfolding of_output
feed_own buses node out k b at is =
    let parts = and_parts (b.node == node) (b.out == out) is in
    ap (feed_at k) at ∙ ap (λ (n : ℕ). of_output k n b.out) (eqb-true b.node node parts.0) ∙ ap (of_output k node) (eqb-true b.out out parts.1)

pub feed_here : (buses : List Bus) (i : ℕ) (d : Bus) → i < length buses → feed_of buses i ≡ Some (record { bus = i; node = (get_or buses i d).node; out = (get_or buses i d).out })
feed_here buses i d within = ap (feed_at i) (slice_get-get_or buses i d within)

-- an attached bus has a feed
pub attached_some : (buses : List Bus) (node k : ℕ) → is_some (if_listed (is_attached buses node k) (feed_of buses k)) ≡ is_attached buses node k
attached_some buses node k = by_read (slice_get buses k)
  where
    by_test : (t : Bool) (b : Bus) → is_some (if_listed t (feed_at k (Some b))) ≡ t
    by_test true b = refl
    by_test false b = refl

    by_read : (o : Option Bus) → is_some (if_listed (option_map_or (leads_to node) o false) (feed_at k o)) ≡ option_map_or (leads_to node) o false
    by_read None = refl
    by_read (Some b) = by_test (leads_to node b) b

pub listed_some : (buses : List Bus) (node k : ℕ) (list : ListData) → IsListOf buses node list → is_some (attached_feed list.history k) ≡ is_attached buses node k
listed_some buses node k list w =
    ap (λ (o : Option Feed). is_some o) (w.each_is k) ∙ attached_some buses node k

pub numbers_least : (n : ℕ) → n ≤ list_numbers n
numbers_least zero = omega arith
numbers_least (suc n) = omega arith

-- what has a list is no sound, and the list is that of its node
pub input_list : (p : PlanData) (node : ℕ) (list : ListData) → is_kept list ≡ true → IsInputOf p node (Some list) → IsListOf p.buses node list
input_list p node list kept w = by_test (is_sound p.nodes node) refl
  where
    by_test : (t : Bool) → is_sound p.nodes node ≡ t → IsListOf p.buses node list
    by_test true e = absurd (none-some list (sym (w.of_sound e)))
    by_test false e =
        let s = w.of_other e in
        let same : s.0 ≡ list = sym (same_Some list s.0 s.1) in
        subst (λ (l : ListData). IsListOf p.buses node l) same (s.2 (ap is_kept same ∙ kept))

-- a list that is kept grows by an edit
pub grown : (entry : Entry Feed) (list : ListData) → is_kept list ≡ true → with_edit entry list ≡ record list { history = list.history ++ entry ∷ [] }
grown entry list kept = ap (λ (t : Bool). if t then record list { history = list.history ++ entry ∷ [] } else list) kept

-- what makes a list that is kept the right one makes it so where it is still kept after an edit
pub edit_kept : (P Q : ListData → Type 0) (entry : Entry Feed) (list : ListData) → (is_kept list ≡ true → P list) → (P list → Q (record list { history = list.history ++ entry ∷ [] })) → is_kept (with_edit entry list) ≡ true → Q (with_edit entry list)
edit_kept P Q entry list known step = by_test (is_kept list) refl
  where
    by_test : (t : Bool) → is_kept list ≡ t → is_kept (if t then record list { history = list.history ++ entry ∷ [] } else list) ≡ true → Q (if t then record list { history = list.history ++ entry ∷ [] } else list)
    by_test true e still = step (known e)
    by_test false e still = absurd (false≢true (sym e ∙ still))
