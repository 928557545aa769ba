-- A visit that goes from bus to bus, and the numbers that it gives.
use Rattle.std.proofs.Common.{◌≡◌, ℕ, zero, suc, ◌+◌, ◌<◌, Bool, true, false, cond, List, [], ◌∷◌, ◌++◌, length, refl, sym, ◌∙◌, ap, subst, arith, length-append}
use Rattle.std.specs.Prelude.{◌==◌}
use Rattle.std.proofs.lemmas.Bool.{eq-eqb, eqb-true, eqb-false, ne_eqb}
use Rattle.std.proofs.lemmas.List.{map-append}
use Rattle.bus_list.specs.declared.history.Entry.{Entry}
use Rattle.bus_list.specs.declared.pass.Pass.{Pass}
use Rattle.bus_list.specs.declared.visit.Visit.{Visit}
use Rattle.bus_list.specs.PassStates.{unwalked}
use Rattle.bus_list.specs.PassViews.{is_visiting, visits_of, start_of, list_of_pass, buses_of_pass, given_of, visit_until, Next, HasEnded, Gave}
use Rattle.bus_list.specs.Visits.{has, Distinct, buses_of, Lawful, LawfulFrom}
use Rattle.bus_list.proofs.ExactVisits.{exact_buses}
use Rattle.bus_list.proofs.Unwalked.{unwalked_less}
use Rattle.node_graph.specs.declared.feed.Feed.{Feed}
use Rattle.node_graph.specs.Attached.{count_of}
use Rattle.node_graph.specs.ListData.{AreListed}
use Rattle.node_graph.specs.Walks.{IsWalk}
use Rattle.node_graph.proofs.Counting.{one_if, one_more, no_more}

-- ---- each number once

count_distinct : (xs : List ℕ) (k : ℕ) → Distinct xs → count_of k xs ≡ one_if (has k xs)
count_distinct [] k apart = refl
count_distinct (x ∷ xs) k apart = by_test (k == x) refl (count_distinct xs k apart.1)
  where
    by_test : (t : Bool) → (k == x) ≡ t → count_of k xs ≡ one_if (has k xs) → count_of k (x ∷ xs) ≡ one_if (cond t true (has k xs))
    by_test true e rest =
        let same : k ≡ x = eqb-true k x e in
        let none : has k xs ≡ false = ap (λ (j : ℕ). has j xs) same ∙ apart.0 in
        one_more k x xs (eq-eqb x k (sym same)) ∙ ap (λ (n : ℕ). 1 + n) (rest ∙ ap one_if none)
    by_test false e rest =
        no_more k x xs (ne_eqb x k (λ same. eqb-false k x e (sym same))) ∙ rest

-- a whole visit under which no edit came gave each bus that stands in the list once
pub whole_visit : (h : List (Entry Feed)) (v : Visit Feed) (later : ℕ) (numbers : List ℕ) → v.whole ≡ true → numbers ≡ buses_of v.pairs → LawfulFrom h (length h) (v ∷ []) later → AreListed h numbers
whole_visit h v later numbers whole written lawful k =
    let l : Lawful h v = lawful.1 in
    let at : v.from ≡ length h = (let order = l.order in let within = l.within in let first = lawful.0 in omega arith) in
    ap (count_of k) written ∙ count_distinct (buses_of v.pairs) k l.apart ∙ ap one_if (exact_buses h v l at whole k)

-- the same of what a walk leaves, once the sides are joined
pub walked_visit : (h joined : List (Entry Feed)) (start later : ℕ) (visits : List (Visit Feed)) (v : Visit Feed) (numbers : List ℕ) → joined ≡ h → start ≡ length h → visits ≡ v ∷ [] → v.whole ≡ true → numbers ≡ buses_of v.pairs → LawfulFrom joined start visits later → AreListed h numbers
walked_visit h joined start later visits v numbers same first one whole written lawful =
    whole_visit h v later numbers whole written
    (subst (λ (k : List (Entry Feed)). LawfulFrom k (length h) (v ∷ []) later) same
    (subst (λ (n : ℕ). LawfulFrom joined n (v ∷ []) later) first
    (subst (λ (vs : List (Visit Feed)). LawfulFrom joined start vs later) one lawful)))

-- ---- from bus to bus

pub unwalked_none : (n : ℕ) → unwalked n [] ≡ n
unwalked_none zero = refl
unwalked_none (suc n) = omega (arith, unwalked_none n)

-- The numbers are those of the buses that the open visit of the pass gave.
pub record IsWalking (before now : Pass Feed) (numbers : List ℕ) : Type 0 where
  pub visiting : is_visiting now ≡ true
  pub visits_are : visits_of now ≡ []
  pub start_is : start_of now ≡ start_of before
  pub list_is : list_of_pass now ≡ list_of_pass before
  pub buses_are : buses_of_pass now ≡ buses_of_pass before
  pub left : length numbers + unwalked (buses_of_pass before) numbers ≡ buses_of_pass before
  pub numbers_are : numbers ≡ buses_of (given_of now)

-- the walk begins where a visit begins
pub walk_begins : (before p : Pass Feed) (numbers : List ℕ) → numbers ≡ [] → is_visiting p ≡ true → given_of p ≡ [] → visits_of p ≡ [] → start_of p ≡ start_of before → list_of_pass p ≡ list_of_pass before → buses_of_pass p ≡ buses_of_pass before → IsWalking before p numbers
walk_begins before p numbers none visiting given visits start list buses = record {
  visiting = visiting;
  visits_are = visits;
  start_is = start;
  list_is = list;
  buses_are = buses;
  left = omega (arith, ap length none, ap (unwalked (buses_of_pass before)) none ∙ unwalked_none (buses_of_pass before));
  numbers_are = none ∙ sym (ap (λ (ps : List (ℕ × Feed)). buses_of ps) given);
}

-- a bus that was not given before leaves one fewer to be given
fewer_left : (before p q : Pass Feed) (bus : ℕ) (feed : Feed) (numbers : List ℕ) → IsWalking before p numbers → Next p q → Gave p q bus feed → unwalked (buses_of_pass before) (numbers ++ bus ∷ []) + 1 ≡ unwalked (buses_of_pass before) numbers
fewer_left before p q bus feed numbers w next gave =
    unwalked_less (buses_of_pass before) bus numbers (subst (λ (n : ℕ). bus < n) (next.list.1 ∙ w.buses_are) gave.low) (ap (has bus) w.numbers_are ∙ gave.new)

-- there is room for it
pub walk_room : (before p q : Pass Feed) (bus : ℕ) (feed : Feed) (numbers : List ℕ) → IsWalking before p numbers → Next p q → Gave p q bus feed → length numbers < buses_of_pass before
walk_room before p q bus feed numbers w next gave =
    let left = w.left in omega (arith, fewer_left before p q bus feed numbers w next gave)

-- the walk goes on by one bus
pub walks_on : (before p q : Pass Feed) (bus : ℕ) (feed : Feed) (numbers : List ℕ) → IsWalking before p numbers → Next p q → Gave p q bus feed → IsWalking before q (numbers ++ bus ∷ [])
walks_on before p q bus feed numbers w next gave = record {
  visiting = next.visiting;
  visits_are = next.visits ∙ w.visits_are;
  start_is = next.start ∙ w.start_is;
  list_is = next.list.0 ∙ w.list_is;
  buses_are = next.list.1 ∙ w.buses_are;
  left = (let left = w.left in omega (arith, fewer_left before p q bus feed numbers w next gave, length-append numbers (bus ∷ [])));
  numbers_are = ap (λ (ns : List ℕ). ns ++ bus ∷ []) w.numbers_are ∙ sym (map-append (λ (x : ℕ × Feed). x.0) (given_of p) ((bus, feed) ∷ [])) ∙ sym (ap (λ (ps : List (ℕ × Feed)). buses_of ps) gave.given);
}

-- and one bus fewer is left
pub walks_less : (before p q : Pass Feed) (bus : ℕ) (feed : Feed) (numbers : List ℕ) → IsWalking before p numbers → Next p q → Gave p q bus feed → unwalked (buses_of_pass before) (numbers ++ bus ∷ []) < unwalked (buses_of_pass before) numbers
walks_less before p q bus feed numbers w next gave =
    omega (arith, fewer_left before p q bus feed numbers w next gave)

-- at the end of the list the visit ends
pub walk_ends : (before p q r : Pass Feed) (until : ℕ) (numbers : List ℕ) → IsWalking before p numbers → Next p q → HasEnded p q → is_visiting r ≡ false → visits_of r ≡ visits_of q ++ visit_until q until ∷ [] → start_of r ≡ start_of q → list_of_pass r ≡ list_of_pass q → IsWalk before r numbers
walk_ends before p q r until numbers w next ended shut visits start list = record {
  shut = shut;
  list_is = list ∙ next.list.0 ∙ w.list_is;
  start_is = start ∙ next.start ∙ w.start_is;
  visit = visit_until q until;
  visits_are = visits ∙ ap (λ (vs : List (Visit Feed)). vs ++ visit_until q until ∷ []) (next.visits ∙ w.visits_are);
  whole = ended.whole;
  numbers_are = w.numbers_are ∙ sym (ap (λ (ps : List (ℕ × Feed)). buses_of ps) ended.given);
  few = (let left = w.left in omega arith);
}
