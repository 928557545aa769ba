-- What a visit from the first bus of a list to its end leaves.
use Rattle.std.specs.Prelude.{◌≡◌, ◌≤◌, ℕ, true, false, List, [], ◌∷◌, length}
use Rattle.bus_list.specs.declared.pass.Pass.{Pass}
use Rattle.bus_list.specs.declared.visit.Visit.{Visit}
use Rattle.bus_list.specs.PassViews.{is_visiting, visits_of, start_of, list_of_pass, buses_of_pass}
use Rattle.bus_list.specs.Visits.{buses_of}
use Rattle.node_graph.specs.declared.feed.Feed.{Feed}

-- the pass made one visit, which came to the end, and the numbers are those of its buses
pub record IsWalk (before after : Pass Feed) (numbers : List ℕ) : Type 0 where
  pub shut : is_visiting after ≡ false
  pub list_is : list_of_pass after ≡ list_of_pass before
  pub start_is : start_of after ≡ start_of before
  pub visit : Visit Feed
  pub visits_are : visits_of after ≡ visit ∷ []
  pub whole : visit.whole ≡ true
  pub numbers_are : numbers ≡ buses_of visit.pairs
  pub few : length numbers ≤ buses_of_pass before
