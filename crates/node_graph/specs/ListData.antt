-- What a contract sees of the list of an input, and when lists are those of a plan.
use Rattle.std.specs.Prelude.{◌≡◌, ◌≤◌, ◌^◌, ℕ, zero, suc, Bool, true, false, nat_lt, List, length, slice_get, slice_index_or, if◌then◌else◌, Option, None, Some, is_some}
use Rattle.std.specs.Option.{option_map}
use Rattle.bus_list.specs.declared.history.Entry.{Entry}
use Rattle.bus_list.specs.declared.both.Both.{Both}
use Rattle.bus_list.specs.ListViews.{history_of, buses_of_list}
use Rattle.bus_list.specs.Visits.{attached_feed}
use Rattle.scene_model.specs.declared.bus.Bus.{Bus}
use Rattle.scene_model.specs.PlanData.{PlanData}
use Rattle.scene_model.specs.Plans.{is_sound}
use Rattle.node_graph.specs.declared.feed.Feed.{Feed}
use Rattle.node_graph.specs.Attached.{count_of, is_attached}

-- for how many bus numbers the list was made, and all its edits, in order
pub record ListData : Type 0 where
  pub numbers : ℕ
  pub history : List (Entry Feed)

abbrev pub data_of : Both Feed → ListData
data_of list = record { numbers = buses_of_list list; history = history_of list }

-- where there are no buses, a list is made for one number
abbrev pub list_numbers : ℕ → ℕ
list_numbers zero = 1
list_numbers (suc n) = suc n

-- the output of that number as it stands in a list
abbrev pub feed_of : List Bus → ℕ → Option Feed
feed_of buses number = option_map (λ (b : Bus). record { bus = number; node = b.node; out = b.out }) (slice_get buses number)

-- each bus that is attached to that node stands in the list, with its feed, and no other bus does
pub record IsListOf (buses : List Bus) (node : ℕ) (list : ListData) : Type 0 where
  pub numbers_are : list.numbers ≡ list_numbers (length buses)
  pub each_is : (number : ℕ) → attached_feed list.history number ≡ (if is_attached buses node number then feed_of buses number else None)

-- A list counts its edits, up to that many. It is kept as long as it can count one more.
abbrev pub is_kept : ListData → Bool
is_kept list = nat_lt (length list.history) (2 ^ 62)

-- a sound has no list, and any other node and the endpoint have theirs, for as long as that is kept
pub record IsInputOf (p : PlanData) (node : ℕ) (input : Option ListData) : Type 0 where
  pub of_sound : is_sound p.nodes node ≡ true → input ≡ None
  pub of_other : is_sound p.nodes node ≡ false → (list : ListData) × (input ≡ Some list) × (is_kept list ≡ true → IsListOf p.buses node list)

-- each node and the endpoint have their place
pub record AreInputsOf (p : PlanData) (inputs : List (Option ListData)) : Type 0 where
  pub one_each : length inputs ≡ suc (length p.nodes)
  pub each_is : (node : ℕ) → node ≤ length p.nodes → IsInputOf p node (slice_index_or inputs node None)

-- no list has had more edits than that
abbrev pub HadAtMost : ℕ → List (Option ListData) → Type 0
HadAtMost most inputs =
    (node : ℕ) (list : ListData) → slice_index_or inputs node None ≡ Some list → length list.history ≤ most

-- the numbers are those of the buses that stand in a list, each once
abbrev pub AreListed : List (Entry Feed) → List ℕ → Type 0
AreListed history numbers = (number : ℕ) → count_of number numbers ≡ (if is_some (attached_feed history number) then 1 else 0)
