-- What an edit that is done changes in the lists of the inputs.
use Rattle.std.specs.Prelude.{◌≡◌, ◌<◌, ℕ, true, if◌then◌else◌, length, List, [], ◌∷◌, ◌++◌, Option, None, Some, IfSome, is_some, position, slice_index_or, slice_set}
use Rattle.std.specs.Option.{option_map}
use Rattle.bus_list.specs.declared.history.Entry.{Entry}
use Rattle.bus_list.specs.declared.history.Entry.TheVariants.{On, Off}
use Rattle.bus_list.specs.Visits.{attached_feed}
use Rattle.scene_model.specs.declared.bus.Bus.{Bus}
use Rattle.scene_model.specs.declared.edit.Edit.{Edit}
use Rattle.scene_model.specs.declared.edit.Edit.TheVariants.{Attach, Detach, SetGain, Start, Stop, From, Until, Seek, Loop}
use Rattle.scene_model.specs.Wiring.{is_output, target}
use Rattle.node_graph.specs.declared.feed.Feed.{Feed}
use Rattle.node_graph.specs.declared.list_changes.ListChange.{ListChange}
use Rattle.node_graph.specs.declared.list_changes.ListChange.TheVariants.{Attached, Detached, Unchanged}
use Rattle.node_graph.specs.ListData.{ListData, is_kept}

-- the number of an output among all buses
abbrev pub number_of : List Bus → ℕ → ℕ → Option ℕ
number_of buses node out = position (is_output node out) buses

-- an output is attached, where it is the bus of that number
abbrev pub attachment : ℕ → ℕ → ℕ → Option ℕ → ListChange
attachment node out to None = Unchanged
attachment node out to (Some bus) = Attached (record { bus = bus; node = node; out = out }) to

-- by the number of the bus and the node to which it is attached
abbrev pub detachment : Option ℕ → Option ℕ → ListChange
detachment None from = Unchanged
detachment (Some bus) None = Unchanged
detachment (Some bus) (Some from) = Detached bus from

-- an attach puts the bus into the list of its new target, and a detach takes it out of that of its target so far
abbrev pub list_change : List Bus → Edit → ListChange
list_change buses (Attach node out to) = attachment node out to (number_of buses node out)
list_change buses (Detach node out) = detachment (number_of buses node out) (target buses node out)
list_change buses (SetGain node out gain) = Unchanged
list_change buses (Start node) = Unchanged
list_change buses (Stop node) = Unchanged
list_change buses (From node value) = Unchanged
list_change buses (Until node value) = Unchanged
list_change buses (Seek node place) = Unchanged
list_change buses (Loop node on) = Unchanged

-- the list with one edit more, where it is still kept
abbrev pub with_edit : Entry Feed → ListData → ListData
with_edit edit list = if is_kept list then record list { history = list.history ++ edit ∷ [] } else list

-- the lists after a change
abbrev pub changed : List (Option ListData) → ListChange → List (Option ListData)
changed inputs (Attached feed to) = slice_set inputs to (option_map (with_edit (On feed.bus feed)) (slice_index_or inputs to None))
changed inputs (Detached bus from) = slice_set inputs from (option_map (with_edit (Off bus)) (slice_index_or inputs from None))
changed inputs Unchanged = inputs

-- the list has a number for the bus, which isn't attached
pub record CanAttach (bus : ℕ) (list : ListData) : Type 0 where
  pub bus_is : bus < list.numbers
  pub off : attached_feed list.history bus ≡ None

-- the same of a bus that is attached
pub record CanDetach (bus : ℕ) (list : ListData) : Type 0 where
  pub bus_is : bus < list.numbers
  pub on : is_some (attached_feed list.history bus) ≡ true

-- the input is there, and where it has a list that is kept, that can be changed so
abbrev pub CanChange : List (Option ListData) → ListChange → Type 0
CanChange inputs (Attached feed to) =
    (to < length inputs) × IfSome (slice_index_or inputs to None) (λ list. is_kept list ≡ true → CanAttach feed.bus list)
CanChange inputs (Detached bus from) =
    (from < length inputs) × IfSome (slice_index_or inputs from None) (λ list. is_kept list ≡ true → CanDetach bus list)
CanChange inputs Unchanged = Unit {0}
