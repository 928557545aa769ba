-- The list that a stage reads for a node is that of the buses that are attached there.
use Rattle.std.proofs.Common.{◌≡◌, ℕ, ◌≤◌, true, false, List, length, get_or, take, Option, Some, None, sym, ◌∙◌, ap, arith}
use Rattle.std.specs.Prelude.{IfSome, IsPermutation}
use Rattle.std.specs.Option.{option_map_or}
use Rattle.std.proofs.lemmas.List.{get_or_default, length-take-le}
use Rattle.plain_data.proofs.Lists.{IfSome-at}
use Rattle.scene_model.specs.declared.bus.Bus.{Bus}
use Rattle.scene_model.specs.PlanData.{PlanData}
use Rattle.scene_model.specs.Plans.{is_sound}
use Rattle.node_graph.specs.Attached.{attached, is_attached, count_of}
use Rattle.node_graph.specs.ListData.{ListData, is_kept, IsListOf, AreInputsOf, AreListed}
use Rattle.node_graph.proofs.Counting.{one_if, listed, length-listed}
use Rattle.node_graph.proofs.Feeds.{listed_some}

-- the input that is read for a node with an input has that node's list
pub list_read : (p : PlanData) (inputs : List (Option ListData)) (node : ℕ) (input : Option ListData) → AreInputsOf p inputs → node ≤ length p.nodes → is_sound p.nodes node ≡ false → input ≡ get_or inputs node input → option_map_or is_kept input false ≡ true → (list : ListData) × (input ≡ Some list) × IsListOf p.buses node list
list_read p inputs node input are within other read kept =
    let one = are.one_each in
    let own = (are.each_is node within).of_other other in
    let is : input ≡ Some own.0 = read ∙ get_or_default inputs node input None (omega arith) ∙ own.1 in
    (own.0, is, own.2 (sym (ap (λ (o : Option ListData). option_map_or is_kept o false) is) ∙ kept))

-- what is listed there is what is attached
pub listed_attached : (buses : List Bus) (node : ℕ) (list : ListData) (input : Option ListData) (numbers : List ℕ) → input ≡ Some list → IsListOf buses node list → IfSome input (λ (l : ListData). AreListed l.history numbers) → (k : ℕ) → count_of k numbers ≡ one_if (is_attached buses node k)
listed_attached buses node list input numbers is w listed k =
    IfSome-at (λ (l : ListData). AreListed l.history numbers) input list is listed k ∙ ap one_if (listed_some buses node k list w)

-- what was written to the front of a slice is what is attached, in another order
pub written : (buses : List Bus) (node count : ℕ) (into new : List ℕ) → count ≤ length into → length new ≡ length into → ((k : ℕ) → count_of k (take count new) ≡ one_if (is_attached buses node k)) → (count ≡ length (attached buses node)) × IsPermutation (attached buses node) (take count new)
written buses node count into new within long each =
    (sym (length-take-le count new (omega arith)) ∙ length-listed buses node (take count new) each, listed buses node (take count new) each)

-- so it is where the list of the node was visited
pub list_written : (p : PlanData) (inputs : List (Option ListData)) (node count : ℕ) (input : Option ListData) (into new : List ℕ) → AreInputsOf p inputs → node ≤ length p.nodes → is_sound p.nodes node ≡ false → input ≡ get_or inputs node input → option_map_or is_kept input false ≡ true → IfSome input (λ (l : ListData). AreListed l.history (take count new)) → count ≤ length into → length new ≡ length into
    → (count ≡ length (attached p.buses node)) × IsPermutation (attached p.buses node) (take count new)
list_written p inputs node count input into new are within other read kept listed few long =
    let own = list_read p inputs node input are within other read kept in
    written p.buses node count into new few long (listed_attached p.buses node own.0 input (take count new) own.1 own.2 listed)
