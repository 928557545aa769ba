-- The lists of a plan can be changed by an edit that is done.
use Rattle.std.proofs.Common.{◌≡◌, ℕ, ◌≤◌, Bool, true, false, List, length, get_or, Option, Some, None, refl, sym, ◌∙◌, ap, subst, arith}
use Rattle.std.specs.Prelude.{◌==◌, IfSome}
use Rattle.std.specs.Option.{option_map_or}
use Rattle.std.proofs.lemmas.Bool.{eq-eqb}
use Rattle.scene_model.specs.declared.bus.Bus.{Bus}
use Rattle.scene_model.specs.declared.edit.Edit.{Edit}
use Rattle.scene_model.specs.declared.edit.Edit.TheVariants.{Attach, Detach, SetGain, Start, Stop, From, Until, Seek, Loop}
use Rattle.scene_model.specs.IsPlan.{IsPlan, names_nodes}
use Rattle.scene_model.specs.PlanData.{PlanData}
use Rattle.scene_model.specs.Plans.{reply, is_done}
use Rattle.scene_model.specs.Wiring.{target}
use Rattle.scene_model.proofs.Steps.{no_bus}
use Rattle.node_graph.specs.Attached.{leads_to, is_attached}
use Rattle.node_graph.specs.ListData.{ListData, feed_of, is_kept, IsInputOf, AreInputsOf}
use Rattle.node_graph.specs.ListChanges.{number_of, attachment, detachment, list_change, CanAttach, CanDetach, CanChange}
use Rattle.node_graph.proofs.Feeds.{if_listed, input_list, listed_some, numbers_least}
use Rattle.node_graph.proofs.ListsKept.{target_named, target_within, free_to_attach}
use Rattle.node_graph.proofs.Wired.{numbered}

if_some : (P : ListData → Type 0) (o : Option ListData) → ((list : ListData) → o ≡ Some list → P list) → IfSome o P
if_some P None each = tt
if_some P (Some list) each = each list refl

can_attach : (p : PlanData) (node out to : ℕ) (inputs : List (Option ListData)) → to ≤ length p.nodes → target p.buses node out ≡ None → AreInputsOf p inputs → (o : Option ℕ) → number_of p.buses node out ≡ o → CanChange inputs (attachment node out to o)
can_attach p node out to inputs within free are None e = tt
can_attach p node out to inputs within free are (Some k) e =
    let one = are.one_each in
    (omega arith, if_some (λ (list : ListData). is_kept list ≡ true → CanAttach k list) (get_or inputs to None) each)
  where
    each : (list : ListData) → get_or inputs to None ≡ Some list → is_kept list ≡ true → CanAttach k list
    each list is kept =
        let b = get_or p.buses k no_bus in
        let number = numbered p.buses node out k e in
        let w = input_list p to list kept (subst (λ (o : Option ListData). IsInputOf p to o) is (are.each_is to within)) in
        let nowhere : b.to ≡ None = sym number.target_is ∙ free in
        let off : is_attached p.buses to k ≡ false = ap (λ (o : Option Bus). option_map_or (leads_to to) o false) number.at ∙ ap (λ (o : Option ℕ). option_map_or (λ (m : ℕ). m == to) o false) nowhere in
        record {
          bus_is = (let numbers = w.numbers_are in let within = number.within in omega (arith, numbers_least (length p.buses)));
          off = w.each_is k ∙ ap (λ (t : Bool). if_listed t (feed_of p.buses k)) off;
        }

can_detach : (p : PlanData) (node out : ℕ) (inputs : List (Option ListData)) → IsPlan p → AreInputsOf p inputs → (o : Option ℕ) → number_of p.buses node out ≡ o → (t : Option ℕ) → target p.buses node out ≡ t → CanChange inputs (detachment o t)
can_detach p node out inputs plan are None e t f = tt
can_detach p node out inputs plan are (Some k) e None f = tt
can_detach p node out inputs plan are (Some k) e (Some from) f =
    let one = are.one_each in
    let within = target_within p node out k from plan e f in
    (omega arith, if_some (λ (list : ListData). is_kept list ≡ true → CanDetach k list) (get_or inputs from None) (each within))
  where
    each : from ≤ length p.nodes → (list : ListData) → get_or inputs from None ≡ Some list → is_kept list ≡ true → CanDetach k list
    each within list is kept =
        let b = get_or p.buses k no_bus in
        let number = numbered p.buses node out k e in
        let w = input_list p from list kept (subst (λ (o : Option ListData). IsInputOf p from o) is (are.each_is from within)) in
        let there : b.to ≡ Some from = sym number.target_is ∙ f in
        let on : is_attached p.buses from k ≡ true = ap (λ (o : Option Bus). option_map_or (leads_to from) o false) number.at ∙ ap (λ (o : Option ℕ). option_map_or (λ (m : ℕ). m == from) o false) there ∙ eq-eqb from from refl in
        record {
          bus_is = (let numbers = w.numbers_are in let low = number.within in omega (arith, numbers_least (length p.buses)));
          on = listed_some p.buses from k list w ∙ on;
        }

pub can_change : (p : PlanData) (e : Edit) (inputs : List (Option ListData)) → IsPlan p → names_nodes (length p.nodes) e ≡ true → is_done (reply p e) ≡ true → AreInputsOf p inputs → CanChange inputs (list_change p.buses e)
can_change p (Attach node out to) inputs w named d are =
    can_attach p node out to inputs (target_named p node out to named) (free_to_attach p node out to d) are (number_of p.buses node out) refl
can_change p (Detach node out) inputs w named d are =
    can_detach p node out inputs w are (number_of p.buses node out) refl (target p.buses node out) refl
can_change p (SetGain node out gain) inputs w named d are = tt
can_change p (Start node) inputs w named d are = tt
can_change p (Stop node) inputs w named d are = tt
can_change p (From node value) inputs w named d are = tt
can_change p (Until node value) inputs w named d are = tt
can_change p (Seek node place) inputs w named d are = tt
can_change p (Loop node on) inputs w named d are = tt
