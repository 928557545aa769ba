-- What a contract sees of a plan: its nodes and all their output buses, each in the order of their numbers.
use Rattle.std.specs.Prelude.{List}
use Rattle.scene_model.specs.declared.bus.Bus.{Bus}
use Rattle.scene_model.specs.declared.node_state.NodeState.{NodeState}

pub record PlanData : Type 0 where
  pub nodes : List NodeState
  pub buses : List Bus
