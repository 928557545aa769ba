use Rattle.std.proofs.Common.{◌≡◌, true, vec_len}
use Rattle.std.specs.List.{list_all}
use Rattle.scene_model.specs.IsScene.{is_resource}
use Rattle.engine_tests.proofs.random_rows.resources.Given as goal

abbrev pub invariant-loop : goal.invariant-loop
invariant-loop l = record {
  are_resources : list_all is_resource l.resources.items ≡ true;
  count : vec_len l.resources ≡ l.counter;
}
