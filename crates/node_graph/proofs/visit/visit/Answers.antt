use Rattle.std.proofs.Common.{◌∙◌}
use Rattle.bus_list.specs.ListViews.{history_of, history_of_editor}
use Rattle.bus_list.specs.PassViews.{start_of, visits_of, last_count_of}
use Rattle.node_graph.proofs.Walked.{walked_visit}
use Rattle.node_graph.proofs.visit.visit.Goals as goal

pub returns-clause-listed : goal.returns-clause-listed
returns-clause-listed c =
    let walk = c.walk.ensures.walk in
    let pass = c.walk.new.pass in
    walked_visit (history_of c.args.list) (history_of_editor c.split-editor.result.0) (start_of pass) (last_count_of pass) (visits_of pass) walk.visit c.walk.new.numbers.items
    c.split-editor.ensures.history (walk.start_is ∙ c.split-editor.ensures.pass.2) walk.visits_are walk.whole walk.numbers_are c.join.ensures.lawful
