use Rattle.snd_tools.proofs.Outcomes.{counted, meets, tells}
use Rattle.snd_tools.proofs.view_tool.run_view.Goals as goal

pub returns-clause-told : goal.returns-clause-told
returns-clause-told g c = λ before told.
    let work = c.carry_out-came_to.ensures.told before told in
    let prints = c.print_outcome.ensures.prints in
    (work.0, prints.0, work.1, prints.1, meets _ before work.0 prints.0 _ _ c.carry_out-came_to.result c.print_outcome.result work.2 prints.2)

pub returns-clause-text : goal.returns-clause-text
returns-clause-text g c =
    let prints = c.print_outcome.ensures.prints in
    (prints.0, prints.1, tells prints.0 _ c.carry_out-came_to.result c.print_outcome.result c.carry_out-came_to.ensures.line prints.2)

pub returns-clause-depot_count : goal.returns-clause-depot_count
returns-clause-depot_count g c =
    let prints = c.print_outcome.ensures.prints in
    counted prints.0 _ _ _ c.carry_out-came_to.result c.print_outcome.result c.carry_out-came_to.ensures.cause prints.2
