-- The point that the walker keeps.
use Rattle.rate_fit.proofs.Walks.{walk_point, walk_inside}
use Rattle.rate_fit.proofs.walker.Walker.next.Goals as goal

pub returns-clause-point : goal.returns-clause-point
returns-clause-point c =
    rw (← c.self.view_is) (walk_point _ _ _ _ _ _ c.self.invariant c.if-self.false)

pub returns-clause-inside : goal.returns-clause-inside
returns-clause-inside c =
    rw (← c.self.view_is) (walk_inside _ _ _ _ _ _ c.self.invariant c.if-self.false)
