use Rattle.alb_reduce.proofs.StateLemmas.{pivots_below}
use Rattle.alb_reduce.proofs.reduced.Reduced.pivots.Goals as goal

pub returns-clause-below : goal.returns-clause-below
returns-clause-below c =
    rw (← c.self.view_is, c.deref.ensures.value) (pivots_below _ _ _ _ c.self.invariant.form.state.kept.narrow c.self.invariant.form.are_pivots)
