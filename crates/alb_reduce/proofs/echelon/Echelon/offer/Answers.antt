use Rattle.std.proofs.Common.{refl}
use Rattle.alb_reduce.proofs.EchelonLemmas.{adds_pivot}
use Rattle.alb_reduce.proofs.StateLemmas.{first_recipe, state_after, span_after, dependent_after, new_after}
use Rattle.alb_reduce.proofs.echelon.Echelon.offer.Goals as goal

pub invariant_of-result : goal.invariant_of-result
invariant_of-result c = record {
  state = state_after _ _ _ _ _ _ _ c.args.tag c.args.row _ _ c.self.invariant.state c.in_ok-note_offer.ensures (rw (← c.self.view_is) at c.requires.new_tag)
      (rw (← c.self.view_is) at c.requires.columns_in) (first_recipe _ _ _ _ c.from.ensures c.in_ok-recipe.ensures.value) c.in_ok-offered.ensures.keeps;
  ready = c.in_ok-offered.ensures.ready;
}

pub returns-clause-span : goal.returns-clause-span
returns-clause-span c = rw (← c.self.view_is) (span_after _ _ _ _ _ _ c.in_ok-offered.ensures.keeps)

pub returns-clause-dependent : goal.returns-clause-dependent
returns-clause-dependent c = rw (← c.self.view_is) (dependent_after _ _ _ _ _ _ c.in_ok-offered.ensures.keeps)

pub returns-clause-pivot : goal.returns-clause-pivot
returns-clause-pivot c column e =
    rw (← c.self.view_is) (adds_pivot _ _ _ _ _ _ refl c.self.invariant.state.kept.echelon (new_after _ _ _ _ _ _ column e c.in_ok-offered.ensures.keeps))
