use Rattle.std.proofs.Common.{◌≡◌, [], arith}
use Rattle.alb_reduce.specs.Echelon.{kept_rows}
use Rattle.alb_reduce.proofs.EchelonLemmas.{form_pivots}
use Rattle.alb_reduce.proofs.echelon.Echelon.close.Goals as goal

pub all_rows-requires-clause-rows : goal.all_rows-requires-clause-rows
all_rows-requires-clause-rows c =
    let h = c.self.invariant.ready.held.echelon in
    rw (c.deref-2.ensures.value, c.deref-3.ensures.value, c.deref-4.ensures.value) (λ k l. (h.residues k [] (omega (arith, l, h.long))).row)

pub invariant_of-result : goal.invariant_of-result
invariant_of-result c =
    let kept = c.self.inside.kept in
    let rows : c.in_ok-rows.rows.items ≡ kept_rows kept = rw (c.deref-2.ensures.value, c.deref-3.ensures.value, c.deref-4.ensures.value) at c.in_ok-rows.ensures in
    record {
      form = record {
        recipes = kept.recipes.items;
        state = rw rows c.self.invariant.state;
        items_are = rw c.deref-5.ensures.value at c.in_ok-recipes.ensures;
        are_pivots = rw rows (form_pivots _ c.self.inside.columns _ _ _ c.self.invariant.state.kept
            (c.in_ok-pivots.ensures kept.pivots.items (rw (← c.deref.ensures.value) at c.self.invariant.ready.held.index)));
      };
      index = c.self.invariant.ready.held.index;
    }
