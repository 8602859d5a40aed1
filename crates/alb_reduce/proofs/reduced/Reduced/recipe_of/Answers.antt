use Rattle.std.proofs.Common.{◌≡◌, refl, rules, true}
use Rattle.std.proofs.lemmas.Bool.{false≢true}
use Rattle.alb_reduce.proofs.EchelonLemmas.{no_pivot}
use Rattle.alb_reduce.proofs.LaneLemmas.{items_read}
use Rattle.alb_reduce.proofs.StateLemmas.{found_pivot, form_recipe, items_long}
use Rattle.alb_reduce.proofs.reduced.Reduced.recipe_of.Goals as goal

pub returns-in-None-clause-exactly : goal.returns-in-None-clause-exactly
returns-in-None-clause-exactly c =
    let none = c.in-None.ensures c.self.inside.order.items (rw (← c.deref.ensures.value) at c.self.invariant.index) in
    rw (← c.self.view_is) (λ e. absurd (false≢true e), λ w. absurd (no_pivot _ _ _ _ c.self.invariant.form.state.kept.echelon none w.1))

pub returns-in-Some-clause-exactly : goal.returns-in-Some-clause-exactly
returns-in-Some-clause-exactly c =
    let found = c.in-Some.ensures c.self.inside.order.items (rw (← c.deref.ensures.value) at c.self.invariant.index) in
    let keeps : c.self.inside.keep_recipes ≡ true = search rules in
    rw (← c.self.view_is) (λ e. (keeps, found_pivot _ _ _ _ c.in-Some.k c.self.invariant.form.state.kept.echelon found.0 found.1), λ is. refl)

pub returns-in-Some-clause-recipe : goal.returns-in-Some-clause-recipe
returns-in-Some-clause-recipe c =
    let found = c.in-Some.ensures c.self.inside.order.items (rw (← c.deref.ensures.value) at c.self.invariant.index) in
    let keeps : c.self.inside.keep_recipes ≡ true = search rules in
    rw (← c.self.view_is) (form_recipe _ _ _ _ _ c.in-Some.k _ c.self.invariant.form keeps found.0 found.1
    (items_read (λ v. v.items) c.self.inside.recipes.items c.in-Some.k _ _
    (items_long _ _ _ _ _ _ (λ v. v.items) c.self.inside.recipes.items _ c.in-Some.k c.self.invariant.form found.0) c.deref-in-Some.ensures.value c.index.ensures))
