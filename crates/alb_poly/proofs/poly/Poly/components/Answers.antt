use Rattle.std.proofs.Common.{◌≡◌, ◌∙◌, ◌-◌, ◌++◌, [], ◌∷◌, true, All, sym, ap, arith, subst}
use Rattle.alb_mono.specs.Tree.{tree, are_below, type_of}
use Rattle.alb_mono.proofs.Leaves.{length-type_of}
use Rattle.alb_poly.specs.Poly.{IsDescending}
use Rattle.alb_poly.specs.Terms.{terms}
use Rattle.alb_poly.proofs.PartLemmas.{Parted, letters_at, descending-slice, parted-more}
use Rattle.alb_poly.proofs.poly.Poly.components.Goals as goal

pub type_of-at-requires-clause-known : goal.type_of-at-requires-clause-known
type_of-at-requires-clause-known c =
    let ts = c.as_slice-list.result.now in
    let e : terms ts ≡ c.args.self.now = ap terms c.as_slice-list.ensures.value ∙ c.self.view_is in
    letters_at c.args.gens ts (subst (λ f. All (λ t. are_below c.args.gens t.1 ≡ true) f) (sym e) c.requires.known) (c.loop-end.end - 1) c.index-list-end.result
    (omega (arith, c.loop-end.invariant.within))

pub run_start-start-requires-clause-long : goal.run_start-start-requires-clause-long
run_start-start-requires-clause-long c = rw c.type_of-at.ensures (length-type_of c.args.gens _)

pub invariant_of-push : goal.invariant_of-push
invariant_of-push c =
    let ts = c.as_slice-list.result.now in
    let d : IsDescending (terms ts) = subst (λ x. IsDescending (terms x)) (sym c.as_slice-list.ensures.value) c.self.invariant in
    subst (λ f. IsDescending f) (sym c.in_ok-part.ensures)
    (descending-slice ts c.run_start-start.result (c.loop-end.end - c.run_start-start.result) d)

pub loop-end-preserved : goal.loop-end-preserved
loop-end-preserved c =
    let n = c.args.gens in
    let ts = c.as_slice-list.result.now in
    let e : terms ts ≡ c.args.self.now = ap terms c.as_slice-list.ensures.value ∙ c.self.view_is in
    let d : IsDescending (terms ts) = subst (λ x. IsDescending (terms x)) (sym c.as_slice-list.ensures.value) c.self.invariant in
    let l : All (λ t. are_below n t.1 ≡ true) (terms ts) = subst (λ f. All (λ t. are_below n t.1 ≡ true) f) (sym e) c.requires.known in
    let more = parted-more n ts c.requires.few l d c.loop-end.end c.run_start-start.result c.type_of-at.result c.index-list-end.result c.loop-end.out.items
    c.loop-end.invariant c.loop-end-test.true (c.type_of-at.ensures ∙ ap (λ u. type_of n (tree u.mono)) (sym c.index-list-end.is)) c.index-list-end.is c.run_start-start.ensures in
    subst (λ v. Parted n ts c.run_start-start.result v)
    (ap (λ f. c.loop-end.out.items ++ (c.type_of-at.result, f) ∷ []) (sym c.in_ok-part.ensures) ∙ sym c.in_ok-push.ensures.items) more
