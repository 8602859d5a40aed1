use Rattle.std.proofs.Common.{◌≡◌, ◌≢◌, ℕ, ◌<◌, ◌∙◌, length, get_or, Some, sym, ap, arith}
use Rattle.std.proofs.lemmas.List.{length-map, get_or_default}
use Rattle.std.proofs.Math.ListN.{get_or-map}
use Rattle.std.proofs.lemmas.Bool.{false≢true}
use Rattle.alb_mono.specs.Tree.{Tree, type_of}
use Rattle.alb_poly.specs.Terms.{term, terms}
use Rattle.alb_linear.proofs.IdentityLemmas.{other_found, other_more}
use Rattle.alb_linear.proofs.identity.other_place.Goals as goal

pub returns-then-not-is_same-clause-found : goal.returns-then-not-is_same-clause-found
returns-then-not-is_same-clause-found c = λ d.
    let t : ℕ × Tree = term c.index-list-k.result in
    let lt : c.loop-k.k < length (terms c.args.list.now) = omega (arith, length-map c.args.list.now term) in
    let q : t ≡ get_or (terms c.args.list.now) c.loop-k.k t = ap term c.index-list-k.is ∙ sym (get_or-map term c.args.list.now c.loop-k.k c.index-list-k.result) in
    let ne : type_of 26 t.1 ≢ c.args.e.now =
    λ h. absurd (false≢true (sym c.if-not-is_same.true ∙ c.is_same.ensures.1 (c.type_of.ensures ∙ h))) in
    other_found c.args.e.now (terms c.args.list.now) c.loop-k.k t lt q ne c.loop-k.invariant
    ∙ ap (λ (u : ℕ × Tree). Some u.1) (q ∙ get_or_default (terms c.args.list.now) c.loop-k.k t d lt)

pub loop-k-preserved : goal.loop-k-preserved
loop-k-preserved c =
    let t : ℕ × Tree = term c.index-list-k.result in
    let lt : c.loop-k.k < length (terms c.args.list.now) = omega (arith, length-map c.args.list.now term) in
    let q : t ≡ get_or (terms c.args.list.now) c.loop-k.k t = ap term c.index-list-k.is ∙ sym (get_or-map term c.args.list.now c.loop-k.k c.index-list-k.result) in
    let s : type_of 26 t.1 ≡ c.args.e.now = sym c.type_of.ensures ∙ c.is_same.ensures.0 c.if-not-is_same.false in
    other_more c.args.e.now (terms c.args.list.now) c.loop-k.k t lt q s c.loop-k.invariant
