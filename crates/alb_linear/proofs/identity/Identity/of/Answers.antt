use Rattle.std.proofs.Common.{◌≡◌, ◌<◌, ℕ, ◌∙◌, length, slice_index_or, Some, sym, ap, arith}
use Rattle.std.proofs.lemmas.List.{length-map}
use Rattle.alb_poly.specs.Terms.{term}
use Rattle.alb_mono.specs.Tree.{Tree, leaf}
use Rattle.alb_linear.specs.Identity.{leading_type, other_term, type_fault}
use Rattle.alb_linear.proofs.IdentityLemmas.{fault-nonzero}
use Rattle.alb_linear.proofs.identity.Identity.of.Goals as goal

pub returns-in-Some : goal.returns-in-Some
returns-in-Some c =
    let d : ℕ × Tree = (0, leaf 0) in
    let n : 0 < length c.args.poly = omega (arith, c.in-Some.ensures.none, length-map c.terms-3.result.now term, ap length c.terms-3.ensures.value) in
    let a : c.leading_type-e.result ≡ leading_type c.args.poly = c.leading_type-e.ensures ∙ ap leading_type c.terms-2.ensures.value in
    let b : other_term (leading_type c.args.poly) c.args.poly ≡ Some (slice_index_or c.args.poly c.in-Some.k d).1 = rw (a, c.terms-3.ensures.value) at (c.in-Some.ensures.found d) in
    fault-nonzero c.args.poly n ∙ ap (type_fault (leading_type c.args.poly)) (b ∙ ap Some (sym (c.taken-term.ensures d)))
