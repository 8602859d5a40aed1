-- The rules of an accepted problem are rules that a table is built for.
use Rattle.std.proofs.Common.{◌≡◌, ◌≢◌, ℕ, ◌≤◌, List, [], ◌∷◌, length, map, sum, Option, Some, None, sym, ap, ◌∙◌, subst, arith}
use Rattle.std.proofs.lemmas.List.{length-map}
use Rattle.alb_mono.specs.Listing.{Each}
use Rattle.alb_mono.specs.Tree.{Tree}
use Rattle.alb_poly.specs.Poly.{Poly}
use Rattle.alb_poly.specs.Instance.{IsHomogeneous}
use Rattle.alb_poly.specs.Consequence.{forms}
use Rattle.alb_linear.specs.Identity.{DegreeOne, leading_type, identity_fault, type_fault, degree_fault, other_term}
use Rattle.alb_linear.specs.declared.identity.Identity.{Identity}
use Rattle.alb_linear.proofs.LinearLemmas.{IsFit, identity-fits, degree-pos}
use Rattle.alb_problem.specs.Builder.{linear_form, IsKeptIdentity}
use Rattle.alb_problem.specs.Problem.{IsAccepted}
use Rattle.alb_problem.specs.declared.problem.Problem.{Problem}
use Rattle.alb_problem.proofs.AllVectors.{degree-type}
use Rattle.alb_table.specs.Right.{AreHigh}
use Rattle.alb_table.specs.RightTable.{rules_view, AreRules}

-- ---- the degree of an identity

not-one : (n : ℕ) → degree_fault n ≡ None → n ≢ 1
not-one n h is = let k : Some DegreeOne ≡ None = rw is at h in cc

no_type_fault : (e : List ℕ) (o : Option Tree) → type_fault e o ≡ None → degree_fault (sum e) ≡ None
no_type_fault e None h = h
no_type_fault e (Some m) h = absurd (cc)

pub identity-high : (f : Poly) → IsHomogeneous (leading_type f) f → identity_fault f ≡ None → 2 ≤ sum (leading_type f)
identity-high [] hom h = absurd (cc)
identity-high (t ∷ f) hom h =
    let ne : sum (leading_type (t ∷ f)) ≢ 1 = not-one (sum (leading_type (t ∷ f))) (no_type_fault (leading_type (t ∷ f)) (other_term (leading_type (t ∷ f)) f) h) in
    omega (arith, degree-type (leading_type (t ∷ f)) t.1 hom.0, degree-pos t.1, ne)

pub identity-low : (f : Poly) → identity_fault f ≡ None → sum (leading_type f) ≤ 8
identity-low f h = let fit : IsFit f = identity-fits f h in fit.small

-- ---- accepted problems

kept-high : (p : ℕ) (fs : List Identity) → Each (λ f. IsKeptIdentity p f.poly) fs → AreHigh (map (λ (f : Identity). linear_form p f.poly) fs)
kept-high p [] h = tt
kept-high p (f ∷ fs) h = (identity-high f.poly h.0.homogeneous h.0.no_fault, kept-high p fs h.1)

kept-low : (p : ℕ) (fs : List Identity) → Each (λ f. IsKeptIdentity p f.poly) fs → Each (λ f. f.degree ≤ 8) (map (λ (f : Identity). linear_form p f.poly) fs)
kept-low p [] h = tt
kept-low p (f ∷ fs) h = (identity-low f.poly h.0.no_fault, kept-low p fs h.1)

pub accepted-rules : (q : Problem) → IsAccepted q → AreRules (rules_view q.rules)
accepted-rules q a =
    let n : length (forms q.rules) ≡ length q.identities.items = ap length a.stand ∙ length-map q.identities.items _ in
    record {
      prime = a.prime;
      goal = record { positive = a.positive; some = a.some; small = a.low };
      linearized = a.linearized;
      high = subst AreHigh (sym a.stand) (kept-high q.rules.field q.identities.items a.kept);
      low = subst (Each (λ f. f.degree ≤ 8)) (sym a.stand) (kept-low q.rules.field q.identities.items a.kept);
      few = omega (arith, n, a.few);
    }
