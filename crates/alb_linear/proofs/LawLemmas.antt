-- What breaks no rule is a homogeneous identity, and the other way round.
use Rattle.std.proofs.Common.{◌≡◌, ◌≢◌, ℕ, ◌%◌, ◌≤◌, ◌==◌, true, false, List, [], ◌∷◌, length, sum, Option, Some, None, refl, ap, ◌∙◌, subst, arith, ltb}
use Rattle.std.proofs.lemmas.Bool.Decides.{nat_tests}
use Rattle.gf_sums.specs.Sums.{coefficient, IsCanonical}
use Rattle.alb_mono.specs.Listing.{Each}
use Rattle.alb_mono.proofs.ListingLemmas.{each-weaker}
use Rattle.alb_mono.specs.Tree.{Tree, degree, type_of, AreBelow, cmp_monos, same_tree}
use Rattle.alb_mono.proofs.Leaves.{sum-type_of}
use Rattle.alb_poly.specs.Poly.{Poly, list_eq}
use Rattle.alb_poly.specs.Instance.{HasType, IsHomogeneous}
use Rattle.alb_poly.proofs.Types.{list_eq-itself, has_type-is, has_type-whole}
use Rattle.alb_poly.proofs.Terms.{canonical-nonzero, of_terms}
use Rattle.alb_linear.specs.Identity.{leading_type, other_term, type_fault, degree_fault, identity_fault, DegreeOne}
use Rattle.alb_linear.specs.Laws.{IsHomogeneousIdentity}
use Rattle.alb_linear.proofs.LinearLemmas.{IsFit, identity-fits, homogeneous, same_type, length-leading, degree-pos, test_from_below}

not-one : (n : ℕ) → degree_fault n ≡ None → n ≢ 1
not-one n h e = absurd (let k : Some DegreeOne ≡ None = subst (λ z. degree_fault z ≡ None) e h in cc)

leading-low : (f : Poly) → Each (λ t. AreBelow 26 t.1) f → identity_fault f ≡ None → 2 ≤ sum (leading_type f)
leading-low [] b h = absurd (cc)
leading-low (t ∷ f) b h =
    let s : sum (type_of 26 t.1) ≡ degree t.1 = sum-type_of 26 t.1 (test_from_below 26 t.1 b.0) in
    let ne : sum (type_of 26 t.1) ≢ 1 = not-one (sum (type_of 26 t.1)) (no_type_fault (type_of 26 t.1) (other_term (type_of 26 t.1) f) h) in
    omega (arith, s, degree-pos t.1, ne)
  where
    no_type_fault : (e : List ℕ) (o : Option Tree) → type_fault e o ≡ None → degree_fault (sum e) ≡ None
    no_type_fault e None h = h
    no_type_fault e (Some m) h = absurd (cc)

pub accepted : (p : ℕ) (f : Poly) → IsCanonical cmp_monos p f → Each (λ t. AreBelow 26 t.1) f → identity_fault f ≡ None → (e : List ℕ) × IsHomogeneousIdentity p e f
accepted p [] c b h = absurd (cc)
accepted p (t ∷ f) c b h =
    let fit : IsFit (t ∷ f) = identity-fits (t ∷ f) h in
    let e : List ℕ = type_of 26 t.1 in (
      e,
      record {
        letters = length-leading (t ∷ f) fit.nonzero;
        occurs = t.1;
        nonzero = (canonical-nonzero p (t ∷ f) c).0;
        homogeneous = of_terms (HasType e) p (t ∷ f) (omega (arith, c.1)) (homogeneous e (t ∷ f) b (same_type e (t ∷ f) fit.one_type));
        low = leading-low (t ∷ f) b h;
        high = fit.small;
      },
    )

type-is : (e : List ℕ) (m : Tree) → length e ≡ 26 → HasType e m → type_of 26 m ≡ e
type-is e m n h = has_type-is 26 e m n (has_type-whole e m h)

none-other : (e : List ℕ) (f : Poly) → length e ≡ 26 → IsHomogeneous e f → other_term e f ≡ None
none-other e [] n h = refl
none-other e (t ∷ f) n h =
    let q : list_eq (type_of 26 t.1) e ≡ true = ap (λ z. list_eq z e) (type-is e t.1 n h.0) ∙ list_eq-itself e in
    rw q (none-other e f n h.1)

no-degree-fault : (n : ℕ) → 2 ≤ n → n ≤ 8 → degree_fault n ≡ None
no-degree-fault n low high =
    let a : (n == 1) ≡ false = grind (arith, nat_tests) in
    let b : ltb 8 n ≡ false = grind (arith, nat_tests) in rw (a, b)

nonzero-types : (p : ℕ) (e : List ℕ) (whole f : Poly) → ((m : Tree) → coefficient same_tree whole m % p ≢ 0 → HasType e m) →
    Each (λ t. coefficient same_tree whole t.1 % p ≢ 0) f → IsHomogeneous e f
nonzero-types p e whole f h k = each-weaker (λ t. coefficient same_tree whole t.1 % p ≢ 0) (λ t. HasType e t.1) f (λ t ne. h t.1 ne) k

pub accepts : (p : ℕ) (e : List ℕ) (f : Poly) → IsCanonical cmp_monos p f → IsHomogeneousIdentity p e f → identity_fault f ≡ None
accepts p e [] c h = absurd (h.nonzero (omega arith))
accepts p e (t ∷ f) c h =
    let hom : IsHomogeneous e (t ∷ f) = nonzero-types p e (t ∷ f) (t ∷ f) h.homogeneous (canonical-nonzero p (t ∷ f) c) in
    rw (type-is e t.1 h.letters hom.0, none-other e f h.letters hom.1) (no-degree-fault (sum e) h.low h.high)
