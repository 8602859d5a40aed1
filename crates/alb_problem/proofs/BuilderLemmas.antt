-- What a builder's parts say of the problem that it gives.
use Rattle.std.proofs.Common.{◌≡◌, ℕ, List, [], ◌∷◌, None, All, IsTrue, map, sum, sym, refl, ap, ◌∙◌, subst}
use Rattle.alb_mono.specs.Listing.{Each}
use Rattle.alb_mono.specs.Tree.{AreBelow, are_below}
use Rattle.alb_mono.proofs.Leaves.{below_from_test}
use Rattle.alb_poly.specs.Poly.{Poly, normal}
use Rattle.alb_poly.specs.Instance.{Form, linearization, IsHomogeneous, AreHomogeneous, AreSameForms, linearizations}
use Rattle.alb_poly.proofs.Multilinear.{each-from}
use Rattle.alb_poly.proofs.NormalLemmas.{normal-same}
use Rattle.alb_linear.specs.Identity.{leading_type, identity_fault, IsLinearized}
use Rattle.alb_linear.specs.declared.identity.Identity.{Identity}
use Rattle.alb_linear.proofs.LinearLemmas.{each_from_all, identity-fits, homogeneous, same_type}
use Rattle.alb_problem.specs.Builder.{IsKeptIdentity, linear_form, with_degrees}

-- what holds of the polynomials holds of the identities
pub kept-identities : (p : ℕ) (fs : List Identity) → Each (IsKeptIdentity p) (map (λ f. f.poly) fs) → Each (λ f. IsKeptIdentity p f.poly) fs
kept-identities p [] h = tt
kept-identities p (f ∷ fs) h = (h.0, kept-identities p fs h.1)

linearized_forms : (p : ℕ) (fs : List Identity) → Each (IsKeptIdentity p) (map (λ f. f.poly) fs) → Each (IsLinearized p) (map (λ f. linear_form p f.poly) fs)
linearized_forms p [] h = tt
linearized_forms p (f ∷ fs) h = (h.0.linearized, linearized_forms p fs h.1)

-- the forms that stand for kept identities are linearized
pub forms-linearized : (p : ℕ) (fs : List Identity) (ls : List Form) → Each (IsKeptIdentity p) (map (λ f. f.poly) fs) → ls ≡ map (λ f. linear_form p f.poly) fs → Each (IsLinearized p) ls
forms-linearized p fs ls h e = subst (λ q. Each (IsLinearized p) q) (sym e) (linearized_forms p fs h)

-- a polynomial in the 26 letters without a fault has terms of one type
pub homogeneous-no_fault : (f : Poly) → All (λ t. IsTrue (are_below 26 t.1)) f → identity_fault f ≡ None → IsHomogeneous (leading_type f) f
homogeneous-no_fault f known h =
    let below : Each (λ t. AreBelow 26 t.1) f =
    each-from (λ t. IsTrue (are_below 26 t.1)) (λ t. AreBelow 26 t.1) f (λ t b. below_from_test 26 t.1 b) (each_from_all (λ t. IsTrue (are_below 26 t.1)) f known) in
    homogeneous (leading_type f) f below (same_type (leading_type f) f (identity-fits f h).one_type)

abbrev made : ℕ → Poly → Form
made n f = record { degree = n; terms = f }

-- a form with the degree and the terms of the linearization
pub same-form : (p : ℕ) (f : Poly) (l : Form) → l.degree ≡ sum (leading_type f) → l.terms ≡ normal p (linearization (leading_type f) f).terms → l ≡ linear_form p f
same-form p f l d t = ap (λ n. made n l.terms) d ∙ ap (made (sum (leading_type f))) t

-- what a builder keeps is homogeneous
pub homogeneous-kept : (p : ℕ) (fs : List Identity) → Each (IsKeptIdentity p) (map (λ f. f.poly) fs) → AreHomogeneous (map (λ f. with_degrees f.poly) fs)
homogeneous-kept p [] h = tt
homogeneous-kept p (f ∷ fs) h = (h.0.homogeneous, homogeneous-kept p fs h.1)

same_forms : (p : ℕ) (fs : List Identity) → AreSameForms p (map (λ f. linear_form p f.poly) fs) (linearizations (map (λ f. with_degrees f.poly) fs))
same_forms p [] = tt
same_forms p (f ∷ fs) = (record { degree = refl; terms = normal-same p (linearization (leading_type f.poly) f.poly).terms }, same_forms p fs)

-- normal forms of linearizations are equal to the linearizations
pub same-linearizations : (p : ℕ) (fs : List Identity) (ls : List Form) → ls ≡ map (λ f. linear_form p f.poly) fs → AreSameForms p ls (linearizations (map (λ f. with_degrees f.poly) fs))
same-linearizations p fs ls e = subst (λ q. AreSameForms p q (linearizations (map (λ f. with_degrees f.poly) fs))) (sym e) (same_forms p fs)
