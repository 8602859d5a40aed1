-- An algebra that satisfies the identities refutes what is not zero there.
use Rattle.std.proofs.Common.{ℕ, ◌*◌, ◌<◌, List, [], ◌∷◌, ◌∙◌}
use Rattle.std.specs.List.{flat_map}
use Rattle.alb_mono.specs.Listing.{Each}
use Rattle.alb_mono.proofs.ListingLemmas.{each-weaker}
use Rattle.alb_mono.specs.Tree.{Tree, leaf, node}
use Rattle.gf_sums.specs.Sums.{Comb, scale}
use Rattle.gf_sums.proofs.Totals.{weigh-multiply}
use Rattle.gf_sums.proofs.Alike.{Alike, equal, itself, turned, joined, append-alike, scale-alike, multiply-alike}
use Rattle.alb_poly.specs.Poly.{Poly}
use Rattle.alb_poly.specs.Consequence.{IsConsequence}
use Rattle.alb_poly.specs.Textbook.{evaluate, evaluate_poly, IsTextConsequence}
use Rattle.alb_poly.specs.Instance.{Identity, AreHomogeneous, linearizations, polynomials}
use Rattle.alb_poly.proofs.Multilinear.{each-append, each-map, each-flat}
use Rattle.alb_poly.proofs.Parts.{weigh-zero}
use Rattle.alb_poly.proofs.Evaluate.{IsIdealIn, text-in}
pub use Rattle.alb_poly.proofs.Evaluate.{evaluate_poly-alike, evaluate_poly-product}
use Rattle.alb_problem.proofs.ToText.{text-from_consequence}
use Rattle.alb_problem.proofs.AllVectors.{IsOver}
use Rattle.alb_problem.proofs.Satisfied.{Satisfies}

-- the vectors that are zero are an ideal
zero_ideal : {I : Type 0} (prod : I → I → Comb I) (p : ℕ) → IsIdealIn prod p (λ f. Alike p f [])
zero_ideal prod p = record {
  zero = itself [];
  same = λ f g h z. joined (turned h) z;
  sums = λ f g a b. append-alike a b;
  multiples = λ c f a. scale-alike c a;
  left = λ f g a. multiply-alike prod a (itself g);
  right = λ f g a. joined (multiply-alike prod (itself f) a) (equal _ _ (λ w. weigh-multiply prod w f [] ∙ weigh-zero f));
}

-- a product of elements of `P` has only such elements
abbrev pub IsClosedUnder : {I : Type 0} → (I → I → Comb I) → (I → Type 0) → Type 0
IsClosedUnder {I} prod P = (i j : I) → P i → P j → IsOver P (prod i j)

module _ {I : Type 0} (prod : I → I → Comb I) (P : I → Type 0) (closed : IsClosedUnder prod P) (v : ℕ → Comb I) (over : (k : ℕ) → IsOver P (v k)) where
  over-scale : (c : ℕ) (f : Comb I) → IsOver P f → IsOver P (scale c f)
  over-scale c f h = each-map (λ t. P t.1) (λ t. P t.1) (λ t. (c * t.0, t.1)) f (λ t a. a) h

  pub over-evaluate : (m : Tree) → IsOver P (evaluate prod v m)
  over-evaluate (leaf k) = over k
  over-evaluate (node l r) =
      let R = evaluate prod v r in
      each-flat (λ s. P s.1) (λ t. P t.1) (λ s. flat_map (λ t. scale (s.0 * t.0) (prod s.1 t.1)) R) (evaluate prod v l)
      (λ s h. each-flat (λ t. P t.1) (λ t. P t.1) (λ t. scale (s.0 * t.0) (prod s.1 t.1)) R
      (λ t k. over-scale (s.0 * t.0) (prod s.1 t.1) (closed s.1 t.1 h k)) (over-evaluate r))
      (over-evaluate l)

  pub over-evaluate_poly : (f : Poly) → IsOver P (evaluate_poly prod v f)
  over-evaluate_poly [] = tt
  over-evaluate_poly (t ∷ f) = each-append (λ s. P s.1) (scale t.0 (evaluate prod v t.1)) (evaluate_poly prod v f)
      (over-scale t.0 (evaluate prod v t.1) (over-evaluate t.1)) (over-evaluate_poly f)

module _ {I : Type 0} (prod : I → I → Comb I) (P : I → Type 0) (closed : IsClosedUnder prod P) (p : ℕ) where
  -- An algebra that satisfies the identities satisfies their consequences in the textbook's sense.
  pub Satisfies-text : (fs : List Poly) (g : Poly) → Each (Satisfies prod P p) fs → IsTextConsequence p fs g → Satisfies prod P p g
  Satisfies-text fs g h c u over = text-in prod p (λ f. Alike p f []) (zero_ideal prod p) u fs g
      (λ us. each-weaker (Satisfies prod P p) _ fs
      (λ f k. k (λ j. evaluate_poly prod u (us j)) (λ j. over-evaluate_poly prod P closed u over (us j))) h) c

  -- So a polynomial with a value that is not zero is no consequence of the linearizations.
  pub Satisfies-consequence : (fs : List Identity) (g : Poly) → 0 < p → AreHomogeneous fs → Each (λ f. Satisfies prod P p f.terms) fs →
      IsConsequence p (linearizations fs) g → Satisfies prod P p g
  Satisfies-consequence fs g pos hom h c = Satisfies-text (polynomials fs) g
      (each-map (λ f. Satisfies prod P p f.terms) (Satisfies prod P p) (λ f. f.terms) fs (λ f a. a) h)
      (text-from_consequence p pos fs hom g c)
