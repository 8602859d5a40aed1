-- What is known of one term of a list.
use Rattle.std.proofs.Common.{◌≡◌, ℕ, zero, suc, ◌+◌, ◌<◌, ◌≤◌, true, List, [], ◌∷◌, ◌++◌, take, length, max, get_or, sym, refl, ap, subst, ◌∙◌, arith, All}
use Rattle.std.proofs.lemmas.List.{map-append, take_more}
use Rattle.std.proofs.lemmas.List.Elements.{All-map, All-nil, All-cons, All-head, All-tail}
use Rattle.alb_mono.proofs.Both.{both_true}
use Rattle.alb_mono.specs.Tree.{tree, Tree, degree, are_below}
use Rattle.alb_mono.specs.declared.side.Side.{Side}
use Rattle.alb_mono.specs.declared.side.Side.TheVariants.{Left, Right}
use Rattle.alb_poly.specs.Consequence.{beside}
use Rattle.alb_poly.specs.Poly.{AreResidues, greatest_degree}
use Rattle.alb_poly.specs.Terms.{term, terms}
use Rattle.alb_poly.specs.declared.term.Term.{Term}
use Rattle.alb_poly.proofs.Products.{degree-append}

-- ---- coefficients

pub coefs_below : (p : ℕ) (ts : List Term) → AreResidues p (terms ts) → All (λ t. t.coef < p) ts
coefs_below p [] r = All-nil _
coefs_below p (t ∷ ts) r =
    All-cons (λ t. t.coef < p) t ts (All-head (λ t. t.0 < p) (term t) (terms ts) r) (coefs_below p ts (All-tail (λ t. t.0 < p) (term t) (terms ts) r))

pub residues_from : (p : ℕ) (ts : List Term) → All (λ t. t.coef < p) ts → AreResidues p (terms ts)
residues_from p ts r = All-map (λ t. t.0 < p) term ts r

pub coef_at : (p : ℕ) (ts : List Term) (k : ℕ) (t : Term) → AreResidues p (terms ts) → k < length ts → t ≡ get_or ts k t → t.coef < p
coef_at p ts k t r h e = subst (λ u. u.coef < p) (sym e) (coefs_below p ts r k t h)

-- what holds of each term of a polynomial holds of one
pub term_at : (P : ℕ × Tree → Type 0) (ts : List Term) (k : ℕ) (t : Term) → All P (terms ts) → k < length ts → t ≡ get_or ts k t → P (term t)
term_at P ts k t a h e = subst (λ u. P (term u)) (sym e) (each_at P ts a k t h)
  where
    each_at : (P : ℕ × Tree → Type 0) (ts : List Term) → All P (terms ts) → All (λ t. P (term t)) ts
    each_at P [] r = All-nil _
    each_at P (t ∷ ts) r = All-cons (λ t. P (term t)) t ts (All-head P (term t) (terms ts) r) (each_at P ts (All-tail P (term t) (terms ts) r))

-- ---- degrees

degree_index : (ts : List Term) (k : ℕ) (d : Term) → k < length ts → degree (tree (get_or ts k d).mono) ≤ greatest_degree (terms ts)
degree_index [] k d h = absurd (omega arith)
degree_index (t ∷ ts) zero d h = omega arith
degree_index (t ∷ ts) (suc k) d h = omega (arith, degree_index ts k d (omega arith))

pub degree_at : (ts : List Term) (k : ℕ) (t : Term) → k < length ts → t ≡ get_or ts k t → degree (tree t.mono) ≤ greatest_degree (terms ts)
degree_at ts k t h e = subst (λ u. degree (tree u.mono) ≤ greatest_degree (terms ts)) (sym e) (degree_index ts k t h)

pub degree_more : (ts : List Term) (k : ℕ) (t : Term) → k < length ts → t ≡ get_or ts k t →
    greatest_degree (terms (take (k + 1) ts)) ≡ max (greatest_degree (terms (take k ts))) (degree (tree t.mono))
degree_more ts k t h e =
    ap (λ x. greatest_degree (terms x)) (take_more ts k t h ∙ ap (λ u. take k ts ++ u ∷ []) (sym e))
    ∙ ap greatest_degree (map-append term (take k ts) (t ∷ [])) ∙ degree-append (terms (take k ts)) (term t ∷ []) ∙ omega arith

-- ---- a monomial beside another

pub degree_beside : (s : Side) (m n : Tree) → degree (beside (s, m) n) ≡ degree n + degree m
degree_beside Left m n = omega arith
degree_beside Right m n = refl

pub below_beside : (s : Side) (m n : Tree) → are_below 26 m ≡ true → are_below 26 n ≡ true → are_below 26 (beside (s, m) n) ≡ true
below_beside Left m n h k = both_true (are_below 26 m) (are_below 26 n) h k
below_beside Right m n h k = both_true (are_below 26 n) (are_below 26 m) k h
