-- The table up to the first type of a normal form.
use Rattle.std.proofs.Common.{◌≡◌, ℕ, suc, ◌∷◌, ◌%◌, ◌<◌, ◌≤◌, Bool, true, false, List, [], length, Option, Some, None, refl, sym, ap, ◌∙◌, subst, arith, inl, inr, nat_lt, get_or}
use Rattle.std.proofs.lemmas.Bool.Decides.{nat_tests}
use Rattle.std.proofs.Math.Nat.{mod-eq_of_lt}
use Rattle.std.specs.declared.cmp.Ordering.TheVariants.{Less}
use Rattle.gf_field.proofs.Mod.{same, ◌⊙◌}
use Rattle.gf_sums.specs.Sums.{coefficient}
use Rattle.gf_sums.proofs.Alike.{turned}
use Rattle.alb_mono.specs.Listing.{Each}
use Rattle.alb_mono.specs.Tree.{Tree, are_below, type_of, cmp_types, same_tree}
use Rattle.alb_mono.proofs.ListingLemmas.{each-at}
use Rattle.alb_mono.proofs.Leaves.{length-type_of}
use Rattle.alb_poly.specs.Poly.{Poly, IsDescending, AreResidues, greatest_degree}
use Rattle.alb_poly.specs.Instance.{Form}
use Rattle.alb_poly.specs.Consequence.{IsConsequence, AreMultilinear}
use Rattle.alb_poly.proofs.Consequence.{poly_alike, tree_tells}
use Rattle.alb_poly.proofs.NormalLemmas.{descending-canonical}
use Rattle.alb_poly.proofs.Terms.{canonical-coefficients}
use Rattle.alb_check.specs.SubTable.{sub_table, IsFirstType}
use Rattle.alb_table.specs.Right.{IsZeroAt, AreHigh, IsTypeTo, IsWithinDegree, IsBasisTo, poly_value}
use Rattle.alb_table.specs.RightTable.{IsRightTable, mono_entry}
use Rattle.alb_table.specs.Table.{Table, IsTable}
use Rattle.alb_table.proofs.Coefficients.{each-coefficient}
use Rattle.alb_table.proofs.Right.{within-type}
use Rattle.alb_table.proofs.Values.{poly-value-basis}
use Rattle.alb_query.specs.Answer.{NotZero, misfit, IsAnswer, IsNormalForm, AnswersUnless, AnswersFitting}
use Rattle.alb_query.proofs.AnswerLemmas.{all-within}
use Rattle.alb_trace.specs.FirstType.{IsFirstAmong}
use Rattle.alb_trace.specs.Proof.{IsCounterTable}
use Rattle.alb_trace.proofs.Shown.{pos, table, value-normal_form, counter-table}

-- what an answer `not zero` says
pub record IsNotZero (fs : List Form) (t : Table) (g f : Poly) : Type 0 where
  pub within : Each (λ s. IsWithinDegree t.target t.degree s.1) g
  pub none : IsConsequence t.p fs g → ⊥
  pub normal : IsNormalForm t.p fs g f

pub not-zero : (fs : List Form) (t : Table) (g f : Poly) → IsAnswer t.p fs t.target t.degree g (NotZero f) → IsNotZero fs t g f
not-zero fs t g f is = unless (misfit t.target g) refl is
  where
    fitting : (above : Bool) → misfit t.target g ≡ None → nat_lt t.degree (greatest_degree g) ≡ above → AnswersFitting above t.p fs g (NotZero f) → IsNotZero fs t g f
    fitting true fit e a = absurd (cc)
    fitting false fit e a = let l : greatest_degree g ≤ t.degree = grind (arith, nat_tests) in record { within = all-within t.target t.degree g fit l; none = a.0; normal = a.1 }

    unless : (o : Option Tree) → misfit t.target g ≡ o → AnswersUnless o t.p fs t.degree g (NotZero f) → IsNotZero fs t g f
    unless None fit a = fitting (nat_lt t.degree (greatest_degree g)) fit refl a
    unless (Some m) fit a = absurd (cc)

not_zero-residue : (p c x : ℕ) → 0 < c → c < p → x ≡ c → x % p ≡ 0 → ⊥
not_zero-residue p c x some small e z = let m : c % p ≡ c = mod-eq_of_lt small in let q : x % p ≡ c % p = ap (λ n. n % p) e in absurd (omega (arith, m, q, z))

-- the coefficients of a canonical list are not 0
positive : (f : Poly) → IsDescending f → Each (λ s. 0 < s.0) f
positive [] d = tt
positive (s ∷ f) d = (d.0, positive f d.2)

small : (p : ℕ) (f : Poly) → AreResidues p f → Each (λ s. s.0 < p) f
small p [] r = tt
small p (s ∷ f) r = (r 0 s (omega arith), small p f (λ k d l. r (suc k) d (omega arith)))

module _ (fs : List Form) (t : Table) (multi : AreMultilinear fs) (high : AreHigh fs) (tab : IsTable t) (right : IsRightTable fs t) (g f : Poly) (is : IsNotZero fs t g f) where
  -- a term has a coefficient that is not 0
  term-nonzero : (k : ℕ) (s : ℕ × Tree) → k < length f → get_or f k s ≡ s → IsZeroAt t.p f s.1 → ⊥
  term-nonzero k s l e z =
      let c : coefficient same_tree f s.1 ≡ s.0 =
      subst (λ x. coefficient same_tree f x.1 ≡ x.0) e (each-at (λ x. coefficient same_tree f x.1 ≡ x.0) f k s (canonical-coefficients t.p f (descending-canonical t.p f is.normal.descending is.normal.residues)) l) in
      let a : 0 < s.0 = subst (λ x. 0 < x.0) e (each-at (λ x. 0 < x.0) f k s (positive f is.normal.descending) l) in
      let b : s.0 < t.p = subst (λ x. x.0 < t.p) e (each-at (λ x. x.0 < t.p) f k s (small t.p f is.normal.residues) l) in
      not_zero-residue t.p s.0 (coefficient same_tree f s.1) a b c (z.same ∙ mod-eq_of_lt (pos fs t multi high tab right))

  -- and a basis monomial
  term-basis : (k : ℕ) (s : ℕ × Tree) → k < length f → get_or f k s ≡ s → IsBasisTo t.p fs t.target t.degree s.1
  term-basis k s l e =
      elim (each-coefficient same_tree tree_tells (IsBasisTo t.p fs t.target t.degree) (poly_value (mono_entry t.parts) g) s.1
      (poly-value-basis t.p (pos fs t multi high tab right) fs (IsWithinDegree t.target t.degree) (IsBasisTo t.p fs t.target t.degree) (mono_entry t.parts) (table fs t multi high tab right) g is.within)) [
        | inl b ↦ b
        | inr z ↦ absurd (term-nonzero k s l e (poly_alike (turned (value-normal_form fs t multi high tab right g f is.within is.normal)) s.1 ⊙ same z))
      ]

  first-type : (top : List ℕ) → IsFirstAmong (length t.target) f top → IsTypeTo t.target t.degree top × IsFirstType t.p top f
  first-type top h =
      let b = term-basis h.place h.term h.within h.at in
      let n : length top ≡ length t.target = ap length (sym h.type) ∙ length-type_of (length t.target) h.term.1 in (
        subst (IsTypeTo t.target t.degree) h.type (within-type t.target t.degree h.term.1 b.within),
        record {
          monomial = h.term.1;
          type = record { below = subst (λ k. are_below k h.term.1 ≡ true) (sym n) b.within.below; counts = ap (λ k. type_of k h.term.1) n ∙ h.type };
          nonzero = term-nonzero h.place h.term h.within h.at;
          first = λ x k l. elim (each-coefficient same_tree tree_tells (λ y. cmp_types (type_of (length t.target) y) top ≡ Less → ⊥) f x h.first) [
            | inl none ↦ none (subst (λ m. cmp_types (type_of m x) top ≡ Less) n l)
            | inr z ↦ k (same z)
          ];
        },
      )

  -- THE TABLE UP TO IT refutes the polynomial
  pub first-counter : (top : List ℕ) → IsFirstAmong (length t.target) f top → IsCounterTable fs t g f (sub_table t top)
  first-counter top h = let r = first-type top h in counter-table fs t multi high tab right g f top is.within is.normal r.0 r.1

-- the first type has as many counts as the target
pub first-long-of : (target : List ℕ) (n : ℕ) (f : Poly) (top : List ℕ) → n ≡ length target → IsFirstAmong n f top → length top ≡ length target
first-long-of target n f top e h = ap length (sym h.type) ∙ length-type_of n h.term.1 ∙ e
