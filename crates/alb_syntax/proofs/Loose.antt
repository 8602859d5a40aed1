-- Loose terms, and what they stand for.
use Rattle.std.proofs.Common.{◌≡◌, ℕ, ◌+◌, ◌-◌, ◌<◌, ◌≤◌, List, [], ◌∷◌, ◌++◌, length, Ok, sym, ap, subst, ◌∙◌, arith}
use Rattle.std.proofs.lemmas.List.{length-append}
use Rattle.std.proofs.lemmas.List.Elements.{All-append}
use Rattle.gf_sums.specs.Sums.{scale}
use Rattle.alb_mono.specs.Tree.{Tree}
use Rattle.alb_poly.specs.declared.term.Term.{Term}
use Rattle.alb_poly.specs.Terms.{terms}
use Rattle.alb_poly.specs.Poly.{Poly, greatest_degree, normal}
use Rattle.alb_poly.proofs.NormalLemmas.{normal-canonical, normal-length, normal-degree, normal-append-left, normal-append-right}
use Rattle.alb_syntax.specs.Reading.{IsCanonicalPoly, AreLoose, limited, sum, difference, multiple}
use Rattle.alb_syntax.proofs.Kept.{table-above_one, kept-residues, kept-normal, none-high, within-few}

-- the terms of a polynomial that is kept, by themselves
module _ (p : ℕ) (ts : List Term) (f : Poly) (kept : IsCanonicalPoly p f) (e : terms ts ≡ f) where
  pub loose-terms : AreLoose p (terms ts)
  loose-terms = subst (AreLoose p) (sym e) (record { listed = kept.listed; residues = kept-residues p f kept; few = kept.few })

  pub normal-terms : normal p (terms ts) ≡ f
  normal-terms = ap (normal p) e ∙ normal-canonical p f kept.canonical

pub together-kept : (p : ℕ) (f : Poly) → AreLoose p f → IsCanonicalPoly p (normal p f)
together-kept p f h = kept-normal p f h.listed (omega (arith, normal-length p f, h.few))

terms-degree : (ts : List Term) → greatest_degree (terms ts) ≤ 64
terms-degree [] = omega arith
terms-degree (t ∷ ts) = let h = t.small in omega (arith, terms-degree ts)

module _ (p place : ℕ) (f x : Poly) (us : List Term) (loose : AreLoose p f) (kept : IsCanonicalPoly p x) (e : terms us ≡ f ++ x) (few : length f + length x ≤ 65536) where
  pub appended-loose : AreLoose p (terms us)
  appended-loose = subst (AreLoose p) (sym e) (record {
    listed = loose.listed;
    residues = All-append (λ t. t.0 < p) f x loose.residues (kept-residues p x kept);
    few = omega (arith, length-append f x);
  })

  pub sum-appended : sum p place (normal p f) x ≡ Ok (normal p (terms us))
  unfolding sum
  sum-appended =
      let one = table-above_one p loose.listed in
      let q : normal p (normal p f ++ x) ≡ normal p (terms us) = normal-append-left p f x (omega arith) ∙ ap (normal p) (sym e) in
      ap (limited place) q
      ∙ within-few place (normal p (terms us)) (none-high (normal p (terms us)) (omega (arith, normal-degree p (terms us), terms-degree us)))
      (omega (arith, normal-length p (terms us), ap (length {A = ℕ × Tree}) e, length-append f x))

-- a difference is a sum with the negative
pub difference-sum : (p place : ℕ) (f x : Poly) → 1 < p → sum p place f (multiple p (p - 1) x) ≡ difference p place f x
unfolding sum difference multiple
difference-sum p place f x one = ap (limited place) (normal-append-right p f (scale (p - 1) x) (omega arith))
