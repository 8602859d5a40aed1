-- The laws over numbered bases.
use Rattle.std.proofs.Common.{ℕ, List, [], ◌∷◌}
use Rattle.std.specs.Prelude.{nat_eq}
use Rattle.gf_sums.specs.Sums.{Comb}
use Rattle.gf_sums.proofs.Totals.{numbers-tell}
use Rattle.gf_sums.proofs.Alike.{alike-same, same-alike}
use Rattle.alb_mono.specs.Listing.{Each}
use Rattle.alb_poly.specs.Poly.{Poly}
use Rattle.alb_poly.specs.Instance.{linearizations}
use Rattle.alb_problem.proofs.Forms.{consequence-forms}
use Rattle.alb_mono.proofs.ListingLemmas.{each-always}
use Rattle.alb_problem.proofs.ToText.{text-from_consequence}
use Rattle.alb_problem.proofs.Satisfied as general
use Rattle.alb_problem.proofs.Substitution.{Satisfies-text}
use Rattle.alb_problem.specs.Satisfied.{Satisfies}
use Rattle.alb_problem.specs.Laws.{ConsequencesAreTextbookConsequences, ConsequencesHold}

pub consequences-text : ConsequencesAreTextbookConsequences
consequences-text p ls fs g pos hom same c = text-from_consequence p pos fs hom g (consequence-forms p ls (linearizations fs) same g c)

module _ (prod : ℕ → ℕ → Comb ℕ) (p : ℕ) where
  everywhere : (f : Poly) → Satisfies prod p f → general.Satisfies prod (λ i. Unit {0}) p f
  everywhere f h u over = alike-same (λ i j. nat_eq i j) numbers-tell (h u)

  here : (f : Poly) → general.Satisfies prod (λ i. Unit {0}) p f → Satisfies prod p f
  here f h u = same-alike (λ i j. nat_eq i j) numbers-tell (h u (λ v. each-always (λ t. Unit {0}) (u v) (λ t. tt)))

  all-everywhere : (fs : List Poly) → Each (Satisfies prod p) fs → Each (general.Satisfies prod (λ i. Unit {0}) p) fs
  all-everywhere [] h = tt
  all-everywhere (f ∷ fs) h = (everywhere f h.0, all-everywhere fs h.1)

pub consequences-hold : ConsequencesHold
consequences-hold prod p fs g h c =
    here prod p g (Satisfies-text prod (λ i. Unit {0}) (λ i j a b. each-always (λ t. Unit {0}) (prod i j) (λ t. tt)) p fs g (all-everywhere prod p fs h) c)
