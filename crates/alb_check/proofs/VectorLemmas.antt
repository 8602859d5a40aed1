-- Equal vectors over numbers.
use Rattle.std.proofs.Common.{◌≡◌, ℕ, nat_eq, refl}
use Rattle.std.proofs.lemmas.Bool.{eqb-true, eq-eqb}
use Rattle.gf_sums.specs.Sums.{Comb, TellsApart}
use Rattle.gf_sums.proofs.Alike.{Alike, alike-same, same-alike, equal}
use Rattle.alb_rows.specs.Row.{AreSameVector}

pub numbers_tell : TellsApart (λ i j. nat_eq i j)
numbers_tell = record { sound = eqb-true; whole = λ i. eq-eqb i i refl }

module _ {p : ℕ} {f g : Comb ℕ} where
  pub vector_alike : AreSameVector p f g → Alike p f g
  vector_alike h = alike-same (λ i j. nat_eq i j) numbers_tell h

  pub alike_vector : Alike p f g → AreSameVector p f g
  alike_vector h = same-alike (λ i j. nat_eq i j) numbers_tell h

-- equal lists are equal vectors
pub alike-equal : {I : Type 0} {p : ℕ} (f g : Comb I) → f ≡ g → Alike p f g
alike-equal f g e = rw e (equal g g (λ w. refl))
