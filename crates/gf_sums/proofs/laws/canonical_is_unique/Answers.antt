use Rattle.std.proofs.Common.{◌≡◌, ◌<◌, ℕ, nat_eq, refl}
use Rattle.std.specs.Ordering.{nat_cmp}
use Rattle.std.specs.declared.cmp.Ordering.TheVariants.{Equal}
use Rattle.std.proofs.lemmas.Cmp.{nat_cmp_total, ranked, by_ranked}
use Rattle.gf_sums.proofs.Totals.{numbers-tell}
use Rattle.gf_sums.proofs.Canonical.{canonical-unique}
use Rattle.gf_sums.proofs.laws.canonical_is_unique.Goals as goal

told : (a b : ℕ) → nat_cmp a b ≡ Equal → a ≡ b
told a b h = by_ranked (a < b) (a ≡ b) (b < a) (nat_cmp a b) (ranked a b _ refl) (λ e _. absurd (cc)) (λ _ q. q) (λ e _. absurd (cc))

pub returns : goal.returns
returns c p f g a b h =
    canonical-unique nat_cmp nat_cmp_total nat_eq numbers-tell told f g a b h
