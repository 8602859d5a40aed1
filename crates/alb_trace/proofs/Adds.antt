-- What functions that derive polynomials add to lines, one after the other.
use Rattle.std.proofs.Common.{◌≡◌, ℕ, ◌+◌, List, [], ◌∷◌, ◌++◌, sym, refl, ap, ◌∙◌, subst, append_assoc}
use Rattle.alb_poly.specs.Poly.{Poly}
use Rattle.alb_poly.specs.Instance.{Form}
use Rattle.alb_deriv.specs.Derivation.{Line}
use Rattle.alb_deriv.specs.Short.{AreFine, IsSumOf}
use Rattle.alb_deriv.proofs.Appended.{sum-kept}
use Rattle.alb_trace.specs.Adds.{item_of, IsLonger, Adds}
use Rattle.alb_trace.specs.declared.trace.Citation.{Citation}

nothing : (ls : List Line) → ls ≡ ls ++ []
nothing [] = refl
nothing (l ∷ ls) = ap (λ z. l ∷ z) (nothing ls)

-- ---- longer lists of lines

pub longer-itself : (ls : List Line) → IsLonger ls ls
longer-itself ls = record { more = []; front = nothing ls }

pub longer-joined : {old mid new : List Line} → IsLonger old mid → IsLonger mid new → IsLonger old new
longer-joined {old} a b = record { more = a.more ++ b.more; front = b.front ∙ ap (λ ls. ls ++ b.more) a.front ∙ append_assoc old a.more b.more }

pub longer-one : {old new : List Line} (l : Line) → new ≡ old ++ l ∷ [] → IsLonger old new
longer-one l e = record { more = l ∷ []; front = e }

-- what a combination of older lines has, it has after further lines are added
pub longer-sum : (p : ℕ) (fs : List Form) {old new : List Line} → IsLonger old new → (cs : List (ℕ × ℕ)) {f : Poly} → IsSumOf p fs old cs f → IsSumOf p fs new cs f
longer-sum p fs {old} h cs {f} s = subst (λ ls. IsSumOf p fs ls cs f) (sym h.front) (sum-kept p fs old h.more cs s)

module _ (p most : ℕ) (target : List ℕ) (fs : List Form) where
  -- one after the other
  pub adds-then : {old mid new : List Line} {o : Citation} {f : Poly} → IsLonger old mid → Adds p most target fs mid new o f → Adds p most target fs old new o f
  adds-then a b = record { longer = longer-joined a b.longer; fine = b.fine; sum = b.sum }

  pub adds-nothing : {ls : List Line} {o : Citation} {f : Poly} → AreFine p most target fs ls → IsSumOf p fs ls (item_of o) f → Adds p most target fs ls ls o f
  adds-nothing {ls} h s = record { longer = longer-itself ls; fine = h; sum = s }
