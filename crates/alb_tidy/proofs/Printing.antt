-- Whether a line can be printed is seen of the line as the definition of a derivation sees it.
use Rattle.std.proofs.Common.{◌≡◌, ℕ, zero, suc, ◌<◌, ◌≤◌, List, [], ◌∷◌, ◌++◌, map, length, All, refl, sym, ap, subst, arith, inl, inr}
use Rattle.std.specs.Prelude.{IsTrue}
use Rattle.std.proofs.lemmas.List.Elements.{All-push}
use Rattle.alb_mono.specs.Listing.{Each}
use Rattle.alb_mono.specs.Tree.{tree, Tree, degree, are_below}
use Rattle.alb_mono.specs.declared.mono.Mono.{Mono}
use Rattle.alb_poly.proofs.Multilinear.{each_from_all, all_from_each, each-map}
use Rattle.alb_deriv.specs.Derivation as value
use Rattle.alb_deriv.specs.Views.{line, IsLine}
use Rattle.alb_deriv.specs.declared.line.Line.{Line}
use Rattle.alb_deriv.specs.declared.line.Line.TheVariants.{Instance, Times, Sum}
use Rattle.alb_tidy.specs.Cites.{renumbered}
use Rattle.alb_tidy.specs.Numbers.{IsNumbered}

-- the line can be printed with residues below p and n letters
CanPrint : ℕ → ℕ → value.Line → Type 0
CanPrint p n (value.Instance i ms) = Each (λ m. IsTrue (are_below n m)) ms × Each (λ m. degree m ≤ 64) ms
CanPrint p n (value.Times k s) = IsTrue (are_below n s.1) × (degree s.1 ≤ 64)
CanPrint p n (value.Sum cs) = Each (λ c. c.0 < p) cs

each-unmap : {X Y : Type 0} (P : Y → Type 0) (h : X → Y) (xs : List X) → Each P (map h xs) → Each (λ x. P (h x)) xs
each-unmap P h [] a = tt
each-unmap P h (x ∷ xs) a = (a.0, each-unmap P h xs a.1)

seen : (p n : ℕ) (l : Line) → IsLine p n l → CanPrint p n (line l)
unfolding CanPrint
seen p n (Instance i ms) h = (
  each-map (λ (m : Mono). IsTrue (are_below n (tree m))) (λ m. IsTrue (are_below n m)) tree ms.items (λ m a. a) (each_from_all (λ (m : Mono). IsTrue (are_below n (tree m))) ms.items h.0),
  each-map (λ (m : Mono). degree (tree m) ≤ 64) (λ m. degree m ≤ 64) tree ms.items (λ m a. a) (each_from_all (λ (m : Mono). degree (tree m) ≤ 64) ms.items h.1),
)
seen p n (Times k s m) h = h
seen p n (Sum cs) h = each_from_all (λ c. c.0 < p) cs.items h

unseen : (p n : ℕ) (l : Line) → CanPrint p n (line l) → IsLine p n l
unfolding CanPrint
unseen p n (Instance i ms) h = (
  all_from_each (λ (m : Mono). IsTrue (are_below n (tree m))) ms.items (each-unmap (λ m. IsTrue (are_below n m)) tree ms.items h.0),
  all_from_each (λ (m : Mono). degree (tree m) ≤ 64) ms.items (each-unmap (λ m. degree m ≤ 64) tree ms.items h.1),
)
unseen p n (Times k s m) h = h
unseen p n (Sum cs) h = all_from_each (λ c. c.0 < p) cs.items h

renumbered-print : (p n : ℕ) (places : List ℕ) (l : value.Line) → CanPrint p n l → CanPrint p n (renumbered places l)
unfolding CanPrint
renumbered-print p n places (value.Instance i ms) h = h
renumbered-print p n places (value.Times k s) h = h
renumbered-print p n places (value.Sum cs) h = each-map (λ c. c.0 < p) (λ c. c.0 < p) _ cs (λ c a. a) h

-- a line with new numbers can be printed
pub copy-printable : (p n : ℕ) (places : List ℕ) (l copy : Line) → line copy ≡ renumbered places (line l) → IsLine p n l → IsLine p n copy
copy-printable p n places l copy e h = unseen p n copy (subst (CanPrint p n) (sym e) (renumbered-print p n places (line l) (seen p n l h)))

-- and so can all lines with it
pub numbered-printable : (p n : ℕ) (old new : List Line) (l : Line) (k : ℕ) → IsNumbered old new l k → IsLine p n l → All (λ x. IsLine p n x) old → All (λ x. IsLine p n x) new
numbered-printable p n old new l k s h a = elim s.lines [
  | inl e ↦ subst (All (λ x. IsLine p n x)) (sym e) a
  | inr e ↦ subst (All (λ x. IsLine p n x)) (sym e) (All-push (λ x. IsLine p n x) old l a h)
]
