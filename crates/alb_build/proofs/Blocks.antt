-- The free products of a block as monomials.
use Rattle.std.proofs.Common.{◌≡◌, ℕ, zero, suc, ◌+◌, ◌-◌, ◌<◌, Bool, true, false, List, [], ◌∷◌, map, length, get_or, reverse, sym, refl, ap, ◌∙◌, arith}
use Rattle.std.specs.List.{Contains}
use Rattle.std.specs.declared.cmp.Ordering.TheVariants.{Less}
use Rattle.alb_mono.specs.Listing.{Each, Ascends}
use Rattle.alb_mono.specs.Tree.{Tree, leaf, cmp_trees, rising}
use Rattle.alb_table.specs.declared.part.Elem.{Elem}
use Rattle.alb_table.specs.declared.part.Elem.TheVariants.{Prod}
use Rattle.std.proofs.lemmas.List.{length-reverse, get_or-reverse}
use Rattle.alb_table.proofs.PartLemmas.{map_at}
use Rattle.alb_build.specs.Part.{elements_of}
use Rattle.alb_build.proofs.Numbering.{before}

-- the products that are free, each as a monomial
abbrev pub free_monos : (ℕ × ℕ → Tree) → List (ℕ × ℕ) → List Bool → List Tree
free_monos f [] bs = []
free_monos f (q ∷ qs) [] = []
free_monos f (q ∷ qs) (true ∷ bs) = f q ∷ free_monos f qs bs
free_monos f (q ∷ qs) (false ∷ bs) = free_monos f qs bs

module _ (f : ℕ × ℕ → Tree) where
  -- what holds of each free product
  pub free-each : (P : Tree → Type 0) (qs : List (ℕ × ℕ)) (bs : List Bool) → ((k : ℕ) → k < length qs → get_or bs k false ≡ true → P (f (get_or qs k (0, 0)))) →
      Each P (free_monos f qs bs)
  free-each P [] bs h = tt
  free-each P (q ∷ qs) [] h = tt
  free-each P (q ∷ qs) (true ∷ bs) h = (h 0 (omega arith) refl, free-each P qs bs (λ k l t. h (suc k) (omega arith) t))
  free-each P (q ∷ qs) (false ∷ bs) h = free-each P qs bs (λ k l t. h (suc k) (omega arith) t)

  -- they ascend as the products do
  pub free-ascends : (qs : List (ℕ × ℕ)) (bs : List Bool) → ((k m : ℕ) → k < m → m < length qs → cmp_trees (f (get_or qs k (0, 0))) (f (get_or qs m (0, 0))) ≡ Less) →
      Ascends cmp_trees (free_monos f qs bs)
  free-ascends [] bs h = tt
  free-ascends (q ∷ qs) [] h = tt
  free-ascends (q ∷ qs) (true ∷ bs) h = (
    free-each (λ x. cmp_trees (f q) x ≡ Less) qs bs (λ k l t. h 0 (suc k) (omega arith) (omega arith)),
    free-ascends qs bs (λ k m l n. h (suc k) (suc m) (omega arith) (omega arith)),
  )
  free-ascends (q ∷ qs) (false ∷ bs) h = free-ascends qs bs (λ k m l n. h (suc k) (suc m) (omega arith) (omega arith))

  -- a free product stands at its number
  pub free-at : (qs : List (ℕ × ℕ)) (bs : List Bool) (k : ℕ) (u : Tree) → k < length bs → length qs ≡ length bs → get_or bs k false ≡ true →
      (before bs k < length (free_monos f qs bs)) × (get_or (free_monos f qs bs) (before bs k) u ≡ f (get_or qs k (0, 0)))
  free-at [] [] k u l e t = absurd (omega arith)
  free-at [] (b ∷ bs) k u l e t = absurd (omega arith)
  free-at (q ∷ qs) [] k u l e t = absurd (omega arith)
  free-at (q ∷ qs) (true ∷ bs) zero u l e t = (omega arith, refl)
  free-at (q ∷ qs) (false ∷ bs) zero u l e t = absurd (cc)
  free-at (q ∷ qs) (true ∷ bs) (suc k) u l e t = let r = free-at qs bs k u (omega arith) (omega arith) t in (omega (arith, r.0), r.1)
  free-at (q ∷ qs) (false ∷ bs) (suc k) u l e t = free-at qs bs k u (omega arith) (omega arith) t

  pub free-contains : (qs : List (ℕ × ℕ)) (bs : List Bool) (k : ℕ) → k < length bs → length qs ≡ length bs → get_or bs k false ≡ true →
      Contains (free_monos f qs bs) (f (get_or qs k (0, 0)))
  free-contains qs bs k l e t = let r = free-at qs bs k (f (get_or qs k (0, 0))) l e t in (before bs k, r.0, r.1)

-- the monomials of a run of numbers, which has these elements
pub run-monos : (g : ℕ → Tree) (m : Elem → Tree) (first : ℕ) (es : List Elem) → ((i : ℕ) (u : Elem) → i < length es → g (first + i) ≡ m (get_or es i u)) →
    map g (rising first (length es)) ≡ map m es
run-monos g m first [] h = refl
run-monos g m first (e ∷ es) h =
    let z : first + 0 ≡ first = omega arith in
    ap (λ x. x ∷ map g (rising (suc first) (length es))) (ap g (sym z) ∙ h 0 e (omega arith))
    ∙ ap (λ xs. m e ∷ xs) (run-monos g m (suc first) es (λ i u l. (let y : suc first + i ≡ first + suc i = omega arith in ap g y ∙ h (suc i) u (omega arith))))

-- those of the free products
pub map-elements : (m : Elem → Tree) (f : ℕ × ℕ → Tree) (qs : List (ℕ × ℕ)) (bs : List Bool) → Each (λ (q : ℕ × ℕ). m (Prod q.0 q.1) ≡ f q) qs →
    map m (elements_of qs bs) ≡ free_monos f qs bs
map-elements m f [] bs h = refl
map-elements m f (q ∷ qs) [] h = refl
map-elements m f (q ∷ qs) (true ∷ bs) h = ap (λ x. x ∷ map m (elements_of qs bs)) h.0 ∙ ap (λ xs. f q ∷ xs) (map-elements m f qs bs h.1)
map-elements m f (q ∷ qs) (false ∷ bs) h = map-elements m f qs bs h.1

-- the column of a place
pub col-place : (f : ℕ × ℕ → Tree) (qs : List (ℕ × ℕ)) (j : ℕ) → j < length qs → get_or (map f (reverse qs)) j (leaf 0) ≡ f (get_or qs (length qs - 1 - j) (0, 0))
col-place f qs j l = map_at f (reverse qs) j (0, 0) (leaf 0) (omega (arith, l, length-reverse qs)) ∙ ap f (get_or-reverse qs j (0, 0) l)
