-- Combinations of combinations, and spans.
use Rattle.std.proofs.Common.{◌≡◌, ℕ, zero, suc, ◌*◌, ◌<◌, ◌≤◌, [], ◌∷◌, ◌++◌, sym, refl, ap, ◌∙◌, subst, arith, inl, inr, eqb, true, false}
use Rattle.std.proofs.lemmas.Bool.{cases_eq}
use Rattle.std.proofs.lemmas.Bool.Decides.{nat_tests}
use Rattle.gf_field.proofs.Mod.{same, ◌⊙◌}
use Rattle.alb_mono.specs.Tree.{Tree, leaf, node, count}
use Rattle.gf_sums.specs.Sums.{Comb, weigh, scale}
use Rattle.gf_sums.proofs.Totals.{total-equal, weigh-append, weigh-scale, weigh-equal}
use Rattle.gf_sums.proofs.Alike.{Alike, equal, itself, turned, joined, append-alike, scale-alike, weigh-flat}
use Rattle.alb_poly.specs.Textbook.{evaluate, unit, put}
use Rattle.alb_problem.proofs.Evaluate.{weigh-swap, evaluate-away, evaluate-linear}
use Rattle.alb_poly.specs.Poly.{Poly}
use Rattle.alb_poly.proofs.Consequence.{alike_poly, poly_alike}
use Rattle.alb_poly.specs.Instance.{Form, IsMultilinear, IsMultilinearForm}
use Rattle.alb_mono.specs.Listing.{Each}
use Rattle.alb_poly.proofs.Multilinear.{each-append, each-from}
use Rattle.alb_poly.proofs.Parts.{weigh-zero, weigh-each}
use Rattle.alb_problem.proofs.FormValue.{count-multilinear, evaluate-equal, put_itself}
use Rattle.alb_table.proofs.Congruent.{weigh-outer}
use Rattle.alb_table.proofs.Values.{each-scale}
use Rattle.alb_table.specs.Block.{image, spread, form_row, InNamedSpan}

-- ---- each index replaced by a combination

pub weigh-spread : {I K : Type 0} (w : K → ℕ) (h : I → Comb K) (f : Comb I) → weigh w (spread h f) ≡ weigh (λ i. weigh w (h i)) f
weigh-spread w h f = weigh-flat w _ f ∙ total-equal _ _ f (λ t. weigh-scale w t.0 (h t.1))

pub spread-alike : {I K : Type 0} {p : ℕ} (h : I → Comb K) {f g : Comb I} → Alike p f g → Alike p (spread h f) (spread h g)
spread-alike h {f} {g} a = record { at = λ w. same (weigh-spread w h f) ⊙ a.at _ ⊙ same (sym (weigh-spread w h g)) }

pub spread-each : {I K : Type 0} {p : ℕ} (P : I → Type 0) (g h : I → Comb K) (f : Comb I) → ((i : I) → P i → Alike p (g i) (h i)) → Each (λ t. P t.1) f →
    Alike p (spread g f) (spread h f)
spread-each P g h [] k a = itself []
spread-each P g h (t ∷ f) k a = append-alike (scale-alike t.0 (k t.1 a.0)) (spread-each P g h f k a.1)

pub spread-append : {I K : Type 0} {p : ℕ} (h : I → Comb K) (f g : Comb I) → Alike p (spread h (f ++ g)) (spread h f ++ spread h g)
spread-append h f g = equal _ _ (λ w.
    weigh-spread w h (f ++ g) ∙ weigh-append _ f g ∙ sym (weigh-append w (spread h f) (spread h g) ∙ rw (weigh-spread w h f, weigh-spread w h g)))

pub spread-scale : {I K : Type 0} {p : ℕ} (h : I → Comb K) (c : ℕ) (f : Comb I) → Alike p (spread h (scale c f)) (scale c (spread h f))
spread-scale h c f = equal _ _ (λ w.
    weigh-spread w h (scale c f) ∙ weigh-scale _ c f ∙ sym (weigh-scale w c (spread h f) ∙ ap (λ n. c * n) (weigh-spread w h f)))

-- ---- spans

module _ {N : Type 0} (p : ℕ) (Named : N → Type 0) (row : N → Poly) where
  pub span-alike : {x y : Poly} → Alike p x y → InNamedSpan p Named row x → InNamedSpan p Named row y
  span-alike h s = record { items = s.items; named = s.named; gives = poly_alike (joined (turned h) (alike_poly s.gives)) }

  pub span-zero : InNamedSpan p Named row []
  span-zero = record { items = []; named = tt; gives = poly_alike (itself []) }

  pub span-append : {x y : Poly} → InNamedSpan p Named row x → InNamedSpan p Named row y → InNamedSpan p Named row (x ++ y)
  span-append a b = record {
    items = a.items ++ b.items;
    named = each-append _ a.items b.items a.named b.named;
    gives = poly_alike (joined (append-alike (alike_poly a.gives) (alike_poly b.gives)) (turned (spread-append row a.items b.items)));
  }

  pub span-scale : (c : ℕ) {x : Poly} → InNamedSpan p Named row x → InNamedSpan p Named row (scale c x)
  span-scale c a = record {
    items = scale c a.items;
    named = each-scale Named c a.items a.named;
    gives = poly_alike (joined (scale-alike c (alike_poly a.gives)) (turned (spread-scale row c a.items)));
  }

  pub span-one : (n : N) → Named n → InNamedSpan p Named row (row n)
  span-one n h = record {
    items = (1, n) ∷ [];
    named = (h, tt);
    gives = poly_alike (equal _ _ (λ w. sym (weigh-spread w row ((1, n) ∷ []) ∙ omega arith)));
  }

  pub span-spread : {J : Type 0} (h : J → Poly) (u : Comb J) → Each (λ t. InNamedSpan p Named row (h t.1)) u → InNamedSpan p Named row (spread h u)
  span-spread h [] a = span-zero
  span-spread h (t ∷ u) a = span-append (span-scale t.0 a.0) (span-spread h u a.1)

-- ---- the row of a form at vectors is linear at each of its positions

module _ {I K : Type 0} (pair : I → I → K) (prod : I → I → Comb I) where
  pub image-linear : (v : ℕ → Comb I) (k : ℕ) (w : K → ℕ) (u : Comb I) (t : Tree) → count k t ≡ 1 →
      weigh w (image pair prod (put v k u) t) ≡ weigh (λ i. weigh w (image pair prod (put v k (unit i)) t)) u
  image-linear v k w u (leaf j) h = sym (weigh-zero u)
  image-linear v k w u (node l r) h = elim (cases_eq (count k l) 0) [
    | inl z ↦
        weigh-outer pair w (evaluate prod (put v k u) l) (evaluate prod (put v k u) r)
        ∙ rw (evaluate-away prod v k u l z) (weigh-equal _ _ (evaluate prod v l) (λ i. evaluate-linear prod v k (λ j. w (pair i j)) u r (omega arith))
        ∙ weigh-swap (λ i a. weigh (λ j. w (pair i j)) (evaluate prod (put v k (unit a)) r)) (evaluate prod v l) u
        ∙ weigh-equal _ _ u (λ a. sym (weigh-outer pair w (evaluate prod (put v k (unit a)) l) (evaluate prod (put v k (unit a)) r) ∙ rw (evaluate-away prod v k (unit a) l z))))
    | inr z ↦
        let o : count k l ≡ 1 = omega arith in let y : count k r ≡ 0 = omega arith in
        weigh-outer pair w (evaluate prod (put v k u) l) (evaluate prod (put v k u) r)
        ∙ rw (evaluate-away prod v k u r y) (evaluate-linear prod v k (λ i. weigh (λ j. w (pair i j)) (evaluate prod v r)) u l o
        ∙ weigh-equal _ _ u (λ a. sym (weigh-outer pair w (evaluate prod (put v k (unit a)) l) (evaluate prod (put v k (unit a)) r) ∙ rw (evaluate-away prod v k (unit a) r y))))
  ]

  -- the sum of the images at vectors
  abbrev pub row_at : (ℕ → Comb I) → Form → Comb K
  row_at v f = spread (image pair prod v) f.terms

  pub row-linear : {p : ℕ} (v : ℕ → Comb I) (k : ℕ) (u : Comb I) (f : Form) → IsMultilinearForm f → k < f.degree →
      Alike p (row_at (put v k u) f) (spread (λ i. row_at (put v k (unit i)) f) u)
  row-linear v k u f m l = equal _ _ (λ w.
      weigh-spread w (image pair prod (put v k u)) f.terms
      ∙ weigh-each (IsMultilinear f.degree) _ _ f.terms (λ t a. image-linear v k w u t (count-multilinear f.degree k t a l)) m
      ∙ weigh-swap (λ t i. weigh w (image pair prod (put v k (unit i)) t)) f.terms u
      ∙ weigh-equal _ _ u (λ i. sym (weigh-spread w (image pair prod (put v k (unit i))) f.terms))
      ∙ sym (weigh-spread w (λ i. row_at (put v k (unit i)) f) u))

  image-equal : (u v : ℕ → Comb I) (t : Tree) → ((j : ℕ) → u j ≡ v j) → image pair prod u t ≡ image pair prod v t
  image-equal u v (leaf k) h = refl
  image-equal u v (node l r) h = rw (evaluate-equal prod u v l h, evaluate-equal prod u v r h)

  pub row-equal : (u v : ℕ → Comb I) (f : Comb Tree) → ((j : ℕ) → u j ≡ v j) → spread (image pair prod u) f ≡ spread (image pair prod v) f
  row-equal u v [] h = refl
  row-equal u v (t ∷ f) h = rw (image-equal u v t.1 h, row-equal u v f h)

  -- vectors that are basis elements from place `n` on, fit for their places
  abbrev pub AreFitFrom : (ℕ → I → Type 0) → ℕ → ℕ → (ℕ → Comb I) → Type 0
  AreFitFrom Fits d n v = (j : ℕ) → n ≤ j → (i : I) × (v j ≡ unit i) × (j < d → Fits j i)

  put_fit : (Fits : ℕ → I → Type 0) (d : ℕ) (v : ℕ → Comb I) (n : ℕ) (i : I) → Fits n i → AreFitFrom Fits d (suc n) v → AreFitFrom Fits d n (put v n (unit i))
  put_fit Fits d v n i f h j l = elim (cases_eq j n) [
    | inl e ↦ let q : eqb j n ≡ true = grind (arith, nat_tests) in (i, rw q, λ x. subst (λ z. Fits z i) (sym e) f)
    | inr e ↦ let q : eqb j n ≡ false = grind (arith, nat_tests) in let k = h j (omega arith) in (k.0, rw q k.1, k.2)
  ]

  put_other : (v : ℕ → Comb I) (n : ℕ) (u : Comb I) (k : ℕ) → k < n → v k ≡ put v n u k
  put_other v n u k h = let q : eqb k n ≡ false = grind (arith, nat_tests) in rw q

module _ {I : Type 0} (pair : I → I → Tree) (prod : I → I → Comb I) where
  -- what a span has at all fitting basis elements, it has at all combinations of them
  pub rows-span : {N : Type 0} (p : ℕ) (Named : N → Type 0) (row : N → Poly) (f : Form) → IsMultilinearForm f → (Fits : ℕ → I → Type 0) →
      ((b : ℕ → I) → ((k : ℕ) → k < f.degree → Fits k (b k)) → InNamedSpan p Named row (form_row pair prod b f)) →
      (n : ℕ) (v : ℕ → Comb I) → n ≤ f.degree → ((k : ℕ) → k < n → Each (λ t. Fits k t.1) (v k)) → AreFitFrom pair prod Fits f.degree n v → InNamedSpan p Named row (row_at pair prod v f)
  rows-span p Named row f m Fits base zero v l a h =
      let at : (j : ℕ) → (i : I) × (v j ≡ unit i) × (j < f.degree → Fits j i) = λ j. h j (omega arith) in
      rw (row-equal pair prod v (λ j. unit (at j).0) f.terms (λ j. (at j).1)) (base (λ j. (at j).0) (λ k q. (at k).2 q))
  rows-span p Named row f m Fits base (suc n) v l a h =
      rw (row-equal pair prod v (put v n (v n)) f.terms (put_itself v n))
      (span-alike p Named row (turned (row-linear pair prod v n (v n) f m l)) (span-spread p Named row _ (v n)
      (each-from (λ t. Fits n t.1) _ (v n) (λ t q. rows-span p Named row f m Fits base n (put v n (unit t.1)) (omega arith)
      (λ k s. subst (λ z. Each (λ t. Fits k t.1) z) (put_other pair prod v n (unit t.1) k s) (a k (omega arith)))
      (put_fit pair prod Fits f.degree v n t.1 q h)) (a n (omega arith)))))
