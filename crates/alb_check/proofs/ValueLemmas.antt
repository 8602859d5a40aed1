-- Sums of multiples of products, term by term.
use Rattle.std.proofs.Common.{◌≡◌, ℕ, ◌+◌, ◌*◌, ◌%◌, ◌<◌, List, [], ◌∷◌, ◌++◌, length, take, get_or, sym, ap, ◌∙◌, subst, arith, append-nil}
use Rattle.std.specs.List.{flat_map, All}
use Rattle.std.proofs.lemmas.List.{take_more, map-append, get_or-map, length-map}
use Rattle.gf_field.proofs.Mod.{same, of_mod, ◌⊙◌}
use Rattle.gf_sums.specs.Sums.{Comb, weigh, scale, multiply}
use Rattle.gf_sums.proofs.Totals.{weigh-append}
use Rattle.gf_sums.proofs.Alike.{Alike, equal, itself, joined, append-alike, scale-alike, scales-alike, multiply-alike}
use Rattle.alb_mono.specs.Tree.{Tree}
use Rattle.alb_poly.specs.Textbook.{evaluate, evaluate_poly}
use Rattle.alb_poly.specs.Terms.{term, terms}
use Rattle.alb_poly.specs.declared.term.Term.{Term}
use Rattle.alb_poly.proofs.Consequence.{flat-append}
use Rattle.alb_rows.specs.Row.{Cells, comb, AreSameVector}
use Rattle.alb_check.specs.declared.product.Product.{Product}
use Rattle.alb_check.specs.Products.{listed_product, times_right}
use Rattle.alb_check.proofs.VectorLemmas.{vector_alike, alike_vector}

cell_more : (cells : Cells) (k : ℕ) → k < length cells →
    comb (take (k + 1) cells) ≡ comb (take k cells) ++ ((get_or cells k (0, 0)).1, (get_or cells k (0, 0)).0) ∷ []
cell_more cells k l = ap comb (take_more cells k (0, 0) l) ∙ map-append (λ c. (c.1, c.0)) (take k cells) (get_or cells k (0, 0) ∷ [])

-- one more piece
flat_more : {X I : Type 0} (g : X → Comb I) (xs : List X) (x : X) → flat_map g (xs ++ x ∷ []) ≡ flat_map g xs ++ g x
flat_more g xs x = flat-append g xs (x ∷ []) ∙ ap (λ y. flat_map g xs ++ y) (append-nil (g x))

-- the sum `old` of the pieces so far, with the next piece added
pieces_more : {X I : Type 0} {p : ℕ} (g : X → Comb I) (xs : List X) (x : X) (start old new piece : Comb I) →
    Alike p old (start ++ flat_map g xs) → Alike p piece (g x) → Alike p new (old ++ piece) → Alike p new (start ++ flat_map g (xs ++ x ∷ []))
pieces_more {p = p} g xs x start old new piece h k n =
    joined n (joined (append-alike h k) (equal _ _ (λ w.
    weigh-append w (start ++ flat_map g xs) (g x)
    ∙ ap (λ z. z + weigh w (g x)) (weigh-append w start (flat_map g xs))
    ∙ sym (ap (λ f. weigh w (start ++ f)) (flat_more g xs x) ∙ weigh-append w start (flat_map g xs ++ g x)
    ∙ ap (λ z. weigh w start + z) (weigh-append w (flat_map g xs) (g x)) ∙ omega arith))))

module _ (p : ℕ) (xs : List Product) where
  pub times_more : (c i : ℕ) (cells : Cells) (k m : ℕ) (start old new : Comb ℕ) → k < length cells →
      m ≡ (c * (get_or cells k (0, 0)).1) % p → AreSameVector p old (start ++ times_right xs c i (comb (take k cells))) →
      AreSameVector p new (old ++ scale m (listed_product xs i (get_or cells k (0, 0)).0)) →
      AreSameVector p new (start ++ times_right xs c i (comb (take (k + 1) cells)))
  times_more c i cells k m start old new l e h n =
      let cell : ℕ × ℕ = get_or cells k (0, 0) in
      rw (cell_more cells k l)
      (alike_vector (pieces_more (λ t. scale (c * t.0) (listed_product xs i t.1)) (comb (take k cells)) (cell.1, cell.0) start old new
      (scale m (listed_product xs i cell.0)) (vector_alike h) (scales-alike (listed_product xs i cell.0) (same e ⊙ of_mod (c * cell.1))) (vector_alike n)))

  pub product_more : (left right : Cells) (k : ℕ) (old new : Comb ℕ) → k < length left →
      AreSameVector p old (multiply (listed_product xs) (comb (take k left)) (comb right)) →
      AreSameVector p new (old ++ times_right xs (get_or left k (0, 0)).1 (get_or left k (0, 0)).0 (comb right)) →
      AreSameVector p new (multiply (listed_product xs) (comb (take (k + 1) left)) (comb right))
  product_more left right k old new l h n =
      let cell : ℕ × ℕ = get_or left k (0, 0) in
      rw (cell_more left k l)
      (alike_vector (pieces_more (λ s. times_right xs s.0 s.1 (comb right)) (comb (take k left)) (cell.1, cell.0) [] old new
      (times_right xs cell.1 cell.0 (comb right)) (vector_alike h) (itself _) (vector_alike n)))

  pub value_of_product : (v : ℕ → Comb ℕ) (l r : Tree) (x y z : Comb ℕ) → AreSameVector p x (evaluate (listed_product xs) v l) →
      AreSameVector p y (evaluate (listed_product xs) v r) → AreSameVector p z (multiply (listed_product xs) x y) →
      AreSameVector p z (multiply (listed_product xs) (evaluate (listed_product xs) v l) (evaluate (listed_product xs) v r))
  value_of_product v l r x y z h k n = alike_vector (joined (vector_alike n) (multiply-alike (listed_product xs) (vector_alike h) (vector_alike k)))

  pub polynomial_more : (v : ℕ → Comb ℕ) (ts : List Term) (k : ℕ) (t : Term) (old new value : Comb ℕ) → k < length ts → t ≡ get_or ts k t →
      AreSameVector p old (evaluate_poly (listed_product xs) v (terms (take k ts))) →
      AreSameVector p value (evaluate (listed_product xs) v (term t).1) → AreSameVector p new (old ++ scale t.coef value) →
      AreSameVector p new (evaluate_poly (listed_product xs) v (terms (take (k + 1) ts)))
  polynomial_more v ts k t old new value l is h u n =
      rw (ap terms (take_more ts k t l ∙ ap (λ x. take k ts ++ x ∷ []) (sym is)) ∙ map-append term (take k ts) (t ∷ []))
      (alike_vector (pieces_more (λ s. scale s.0 (evaluate (listed_product xs) v s.1)) (terms (take k ts)) (term t) [] old new
      (scale t.coef value) (vector_alike h) (scale-alike t.coef (vector_alike u)) (vector_alike n)))

-- what holds of each term of a polynomial holds of those of its list
pub term_at : (P : ℕ × Tree → Type 0) (ts : List Term) (f : List (ℕ × Tree)) (k : ℕ) (t : Term) → terms ts ≡ f → All P f → k < length ts → t ≡ get_or ts k t → P (term t)
term_at P ts f k t e h l is =
    let m : k < length f = omega (arith, ap length e, length-map ts term) in
    subst P (ap (λ g. get_or g k (term t)) (sym e) ∙ get_or-map term ts k t (term t) l ∙ ap term (sym is)) (h k (term t) m)
