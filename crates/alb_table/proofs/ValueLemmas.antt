-- Products and values of rows.
use Rattle.std.proofs.Common.{◌≡◌, ℕ, ◌+◌, ◌*◌, ◌%◌, ◌<◌, List, [], ◌∷◌, ◌++◌, length, take, get_or, nat_eq, sym, refl, ap, ◌∙◌, arith, append_assoc, subst}
use Rattle.std.specs.Prelude.{Option, Some, None, unwrap_or, ◌↔◌}
use Rattle.std.proofs.lemmas.Bool.Decides.{nat_tests}
use Rattle.std.proofs.lemmas.List.{take_more, map-append, append-nil}
use Rattle.std.proofs.lemmas.List.Concat.{flat_map-append}
use Rattle.gf_field.specs.Modular.{IsSameMod}
use Rattle.gf_field.proofs.Mod.{same, ◌⊙◌, of_mod}
use Rattle.gf_sums.specs.Sums.{Comb, scale, multiply}
use Rattle.gf_sums.proofs.Alike.{Alike, alike-same, same-alike, joined, turned, itself, append-alike, scale-alike, scales-alike, multiply-alike}
use Rattle.alb_rows.specs.Row.{Cells, comb, AreSameVector}
use Rattle.gf_sums.proofs.Totals.{numbers-tell}
use Rattle.alb_rows.proofs.RowLemmas.{zero_is_empty, empty_is_zero}
use Rattle.alb_mono.specs.Tree.{tree, Tree, leaf, node, AreBelow}
use Rattle.alb_mono.specs.Listing.{Each}
use Rattle.alb_poly.specs.declared.term.Term.{Term}
use Rattle.alb_poly.specs.Terms.{term, terms}
use Rattle.alb_poly.specs.Textbook.{evaluate, evaluate_poly, unit}
use Rattle.alb_poly.specs.Poly.{Poly}
use Rattle.alb_table.specs.Table.{PartView, entry_of, table_product, Table}
use Rattle.alb_table.specs.Value.{IsBasisRow, times_right, vectors, generator_vector, table_value}

-- equal vectors are alike
pub vector-alike : {p : ℕ} {f g : Comb ℕ} → AreSameVector p f g → Alike p f g
vector-alike h = alike-same nat_eq numbers-tell h

vector : {p : ℕ} {f g : Comb ℕ} → Alike p f g → AreSameVector p f g
vector h = same-alike nat_eq numbers-tell h

-- equal lists are equal vectors
pub same_lists : (p : ℕ) (f g : Comb ℕ) → f ≡ g → AreSameVector p f g
same_lists p f g e = subst (λ (h : Comb ℕ). AreSameVector p f h) e (λ j. same refl)

-- adding what has no entry changes nothing
pub add_none : (p x : ℕ) (parts : List PartView) (b c : ℕ) (acc : Cells) → entry_of parts b c ≡ None → AreSameVector p (comb acc) (comb acc ++ scale x (table_product parts b c))
add_none p x parts b c acc e =
    same_lists p (comb acc) (comb acc ++ scale x (table_product parts b c))
    (sym (ap (λ (o : Option Cells). comb acc ++ scale x (comb (unwrap_or o []))) e ∙ append-nil (comb acc)))

pub add_some : (p x : ℕ) (parts : List PartView) (b c : ℕ) (acc next e : Cells) → entry_of parts b c ≡ Some e → AreSameVector p (comb next) (comb acc ++ scale x (comb e)) →
    AreSameVector p (comb next) (comb acc ++ scale x (table_product parts b c))
add_some p x parts b c acc next e q h =
    subst (λ (f : Comb ℕ). AreSameVector p (comb next) (comb acc ++ scale x f)) (sym (ap (λ (o : Option Cells). comb (unwrap_or o [])) q)) h

pub comb_more : (cells : Cells) (i : ℕ) (d : ℕ × ℕ) → i < length cells → comb (take (i + 1) cells) ≡ comb (take i cells) ++ ((get_or cells i d).1, (get_or cells i d).0) ∷ []
comb_more cells i d h = ap comb (take_more cells i d h) ∙ map-append (λ (c : ℕ × ℕ). (c.1, c.0)) (take i cells) (get_or cells i d ∷ [])

times_more : (parts : List PartView) (x b : ℕ) (f : Comb ℕ) (y k : ℕ) → times_right parts x b (f ++ (y, k) ∷ []) ≡ times_right parts x b f ++ scale (x * y) (table_product parts b k)
times_more parts x b f y k =
    flat_map-append (λ (t : ℕ × ℕ). scale (x * t.0) (table_product parts b t.1)) f ((y, k) ∷ [])
    ∙ ap (λ (g : Comb ℕ). times_right parts x b f ++ g) (append-nil (scale (x * y) (table_product parts b k)))

-- one more cell of the right row
pub add_more : (p : ℕ) (parts : List PartView) (x b : ℕ) (cells acc next start : Cells) (i m : ℕ) (d u : ℕ × ℕ) → i < length cells → d ≡ get_or cells i u → m ≡ (x * d.1) % p →
    AreSameVector p (comb acc) (comb start ++ times_right parts x b (comb (take i cells))) →
    AreSameVector p (comb next) (comb acc ++ scale m (table_product parts b d.0)) →
    AreSameVector p (comb next) (comb start ++ times_right parts x b (comb (take (i + 1) cells)))
add_more p parts x b cells acc next start i m d u l dd g h n =
    let c : comb (take (i + 1) cells) ≡ comb (take i cells) ++ (d.1, d.0) ∷ [] = comb_more cells i u l ∙ ap (λ (q : ℕ × ℕ). comb (take i cells) ++ (q.1, q.0) ∷ []) (sym dd) in
    let e : (comb start ++ times_right parts x b (comb (take i cells))) ++ scale (x * d.1) (table_product parts b d.0) ≡ comb start ++ times_right parts x b (comb (take (i + 1) cells)) =
    append_assoc (comb start) (times_right parts x b (comb (take i cells))) (scale (x * d.1) (table_product parts b d.0))
    ∙ ap (λ (f : Comb ℕ). comb start ++ f) (sym (ap (times_right parts x b) c ∙ times_more parts x b (comb (take i cells)) d.1 d.0)) in
    let s : IsSameMod p m (x * d.1) = same g ⊙ of_mod (x * d.1) in
    subst (λ (f : Comb ℕ). AreSameVector p (comb next) f) e
    (vector (joined (vector-alike n) (append-alike (vector-alike h) (scales-alike (table_product parts b d.0) s))))

-- one more cell of the left row
pub multiply_more : (p : ℕ) (parts : List PartView) (left right acc next : Cells) (i : ℕ) (d u : ℕ × ℕ) → i < length left → d ≡ get_or left i u →
    AreSameVector p (comb acc) (multiply (table_product parts) (comb (take i left)) (comb right)) →
    AreSameVector p (comb next) (comb acc ++ times_right parts d.1 d.0 (comb right)) →
    AreSameVector p (comb next) (multiply (table_product parts) (comb (take (i + 1) left)) (comb right))
multiply_more p parts left right acc next i d u l dd h n =
    let c : comb (take (i + 1) left) ≡ comb (take i left) ++ (d.1, d.0) ∷ [] = comb_more left i u l ∙ ap (λ (q : ℕ × ℕ). comb (take i left) ++ (q.1, q.0) ∷ []) (sym dd) in
    let e : multiply (table_product parts) (comb (take i left)) (comb right) ++ times_right parts d.1 d.0 (comb right) ≡ multiply (table_product parts) (comb (take (i + 1) left)) (comb right) =
    sym (ap (λ (f : Comb ℕ). multiply (table_product parts) f (comb right)) c
    ∙ flat_map-append (λ (s : ℕ × ℕ). times_right parts s.0 s.1 (comb right)) (comb (take i left)) ((d.1, d.0) ∷ [])
    ∙ ap (λ (f : Comb ℕ). multiply (table_product parts) (comb (take i left)) (comb right) ++ f) (append-nil (times_right parts d.1 d.0 (comb right)))) in
    subst (λ (f : Comb ℕ). AreSameVector p (comb next) f) e
    (vector (joined (vector-alike n) (append-alike (vector-alike h) (itself (times_right parts d.1 d.0 (comb right))))))

-- the value of a product of monomials
pub product_value : (p : ℕ) (prod : ℕ → ℕ → Comb ℕ) (x y z : Cells) (f g : Comb ℕ) → AreSameVector p (comb x) f → AreSameVector p (comb y) g →
    AreSameVector p (comb z) (multiply prod (comb x) (comb y)) → AreSameVector p (comb z) (multiply prod f g)
product_value p prod x y z f g h k n = vector (joined (vector-alike n) (multiply-alike prod (vector-alike h) (vector-alike k)))

-- equal vectors give equal values
pub evaluate-same : (prod : ℕ → ℕ → Comb ℕ) (v w : ℕ → Comb ℕ) (m : Tree) → ((k : ℕ) → v k ≡ w k) → evaluate prod v m ≡ evaluate prod w m
evaluate-same prod v w (leaf k) h = h k
evaluate-same prod v w (node l r) h =
    ap (λ (f : Comb ℕ). multiply prod f (evaluate prod v r)) (evaluate-same prod v w l h) ∙ ap (multiply prod (evaluate prod w l)) (evaluate-same prod v w r h)

-- so do vectors that are equal at the letters that occur
pub evaluate-below : (prod : ℕ → ℕ → Comb ℕ) (v w : ℕ → Comb ℕ) (n : ℕ) (m : Tree) → ((k : ℕ) → k < n → v k ≡ w k) → AreBelow n m → evaluate prod v m ≡ evaluate prod w m
evaluate-below prod v w n (leaf k) h b = h k b
evaluate-below prod v w n (node l r) h b = rw (evaluate-below prod v w n l h b.0, evaluate-below prod v w n r h b.1) refl

pub poly-below : (prod : ℕ → ℕ → Comb ℕ) (v w : ℕ → Comb ℕ) (n : ℕ) (g : Poly) → ((k : ℕ) → k < n → v k ≡ w k) → Each (λ t. AreBelow n t.1) g → evaluate_poly prod v g ≡ evaluate_poly prod w g
poly-below prod v w n [] h b = refl
poly-below prod v w n (t ∷ g) h b = rw (evaluate-below prod v w n t.1 h b.0, poly-below prod v w n g h b.1) refl

pub generator-unit : (n k : ℕ) → k < n → generator_vector n k ≡ unit k
generator-unit n k h = grind (arith, nat_tests)

terms_more : (ts : List Term) (i : ℕ) (d : Term) → i < length ts → terms (take (i + 1) ts) ≡ terms (take i ts) ++ term (get_or ts i d) ∷ []
terms_more ts i d h = ap terms (take_more ts i d h) ∙ map-append term (take i ts) (get_or ts i d ∷ [])

-- one more term of a polynomial
pub value_more : (t : Table) (ts : List Term) (rows : List Cells) (acc val next : Cells) (i : ℕ) (d : Term) → i < length ts → d ≡ get_or ts i d →
    ((k : ℕ) → vectors rows k ≡ generator_vector (length t.target) k) →
    AreSameVector t.p (comb acc) (table_value t (terms (take i ts))) →
    AreSameVector t.p (comb val) (evaluate (table_product t.parts) (vectors rows) (tree d.mono)) →
    AreSameVector t.p (comb next) (comb acc ++ scale d.coef (comb val)) →
    AreSameVector t.p (comb next) (table_value t (terms (take (i + 1) ts)))
value_more t ts rows acc val next i d l dd v h k n =
    let c : terms (take (i + 1) ts) ≡ terms (take i ts) ++ (d.coef, tree d.mono) ∷ [] = terms_more ts i d l ∙ ap (λ (s : Term). terms (take i ts) ++ term s ∷ []) (sym dd) in
    let w : ℕ → Comb ℕ = generator_vector (length t.target) in
    let e : table_value t (terms (take i ts)) ++ scale d.coef (evaluate (table_product t.parts) (generator_vector (length t.target)) (tree d.mono)) ≡ table_value t (terms (take (i + 1) ts)) =
    sym (ap (table_value t) c
    ∙ flat_map-append (λ (s : ℕ × Tree). scale s.0 (evaluate (table_product t.parts) (generator_vector (length t.target)) s.1)) (terms (take i ts)) ((d.coef, tree d.mono) ∷ [])
    ∙ ap (λ (f : Comb ℕ). table_value t (terms (take i ts)) ++ f) (append-nil (scale d.coef (evaluate (table_product t.parts) (generator_vector (length t.target)) (tree d.mono))))) in
    let g : AreSameVector t.p (comb val) (evaluate (table_product t.parts) (generator_vector (length t.target)) (tree d.mono)) =
    subst (λ (f : Comb ℕ). AreSameVector t.p (comb val) f) (evaluate-same (table_product t.parts) (vectors rows) (generator_vector (length t.target)) (tree d.mono) v) k in
    subst (λ (f : Comb ℕ). AreSameVector t.p (comb next) f) e
    (vector (joined (vector-alike n) (append-alike (vector-alike h) (scale-alike d.coef (vector-alike g)))))

-- the zero row
pub none_vector : (p n : ℕ) → IsBasisRow p n []
none_vector p n = record {
  row = record { row = record { ascending = λ i j d l m. absurd (omega arith); nonzero = λ k d l. absurd (omega arith) }; residues = λ k d l. absurd (omega arith) };
  below = λ k d l. absurd (omega arith);
}

-- a row is zero exactly where its value is
pub zero_exactly : (p n : ℕ) (r : Cells) (f : Comb ℕ) → IsBasisRow p n r → AreSameVector p (comb r) f → (r ≡ []) ↔ AreSameVector p f []
zero_exactly p n r f v h = (
  λ e. vector {g = []} (joined (turned (vector-alike {f = comb r} {g = f} h)) (vector-alike {f = comb r} {g = []} (empty_is_zero p r e))),
  λ z. zero_is_empty p r v.row.row v.row.residues (vector {g = []} (joined (vector-alike {f = comb r} {g = f} h) (vector-alike {f = f} {g = []} z))),
)
