-- Consequences of the linearizations are the textbook's consequences.
use Rattle.std.proofs.Common.{◌≡◌, ℕ, ◌*◌, ◌<◌, List, [], ◌∷◌, map, length, sum, sym, ap, ◌∙◌}
use Rattle.std.specs.List.{flat_map}
use Rattle.std.proofs.lemmas.List.{length-map}
use Rattle.std.proofs.Math.Nat.{mul_assoc}
use Rattle.alb_mono.specs.Tree.{Tree}
use Rattle.gf_sums.specs.Sums.{Comb, weigh, scale, reindex}
use Rattle.gf_sums.proofs.Totals.{total-equal, total-map, total-times, weigh-scale}
use Rattle.gf_sums.proofs.Alike.{Alike, equal, itself, turned, joined, append-alike, scale-alike, reindex-alike, weigh-reindex, weigh-flat}
use Rattle.alb_poly.specs.Poly.{Poly}
use Rattle.alb_poly.specs.Consequence.{within, Item, IsItem, item_value, AreItems, IsConsequence}
use Rattle.alb_poly.specs.Instance.{instance, linearization, Identity, AreHomogeneous, linearizations, polynomials}
use Rattle.alb_poly.proofs.Multilinear.{linearization-multilinear}
use Rattle.alb_poly.proofs.Consequence.{value, alike_poly, poly_alike, flat-append}
use Rattle.alb_poly.specs.Textbook.{unit, free_product, value_at, Instance, instance_value, IsTextConsequence}
use Rattle.alb_problem.proofs.OneVariable.{vectors}
use Rattle.alb_problem.proofs.BlockPolarize.{signed_choices, linearization-polarized}
use Rattle.alb_problem.proofs.FromText.{identity_at, form_at-linearizations, get-polynomials, homogeneous_at, value-units}
use Rattle.alb_poly.proofs.Ideals.{weigh-instance}

module _ (p : ℕ) (pos : 0 < p) (fs : List Identity) (hom : AreHomogeneous fs) where
  -- the item's monomials, some of which are summed for each variable, with signs
  choices : Item → Comb (List Poly)
  choices it = signed_choices p (identity_at fs it.form).degrees (map unit it.args)

  text_instance : Item → ℕ × List Poly → Instance
  text_instance it s = record { coef = it.coef * s.0; identity = it.form; args = vectors s.1; context = it.context }

  weigh-text_instance : (w : Tree → ℕ) (it : Item) (s : ℕ × List Poly) →
      weigh w (instance_value (polynomials fs) (text_instance it s))
      ≡ it.coef * weigh (λ m. w (within it.context m)) (scale s.0 (value_at (identity_at fs it.form).terms (vectors s.1)))
  unfolding text_instance
  weigh-text_instance w it s =
      let v : Tree → ℕ = λ m. w (within it.context m) in
      weigh-instance (polynomials fs) w (text_instance it s)
      ∙ ap (λ g. it.coef * s.0 * weigh v (value_at g (vectors s.1))) (get-polynomials fs it.form)
      ∙ mul_assoc it.coef s.0 _
      ∙ ap (λ n. it.coef * n) (sym (weigh-scale v s.0 (value_at (identity_at fs it.form).terms (vectors s.1))))

  text-item : (it : Item) → IsItem (linearizations fs) it →
      Alike p (flat_map (instance_value (polynomials fs)) (map (text_instance it) (choices it))) (item_value (linearizations fs) it)
  unfolding choices
  text-item it h =
      let f = identity_at fs it.form in
      let L = linearization f.degrees f.terms in
      let H = homogeneous_at fs it.form hom in
      let e = form_at-linearizations fs it.form in
      let n : length it.args ≡ sum f.degrees = h.full ∙ ap (λ g. g.degree) e in
      let values : Poly = flat_map (λ s. scale s.0 (value_at f.terms (vectors s.1))) (choices it) in
      joined
      (equal _ (scale it.coef (reindex (within it.context) values)) (λ w.
      weigh-flat w (instance_value (polynomials fs)) (map (text_instance it) (choices it))
      ∙ total-map _ (text_instance it) (choices it)
      ∙ total-equal _ _ (choices it) (weigh-text_instance w it)
      ∙ total-times it.coef _ (choices it)
      ∙ ap (λ k. it.coef * k) (sym (weigh-flat (λ m. w (within it.context m)) _ (choices it)))
      ∙ sym (weigh-scale w it.coef (reindex (within it.context) values)
      ∙ ap (λ k. it.coef * k) (weigh-reindex w (within it.context) values))))
      (scale-alike it.coef (reindex-alike (within it.context)
      (joined (linearization-polarized free_product p pos f.degrees (map unit it.args) (length-map it.args (unit {I = Tree}) ∙ n) f.terms H)
      (joined (value-units L it.args (linearization-multilinear f.degrees f.terms H) n)
      (equal _ _ (λ w. ap (λ g. weigh w (instance g it.args)) (sym e)))))))

  text_items : List Item → List Instance
  text_items its = flat_map (λ it. map (text_instance it) (choices it)) its

  text-items : (its : List Item) → AreItems (linearizations fs) its →
      Alike p (flat_map (instance_value (polynomials fs)) (text_items its)) (value (linearizations fs) its)
  unfolding text_items
  text-items [] h = itself []
  text-items (it ∷ its) h = rw (flat-append (instance_value (polynomials fs)) (map (text_instance it) (choices it)) (text_items its))
      (append-alike (text-item it h.0) (text-items its h.1))

  -- a consequence of the linearizations is a textbook's consequence
  pub text-from_consequence : (g : Poly) → IsConsequence p (linearizations fs) g → IsTextConsequence p (polynomials fs) g
  text-from_consequence g c = record {
    items = text_items c.items;
    same = poly_alike (joined (alike_poly c.same) (turned (text-items c.items c.are)));
  }
