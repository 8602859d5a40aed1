-- The laws of consequences.
use Rattle.std.proofs.Common.{◌≡◌, ◌<◌, length, ℕ, ◌*◌, true, List, [], ◌∷◌, ◌++◌, map, sym, refl, ap, ◌∙◌, arith, append_assoc}
use Rattle.std.proofs.lemmas.List.{map-append}
use Rattle.std.proofs.Math.Nat.{mul_assoc}
use Rattle.std.specs.List.{flat_map}
use Rattle.std.proofs.lemmas.Bool.{eq-eqb}
use Rattle.gf_field.proofs.Mod.{same}
use Rattle.alb_mono.specs.Tree.{same_tree, Tree, leaf, node}
use Rattle.alb_mono.proofs.Order.{same_tree-sound}
use Rattle.gf_sums.specs.Sums.{weigh, scale, reindex, TellsApart}
use Rattle.gf_sums.proofs.Totals.{weigh-equal, weigh-append, weigh-scale}
use Rattle.gf_sums.proofs.Alike.{Alike, alike-same, same-alike, equal, itself, turned, joined, append-alike, scale-alike, reindex-alike, weigh-reindex}
use Rattle.alb_poly.specs.Poly.{Poly, IsSamePoly}
use Rattle.alb_mono.specs.declared.side.Side.{Side}
use Rattle.alb_poly.specs.Consequence.{beside, within, Item, form_at, IsItem, item_value, AreItems, IsConsequence}
use Rattle.alb_poly.specs.Instance.{fill, Form, instance}

whole : (m : Tree) → same_tree m m ≡ true
whole (leaf a) = eq-eqb a a refl
whole (node l r) = rw (whole l, whole r)

pub tree_tells : TellsApart same_tree
tree_tells = record { sound = same_tree-sound; whole = whole }

pub alike_poly : {p : ℕ} {f g : Poly} → IsSamePoly p f g → Alike p f g
alike_poly h = alike-same same_tree tree_tells h

pub poly_alike : {p : ℕ} {f g : Poly} → Alike p f g → IsSamePoly p f g
poly_alike h = same-alike same_tree tree_tells h

-- the value of a list of items
abbrev pub value : List Form → List Item → Poly
value fs its = flat_map (item_value fs) its

are-append : (fs : List Form) (xs ys : List Item) → AreItems fs xs → AreItems fs ys → AreItems fs (xs ++ ys)
are-append fs [] ys h k = k
are-append fs (x ∷ xs) ys h k = (h.0, are-append fs xs ys h.1 k)

pub flat-append : {X Y : Type 0} (g : X → List Y) (xs ys : List X) → flat_map g (xs ++ ys) ≡ flat_map g xs ++ flat_map g ys
flat-append g [] ys = refl
flat-append g (x ∷ xs) ys = rw (flat-append g xs ys) (sym (append_assoc (g x) (flat_map g xs) (flat_map g ys)))

-- a change of each item that keeps the form and the arguments
are-map : (fs : List Form) (h : Item → Item) (xs : List Item) → ((it : Item) → IsItem fs it → IsItem fs (h it)) → AreItems fs xs → AreItems fs (map h xs)
are-map fs h [] k a = tt
are-map fs h (x ∷ xs) k a = (k x a.0, are-map fs h xs k a.1)

-- a change of the items that changes each one's value by a map of combinations which respects sums
value-map : {p : ℕ} (fs : List Form) (h : Item → Item) (m : Poly → Poly) → m [] ≡ [] → ((f g : Poly) → m (f ++ g) ≡ m f ++ m g) →
    ((it : Item) → Alike p (m (item_value fs it)) (item_value fs (h it))) → (xs : List Item) → Alike p (m (value fs xs)) (value fs (map h xs))
value-map fs h m z a k [] = rw z (itself [])
value-map fs h m z a k (x ∷ xs) = rw (a (item_value fs x) (value fs xs)) (append-alike (k x) (value-map fs h m z a k xs))

pub weigh-item : (fs : List Form) (w : Tree → ℕ) (it : Item) →
    weigh w (item_value fs it) ≡ it.coef * weigh (λ m. w (within it.context (fill it.args m))) (form_at fs it.form).terms
weigh-item fs w it =
    weigh-scale w it.coef (reindex (within it.context) (instance (form_at fs it.form) it.args))
    ∙ ap (λ n. it.coef * n) (weigh-reindex w (within it.context) (instance (form_at fs it.form) it.args)
    ∙ weigh-reindex (λ m. w (within it.context m)) (fill it.args) (form_at fs it.form).terms)

times_item : ℕ → Item → Item
times_item c it = record { coef = c * it.coef; form = it.form; args = it.args; context = it.context }

beside_item : Side × Tree → Item → Item
beside_item s it = record { coef = it.coef; form = it.form; args = it.args; context = it.context ++ s ∷ [] }

pub within-append : (c : List (Side × Tree)) (s : Side × Tree) (x : Tree) → within (c ++ s ∷ []) x ≡ beside s (within c x)
within-append [] s x = refl
within-append (t ∷ c) s x = within-append c s (beside t x)

pub itself' : {p : ℕ} (f g : Poly) → f ≡ g → Alike p f g
itself' f g e = equal f g (λ w. ap (weigh w) e)

module _ (p : ℕ) (fs : List Form) where
  pub consequence-same : {f g : Poly} → IsSamePoly p f g → IsConsequence p fs f → IsConsequence p fs g
  consequence-same h c = record { items = c.items; are = c.are; same = poly_alike (joined (turned (alike_poly h)) (alike_poly c.same)) }

  pub consequence-zero : IsConsequence p fs []
  consequence-zero = record { items = []; are = tt; same = λ m. same refl }

  pub consequence-append : {f g : Poly} → IsConsequence p fs f → IsConsequence p fs g → IsConsequence p fs (f ++ g)
  consequence-append a b = record {
    items = a.items ++ b.items;
    are = are-append fs a.items b.items a.are b.are;
    same = poly_alike (joined (append-alike (alike_poly a.same) (alike_poly b.same)) (itself' _ _ (sym (flat-append (item_value fs) a.items b.items))));
  }

  pub consequence-scale : (c : ℕ) {f : Poly} → IsConsequence p fs f → IsConsequence p fs (scale c f)
  unfolding times_item
  consequence-scale c a = record {
    items = map (times_item c) a.items;
    are = are-map fs (times_item c) a.items (λ it h. record { named = h.named; full = h.full }) a.are;
    same = poly_alike (joined (scale-alike c (alike_poly a.same))
        (value-map fs (times_item c) (scale c) refl (λ f g. map-append _ f g)
        (λ it. equal _ _ (λ w.
        weigh-scale w c (item_value fs it) ∙ ap (λ n. c * n) (weigh-item fs w it)
        ∙ sym (weigh-item fs w (times_item c it) ∙ mul_assoc c it.coef _))) a.items));
  }

  pub consequence-beside : (s : Side × Tree) {f : Poly} → IsConsequence p fs f → IsConsequence p fs (reindex (beside s) f)
  unfolding beside_item
  consequence-beside s a = record {
    items = map (beside_item s) a.items;
    are = are-map fs (beside_item s) a.items (λ it h. record { named = h.named; full = h.full }) a.are;
    same = poly_alike (joined (reindex-alike (beside s) (alike_poly a.same))
        (value-map fs (beside_item s) (reindex (beside s)) refl (λ f g. map-append _ f g) (λ it. equal _ _ (λ w.
        weigh-reindex w (beside s) (item_value fs it) ∙ weigh-item fs (λ m. w (beside s m)) it
        ∙ ap (λ n. it.coef * n) (weigh-equal _ _ (form_at fs it.form).terms (λ m. ap w (sym (within-append it.context s (fill it.args m)))))
        ∙ sym (weigh-item fs w (beside_item s it)))) a.items));
  }

  -- an instance by itself, as an item
  single : ℕ → List Tree → Item
  single i ms = record { coef = 1; form = i; args = ms; context = [] }

  once : (w : Tree → ℕ) (i : ℕ) (ms : List Tree) → weigh w (instance (form_at fs i) ms) ≡ weigh w (item_value fs (single i ms) ++ [])
  unfolding single
  once w i ms = omega (
    arith,
    weigh-append w (item_value fs (single i ms)) [],
    weigh-item fs w (single i ms),
    weigh-reindex w (fill ms) (form_at fs i).terms,
  )

  pub consequence-instance : (i : ℕ) (ms : List Tree) → i < length fs → length ms ≡ (form_at fs i).degree → IsConsequence p fs (instance (form_at fs i) ms)
  unfolding single
  consequence-instance i ms h k =
      record { items = single i ms ∷ []; are = (record { named = h; full = k }, tt); same = poly_alike (equal _ _ (λ w. once w i ms)) }
