-- Each consequence within the target has a derivation.
use Rattle.std.proofs.Common.{◌≡◌, ℕ, suc, ◌-◌, ◌%◌, ◌<◌, ◌≤◌, Bool, true, false, ◌&&◌, List, [], ◌∷◌, ◌++◌, length, get_or, sym, refl, ap, ◌∙◌, subst, arith, inl, inr, None, ltb, leb}
use Rattle.std.specs.Bool.{if◌then◌else◌, IsTrue, ◌==◌}
use Rattle.std.specs.List.{flat_map, filter}
use Rattle.std.proofs.lemmas.Bool.{cases_eq, false≢true, eq-eqb, eqb-true, and_parts, and_from, and_right, not_from_true}
use Rattle.std.proofs.lemmas.Bool.Decides.{nat_tests}
use Rattle.std.proofs.Math.Nat.{mod-eq_of_lt}
use Rattle.gf_field.specs.Modular.{IsSameMod}
use Rattle.gf_sums.specs.Sums.{total, weigh, coefficient, scale, reindex}
use Rattle.gf_sums.proofs.Totals.{total-equal}
use Rattle.gf_sums.proofs.Alike.{Alike, equal, turned, joined}
use Rattle.alb_mono.specs.Tree.{Tree, leaf, node, count, listed, type_of, type_le, AreBelow, same_tree}
use Rattle.alb_mono.specs.Listing.{Each}
use Rattle.alb_mono.specs.declared.side.Side.{Side}
use Rattle.alb_poly.specs.Poly.{Poly}
use Rattle.alb_poly.specs.Consequence.{beside, within, Item, form_at, IsItem, item_value, AreItems, IsConsequence, AreMultilinear}
use Rattle.alb_poly.specs.Instance.{Form, fill, instance, leaves, IsMultilinear, IsAtMost, IsWithin}
use Rattle.alb_poly.proofs.Orders.{map-map}
use Rattle.alb_poly.proofs.Multilinear.{each-map, each-append, each-from}
use Rattle.alb_poly.proofs.Parts.{multilinear_at, count-leaves, listed-equal}
use Rattle.alb_poly.proofs.Consequence.{value, alike_poly, poly_alike}
use Rattle.alb_problem.proofs.Keep.{keep-alike, keep-same, leaves-within, item_leaves, leaves-item, TellsOfItems, keep-items, kept_are, kept_fit}
use Rattle.alb_deriv.specs.Derivation.{Line, Instance, Times, Sum, earlier, line_values, fault, AreSound, IsDerivation, AreAllBelow, IsLineBelow, is_no_place}
use Rattle.alb_deriv.proofs.Fits.{any-none}
use Rattle.alb_deriv.proofs.Lines.{values-append, length-values, get-values, last-line, sound-append, Extends, extends-line}

-- ---- types within the target

-- each of the counts is at most the target's
unfoldable pub fits : List ℕ → (ℕ → ℕ) → Bool
fits target f = type_le (listed f 0 (length target)) target

fewer-from : (f g : ℕ → ℕ) (k : ℕ) (target : List ℕ) → ((i : ℕ) → f i ≤ g i) → IsTrue (type_le (listed g k (length target)) target) →
    IsTrue (type_le (listed f k (length target)) target)
fewer-from f g k [] h l = refl
fewer-from f g k (x ∷ target) h l =
    let a : IsTrue (leb (g k) x) = (and_parts _ _ l).0 in
    let c : f k ≤ g k = h k in
    let b : IsTrue (leb (f k) x) = grind (arith, nat_tests) in
    and_from _ _ b (fewer-from f g (suc k) target h (and_parts _ _ l).1)

pub fits-fewer : (f g : ℕ → ℕ) (target : List ℕ) → ((i : ℕ) → f i ≤ g i) → IsTrue (fits target g) → IsTrue (fits target f)
unfolding fits
fits-fewer f g target h l = fewer-from f g 0 target h l

-- 1 at the generator `g`
abbrev pub one_at : ℕ → ℕ → ℕ
one_at g k = if k == g then 1 else 0

-- 1 at each generator that is none of the first `n`
pub outside : ℕ → ℕ → ℕ
outside n k = if ltb k n then 0 else 1

outside-below : (n : ℕ) (m : Tree) → AreBelow n m → leaves (outside n) m ≡ 0
unfolding outside
outside-below n (leaf k) h = let e : ltb k n ≡ true = grind (arith, nat_tests) in rw e
outside-below n (node l r) h = omega (arith, outside-below n l h.0, outside-below n r h.1)

pub below-outside : (n : ℕ) (m : Tree) → leaves (outside n) m ≡ 0 → AreBelow n m
unfolding outside
below-outside n (leaf k) h = grind (arith, nat_tests)
below-outside n (node l r) h = (below-outside n l (omega arith), below-outside n r (omega arith))

-- the monomial is at most the target
unfoldable pub is_at_most : List ℕ → Tree → Bool
is_at_most target m = leaves (outside (length target)) m == 0 && fits target (λ g. leaves (one_at g) m)

pub at_most-IsAtMost : (target : List ℕ) (m : Tree) → IsAtMost target m → IsTrue (is_at_most target m)
unfolding is_at_most fits type_of
at_most-IsAtMost target m h = and_from _ _
    (eq-eqb _ 0 (outside-below (length target) m h.below))
    (subst (λ ts. IsTrue (type_le ts target)) (listed-equal _ _ 0 (length target) (λ g. count-leaves g m)) h.counts)

-- the same of all monomials of an item
pub item_at_most : List ℕ → Item → Bool
item_at_most target it =
    item_leaves (outside (length target)) it.context it.args == 0 && fits target (λ g. item_leaves (one_at g) it.context it.args)

pub tells-at_most : (target : List ℕ) → TellsOfItems (is_at_most target) (item_at_most target)
unfolding is_at_most item_at_most fits
tells-at_most target it m h =
    let a = leaves-item (outside (length target)) it.context it.args m h in
    let b : listed (λ g. leaves (one_at g) (within it.context (fill it.args m))) 0 (length target)
    ≡ listed (λ g. item_leaves (one_at g) it.context it.args) 0 (length target) =
    listed-equal _ _ 0 (length target) (λ g. leaves-item (one_at g) it.context it.args m h) in
    rw (a, b)

pub item-below : (target : List ℕ) (it : Item) → IsTrue (item_at_most target it) → item_leaves (outside (length target)) it.context it.args ≡ 0
unfolding item_at_most
item-below target it a = eqb-true _ 0 (and_parts _ _ a).0

pub item-fits : (target : List ℕ) (it : Item) → IsTrue (item_at_most target it) → IsTrue (fits target (λ g. item_leaves (one_at g) it.context it.args))
unfolding item_at_most
item-fits target it a = (and_parts _ _ a).1

-- ---- the lines of an item

place_fits : (n k : ℕ) → k < n → is_no_place n (suc k) ≡ false
place_fits n k h = grind (arith, nat_tests)

earlier-suc : (gs : List Poly) (k : ℕ) → earlier gs (suc k) ≡ get_or gs k []
earlier-suc gs k = let e : suc k - 1 ≡ k = omega arith in ap (λ j. get_or gs j []) e

pub reindex-within_none : (f : Poly) → reindex (within []) f ≡ f
reindex-within_none [] = refl
reindex-within_none (t ∷ f) = ap (λ g. t ∷ g) (reindex-within_none f)

pub below_each : (n : ℕ) (ms : List Tree) → total (leaves (outside n)) ms ≡ 0 → AreAllBelow n ms
below_each n [] h = tt
below_each n (m ∷ ms) h = (below-outside n m (omega arith), below_each n ms (omega arith))

pub context_below : (n : ℕ) (c : List (Side × Tree)) → total (λ s. leaves (outside n) s.1) c ≡ 0 → Each (λ s. AreBelow n s.1) c
context_below n [] h = tt
context_below n (s ∷ c) h = (below-outside n s.1 (omega arith), context_below n c (omega arith))

module _ (p : ℕ) (target : List ℕ) (fs : List Form) where
  unfoldable pub fits_target : Tree → Bool
  fits_target m = type_le (type_of (length target) m) target

  pub fits-inner : (c : List (Side × Tree)) (x : Tree) → IsTrue (fits_target (within c x)) → IsTrue (fits_target x)
  unfolding fits_target type_of
  fits-inner c x h = fewer-from (λ g. count g x) (λ g. count g (within c x)) 0 target
      (λ g. omega (arith, count-leaves g x, count-leaves g (within c x), leaves-within (one_at g) c x)) h

  times-sound : (gs : List Poly) (k : ℕ) (s : Side × Tree) → k < length gs → Each (λ t. IsTrue (fits_target t.1)) (reindex (beside s) (get_or gs k [])) →
      fault p target fs gs (Times (suc k) s) ≡ None
  unfolding fits_target
  times-sound gs k s h a =
      rw (place_fits (length gs) k h, earlier-suc gs k)
      (rw (any-none _ (reindex (beside s) (get_or gs k [])) (each-from _ _ (reindex (beside s) (get_or gs k [])) (λ t b. and_right _ _ (not_from_true _ b)) a)))

  -- the context's steps, from the inside out
  extends-within : (gs : List Poly) (f : Poly) (c : List (Side × Tree)) → Each (λ s. AreBelow (length target) s.1) c →
      Each (λ t. IsTrue (fits_target (within c t.1))) f → Extends fs p target gs f → Extends fs p target gs (reindex (within c) f)
  extends-within gs f [] b a x = subst (Extends fs p target gs) (sym (reindex-within_none f)) x
  extends-within gs f (s ∷ c) b a x =
      let G : List Poly = line_values fs gs x.lines in
      let inner : Each (λ t. IsTrue (fits_target (within c t.1))) (reindex (beside s) f) =
      each-map (λ t. IsTrue (fits_target (within (s ∷ c) t.1))) (λ t. IsTrue (fits_target (within c t.1))) (λ t. (t.0, beside s t.1)) f (λ t h. h) a in
      let whole : Each (λ t. IsTrue (fits_target t.1)) (reindex (beside s) f) =
      each-from (λ t. IsTrue (fits_target (within c t.1))) (λ t. IsTrue (fits_target t.1)) (reindex (beside s) f) (λ t h. fits-inner c t.1 h) inner in
      let e : earlier G (suc x.place) ≡ f = earlier-suc G x.place ∙ x.holds in
      let y : Extends fs p target gs (reindex (beside s) (earlier G (suc x.place))) =
      extends-line fs p target gs x.lines (Times (suc x.place) s) x.sound x.lettered b.0
      (times-sound G x.place s x.below (subst (λ h. Each (λ t. IsTrue (fits_target t.1)) (reindex (beside s) h)) (sym x.holds) whole)) in
      subst (Extends fs p target gs) (map-map _ _ f)
      (extends-within gs (reindex (beside s) f) c b.1 inner (subst (λ h. Extends fs p target gs (reindex (beside s) h)) e y))

  instance-sound : (gs : List Poly) (it : Item) → IsItem fs it → IsTrue (fits target (λ g. total (count g) it.args)) →
      fault p target fs gs (Instance (suc it.form) it.args) ≡ None
  unfolding fits
  instance-sound gs it h a =
      let e : suc it.form - 1 ≡ it.form = omega arith in
      let q : (length it.args == (form_at fs it.form).degree) ≡ true = eq-eqb _ _ h.full in
      rw (place_fits (length fs) it.form h.named, e, q, a)

  -- one line for the instance, and one for each step of the context
  extends-item : (gs : List Poly) (it : Item) → AreMultilinear fs → IsItem fs it → IsTrue (item_at_most target it) →
      Extends fs p target gs (reindex (within it.context) (instance (form_at fs it.form) it.args))
  unfolding item_at_most fits fits_target type_of
  extends-item gs it multi h a =
      let n : ℕ = length target in
      let z = item-below target it a in
      let typed = item-fits target it a in
      let counts : (g : ℕ) → total (count g) it.args ≡ total (leaves (one_at g)) it.args =
      λ g. total-equal (count g) (leaves (one_at g)) it.args (count-leaves g) in
      let e : suc it.form - 1 ≡ it.form = omega arith in
      extends-within gs (instance (form_at fs it.form) it.args) it.context (context_below n it.context (omega arith))
      (each-map (λ t. IsMultilinear (form_at fs it.form).degree t.1) (λ t. IsTrue (fits_target (within it.context t.1))) (λ t. (t.0, fill it.args t.1)) (form_at fs it.form).terms
      (λ t k. subst (λ ts. IsTrue (type_le ts target))
      (listed-equal _ _ 0 n (λ g. sym (count-leaves g (within it.context (fill it.args t.1))
      ∙ leaves-item (one_at g) it.context it.args t.1 (subst (λ j. IsMultilinear j t.1) (sym h.full) k)))) typed)
      (multilinear_at fs it.form multi))
      (subst (λ k. Extends fs p target gs (instance (form_at fs k) it.args)) e
      (extends-line fs p target gs [] (Instance (suc it.form) it.args) tt tt (below_each n it.args (omega arith))
      (instance-sound gs it h (fits-fewer (λ g. total (count g) it.args) (λ g. item_leaves (one_at g) it.context it.args) target
      (λ g. omega (arith, counts g)) typed))))

  sum-sound : (gs : List Poly) (cs : List (ℕ × ℕ)) → Each (λ c. is_no_place (length gs) c.1 ≡ false) cs → fault p target fs gs (Sum cs) ≡ None
  sum-sound gs cs a = rw (any-none (λ c. is_no_place (length gs) c.1) cs a)

  -- lines that lead from lines with the polynomials `gs` to each of some items
  record Collects (gs : List Poly) (its : List Item) : Type 0 where
    lines : List Line
    sound : AreSound p target fs gs lines
    lettered : Each (IsLineBelow (length target)) lines
    sums : List (ℕ × ℕ)
    placed : Each (λ c. is_no_place (length (line_values fs gs lines)) c.1 ≡ false) sums
    holds : flat_map (λ c. scale c.0 (earlier (line_values fs gs lines) c.1)) sums ≡ value fs its

  collects-items : (gs : List Poly) (its : List Item) → AreMultilinear fs → AreItems fs its → Each (λ it. IsTrue (item_at_most target it)) its → Collects gs its
  collects-items gs [] multi h a = record { lines = []; sound = tt; lettered = tt; sums = []; placed = tt; holds = refl }
  collects-items gs (it ∷ its) multi h a =
      let x = extends-item gs it multi h.0 a.0 in
      let G : List Poly = line_values fs gs x.lines in
      let y = collects-items G its multi h.1 a.1 in
      let e = values-append fs gs x.lines y.lines in
      let H : List Poly = line_values fs G y.lines in
      let sums : List (ℕ × ℕ) = (it.coef, suc x.place) ∷ y.sums in
      let first : earlier H (suc x.place) ≡ reindex (within it.context) (instance (form_at fs it.form) it.args) =
      earlier-suc H x.place ∙ get-values fs G y.lines x.place x.below ∙ x.holds in
      record {
        lines = x.lines ++ y.lines;
        sound = sound-append fs p target gs x.lines y.lines x.sound y.sound;
        lettered = each-append (IsLineBelow (length target)) x.lines y.lines x.lettered y.lettered;
        sums = sums;
        placed = subst (λ K. Each (λ c. is_no_place (length K) c.1 ≡ false) sums) (sym e)
            (place_fits (length H) x.place (omega (arith, x.below, length-values fs G y.lines)), y.placed);
        holds = subst (λ K. flat_map (λ c. scale c.0 (earlier K c.1)) sums ≡ value fs (it ∷ its)) (sym e)
            (ap (λ f. scale it.coef f ++ flat_map (λ c. scale c.0 (earlier H c.1)) y.sums) first
            ∙ ap (λ f. item_value fs it ++ f) y.holds);
      }

module _ (p : ℕ) (target : List ℕ) (fs : List Form) where
  -- `g` has a derivation whose monomials have no other generators than the target's
  abbrev pub HasDerivation : Poly → Type 0
  HasDerivation g = (ls : List Line) × IsDerivation p target fs g ls × Each (IsLineBelow (length target)) ls

  -- the sum of items that are at most the target
  derivation-items : (its : List Item) → AreMultilinear fs → AreItems fs its → Each (λ it. IsTrue (item_at_most target it)) its → HasDerivation (value fs its)
  derivation-items its multi h a =
      let x = collects-items p target fs [] its multi h a in (
        x.lines ++ Sum x.sums ∷ [],
        record {
          sound = sound-append fs p target [] x.lines (Sum x.sums ∷ []) x.sound (sum-sound p target fs (line_values fs [] x.lines) x.sums x.placed, tt);
          last = poly_alike (equal _ _ (λ w. ap (weigh w) (last-line fs x.lines (Sum x.sums) ∙ x.holds)));
        },
        each-append (IsLineBelow (length target)) x.lines (Sum x.sums ∷ []) x.lettered (tt, tt),
      )

  -- the polynomial is a sum of items that are at most the target
  pub record IsOfItems (g : Poly) : Type 0 where
    pub items : List Item
    pub are : AreItems fs items
    pub at_most : Each (λ it. IsTrue (item_at_most target it)) items
    pub same : Alike p (value fs items) g

  -- Each consequence within the target is.
  pub consequence-items : (g : Poly) → 0 < p → AreMultilinear fs → IsWithin p target g → IsConsequence p fs g → IsOfItems g
  consequence-items g pos multi within c =
      let q = is_at_most target in
      let fit = item_at_most target in
      let tells = tells-at_most target in
      let small : (m : Tree) → q m ≡ false → IsSameMod p (coefficient same_tree g m) 0 =
      λ m e. elim (cases_eq (coefficient same_tree g m % p) 0) [
        | inl z ↦ record { same = z ∙ sym (mod-eq_of_lt pos) }
        | inr z ↦ absurd (false≢true (sym e ∙ at_most-IsAtMost target m (within m z)))
      ] in
      record {
        items = filter fit c.items;
        are = kept_are p fs multi q fit tells c.items c.are;
        at_most = kept_fit p fs multi q fit tells c.items;
        same = joined (turned (keep-items p fs multi q fit tells c.items c.are))
            (joined (keep-alike q _ g (turned (alike_poly c.same)))
            (keep-same q g small));
      }

  -- Each consequence within the target has a derivation.
  pub consequence-derivation : (g : Poly) → 0 < p → AreMultilinear fs → IsWithin p target g → IsConsequence p fs g → HasDerivation g
  consequence-derivation g pos multi within c =
      let k = consequence-items g pos multi within c in
      let d = derivation-items k.items multi k.are k.at_most in
      (d.0, record { sound = d.1.sound; last = poly_alike (joined (alike_poly d.1.last) k.same) }, d.2)
