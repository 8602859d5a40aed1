-- Each consequence within a target of degree at most 12 has a derivation within the limits of its text: it is a sum of no more
-- items than there are monomials within the target, and each item takes few lines.
use Rattle.std.proofs.Common.{◌≡◌, ℕ, suc, ◌+◌, ◌*◌, ◌<◌, ◌≤◌, ◌^◌, ◌⊎◌, true, List, [], ◌∷◌, ◌++◌, map, length, sum, sym, refl, ap, ◌∙◌, subst, arith, inl, inr, append_assoc}
use Rattle.std.specs.Bool.{IsTrue}
use Rattle.std.proofs.lemmas.Bool.{eqb-true, and_parts}
use Rattle.std.proofs.lemmas.List.{append-nil, length-append, length-map}
use Rattle.gf_field.specs.Modular.{IsPrime, IsSameMod}
use Rattle.gf_field.proofs.Mod.{same}
use Rattle.gf_sums.specs.Sums.{Comb, total, coefficient, reindex}
use Rattle.gf_sums.proofs.Totals.{total-append, total-map, total-equal}
use Rattle.gf_sums.proofs.Alike.{turned, joined, append-alike, scale-alike}
use Rattle.alb_mono.specs.Listing.{Each, IsIn}
use Rattle.alb_mono.specs.Tree.{Tree, degree, count, listed, type_of, type_le, AreBelow, same_tree}
use Rattle.alb_mono.specs.declared.side.Side.{Side}
use Rattle.alb_poly.specs.Poly.{Poly}
use Rattle.alb_poly.specs.Consequence.{beside, within, Item, form_at, IsItem, AreItems, IsConsequence, AreMultilinear}
use Rattle.alb_poly.specs.Instance.{Form, fill, instance, leaves, IsMultilinear, IsAtMost, IsWithin}
use Rattle.alb_poly.proofs.Consequence.{value, poly_alike, alike_poly, itself'}
use Rattle.alb_poly.proofs.Multilinear.{each-append, each-map, each-from}
use Rattle.alb_poly.proofs.Orders.{flat-map, map-map}
use Rattle.alb_poly.proofs.Terms.{absent-or}
use Rattle.alb_poly.proofs.Parts.{multilinear_at, count-leaves, listed-equal}
use Rattle.alb_problem.proofs.Keep.{item_leaves}
use Rattle.alb_deriv.specs.Derivation.{Line, Instance, Times, AreAllBelow, are_within, HasLimitedDerivation}
use Rattle.alb_deriv.specs.Short.{AreFine, IsLineOf, IsSumOf}
use Rattle.alb_deriv.proofs.Appended.{IsFitting, line-kept, sum-alike, sum-zero, append-instance, append-times, fitting-each, nothing-fine}
use Rattle.alb_deriv.proofs.Counting.{monos_within, few-within, all-within}
use Rattle.alb_deriv.proofs.Derivable.{fits, fits-fewer, one_at, below-outside, is_at_most, item_at_most, tells-at_most, item-below, item-fits, reindex-within_none, below_each, context_below, fits_target, fits-inner, consequence-items}
use Rattle.alb_deriv.proofs.Dimension.{spread, IsOver, HasFew, fewer}
use Rattle.alb_deriv.proofs.Fits.{within-degree}
use Rattle.alb_deriv.proofs.Limited.{HasResidues, few-degrees, fine-limited}
use Rattle.alb_deriv.proofs.LongSums.{long-sum}

-- ---- what an item within the target has

-- the polynomial of an item with the coefficient 1
abbrev item_poly : List Form → Item → Poly
item_poly fs it = reindex (within it.context) (instance (form_at fs it.form) it.args)

abbrev monos_of : List (Side × Tree) → List Tree
monos_of c = map (λ s. s.1) c

all_below-append : (n : ℕ) (ms ns : List Tree) → AreAllBelow n ms → AreAllBelow n ns → AreAllBelow n (ms ++ ns)
all_below-append n [] ns a b = b
all_below-append n (m ∷ ms) ns a b = (a.0, all_below-append n ms ns a.1 b)

context-all_below : (n : ℕ) (c : List (Side × Tree)) → Each (λ s. AreBelow n s.1) c → AreAllBelow n (monos_of c)
context-all_below n [] h = tt
context-all_below n (s ∷ c) h = (h.0, context-all_below n c h.1)

degree-each : (d : ℕ) (c : List (Side × Tree)) → total (λ s. degree s.1) c ≤ d → Each (λ s. degree s.1 ≤ d) c
degree-each d [] h = tt
degree-each d (s ∷ c) h = (omega arith, degree-each d c (omega arith))

module _ (target : List ℕ) (it : Item) (h : IsTrue (item_at_most target it)) where
  args-below : AreAllBelow (length target) it.args
  args-below = let z = item-below target it h in below_each (length target) it.args (omega arith)

  sides-below : Each (λ s. AreBelow (length target) s.1) it.context
  sides-below = let z = item-below target it h in context_below (length target) it.context (omega arith)

  -- all monomials of the item together are within the target
  all-at_most : are_within target (monos_of it.context ++ it.args) ≡ true
  unfolding fits
  all-at_most =
      let e : listed (λ g. total (count g) (monos_of it.context ++ it.args)) 0 (length target) ≡ listed (λ g. item_leaves (one_at g) it.context it.args) 0 (length target) =
      listed-equal _ _ 0 (length target) (λ g.
      total-append (count g) (monos_of it.context) it.args
      ∙ (λ i. (total-map (count g) (λ (s : Side × Tree). s.1) it.context ∙ total-equal _ _ it.context (λ s. count-leaves g s.1)) i + total-equal (count g) _ it.args (count-leaves g) i)) in
      subst (λ ts. type_le ts target ≡ true) (sym e) (item-fits target it h)

  degrees : total (λ s. degree s.1) it.context + total degree it.args ≤ sum target
  degrees =
      let d : total degree (monos_of it.context ++ it.args) ≤ sum target =
      within-degree target (monos_of it.context ++ it.args) (all_below-append (length target) (monos_of it.context) it.args (context-all_below (length target) it.context sides-below) args-below) all-at_most in
      omega (arith, d, total-append degree (monos_of it.context) it.args, total-map degree (λ (s : Side × Tree). s.1) it.context)

  few-sides : length it.context ≤ sum target
  few-sides = omega (arith, degrees, few-degrees (monos_of it.context), total-map degree (λ (s : Side × Tree). s.1) it.context, length-map it.context (λ (s : Side × Tree). s.1))

  -- the monomials of the instance are too
  args-at_most : IsTrue (are_within target it.args)
  unfolding fits
  args-at_most = fits-fewer (λ g. total (count g) it.args) (λ g. item_leaves (one_at g) it.context it.args) target
      (λ g. omega (arith, total-equal (count g) (leaves (one_at g)) it.args (count-leaves g))) (item-fits target it h)

at_most-test : (target : List ℕ) (m : Tree) → IsTrue (is_at_most target m) → IsAtMost target m
unfolding is_at_most fits type_of
at_most-test target m h =
    let a = and_parts _ _ h in
    record {
      below = below-outside (length target) m (eqb-true _ 0 a.0);
      counts = subst (λ ts. IsTrue (type_le ts target)) (listed-equal _ _ 0 (length target) (λ g. sym (count-leaves g m))) a.1;
    }

module _ (target : List ℕ) (fs : List Form) (multi : AreMultilinear fs) (it : Item) (is : IsItem fs it) (h : IsTrue (item_at_most target it)) where
  -- each monomial of the item is within the target
  instance-at_most : Each (λ t. IsAtMost target (within it.context t.1)) (instance (form_at fs it.form) it.args)
  instance-at_most =
      each-map (λ t. IsMultilinear (form_at fs it.form).degree t.1) (λ t. IsAtMost target (within it.context t.1)) (λ t. (t.0, fill it.args t.1)) (form_at fs it.form).terms
      (λ t k. at_most-test target (within it.context (fill it.args t.1)) (tells-at_most target it t.1 (subst (λ j. IsMultilinear j t.1) (sym is.full) k) ∙ h))
      (multilinear_at fs it.form multi)

  poly-at_most : Each (λ t. IsAtMost target t.1) (item_poly fs it)
  poly-at_most =
      each-map (λ t. IsAtMost target (within it.context t.1)) (λ t. IsAtMost target t.1) (λ t. (t.0, within it.context t.1)) (instance (form_at fs it.form) it.args) (λ t k. k) instance-at_most

  -- so it is a polynomial over those
  item-over : sum target ≤ 12 → {p : ℕ} (y : Tree) → IsIn y (monos_within target) ⊎ IsSameMod p (coefficient same_tree (item_poly fs it) y) 0
  item-over small y = elim (absent-or (IsAtMost target) (item_poly fs it) y poly-at_most) [
    | inl a ↦ inl (all-within target y small a)
    | inr z ↦ inr (same z)
  ]

-- ---- lines

module _ (p : ℕ) (pos : 0 < p) (target : List ℕ) (fs : List Form) where
  -- at most n lines after `ls`, and one of all has the polynomial `f`
  record Reaches (ls : List Line) (n : ℕ) (f : Poly) : Type 0 where
    more : List Line
    fine : AreFine p 64 target fs (ls ++ more)
    residues : Each (HasResidues p) more
    few : length more ≤ n
    place : ℕ
    line : IsLineOf p fs (ls ++ more) place f

  -- a line, and then some
  reaches-next : (ls : List Line) (l : Line) (n : ℕ) (f : Poly) → HasResidues p l → Reaches (ls ++ l ∷ []) n f → Reaches ls (suc n) f
  reaches-next ls l n f r x =
      let e : (ls ++ l ∷ []) ++ x.more ≡ ls ++ l ∷ x.more = append_assoc ls (l ∷ []) x.more in
      record {
        more = l ∷ x.more;
        fine = subst (AreFine p 64 target fs) e x.fine;
        residues = (r, x.residues);
        few = omega (arith, x.few);
        place = x.place;
        line = subst (λ ks. IsLineOf p fs ks x.place f) e x.line;
      }

  -- the steps of a context
  reaches-context : (c : List (Side × Tree)) (ls : List Line) (f : Poly) (k : ℕ) → AreFine p 64 target fs ls → IsLineOf p fs ls k f → Each (λ s. AreBelow (length target) s.1) c → Each (λ s. degree s.1 ≤ 64) c →
      Each (λ t. IsAtMost target (within c t.1)) f → Reaches ls (length c) (reindex (within c) f)
  unfolding fits_target
  reaches-context [] ls f k h l b d a = record {
    more = [];
    fine = subst (AreFine p 64 target fs) (sym (append-nil ls)) h;
    residues = tt;
    few = omega arith;
    place = k;
    line = subst (λ g. IsLineOf p fs (ls ++ []) k g) (sym (reindex-within_none f)) (subst (λ ks. IsLineOf p fs ks k f) (sym (append-nil ls)) l);
  }
  reaches-context (s ∷ c) ls f k h l b d a =
      let inner : Each (λ t. IsAtMost target (within c t.1)) (reindex (beside s) f) =
      each-map (λ t. IsAtMost target (within (s ∷ c) t.1)) (λ t. IsAtMost target (within c t.1)) (λ t. (t.0, beside s t.1)) f (λ t k. k) a in
      let x = append-times p pos 64 target fs ls k s f h l b.0 (fitting-steps c (reindex (beside s) f) inner) in
      subst (Reaches ls (suc (length c))) (map-map _ _ f)
      (reaches-next ls (Times k s) (length c) (reindex (within c) (reindex (beside s) f)) d.0
      (reaches-context c (ls ++ Times k s ∷ []) (reindex (beside s) f) (length ls + 1) x.fine x.line b.1 d.1 inner))
    where
      fitting-steps : (c : List (Side × Tree)) (g : Poly) → Each (λ t. IsAtMost target (within c t.1)) g → IsFitting p target g
      fitting-steps c g a = fitting-each p pos 64 target fs g (each-from _ _ g (λ t h. fits-inner p target fs c t.1 h.counts) a)

  -- a line for the instance, and one for each step of the context
  reaches-item : (it : Item) (ls : List Line) → AreMultilinear fs → IsItem fs it → IsTrue (item_at_most target it) → sum target ≤ 12 → AreFine p 64 target fs ls → Reaches ls 13 (item_poly fs it)
  reaches-item it ls multi is a small h =
      let f : Poly = instance (form_at fs it.form) it.args in
      let x = append-instance p pos 64 target fs ls it.form it.args h is.named is.full (args-at_most target it a) (args-below target it a) in
      let d : Each (λ s. degree s.1 ≤ 64) it.context = degree-each 64 it.context (omega (arith, degrees target it a)) in
      let y = reaches-next ls (Instance (it.form + 1) it.args) (length it.context) (item_poly fs it) tt
      (reaches-context it.context (ls ++ Instance (it.form + 1) it.args ∷ []) f (length ls + 1) x.fine x.line (sides-below target it a) d (instance-at_most target fs multi it is a)) in
      record { more = y.more; fine = y.fine; residues = y.residues; few = omega (arith, y.few, few-sides target it a); place = y.place; line = y.line }

  -- what is known of an item
  record IsKept (it : Item) : Type 0 where
    is : IsItem fs it
    at_most : IsTrue (item_at_most target it)

  -- lines after `ls`, and multiples of lines that add up to multiples of items
  record Gathers (ls : List Line) (cs : Comb Item) : Type 0 where
    more : List Line
    fine : AreFine p 64 target fs (ls ++ more)
    residues : Each (HasResidues p) more
    few : length more ≤ 13 * length cs
    sums : List (ℕ × ℕ)
    small : Each (λ c. c.0 < p) sums
    count : length sums ≡ length cs
    sum : IsSumOf p fs (ls ++ more) sums (spread (item_poly fs) cs)

  gathers-items : AreMultilinear fs → sum target ≤ 12 → (cs : Comb Item) (ls : List Line) → Each (λ c. (c.0 < p) × IsKept c.1) cs → AreFine p 64 target fs ls → Gathers ls cs
  gathers-items multi low [] ls a h = record {
    more = [];
    fine = subst (AreFine p 64 target fs) (sym (append-nil ls)) h;
    residues = tt;
    few = omega arith;
    sums = [];
    small = tt;
    count = refl;
    sum = sum-zero p fs (ls ++ []);
  }
  gathers-items multi low (c ∷ cs) ls a h =
      let x = reaches-item c.1 ls multi a.0.1.is a.0.1.at_most low h in
      let y = gathers-items multi low cs (ls ++ x.more) a.1 x.fine in
      let e : (ls ++ x.more) ++ y.more ≡ ls ++ (x.more ++ y.more) = append_assoc ls x.more y.more in
      let here : IsLineOf p fs ((ls ++ x.more) ++ y.more) x.place (item_poly fs c.1) = line-kept p fs (ls ++ x.more) y.more x.place x.line in
      record {
        more = x.more ++ y.more;
        fine = subst (AreFine p 64 target fs) e y.fine;
        residues = each-append (HasResidues p) x.more y.more x.residues y.residues;
        few = omega (arith, x.few, y.few, length-append x.more y.more);
        sums = (c.0, x.place) ∷ y.sums;
        small = (a.0.0, y.small);
        count = ap suc y.count;
        sum = subst (λ ks. IsSumOf p fs ks ((c.0, x.place) ∷ y.sums) (spread (item_poly fs) (c ∷ cs))) e (record {
          places = (here.place, y.sum.places);
          same = poly_alike (append-alike (scale-alike c.0 (alike_poly here.same)) (alike_poly y.sum.same));
        });
      }

-- the items with their coefficients
abbrev with_coefs : List Item → Comb Item
with_coefs its = map (λ it. (it.coef, it)) its

module _ (p : ℕ) (prime : IsPrime p) (target : List ℕ) (fs : List Form) (multi : AreMultilinear fs) (small : sum target ≤ 12) where
  pos : 0 < p
  pos = omega (arith, prime.above_one)

  kept-items : (its : List Item) → AreItems fs its → Each (λ it. IsTrue (item_at_most target it)) its → Each (λ c. IsKept p pos target fs c.1) (with_coefs its)
  kept-items [] a b = tt
  kept-items (it ∷ its) a b = (record { is = a.0; at_most = b.0 }, kept-items its a.1 b.1)

  over-items : (its : List Item) → AreItems fs its → Each (λ it. IsTrue (item_at_most target it)) its →
      Each (λ c. IsOver p prime (IsKept p pos target fs) (monos_within target) (item_poly fs) c.1) (with_coefs its)
  over-items [] a b = tt
  over-items (it ∷ its) a b = ((λ y. item-over target fs multi it a.0 b.0 small y), over-items its a.1 b.1)

  -- the consequence is a sum of few items
  few-items : (g : Poly) → IsWithin p target g → IsConsequence p fs g → HasFew p prime (IsKept p pos target fs) (item_poly fs) (length (monos_within target)) g
  few-items g within c =
      let k = consequence-items p target fs g pos multi within c in
      let e : spread (item_poly fs) (with_coefs k.items) ≡ value fs k.items = flat-map _ _ k.items in
      let r = fewer p prime (IsKept p pos target fs) (monos_within target) (item_poly fs) (with_coefs k.items) (kept-items k.items k.are k.at_most) (over-items k.items k.are k.at_most) in
      record {
        items = r.items;
        each = r.each;
        few = r.few;
        same = joined (turned k.same) (joined (itself' _ _ (sym e)) r.same);
      }

  -- EACH CONSEQUENCE within the target has a derivation within the limits.
  pub limited-derivation : length fs < 10 ^ 18 → (g : Poly) → IsWithin p target g → IsConsequence p fs g → HasLimitedDerivation p target fs g
  limited-derivation forms g within c =
      let k = few-items g within c in
      let x = gathers-items p pos target fs multi small k.items [] k.each (nothing-fine p pos 64 target fs) in
      let two : 2 ≤ 64 = omega arith in
      let y = long-sum p pos 64 target fs two x.more x.sums g x.fine (sum-alike p fs (turned k.same) x.sum) in
      let n : length (x.more ++ y.more) < 10 ^ 18 = omega (arith, length-append x.more y.more, x.few, y.few, x.count, k.few, few-within target small) in
      record {
        lines = x.more ++ y.more;
        are = fine-limited p target fs small forms g (x.more ++ y.more) n y.fine
            (each-append (HasResidues p) x.more y.more x.residues (y.residues prime.above_one x.small)) y.line;
      }
