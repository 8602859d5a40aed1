-- How the parts of a derivation out of a table are put together, as combinations of lines that stand.
use Rattle.std.proofs.Common.{◌≡◌, ℕ, ◌+◌, ◌-◌, ◌<◌, List, [], ◌∷◌, length, sym, subst}
use Rattle.std.specs.Bool.{IsTrue}
use Rattle.gf_sums.specs.Sums.{total, reindex}
use Rattle.gf_sums.proofs.Alike.{Alike, turned}
use Rattle.alb_mono.specs.Listing.{Each}
use Rattle.alb_mono.specs.Tree.{Tree, node, count, listed, type_of, type_le, AreBelow}
use Rattle.alb_mono.specs.declared.side.Side.{Side}
use Rattle.alb_mono.specs.declared.side.Side.TheVariants.{Left, Right}
use Rattle.alb_mono.proofs.Leaves.{below_from_test}
use Rattle.alb_poly.specs.Textbook.{unit}
use Rattle.alb_poly.specs.Consequence.{beside, form_at}
use Rattle.alb_poly.specs.Poly.{Poly}
use Rattle.alb_poly.specs.Instance.{Form, instance}
use Rattle.alb_poly.proofs.Multilinear.{each-from}
use Rattle.alb_deriv.specs.Derivation.{Line, Instance, AreAllBelow}
use Rattle.alb_deriv.specs.Short.{AreFine, IsSumOf}
use Rattle.alb_deriv.proofs.Appended.{IsFitting, Appends, fitting-each, sum-alike, append-instance}
use Rattle.alb_table.specs.Right.{SameType, difference, mono_value, poly_value, IsWithinDegree, IsTypeTo}
use Rattle.alb_table.specs.Block.{spread, IsTupleAt}
use Rattle.alb_table.proofs.Types.{type-itself, type-joined, type-node, type-listed}
use Rattle.alb_table.proofs.Values.{each-scale}
use Rattle.alb_trace.proofs.Splits.{polynomial-split, less-zero}

-- ---- what fits the target

pub all_below : (n : ℕ) (ms : List Tree) → Each (AreBelow n) ms → AreAllBelow n ms
all_below n [] a = tt
all_below n (m ∷ ms) a = (a.0, all_below n ms a.1)

pub beside-types : (s : Side × Tree) (z : Tree) (f : Poly) → Each (λ t. SameType (beside s t.1) z) f → Each (λ t. SameType t.1 z) (reindex (beside s) f)
beside-types s z [] a = tt
beside-types s z (t ∷ f) a = (a.0, beside-types s z f a.1)

pub types-less : (p : ℕ) (z m : Tree) (f : Poly) → SameType m z → Each (λ t. SameType t.1 m) f → Each (λ t. SameType t.1 z) (difference p (unit m) f)
types-less p z m f s a = (s, each-scale (λ x. SameType x z) (p - 1) f (each-from _ _ f (λ t k. type-joined k s) a))

-- polynomials of the type of a monomial that is at most the target
fitting-types : (p : ℕ) → 0 < p → (most : ℕ) (target : List ℕ) (fs : List Form) (z : Tree) (f : Poly) → IsTrue (type_le (type_of (length target) z) target) → Each (λ t. SameType t.1 z) f → IsFitting p target f
fitting-types p pos most target fs z f h a = fitting-each p pos most target fs f
    (each-from (λ t. SameType t.1 z) _ f (λ t s. subst (λ ts. IsTrue (type_le ts target)) (sym (type-listed (length target) t.1 z s)) h) a)

module _ (p : ℕ) (pos : 0 < p) (most : ℕ) (target : List ℕ) (fs : List Form) (e : ℕ) (l r : Tree) (inside : IsWithinDegree target e (node l r)) where
  -- the monomials of the left factor less its parts, beside the right factor, are at most the target
  pub fits-right : (f : Poly) → Each (λ t. SameType t.1 l) f → IsFitting p target (reindex (beside (Right, r)) (difference p (unit l) f))
  fits-right f a =
      let g : Poly = difference p (unit l) f in
      fitting-types p pos most target fs (node l r) (reindex (beside (Right, r)) g) inside.type
      (beside-types (Right, r) (node l r) g (each-from (λ t. SameType t.1 l) _ g (λ t k. type-node k (type-itself r)) (types-less p l l f (type-itself l) a)))

  -- and so are those of the right factor, beside a part of the left one
  pub fits-left : (b : Tree) (f : Poly) → SameType b l → Each (λ t. SameType t.1 r) f → IsFitting p target (reindex (beside (Left, b)) (difference p (unit r) f))
  fits-left b f k a =
      let g : Poly = difference p (unit r) f in
      fitting-types p pos most target fs (node l r) (reindex (beside (Left, b)) g) inside.type
      (beside-types (Left, b) (node l r) g (each-from (λ t. SameType t.1 r) _ g (λ t q. type-node k q) (types-less p r r f (type-itself r) a)))

-- ---- a polynomial

module _ (p : ℕ) (pos : 0 < p) (fs : List Form) where
  -- A polynomial less its value, from its monomials less theirs; a value that is zero goes away.
  pub polynomial-sum : (entry : Tree → Tree → Poly) (ls : List Line) (g : Poly) (cs : List (ℕ × ℕ)) → IsSumOf p fs ls cs (spread (λ m. difference p (unit m) (mono_value entry m)) g) →
      IsSumOf p fs ls cs (difference p g (poly_value entry g))
  polynomial-sum entry ls g cs a = sum-alike p fs (turned (polynomial-split p pos (mono_value entry) g)) a

  pub zero_value-sum : (entry : Tree → Tree → Poly) (ls : List Line) (g : Poly) (cs : List (ℕ × ℕ)) → IsSumOf p fs ls cs (spread (λ m. difference p (unit m) (mono_value entry m)) g) →
      Alike p (poly_value entry g) [] → IsSumOf p fs ls cs g
  zero_value-sum entry ls g cs a z = sum-alike p fs (less-zero p pos g (poly_value entry g) z) (polynomial-sum entry ls g cs a)

-- ---- one more line

module _ (p : ℕ) (pos : 0 < p) (most : ℕ) (target : List ℕ) (fs : List Form) where
  -- the instance of a tuple
  pub append-tuple : (d : ℕ) (t : List ℕ) (ls : List Line) (name : ℕ × List Tree) → AreFine p most target fs ls → IsTypeTo target (d + 1) t → IsTupleAt p fs target d t name →
      Appends p most target fs ls (Instance (name.0 + 1) name.1) (instance (form_at fs name.0) name.1)
  append-tuple d t ls name h ty k =
      let e : listed (λ g. total (count g) name.1) 0 (length target) ≡ t = subst (λ n. listed (λ g. total (count g) name.1) 0 n ≡ t) ty.counts k.types in
      append-instance p pos most target fs ls name.0 name.1 h k.form k.full (subst (λ y. IsTrue (type_le y target)) (sym e) ty.le)
      (all_below (length target) name.1 (each-from _ _ name.1 (λ m b. below_from_test (length target) m b.within.below) k.basis))
