-- The pivots of a block are the columns that are not normal.
use Rattle.std.proofs.Common.{◌≡◌, ℕ, ◌-◌, ◌*◌, ◌<◌, List, [], ◌∷◌, ◌++◌, sym, refl, ◌∙◌, subst, arith, inl, inr}
use Rattle.std.specs.Ordering.{ordering_then}
use Rattle.std.specs.declared.cmp.Ordering.{Ordering}
use Rattle.std.specs.declared.cmp.Ordering.TheVariants.{Less, Equal, Greater}
use Rattle.std.proofs.lemmas.Cmp.{tied_itself}
use Rattle.gf_field.proofs.Mod.{same, back, ◌⊙◌, plus}
use Rattle.alb_mono.specs.Tree.{Tree, leaf, node, type_of, cmp_trees, same_tree}
use Rattle.alb_mono.proofs.Order.{cmp_types_total, cmp_trees_total, trees_equal}
use Rattle.gf_sums.specs.Sums.{weigh, scale}
use Rattle.gf_sums.proofs.Totals.{weigh-append, weigh-scale}
use Rattle.alb_poly.specs.Textbook.{unit}
use Rattle.gf_sums.proofs.Alike.{Alike, equal, itself, turned, joined, append-alike, scale-alike, multiply-alike}
use Rattle.alb_poly.specs.Poly.{Poly}
use Rattle.alb_poly.specs.Instance.{Form}
use Rattle.alb_poly.specs.Consequence.{IsConsequence, AreMultilinear}
use Rattle.alb_mono.specs.Listing.{Each}
use Rattle.alb_poly.proofs.Multilinear.{each-append, each-from, each-flat}
use Rattle.alb_poly.proofs.Consequence.{poly_alike, tree_tells}
use Rattle.alb_table.specs.Right.{SameType, IsZeroAt, LeadsWith, IsLeading, IsNormal, outer, AreHigh, mono_value, IsBasis, IsPart, StandsFor}
use Rattle.alb_table.proofs.Types.{type-itself, type-turned, type-joined, type-node, type-listed}
use Rattle.alb_table.proofs.Coefficients.{each-coefficient}
use Rattle.alb_table.proofs.Normal.{IsLower, by-leads, leading-led, normal-left, normal-right}
use Rattle.alb_table.proofs.Congruent.{minus_twice, consequence-alike, congruent-alike, congruent-turned, congruent-consequence}
use Rattle.alb_table.proofs.Bases.{IsTable, IsNext, IsBlock, IsTuple, IsColumn, IsReducedRow}
use Rattle.alb_table.specs.Block.{image, block_image, InNamedSpan, tuple_row, IsPivotMonomial}
use Rattle.alb_table.proofs.Values.{each-scale, each-multiply, value-stands, value-normal, IsAtMost, value-at-most}
use Rattle.alb_table.proofs.Image.{image-congruent, image-spans, span-image}

-- ---- the order of products

then_at_most : (a b : Ordering) → (a ≡ Greater → ⊥) → (b ≡ Greater → ⊥) → ordering_then a b ≡ Greater → ⊥
then_at_most Less b h k e = absurd (cc)
then_at_most Equal b h k e = k e
then_at_most Greater b h k e = h refl

product-at-most : (a b l r : Tree) → SameType a l → (cmp_trees a l ≡ Greater → ⊥) → (cmp_trees b r ≡ Greater → ⊥) → cmp_trees (node a b) (node l r) ≡ Greater → ⊥
product-at-most a b l r t h k e =
    then_at_most (cmp_trees a l) (cmp_trees b r) h k (rw (type-listed 26 a l t, tied_itself cmp_types_total (type_of 26 l)) at e)

at-most-less : (x y m : Tree) → (cmp_trees y x ≡ Greater → ⊥) → cmp_trees x m ≡ Less → cmp_trees y m ≡ Less
at-most-less x y m h l = elim (cmp_trees y x) as (λ o. cmp_trees y x ≡ o → cmp_trees y m ≡ Less) [
  | Less ↦ λ e. cmp_trees_total.trans y x m e l
  | Equal ↦ λ e. subst (λ u. cmp_trees u m ≡ Less) (sym (trees_equal y x e)) l
  | Greater ↦ λ e. absurd (h e)
] refl

-- a combination of monomials that are lower than `m`
record Lowered (p : ℕ) (m : Tree) (f : Poly) : Type 0 where
  terms : Poly
  each : Each (λ t. IsLower m t.1) terms
  alike : Alike p f terms

module _ (p : ℕ) (pos : 0 < p) (fs : List Form) (multi : AreMultilinear fs) (high : AreHigh fs) (Within : Tree → Type 0) (entry : Tree → Tree → Poly)
    (table : IsTable p fs Within (IsBasis p fs Within) entry) (z : Tree) (block : IsBlock Within z) where
  abbrev Base : Tree → Type 0
  Base x = IsBasis p fs Within x

  -- the image of a monomial of the block is a combination of columns
  image-columns : (x : Tree) → IsNext Within x → SameType x z → Each (λ t. IsColumn Base z t.1) (image node entry (λ k. unit (leaf k)) x)
  image-columns (leaf k) h s = absurd h
  image-columns (node l r) h s =
      each-multiply (IsPart Base l) (IsPart Base r) (IsColumn Base z) (λ a b. (1, node a b) ∷ []) (mono_value entry l) (mono_value entry r)
      (λ a b q u. ((q.basis, u.basis, type-joined (type-node q.type u.type) s), tt))
      (value-stands p pos fs Within Base entry table l h.0).parts (value-stands p pos fs Within Base entry table r h.1).parts

  column_type : (x : Tree) → IsColumn Base z x → SameType x z
  column_type (leaf k) h = absurd h
  column_type (node b c) h = h.2

  block-columns : (g : Poly) → Each (λ t. SameType t.1 z) g → Each (λ t. IsColumn Base z t.1) (block_image entry g)
  block-columns g a = each-flat (λ t. SameType t.1 z) (λ t. IsColumn Base z t.1) _ g (λ t s.
      each-scale (IsColumn Base z) t.0 _ (image-columns t.1 (block.next t.1 s) s)) a

  -- an element of the span is a consequence of the block, as a polynomial
  pub span-consequence : (x : Poly) → InNamedSpan p (IsTuple fs Base z) (tuple_row fs entry) x → IsConsequence p fs x
  span-consequence x s =
      let i = span-image p pos fs multi high Within entry table z block x s in
      consequence-alike p fs (turned i.alike)
      (congruent-consequence p fs pos (congruent-turned p fs pos (image-congruent p pos fs multi high Within entry table z block i.polynomial
      (each-from _ _ i.polynomial (λ t h. block.next t.1 h) i.types))) i.consequence)

  -- the monomials of an element of the span are columns
  pub element-columns : (x : Poly) → InNamedSpan p (IsTuple fs Base z) (tuple_row fs entry) x → (y : Tree) → (IsZeroAt p x y → ⊥) → IsColumn Base z y
  element-columns x s y n =
      let i = span-image p pos fs multi high Within entry table z block x s in
      elim (each-coefficient same_tree tree_tells (IsColumn Base z) (block_image entry i.polynomial) y (block-columns i.polynomial i.types)) [
        | inl h ↦ h
        | inr e ↦ absurd (n (poly_alike i.alike y ⊙ same e))
      ]

  span-types : (x : Poly) → InNamedSpan p (IsTuple fs Base z) (tuple_row fs entry) x → (y : Tree) → (IsZeroAt p x y → ⊥) → SameType y z
  span-types x s y n = column_type y (element-columns x s y n)

  -- a pivot leads a consequence
  pub pivot-leading : (m : Tree) → IsPivotMonomial p (IsTuple fs Base z) (tuple_row fs entry) m → IsLeading p fs m
  pivot-leading m v = record {
    polynomial = v.element;
    consequence = span-consequence v.element v.in_span;
    leads = record {
      nonzero = v.nonzero;
      types = λ x n. type-joined (span-types v.element v.in_span x n) (type-turned (span-types v.element v.in_span m v.nonzero));
      greatest = v.greatest;
    };
  }

  -- the image of a monomial below `m` is below `m`
  image-lower : (m x : Tree) → IsNext Within x → IsLower m x → Lowered p m (image node entry (λ k. unit (leaf k)) x)
  image-lower m (leaf k) h l = absurd h
  image-lower m (node a b) h l =
      let u = value-at-most p pos fs multi Within entry table a h.0 in
      let v = value-at-most p pos fs multi Within entry table b h.1 in
      record {
        terms = outer node u.terms v.terms;
        each = each-multiply (IsAtMost Base a) (IsAtMost Base b) (IsLower m) (λ i j. (1, node i j) ∷ []) u.terms v.terms
            (λ i j q s. (
              record {
                type = type-joined (type-node q.part.type s.part.type) l.type;
                less = at-most-less (node a b) (node i j) m (product-at-most i j a b q.part.type q.most s.most) l.less;
              },
              tt,
            )) u.each v.each;
        alike = multiply-alike (λ i j. (1, node i j) ∷ []) u.alike v.alike;
      }

  images-lower : (m : Tree) (f : Poly) → SameType m z → Each (λ t. IsLower m t.1) f → Lowered p m (block_image entry f)
  images-lower m [] s a = record { terms = []; each = tt; alike = itself [] }
  images-lower m (t ∷ f) s a =
      let u = image-lower m t.1 (block.next t.1 (type-joined a.0.type s)) a.0 in
      let v = images-lower m f s a.1 in
      record {
        terms = scale t.0 u.terms ++ v.terms;
        each = each-append _ (scale t.0 u.terms) v.terms (each-scale (IsLower m) t.0 u.terms u.each) v.each;
        alike = append-alike (scale-alike t.0 u.alike) v.alike;
      }

  -- the image of a column is the column
  image-column : (m : Tree) → IsColumn Base z m → Alike p (image node entry (λ k. unit (leaf k)) m) (unit m)
  image-column (leaf k) h = absurd h
  image-column (node b c) h =
      joined (multiply-alike (λ i j. (1, node i j) ∷ []) (value-normal p pos fs multi Within entry table b h.0) (value-normal p pos fs multi Within entry table c h.1))
      (equal _ _ (λ w. omega arith))

  -- a column that leads a consequence is a pivot
  pub leading-pivot : (m : Tree) → IsColumn Base z m → IsLeading p fs m → IsPivotMonomial p (IsTuple fs Base z) (tuple_row fs entry) m
  leading-pivot m c h =
      let b = leading-led p fs m h in
      let s : SameType m z = column_type m c in
      let g : Poly = (b.coef, m) ∷ b.rest in
      let v = images-lower m b.rest s b.lower in
      let l : LeadsWith p (block_image entry g) m = by-leads p (block_image entry g) m (record {
        coef = b.coef;
        rest = v.terms;
        nonzero = b.nonzero;
        lower = v.each;
        alike = joined (append-alike (scale-alike b.coef (image-column m c)) v.alike) (equal _ _ (λ w. omega arith));
      }) in
      record {
        element = block_image entry g;
        in_span = image-spans p pos fs multi high Within entry table z block g b.consequence (s, each-from _ _ b.rest (λ t k. type-joined k.type s) b.lower);
        nonzero = l.nonzero;
        greatest = l.greatest;
      }

  -- a normal monomial of the block is a column
  pub normal-column : (m : Tree) → IsNormal p fs m → SameType m z → IsColumn Base z m
  normal-column m n s = by_factors m n s (block.next m s)
    where
      by_factors : (x : Tree) → IsNormal p fs x → SameType x z → IsNext Within x → IsColumn Base z x
      by_factors (leaf k) n s h = absurd h
      by_factors (node l r) n s h = (record { within = h.0; normal = normal-left p fs l r n }, record { within = h.1; normal = normal-right p fs l r n }, s)

  -- the normal monomials of the block are the columns that are no pivots
  pub column-normal : (m : Tree) → IsColumn Base z m → (IsPivotMonomial p (IsTuple fs Base z) (tuple_row fs entry) m → ⊥) → IsNormal p fs m
  column-normal m c n = record { none = λ h. n (leading-pivot m c h) }

  pub normal-no_pivot : (m : Tree) → IsNormal p fs m → IsPivotMonomial p (IsTuple fs Base z) (tuple_row fs entry) m → ⊥
  normal-no_pivot m n v = n.none (pivot-leading m v)

  -- the entry of a pivot: minus the rest of its row
  pub pivot-stands : (m : Tree) (rest : Poly) → SameType m z → IsReducedRow p (IsTuple fs Base z) (tuple_row fs entry) (IsColumn Base z) m rest →
      StandsFor p fs (λ x. IsNormal p fs x) m (scale (p - 1) rest)
  pivot-stands m rest s r = record {
    parts = each-scale (IsPart (λ x. IsNormal p fs x) m) (p - 1) rest (each-columns rest r.columns r.no_pivots);
    congruent = record {
      differ = consequence-alike p fs (record {
        at = λ w.
            plus (same {a = 1 * w m} refl) (back (minus_twice p (weigh w rest) pos))
            ⊙ same (sym (weigh-append w (unit m) (scale (p - 1) (scale (p - 1) rest))
            ∙ rw (weigh-scale w (p - 1) (scale (p - 1) rest), weigh-scale w (p - 1) rest) (omega arith)));
      })
          (span-consequence ((1, m) ∷ rest) r.in_span);
    };
  }
    where
      each-columns : (f : Poly) → Each (λ t. IsColumn Base z t.1) f → Each (λ t. IsPivotMonomial p (IsTuple fs Base z) (tuple_row fs entry) t.1 → ⊥) f →
          Each (λ t. IsPart (λ x. IsNormal p fs x) m t.1) f
      each-columns [] a b = tt
      each-columns (t ∷ f) a b = (record { basis = column-normal t.1 a.0 b.0; type = type-joined (column_type t.1 a.0) (type-turned s) }, each-columns f a.1 b.1)

  -- the entry of another column: itself
  pub column-stands : (m : Tree) → IsColumn Base z m → (IsPivotMonomial p (IsTuple fs Base z) (tuple_row fs entry) m → ⊥) → StandsFor p fs (λ x. IsNormal p fs x) m (unit m)
  column-stands m c n = record {
    parts = (record { basis = column-normal m c n; type = type-itself m }, tt);
    congruent = congruent-alike p fs pos (itself (unit m));
  }
