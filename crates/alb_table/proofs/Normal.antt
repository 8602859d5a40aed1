-- The laws of leading and normal monomials.
use Rattle.std.proofs.Common.{◌≡◌, ℕ, ◌%◌, Bool, true, false, not, ◌&&◌, List, [], ◌∷◌, sym, refl, ◌∙◌, subst, arith, inl, inr, ◌⊎◌, eqb}
use Rattle.std.specs.Bool.{◌==◌}
use Rattle.std.specs.Ordering.{is_lt}
use Rattle.std.specs.declared.cmp.Ordering.{Ordering}
use Rattle.std.specs.declared.cmp.Ordering.TheVariants.{Less, Equal, Greater}
use Rattle.std.proofs.lemmas.Cmp.{tied_itself}
use Rattle.std.proofs.lemmas.Bool.{cases_Bool, false≢true, eqb-true, eq-eqb}
use Rattle.gf_field.specs.Modular.{IsSameMod}
use Rattle.gf_field.proofs.Mod.{same, back, ◌⊙◌}
use Rattle.alb_mono.specs.Tree.{Tree, node, cmp_trees, same_tree}
use Rattle.alb_mono.proofs.Order.{cmp_trees_total, trees_equal, product_left, product_right}
use Rattle.gf_sums.specs.Sums.{coefficient, reindex}
use Rattle.gf_sums.proofs.Alike.{Alike, itself}
use Rattle.alb_poly.specs.Poly.{Poly}
use Rattle.alb_mono.specs.declared.side.Side.TheVariants.{Left, Right}
use Rattle.alb_poly.specs.Consequence.{beside, IsConsequence, AreMultilinear}
use Rattle.alb_poly.specs.Instance.{Form}
use Rattle.alb_mono.specs.Listing.{Each}
use Rattle.alb_poly.proofs.Multilinear.{each-from, each-map}
use Rattle.alb_poly.proofs.Consequence.{tree_tells, alike_poly, poly_alike, consequence-same, consequence-beside}
use Rattle.alb_table.specs.Right.{SameType, IsZeroAt, LeadsWith, IsLeading, IsNormal}
use Rattle.alb_table.proofs.Types.{type-itself, type-turned, type-joined, type-node, type-listed, same_type, same_type-whole, same_type-sound, same_type-respects}
use Rattle.alb_table.proofs.Coefficients.{zero_or, keep, each-filter, filter-each, coefficient-kept, each-coefficient, top-found}
use Rattle.alb_table.proofs.Kept.{consequence-keep}

-- x has the type of m and comes before it
pub record IsLower (m x : Tree) : Type 0 where
  pub type : SameType x m
  pub less : cmp_trees x m ≡ Less

is_lower : Tree → Tree → Bool
is_lower m x = same_type x m && is_lt (cmp_trees x m)

lower-sound : (m x : Tree) → is_lower m x ≡ true → IsLower m x
unfolding is_lower
lower-sound m x h = elim (cases_Bool (same_type x m)) [
  | inl e ↦ record { type = same_type-sound x m e; less = less_of (cmp_trees x m) (rw e at h) }
  | inr e ↦ absurd (false≢true (rw e at h))
]
  where
    less_of : (o : Ordering) → is_lt o ≡ true → o ≡ Less
    less_of Less k = refl
    less_of Equal k = absurd (false≢true k)
    less_of Greater k = absurd (false≢true k)

lower-whole : (m x : Tree) → IsLower m x → is_lower m x ≡ true
unfolding is_lower
lower-whole m x h = rw (same_type-whole x m h.type, h.less)

module _ (p : ℕ) where
  -- the coefficient at the leading monomial, and lower terms
  pub record LeadsBy (g : Poly) (m : Tree) : Type 0 where
    pub coef : ℕ
    pub rest : Poly
    pub nonzero : IsSameMod p coef 0 → ⊥
    pub lower : Each (λ t. IsLower m t.1) rest
    pub alike : Alike p g ((coef, m) ∷ rest)

  alone : (c : ℕ) (m : Tree) (rest : Poly) → Each (λ t. IsLower m t.1) rest → coefficient same_tree ((c, m) ∷ rest) m ≡ c
  alone c m rest a = elim (each-coefficient same_tree tree_tells (IsLower m) rest m a) [
    | inl h ↦ (let e : cmp_trees m m ≡ Equal = tied_itself cmp_trees_total m in let k = h.less in absurd (cc))
    | inr e ↦ rw (tree_tells.whole m) (omega (arith, e))
  ]

  pub leads-by : (g : Poly) (m : Tree) → LeadsWith p g m → LeadsBy g m
  leads-by g m h =
      let c : ℕ = coefficient same_tree g m in
      let rest : Poly = keep (is_lower m) g in
      let a : Each (λ t. IsLower m t.1) rest = each-from _ _ rest (λ t k. lower-sound m t.1 k) (filter-each (λ t. is_lower m t.1) g) in
      record { coef = c; rest = rest; nonzero = h.nonzero; lower = a; alike = alike_poly (λ x. at_index x a) }
    where
      outside : (x : Tree) → (m ≡ x → ⊥) → is_lower m x ≡ false → IsZeroAt p g x
      outside x ne f = elim (zero_or p (coefficient same_tree g x)) [
        | inl z ↦ z
        | inr n ↦ elim (cmp_trees x m) as (λ o. cmp_trees x m ≡ o → IsZeroAt p g x) [
          | Less ↦ λ e. absurd (false≢true (sym f ∙ lower-whole m x (record { type = h.types x n; less = e })))
          | Equal ↦ λ e. absurd (ne (sym (trees_equal x m e)))
          | Greater ↦ λ e. h.greatest x e
        ] refl
      ]

      at_index : (x : Tree) → Each (λ t. IsLower m t.1) (keep (is_lower m) g) →
          IsSameMod p (coefficient same_tree g x) (coefficient same_tree ((coefficient same_tree g m, m) ∷ keep (is_lower m) g) x)
      at_index x a = elim (cases_Bool (same_tree m x)) [
        | inl e ↦ subst (λ y. IsSameMod p (coefficient same_tree g y) (coefficient same_tree ((coefficient same_tree g m, m) ∷ keep (is_lower m) g) y))
            (tree_tells.sound m x e) (same (sym (alone (coefficient same_tree g m) m (keep (is_lower m) g) a)))
        | inr e ↦ rw e (elim (cases_Bool (is_lower m x)) [
          | inl l ↦ same (omega (arith, coefficient-kept same_tree tree_tells (is_lower m) g x l))
          | inr n ↦ elim (each-coefficient same_tree tree_tells (λ y. is_lower m y ≡ true) (keep (is_lower m) g) x (filter-each (λ t. is_lower m t.1) g)) [
            | inl k ↦ absurd (false≢true (sym n ∙ k))
            | inr z ↦ outside x (λ q. false≢true (sym e ∙ (subst (λ y. same_tree m y ≡ true) q (tree_tells.whole m)))) n ⊙ same (omega (arith, z))
          ]
        ])
      ]

  pub by-leads : (g : Poly) (m : Tree) → LeadsBy g m → LeadsWith p g m
  by-leads g m h =
      let s : (x : Tree) → IsSameMod p (coefficient same_tree g x) (coefficient same_tree ((h.coef, m) ∷ h.rest) x) = poly_alike h.alike in
      record {
        nonzero = λ z. h.nonzero (same (sym (alone h.coef m h.rest h.lower)) ⊙ back (s m) ⊙ z);
        types = λ x n. elim (each-coefficient same_tree tree_tells (λ y. SameType y m) ((h.coef, m) ∷ h.rest) x
            (type-itself m, each-from _ _ h.rest (λ t k. k.type) h.lower)) [
              | inl k ↦ k
              | inr e ↦ absurd (n (s x ⊙ same e))
            ];
        greatest = λ x g. elim (each-coefficient same_tree tree_tells (λ y. cmp_trees y m ≡ Greater → ⊥) ((h.coef, m) ∷ h.rest) x
            ((λ k. absurd (let e : cmp_trees m m ≡ Equal = tied_itself cmp_trees_total m in cc)), each-from _ _ h.rest (λ t k q. let l = k.less in absurd (cc)) h.lower)) [
              | inl k ↦ absurd (k g)
              | inr e ↦ s x ⊙ same e
            ];
      }

module _ (p : ℕ) (fs : List Form) where
  -- a consequence is a multiple of `m` and lower terms
  pub record IsLed (m : Tree) : Type 0 where
    pub coef : ℕ
    pub rest : Poly
    pub nonzero : IsSameMod p coef 0 → ⊥
    pub lower : Each (λ t. IsLower m t.1) rest
    pub consequence : IsConsequence p fs ((coef, m) ∷ rest)

  pub leading-led : (m : Tree) → IsLeading p fs m → IsLed m
  leading-led m h = let b = leads-by p h.polynomial m h.leads in record {
    coef = b.coef;
    rest = b.rest;
    nonzero = b.nonzero;
    lower = b.lower;
    consequence = consequence-same p fs (poly_alike b.alike) h.consequence;
  }

  pub led-leading : (m : Tree) → IsLed m → IsLeading p fs m
  led-leading m h = record {
    polynomial = (h.coef, m) ∷ h.rest;
    consequence = h.consequence;
    leads = by-leads p _ m (record { coef = h.coef; rest = h.rest; nonzero = h.nonzero; lower = h.lower; alike = itself _ });
  }

  -- where a factor leads a consequence, the product leads one
  pub leading-left : (l r : Tree) → IsLeading p fs l → IsLeading p fs (node l r)
  leading-left l r h = let b = leading-led l h in led-leading (node l r) (record {
    coef = b.coef;
    rest = reindex (beside (Right, r)) b.rest;
    nonzero = b.nonzero;
    lower = each-map (λ t. IsLower l t.1) (λ t. IsLower (node l r) t.1) _ b.rest (λ t k. record {
      type = type-node k.type (type-itself r);
      less = product_left t.1 l r (type-listed 26 t.1 l k.type) k.less;
    }) b.lower;
    consequence = consequence-beside p fs (Right, r) b.consequence;
  })

  pub leading-right : (l r : Tree) → IsLeading p fs r → IsLeading p fs (node l r)
  leading-right l r h = let b = leading-led r h in led-leading (node l r) (record {
    coef = b.coef;
    rest = reindex (beside (Left, l)) b.rest;
    nonzero = b.nonzero;
    lower = each-map (λ t. IsLower r t.1) (λ t. IsLower (node l r) t.1) _ b.rest (λ t k. record {
      type = type-node (type-itself l) k.type;
      less = product_right t.1 r l (type-listed 26 t.1 r k.type) k.less;
    }) b.lower;
    consequence = consequence-beside p fs (Left, l) b.consequence;
  })

  -- both factors of a normal product are normal
  pub normal-left : (l r : Tree) → IsNormal p fs (node l r) → IsNormal p fs l
  normal-left l r n = record { none = λ h. n.none (leading-left l r h) }

  pub normal-right : (l r : Tree) → IsNormal p fs (node l r) → IsNormal p fs r
  normal-right l r n = record { none = λ h. n.none (leading-right l r h) }

is_nonzero : ℕ → ℕ → Bool
is_nonzero p a = not (a % p == 0 % p)

nonzero-true : (p a : ℕ) → is_nonzero p a ≡ true → IsSameMod p a 0 → ⊥
unfolding is_nonzero
nonzero-true p a h z = let e : eqb (a % p) (0 % p) ≡ true = eq-eqb _ _ z.same in false≢true (rw e at h)

nonzero-false : (p a : ℕ) → is_nonzero p a ≡ false → IsSameMod p a 0
unfolding is_nonzero
nonzero-false p a h = elim (cases_Bool (eqb (a % p) (0 % p))) [
  | inl e ↦ record { same = eqb-true _ _ e }
  | inr e ↦ absurd (false≢true (sym (rw e at h)))
]

nonzero-whole : (p a : ℕ) → (IsSameMod p a 0 → ⊥) → is_nonzero p a ≡ true
nonzero-whole p a h = elim (cases_Bool (is_nonzero p a)) [ inl e ↦ e | inr e ↦ absurd (h (nonzero-false p a e)) ]

-- a combination of monomials of one type is zero, or leads with one of them
pub record LeadsWithOne (p : ℕ) (P : Tree → Type 0) (f : Poly) : Type 0 where
  pub monomial : Tree
  pub has : P monomial
  pub leads : LeadsWith p f monomial

pub leading-found : (p : ℕ) (P : Tree → Type 0) (x : Tree) (f : Poly) → Each (λ t. P t.1) f → Each (λ t. SameType x t.1) f →
    ((y : Tree) → IsZeroAt p f y) ⊎ LeadsWithOne p P f
leading-found p P x f a types = elim (top-found cmp_trees cmp_trees_total (λ i. is_nonzero p (coefficient same_tree f i)) f) [
  | inl n ↦ inl (λ y. elim (each-coefficient same_tree tree_tells (λ i. is_nonzero p (coefficient same_tree f i) ≡ false) f y n) [
    | inl h ↦ nonzero-false p _ h
    | inr e ↦ same e
  ])
  | inr t ↦
      let n : IsZeroAt p f t.top → ⊥ = nonzero-true p _ t.passes in
      let s : (y : Tree) → (IsZeroAt p f y → ⊥) → SameType x y = λ y k. elim (each-coefficient same_tree tree_tells (SameType x) f y types) [ inl h ↦ h | inr e ↦ absurd (k (same e)) ] in
      elim (each-coefficient same_tree tree_tells P f t.top a) [
        | inr e ↦ absurd (n (same e))
        | inl has ↦ inr (record {
          monomial = t.top;
          has = has;
          leads = record {
            nonzero = n;
            types = λ y k. type-joined (type-turned (s y k)) (s t.top n);
            greatest = λ y g. elim (each-coefficient same_tree tree_tells (λ i. is_nonzero p (coefficient same_tree f i) ≡ true → cmp_trees i t.top ≡ Greater → ⊥) f y t.greatest) [
              | inl h ↦ (elim (zero_or p (coefficient same_tree f y)) [ inl z ↦ z | inr k ↦ absurd (h (nonzero-whole p _ k) g) ])
              | inr e ↦ same e
            ];
          };
        })
      ]
]

-- a combination of normal monomials that is a consequence is zero
pub normal-zero : (p : ℕ) (fs : List Form) → AreMultilinear fs → (f : Poly) → Each (λ t. IsNormal p fs t.1) f → IsConsequence p fs f → Alike p f []
normal-zero p fs multi f a c = alike_poly (λ x.
    let q : Tree → Bool = same_type x in
    let k : IsConsequence p fs (keep q f) = consequence-keep p fs multi q (same_type-respects x) f c in
    let e : coefficient same_tree (keep q f) x ≡ coefficient same_tree f x = coefficient-kept same_tree tree_tells q f x (same_type-whole x x (type-itself x)) in
    elim (leading-found p (IsNormal p fs) x (keep q f) (each-filter _ _ f a) (each-from _ _ _ (λ t h. same_type-sound x t.1 h) (filter-each (λ t. q t.1) f))) [
      | inl z ↦ same (sym e) ⊙ z x
      | inr l ↦ absurd (l.has.none (record { polynomial = keep q f; consequence = k; leads = l.leads }))
    ])
