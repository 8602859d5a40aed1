-- The ranges of the types within a type.
use Rattle.std.proofs.Common.{◌≡◌, ℕ, ◌+◌, ◌-◌, ◌<◌, ◌≤◌, ◌^◌, true, List, [], ◌∷◌, ◌++◌, map, length, sym, refl, ap, ◌∙◌, arith, inl, inr, subst}
use Rattle.std.specs.Prelude.{nat_le}
use Rattle.std.specs.declared.cmp.Ordering.TheVariants.{Less}
use Rattle.std.proofs.lemmas.Bool.Decides.{nat_tests}
use Rattle.alb_mono.specs.Listing.{Each, IsIn, Ascends}
use Rattle.alb_mono.specs.Tree.{cmp_types, type_le, type_minus, types_of}
use Rattle.std.proofs.lemmas.List.{map-append}
use Rattle.alb_mono.proofs.TypeLemmas.{rising_step}
use Rattle.alb_mono.proofs.Order.{cmp_types_total}
use Rattle.alb_mono.proofs.ListingLemmas.{each-weaker, each-both, each-map, each-always, in-map}
use Rattle.alb_table.specs.Table.{PartView, first_of, dim_of, elems, type_at, Table, IsTable, types_to}
use Rattle.alb_table.proofs.TypesTo.{IsTypeTo, types_to-each, types_to-all, types_to-ascends, apart}
use Rattle.alb_table.proofs.RangeLemmas.{ats, InRange, number_in_range, type_of_range, range_within}
use Rattle.alb_table.proofs.TableLemmas.{types_ascend, type_shape}
use Rattle.alb_subst.specs.declared.range.Range.{Range}
use Rattle.alb_subst.specs.Ranges.{RisesFrom, range_of, ranges}
use Rattle.alb_table.proofs.RiseLemmas.{le_trans, ranges_rise}

-- ---- types within types

pub minus_le : (r s : List ℕ) → length s ≡ length r → type_le (type_minus r s) r ≡ true
minus_le [] s h = refl
minus_le (x ∷ r) [] h = absurd (omega arith)
minus_le (x ∷ r) (c ∷ s) h = let e : nat_le (x - c) x ≡ true = grind (arith, nat_tests) in rw (e, minus_le r s (omega arith))

-- ---- ranges that rise

no_less : (t u : List ℕ) → cmp_types t u ≡ Less → cmp_types u t ≡ Less → ⊥
no_less t u h k = apart t t (cmp_types_total.trans t u t h k) refl

rises-from : (parts : List PartView) (n : ℕ) (ts : List (List ℕ)) → Ascends cmp_types (ats parts) → Ascends cmp_types ts → Each (λ w. IsIn w (ats parts)) ts →
    Each (λ w. n ≤ first_of parts w) ts → RisesFrom n (map (range_of parts) ts)
rises-from parts n [] a b i h = tt
rises-from parts n (t ∷ ts) a b i h = (
  h.0,
  rises-from parts (first_of parts t + dim_of parts t) ts a b.1 i.1
      (each-weaker (λ w. (cmp_types t w ≡ Less) × IsIn w (ats parts)) _ ts (λ w k. ranges_rise parts t w a i.0 k.1 k.0) (each-both _ _ ts b.0 i.1)),
)

-- ---- the ranges of a table

module _ (t : Table) (w : List ℕ) (known : IsTable t) (long : length w ≡ length t.target) (within : type_le w t.target ≡ true) where
  -- a type within `w` is one of the table's
  is_type : (u : List ℕ) → IsTypeTo w t.degree u → IsIn u (ats t.parts)
  is_type u h =
      subst (IsIn u) (sym known.types)
      (types_to-all t.target t.degree u (record { long = h.long ∙ long; within = le_trans u w t.target h.long long h.within within; some = h.some; degree_le = h.degree_le }))

  pub rises-ranges : RisesFrom 0 (ranges t.parts w t.degree)
  rises-ranges =
      rises-from t.parts 0 (types_to w t.degree) (types_ascend t known) (types_to-ascends w t.degree) (each-weaker _ _ (types_to w t.degree) is_type (types_to-each w t.degree))
      (each-always _ (types_to w t.degree) (λ u. omega arith))

  pub long-ranges : Each (λ (s : Range). length s.at ≡ length w) (ranges t.parts w t.degree)
  long-ranges = each-map _ (range_of t.parts) (types_to w t.degree) (each-weaker _ _ (types_to w t.degree) (λ u h. h.long) (types_to-each w t.degree))

  pub fit-ranges : Each (λ (s : Range). s.first + s.count < 2 ^ 32) (ranges t.parts w t.degree)
  fit-ranges =
      each-map _ (range_of t.parts) (types_to w t.degree)
      (each-always _ (types_to w t.degree) (λ u. let l = range_within t.parts u in let k = known.countable.elements in omega arith))

  -- what stands in a range
  pub number-type : (s : Range) (b : ℕ) → IsIn s (ranges t.parts w t.degree) → s.first ≤ b → b < s.first + s.count → (b < length (elems t.parts)) × (type_at t.parts b ≡ s.at)
  number-type s b i h k = of_range (types_to w t.degree) s b i h k
    where
      of_range : (ts : List (List ℕ)) (s : Range) (b : ℕ) → IsIn s (map (range_of t.parts) ts) → s.first ≤ b → b < s.first + s.count → (b < length (elems t.parts)) × (type_at t.parts b ≡ s.at)
      of_range [] s b i h k = absurd i
      of_range (u ∷ ts) s b (inl e) h k =
          let r = type_of_range t.parts u b (record { low = subst (λ (z : Range). z.first ≤ b) e h; high = subst (λ (z : Range). b < z.first + z.count) e k }) in
          (r.0, r.1 ∙ sym (ap (λ (z : Range). z.at) e))
      of_range (u ∷ ts) s b (inr i) h k = of_range ts s b i h k

  -- the range of a basis element whose type is within `w`
  pub type-range : (b : ℕ) → b < length (elems t.parts) → type_le (type_at t.parts b) w ≡ true →
      IsIn (range_of t.parts (type_at t.parts b)) (ranges t.parts w t.degree) × InRange t.parts (type_at t.parts b) b
  type-range b h l =
      let k = type_shape t b known h in (
        in-map (range_of t.parts) (type_at t.parts b) (types_to w t.degree)
            (types_to-all w t.degree (type_at t.parts b) (record { long = k.long ∙ sym long; within = l; some = k.some; degree_le = k.degree_le })),
        number_in_range t.parts b (types_ascend t known) h,
      )

-- ---- loops

pub ranges_more : (parts : List PartView) (w : List ℕ) (k m : ℕ) → m ≡ k + 1 → ranges parts w m ≡ ranges parts w k ++ map (range_of parts) (types_of w m)
ranges_more parts w k m e =
    ap (map (range_of parts)) (rising_step (types_of w) 1 m k m (omega arith) e) ∙ map-append (range_of parts) (types_to w k) (types_of w m)
