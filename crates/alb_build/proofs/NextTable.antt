-- The right table of the next degree, with its origins and within the limits.
use Rattle.std.proofs.Common.{◌≡◌, ℕ, ◌+◌, ◌-◌, ◌<◌, ◌≤◌, List, [], ◌∷◌, ◌++◌, map, length, sym, refl, ap, ◌∙◌, subst, arith, sum, inl, inr}
use Rattle.std.proofs.lemmas.Bool.{cases_lt, cases_Bool}
use Rattle.alb_mono.specs.Listing.{Each}
use Rattle.alb_mono.proofs.ListingLemmas.{each-append, each-weaker}
use Rattle.alb_poly.specs.Poly.{list_eq}
use Rattle.alb_table.proofs.PartLemmas.{elems_step}
use Rattle.alb_poly.specs.Instance.{Form}
use Rattle.alb_table.specs.Table.{PartView, elems, mono_at, origins_at, Table, IsTable, CoversType, count_coefficients, extended, next_types, next_products, most_products, most_coefficients}
use Rattle.alb_table.specs.RightTable.{IsRightTable, mono_entry, instance_at}
use Rattle.alb_table.proofs.RightTables.{length-monos}
use Rattle.alb_block.specs.View.{BlockView}
use Rattle.alb_build.specs.Part.{ArePartsOf}
use Rattle.alb_build.specs.Next.{AreBlocks}
use Rattle.alb_build.proofs.KeptParts.{mono-kept, origins-kept}
use Rattle.alb_build.proofs.Numbering.{length-numbers}
use Rattle.alb_mono.specs.Tree.{Tree}
use Rattle.alb_poly.specs.Consequence.{AreMultilinear}
use Rattle.alb_table.specs.Block.{AreOriginsAt}
use Rattle.alb_table.specs.Right.{AreHigh, IsTypeTo}
use Rattle.alb_linear.proofs.LinearLemmas.{each_from_all}
use Rattle.alb_poly.proofs.Multilinear.{each-from}
use Rattle.alb_build.proofs.Growing.{origins-stay}
use Rattle.alb_build.proofs.Grown.{table-big, grown-products}
use Rattle.alb_build.proofs.NextRight.{next-degrees, next-right, has-part}

-- origins that name basis elements of the table are the same instances in the longer table
pub instances-kept : (ps new : List PartView) (os : List (ℕ × List ℕ)) → Each (λ (o : ℕ × List ℕ). Each (λ b. b < length (elems ps)) o.1) os →
    map (instance_at (ps ++ new)) os ≡ map (instance_at ps) os
instances-kept ps new [] k = refl
instances-kept ps new (o ∷ os) k =
    ap (λ ms. (o.0, ms) ∷ map (instance_at (ps ++ new)) os) (monos-same o.1 k.0) ∙ ap (λ xs. instance_at ps o ∷ xs) (instances-kept ps new os k.1)
  where
    monos-same : (bs : List ℕ) → Each (λ b. b < length (elems ps)) bs → map (mono_at (ps ++ new)) bs ≡ map (mono_at ps) bs
    monos-same [] a = refl
    monos-same (b ∷ bs) a =
        let l = length-monos ps in let s : b < length (elems ps) = a.0 in
        ap (λ m. m ∷ map (mono_at (ps ++ new)) bs) (mono-kept ps new b (omega arith)) ∙ ap (λ ms. mono_at ps b ∷ ms) (monos-same bs a.1)

-- no type of the next degree has too many products
pub made-narrow : (fs : List Form) (t : Table) (ws : List (List ℕ)) (bs : List BlockView) (qs : List PartView) (n : ℕ) → AreBlocks fs t ws bs → ArePartsOf n bs qs →
    Each (λ (q : PartView). length q.entries ≤ 4096) qs
made-narrow fs t [] [] [] n a m = tt
made-narrow fs t [] [] (q ∷ qs) n a m = absurd m
made-narrow fs t [] (b ∷ bs) qs n a m = absurd a
made-narrow fs t (w ∷ ws) [] qs n a m = absurd a
made-narrow fs t (w ∷ ws) (b ∷ bs) [] n a m = absurd m
made-narrow fs t (w ∷ ws) (b ∷ bs) (q ∷ qs) n a m =
    let l : length q.entries ≡ length b.columns = m.0.entries.full ∙ length-numbers n m.0.free ∙ m.0.are_free.full in
    let f : length b.columns ≤ 4096 = a.0.block.few in
    (omega arith, made-narrow fs t ws bs qs (n + length q.basis) a.1 m.1)

-- the origins of a part name basis elements below `n`
abbrev NamesBelow : ℕ → PartView → Type 0
NamesBelow n q = Each (λ (o : ℕ × List ℕ). Each (λ b. b < n) o.1) q.origins

names-weaker : (n k : ℕ) (qs : List PartView) → n ≤ k → Each (NamesBelow n) qs → Each (NamesBelow k) qs
names-weaker n k qs h a = each-weaker (NamesBelow n) (NamesBelow k) qs
    (λ q. each-weaker (λ (o : ℕ × List ℕ). Each (λ b. b < n) o.1) (λ (o : ℕ × List ℕ). Each (λ b. b < k) o.1) q.origins
    (λ o. each-weaker (λ b. b < n) (λ b. b < k) o.1 (λ b l. omega arith))) a

more-elems : (ps new : List PartView) → length (elems ps) ≤ length (elems (ps ++ new))
more-elems [] new = omega arith
more-elems (q ∷ ps) new =
    let a : length (elems (q ∷ ps)) ≡ length q.basis + length (elems ps) = elems_step q ps in
    let b : length (elems (q ∷ (ps ++ new))) ≡ length q.basis + length (elems (ps ++ new)) = elems_step q (ps ++ new) in
    let r = more-elems ps new in omega arith

-- what holds of the origins of each part holds of those of a type
origins-each : (Q : ℕ × List ℕ → Type 0) (ps : List PartView) (w : List ℕ) → Each (λ (q : PartView). Each Q q.origins) ps → Each Q (origins_at ps w)
origins-each Q [] w a = tt
origins-each Q (q ∷ ps) w a = elim (cases_Bool (list_eq q.at w)) [
  | inl e ↦ rw e a.0
  | inr e ↦ rw e (origins-each Q ps w a.1)
]

-- the origins of new parts name basis elements of the table
made-known : (fs : List Form) (t : Table) (ws : List (List ℕ)) (bs : List BlockView) (qs : List PartView) (n : ℕ) → AreBlocks fs t ws bs → ArePartsOf n bs qs →
    Each (NamesBelow (length (elems t.parts))) qs
made-known fs t [] [] [] n a m = tt
made-known fs t [] [] (q ∷ qs) n a m = absurd m
made-known fs t [] (b ∷ bs) qs n a m = absurd a
made-known fs t (w ∷ ws) [] qs n a m = absurd a
made-known fs t (w ∷ ws) (b ∷ bs) [] n a m = absurd m
made-known fs t (w ∷ ws) (b ∷ bs) (q ∷ qs) n a m = (
  subst (λ os. Each (λ (o : ℕ × List ℕ). Each (λ b. b < length (elems t.parts)) o.1) os) (sym m.0.origins)
      (each-from _ _ b.origins (λ o i. each_from_all (λ b. b < length (elems t.parts)) o.1 i.tuple.numbers) a.0.block.origins.are),
  made-known fs t ws bs qs (n + length q.basis) a.1 m.1,
)

module _ (fs : List Form) (t : Table) (bs : List BlockView) (new : List PartView) (old : IsTable t) (tab : IsTable (extended t new)) (multi : AreMultilinear fs) (high : AreHigh fs)
    (a : AreBlocks fs t (next_types t) bs) (m : ArePartsOf (length (elems t.parts)) bs new) (right : IsRightTable fs t) where
  pos : 0 < t.p
  pos = let b = table-big t old in omega arith

  stays : (w : List ℕ) (names : List (ℕ × List Tree)) → IsTypeTo t.target (t.degree + 1) w → 2 ≤ sum w →
      AreOriginsAt t.p fs t.target (sum w - 1) (mono_entry t.parts) w names → AreOriginsAt t.p fs t.target (sum w - 1) (mono_entry (t.parts ++ new)) w names
  stays w names ty two o = origins-stay fs t old right.right new (next-degrees fs t bs new old tab pos a m) pos multi high w ty two names o

  -- the origins of an older type
  old-origins : (w : List ℕ) → length w ≡ length t.target → CoversType (extended t new) w → sum w ≤ t.degree → 2 ≤ sum w →
      AreOriginsAt t.p fs t.target (sum w - 1) (mono_entry (t.parts ++ new)) w (map (instance_at (t.parts ++ new)) (origins_at (t.parts ++ new) w))
  old-origins w long c l two =
      let k : origins_at (t.parts ++ new) w ≡ origins_at t.parts w = origins-kept new t.degree (next-degrees fs t bs new old tab pos a m) t.parts w l in
      let e : map (instance_at (t.parts ++ new)) (origins_at (t.parts ++ new) w) ≡ map (instance_at t.parts) (origins_at t.parts w) =
      ap (map (instance_at (t.parts ++ new))) k ∙ instances-kept t.parts new (origins_at t.parts w) (origins-each (λ (o : ℕ × List ℕ). Each (λ b. b < length (elems t.parts)) o.1) t.parts w right.known) in
      subst (AreOriginsAt t.p fs t.target (sum w - 1) (mono_entry (t.parts ++ new)) w) (sym e)
      (stays w (map (instance_at t.parts) (origins_at t.parts w)) (record { counts = long; le = c.within; degree = omega arith }) two
      (right.origins w long (record { within = c.within; degree_le = l }) two))

  -- the origins of a new type
  new-origins : (w : List ℕ) → length w ≡ length t.target → CoversType (extended t new) w → sum w ≡ t.degree + 1 → 2 ≤ sum w →
      AreOriginsAt t.p fs t.target (sum w - 1) (mono_entry (t.parts ++ new)) w (map (instance_at (t.parts ++ new)) (origins_at (t.parts ++ new) w))
  new-origins w long c e two =
      let ty : IsTypeTo t.target (t.degree + 1) w = record { counts = long; le = c.within; degree = c.degree_le } in
      let h = has-part fs t bs new old tab pos a m w ty e in
      let names : List (ℕ × List ℕ) = h.block.origins in
      let k : origins_at (t.parts ++ new) w ≡ names = h.origins_are ∙ h.made.origins in
      let n : Each (λ (o : ℕ × List ℕ). Each (λ b. b < length (elems t.parts)) o.1) names =
      each-from _ _ names (λ o i. each_from_all (λ b. b < length (elems t.parts)) o.1 i.tuple.numbers) h.is_block.block.origins.are in
      let d : t.degree ≡ sum w - 1 = omega arith in
      let f : map (instance_at (t.parts ++ new)) (origins_at (t.parts ++ new) w) ≡ map (instance_at t.parts) names =
      ap (map (instance_at (t.parts ++ new))) k ∙ instances-kept t.parts new names n in
      subst (AreOriginsAt t.p fs t.target (sum w - 1) (mono_entry (t.parts ++ new)) w) (sym f)
      (stays w (map (instance_at t.parts) names) ty two
      (subst (λ x. AreOriginsAt t.p fs t.target x (mono_entry t.parts) w (map (instance_at t.parts) names)) d h.is_block.meaning.origins))

  -- THE RIGHT TABLE
  pub next-table : next_products t ≤ most_products → count_coefficients (t.parts ++ new) ≤ most_coefficients → IsRightTable fs (extended t new)
  next-table few cells = record {
    right = next-right fs t bs new old tab pos a m multi high right.right;
    books = record {
      origins = λ w long c two. elim (cases_lt t.degree (sum w)) [
        | inr l ↦ old-origins w long c l two
        | inl l ↦ (let s : sum w ≤ t.degree + 1 = c.degree_le in new-origins w long c (omega arith) two)
      ];
      no_origins = λ w l. (let some : 0 < t.degree = old.started in
          origins-kept new t.degree (next-degrees fs t bs new old tab pos a m) t.parts w (omega arith) ∙ right.no_origins w l);
      known = each-append (NamesBelow (length (elems (t.parts ++ new)))) t.parts new
          (names-weaker (length (elems t.parts)) (length (elems (t.parts ++ new))) t.parts (more-elems t.parts new) right.known)
          (names-weaker (length (elems t.parts)) (length (elems (t.parts ++ new))) new (more-elems t.parts new) (made-known fs t (next_types t) bs new (length (elems t.parts)) a m));
      limits = record {
        types = each-append (λ (q : PartView). length q.entries ≤ 4096) t.parts new right.limits.types (made-narrow fs t (next_types t) bs new (length (elems t.parts)) a m);
        products = (let p = grown-products fs t bs new (length (elems t.parts)) a m in omega arith);
        coefficients = cells;
      };
    };
  }
