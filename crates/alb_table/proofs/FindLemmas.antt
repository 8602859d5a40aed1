-- The part of a type, found by halving.
use Rattle.std.proofs.Common.{◌≡◌, ℕ, zero, suc, ◌+◌, ◌<◌, ◌≤◌, List, [], ◌∷◌, map, length, get_or, sym, refl, ap, ◌∙◌, arith, inl, inr, subst, Ordering}
use Rattle.std.specs.Prelude.{Some, None}
use Rattle.std.specs.declared.sync.Arc.{Arc}
use Rattle.std.specs.declared.alloc.Global.{Global}
use Rattle.std.specs.declared.cmp.Ordering.TheVariants.{Less, Equal, Greater}
use Rattle.alb_mono.specs.Listing.{Each, Ascends}
use Rattle.alb_mono.specs.Tree.{cmp_types}
use Rattle.alb_mono.proofs.ListingLemmas.{each-at}
use Rattle.alb_mono.proofs.Order.{cmp_types_total}
use Rattle.alb_table.specs.declared.stored.Stored.{Stored}
use Rattle.alb_table.specs.Table.{PartView}
use Rattle.alb_table.specs.Views.{part_number, view_of}
use Rattle.alb_linear.proofs.IdentityLemmas.{list_eq-itself}
use Rattle.alb_table.proofs.PartLemmas.{list_eq-other, map_at, no_part, length-views}
use Rattle.alb_table.proofs.RangeLemmas.{ats}
use Rattle.alb_table.proofs.TypesTo.{apart}
use Rattle.std.proofs.lemmas.Bool.{cases_lt}
use Rattle.alb_table.proofs.RiseLemmas.{below_or, from_or}

ascends_at : {X : Type 0} (order : X → X → Ordering) (xs : List X) (i j : ℕ) (d : X) → Ascends order xs → i < j → j < length xs → order (get_or xs i d) (get_or xs j d) ≡ Less
ascends_at order [] i j d a h l = absurd (omega arith)
ascends_at order (x ∷ xs) zero zero d a h l = absurd (omega arith)
ascends_at order (x ∷ xs) zero (suc j) d a h l = each-at (λ y. order x y ≡ Less) xs j d a.0 (omega arith)
ascends_at order (x ∷ xs) (suc i) zero d a h l = absurd (omega arith)
ascends_at order (x ∷ xs) (suc i) (suc j) d a h l = ascends_at order xs i j d a.1 (omega arith) (omega arith)

part_at : (k : ℕ) (parts : List PartView) (t : List ℕ) (i n : ℕ) → i < length parts → get_or (ats parts) i [] ≡ t → ((j : ℕ) → j < i → get_or (ats parts) j [] ≡ t → ⊥) →
    n ≡ k + i → part_number k parts t ≡ Some n
part_at k [] t i n h e f s = absurd (omega arith)
part_at k (q ∷ qs) t zero n h e f s =
    let z : k ≡ n = omega arith in
    let b = list_eq-itself t in
    rw (e, b) (ap Some z)
part_at k (q ∷ qs) t (suc i) n h e f s =
    let b = list_eq-other q.at t (f 0 (omega arith)) in
    rw b (part_at (suc k) qs t i n (omega arith) e (λ j l. f (suc j) (omega arith)) (omega arith))

part_absent : (k : ℕ) (parts : List PartView) (t : List ℕ) → ((j : ℕ) → j < length parts → get_or (ats parts) j [] ≡ t → ⊥) → part_number k parts t ≡ None
part_absent k [] t f = refl
part_absent k (q ∷ qs) t f =
    let b = list_eq-other q.at t (f 0 (omega arith)) in
    rw b (part_absent (suc k) qs t (λ j l. f (suc j) (omega arith)))

-- none of the types before `low` and none from `high` on is t
pub record Halves (types : List (List ℕ)) (t : List ℕ) (low high : ℕ) : Type 0 where
  pub order : low ≤ high
  pub within : high ≤ length types
  pub below : (j : ℕ) → j < low → get_or types j [] ≡ t → ⊥
  pub above : (j : ℕ) → high ≤ j → j < length types → get_or types j [] ≡ t → ⊥

pub halves_start : (types : List (List ℕ)) (t : List ℕ) (n : ℕ) → n ≡ length types → Halves types t 0 n
halves_start types t n e = record { order = omega arith; within = omega arith; below = λ j l. absurd (omega arith); above = λ j h l. absurd (omega arith) }

pub halves_low : (types : List (List ℕ)) (t : List ℕ) (low high m : ℕ) → Ascends cmp_types types → Halves types t low high → m < high →
    cmp_types (get_or types m []) t ≡ Less → Halves types t (m + 1) high
halves_low types t low high m a h l c =
    let w : high ≤ length types = h.within in
    record {
      order = omega arith;
      within = w;
      below = λ j g e. elim (below_or j m g) [
        | inl s ↦
            let x : cmp_types (get_or types j []) (get_or types m []) ≡ Less = ascends_at cmp_types types j m [] a s (omega arith) in
            let y : cmp_types t (get_or types m []) ≡ Less = subst (λ (u : List ℕ). cmp_types u (get_or types m []) ≡ Less) e x in
            apart t t (cmp_types_total.trans t (get_or types m []) t y c) refl
        | inr s ↦ apart (get_or types m []) t c (ap (λ n. get_or types n []) (sym s) ∙ e)
      ];
      above = h.above;
    }

pub halves_high : (types : List (List ℕ)) (t : List ℕ) (low high m : ℕ) → Ascends cmp_types types → Halves types t low high → low ≤ m → m < high →
    (get_or types m [] ≡ t → ⊥) → (cmp_types (get_or types m []) t ≡ Less → ⊥) → Halves types t low m
halves_high types t low high m a h k l n c =
    let w : high ≤ length types = h.within in
    record {
      order = k;
      within = omega arith;
      below = h.below;
      above = λ j s z e. elim (from_or j m s) [
        | inl f ↦ c (subst (λ (u : List ℕ). cmp_types (get_or types m []) u ≡ Less) e (ascends_at cmp_types types m j [] a f z))
        | inr f ↦ n (ap (λ i. get_or types i []) f ∙ e)
      ];
    }

-- the next step, whichever half it takes
pub halves_step : (types : List (List ℕ)) (t at : List ℕ) (low high m : ℕ) (x y : ℕ) → Ascends cmp_types types → Halves types t low high → low ≤ m → m < high →
    get_or types m [] ≡ at → (at ≡ t → ⊥) → (cmp_types at t ≡ Less → (x ≡ m + 1) × (y ≡ high)) → ((cmp_types at t ≡ Less → ⊥) → (x ≡ low) × (y ≡ m)) → Halves types t x y
halves_step types t at low high m x y a h k l e n f g = go (cmp_types at t) refl
  where
    less : cmp_types at t ≡ Less → Halves types t x y
    less c = let r = f c in
        subst (λ i. Halves types t i y) (sym r.0) (subst (λ j. Halves types t (m + 1) j) (sym r.1)
        (halves_low types t low high m a h l (subst (λ (u : List ℕ). cmp_types u t ≡ Less) (sym e) c)))

    rest : (cmp_types at t ≡ Less → ⊥) → Halves types t x y
    rest c = let r = g c in
        subst (λ i. Halves types t i y) (sym r.0) (subst (λ j. Halves types t low j) (sym r.1)
        (halves_high types t low high m a h k l (λ q. n (sym e ∙ q)) (λ q. c (subst (λ (u : List ℕ). cmp_types u t ≡ Less) e q))))

    go : (o : Ordering) → cmp_types at t ≡ o → Halves types t x y
    go Less c = less c
    go Equal c = rest (λ q. (let z : Less ≡ Equal = sym q ∙ c in absurd (cc)))
    go Greater c = rest (λ q. (let z : Less ≡ Greater = sym q ∙ c in absurd (cc)))

length-ats : (parts : List PartView) → length (ats parts) ≡ length parts
length-ats [] = refl
length-ats (q ∷ qs) = ap suc (length-ats qs)

-- over stored parts
pub length-arcs : (arcs : List (Arc Stored Global)) → length (ats (map view_of arcs)) ≡ length arcs
length-arcs arcs = length-ats (map view_of arcs) ∙ length-views arcs

pub type_arc : (arcs : List (Arc Stored Global)) (i : ℕ) (a : Arc Stored Global) → i < length arcs → a ≡ get_or arcs i a → get_or (ats (map view_of arcs)) i [] ≡ (view_of a).at
type_arc arcs i a h e =
    let l : length (map view_of arcs) ≡ length arcs = length-views arcs in
    map_at (λ (q : PartView). q.at) (map view_of arcs) i no_part [] (omega arith)
    ∙ ap (λ (q : PartView). q.at) (map_at view_of arcs i a no_part h ∙ ap view_of (sym e))

pub halves_found : (arcs : List (Arc Stored Global)) (t : List ℕ) (low high m : ℕ) (a : Arc Stored Global) → Halves (ats (map view_of arcs)) t low high → low ≤ m → m < high →
    Ascends cmp_types (ats (map view_of arcs)) → a ≡ get_or arcs m a → (view_of a).at ≡ t → part_number 0 (map view_of arcs) t ≡ Some m
halves_found arcs t low high m a h k l s e q =
    let n : length (ats (map view_of arcs)) ≡ length arcs = length-arcs arcs in
    let p : length (map view_of arcs) ≡ length arcs = length-views arcs in
    let w : high ≤ length (ats (map view_of arcs)) = h.within in
    let g : get_or (ats (map view_of arcs)) m [] ≡ t = type_arc arcs m a (omega arith) e ∙ q in
    part_at 0 (map view_of arcs) t m m (omega arith) g
    (λ j i z. apart t t (subst (λ (u : List ℕ). cmp_types u t ≡ Less) z (subst (λ (u : List ℕ). cmp_types (get_or (ats (map view_of arcs)) j []) u ≡ Less) g
    (ascends_at cmp_types (ats (map view_of arcs)) j m [] s i (omega arith)))) refl)
    (omega arith)

pub halves_none : (arcs : List (Arc Stored Global)) (t : List ℕ) (low high : ℕ) → Halves (ats (map view_of arcs)) t low high → high ≤ low → part_number 0 (map view_of arcs) t ≡ None
halves_none arcs t low high h l =
    let n : length (ats (map view_of arcs)) ≡ length (map view_of arcs) = length-ats (map view_of arcs) in
    part_absent 0 (map view_of arcs) t (λ j i e. elim (cases_lt j low) [ inl s ↦ h.below j s e | inr s ↦ h.above j (omega arith) (omega arith) e ])

-- the length of the type at a place
pub long_arc : (arcs : List (Arc Stored Global)) (n : ℕ) (i : ℕ) (a : Arc Stored Global) → Each (λ (q : PartView). length q.at ≡ n) (map view_of arcs) → i < length arcs →
    a ≡ get_or arcs i a → length (view_of a).at ≡ n
long_arc arcs n i a e h q =
    let l : length (map view_of arcs) ≡ length arcs = length-views arcs in
    subst (λ (v : PartView). length v.at ≡ n) (map_at view_of arcs i a no_part h ∙ ap view_of (sym q)) (each-at (λ (v : PartView). length v.at ≡ n) (map view_of arcs) i no_part e (omega arith))

-- a type of another length has no part
pub absent_long : (parts : List PartView) (n : ℕ) (t : List ℕ) → Each (λ (q : PartView). length q.at ≡ n) parts → (length t ≡ n → ⊥) → part_number 0 parts t ≡ None
absent_long parts n t e f = none 0 parts e
  where
    none : (k : ℕ) (parts : List PartView) → Each (λ (q : PartView). length q.at ≡ n) parts → part_number k parts t ≡ None
    none k [] e = refl
    none k (q ∷ qs) e = let b = list_eq-other q.at t (λ z. f (ap length (sym z) ∙ e.0)) in rw b (none (suc k) qs e.1)
