-- The stores of new tables.
use Rattle.std.proofs.Common.{◌≡◌, ℕ, suc, ◌+◌, ◌-◌, ◌<◌, List, [], ◌∷◌, ◌++◌, map, length, sym, ap, ◌∙◌, arith, subst, sum}
use Rattle.gf_field.specs.Modular.{IsInTable}
use Rattle.alb_mono.specs.Listing.{Each}
use Rattle.std.specs.List.{flat_map}
use Rattle.alb_mono.specs.Tree.{types_of, IsTypeWithin, rising, splits, type_minus}
use Rattle.alb_mono.proofs.TypesListing.{types_of-listing}
use Rattle.alb_table.specs.Grid.{Rises}
use Rattle.alb_table.specs.Stored.{grids_from}
use Rattle.alb_table.proofs.RiseLemmas.{grids_rise}
use Rattle.alb_mono.proofs.ListingLemmas.{each-weaker, each-both}
use Rattle.alb_table.specs.Table.{PartView, Table, IsTable, IsTarget, IsPartOf, IsCountable, first_parts, extended}
use Rattle.alb_table.specs.declared.store.Store.{Store}
use Rattle.alb_table.specs.Views.{views, IsFull, IsKeptTable, GrowsStore}
use Rattle.alb_table.proofs.PartLemmas.{grows_store}
use Rattle.alb_table.proofs.RangeLemmas.{ats}
use Rattle.alb_table.proofs.TableLemmas.{extend_table, new_degrees, old_degrees, each-unmap}
use Rattle.alb_table.proofs.FirstLemmas.{IsUnit, no_products, first_units, first_is_table}

pub are_full : (t : Table) (parts new : List PartView) → IsTable t → ats new ≡ types_of t.target (t.degree + 1) → Each (IsPartOf t.p t.parts parts) new →
    Each (IsFull t.parts) new
are_full t parts new k e h =
    each-weaker (λ (q : PartView). IsTypeWithin t.target (t.degree + 1) q.at × IsPartOf t.p t.parts parts q) (IsFull t.parts) new
    (λ q z. record { full = z.1.full; fits = z.1.fits; rises = grids_rise t q.at k z.0 })
    (each-both (λ (q : PartView). IsTypeWithin t.target (t.degree + 1) q.at) (IsPartOf t.p t.parts parts) new
    (each-unmap (IsTypeWithin t.target (t.degree + 1)) (λ (q : PartView). q.at) new
    (subst (Each (IsTypeWithin t.target (t.degree + 1))) (sym e) (types_of-listing t.target (t.degree + 1)).each)) h)

pub kept_extended : (t : Table) (old new : Store) (more : List PartView) → IsTable t → views old ≡ t.parts → t.degree < sum t.target → ats more ≡ types_of t.target (t.degree + 1) →
    Each (IsPartOf t.p t.parts (t.parts ++ more)) more → IsCountable (t.parts ++ more) → GrowsStore old more new →
    IsKeptTable (record { p = t.p; target = t.target; degree = t.degree + 1; parts = views new }) new
kept_extended t old new more k o room types parts countable g =
    let e : views new ≡ t.parts ++ more = g.parts_are ∙ ap (λ (ps : List PartView). ps ++ more) o in
    let x : IsTable (extended t more) = extend_table t more k room types parts countable in
    let table : IsTable (record { p = t.p; target = t.target; degree = t.degree + 1; parts = views new }) =
    subst (λ (ps : List PartView). IsTable (record { p = t.p; target = t.target; degree = t.degree + 1; parts = ps })) (sym e) x in
    record {
      store = grows_store old new more (t.degree + 1) g (new_degrees t.target (t.degree + 1) more types)
          (old_degrees (record { p = t.p; target = t.target; degree = t.degree + 1; parts = views new }) table);
      table = table;
    }

no_rectangles : (ps : List PartView) (t : List ℕ) → sum t ≡ 1 → Rises 0 (grids_from ps 0 (splits t))
no_rectangles ps t h =
    let e : sum t - 1 ≡ 0 = omega arith in
    subst (λ n. Rises 0 (grids_from ps 0 (flat_map (λ (d : ℕ). map (λ (s : List ℕ). (s, type_minus t s)) (types_of t d)) (rising 1 n)))) (sym e) tt

first_full : (ps : List PartView) (n k : ℕ) (ts : List (List ℕ)) → Each (IsUnit n) ts → Each (IsFull ps) (first_parts k ts)
first_full ps n k [] u = tt
first_full ps n k (t ∷ ts) u =
    (record { full = ap length (sym (no_products ps t u.0.one)); fits = omega arith; rises = no_rectangles ps t u.0.one }, first_full ps n (suc k) ts u.1)

pub first_are_full : (ps : List PartView) (target : List ℕ) → Each (IsFull ps) (first_parts 0 (types_of target 1))
first_are_full ps target = first_full ps (length target) 0 (types_of target 1) (first_units target)

first_degrees : (n k : ℕ) (ts : List (List ℕ)) → Each (IsUnit n) ts → Each (λ (q : PartView). sum q.at ≡ 1) (first_parts k ts)
first_degrees n k [] u = tt
first_degrees n k (t ∷ ts) u = (u.0.one, first_degrees n (suc k) ts u.1)

pub kept_first : (p : ℕ) (target : List ℕ) (old new : Store) → IsInTable p → IsTarget target → views old ≡ [] → GrowsStore old (first_parts 0 (types_of target 1)) new →
    IsKeptTable (record { p = p; target = target; degree = 1; parts = views new }) new
kept_first p target old new f g o w =
    let e : views new ≡ first_parts 0 (types_of target 1) = w.parts_are ∙ ap (λ (ps : List PartView). ps ++ first_parts 0 (types_of target 1)) o in
    let table : IsTable (record { p = p; target = target; degree = 1; parts = views new }) =
    subst (λ (ps : List PartView). IsTable (record { p = p; target = target; degree = 1; parts = ps })) (sym e) (first_is_table p target f g) in
    record {
      store = grows_store old new (first_parts 0 (types_of target 1)) 1 w (first_degrees (length target) 0 (types_of target 1) (first_units target))
          (old_degrees (record { p = p; target = target; degree = 1; parts = views new }) table);
      table = table;
    }
