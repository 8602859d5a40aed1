-- Each type has its block.
use Rattle.std.proofs.Common.{◌≡◌, ℕ, ◌+◌, ◌%◌, ◌<◌, ◌≤◌, false, List, [], ◌∷◌, ◌++◌, map, length, sym, refl, ap, ◌∙◌, subst, arith, inl, inr}
use Rattle.std.specs.List.{flat_map}
use Rattle.std.proofs.lemmas.List.{length-reverse}
use Rattle.gf_field.specs.Modular.{IsInTable, IsSameMod}
use Rattle.gf_field.proofs.Mod.{same, of_mod, ◌⊙◌}
use Rattle.alb_mono.specs.Listing.{Each, IsIn}
use Rattle.alb_mono.specs.Tree.{rising, IsTypeWithin}
use Rattle.alb_mono.proofs.ListingLemmas.{each-member, in-map, in-flat}
use Rattle.alb_poly.specs.Instance.{Form}
use Rattle.alb_poly.specs.Consequence.{form_at, AreMultilinear}
use Rattle.alb_rows.specs.Row.{Cells, entry}
use Rattle.alb_rows.specs.Span.{InSpan, SpanWithin, rows_of}
use Rattle.alb_rows.proofs.SpanLemmas.{span_one, span_through}
use Rattle.alb_reduce.specs.Reduction.{Reduction}
use Rattle.alb_reduce.specs.Echelon.{AreKeptRows}
use Rattle.alb_reduce.proofs.DiagonalLemmas.{zero_mod}
use Rattle.alb_reduce.proofs.EchelonLemmas.{positive, kept_more, adds_pivot, span_dependent}
use Rattle.alb_table.specs.Table.{products, Table, IsTable}
use Rattle.alb_table.specs.Right.{AreHigh}
use Rattle.alb_table.specs.RightTable.{IsRightTable}
use Rattle.alb_table.proofs.FirstLemmas.{few_generators}
use Rattle.alb_table.proofs.GeneratorLemmas.{above_one}
use Rattle.alb_subst.specs.Ranges.{tuples, ranges}
use Rattle.alb_subst.specs.Sums.{instance_row}
use Rattle.alb_subst.specs.Tuples.{IsTupleOf, AreTuples}
use Rattle.alb_subst.proofs.TupleLaw.{tuples-are}
use Rattle.alb_block.specs.Asked.{setting_of, IsBlock}
use Rattle.alb_block.specs.Instances.{columns_of, BlockSetting, IsInstance, instance_vector, SpansInstances, AreOrigins}
use Rattle.alb_block.specs.Meaning.{IsBlockAt}
use Rattle.alb_block.specs.Offers.{IsRowOf, AreKept, HasMore}
use Rattle.alb_block.specs.View.{BlockView}
use Rattle.alb_table.proofs.TableLemmas.{each-in}
use Rattle.alb_table.proofs.RangeLemmas.{rising_bounds}
use Rattle.alb_table.proofs.TypesTo.{in-rising}
use Rattle.alb_block.proofs.ListLemmas.{in-parts, in-mapped}
use Rattle.alb_block.proofs.MeaningLemmas.{block-at}
use Rattle.alb_block.proofs.OfferLemmas.{vector-past, has-more, kept-pivot, kept-nothing, spans-all, origins-kept}
use Rattle.alb_block.proofs.Reductions.{HasPivot, offered-row, kept-none, kept-pivots}
use Rattle.alb_block.proofs.Vectors.{cells_of, entry-cells, cells-over, cells-below}

-- how many products the type has
abbrev pub width_of : BlockSetting → ℕ
width_of s = length (columns_of s.parts s.at)

-- rows as a reduced form
abbrev pub reduction_of : BlockSetting → List Cells → Reduction
reduction_of s rows = record { p = s.p; columns = width_of s; rows = rows; tags = []; keeps_recipes = false; offers = [] }

-- rows with the span of some instances, as many as there are rows
pub record HasRows (s : BlockSetting) : Type 0 where
  pub order : List ℕ
  pub rows : List Cells
  pub names : List (ℕ × List ℕ)
  pub kept : AreKeptRows s.p (width_of s) order rows
  pub are : AreKept s (reduction_of s rows) names

-- rows whose span has grown by instances
record HasAll (s : BlockSetting) (old : HasRows s) (todo : List (ℕ × List ℕ)) : Type 0 where
  new : HasRows s
  within : SpanWithin s.p (rows_of old.rows) (rows_of new.rows)
  has : Each (λ n. InSpan s.p (rows_of new.rows) (instance_vector s n)) todo

module _ (s : BlockSetting) (prime : IsInTable s.p) where
  -- the row of an instance
  abbrev instance_cells : ℕ × List ℕ → Cells
  instance_cells name = cells_of s.p (width_of s) (instance_vector s name)

  past : (name : ℕ × List ℕ) (j : ℕ) → width_of s ≤ j → instance_vector s name j % s.p ≡ 0
  past name j l = ap (λ x. x % s.p) (vector-past (columns_of s.parts s.at) (instance_row s.parts (form_at s.forms name.0) name.1) j l) ∙ zero_mod s.p

  cells-row_of : (name : ℕ × List ℕ) → IsRowOf s name (instance_cells name)
  cells-row_of name j = is-residue s.p (entry (instance_cells name) j) (instance_vector s name j) (entry-cells s.p (width_of s) (instance_vector s name) (past name) j)
    where
      is-residue : (p x y : ℕ) → x ≡ y % p → IsSameMod p x y
      is-residue p x y e = same e ⊙ of_mod y

  -- one more instance
  one-more : (a : HasRows s) (name : ℕ × List ℕ) → IsInstance s name → (b : HasRows s) × HasMore s (reduction_of s a.rows) (reduction_of s b.rows) name
  one-more a name is =
      let pos : 0 < s.p = positive a.kept.echelon.above in
      elim (offered-row s.p prime (width_of s) a.order a.rows a.kept (instance_cells name) (cells-over s.p (width_of s) (instance_vector s name) pos)
      (cells-below s.p (width_of s) (instance_vector s name))) [
        | inl d ↦ (a, has-more s (reduction_of s a.rows) (reduction_of s a.rows) name (instance_cells name) (cells-row_of name) (span_dependent s.p a.rows (instance_cells name) d))
        | inr v ↦ (grown v, has-more s (reduction_of s a.rows) (reduction_of s v.rows') name (instance_cells name) (cells-row_of name) v.new.span)
      ]
    where
      grown : HasPivot s.p a.order a.rows (instance_cells name) → HasRows s
      grown v = record {
        order = a.order ++ v.column ∷ [];
        rows = v.rows';
        names = a.names ++ name ∷ [];
        kept = kept_more s.p (width_of s) a.order a.rows (instance_cells name) v.column v.rows' a.kept (cells-below s.p (width_of s) (instance_vector s name)) v.new;
        are = kept-pivot s (reduction_of s a.rows) (reduction_of s v.rows') a.names name (instance_cells name) v.column a.are is (cells-row_of name) v.new.span
            (adds_pivot (reduction_of s a.rows) (reduction_of s v.rows') (instance_cells name) v.column v.column a.order refl a.kept.echelon v.new)
            (refl, refl, refl);
      }

  all-more : (todo : List (ℕ × List ℕ)) → Each (IsInstance s) todo → (a : HasRows s) → HasAll s a todo
  all-more [] h a = record { new = a; within = λ k. span_one s.p (rows_of a.rows) k; has = tt }
  all-more (n ∷ ns) h a =
      let b = one-more a n h.0 in
      let c = all-more ns h.1 b.0 in
      record {
        new = c.new;
        within = λ k. span_through s.p (rows_of b.0.rows) (rows_of c.new.rows) (rows_of a.rows k) c.within (b.1.within k);
        has = (span_through s.p (rows_of b.0.rows) (rows_of c.new.rows) (instance_vector s n) c.within b.1.has, c.has);
      }

  nothing : 1 < s.p → HasRows s
  nothing above = record {
    order = [];
    rows = [];
    names = [];
    kept = kept-none s.p (width_of s) above;
    are = kept-nothing s (reduction_of s []) refl refl refl refl;
  }

-- the instances of all forms, from the tuples of each degree
abbrev instances_by : (ℕ → List (List ℕ)) → List Form → List (ℕ × List ℕ)
instances_by tuples_of fs = flat_map (λ k. map (λ x. (k, x)) (tuples_of (form_at fs k).degree)) (rising 0 (length fs))

module _ (s : BlockSetting) (tuples_of : ℕ → List (List ℕ)) (all : (d : ℕ) → AreTuples s.parts d s.at (tuples_of d)) where
  instances-are : Each (IsInstance s) (instances_by tuples_of s.forms)
  instances-are = each-in (IsInstance s) (instances_by tuples_of s.forms) (λ name i.
      let k = in-parts (λ k. map (λ x. (k, x)) (tuples_of (form_at s.forms k).degree)) name (rising 0 (length s.forms)) i in
      let x = in-mapped (λ (x : List ℕ). (k.0, x)) name (tuples_of (form_at s.forms k.0).degree) k.2 in
      let r = rising_bounds 0 (length s.forms) k.0 k.1 in
      subst (IsInstance s) (sym x.2)
      (record {
        form = omega (arith, r.1);
        tuple = each-member (IsTupleOf s.parts (form_at s.forms k.0).degree s.at) (tuples_of (form_at s.forms k.0).degree) x.0 (all (form_at s.forms k.0).degree).each x.1;
      }))

  instances-in : (name : ℕ × List ℕ) → IsInstance s name → IsIn name (instances_by tuples_of s.forms)
  instances-in name h =
      in-flat (λ k. map (λ x. (k, x)) (tuples_of (form_at s.forms k).degree)) name.0 name (rising 0 (length s.forms)) (in-rising 0 (length s.forms) name.0 (omega arith) (omega (arith, h.form)))
      (in-map (λ (x : List ℕ). (name.0, x)) name.1 (tuples_of (form_at s.forms name.0).degree) ((all (form_at s.forms name.0).degree).all name.1 h.tuple))

-- rows with the span of all instances
pub record HasReduction (s : BlockSetting) : Type 0 where
  pub rows : HasRows s
  pub spans : SpansInstances s (reduction_of s rows.rows)
  pub origins : AreOrigins s (reduction_of s rows.rows) rows.names

has-reduction : (s : BlockSetting) → IsInTable s.p → 1 < s.p → (tuples_of : ℕ → List (List ℕ)) → ((d : ℕ) → AreTuples s.parts d s.at (tuples_of d)) → HasReduction s
has-reduction s prime above tuples_of all =
    let c = all-more s prime (instances_by tuples_of s.forms) (instances-are s tuples_of all) (nothing s prime above) in
    record {
      rows = c.new;
      spans = spans-all s (reduction_of s c.new.rows) c.new.names c.new.are (λ name h l.
          each-member (λ n. InSpan s.p (rows_of c.new.rows) (instance_vector s n)) (instances_by tuples_of s.forms) name c.has (instances-in s tuples_of all name h));
      origins = origins-kept s (reduction_of s c.new.rows) c.new.names c.new.are;
    }

-- the block of a type, with the kept rows
pub record HasBlock (fs : List Form) (t : Table) (w : List ℕ) : Type 0 where
  pub view : BlockView
  pub order : List ℕ
  pub kept : AreKeptRows view.reduced.p view.reduced.columns order view.reduced.rows
  pub block : IsBlock (setting_of fs t w) view
  pub meaning : IsBlockAt fs t w view.reduced view.origins

-- EACH TYPE of the next degree of a right table that has not too many products has its block
pub block-exists : (fs : List Form) (t : Table) (w : List ℕ) → IsTable t → IsRightTable fs t → AreMultilinear fs → AreHigh fs → IsTypeWithin t.target (t.degree + 1) w →
    length (products t.parts w) ≤ 4096 → HasBlock fs t w
block-exists fs t w tab right multi high ty few =
    let s : BlockSetting = setting_of fs t w in
    let r : HasReduction s = has-reduction s tab.field (above_one t tab) (λ d. tuples (ranges t.parts w t.degree) d w) (λ d. tuples-are t w tab ty.long ty.within d) in
    let ps = kept-pivots t.p (width_of s) r.rows.order r.rows.rows r.rows.kept in
    let n = few_generators t.target tab.goal in
    record {
      view = record { at = w; columns = columns_of t.parts w; reduced = reduction_of s r.rows.rows; origins = r.rows.names };
      order = r.rows.order;
      kept = r.rows.kept;
      block = record {
        at = refl;
        columns = refl;
        few = omega (arith, length-reverse (products t.parts w));
        field = refl;
        width = refl;
        spans = r.spans;
        origins = r.origins;
      };
      meaning = block-at fs t tab right.right multi high (omega arith) w ty (reduction_of s r.rows.rows) r.spans ps.0 ps.1 r.rows.names r.origins;
    }
