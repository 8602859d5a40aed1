-- The factors of a product: what fits the target, and a product less its image.
use Rattle.std.proofs.Common.{◌≡◌, ℕ, ◌+◌, ◌*◌, ◌%◌, ◌<◌, ◌≤◌, List, ◌++◌, length, get_or, take, sym, subst}
use Rattle.std.specs.Prelude.{IsTrue}
use Rattle.std.proofs.lemmas.List.{map-append}
use Rattle.gf_field.specs.Modular.{IsSameMod}
use Rattle.gf_field.proofs.Mod.{same, ◌⊙◌, of_mod}
use Rattle.gf_sums.specs.Sums.{scale, reindex}
use Rattle.gf_sums.proofs.Alike.{Alike, turned, joined, scale-alike}
use Rattle.alb_mono.specs.Listing.{Each}
use Rattle.alb_mono.specs.Tree.{Tree, node, degree, are_below}
use Rattle.alb_mono.specs.declared.side.Side.TheVariants.{Left, Right}
use Rattle.alb_poly.specs.Textbook.{unit}
use Rattle.alb_poly.specs.Consequence.{beside}
use Rattle.alb_poly.specs.Poly.{Poly}
use Rattle.alb_poly.proofs.Multilinear.{each-from}
use Rattle.alb_poly.proofs.Consequence.{alike_poly, itself'}
use Rattle.alb_rows.specs.Row.{Cells, comb}
use Rattle.alb_table.specs.Right.{SameType, difference, outer, mono_value, IsWithinDegree}
use Rattle.alb_table.specs.Table.{mono_at, Table}
use Rattle.alb_table.specs.Block.{spread}
use Rattle.alb_table.specs.RightTable.{RulesView, IsRightFor, mono_entry}
use Rattle.alb_table.proofs.Spans.{spread-alike}
use Rattle.alb_table.proofs.TableValues.{mono-known, mono-degree}
use Rattle.alb_trace.specs.Adds.{item_times}
use Rattle.alb_trace.specs.declared.trace.Citation.{Citation}
use Rattle.alb_trace.specs.declared.trace.Trace.{Trace}
use Rattle.alb_trace.specs.Given.{FitsTarget, IsPartOfType, IsValueRow}
use Rattle.alb_trace.specs.Trace.{most_items, mono_less, Derives, PushesItems}
use Rattle.alb_trace.proofs.PushLemmas.{spread-reindex, pushes-next, pushes-item}
use Rattle.alb_trace.proofs.Splits.{image-split}
use Rattle.alb_trace.proofs.TableSums.{fits-right, fits-left}
use Rattle.alb_trace.proofs.ValueRows.{pos, over, value-parts}

pub scale-joined : {p : ℕ} (c : ℕ) (x y : Poly) → Alike p (scale c x ++ scale c y) (scale c (x ++ y))
scale-joined c x y = itself' _ _ (sym (map-append (λ (s : ℕ × Tree). (c * s.0, s.1)) x y))

module _ (given : RulesView) (t : Table) (g : IsRightFor given t) where
  -- both factors of a product within are within
  pub within-left : (l r : Tree) → IsWithinDegree t.target t.degree (node l r) → IsWithinDegree t.target t.degree l
  within-left l r w = (over given t g).closed.left l r w

  pub within-right : (l r : Tree) → IsWithinDegree t.target t.degree (node l r) → IsWithinDegree t.target t.degree r
  within-right l r w = (over given t g).closed.right l r w

  value-types : (m : Tree) → IsWithinDegree t.target t.degree m → Each (λ s. SameType s.1 m) (mono_value (mono_entry t.parts) m)
  value-types m w = each-from (λ s. IsPartOfType given.forms t m s.1) _ (mono_value (mono_entry t.parts) m) (λ s k. k.type) (value-parts given t g m w)

  -- the left factor less its value, beside the right one
  pub right-fits : (l r : Tree) → IsWithinDegree t.target t.degree (node l r) → FitsTarget t (reindex (beside (Right, r)) (mono_less t l))
  unfolding mono_less
  right-fits l r w = fits-right t.p (pos given t g) most_items t.target given.forms t.degree l r w (mono_value (mono_entry t.parts) l) (value-types l (within-left l r w))

  -- the right factor less its value, beside a part of the left one's value
  pub left-fits : (l r b : Tree) → IsWithinDegree t.target t.degree (node l r) → IsPartOfType given.forms t l b → FitsTarget t (reindex (beside (Left, b)) (mono_less t r))
  unfolding mono_less
  left-fits l r b w k = fits-left t.p (pos given t g) most_items t.target given.forms t.degree l r w b (mono_value (mono_entry t.parts) r) k.type (value-types r (within-right l r w))

  -- a sum over a row is one over the value
  pub value-spread : (l : Tree) (cells : Cells) → IsValueRow given.forms t l cells → (h : Tree → Poly) → Alike t.p (spread (λ b. h (mono_at t.parts b)) (comb cells)) (spread h (mono_value (mono_entry t.parts) l))
  value-spread l cells v h = joined (spread-reindex (mono_at t.parts) h (comb cells)) (spread-alike h (alike_poly v.same))

  -- a multiple of a product less its image, from the two factors
  pub image-pushed : (c : ℕ) (l r : Tree) →
      Alike t.p (scale c (reindex (beside (Right, r)) (mono_less t l)) ++ scale c (spread (λ b. reindex (beside (Left, b)) (mono_less t r)) (mono_value (mono_entry t.parts) l)))
      (scale c (difference t.p (unit (node l r)) (outer node (mono_value (mono_entry t.parts) l) (mono_value (mono_entry t.parts) r))))
  unfolding mono_less
  image-pushed c l r = joined (scale-joined c (reindex (beside (Right, r)) (mono_less t l)) (spread (λ b. reindex (beside (Left, b)) (mono_less t r)) (mono_value (mono_entry t.parts) l)))
      (scale-alike c (turned (image-split t.p (pos given t g) l r (mono_value (mono_entry t.parts) l) (mono_value (mono_entry t.parts) r))))

  -- one more part of the value of the left factor
  module _ (l r : Tree) (cells : Cells) (v : IsValueRow given.forms t l cells) (k : ℕ) (d : ℕ × ℕ) (here : k < length cells) (b : Tree) (is : b ≡ mono_at t.parts (get_or cells k d).0) where
    pub left-known : IsTrue (are_below (length t.target) b)
    left-known = subst (λ x. IsTrue (are_below (length t.target) x)) (sym is) (mono-known given t g (get_or cells k d).0 (v.vector.below k d here))

    pub left-small : degree b ≤ 64
    left-small = subst (λ x. degree x ≤ 64) (sym is) (mono-degree given t g (get_or cells k d).0 (v.vector.below k d here))

    pub left-fitting : IsWithinDegree t.target t.degree (node l r) → FitsTarget t (reindex (beside (Left, b)) (mono_less t r))
    left-fitting w = left-fits l r b w (subst (IsPartOfType given.forms t l) (sym is) (v.parts k d here))

    pub lefts-next : (old mid new : Trace) (before between after : List (ℕ × ℕ)) (c y : ℕ) (o : Citation) → c < t.p → y ≡ (c * (get_or cells k d).1) % t.p → y < t.p →
        PushesItems given.forms t old mid before between (scale c (spread (λ i. reindex (beside (Left, mono_at t.parts i)) (mono_less t r)) (comb (take k cells)))) →
        Derives given.forms t mid new o (reindex (beside (Left, b)) (mono_less t r)) → after ≡ between ++ item_times y o →
        PushesItems given.forms t old new before after (scale c (spread (λ i. reindex (beside (Left, mono_at t.parts i)) (mono_less t r)) (comb (take (k + 1) cells))))
    lefts-next old mid new before between after c y o _ e small x a q =
        let h : ℕ → Poly = λ i. reindex (beside (Left, mono_at t.parts i)) (mono_less t r) in
        let n : Derives given.forms t mid new o (h (get_or cells k d).0) = subst (λ z. Derives given.forms t mid new o (reindex (beside (Left, z)) (mono_less t r))) is a in
        let s : IsSameMod t.p y (c * (get_or cells k d).1) = same e ⊙ of_mod (c * (get_or cells k d).1) in
        pushes-next given.forms t old mid new before between after c y h cells k d here s x
        (subst (λ z. PushesItems given.forms t mid new between z (scale y (h (get_or cells k d).0))) (sym q) (pushes-item given.forms t mid new between o y (h (get_or cells k d).0) small n))
