-- Sums that are added to, step by step.
use Rattle.std.proofs.Common.{◌≡◌, ℕ, ◌+◌, ◌*◌, ◌<◌, ◌≤◌, List, [], ◌∷◌, ◌++◌, length, get_or, take, sym, ap, ◌∙◌, subst, arith, append_assoc}
use Rattle.std.specs.Prelude.{All}
use Rattle.std.proofs.lemmas.List.{map-append, take_more, take_all}
use Rattle.std.proofs.Math.Nat.{mul-add, mul_assoc}
use Rattle.std.proofs.lemmas.List.Elements.{All-append, All-cons}
use Rattle.gf_field.specs.Modular.{IsSameMod}
use Rattle.gf_sums.specs.Sums.{Comb, weigh, scale, reindex}
use Rattle.gf_sums.proofs.Totals.{weigh-append, weigh-scale}
use Rattle.gf_sums.proofs.Alike.{Alike, equal, itself, turned, joined, append-alike, scale-alike, scales-alike, weigh-reindex}
use Rattle.alb_poly.specs.Poly.{Poly}
use Rattle.alb_poly.specs.Instance.{Form}
use Rattle.alb_deriv.specs.Short.{IsSumOf}
use Rattle.alb_deriv.proofs.Appended.{sum-alike, sum-append, sum-scale}
use Rattle.alb_rows.specs.Row.{Cells, comb}
use Rattle.alb_table.specs.Block.{spread}
use Rattle.alb_table.specs.Table.{Table}
use Rattle.alb_table.proofs.Spans.{weigh-spread}
use Rattle.alb_trace.specs.Adds.{item_of, item_times}
use Rattle.alb_trace.specs.Trace.{lines_of, IsTrace, Derives, PushesItems}
use Rattle.alb_trace.specs.declared.trace.Citation.{Citation}
use Rattle.alb_trace.specs.declared.trace.Citation.TheVariants as citations
use Rattle.alb_trace.specs.declared.trace.Trace.{Trace}
use Rattle.alb_trace.proofs.Adds.{longer-itself, longer-joined, longer-sum}

-- ---- combinations of terms, one more term

-- each number with its combination: a row's cells so far, and one more
pub spread-more : {p : ℕ} (h : ℕ → Poly) (cells : Cells) (x : ℕ × ℕ) → Alike p (spread h (comb (cells ++ x ∷ []))) (spread h (comb cells) ++ scale x.1 (h x.0))
spread-more {p} h cells x = equal _ _ (λ w.
    weigh-spread w h (comb (cells ++ x ∷ []))
    ∙ ap (λ f. weigh (λ i. weigh w (h i)) f) (map-append (λ (cell : ℕ × ℕ). (cell.1, cell.0)) cells (x ∷ []))
    ∙ weigh-append (λ i. weigh w (h i)) (comb cells) ((x.1, x.0) ∷ [])
    ∙ sym (weigh-append w (spread h (comb cells)) (scale x.1 (h x.0)) ∙ rw (weigh-spread w h (comb cells), weigh-scale w x.1 (h x.0)) (omega arith)))

-- a multiple of these
pub scaled-more : {p : ℕ} (c y : ℕ) (h : ℕ → Poly) (cells : Cells) (x : ℕ × ℕ) → IsSameMod p y (c * x.1) →
    Alike p (scale c (spread h (comb cells)) ++ scale y (h x.0)) (scale c (spread h (comb (cells ++ x ∷ []))))
scaled-more c y h cells x e =
    joined (append-alike (itself (scale c (spread h (comb cells)))) (scales-alike (h x.0) e))
    (joined (equal _ _ (λ w.
    weigh-append w (scale c (spread h (comb cells))) (scale (c * x.1) (h x.0)) ∙ rw (weigh-scale w c (spread h (comb cells)), weigh-scale w (c * x.1) (h x.0)) (sym (
    weigh-scale w c (spread h (comb cells) ++ scale x.1 (h x.0)) ∙ rw (weigh-append w (spread h (comb cells)) (scale x.1 (h x.0)), weigh-scale w x.1 (h x.0))
    (mul-add c (weigh w (spread h (comb cells))) (x.1 * weigh w (h x.0)) ∙ ap (λ n. c * weigh w (spread h (comb cells)) + n) (sym (mul_assoc c x.1 (weigh w (h x.0)))))))))
    (scale-alike c (turned (spread-more h cells x))))

-- the combination over numbers is that over what the numbers stand for
pub spread-reindex : {I : Type 0} {p : ℕ} (g : ℕ → I) (h : I → Poly) (f : Comb ℕ) → Alike p (spread (λ b. h (g b)) f) (spread h (reindex g f))
spread-reindex g h f = equal _ _ (λ w. weigh-spread w (λ b. h (g b)) f ∙ sym (weigh-spread w h (reindex g f) ∙ weigh-reindex (λ i. weigh w (h i)) g f))

module _ (fs : List Form) (t : Table) where
  -- nothing for zero
  pub pushes-itself : (s : Trace) (before : List (ℕ × ℕ)) (f : Poly) → IsTrace fs t s → Alike t.p f [] → PushesItems fs t s s before before f
  pushes-itself s before f h z = record {
    trace = h;
    longer = longer-itself (lines_of s);
    residues = λ a. a;
    sum = λ g a. sum-alike t.p fs (joined (equal _ _ (λ w. sym (weigh-append w g [] ∙ omega arith))) (append-alike (itself g) (turned z))) a;
  }

  pub pushes-alike : {old new : Trace} {before after : List (ℕ × ℕ)} {f g : Poly} → Alike t.p f g → PushesItems fs t old new before after f → PushesItems fs t old new before after g
  pushes-alike a h = record {
    trace = h.trace;
    longer = h.longer;
    residues = h.residues;
    sum = λ g k. sum-alike t.p fs (append-alike (itself g) a) (h.sum g k);
  }

  -- one after the other
  pub pushes-then : {old mid new : Trace} {before between after : List (ℕ × ℕ)} {f g : Poly} → PushesItems fs t old mid before between f → PushesItems fs t mid new between after g →
      PushesItems fs t old new before after (f ++ g)
  pushes-then {new = new} {after = after} {f = f} {g = g} a b = record {
    trace = b.trace;
    longer = longer-joined a.longer b.longer;
    residues = λ k. b.residues (a.residues k);
    sum = λ z k. subst (λ y. IsSumOf t.p fs (lines_of new) after y) (append_assoc z f g) (b.sum (z ++ f) (a.sum z k));
  }

  -- a multiple of what is derived
  pub pushes-item : (old new : Trace) (before : List (ℕ × ℕ)) (o : Citation) (y : ℕ) (f : Poly) → y < t.p → Derives fs t old new o f →
      PushesItems fs t old new before (before ++ item_times y o) (scale y f)
  pushes-item old new before o y f l d = record {
    trace = d.trace;
    longer = d.adds.longer;
    residues = λ a. All-append (λ c. c.0 < t.p) before (item_times y o) a (item-residue o);
    sum = λ g a. sum-append t.p fs (longer-sum t.p fs d.adds.longer before a) (item-sum o d.adds.sum);
  }
    where
      item-residue : (o : Citation) → All (λ c. c.0 < t.p) (item_times y o)
      item-residue citations.Zero = λ k x m. absurd (omega arith)
      item-residue (citations.Line k) = All-cons (λ c. c.0 < t.p) (y, k) [] l (λ j x m. absurd (omega arith))

      item-sum : (o : Citation) → IsSumOf t.p fs (lines_of new) (item_of o) f → IsSumOf t.p fs (lines_of new) (item_times y o) (scale y f)
      item-sum citations.Zero a = sum-scale t.p fs y a
      item-sum (citations.Line k) a = let e : y * 1 ≡ y = omega arith in subst (λ z. IsSumOf t.p fs (lines_of new) ((z, k) ∷ []) (scale y f)) e (sum-scale t.p fs y a)

  -- one more term of a combination over the columns of a row
  pub pushes-next : (old mid new : Trace) (before between after : List (ℕ × ℕ)) (c y : ℕ) (h : ℕ → Poly) (cells : Cells) (k : ℕ) (d : ℕ × ℕ) → k < length cells →
      IsSameMod t.p y (c * (get_or cells k d).1) → PushesItems fs t old mid before between (scale c (spread h (comb (take k cells)))) →
      PushesItems fs t mid new between after (scale y (h (get_or cells k d).0)) → PushesItems fs t old new before after (scale c (spread h (comb (take (k + 1) cells))))
  pushes-next old mid new before between after c y h cells k d l e a b =
      rw (take_more cells k d l) (pushes-alike (scaled-more c y h (take k cells) (get_or cells k d) e) (pushes-then a b))

  -- before the first term, and after the last
  pub pushes-first : (s : Trace) (before : List (ℕ × ℕ)) (c : ℕ) (h : ℕ → Poly) (cells : Cells) → IsTrace fs t s → PushesItems fs t s s before before (scale c (spread h (comb (take 0 cells))))
  pushes-first s before c h cells k = pushes-itself s before (scale c (spread h (comb (take 0 cells)))) k (itself [])

  pub pushes-last : (old new : Trace) (before after : List (ℕ × ℕ)) (c : ℕ) (h : ℕ → Poly) (cells : Cells) (k : ℕ) → length cells ≤ k →
      PushesItems fs t old new before after (scale c (spread h (comb (take k cells)))) → PushesItems fs t old new before after (scale c (spread h (comb cells)))
  pushes-last old new before after c h cells k l a = subst (λ xs. PushesItems fs t old new before after (scale c (spread h (comb xs)))) (take_all k cells l) a
