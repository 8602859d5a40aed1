-- Products less their entries and monomials less their values, put together.
use Rattle.std.proofs.Common.{◌≡◌, ℕ, ◌+◌, ◌-◌, ◌*◌, ◌%◌, ◌<◌, List, [], ◌∷◌, ◌++◌, length, get_or, take, replicate, sum, sym, refl, ap, ◌∙◌, subst, arith}
use Rattle.std.specs.Prelude.{All}
use Rattle.std.proofs.lemmas.List.{take_more, get_or-map}
use Rattle.std.proofs.Math.ListN.{length-replicate}
use Rattle.std.proofs.Math.Nat.{mul-add, mul_assoc, mul_left_comm}
use Rattle.gf_field.specs.Modular.{IsSameMod}
use Rattle.gf_field.proofs.Mod.{same, back, ◌⊙◌, plus, multiple, of_mod, cancel_plus}
use Rattle.gf_sums.specs.Sums.{Comb, weigh, scale, reindex, multiply}
use Rattle.gf_sums.proofs.Totals.{weigh-append, weigh-scale, weigh-multiply, weigh-equal}
use Rattle.gf_sums.proofs.Alike.{Alike, equal, itself, turned, joined, append-alike, scale-alike, scales-alike, multiply-alike, weigh-reindex}
use Rattle.alb_mono.specs.Listing.{Each}
use Rattle.alb_mono.specs.Tree.{Tree, leaf, node, degree, type_of, type_plus}
use Rattle.alb_mono.specs.declared.side.Side.TheVariants.{Left, Right}
use Rattle.alb_mono.proofs.Leaves.{plus-node, plus_replicate}
use Rattle.alb_poly.specs.Textbook.{unit}
use Rattle.alb_poly.specs.Consequence.{beside}
use Rattle.alb_poly.specs.Instance.{Form}
use Rattle.alb_poly.specs.Poly.{normal, Poly}
use Rattle.alb_poly.specs.Terms.{term, terms}
use Rattle.alb_poly.specs.declared.term.Term.{Term}
use Rattle.alb_query.proofs.AnswerLemmas.{all-terms}
use Rattle.alb_poly.proofs.Consequence.{alike_poly}
use Rattle.alb_poly.proofs.NormalLemmas.{normal-each, normal-alike}
use Rattle.alb_rows.specs.Row.{Cells, comb}
use Rattle.alb_deriv.specs.Short.{IsSumOf}
use Rattle.alb_deriv.proofs.Appended.{sum-zero}
use Rattle.alb_table.specs.Right.{difference, mono_value, IsOfType, IsTypeTo, IsWithinDegree}
use Rattle.alb_table.specs.Table.{elems, type_at, mono_at, origins_at, Table}
use Rattle.alb_table.specs.Block.{image, spread}
use Rattle.alb_table.specs.RightTable.{RulesView, IsRightFor, mono_entry, instance_at}
use Rattle.alb_table.proofs.Congruent.{minus_one, minus_twice, difference-zero}
use Rattle.alb_table.proofs.PartLemmas.{sum-plus}
use Rattle.alb_table.proofs.Right.{of_type-degree, within-type, tuple_instance, instance-types, tuple-image_at}
use Rattle.alb_table.proofs.RightTables.{number-type}
use Rattle.alb_table.proofs.Spans.{weigh-spread, spread-alike}
use Rattle.alb_table.proofs.TableLemmas.{type_shape}
use Rattle.alb_table.proofs.Types.{type-listed, type-node}
use Rattle.alb_table.proofs.Within.{degree-same}
use Rattle.alb_trace.specs.Adds.{IsLonger}
use Rattle.alb_trace.specs.Given.{IsProductType, IsPartOfType, IsValueRow}
use Rattle.alb_trace.specs.Origins.{origin_at, product_type, origin_row, origin_instance}
use Rattle.alb_trace.specs.Recipes.{IsProduct}
use Rattle.alb_trace.specs.Trace.{lines_of, product_less, mono_less, image_less, entries_less, IsTrace, PushesItems}
use Rattle.alb_trace.specs.declared.trace.Trace.{Trace}
use Rattle.alb_trace.proofs.Adds.{longer-joined, longer-sum}
use Rattle.alb_trace.proofs.BlockEntries.{next, some, to, over-low, origin-named}
use Rattle.alb_trace.proofs.FactorLemmas.{scale-joined, image-pushed}
use Rattle.alb_trace.proofs.PushLemmas.{pushes-itself, pushes-alike, pushes-then}
use Rattle.alb_trace.proofs.Splits.{polynomial-split, entries-split, difference-joined}
use Rattle.alb_trace.proofs.ValueRows.{pos}

-- ---- combinations

pub scale-one : {p : ℕ} (f : Poly) → Alike p (scale 1 f) f
scale-one f = equal _ _ (λ w. omega (arith, weigh-scale w 1 f))

scales-swap : {p : ℕ} (a b : ℕ) (f : Poly) → Alike p (scale a (scale b f)) (scale b (scale a f))
scales-swap a b f = equal _ _ (λ w.
    weigh-scale w a (scale b f) ∙ ap (λ n. a * n) (weigh-scale w b f) ∙ mul_left_comm a b (weigh w f) ∙ sym (weigh-scale w b (scale a f) ∙ ap (λ n. b * n) (weigh-scale w a f)))

-- a multiple of a multiple of a multiple
pub scales-three : {p : ℕ} (y a c x : ℕ) (f : Poly) → IsSameMod p y (a * (c * x)) → Alike p (scale y f) (scale a (scale c (scale x f)))
scales-three y a c x f e = joined (scales-alike f e) (equal _ _ (λ w.
    weigh-scale w (a * (c * x)) f ∙ sym (weigh-scale w a (scale c (scale x f)) ∙ ap (λ n. a * n) (weigh-scale w c (scale x f) ∙ ap (λ n. c * n) (weigh-scale w x f))
    ∙ ap (λ n. a * n) (sym (mul_assoc c x (weigh w f))) ∙ sym (mul_assoc a (c * x) (weigh w f)))))

-- one more term
pub spread-term : {I : Type 0} {p : ℕ} (h : I → Poly) (f : Comb I) (s : ℕ × I) → Alike p (spread h (f ++ s ∷ [])) (spread h f ++ scale s.0 (h s.1))
spread-term h f s = equal _ _ (λ w.
    weigh-spread w h (f ++ s ∷ []) ∙ weigh-append (λ i. weigh w (h i)) f (s ∷ [])
    ∙ sym (weigh-append w (spread h f) (scale s.0 (h s.1)) ∙ rw (weigh-spread w h f, weigh-scale w s.0 (h s.1)) (omega arith)))

-- a combination of combinations is that of the terms, less what these differ from theirs
pub less-back : {I : Type 0} (p : ℕ) → 0 < p → (h : I → Comb I) (f : Comb I) → Alike p (spread h f) (f ++ scale (p - 1) (spread (λ m. difference p (unit m) (h m)) f))
less-back p pos h f = joined (record { at = weights }) (append-alike (itself f) (scale-alike (p - 1) (polynomial-split p pos h f)))
  where
    weights : (w : _) → IsSameMod p (weigh w (spread h f)) (weigh w (f ++ scale (p - 1) (difference p f (spread h f))))
    weights w =
        let F : ℕ = weigh w f in
        let H : ℕ = weigh w (spread h f) in
        let a : weigh w (difference p f (spread h f)) ≡ F + (p - 1) * H = weigh-append w f (scale (p - 1) (spread h f)) ∙ ap (λ n. F + n) (weigh-scale w (p - 1) (spread h f)) in
        let e : F * p + (p - 1) * ((p - 1) * H) ≡ F + (p - 1) * (F + (p - 1) * H) = omega (arith, minus_one p F pos, mul-add (p - 1) F ((p - 1) * H)) in
        back (minus_twice p H pos) ⊙ back (multiple F ((p - 1) * ((p - 1) * H))) ⊙ same e
        ⊙ same (sym (weigh-append w f (scale (p - 1) (difference p f (spread h f))) ∙ ap (λ n. F + n) (weigh-scale w (p - 1) (difference p f (spread h f)) ∙ ap (λ n. (p - 1) * n) a)))

-- minus a product
pub negative-is : (p c x y m : ℕ) → 0 < p → IsSameMod p (y + m) 0 → m ≡ (c * x) % p → IsSameMod p y ((p - 1) * (c * x))
negative-is p c x y m pos h e =
    cancel_plus (c * x) pos (plus (same {a = y} refl) (back (of_mod (c * x)) ⊙ same (sym e)) ⊙ h ⊙ back (multiple (c * x) 0) ⊙ same (omega (arith, minus_one p (c * x) pos)))

type-product : (n : ℕ) (l r : Tree) → type_of n (node l r) ≡ type_plus (type_of n l) (type_of n r)
type-product n l r =
    sym (plus_replicate n (node l r)) ∙ sym (plus-node (replicate n 0) n l r (length-replicate n 0))
    ∙ ap (λ xs. type_plus xs (type_of n r)) (plus_replicate n l)

module _ (fs : List Form) (t : Table) where
  -- further lines first
  pub pushes-after : (old mid new : Trace) (before after : List (ℕ × ℕ)) (f : Poly) → IsLonger (lines_of old) (lines_of mid) → PushesItems fs t mid new before after f → PushesItems fs t old new before after f
  pushes-after old mid new before after f l h = record {
    trace = h.trace;
    longer = longer-joined l h.longer;
    residues = h.residues;
    sum = λ z a. h.sum z (longer-sum t.p fs l before a);
  }

  -- a sum that began with no items
  pub pushes-sum : (old new : Trace) (before after : List (ℕ × ℕ)) (f : Poly) → before ≡ [] → PushesItems fs t old new before after f → IsSumOf t.p fs (lines_of new) after f
  pushes-sum old new before after f e h =
      let g : PushesItems fs t old new [] after f = subst (λ xs. PushesItems fs t old new xs after f) e h in
      g.sum [] (sum-zero t.p fs (lines_of old))

  pub pushes-residues : (old new : Trace) (before after : List (ℕ × ℕ)) (f : Poly) → before ≡ [] → PushesItems fs t old new before after f → All (λ c. c.0 < t.p) after
  pushes-residues old new before after f e h =
      let g : PushesItems fs t old new [] after f = subst (λ xs. PushesItems fs t old new xs after f) e h in
      g.residues (λ k d l. absurd (omega arith))

  -- one more term of a combination
  pub pushes-term : {I : Type 0} (old mid new : Trace) (before between after : List (ℕ × ℕ)) (h : I → Poly) (xs : Comb I) (k : ℕ) (d : ℕ × I) → k < length xs →
      PushesItems fs t old mid before between (spread h (take k xs)) → PushesItems fs t mid new between after (scale (get_or xs k d).0 (h (get_or xs k d).1)) →
      PushesItems fs t old new before after (spread h (take (k + 1) xs))
  pushes-term old mid new before between after h xs k d l a b =
      rw (take_more xs k d l) (pushes-alike fs t (turned (spread-term h (take k xs) (get_or xs k d))) (pushes-then fs t a b))

  -- the same, with two factors
  pub pushes-scaled : (old mid new : Trace) (before between after : List (ℕ × ℕ)) (y c : ℕ) (h : Tree → Poly) (xs : Poly) (k : ℕ) (s : ℕ × Tree) → k < length xs → s ≡ get_or xs k s →
      PushesItems fs t old mid before between (scale y (scale c (spread h (take k xs)))) → PushesItems fs t mid new between after (scale y (scale c (scale s.0 (h s.1)))) →
      PushesItems fs t old new before after (scale y (scale c (spread h (take (k + 1) xs))))
  pushes-scaled old mid new before between after y c h xs k s l e a b =
      let q : take (k + 1) xs ≡ take k xs ++ s ∷ [] = take_more xs k s l ∙ ap (λ x. take k xs ++ x ∷ []) (sym e) in
      subst (λ f. PushesItems fs t old new before after (scale y (scale c (spread h f)))) (sym q) (pushes-alike fs t
      (joined (scale-joined y (scale c (spread h (take k xs))) (scale c (scale s.0 (h s.1))))
      (scale-alike y (joined (scale-joined c (spread h (take k xs)) (scale s.0 (h s.1))) (scale-alike c (turned (spread-term h (take k xs) s)))))) (pushes-then fs t a b))

  -- nothing yet
  pub pushes-nothing : (s : Trace) (before : List (ℕ × ℕ)) → IsTrace fs t s → PushesItems fs t s s before before []
  pushes-nothing s before h = pushes-itself fs t s before [] h (itself [])

module _ (given : RulesView) (t : Table) (g : IsRightFor given t) where
  -- ---- the products of the parts of two values

  part-degree : (m : Tree) (b : ℕ) → b < length (elems t.parts) → IsPartOfType given.forms t m (mono_at t.parts b) → sum (type_at t.parts b) ≡ degree m
  part-degree m b l k = sym (of_type-degree (type_at t.parts b) (mono_at t.parts b) (number-type given.forms t g.table g.right.right b l)) ∙ degree-same (mono_at t.parts b) m k.type

  -- the degree of a column of a value
  pub cell-degree : (m : Tree) (cells : Cells) (v : IsValueRow given.forms t m cells) (k : ℕ) (d : ℕ × ℕ) → k < length cells → sum (type_at t.parts (get_or cells k d).0) ≡ degree m
  cell-degree m cells v k d l = part-degree m (get_or cells k d).0 (v.vector.below k d l) (v.parts k d l)

  type-of-number : (b : ℕ) → b < length (elems t.parts) → type_of (length t.target) (mono_at t.parts b) ≡ type_at t.parts b
  type-of-number b l =
      let n : length (type_at t.parts b) ≡ length t.target = (type_shape t b g.table l).long in
      ap (λ k. type_of k (mono_at t.parts b)) (sym n) ∙ (number-type given.forms t g.table g.right.right b l).counts

  -- the product of two parts has an entry
  parts-product : (l r : Tree) → IsWithinDegree t.target t.degree (node l r) → (b c : ℕ) → b < length (elems t.parts) → c < length (elems t.parts) →
      IsPartOfType given.forms t l (mono_at t.parts b) → IsPartOfType given.forms t r (mono_at t.parts c) → IsProduct t (b, c)
  parts-product l r w b c hb hc kb kc =
      let n : ℕ = length t.target in
      let e : type_of n (node l r) ≡ product_type t (b, c) =
      sym (type-listed n (node (mono_at t.parts b) (mono_at t.parts c)) (node l r) (type-node kb.type kc.type))
      ∙ type-product n (mono_at t.parts b) (mono_at t.parts c) ∙ ap (λ x. type_plus x (type_of n (mono_at t.parts c))) (type-of-number b hb) ∙ ap (type_plus (type_at t.parts b)) (type-of-number c hc) in
      let ty : IsTypeTo t.target t.degree (product_type t (b, c)) = subst (IsTypeTo t.target t.degree) e (within-type t.target t.degree (node l r) w) in
      let x = type_shape t b g.table hb in
      let y = type_shape t c g.table hc in
      let s : sum (type_at t.parts b) + sum (type_at t.parts c) ≡ sum (product_type t (b, c)) = sum-plus (type_at t.parts b) (type_at t.parts c) (x.long ∙ sym y.long) in
      record {
        left = hb;
        right = hc;
        type = record { covered = record { within = ty.le; degree_le = ty.degree }; long = ty.counts; big = omega (arith, s, x.some, y.some) };
      }

  pub row-products : (l r : Tree) → IsWithinDegree t.target t.degree (node l r) → (left right : Cells) → IsValueRow given.forms t l left → IsValueRow given.forms t r right → (k : ℕ) (d : ℕ × ℕ) → k < length left →
      All (λ cell. IsProduct t ((get_or left k d).0, cell.0)) right
  row-products l r w left right vl vr k d h = λ i e m.
      parts-product l r w (get_or left k d).0 (get_or right i e).0 (vl.vector.below k d h) (vr.vector.below i e m) (vl.parts k d h) (vr.parts i e m)

  -- all these products less their entries
  pub entries-alike : (l r : Tree) (left right : Cells) → IsValueRow given.forms t l left → IsValueRow given.forms t r right →
      Alike t.p (spread (λ b. spread (λ c. product_less t (b, c)) (comb right)) (comb left)) (entries_less t (node l r))
  unfolding product_less entries_less
  entries-alike l r left right vl vr =
      let f : Poly = mono_value (mono_entry t.parts) l in
      let h : Poly = mono_value (mono_entry t.parts) r in
      let prod : Tree → Tree → Poly = λ b c. difference t.p (unit (node b c)) (mono_entry t.parts b c) in
      joined (equal _ _ (λ w. weights w))
      (joined (multiply-alike prod (alike_poly vl.same) (alike_poly vr.same)) (turned (entries-split t.p (pos given t g) (mono_entry t.parts) f h)))
    where
      weights : (w : Tree → ℕ) → weigh w (spread (λ b. spread (λ c. difference t.p (unit (node (mono_at t.parts b) (mono_at t.parts c))) (mono_entry t.parts (mono_at t.parts b) (mono_at t.parts c))) (comb right)) (comb left))
          ≡ weigh w (multiply (λ b c. difference t.p (unit (node b c)) (mono_entry t.parts b c)) (reindex (mono_at t.parts) (comb left)) (reindex (mono_at t.parts) (comb right)))
      weights w =
          weigh-spread w (λ b. spread (λ c. difference t.p (unit (node (mono_at t.parts b) (mono_at t.parts c))) (mono_entry t.parts (mono_at t.parts b) (mono_at t.parts c))) (comb right)) (comb left)
          ∙ weigh-equal _ _ (comb left) (λ b. weigh-spread w (λ c. difference t.p (unit (node (mono_at t.parts b) (mono_at t.parts c))) (mono_entry t.parts (mono_at t.parts b) (mono_at t.parts c))) (comb right)
          ∙ sym (weigh-reindex (λ c. weigh w (difference t.p (unit (node (mono_at t.parts b) c)) (mono_entry t.parts (mono_at t.parts b) c))) (mono_at t.parts) (comb right)))
          ∙ sym (weigh-reindex (λ b. weigh (λ c. weigh w (difference t.p (unit (node b c)) (mono_entry t.parts b c))) (reindex (mono_at t.parts) (comb right))) (mono_at t.parts) (comb left))
          ∙ sym (weigh-multiply (λ b c. difference t.p (unit (node b c)) (mono_entry t.parts b c)) w (reindex (mono_at t.parts) (comb left)) (reindex (mono_at t.parts) (comb right)))

  -- ---- a monomial

  -- less its image, and its image less its value
  pub mono-alike : (m : Tree) → Alike t.p (scale 1 (image_less t m) ++ entries_less t m) (mono_less t m)
  unfolding mono_less image_less entries_less
  mono-alike m = joined (append-alike (scale-one (image_less t m)) (itself (entries_less t m)))
      (turned (difference-joined t.p (pos given t g) (unit m) (image node (mono_entry t.parts) (λ k. unit (leaf k)) m) (mono_value (mono_entry t.parts) m)))

  -- a generator is its value
  pub leaf-alike : (k : ℕ) → Alike t.p (mono_less t (leaf k)) []
  unfolding mono_less
  leaf-alike k = difference-zero t.p (pos given t g) (itself (unit (leaf k)))

  -- the image from the two factors
  pub image-pushes : (c : ℕ) (l r : Tree) → Alike t.p (scale c (reindex (beside (Right, r)) (mono_less t l)) ++ scale c (spread (λ b. reindex (beside (Left, b)) (mono_less t r)) (mono_value (mono_entry t.parts) l)))
      (scale c (image_less t (node l r)))
  unfolding image_less
  image-pushes c l r = image-pushed given t g c l r

  -- ---- kept instances

  module _ (w : List ℕ) (ty : IsProductType t w) (k : ℕ) (here : k < length (origins_at t.parts w)) where
    -- the monomials of an instance have its type
    pub instance-type : (p : ℕ) → Each (λ s. IsOfType w s.1) (normal p (origin_instance given.forms t w k))
    unfolding tuple_instance
    instance-type p = normal-each (IsOfType w) p (origin_instance given.forms t w k)
        (instance-types t.p (pos given t g) given.forms g.multilinear g.high t.target (sum w - 1) (some given t g w ty.covered ty.long ty.big) (mono_entry t.parts) (over-low given t g w ty.covered ty.long ty.big)
        w (to given t g w ty.covered ty.long ty.big) (next given t g w ty.covered ty.long ty.big) (instance_at t.parts (origin_at (origins_at t.parts w) k)) (origin-named given t g w ty.covered ty.long ty.big k here))

    -- the row of a kept instance is its instance, less what the monomials differ from their images by
    pub origin-alike : Alike t.p (origin_row given.forms t w k) (origin_instance given.forms t w k ++ scale (t.p - 1) (spread (image_less t) (origin_instance given.forms t w k)))
    unfolding tuple_instance image_less
    origin-alike = joined
        (tuple-image_at t.p (pos given t g) given.forms g.multilinear g.high t.target (sum w - 1) (some given t g w ty.covered ty.long ty.big) (mono_entry t.parts) (over-low given t g w ty.covered ty.long ty.big)
        w (to given t g w ty.covered ty.long ty.big) (next given t g w ty.covered ty.long ty.big) (instance_at t.parts (origin_at (origins_at t.parts w) k)) (origin-named given t g w ty.covered ty.long ty.big k here))
        (less-back t.p (pos given t g) (image node (mono_entry t.parts) (λ j. unit (leaf j))) (origin_instance given.forms t w k))

    -- the same, a multiple, with the terms of the normal form
    pub origin-pushed : (c : ℕ) → Alike t.p (scale c (origin_instance given.forms t w k) ++ scale (t.p - 1) (scale c (spread (image_less t) (normal t.p (origin_instance given.forms t w k))))) (scale c (origin_row given.forms t w k))
    origin-pushed c =
        let i : Poly = origin_instance given.forms t w k in
        joined (append-alike (itself (scale c i)) (joined (scale-alike (t.p - 1) (scale-alike c (spread-alike (image_less t) (normal-alike t.p i)))) (scales-swap (t.p - 1) c (spread (image_less t) i))))
        (joined (scale-joined c i (scale (t.p - 1) (spread (image_less t) i))) (scale-alike c (turned origin-alike)))

-- a term of a list, and what holds of it
pub term-is : (ts : List Term) (k : ℕ) (s : Term) → k < length ts → s ≡ get_or ts k s → term s ≡ get_or (terms ts) k (term s)
term-is ts k s l e = ap term e ∙ sym (get_or-map term ts k s (term s) l)

pub term-holds : (P : ℕ × Tree → Type 0) (ts : List Term) (f : Poly) (k : ℕ) (s : Term) → terms ts ≡ f → All P f → k < length ts → s ≡ get_or ts k s → P (term s)
term-holds P ts f k s q a l e = subst (λ x. P (term x)) (sym e) (all-terms P ts f q a k s l)
