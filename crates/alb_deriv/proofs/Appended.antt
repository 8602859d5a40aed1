-- Lines put after lines that stand.
use Rattle.std.proofs.Common.{◌≡◌, ℕ, ◌+◌, ◌-◌, ◌*◌, ◌%◌, ◌<◌, ◌≤◌, true, false, not, ◌&&◌, List, [], ◌∷◌, ◌++◌, length, sym, refl, ap, ◌∙◌, subst, arith, inl, inr, None}
use Rattle.std.specs.Bool.{IsTrue, ◌==◌}
use Rattle.std.specs.List.{list_any}
use Rattle.std.proofs.lemmas.Grind.{flat_map-append}
use Rattle.std.proofs.lemmas.List.{length-append}
use Rattle.std.proofs.lemmas.Bool.{cases_Bool, false≢true, eq-eqb, and_left, and_right, not_from_true}
use Rattle.std.proofs.lemmas.Bool.Decides.{nat_tests}
use Rattle.std.proofs.Math.Nat.{mod-eq_of_lt}
use Rattle.gf_field.specs.Modular.{IsSameMod}
use Rattle.gf_field.proofs.Mod.{same, ◌⊙◌}
use Rattle.gf_sums.specs.Sums.{coefficient, weigh, scale, reindex}
use Rattle.gf_sums.proofs.Totals.{total-equal, weigh-scale}
use Rattle.gf_sums.proofs.Alike.{Alike, equal, itself, turned, joined, append-alike, scale-alike, reindex-alike, weigh-flat}
use Rattle.alb_mono.specs.Tree.{Tree, type_of, type_le, AreBelow, same_tree}
use Rattle.alb_mono.specs.Listing.{Each}
use Rattle.alb_mono.specs.declared.side.Side.{Side}
use Rattle.alb_poly.specs.Poly.{Poly}
use Rattle.alb_poly.specs.Consequence.{beside, form_at}
use Rattle.alb_poly.specs.Instance.{Form, instance}
use Rattle.alb_poly.proofs.Multilinear.{each-append, each-map, each-from}
use Rattle.alb_poly.proofs.Consequence.{poly_alike, alike_poly, itself'}
use Rattle.alb_deriv.specs.Derivation.{Line, Instance, Times, Sum, earlier, line_value, line_values, fault, AreAllBelow, IsLineBelow, is_no_place, are_within, passes_target}
use Rattle.alb_deriv.specs.Short.{IsShort, AreFine, IsPlace, value_of, IsLineOf, sum_of, IsSumOf}
use Rattle.alb_deriv.proofs.Fits.{absent-or, any-none}
use Rattle.alb_deriv.proofs.Lines.{values-append, length-values, get-values, sound-append, last-line}

-- each monomial whose type is not at most the target has the coefficient zero
abbrev pub IsFitting : ℕ → List ℕ → Poly → Type 0
IsFitting p target f = (x : Tree) → type_le (type_of (length target) x) target ≡ false → IsSameMod p (coefficient same_tree f x) 0

pub place_fits : (ls : List Line) (k : ℕ) → IsPlace ls k → is_no_place (length ls) k ≡ false
place_fits ls k h = fits (length ls) k h.above h.among
  where
    fits : (n k : ℕ) → 0 < k → k ≤ n → is_no_place n k ≡ false
    fits n k a b = grind (arith, nat_tests)

length-standing : (fs : List Form) (ls : List Line) → length (line_values fs [] ls) ≡ length ls
length-standing fs ls = let e : length {A = Poly} [] ≡ 0 = refl in omega (arith, length-values fs [] ls)

-- ---- later lines

pub place-kept : (ls more : List Line) (k : ℕ) → IsPlace ls k → IsPlace (ls ++ more) k
place-kept ls more k h = record { above = h.above; among = omega (arith, h.among, length-append ls more) }

pub value-kept : (fs : List Form) (ls more : List Line) (k : ℕ) → IsPlace ls k → value_of fs (ls ++ more) k ≡ value_of fs ls k
value-kept fs ls more k h =
    ap (λ gs. earlier gs k) (values-append fs [] ls more)
    ∙ get-values fs (line_values fs [] ls) more (k - 1) (omega (arith, h.above, h.among, length-standing fs ls))

sum_of-kept : (fs : List Form) (ls more : List Line) (cs : List (ℕ × ℕ)) → Each (λ c. IsPlace ls c.1) cs → sum_of fs (ls ++ more) cs ≡ sum_of fs ls cs
sum_of-kept fs ls more [] a = refl
sum_of-kept fs ls more (c ∷ cs) a =
    ap (λ f. scale c.0 f ++ sum_of fs (ls ++ more) cs) (value-kept fs ls more c.1 a.0)
    ∙ ap (λ g. scale c.0 (value_of fs ls c.1) ++ g) (sum_of-kept fs ls more cs a.1)

-- ---- sums of multiples of lines

weigh-sum_of : (w : Tree → ℕ) (fs : List Form) (ls : List Line) (cs : List (ℕ × ℕ)) → weigh w (sum_of fs ls cs) ≡ weigh (λ k. weigh w (value_of fs ls k)) cs
weigh-sum_of w fs ls cs = weigh-flat w _ cs ∙ total-equal _ _ cs (λ c. weigh-scale w c.0 (value_of fs ls c.1))

pub sum_of-append : (fs : List Form) (ls : List Line) (cs ds : List (ℕ × ℕ)) → sum_of fs ls (cs ++ ds) ≡ sum_of fs ls cs ++ sum_of fs ls ds
sum_of-append fs ls cs ds = flat_map-append _ cs ds

sum_of-scale : {p : ℕ} (fs : List Form) (ls : List Line) (c : ℕ) (cs : List (ℕ × ℕ)) → Alike p (sum_of fs ls (scale c cs)) (scale c (sum_of fs ls cs))
sum_of-scale fs ls c cs = equal _ _ (λ w.
    weigh-sum_of w fs ls (scale c cs) ∙ weigh-scale _ c cs ∙ sym (weigh-scale w c (sum_of fs ls cs) ∙ ap (λ n. c * n) (weigh-sum_of w fs ls cs)))

sum_of-alike : {p : ℕ} (fs : List Form) (ls : List Line) {cs ds : List (ℕ × ℕ)} → Alike p cs ds → Alike p (sum_of fs ls cs) (sum_of fs ls ds)
sum_of-alike fs ls {cs} {ds} a = record { at = λ w. same (weigh-sum_of w fs ls cs) ⊙ a.at _ ⊙ same (sym (weigh-sum_of w fs ls ds)) }

module _ (p : ℕ) (fs : List Form) where
  pub line-kept : (ls more : List Line) (k : ℕ) {f : Poly} → IsLineOf p fs ls k f → IsLineOf p fs (ls ++ more) k f
  line-kept ls more k h = record { place = place-kept ls more k h.place; same = poly_alike (joined (itself' _ _ (value-kept fs ls more k h.place)) (alike_poly h.same)) }

  pub line-alike : {ls : List Line} {k : ℕ} {f g : Poly} → Alike p f g → IsLineOf p fs ls k f → IsLineOf p fs ls k g
  line-alike a h = record { place = h.place; same = poly_alike (joined (alike_poly h.same) a) }

  pub sum-kept : (ls more : List Line) (cs : List (ℕ × ℕ)) {f : Poly} → IsSumOf p fs ls cs f → IsSumOf p fs (ls ++ more) cs f
  sum-kept ls more cs h = record {
    places = each-from _ _ cs (λ c k. place-kept ls more c.1 k) h.places;
    same = poly_alike (joined (itself' _ _ (sum_of-kept fs ls more cs h.places)) (alike_poly h.same));
  }

  -- ---- combinations of lines

  pub sum-alike : {ls : List Line} {cs : List (ℕ × ℕ)} {f g : Poly} → Alike p f g → IsSumOf p fs ls cs f → IsSumOf p fs ls cs g
  sum-alike a h = record { places = h.places; same = poly_alike (joined (alike_poly h.same) a) }

  pub sum-zero : (ls : List Line) → IsSumOf p fs ls [] []
  sum-zero ls = record { places = tt; same = poly_alike (itself []) }

  pub sum-append : {ls : List Line} {cs ds : List (ℕ × ℕ)} {f g : Poly} → IsSumOf p fs ls cs f → IsSumOf p fs ls ds g → IsSumOf p fs ls (cs ++ ds) (f ++ g)
  sum-append {ls} {cs} {ds} a b = record {
    places = each-append _ cs ds a.places b.places;
    same = poly_alike (joined (itself' _ _ (sum_of-append fs ls cs ds)) (append-alike (alike_poly a.same) (alike_poly b.same)));
  }

  pub sum-scale : {ls : List Line} (c : ℕ) {cs : List (ℕ × ℕ)} {f : Poly} → IsSumOf p fs ls cs f → IsSumOf p fs ls (scale c cs) (scale c f)
  sum-scale {ls} c {cs} a = record {
    places = each-map (λ t. IsPlace ls t.1) (λ t. IsPlace ls t.1) (λ t. (c * t.0, t.1)) cs (λ t h. h) a.places;
    same = poly_alike (joined (sum_of-scale fs ls c cs) (scale-alike c (alike_poly a.same)));
  }

  -- Equal combinations of lines have equal polynomials: coefficients may be reduced, equal lines merged and zeros dropped.
  pub sum-combination : {ls : List Line} {cs ds : List (ℕ × ℕ)} {f : Poly} → Alike p cs ds → Each (λ c. IsPlace ls c.1) ds → IsSumOf p fs ls cs f → IsSumOf p fs ls ds f
  sum-combination {ls} a places h = record { places = places; same = poly_alike (joined (sum_of-alike fs ls (turned a)) (alike_poly h.same)) }

  -- No lines give zero, also beside a monomial.
  pub sum-none : {f : Poly} (ls : List Line) → Alike p f [] → IsSumOf p fs ls [] f
  sum-none ls a = record { places = tt; same = poly_alike (turned a) }

  pub none-beside : {ls : List Line} (s : Side × Tree) {f : Poly} → IsSumOf p fs ls [] f → IsSumOf p fs ls [] (reindex (beside s) f)
  none-beside s {f} h = let a : Alike p [] f = alike_poly h.same in record { places = tt; same = poly_alike (reindex-alike (beside s) a) }

  one : (g : Poly) → Alike p (scale 1 g ++ []) g
  one g = itself' _ _ (scaled g)
    where
      scaled : (g : Poly) → scale 1 g ++ [] ≡ g
      scaled [] = refl
      scaled (t ∷ g) = let e : 1 * t.0 ≡ t.0 = omega arith in rw e (ap (λ h. t ∷ h) (scaled g))

  -- A line is a combination, and the converse.
  pub sum-one : {ls : List Line} {k : ℕ} {f : Poly} → IsLineOf p fs ls k f → IsSumOf p fs ls ((1, k) ∷ []) f
  sum-one {ls} {k} h = record { places = (h.place, tt); same = poly_alike (joined (one (value_of fs ls k)) (alike_poly h.same)) }

  pub one-line : {ls : List Line} {k : ℕ} {f : Poly} → IsSumOf p fs ls ((1, k) ∷ []) f → IsLineOf p fs ls k f
  one-line {ls} {k} h = record { place = h.places.0; same = poly_alike (joined (turned (one (value_of fs ls k))) (alike_poly h.same)) }

-- ---- one more line

-- the line `l` after `ls` has no fault, and the polynomial `f`
pub record Appends (p most : ℕ) (target : List ℕ) (fs : List Form) (ls : List Line) (l : Line) (f : Poly) : Type 0 where
  pub fine : AreFine p most target fs (ls ++ l ∷ [])
  pub line : IsLineOf p fs (ls ++ l ∷ []) (length ls + 1) f

module _ (p : ℕ) (pos : 0 < p) (most : ℕ) (target : List ℕ) (fs : List Form) where
  appends : (ls : List Line) (l : Line) {f : Poly} → AreFine p most target fs ls → fault p target fs (line_values fs [] ls) l ≡ None → IsLineBelow (length target) l → IsShort most l →
      Alike p (line_value fs (line_values fs [] ls) l) f → Appends p most target fs ls l f
  appends ls l h e b s a =
      let n : length (ls ++ l ∷ []) ≡ length ls + 1 = omega (arith, length-append ls (l ∷ [])) in
      record {
        fine = record {
          sound = sound-append fs p target [] ls (l ∷ []) h.sound (e, tt);
          lettered = each-append (IsLineBelow (length target)) ls (l ∷ []) h.lettered (b, tt);
          short = each-append (IsShort most) ls (l ∷ []) h.short (s, tt);
        };
        line = record {
          place = record { above = omega arith; among = omega (arith, n) };
          same = poly_alike (joined (itself' _ _ (ap (λ k. value_of fs (ls ++ l ∷ []) k) (sym n) ∙ last-line fs ls l)) a);
        };
      }

  -- no line at all
  pub nothing-fine : AreFine p most target fs []
  nothing-fine = record { sound = tt; lettered = tt; short = tt }

  -- a line for an instance
  pub append-instance : (ls : List Line) (i : ℕ) (ms : List Tree) → AreFine p most target fs ls → i < length fs → length ms ≡ (form_at fs i).degree →
      IsTrue (are_within target ms) → AreAllBelow (length target) ms →
      Appends p most target fs ls (Instance (i + 1) ms) (instance (form_at fs i) ms)
  append-instance ls i ms h l n t b =
      let e : i + 1 - 1 ≡ i = omega arith in
      let q : (length ms == (form_at fs i).degree) ≡ true = eq-eqb _ _ n in
      let z : is_no_place (length fs) (i + 1) ≡ false = grind (arith, nat_tests) in
      appends ls (Instance (i + 1) ms) h (rw (z, e, q, t)) b tt (itself' _ _ (ap (λ k. instance (form_at fs k) ms) e))

  fitting-passes : (f : Poly) → IsFitting p target f → passes_target p target f ≡ false
  fitting-passes f h = any-none _ f (each-all f (λ x. elim (cases_Bool (type_le (type_of (length target) x) target)) [
    | inl e ↦ and_right _ _ (not_from_true _ e)
    | inr e ↦ (let z : coefficient same_tree f x % p ≡ 0 = (h x e).same ∙ mod-eq_of_lt pos in and_left _ _ (not_from_true _ (eq-eqb _ 0 z)))
  ]))
    where
      each-all : (g : Poly) → ((x : Tree) → (not (coefficient same_tree f x % p == 0) && not (type_le (type_of (length target) x) target)) ≡ false) →
          Each (λ t. (not (coefficient same_tree f t.1 % p == 0) && not (type_le (type_of (length target) t.1) target)) ≡ false) g
      each-all [] k = tt
      each-all (t ∷ g) k = (k t.1, each-all g k)

  pub fitting-alike : {f g : Poly} → Alike p f g → IsFitting p target f → IsFitting p target g
  fitting-alike {f} {g} a h x e = poly_alike (turned a) x ⊙ h x e

  -- polynomials whose monomials are at most the target
  pub fitting-each : (f : Poly) → Each (λ t. IsTrue (type_le (type_of (length target) t.1) target)) f → IsFitting p target f
  fitting-each f a x e = elim (absent-or (λ y. IsTrue (type_le (type_of (length target) y) target)) f x a) [
    | inl s ↦ absurd (false≢true (sym e ∙ s))
    | inr c ↦ same c
  ]

  -- a line for the product with a monomial
  pub append-times : (ls : List Line) (k : ℕ) (s : Side × Tree) (f : Poly) → AreFine p most target fs ls → IsLineOf p fs ls k f → AreBelow (length target) s.1 →
      IsFitting p target (reindex (beside s) f) → Appends p most target fs ls (Times k s) (reindex (beside s) f)
  append-times ls k s f h l b t =
      let G : List Poly = line_values fs [] ls in
      let a : Alike p (reindex (beside s) (earlier G k)) (reindex (beside s) f) = reindex-alike (beside s) (alike_poly l.same) in
      let n : is_no_place (length G) k ≡ false = subst (λ j. is_no_place j k ≡ false) (sym (length-standing fs ls)) (place_fits ls k l.place) in
      appends ls (Times k s) h (rw (n, fitting-passes (reindex (beside s) (earlier G k)) (fitting-alike (turned a) t))) b tt a

  -- a line for a combination of lines
  pub append-sum : (ls : List Line) (cs : List (ℕ × ℕ)) (f : Poly) → AreFine p most target fs ls → IsSumOf p fs ls cs f → length cs ≤ most → Appends p most target fs ls (Sum cs) f
  append-sum ls cs f h s l =
      let G : List Poly = line_values fs [] ls in
      let q : list_any (λ c. is_no_place (length G) c.1) cs ≡ false = any-none (λ c. is_no_place (length G) c.1) cs
      (each-from (λ c. IsPlace ls c.1) _ cs (λ c k. subst (λ j. is_no_place j c.1 ≡ false) (sym (length-standing fs ls)) (place_fits ls c.1 k)) s.places) in
      appends ls (Sum cs) h (rw q) tt l (alike_poly s.same)
