-- The polynomial of a line out of all lines, and that equal lines have equal polynomials.
use Rattle.std.proofs.Common.{◌≡◌, ℕ, zero, suc, ◌+◌, ◌-◌, ◌<◌, ◌≤◌, true, false, List, [], ◌∷◌, ◌++◌, length, get_or, take, drop, refl, sym, ap, ◌∙◌, subst, arith, None, eq-eqb, length-append, length-take-le, take-append-drop}
use Rattle.std.specs.Bool.{◌==◌}
use Rattle.std.specs.List.{flat_map, list_any}
use Rattle.std.proofs.lemmas.Bool.{or_left, or_right}
use Rattle.std.proofs.Math.Seq.{get_or-append_seam}
use Rattle.gf_sums.specs.Sums.{scale, reindex}
use Rattle.alb_mono.specs.Listing.{Each}
use Rattle.alb_poly.specs.Consequence.{beside}
use Rattle.alb_poly.specs.Poly.{Poly}
use Rattle.alb_poly.specs.Instance.{Form}
use Rattle.alb_deriv.specs.Derivation.{Line, Instance, Times, Sum, earlier, line_value, line_values, fault, AreSound}
use Rattle.alb_deriv.specs.Short.{IsPlace, value_of}
use Rattle.alb_deriv.proofs.Appended.{value-kept}
use Rattle.alb_deriv.proofs.Lines.{get-values}
use Rattle.alb_tidy.specs.Tidy.{line_at, cites}
use Rattle.alb_tidy.specs.Cites.{IsNumber, CitesWithin, AreOrdered}
use Rattle.alb_tidy.proofs.Citing.{cites-within}

sum-same : (gs hs : List Poly) (cs : List (ℕ × ℕ)) → ((k : ℕ) → list_any (λ c. c.1 == k) cs ≡ true → earlier gs k ≡ earlier hs k) →
    flat_map (λ c. scale c.0 (earlier gs c.1)) cs ≡ flat_map (λ c. scale c.0 (earlier hs c.1)) cs
sum-same gs hs [] h = refl
sum-same gs hs (c ∷ cs) h = λ i.
    scale c.0 (h c.1 (or_left (c.1 == c.1) _ (eq-eqb c.1 c.1 refl)) i) ++ sum-same gs hs cs (λ k e. h k (or_right (c.1 == k) _ e)) i

module _ (fs : List Form) where
  -- what a line cites decides its polynomial
  pub value-same : (gs hs : List Poly) (l : Line) → ((k : ℕ) → cites l k ≡ true → earlier gs k ≡ earlier hs k) → line_value fs gs l ≡ line_value fs hs l
  value-same gs hs (Instance i ms) h = refl
  value-same gs hs (Times k s) h = ap (reindex (beside s)) (h k (eq-eqb k k refl))
  value-same gs hs (Sum cs) h = sum-same gs hs cs h

  value-at : (gs : List Poly) (ls : List Line) (k : ℕ) → k < length ls →
      get_or (line_values fs gs ls) (length gs + k) [] ≡ line_value fs (line_values fs gs (take k ls)) (line_at ls k)
  value-at gs [] k h = absurd (omega arith)
  value-at gs (l ∷ ls) zero h =
      let v : Poly = line_value fs gs l in
      let n : length gs + 0 ≡ length gs = omega arith in
      ap (λ j. get_or (line_values fs (gs ++ v ∷ []) ls) j []) n
      ∙ get-values fs (gs ++ v ∷ []) ls (length gs) (omega (arith, length-append gs (v ∷ [])))
      ∙ get_or-append_seam gs v [] []
  value-at gs (l ∷ ls) (suc k) h =
      let v : Poly = line_value fs gs l in
      let n : length gs + suc k ≡ length (gs ++ v ∷ []) + k = omega (arith, length-append gs (v ∷ [])) in
      ap (λ j. get_or (line_values fs (gs ++ v ∷ []) ls) j []) n ∙ value-at (gs ++ v ∷ []) ls k (omega arith)

  -- the polynomial of a line by those before it
  pub value-before : (ls : List Line) (k : ℕ) → k < length ls → value_of fs ls (k + 1) ≡ line_value fs (line_values fs [] (take k ls)) (line_at ls k)
  value-before ls k h =
      let z : length {A = Poly} [] + k ≡ k + 1 - 1 = omega arith in
      ap (λ j. get_or (line_values fs [] ls) j []) (sym z) ∙ value-at [] ls k h

  -- what stands before a place has the same polynomials there
  pub earlier-front : (ls : List Line) (n k : ℕ) → n ≤ length ls → IsNumber n k → earlier (line_values fs [] (take n ls)) k ≡ value_of fs ls k
  earlier-front ls n k h w =
      let c : length (take n ls) ≡ n = length-take-le n ls h in
      let place : IsPlace (take n ls) k = record { above = w.above; among = omega (arith, w.among) } in
      sym (value-kept fs (take n ls) (drop n ls) k place) ∙ ap (λ xs. value_of fs xs k) (take-append-drop n ls)

  -- the polynomial of a line by all
  pub value-whole : (ls : List Line) (k : ℕ) → AreOrdered ls → k < length ls → value_of fs ls (k + 1) ≡ line_value fs (line_values fs [] ls) (line_at ls k)
  value-whole ls k o h =
      value-before ls k h
      ∙ value-same (line_values fs [] (take k ls)) (line_values fs [] ls) (line_at ls k)
      (λ j e. earlier-front ls k j (omega arith) (cites-within k (line_at ls k) j (o k h) e))

  -- EQUAL LINES have equal polynomials
  pub value-again : (ls : List Line) (j k : ℕ) → AreOrdered ls → j < length ls → k < length ls → line_at ls j ≡ line_at ls k → value_of fs ls (j + 1) ≡ value_of fs ls (k + 1)
  value-again ls j k o h l e = value-whole ls j o h ∙ ap (line_value fs (line_values fs [] ls)) e ∙ sym (value-whole ls k o l)

module _ (p : ℕ) (target : List ℕ) (fs : List Form) where
  fault-at : (gs : List Poly) (ls : List Line) (k : ℕ) → AreSound p target fs gs ls → k < length ls → fault p target fs (line_values fs gs (take k ls)) (line_at ls k) ≡ None
  fault-at gs [] k h l = absurd (omega arith)
  fault-at gs (x ∷ ls) zero h l = h.0
  fault-at gs (x ∷ ls) (suc k) h l = fault-at (gs ++ line_value fs gs x ∷ []) ls k h.1 (omega arith)

  -- a line has no fault after those before it
  pub fault-before : (ls : List Line) (k : ℕ) → AreSound p target fs [] ls → k < length ls → fault p target fs (line_values fs [] (take k ls)) (line_at ls k) ≡ None
  fault-before ls k h l = fault-at [] ls k h l
