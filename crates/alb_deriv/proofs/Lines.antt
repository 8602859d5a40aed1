-- How lines extend a derivation.
use Rattle.std.proofs.Common.{◌≡◌, ℕ, ◌+◌, ◌-◌, ◌<◌, List, [], ◌∷◌, ◌++◌, length, get_or, refl, ◌∙◌, arith, None}
use Rattle.std.proofs.Math.ListN.{get_or-append}
use Rattle.std.proofs.Math.Seq.{get_or-append_seam}
use Rattle.std.proofs.lemmas.List.{length-append}
use Rattle.alb_poly.specs.Poly.{Poly}
use Rattle.alb_poly.specs.Instance.{Form}
use Rattle.alb_mono.specs.Listing.{Each}
use Rattle.alb_poly.proofs.Multilinear.{each-append}
use Rattle.alb_deriv.specs.Derivation.{Line, line_value, line_values, last_value, fault, AreSound, IsLineBelow}

module _ (fs : List Form) where
  pub values-append : (gs : List Poly) (ls ls' : List Line) → line_values fs gs (ls ++ ls') ≡ line_values fs (line_values fs gs ls) ls'
  values-append gs [] ls' = refl
  values-append gs (l ∷ ls) ls' = values-append (gs ++ line_value fs gs l ∷ []) ls ls'

  pub length-values : (gs : List Poly) (ls : List Line) → length (line_values fs gs ls) ≡ length gs + length ls
  length-values gs [] = omega arith
  length-values gs (l ∷ ls) = omega (arith, length-values (gs ++ line_value fs gs l ∷ []) ls, length-append gs (line_value fs gs l ∷ []))

  -- later lines leave the earlier ones
  pub get-values : (gs : List Poly) (ls : List Line) (k : ℕ) → k < length gs → get_or (line_values fs gs ls) k [] ≡ get_or gs k []
  get-values gs [] k h = refl
  get-values gs (l ∷ ls) k h =
      get-values (gs ++ line_value fs gs l ∷ []) ls k (omega (arith, length-append gs (line_value fs gs l ∷ [])))
      ∙ get_or-append gs (line_value fs gs l ∷ []) [] k h

  pub last-line : (ls : List Line) (l : Line) → last_value fs (ls ++ l ∷ []) ≡ line_value fs (line_values fs [] ls) l
  last-line ls l =
      let G : List Poly = line_values fs [] ls in
      let n : length (ls ++ l ∷ []) - 1 ≡ length G = omega (arith, length-append ls (l ∷ []), length-values [] ls) in
      rw (n, values-append [] ls (l ∷ [])) (get_or-append_seam G (line_value fs G l) [] [])

  module _ (p : ℕ) (target : List ℕ) where
    pub sound-append : (gs : List Poly) (ls ls' : List Line) → AreSound p target fs gs ls → AreSound p target fs (line_values fs gs ls) ls' → AreSound p target fs gs (ls ++ ls')
    sound-append gs [] ls' h k = k
    sound-append gs (l ∷ ls) ls' h k = (h.0, sound-append (gs ++ line_value fs gs l ∷ []) ls ls' h.1 k)

    -- lines that lead from lines with the polynomials `gs` to `f`, at the place `place`
    pub record Extends (gs : List Poly) (f : Poly) : Type 0 where
      pub lines : List Line
      pub sound : AreSound p target fs gs lines
      pub lettered : Each (IsLineBelow (length target)) lines
      pub place : ℕ
      pub below : place < length (line_values fs gs lines)
      pub holds : get_or (line_values fs gs lines) place [] ≡ f

    -- one more line
    pub extends-line : (gs : List Poly) (ls : List Line) (l : Line) → AreSound p target fs gs ls → Each (IsLineBelow (length target)) ls → IsLineBelow (length target) l → fault p target fs (line_values fs gs ls) l ≡ None →
        Extends gs (line_value fs (line_values fs gs ls) l)
    extends-line gs ls l h b c k =
        let G : List Poly = line_values fs gs ls in
        let e : line_values fs gs (ls ++ l ∷ []) ≡ G ++ line_value fs G l ∷ [] = values-append gs ls (l ∷ []) in
        record {
          lines = ls ++ l ∷ [];
          sound = sound-append gs ls (l ∷ []) h (k, tt);
          lettered = each-append (IsLineBelow (length target)) ls (l ∷ []) b (c, tt);
          place = length G;
          below = rw e (omega (arith, length-append G (line_value fs G l ∷ [])));
          holds = rw e (get_or-append_seam G (line_value fs G l) [] []);
        }
