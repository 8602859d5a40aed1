-- How the lines are judged one after the other.
use Rattle.std.proofs.Common.{◌≡◌, ◌<◌, ◌≤◌, ℕ, suc, ◌+◌, ◌-◌, Bool, true, false, List, [], ◌∷◌, ◌++◌, map, take, drop, length, get_or, refl, sym, ap, ◌∙◌, arith, Option, Some, None, Err, inl, inr}
use Rattle.std.proofs.Math.ListN.{drop_of_length-le}
use Rattle.std.proofs.Math.Seq.{drop-cons, get_or-append_seam}
use Rattle.std.proofs.lemmas.List.{take_more, take_all, map-append, length-append, length-map, get_or-map, nil_from_length, length-take-le}
use Rattle.std.specs.Prelude.{if◌then◌else◌}
use Rattle.std.proofs.lemmas.Bool.{cases_Bool}
use Rattle.alb_poly.specs.Poly.{Poly, AreResidues, IsDescending, normal}
use Rattle.alb_poly.specs.Instance.{Form}
use Rattle.alb_poly.specs.Terms.{terms, term}
use Rattle.alb_poly.specs.declared.term.Term.{Term}
use Rattle.alb_poly.proofs.NormalLemmas.{normal-canonical, descending-canonical}
use Rattle.alb_deriv.specs.Derivation.{Line, DerivationFault, BadIdentity, WrongCount, LaterLine, OutOfType, NotTheClaim, line_value, line_values, last_value, earlier, fault, first_fault, or_claim, claim_fault, same_terms}
use Rattle.alb_deriv.specs.Views.{line}
use Rattle.alb_deriv.specs.Answers.{IsValue, TellsFault, error_at}
use Rattle.alb_deriv.specs.declared.line.Line.{Line as Entry}
use Rattle.alb_deriv.specs.declared.values.LineFault.{LineFault}
use Rattle.alb_deriv.specs.declared.values.LineFault.TheVariants as faults
use Rattle.alb_deriv.proofs.Judged.{same_terms-sound}
use Rattle.alb_deriv.proofs.Lines.{values-append, length-values}
use Rattle.alb_deriv.proofs.LineLemmas.{normal-nil}

drop-line : (xs : List Entry) (k : ℕ) (x : Entry) → k < length xs → x ≡ get_or xs k x → map line (drop k xs) ≡ line x ∷ map line (drop (k + 1) xs)
drop-line xs k x l e =
    let one : suc k ≡ k + 1 = omega arith in
    ap (map line) (drop-cons xs k x l) ∙ (λ i. line (sym e i) ∷ map line (drop (one i) xs))

take-line : (xs : List Entry) (k : ℕ) (x : Entry) → k < length xs → x ≡ get_or xs k x → map line (take (k + 1) xs) ≡ map line (take k xs) ++ line x ∷ []
take-line xs k x l e = ap (map line) (take_more xs k x l) ∙ map-append line (take k xs) (get_or xs k x ∷ []) ∙ ap (λ y. map line (take k xs) ++ line y ∷ []) (sym e)

length-taken : (xs : List Entry) (k : ℕ) → k ≤ length xs → length (map line (take k xs)) ≡ k
length-taken xs k l = length-map (take k xs) line ∙ length-take-le k xs l

-- an error tells the fault that was found
pub tells-at : (e : LineFault) (found : Option DerivationFault) (k : ℕ) (whole : Option (DerivationFault × ℕ)) (v : Poly) → IsValue (Err e) found v → ((y : DerivationFault) → found ≡ Some y → whole ≡ Some (y, k)) →
    TellsFault (error_at e k) whole
tells-at faults.BadIdentity found k whole v h w = w BadIdentity h
tells-at faults.WrongCount found k whole v h w = w WrongCount h
tells-at faults.LaterLine found k whole v h w = w LaterLine h
tells-at faults.OutOfType found k whole v h w = w OutOfType h
tells-at faults.NoMemory found k whole v h w = tt

module _ (p : ℕ) (target : List ℕ) (fs : List Form) where
  length-before : (xs : List Entry) (k : ℕ) → k ≤ length xs → length (line_values fs [] (map line (take k xs))) ≡ k
  length-before xs k l = omega (arith, length-values fs [] (map line (take k xs)), length-taken xs k l)

  pub fault-here : (xs : List Entry) (k : ℕ) (x : Entry) (whole : Option (DerivationFault × ℕ)) → k < length xs → x ≡ get_or xs k x →
      first_fault p target fs (line_values fs [] (map line (take k xs))) (map line (drop k xs)) ≡ whole →
      (y : DerivationFault) → fault p target fs (line_values fs [] (map line (take k xs))) (line x) ≡ Some y → whole ≡ Some (y, k + 1)
  fault-here xs k x whole l e f y h =
      let G = line_values fs [] (map line (take k xs)) in
      sym f ∙ ap (first_fault p target fs G) (drop-line xs k x l e) ∙ rw h (ap (λ n. Some (y, n + 1)) (length-before xs k (omega arith)))

  pub found-more : (xs : List Entry) (k : ℕ) (x : Entry) (whole : Option (DerivationFault × ℕ)) → k < length xs → x ≡ get_or xs k x →
      first_fault p target fs (line_values fs [] (map line (take k xs))) (map line (drop k xs)) ≡ whole → fault p target fs (line_values fs [] (map line (take k xs))) (line x) ≡ None →
      first_fault p target fs (line_values fs [] (map line (take (k + 1) xs))) (map line (drop (k + 1) xs)) ≡ whole
  found-more xs k x whole l e f h =
      let G = line_values fs [] (map line (take k xs)) in
      let step : first_fault p target fs G (line x ∷ map line (drop (k + 1) xs)) ≡ first_fault p target fs (G ++ line_value fs G (line x) ∷ []) (map line (drop (k + 1) xs)) = rw h refl in
      ap (λ gs. first_fault p target fs gs (map line (drop (k + 1) xs))) (ap (line_values fs []) (take-line xs k x l e) ∙ values-append fs [] (map line (take k xs)) (line x ∷ []))
      ∙ sym step ∙ ap (first_fault p target fs G) (sym (drop-line xs k x l e)) ∙ f

  pub values-more : (xs : List Entry) (k : ℕ) (x : Entry) (values : List Poly) (v : Poly) → k < length xs → x ≡ get_or xs k x →
      values ≡ map (normal p) (line_values fs [] (map line (take k xs))) → v ≡ normal p (line_value fs (line_values fs [] (map line (take k xs))) (line x)) →
      values ++ v ∷ [] ≡ map (normal p) (line_values fs [] (map line (take (k + 1) xs)))
  values-more xs k x values v l e h w =
      let G = line_values fs [] (map line (take k xs)) in
      (λ i. h i ++ w i ∷ []) ∙ sym (map-append (normal p) G (line_value fs G (line x) ∷ []))
      ∙ ap (map (normal p)) (sym (ap (line_values fs []) (take-line xs k x l e) ∙ values-append fs [] (map line (take k xs)) (line x ∷ [])))

  pub found-all : (xs : List Entry) (k : ℕ) (whole : Option (DerivationFault × ℕ)) → length xs ≤ k →
      first_fault p target fs (line_values fs [] (map line (take k xs))) (map line (drop k xs)) ≡ whole → whole ≡ None
  found-all xs k whole l f = sym f ∙ ap (λ ys. first_fault p target fs (line_values fs [] (map line (take k xs))) (map line ys)) (drop_of_length-le xs l)

  pub last-found : (xs : List Entry) (k : ℕ) (values front : List Poly) (v : Poly) → length xs ≤ k → values ≡ map (normal p) (line_values fs [] (map line (take k xs))) →
      values ≡ front ++ v ∷ [] → v ≡ normal p (last_value fs (map line xs))
  last-found xs k values front v l h e =
      let G = line_values fs [] (map line xs) in
      let all : values ≡ map (normal p) G = h ∙ ap (λ ys. map (normal p) (line_values fs [] (map line ys))) (take_all k xs l) in
      let n : length G ≡ length front + 1 = sym (length-map G (normal p)) ∙ ap length (sym all ∙ e) ∙ length-append front (v ∷ []) in
      let m : length (map line xs) - 1 ≡ length front = omega (arith, n, length-values fs [] (map line xs)) in
      sym (get_or-append_seam front v [] v) ∙ ap (λ vs. get_or vs (length front) v) (sym e ∙ all)
      ∙ get_or-map (normal p) G (length front) [] v (omega arith) ∙ ap (λ j. normal p (get_or G j [])) (sym m)

  pub none-found : (xs : List Entry) (k : ℕ) (values : List Poly) → length xs ≤ k → values ≡ map (normal p) (line_values fs [] (map line (take k xs))) → length values ≡ 0 →
      [] ≡ normal p (last_value fs (map line xs))
  none-found xs k values l h z =
      let G = line_values fs [] (map line xs) in
      let all : values ≡ map (normal p) G = h ∙ ap (λ ys. map (normal p) (line_values fs [] (map line ys))) (take_all k xs l) in
      let n : length G ≡ 0 = sym (length-map G (normal p)) ∙ ap length (sym all) ∙ z in
      let none : G ≡ [] = nil_from_length G n in
      sym (normal-nil p) ∙ ap (normal p) (sym (ap (λ gs. earlier gs (length (map line xs))) none))

-- ---- the comparison

pub not-same : (f g : Poly) → (f ≡ g → ⊥) → false ≡ same_terms f g
not-same f g h = elim (cases_Bool (same_terms f g)) [ inl e ↦ absurd (h (same_terms-sound f g e)) | inr e ↦ sym e ]

pub not-long : (f g : List Term) → (length f ≡ length g → ⊥) → false ≡ same_terms (terms f) (terms g)
not-long f g h = not-same (terms f) (terms g) (λ e. h (sym (length-map f term) ∙ ap length e ∙ length-map g term))

-- a polynomial of residues is its own normal form
pub itself-normal : (p : ℕ) (g : Poly) → AreResidues p g → IsDescending g → normal p g ≡ g
itself-normal p g r d = normal-canonical p g (descending-canonical p g d r)

judged : (b : Bool) → or_claim None b ≡ (if b then None else Some (NotTheClaim, 0))
judged true = refl
judged false = refl

pub claim-judged : (p : ℕ) (target : List ℕ) (fs : List Form) (ls : List Line) (last g : Poly) → first_fault p target fs [] ls ≡ None → last ≡ normal p (last_value fs ls) → normal p g ≡ g →
    claim_fault p target fs g ls ≡ (if same_terms last g then None else Some (NotTheClaim, 0))
claim-judged p target fs ls last g n e h = rw (n, ← e, h) (judged (same_terms last g))
