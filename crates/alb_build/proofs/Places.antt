-- Where the parts of the next degree stand in the longer table.
use Rattle.std.proofs.Common.{◌≡◌, ℕ, ◌+◌, ◌-◌, ◌<◌, ◌≤◌, true, false, List, [], ◌∷◌, ◌++◌, length, get_or, sym, refl, ap, ◌∙◌, subst, arith, sum, inl, inr, length-append}
use Rattle.std.proofs.lemmas.Bool.{cases_Bool}
use Rattle.std.proofs.lemmas.List.{get_or_append_left, get_or-append_right}
use Rattle.alb_mono.specs.Listing.{Each, IsIn}
use Rattle.alb_poly.specs.Poly.{list_eq}
use Rattle.alb_poly.specs.Instance.{Form}
use Rattle.alb_table.specs.declared.part.Elem.{Elem}
use Rattle.alb_table.specs.Table.{PartView, first_of, dim_of, entries_at, origins_at, elems, Table}
use Rattle.alb_linear.proofs.IdentityLemmas.{list_eq-sound, list_eq-itself}
use Rattle.alb_table.proofs.PartLemmas.{list_eq-other}
use Rattle.alb_block.specs.View.{BlockView}
use Rattle.alb_build.specs.Part.{IsPartMade, ArePartsOf}
use Rattle.alb_build.specs.Next.{IsNextBlock, AreBlocks}

-- the part of a type, made of its block
pub record HasPart (fs : List Form) (t : Table) (parts : List PartView) (n : ℕ) (w : List ℕ) : Type 0 where
  pub block : BlockView
  pub part : PartView
  pub first : ℕ
  pub is_block : IsNextBlock fs t w block
  pub made : IsPartMade (n + first) block part
  pub first_is : first_of parts w ≡ first
  pub dim_is : dim_of parts w ≡ length part.basis
  pub entries_are : entries_at parts w ≡ part.entries
  pub origins_are : origins_at parts w ≡ part.origins
  pub elements : (i : ℕ) (u : Elem) → i < length part.basis → get_or (elems parts) (first + i) u ≡ get_or part.basis i u

-- the part is the first one
part-here : (fs : List Form) (t : Table) (q : PartView) (qs : List PartView) (n : ℕ) (w : List ℕ) (b : BlockView) → list_eq q.at w ≡ true → IsNextBlock fs t w b → IsPartMade n b q →
    HasPart fs t (q ∷ qs) n w
part-here fs t q qs n w b e k m = record {
  block = b;
  part = q;
  first = 0;
  is_block = k;
  made = (let z : n ≡ n + 0 = omega arith in subst (λ x. IsPartMade x b q) z m);
  first_is = rw e refl;
  dim_is = rw e refl;
  entries_are = rw e refl;
  origins_are = rw e refl;
  elements = λ i u l. (let z : 0 + i ≡ i = omega arith in ap (λ j. get_or (elems (q ∷ qs)) j u) z ∙ get_or_append_left q.basis (elems qs) u i l);
}

-- it is a later one
part-later : (fs : List Form) (t : Table) (q : PartView) (qs : List PartView) (n : ℕ) (w : List ℕ) → list_eq q.at w ≡ false → HasPart fs t qs (n + length q.basis) w →
    HasPart fs t (q ∷ qs) n w
part-later fs t q qs n w e h = record {
  block = h.block;
  part = h.part;
  first = length q.basis + h.first;
  is_block = h.is_block;
  made = (let z : (n + length q.basis) + h.first ≡ n + (length q.basis + h.first) = omega arith in subst (λ x. IsPartMade x h.block h.part) z h.made);
  first_is = rw e (ap (λ x. length q.basis + x) h.first_is);
  dim_is = rw e h.dim_is;
  entries_are = rw e h.entries_are;
  origins_are = rw e h.origins_are;
  elements = λ i u l.
      let z : (length q.basis + h.first) + i - length q.basis ≡ h.first + i = omega arith in
      get_or-append_right q.basis (elems qs) (length q.basis) ((length q.basis + h.first) + i) u refl (omega arith)
      ∙ ap (λ j. get_or (elems qs) j u) z ∙ h.elements i u l;
}

-- the parts of the next degree alone, whose first number is n
pub part-new : (fs : List Form) (t : Table) (ws : List (List ℕ)) (bs : List BlockView) (qs : List PartView) (n : ℕ) (w : List ℕ) → AreBlocks fs t ws bs → ArePartsOf n bs qs →
    IsIn w ws → HasPart fs t qs n w
part-new fs t [] bs qs n w a m i = absurd i
part-new fs t (x ∷ ws) [] qs n w a m i = absurd a
part-new fs t (x ∷ ws) (b ∷ bs) [] n w a m i = absurd m
part-new fs t (x ∷ ws) (b ∷ bs) (q ∷ qs) n w a m i = elim (cases_Bool (list_eq q.at w)) [
  | inl e ↦ (let same : x ≡ w = sym (m.0.at ∙ a.0.block.at) ∙ list_eq-sound q.at w e in
      part-here fs t q qs n w b e (subst (λ y. IsNextBlock fs t y b) same a.0) m.0)
  | inr e ↦ part-later fs t q qs n w e (part-new fs t ws bs qs (n + length q.basis) w a.1 m.1 (later e i))
]
  where
    later : list_eq q.at w ≡ false → IsIn w (x ∷ ws) → IsIn w ws
    later e (inl s) = (
        let y : q.at ≡ w = m.0.at ∙ a.0.block.at ∙ sym s in
        let z : list_eq q.at w ≡ true = subst (λ u. list_eq q.at u ≡ true) y (list_eq-itself q.at) in
        absurd (cc))
    later e (inr j) = j

-- after parts of smaller degrees
pub part-behind : (fs : List Form) (t : Table) (ps qs : List PartView) (w : List ℕ) (d : ℕ) → Each (λ (q : PartView). sum q.at ≤ d) ps → sum w ≡ d + 1 →
    (n : ℕ) → HasPart fs t qs (n + length (elems ps)) w → HasPart fs t (ps ++ qs) n w
part-behind fs t [] qs w d a s n h = (let z : n + 0 ≡ n = omega arith in subst (λ x. HasPart fs t qs x w) z h)
part-behind fs t (q ∷ ps) qs w d a s n h =
    let l : length (elems (q ∷ ps)) ≡ length q.basis + length (elems ps) = length-append q.basis (elems ps) in
    let z : n + length (elems (q ∷ ps)) ≡ (n + length q.basis) + length (elems ps) = omega arith in
    part-later fs t q (ps ++ qs) n w
    (list_eq-other q.at w (λ e. absurd (let y : sum q.at ≡ sum w = ap sum e in let x : sum q.at ≤ d = a.0 in omega arith)))
    (part-behind fs t ps qs w d a.1 s (n + length q.basis) (subst (λ x. HasPart fs t qs x w) z h))
