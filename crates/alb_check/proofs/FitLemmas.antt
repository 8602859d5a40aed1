-- A table that keeps its shape keeps the limits of its text.
use Rattle.std.proofs.Common.{◌≡◌, ℕ, suc, ◌<◌, ◌≤◌, ◌^◌, true, ◌&&◌, List, [], ◌∷◌, length, sum, nat_lt, arith}
use Rattle.std.specs.Prelude.{Option, None, Some, All}
use Rattle.std.specs.List.{list_all}
use Rattle.std.proofs.lemmas.Bool.Decides.{nat_tests}
use Rattle.alb_mono.specs.Tree.{type_le}
use Rattle.alb_mono.proofs.Both.{and_left, and_right}
use Rattle.alb_poly.proofs.Multilinear.{sum_cons}
use Rattle.alb_check.specs.declared.raw.RawEntry.{RawEntry}
use Rattle.alb_check.specs.Raw.{AreCounts, AreTypes, ArePlaces, AreEntries, IsTableFit, Raw, IsRaw, is_element, is_generator_right, are_generators_right, is_entry_right, shape_fault}
use Rattle.alb_check.proofs.TableLemmas.{IsShaped, shaped, element_from, le_sum}

-- the counts of a type of small degree
counts-small : (d : ℕ) (xs : List ℕ) → sum xs ≤ d → d ≤ 255 → AreCounts xs
counts-small d [] h l = tt
counts-small d (x ∷ xs) h l = (omega (arith, sum_cons x xs), counts-small d xs (omega (arith, sum_cons x xs)) l)

module _ (p : ℕ) (target : List ℕ) (t : Raw) (small : sum target ≤ 12) (raw : IsRaw p (length target) t) (h : IsShaped target p t) where
  top-tests : (type_le t.top target ≡ true) × (length t.elements < 4294967296)
  top-tests = (first, few (length t.elements) (and_right (type_le t.top target) _ rest))
    where
      rest : (type_le t.top target && nat_lt (length t.elements) 4294967296) ≡ true
      rest = and_right (nat_lt 0 (sum t.top)) _ h.top

      first : type_le t.top target ≡ true
      first = and_left (type_le t.top target) _ rest

      few : (n : ℕ) → nat_lt n 4294967296 ≡ true → n < 4294967296
      few n e = grind (arith, nat_tests)

  low-top : sum t.top ≤ 12
  low-top = omega (arith, le_sum t.top target raw.top top-tests.0, small)

  types-fit : (es : List (List ℕ)) → All (λ e. length e ≡ length target) es → list_all (λ e. nat_lt 0 (sum e) && type_le e t.top) es ≡ true → AreTypes (length target) es
  types-fit [] a b = tt
  types-fit (e ∷ es) a b =
      let long : length e ≡ length target = a 0 [] (omega arith) in
      let le : type_le e t.top ≡ true = and_right (nat_lt 0 (sum e)) _ (and_left (nat_lt 0 (sum e) && type_le e t.top) _ b) in
      let low : sum e ≤ 12 = omega (arith, le_sum e t.top (omega (arith, long, raw.top)) le, low-top) in
      (long, counts-small 12 e low (omega arith), types-fit es (λ i d l. a (suc i) d (omega arith)) (and_right (nat_lt 0 (sum e) && type_le e t.top) _ b))

  number-fit : (k : ℕ) → is_element t k ≡ true → k < 10 ^ 18
  number-fit k e = omega (arith, (element_from t k e).high, top-tests.1)

  places-fit : (g : ℕ) (os : List (Option ℕ)) → are_generators_right t g os ≡ true → ArePlaces os
  places-fit g [] e = tt
  places-fit g (None ∷ os) e = places-fit (suc g) os e
  places-fit g (Some k ∷ os) e =
      (number-fit k (and_left (is_element t k) _ (and_left (is_generator_right t g (Some k)) _ e)), places-fit (suc g) os (and_right (is_generator_right t g (Some k)) _ e))

  entries-fit : (es : List RawEntry) → All (λ e. e.coef < p) es → list_all (is_entry_right t) es ≡ true → AreEntries p es
  entries-fit [] a b = tt
  entries-fit (e ∷ es) a b =
      let here : is_entry_right t e ≡ true = and_left (is_entry_right t e) _ b in
      let later = and_right (is_element t e.left) _ here in
      let last = and_right (is_element t e.right) _ later in (
        number-fit e.left (and_left (is_element t e.left) _ here),
        number-fit e.right (and_left (is_element t e.right) _ later),
        number-fit e.to (and_left (is_element t e.to) _ last),
        a 0 e (omega arith),
        entries-fit es (λ i d l. a (suc i) d (omega arith)) (and_right (is_entry_right t e) _ b),
      )

  fit : IsTableFit p (length target) t
  fit = record {
    top = (raw.top, counts-small 12 t.top low-top (omega arith), tt);
    elements = types-fit t.elements raw.elements h.elements;
    few = omega (arith, top-tests.1);
    places = raw.generators;
    generators = places-fit 0 t.generators h.generators;
    entries = entries-fit t.entries raw.residues h.entries;
  }

pub shaped-fit : (p : ℕ) (target : List ℕ) (t : Raw) → sum target ≤ 12 → IsRaw p (length target) t → shape_fault target p t ≡ None → IsTableFit p (length target) t
shaped-fit p target t small raw e = fit p target t small raw (shaped target p t e)
