-- What the ranges of a table enumerate: the tuples whose types add up.
use Rattle.std.proofs.Common.{◌≡◌, ℕ, zero, suc, ◌+◌, ◌<◌, Bool, true, List, [], ◌∷◌, length, replicate, sym, refl, ap, ◌∙◌, arith, subst, sum}
use Rattle.std.proofs.Math.ListN.{length-replicate}
use Rattle.std.specs.Prelude.{nat_le}
use Rattle.std.proofs.lemmas.Bool.Decides.{nat_tests}
use Rattle.alb_table.proofs.PartLemmas.{sum-cons}
use Rattle.alb_mono.specs.Listing.{Each}
use Rattle.alb_mono.specs.Tree.{type_le, type_minus}
use Rattle.alb_mono.proofs.ListingLemmas.{each-weaker, each-member}
use Rattle.alb_mono.proofs.TypeLemmas.{length-type_plus}
use Rattle.alb_mono.proofs.TypesListing.{plus-minus, length-minus, minus-plus, le-plus}
use Rattle.alb_table.specs.Table.{elems, type_at, Table, IsTable}
use Rattle.alb_table.proofs.TableLemmas.{type_shape}
use Rattle.alb_subst.specs.declared.range.Range.{Range}
use Rattle.alb_subst.specs.Ranges.{tuples, AddsUp, range_of, ranges, to_come}
use Rattle.alb_subst.specs.Tuples.{type_sum, IsTupleOf, AreTuples}
use Rattle.alb_table.proofs.RiseLemmas.{le_trans}
use Rattle.alb_subst.proofs.RangeLemmas.{minus_le, rises-ranges, long-ranges, number-type, type-range}
use Rattle.alb_subst.proofs.TuplesListing.{IsTuple, tuples-listing}
use Rattle.alb_linear.proofs.LinearLemmas.{each_from_all, all_from_each}

zeros : (r : List ℕ) → sum r ≡ 0 → replicate (length r) 0 ≡ r
zeros [] h = refl
zeros (x ∷ r) h =
    let s = sum-cons x r in let e : 0 ≡ x = omega arith in let f : replicate (length r) 0 ≡ r = zeros r (omega arith) in
    rw (f, ← e) refl

sum-zeros : (n : ℕ) → sum (replicate n 0) ≡ 0
sum-zeros zero = refl
sum-zeros (suc n) = let a : sum (0 ∷ replicate n 0) ≡ 0 + sum (replicate n 0) = sum-cons 0 (replicate n 0) in let b : sum (replicate n 0) ≡ 0 = sum-zeros n in omega arith

module _ (t : Table) (w : List ℕ) (known : IsTable t) (long : length w ≡ length t.target) (within : type_le w t.target ≡ true) where
  adds_up-sum : (x r : List ℕ) → length r ≡ length w → AddsUp (ranges t.parts w t.degree) x r → Each (λ b. b < length (elems t.parts)) x × (type_sum t.parts (length w) x ≡ r)
  adds_up-sum [] r l a = (tt, ap (λ n. replicate n 0) (sym l) ∙ zeros r a)
  adds_up-sum (b ∷ bs) r l a =
      let q : length a.0.at ≡ length r = each-member (λ (s : Range). length s.at ≡ length w) (ranges t.parts w t.degree) a.0 (long-ranges t w known long within) a.1 ∙ sym l in
      let s = number-type t w known long within a.0 b a.1 a.2 a.3 in
      let k = adds_up-sum bs (type_minus r a.0.at) (length-minus r a.0.at q ∙ l) a.5 in
      ((s.0, k.0), rw (s.1, k.1) (plus-minus r a.0.at q a.4))

  long_type : (b : ℕ) → b < length (elems t.parts) → length (type_at t.parts b) ≡ length w
  long_type b h = (type_shape t b known h).long ∙ sym long

  length-type_sum : (x : List ℕ) → Each (λ b. b < length (elems t.parts)) x → length (type_sum t.parts (length w) x) ≡ length w
  length-type_sum [] h = length-replicate _ _
  length-type_sum (b ∷ bs) h = length-type_plus (type_at t.parts b) (type_sum t.parts (length w) bs) (long_type b h.0 ∙ sym (length-type_sum bs h.1)) ∙ long_type b h.0

  sum-adds_up : (x r : List ℕ) → length r ≡ length w → type_le r w ≡ true → Each (λ b. b < length (elems t.parts)) x → type_sum t.parts (length w) x ≡ r →
      AddsUp (ranges t.parts w t.degree) x r
  sum-adds_up [] r m n h e = ap sum (sym e) ∙ sum-zeros (length w)
  sum-adds_up (b ∷ bs) r m n h e =
      let u : List ℕ = type_at t.parts b in
      let q : length u ≡ length w = long_type b h.0 in
      let l : length (type_sum t.parts (length w) bs) ≡ length u = length-type_sum bs h.1 ∙ sym q in
      let d : type_le u r ≡ true = ap (type_le u) (sym e) ∙ le-plus u (type_sum t.parts (length w) bs) l in
      let k = type-range t w known long within b h.0 (le_trans u r w (q ∙ sym m) m d n) in
      let f : type_sum t.parts (length w) bs ≡ type_minus r u = minus-plus u (type_sum t.parts (length w) bs) l ∙ ap (λ v. type_minus v u) e in
      let g : length (type_minus r u) ≡ length r = length-minus r u (q ∙ sym m) in (
        range_of t.parts u,
        k.0,
        k.1.low,
        k.1.high,
        d,
        sum-adds_up bs (type_minus r u) (g ∙ m) (le_trans (type_minus r u) r w g m (minus_le r u (q ∙ sym m)) n) h.1 f,
      )

  le_itself : (xs : List ℕ) → type_le xs xs ≡ true
  le_itself [] = refl
  le_itself (x ∷ xs) = let e : nat_le x x ≡ true = grind (arith, nat_tests) in rw (e, le_itself xs)

  -- THE LAW
  pub tuples-are : (n : ℕ) → AreTuples t.parts n w (tuples (ranges t.parts w t.degree) n w)
  tuples-are n = let k = tuples-listing (ranges t.parts w t.degree) n w (rises-ranges t w known long within) in record {
    ascends = k.ascends;
    each = each-weaker (IsTuple (ranges t.parts w t.degree) n w) (IsTupleOf t.parts n w) (tuples (ranges t.parts w t.degree) n w)
        (λ x h. let s = adds_up-sum x w refl h.adds_up in record { long = h.long; numbers = all_from_each (λ b. b < length (elems t.parts)) x s.0; types = s.1 }) k.each;
    all = λ x h. k.all x (record { long = h.long; adds_up = sum-adds_up x w refl (le_itself w) (each_from_all (λ b. b < length (elems t.parts)) x h.numbers) h.types });
  }

  -- what an enumeration of them begins with
  pub all_come : (n m : ℕ) (us rs : List Range) (at new : List ℕ) (more : Bool) → us ≡ rs → rs ≡ ranges t.parts w t.degree → at ≡ w → m ≡ n →
      to_come us w new more ≡ tuples us m w → AreTuples t.parts n w (to_come rs at new more)
  all_come n m us rs at new more e f g h k =
      let q : to_come rs at new more ≡ tuples (ranges t.parts w t.degree) n w =
      ap (λ v. to_come rs v new more) g ∙ ap (λ v. to_come v w new more) (sym e) ∙ k ∙ ap (λ v. tuples v m w) (e ∙ f) ∙ ap (λ v. tuples (ranges t.parts w t.degree) v w) h in
      subst (AreTuples t.parts n w) (sym q) (tuples-are n)
