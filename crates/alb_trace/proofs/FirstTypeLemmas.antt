-- The first type of the monomials of a polynomial.
use Rattle.std.proofs.Common.{◌≡◌, ℕ, zero, suc, ◌+◌, ◌<◌, List, [], ◌∷◌, ◌++◌, length, get_or, take, sym, refl, ap, ◌∙◌, subst, arith, Option, None, Some, length-append}
use Rattle.std.proofs.lemmas.Cmp.{tied_itself}
use Rattle.std.proofs.lemmas.List.{get_or_append_left}
use Rattle.std.specs.declared.cmp.Ordering.{Ordering}
use Rattle.std.specs.declared.cmp.Ordering.TheVariants.{Less, Equal, Greater}
use Rattle.alb_mono.specs.Listing.{Each}
use Rattle.alb_mono.specs.Tree.{Tree, type_of, cmp_types}
use Rattle.alb_mono.proofs.ListingLemmas.{each-append, each-weaker}
use Rattle.alb_mono.proofs.Order.{cmp_types_total}
use Rattle.std.specs.Prelude.{IfSome}
use Rattle.alb_mono.proofs.Leaves.{length-type_of}
use Rattle.alb_poly.specs.Poly.{Poly}
use Rattle.alb_poly.specs.Terms.{term, terms}
use Rattle.alb_poly.specs.declared.term.Term.{Term}
use Rattle.alb_trace.specs.FirstType.{IsFirstAmong, HasFirst, earlier_by, or_earlier}

not-itself : (t : List ℕ) → cmp_types t t ≡ Less → ⊥
not-itself t l = let e : cmp_types t t ≡ Equal = tied_itself cmp_types_total t in let q : Less ≡ Equal = sym l ∙ e in absurd (cc)

last-at : (f : Poly) (t : ℕ × Tree) → get_or (f ++ t ∷ []) (length f) t ≡ t
last-at [] t = refl
last-at (s ∷ f) t = last-at f t

-- the last of one more term
new-first : (n : ℕ) (f : Poly) (t : ℕ × Tree) → Each (λ s. cmp_types (type_of n s.1) (type_of n t.1) ≡ Less → ⊥) f → IsFirstAmong n (f ++ t ∷ []) (type_of n t.1)
new-first n f t h = record {
  term = t;
  place = length f;
  within = omega (arith, length-append f (t ∷ []));
  at = last-at f t;
  type = refl;
  first = each-append (λ s. cmp_types (type_of n s.1) (type_of n t.1) ≡ Less → ⊥) f (t ∷ []) h (not-itself (type_of n t.1), tt);
}

-- or the one before
old-first : (n : ℕ) (f : Poly) (t : ℕ × Tree) (u : List ℕ) → IsFirstAmong n f u → (cmp_types (type_of n t.1) u ≡ Less → ⊥) → IsFirstAmong n (f ++ t ∷ []) u
old-first n f t u h k = record {
  term = h.term;
  place = h.place;
  within = omega (arith, h.within, length-append f (t ∷ []));
  at = get_or_append_left f (t ∷ []) h.term h.place h.within ∙ h.at;
  type = h.type;
  first = each-append (λ s. cmp_types (type_of n s.1) u ≡ Less → ⊥) f (t ∷ []) h.first (k, tt);
}

by-order : (n : ℕ) (f : Poly) (t : ℕ × Tree) (u : List ℕ) (o : Ordering) → cmp_types (type_of n t.1) u ≡ o → IsFirstAmong n f u → IsFirstAmong n (f ++ t ∷ []) (earlier_by o u (type_of n t.1))
by-order n f t u Less e h =
    new-first n f t (each-weaker (λ s. cmp_types (type_of n s.1) u ≡ Less → ⊥) (λ s. cmp_types (type_of n s.1) (type_of n t.1) ≡ Less → ⊥) f
    (λ s k l. k (cmp_types_total.trans (type_of n s.1) (type_of n t.1) u l e)) h.first)
by-order n f t u Equal e h = old-first n f t u h (λ l. let q : Less ≡ Equal = sym l ∙ e in absurd (cc))
by-order n f t u Greater e h = old-first n f t u h (λ l. let q : Less ≡ Greater = sym l ∙ e in absurd (cc))

-- one more term
more-term : (n : ℕ) (f : Poly) (o : Option (List ℕ)) (t : ℕ × Tree) → HasFirst n f o → IsFirstAmong n (f ++ t ∷ []) (or_earlier o (type_of n t.1))
more-term n f None t h = subst (λ g. IsFirstAmong n (g ++ t ∷ []) (type_of n t.1)) (sym h) (new-first n [] t tt)
more-term n f (Some u) t h = by-order n f t u (cmp_types (type_of n t.1) u) refl h

take-next : (f : Poly) (i j : ℕ) (t : ℕ × Tree) → i < length f → j ≡ suc i → t ≡ get_or f i t → take j f ≡ take i f ++ t ∷ []
take-next [] i j t l k e = absurd (omega arith)
take-next (s ∷ f) zero j t l k e = rw k (ap (λ x. x ∷ []) (sym e))
take-next (s ∷ f) (suc i) j t l k e = rw k (ap (λ xs. s ∷ xs) (take-next f i (suc i) t (omega arith) refl e))

-- the loop's step
pub first-more : (n : ℕ) (f : Poly) (o : Option (List ℕ)) (i : ℕ) (t : ℕ × Tree) → i < length f → t ≡ get_or f i t → HasFirst n (take i f) o
    → HasFirst n (take (i + 1) f) (Some (or_earlier o (type_of n t.1)))
first-more n f o i t l e h = subst (λ g. IsFirstAmong n g (or_earlier o (type_of n t.1))) (sym (take-next f i (i + 1) t l (omega arith) e)) (more-term n (take i f) o t h)

-- the type before has as many counts
pub first-long : (n : ℕ) (f : Poly) (o : Option (List ℕ)) → HasFirst n f o → IfSome o (λ u. length u ≡ n)
first-long n f None h = tt
first-long n f (Some u) h = ap length (sym h.type) ∙ length-type_of n h.term.1

-- the terms of a list
pub term-at : (ts : List Term) (i : ℕ) (x : Term) → i < length ts → x ≡ get_or ts i x → (term x ≡ get_or (terms ts) i (term x)) × (i < length (terms ts))
term-at [] i x l e = absurd (omega arith)
term-at (y ∷ ts) zero x l e = (ap term e, omega arith)
term-at (y ∷ ts) (suc i) x l e = let r = term-at ts i x (omega arith) e in (r.0, omega (arith, r.1))
