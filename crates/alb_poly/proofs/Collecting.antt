-- Terms in order are collected from the end.
use Rattle.std.proofs.Common.{◌≡◌, ℕ, suc, ◌+◌, ◌<◌, true, false, List, [], ◌∷◌, ◌++◌, reverse, length, sym, refl, ap, subst, ◌∙◌, arith, inl, inr, All, IsPermutation, append_assoc, length-append, get_or, ◌*◌}
use Rattle.std.specs.Ordering.{is_lt}
use Rattle.std.specs.declared.cmp.Ordering.{Ordering}
use Rattle.std.specs.declared.cmp.Ordering.TheVariants.{Less, Equal, Greater}
use Rattle.std.proofs.lemmas.Cmp.{tied_itself}
use Rattle.std.proofs.lemmas.Bool.{cases_Bool}
use Rattle.std.proofs.lemmas.List.{map-append, reverse-append, append-nil, get_or-append-add}
use Rattle.std.proofs.Math.Seq.{get_or-append_seam}
use Rattle.std.proofs.lemmas.List.Elements.{All-head}
use Rattle.std.proofs.lemmas.List.Sorted.{ranks_by, IsStrictWeakOrder-flip, sorted_far, length_permutation}
use Rattle.std.specs.Cmp.{IsStrictWeakOrder}
use Rattle.std.proofs.Math.Nat.{mod-eq_of_lt}
use Rattle.gf_sums.specs.Sums.{weigh}
use Rattle.gf_sums.proofs.Totals.{total-map}
use Rattle.gf_sums.proofs.Alike.{equal}
use Rattle.alb_mono.specs.Listing.{Each}
use Rattle.alb_mono.specs.Tree.{tree, Tree, cmp_monos, same_tree}
use Rattle.alb_mono.proofs.Order.{cmp_monos_total}
use Rattle.alb_poly.specs.Poly.{Poly, AreResidues, placed, put, normal}
use Rattle.alb_poly.specs.Sorted.{comes_first, AreSorted, in_front}
use Rattle.alb_poly.specs.Terms.{term, terms}
use Rattle.alb_poly.specs.declared.term.Term.{Term}
use Rattle.alb_poly.proofs.Consequence.{tree_tells}
use Rattle.alb_poly.proofs.Extra.{order-permutation}
use Rattle.alb_poly.proofs.NormalLemmas.{monos_equal, normal-each, normal-residues, alike-normal}

-- ---- order

first_order : IsStrictWeakOrder comes_first
first_order = IsStrictWeakOrder-flip _ (ranks_by cmp_monos_total (λ t. tree t.mono))

-- `m` does not come after the monomials of the list
abbrev pub IsOver : Tree → Poly → Type 0
IsOver m f = Each (λ u. is_lt (cmp_monos m u.1) ≡ false) f

over_index : (m : Tree) (ts : List Term) → ((k : ℕ) (d : Term) → k < length ts → is_lt (cmp_monos m (tree (get_or ts k d).mono)) ≡ false) → IsOver m (terms ts)
over_index m [] h = tt
over_index m (t ∷ ts) h = (h 0 t (omega arith), over_index m ts (λ k d l. h (suc k) d (omega arith)))

over_later : (front : List Term) (t : Term) (done : List Term) → AreSorted (front ++ t ∷ done) → IsOver (tree t.mono) (terms done)
over_later front t done up =
    over_index (tree t.mono) done (λ k d l.
    let h = sorted_far comes_first first_order (front ++ t ∷ done) up (length front) (length front + suc k) d (omega arith) (omega (arith, length-append front (t ∷ done))) in
    rw (get_or-append-add front (t ∷ done) (suc k) d, get_or-append_seam front t done d) at h)

-- ---- a term in front

placed_front : (o : Ordering) (p : ℕ) (t u : ℕ × Tree) (f others : Poly) → cmp_monos t.1 u.1 ≡ o → is_lt o ≡ false →
    placed o p t.0 t.1 u f others ≡ in_front p t (u ∷ f)
placed_front Greater p t u f others e h = elim (cases_Bool (same_tree u.1 t.1)) [
  | inl b ↦ (let q : cmp_monos t.1 u.1 ≡ Equal = ap (cmp_monos t.1) (tree_tells.sound u.1 t.1 b) ∙ tied_itself cmp_monos_total t.1 in absurd (cc))
  | inr b ↦ rw b refl
]
placed_front Equal p t u f others e h =
    let b : same_tree u.1 t.1 ≡ true = ap (same_tree u.1) (monos_equal t.1 u.1 e) ∙ tree_tells.whole u.1 in rw b refl
placed_front Less p t u f others e h = absurd (cc)

put_front : (p : ℕ) (t : ℕ × Tree) (f : Poly) → IsOver t.1 f → put p t.0 t.1 f ≡ in_front p t f
put_front p t [] h = refl
put_front p t (u ∷ f) h = placed_front (cmp_monos t.1 u.1) p t u f (put p t.0 t.1 f) refl h.0

residue_at : (p : ℕ) (front : List Term) (t : Term) (done : List Term) → All (λ t. t.coef < p) (front ++ t ∷ done) → t.coef < p
residue_at p front t done r =
    let h = r (length front) t (omega (arith, length-append front (t ∷ done))) in
    rw (get_or-append_seam front t done t) at h

normal_front : (p : ℕ) (front : List Term) (t : Term) (done : List Term) → All (λ t. t.coef < p) (front ++ t ∷ done) → AreSorted (front ++ t ∷ done) →
    normal p (terms (t ∷ done)) ≡ in_front p (term t) (normal p (terms done))
unfolding normal
normal_front p front t done r s =
    ap (λ c. put p c (tree t.mono) (normal p (terms done))) (mod-eq_of_lt (residue_at p front t done r))
    ∙ put_front p (term t) (normal p (terms done)) (normal-each (λ m. is_lt (cmp_monos (tree t.mono) m) ≡ false) p (terms done) (over_later front t done s))

-- ---- the loop

-- what is kept, from its end, is the normal form of the terms after those that are left
pub record Collects (p : ℕ) (all kept left : List Term) : Type 0 where
  pub done : List Term
  pub split : all ≡ left ++ done
  pub value : reverse (terms kept) ≡ normal p (terms done)

pub collects_none : (p : ℕ) (all : List Term) → Collects p all [] all
unfolding normal
collects_none p all = record { done = []; split = sym (append-nil all); value = refl }

taken : (p : ℕ) (all kept left left' : List Term) (t : Term) (c : Collects p all kept left) → left ≡ left' ++ t ∷ [] → all ≡ left' ++ t ∷ c.done
taken p all kept left left' t c e = c.split ∙ ap (λ x. x ++ c.done) e ∙ append_assoc left' (t ∷ []) c.done

pub taken_residue : (p : ℕ) (all kept left left' : List Term) (t : Term) → Collects p all kept left → left ≡ left' ++ t ∷ [] →
    All (λ t. t.coef < p) all → t.coef < p
taken_residue p all kept left left' t c e r =
    residue_at p left' t c.done (subst (λ x. All (λ t. t.coef < p) x) (taken p all kept left left' t c e) r)

pub kept_residues : (p : ℕ) (all kept left : List Term) → Collects p all kept left → 0 < p → AreResidues p (reverse (terms kept))
kept_residues p all kept left c pos = subst (λ f. AreResidues p f) (sym c.value) (normal-residues p (terms c.done) pos)

pub collects_more : (p : ℕ) (all kept kept' left left' : List Term) (t : Term) → Collects p all kept left → left ≡ left' ++ t ∷ [] →
    All (λ t. t.coef < p) all → AreSorted all → reverse (terms kept') ≡ in_front p (term t) (reverse (terms kept)) → Collects p all kept' left'
collects_more p all kept kept' left left' t c e r s k =
    let q : all ≡ left' ++ t ∷ c.done = taken p all kept left left' t c e in
    record {
      done = t ∷ c.done;
      split = q;
      value = k ∙ ap (in_front p (term t)) c.value
          ∙ sym (normal_front p left' t c.done (subst (λ x. All (λ t. t.coef < p) x) q r) (subst (λ x. AreSorted x) q s));
    }

reverse_terms : (xs : List Term) → terms (reverse xs) ≡ reverse (terms xs)
reverse_terms [] = refl
reverse_terms (x ∷ xs) =
    ap terms (reverse-append (x ∷ []) xs) ∙ map-append term (reverse xs) (x ∷ []) ∙ ap (λ f. f ++ term x ∷ []) (reverse_terms xs)
    ∙ sym (reverse-append (term x ∷ []) (terms xs))

pub collects_all : (p : ℕ) (all kept left : List Term) → Collects p all kept left → left ≡ [] → terms (reverse kept) ≡ normal p (terms all)
collects_all p all kept left c e =
    reverse_terms kept ∙ c.value ∙ ap (λ x. normal p (terms x)) (sym (c.split ∙ ap (λ x. x ++ c.done) e))

-- ---- a step

pub reverse_last : (xs : List Term) (t : Term) → reverse (terms (xs ++ t ∷ [])) ≡ term t ∷ reverse (terms xs)
reverse_last xs t = ap reverse (map-append term xs (t ∷ [])) ∙ reverse-append (terms xs) (term t ∷ [])

-- ---- the order of the terms does not matter

weigh-permutation : (w : Tree → ℕ) (xs ys : List Term) → IsPermutation xs ys → weigh w (terms ys) ≡ weigh w (terms xs)
weigh-permutation w xs ys h =
    total-map (λ t. t.0 * w t.1) term ys ∙ order-permutation xs ys h (λ t. t.coef * w (tree t.mono)) ∙ sym (total-map (λ t. t.0 * w t.1) term xs)

pub normal-permutation : (p : ℕ) (xs ys : List Term) → All (λ t. t.coef < p) xs → IsPermutation xs ys → normal p (terms ys) ≡ normal p (terms xs)
normal-permutation p [] ys r h = ap (λ x. normal p (terms x)) (none ys (length_permutation [] ys h))
  where
    none : (ys : List Term) → length ys ≡ 0 → ys ≡ []
    none [] e = refl
    none (y ∷ ys) e = absurd (omega arith)
normal-permutation p (x ∷ xs) ys r h =
    let l : x.coef < p = All-head (λ t. t.coef < p) x xs r in
    alike-normal p (terms ys) (terms (x ∷ xs)) (omega arith) (equal _ _ (λ w. weigh-permutation w (x ∷ xs) ys h))
