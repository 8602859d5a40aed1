-- Marks from the end.
use Rattle.std.proofs.Common.{◌≡◌, ℕ, zero, suc, ◌+◌, ◌-◌, ◌<◌, ◌≤◌, ◌⊎◌, Bool, true, false, ◌||◌, List, [], ◌∷◌, length, get_or, take, set, replicate, refl, sym, ap, ◌∙◌, subst, arith, inl, inr, get_or-set_same, get_or-set_other, length-set}
use Rattle.std.specs.Bool.{◌==◌}
use Rattle.std.specs.List.{list_any}
use Rattle.std.proofs.lemmas.Bool.{false≢true, cases_Bool, cases_lt, cases_eq, or_left, or_right, eqb-true, eq-eqb}
use Rattle.std.proofs.lemmas.List.{get_or-replicate, length-replicate}
use Rattle.alb_deriv.specs.Derivation.{Line}
use Rattle.alb_tidy.specs.Tidy.{line_at, cites}
use Rattle.alb_tidy.specs.Cites.{IsNumber, AreOrdered}
use Rattle.alb_tidy.specs.Needed.{is_marked, IsCitedBy, AreNeeded}
use Rattle.alb_tidy.proofs.Citing.{cites-within}

-- the last i lines up to number `last` have marked what they cite
pub record IsMarking (ls : List Line) (last i : ℕ) (marks : List Bool) : Type 0 where
  pub count : length marks ≡ last
  pub ends : is_marked marks (last - 1) ≡ true
  pub closed : (k : ℕ) → k < last → last ≤ k + i → is_marked marks k ≡ true → (j : ℕ) → cites (line_at ls k) (j + 1) ≡ true → is_marked marks j ≡ true
  pub reason : (k : ℕ) → k + 1 < last → is_marked marks k ≡ true → IsCitedBy ls last marks k

or_cases : (a b : Bool) → (a || b) ≡ true → (a ≡ true) ⊎ (b ≡ true)
or_cases true b e = inl refl
or_cases false b e = inr e

pub marking-start : (ls : List Line) (last : ℕ) (marks : List Bool) → 0 < last → marks ≡ set (replicate last false) (last - 1) true → IsMarking ls last 0 marks
marking-start ls last marks pos e =
    let n : length (replicate last false) ≡ last = length-replicate last false in
    record {
      count = ap length e ∙ length-set (replicate last false) (last - 1) true ∙ n;
      ends = ap (λ ms. is_marked ms (last - 1)) e ∙ get_or-set_same (replicate last false) (last - 1) true false (omega (arith, n));
      closed = λ k l m. absurd (omega arith);
      reason = λ k l m. absurd (false≢true (sym (ap (λ ms. is_marked ms k) e ∙ get_or-set_other (replicate last false) (last - 1) k true false (λ q. omega (arith, q, l)) ∙ get_or-replicate last k false false (omega (arith, l))) ∙ m));
    }

pub marking-end : {ls : List Line} {last : ℕ} {marks : List Bool} → IsMarking ls last last marks → AreNeeded ls last marks
marking-end {ls} {last} {marks} h = record {
  count = h.count;
  ends = h.ends;
  closed = λ k l. h.closed k l (omega arith);
  reason = h.reason;
}

module _ (ls : List Line) (last i : ℕ) (marks : List Bool) (h : IsMarking ls last i marks) (at : ℕ) (here : at + i + 1 ≡ last) where
  step-place : (k : ℕ) → last ≤ k + (i + 1) → (last ≤ k + i) ⊎ (k ≡ at)
  step-place k l = elim (cases_lt (k + i) last) [
    | inl b ↦ inr (omega (arith, b, here))
    | inr b ↦ inl b
  ]

  pub marking-skip : is_marked marks at ≡ false → IsMarking ls last (i + 1) marks
  marking-skip out = record {
    count = h.count;
    ends = h.ends;
    closed = λ k l b m. elim (step-place k b) [
      | inl c ↦ h.closed k l c m
      | inr q ↦ absurd (false≢true (sym out ∙ ap (is_marked marks) (sym q) ∙ m))
    ];
    reason = h.reason;
  }

  module _ (ordered : AreOrdered ls) (among : last ≤ length ls) (mark : is_marked marks at ≡ true) (new : List Bool) (count : length new ≡ length marks)
      (same : (k : ℕ) → is_marked new k ≡ (is_marked marks k || cites (line_at ls at) (k + 1))) where
    stays : (k : ℕ) → is_marked marks k ≡ true → is_marked new k ≡ true
    stays k m = same k ∙ or_left (is_marked marks k) _ m

    -- what is cited stands before
    before : (k : ℕ) → cites (line_at ls at) (k + 1) ≡ true → k < at
    before k e = let w = cites-within at (line_at ls at) (k + 1) (ordered at (omega (arith, here))) e in omega (arith, w.among)

    was : (k : ℕ) → at ≤ k → is_marked new k ≡ true → is_marked marks k ≡ true
    was k l m = elim (or_cases (is_marked marks k) _ (sym (same k) ∙ m)) [
      | inl a ↦ a
      | inr c ↦ absurd (let b = before k c in omega (arith, b))
    ]

    pub marking-next : IsMarking ls last (i + 1) new
    marking-next = record {
      count = count ∙ h.count;
      ends = stays (last - 1) h.ends;
      closed = λ k l b m j e. elim (step-place k b) [
        | inl c ↦ stays j (h.closed k l c (was k (omega (arith, c, here)) m) j e)
        | inr q ↦ same j ∙ or_right (is_marked marks j) _ (subst (λ x. cites (line_at ls x) (j + 1) ≡ true) q e)
      ];
      reason = λ k l m. elim (or_cases (is_marked marks k) _ (sym (same k) ∙ m)) [
        | inl a ↦ (let r = h.reason k l a in record { place = r.place; later = r.later; among = r.among; marked = stays r.place r.marked; cited = r.cited })
        | inr c ↦ record { place = at; later = before k c; among = omega (arith, here); marked = stays at mark; cited = c }
      ];
    }

-- the mark at a place that there is
pub marked-at : (marks : List Bool) (k : ℕ) (b : Bool) → k < length marks → b ≡ get_or marks k b → is_marked marks k ≡ b
marked-at [] k b l e = absurd (omega arith)
marked-at (m ∷ marks) zero b l e = sym e
marked-at (m ∷ marks) (suc k) b l e = marked-at marks k b (omega arith) e
