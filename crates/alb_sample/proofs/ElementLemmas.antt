-- The basis elements that are added.
use Rattle.std.proofs.Common.{◌≡◌, ℕ, ◌+◌, ◌<◌, ◌≤◌, List, [], ◌∷◌, length, sym, refl, ap, ◌∙◌, subst, arith}
use Rattle.alb_mono.specs.Listing.{Each}
use Rattle.alb_mono.proofs.ListingLemmas.{each-weaker}
use Rattle.alb_mono.specs.Tree.{Tree, leaf, node, type_of}
use Rattle.alb_poly.specs.Textbook.{unit}
use Rattle.alb_poly.specs.Poly.{Poly}
use Rattle.alb_poly.specs.Consequence.{IsConsequence}
use Rattle.alb_poly.proofs.Consequence.{consequence-zero}
use Rattle.alb_table.specs.Table.{first_of, dim_of, Table}
use Rattle.alb_table.specs.Right.{mono_value, IsPart, StandsFor, IsOfType, IsWithinDegree, IsBasisTo, IsTypeTo}
use Rattle.alb_table.specs.RightTable.{IsRightFor, basis_monos, mono_entry}
use Rattle.alb_table.proofs.Congruent.{congruent-consequence}
use Rattle.alb_table.proofs.RangeLemmas.{InRange}
use Rattle.alb_table.proofs.Right.{right-table, of_type-within}
use Rattle.alb_table.proofs.RightTables.{basis-number}
use Rattle.alb_table.proofs.Types.{type-listed}
use Rattle.alb_table.proofs.Values.{value-stands}
use Rattle.alb_sample.specs.Choice.{argument, chosen_type, IsChoice}
use Rattle.alb_sample.specs.Problem.{sample_forms, sample_view}
use Rattle.alb_sample.specs.declared.choice.Choice.{Choice}
use Rattle.alb_sample.proofs.ChoiceLemmas.{IsMade, all_of, argument-below, made-type, chosen-within}
use Rattle.alb_sample.proofs.ConsequenceLemmas.{no-monomial}

-- some monomial of the type of a choice
abbrev monomial : Choice → Tree
monomial c = node (leaf c.generator) (node (argument c.first) (node (argument c.second) (argument c.third)))

monomial-made : (c : Choice) → IsChoice c → IsMade (all_of c) (monomial c)
monomial-made c h = record {
  below = (h.generator, (argument-below c.first h.first, (argument-below c.second h.second, argument-below c.third h.third)));
  counts = λ g. omega arith;
}

nothing : (f : Poly) → Each (λ s. ⊥) f → f ≡ []
nothing [] a = refl
nothing (s ∷ f) a = absurd a.0

module _ (t : Table) (right : IsRightFor sample_view t) where
  pub pos : 0 < t.p
  pos = rw right.field (omega arith)

  -- a type of a choice is one of a table of degree 7
  pub type-to : (c : Choice) → IsChoice c → 7 ≤ t.degree → IsTypeTo t.target t.degree (chosen_type c)
  type-to c h big = subst (λ g. IsTypeTo g t.degree (chosen_type c)) (sym right.target) (chosen-within c t.degree h big)

  pub made-within : (c : Choice) (m : Tree) → IsChoice c → 7 ≤ t.degree → IsMade (all_of c) m → IsWithinDegree t.target t.degree m
  made-within c m h big made = of_type-within t.target t.degree (chosen_type c) m (type-to c h big) (made-type c m made)

  -- it has a normal monomial
  pub some-element : (c : Choice) → IsChoice c → 7 ≤ t.degree → dim_of t.parts (chosen_type c) ≡ 0 → ⊥
  some-element c h big none =
      let m : Tree = monomial c in
      let w : List ℕ = chosen_type c in
      let made : IsMade (all_of c) m = monomial-made c h in
      let over = right-table t.p pos sample_forms right.multilinear right.high t.target t.degree (basis_monos t.parts) (mono_entry t.parts) right.right.right in
      let stands : StandsFor t.p sample_forms (IsBasisTo t.p sample_forms t.target t.degree) m (mono_value (mono_entry t.parts) m) =
      value-stands t.p pos sample_forms (IsWithinDegree t.target t.degree) (IsBasisTo t.p sample_forms t.target t.degree) (mono_entry t.parts) over m (made-within c m h big made) in
      let empty : mono_value (mono_entry t.parts) m ≡ [] = nothing (mono_value (mono_entry t.parts) m) (each-weaker _ _ (mono_value (mono_entry t.parts) m) (λ s part. no-part s.1 part) stands.parts) in
      let k : IsConsequence t.p sample_forms (unit m) =
      congruent-consequence t.p sample_forms pos stands.congruent (subst (IsConsequence t.p sample_forms) (sym empty) (consequence-zero t.p sample_forms)) in
      no-monomial m (subst (λ p. IsConsequence p sample_forms (unit m)) right.field k)
    where
      no-part : (x : Tree) → IsPart (IsBasisTo t.p sample_forms t.target t.degree) (monomial c) x → ⊥
      no-part x part =
          let ty : IsTypeTo t.target t.degree (chosen_type c) = type-to c h big in
          let o : IsOfType (chosen_type c) (monomial c) = made-type c (monomial c) (monomial-made c h) in
          let n : length (chosen_type c) ≡ length t.target = ty.counts in
          let e : type_of (length t.target) x ≡ chosen_type c =
          type-listed (length t.target) x (monomial c) part.type ∙ ap (λ k. type_of k (monomial c)) (sym n) ∙ o.counts in
          let b = basis-number sample_forms t right.table right.right.right x part.basis in
          let r : InRange t.parts (chosen_type c) b.0 = subst (λ w. InRange t.parts w b.0) e b.3 in
          let low : first_of t.parts (chosen_type c) ≤ b.0 = r.low in
          let high : b.0 < first_of t.parts (chosen_type c) + dim_of t.parts (chosen_type c) = r.high in
          omega (arith, low, high, none)
