-- The longer table grows by the blocks.
use Rattle.std.proofs.Common.{◌≡◌, ℕ, ◌+◌, ◌-◌, ◌<◌, ◌≤◌, List, ◌++◌, length, sym, ap, ◌∙◌, subst, arith, sum}
use Rattle.alb_mono.specs.Listing.{Each}
use Rattle.alb_mono.specs.Tree.{Tree, node, type_plus, degree}
use Rattle.alb_poly.specs.Instance.{Form}
use Rattle.alb_poly.specs.Consequence.{AreMultilinear}
use Rattle.alb_table.specs.Table.{PartView, type_at, monos, table_product, Table, IsTable}
use Rattle.alb_table.specs.Right.{AreHigh, IsOfType, IsTypeTo, IsBasisTo, IsWithinDegree, IsRight, place_of, entry_by}
use Rattle.alb_table.specs.RightTable.{basis_monos, mono_entry}
use Rattle.alb_table.specs.Block.{AreOriginsAt, AreFreeAt, IsEntryAt, IsColumnAt}
use Rattle.alb_table.proofs.PartLemmas.{sum-plus}
use Rattle.alb_table.proofs.Numbers.{entry-longer, place-mono}
use Rattle.alb_table.proofs.RightTables.{numbered, number-type, type-to, basis-number, length-monos}
use Rattle.alb_table.proofs.Right.{right-table, of_type-degree, right-grows}
use Rattle.alb_build.proofs.Agree.{tuple-agree, right-lower, basis-more}
use Rattle.alb_build.proofs.Rows.{origins-agree}
use Rattle.alb_build.proofs.KeptParts.{monos-kept, basis-kept, product-kept}

module _ (fs : List Form) (t : Table) (tab : IsTable t) (right : IsRight t.p fs t.target t.degree (basis_monos t.parts) (mono_entry t.parts))
    (new : List PartView) (next : Each (λ (q : PartView). sum q.at ≡ t.degree + 1) new) where
  -- the older bases stay
  pub old-bases : (w : List ℕ) → IsTypeTo t.target t.degree w → basis_monos (t.parts ++ new) w ≡ basis_monos t.parts w
  old-bases w ty = basis-kept new t.degree next t.parts w (length-monos t.parts) ty.degree

  -- the older entries stay
  pub old-entries : (b c : Tree) → IsBasisTo t.p fs t.target t.degree b → IsBasisTo t.p fs t.target t.degree c → IsWithinDegree t.target t.degree (node b c) →
      mono_entry (t.parts ++ new) b c ≡ mono_entry t.parts b c
  old-entries b c hb hc w =
      let nb = basis-number fs t tab right b hb in
      let nc = basis-number fs t tab right c hc in
      let ns = numbered fs t tab right in
      let lb : nb.0 < length (monos t.parts) = omega (arith, nb.1, length-monos t.parts) in
      let lc : nc.0 < length (monos t.parts) = omega (arith, nc.1, length-monos t.parts) in
      let pb : place_of (monos t.parts) b ≡ nb.0 = ap (place_of (monos t.parts)) (sym nb.2) ∙ place-mono (monos t.parts) nb.0 ns.different lb in
      let pc : place_of (monos t.parts) c ≡ nc.0 = ap (place_of (monos t.parts)) (sym nc.2) ∙ place-mono (monos t.parts) nc.0 ns.different lc in
      let db : degree b ≡ sum (type_at t.parts nb.0) = of_type-degree (type_at t.parts nb.0) b (subst (IsOfType (type_at t.parts nb.0)) nb.2 (number-type fs t tab right nb.0 nb.1)) in
      let dc : degree c ≡ sum (type_at t.parts nc.0) = of_type-degree (type_at t.parts nc.0) c (subst (IsOfType (type_at t.parts nc.0)) nc.2 (number-type fs t tab right nc.0 nc.1)) in
      let long : length (type_at t.parts nb.0) ≡ length (type_at t.parts nc.0) = (type-to fs t tab right nb.0 nb.1).counts ∙ sym (type-to fs t tab right nc.0 nc.1).counts in
      let both : sum (type_at t.parts nb.0) + sum (type_at t.parts nc.0) ≡ sum (type_plus (type_at t.parts nb.0) (type_at t.parts nc.0)) = sum-plus (type_at t.parts nb.0) (type_at t.parts nc.0) long in
      let most : degree b + degree c ≤ t.degree = w.degree in
      let sum_is : sum (type_plus (type_at t.parts nb.0) (type_at t.parts nc.0)) ≤ t.degree = omega arith in
      let same : table_product (t.parts ++ new) (place_of (monos t.parts) b) (place_of (monos t.parts) c) ≡ table_product t.parts (place_of (monos t.parts) b) (place_of (monos t.parts) c) =
      ap (λ i. table_product (t.parts ++ new) i (place_of (monos t.parts) c)) pb ∙ ap (table_product (t.parts ++ new) nb.0) pc
      ∙ product-kept new t.degree next t.parts nb.0 nc.0 nb.1 nc.1 sum_is
      ∙ sym (ap (λ i. table_product t.parts i (place_of (monos t.parts) c)) pb ∙ ap (table_product t.parts nb.0) pc) in
      let longer = monos-kept t.parts new in
      ap (λ ms. entry_by ms (table_product (t.parts ++ new)) b c) longer.1
      ∙ entry-longer (monos t.parts) longer.0 (table_product t.parts) (table_product (t.parts ++ new)) b c (omega arith) (omega arith) same
      (subst (λ i. Each (λ s. s.1 < length (monos t.parts)) (table_product t.parts i (place_of (monos t.parts) c))) (sym pb)
      (subst (λ i. Each (λ s. s.1 < length (monos t.parts)) (table_product t.parts nb.0 i)) (sym pc) (ns.entries nb.0 nc.0 lb lc)))

  module _ (pos : 0 < t.p) (multi : AreMultilinear fs) (high : AreHigh fs) where
    -- the origins of a type may be read in the longer table
    pub origins-stay : (w : List ℕ) → IsTypeTo t.target (t.degree + 1) w → 2 ≤ sum w → (names : List (ℕ × List Tree)) →
        AreOriginsAt t.p fs t.target (sum w - 1) (mono_entry t.parts) w names → AreOriginsAt t.p fs t.target (sum w - 1) (mono_entry (t.parts ++ new)) w names
    origins-stay w ty two names o =
        let d : ℕ = sum w - 1 in
        let e : sum w ≡ d + 1 = omega arith in
        let deg : sum w ≤ t.degree + 1 = ty.degree in
        let l : d ≤ t.degree = omega arith in
        let lower = right-table t.p pos fs multi high t.target d (basis_monos t.parts) (mono_entry t.parts)
        (right-lower t.p fs t.target d t.degree l (basis_monos t.parts) (mono_entry t.parts) right) in
        origins-agree t.p fs t.target d (mono_entry t.parts) (mono_entry (t.parts ++ new)) w
        (tuple-agree t.p pos fs multi high t.target d (omega arith) (mono_entry t.parts) (mono_entry (t.parts ++ new)) lower
        (λ b c hb hc k. sym (old-entries b c (basis-more t.p fs t.target d t.degree l b hb) (basis-more t.p fs t.target d t.degree l c hc)
        (record { below = k.below; type = k.type; degree = omega (arith, k.degree) })))
        w (record { counts = ty.counts; le = ty.le; degree = omega arith }) e)
        names o

    -- THE RIGHT TABLE OF THE NEXT DEGREE, from the bases and entries of its new types
    pub grown-right :
        ((w : List ℕ) → IsTypeTo t.target (t.degree + 1) w → sum w ≡ t.degree + 1 → AreFreeAt t.p fs t.target t.degree (mono_entry t.parts) w (basis_monos (t.parts ++ new) w)) →
        ((w : List ℕ) (b c : Tree) → IsTypeTo t.target (t.degree + 1) w → sum w ≡ t.degree + 1 → IsColumnAt t.p fs t.target t.degree w (node b c)
        → IsEntryAt t.p fs t.target t.degree (mono_entry t.parts) w (node b c) (mono_entry (t.parts ++ new) b c)) →
        IsRight t.p fs t.target (t.degree + 1) (basis_monos (t.parts ++ new)) (mono_entry (t.parts ++ new))
    grown-right bases entries = right-grows t.p pos fs multi high t.target t.degree tab.started (basis_monos t.parts) (basis_monos (t.parts ++ new)) (mono_entry t.parts)
        (mono_entry (t.parts ++ new)) right
        (record { old_bases = old-bases; new_bases = bases; old_entries = old-entries; new_entries = entries })
