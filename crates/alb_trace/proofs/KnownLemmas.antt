-- What a trace knows, and what it knows more once it is noted.
use Rattle.std.proofs.Common.{◌≡◌, ℕ, Bool, true, cond, List, map, refl, sym, ap, ◌∙◌, subst, inl, inr, Option, Some, nat_eq, eqb-true, BuildHasherDefault, FoldHasher}
use Rattle.std.specs.Prelude.{◌==◌}
use Rattle.std.specs.Cmp.Lexicographic.{pointwise, bytes_decides}
use Rattle.std.proofs.lemmas.Bool.{cases_Bool}
use Rattle.indexmap.specs.IndexMap.{IndexMap, get}
use Rattle.alb_mono.proofs.Both.{both_tests}
use Rattle.alb_mono.specs.Tree.{tree}
use Rattle.alb_mono.specs.declared.mono.Mono.{Mono}
use Rattle.alb_poly.specs.Instance.{Form}
use Rattle.alb_poly.specs.Poly.{Poly}
use Rattle.alb_poly.proofs.Consequence.{tree_tells}
use Rattle.alb_deriv.specs.Short.{IsSumOf}
use Rattle.alb_deriv.specs.Views.{line}
use Rattle.alb_table.specs.Table.{same_pair, Table}
use Rattle.alb_subst.proofs.SumLemmas.{pairs_tell}
use Rattle.alb_trace.specs.Adds.{item_of, Adds}
use Rattle.alb_keys.specs.declared.owned.MonoKey.{MonoKey}
use Rattle.alb_trace.specs.Origins.{origin_row}
use Rattle.alb_trace.specs.Trace.{most_items, lines_of, product_less, mono_less, same_mono, same_row, IsTrace, Derives}
use Rattle.alb_trace.specs.declared.row_key.RowKey.{RowKey}
use Rattle.alb_trace.specs.declared.trace.Citation.{Citation}
use Rattle.alb_trace.specs.declared.trace.Trace.{Trace}

abbrev Products : Type 0
Products = IndexMap (ℕ × ℕ) Citation (BuildHasherDefault FoldHasher)

abbrev Monomials : Type 0
Monomials = IndexMap MonoKey Citation (BuildHasherDefault FoldHasher)

abbrev Rows : Type 0
Rows = IndexMap RowKey Citation (BuildHasherDefault FoldHasher)

module _ (fs : List Form) (t : Table) where
  -- what is noted, and what was known before
  noted : {K : Type 0} (same : K → K → Bool) (P : Citation → K → Type 0) (key : K) (o : Citation) (before : K → Option Citation) → ((k : K) → same key k ≡ true → P o k) →
      ((k : K) (u : Citation) → before k ≡ Some u → P u k) → (k : K) (u : Citation) → cond (same key k) (Some o) (before k) ≡ Some u → P u k
  noted same P key o before new old k u g = elim (cases_Bool (same key k)) [
    | inl y ↦ (
        let n : Some o ≡ Some u = rw y at g in
        let v : o ≡ u = cc in
        subst (λ x. P x k) v (new k y))
    | inr y ↦ old k u (rw y at g)
  ]

  -- a trace with the same lines
  derives-more : (old s new : Trace) (o : Citation) {f : Poly} → new.lines.items ≡ s.lines.items → IsTrace fs t new → Derives fs t old s o f → Derives fs t old new o f
  derives-more old s new o {f} e h d =
      let q : lines_of new ≡ lines_of s = ap (map line) e in
      record {
        trace = h;
        adds = subst (λ ls. Adds t.p most_items t.target fs (lines_of old) ls o f) (sym q) d.adds;
      }

  pub note-product : (old s : Trace) (b c : ℕ) (o : Citation) (products : Products) → ((q : ℕ × ℕ) → get same_pair products q ≡ cond (same_pair (b, c) q) (Some o) (get same_pair s.products q)) →
      Derives fs t old s o (product_less t (b, c)) → Derives fs t old (record s { products = products }) o (product_less t (b, c))
  note-product old s b c o products ep d =
      let h : IsTrace fs t s = d.trace in
      derives-more old s (record s { products = products }) o refl (record {
        table = h.table;
        fine = h.fine;
        printable = h.printable;
        products = λ k u g. noted same_pair (λ x q. IsSumOf t.p fs (lines_of s) (item_of x) (product_less t q)) (b, c) o (get same_pair s.products)
            (λ q y. subst (λ x. IsSumOf t.p fs (lines_of s) (item_of o) (product_less t x)) (pairs_tell.sound (b, c) q y) d.adds.sum) h.products k u (sym (ep k) ∙ g);
        monomials = h.monomials;
        rows = h.rows;
        blocks = h.blocks;
      }) d

  pub note-mono : (old s : Trace) (m : Mono) (key : MonoKey) (o : Citation) (monomials : Monomials) → tree key.mono ≡ tree m →
      ((k : MonoKey) → get same_mono monomials k ≡ cond (same_mono key k) (Some o) (get same_mono s.monomials k)) →
      Derives fs t old s o (mono_less t (tree m)) → Derives fs t old (record s { monomials = monomials }) o (mono_less t (tree m))
  note-mono old s m key o monomials same em d =
      let h : IsTrace fs t s = d.trace in
      derives-more old s (record s { monomials = monomials }) o refl (record {
        table = h.table;
        fine = h.fine;
        printable = h.printable;
        products = h.products;
        monomials = λ k u g. noted same_mono (λ x q. IsSumOf t.p fs (lines_of s) (item_of x) (mono_less t (tree q.mono))) key o (get same_mono s.monomials)
            (λ q y. subst (λ x. IsSumOf t.p fs (lines_of s) (item_of o) (mono_less t x)) (sym same ∙ tree_tells.sound (tree key.mono) (tree q.mono) y) d.adds.sum) h.monomials k u (sym (em k) ∙ g);
        rows = h.rows;
        blocks = h.blocks;
      }) d

  pub note-row : (old s : Trace) (at : List ℕ) (number : ℕ) (key : RowKey) (o : Citation) (rows : Rows) → key.at ≡ at → key.number ≡ number →
      ((k : RowKey) → get same_row rows k ≡ cond (same_row key k) (Some o) (get same_row s.rows k)) →
      Derives fs t old s o (origin_row fs t at number) → Derives fs t old (record s { rows = rows }) o (origin_row fs t at number)
  note-row old s at number key o rows ea en er d =
      let h : IsTrace fs t s = d.trace in
      derives-more old s (record s { rows = rows }) o refl (record {
        table = h.table;
        fine = h.fine;
        printable = h.printable;
        products = h.products;
        monomials = h.monomials;
        rows = λ k u g. noted same_row (λ x q. IsSumOf t.p fs (lines_of s) (item_of x) (origin_row fs t q.at q.number)) key o (get same_row s.rows)
            (λ q y. let z = rows-tell key q y in
            subst (λ (x : List ℕ × ℕ). IsSumOf t.p fs (lines_of s) (item_of o) (origin_row fs t x.0 x.1)) (λ i. ((sym ea ∙ z.0) i, (sym en ∙ z.1) i)) d.adds.sum) h.rows k u (sym (er k) ∙ g);
        blocks = h.blocks;
      }) d
    where
      rows-tell : (x y : RowKey) → same_row x y ≡ true → (x.at ≡ y.at) × (x.number ≡ y.number)
      rows-tell x y e =
          let b = both_tests (pointwise nat_eq x.at y.at) (x.number == y.number) e in
          ((bytes_decides x.at y.at).0 b.0, eqb-true x.number y.number b.1)

  -- what is known of a monomial and of a row
  pub mono-found : (s : Trace) (m : Mono) (key : MonoKey) (o : Citation) → tree key.mono ≡ tree m → get same_mono s.monomials key ≡ Some o → IsTrace fs t s → IsSumOf t.p fs (lines_of s) (item_of o) (mono_less t (tree m))
  mono-found s m key o e g h = subst (λ x. IsSumOf t.p fs (lines_of s) (item_of o) (mono_less t x)) e (h.monomials key o g)

  pub row-found : (s : Trace) (at : List ℕ) (number : ℕ) (key : RowKey) (o : Citation) → key.at ≡ at → key.number ≡ number → get same_row s.rows key ≡ Some o → IsTrace fs t s →
      IsSumOf t.p fs (lines_of s) (item_of o) (origin_row fs t at number)
  row-found s at number key o ea en g h = subst (λ (x : List ℕ × ℕ). IsSumOf t.p fs (lines_of s) (item_of o) (origin_row fs t x.0 x.1)) (λ i. (ea i, en i)) (h.rows key o g)
