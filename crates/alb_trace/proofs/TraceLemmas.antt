-- What a trace keeps while lines are added.
use Rattle.std.proofs.Common.{◌≡◌, ℕ, ◌+◌, ◌<◌, ◌≤◌, List, [], ◌∷◌, ◌++◌, length, get_or, drop, add-one, append_assoc, map, sym, ap, ◌∙◌, subst, arith}
use Rattle.std.specs.Prelude.{All, IsTrue}
use Rattle.std.proofs.lemmas.List.{map-append, length-map, length-append, append-nil, drop_all}
use Rattle.std.proofs.Math.Seq.{drop-cons}
use Rattle.std.proofs.lemmas.List.Elements.{All-append, All-cons}
use Rattle.indexmap.specs.IndexMap.{get}
use Rattle.alb_table.specs.Table.{same_pair, Table}
use Rattle.gf_sums.proofs.Alike.{itself, joined}
use Rattle.alb_deriv.proofs.Appended.{Appends, append-sum, append-times, one-line, none-beside, sum_of-append, sum-one, sum-append, sum-alike}
use Rattle.alb_table.proofs.GeneratorLemmas.{above_one}
use Rattle.alb_mono.specs.Listing.{Each}
use Rattle.gf_sums.specs.Sums.{reindex}
use Rattle.alb_mono.specs.Tree.{tree, Tree, degree, are_below}
use Rattle.alb_mono.specs.declared.side.Side.{Side}
use Rattle.alb_mono.proofs.Leaves.{below_from_test}
use Rattle.alb_poly.specs.Consequence.{beside}
use Rattle.alb_poly.specs.Poly.{Poly}
use Rattle.alb_poly.specs.Instance.{Form}
use Rattle.alb_poly.proofs.Multilinear.{each-from}
use Rattle.alb_poly.proofs.Consequence.{alike_poly, poly_alike, itself'}
use Rattle.alb_deriv.specs.Derivation as value
use Rattle.alb_deriv.specs.Short.{AreFine, IsPlace, IsLineOf, sum_of, IsSumOf}
use Rattle.alb_deriv.specs.Views.{line, IsLine}
use Rattle.alb_deriv.specs.declared.line.Line.{Line}
use Rattle.alb_deriv.specs.declared.line.Line.TheVariants.{Times}
use Rattle.alb_mono.specs.declared.mono.Mono.{Mono}
use Rattle.alb_trace.specs.Adds.{item_of, IsLonger}
use Rattle.alb_trace.specs.Given.{FitsTarget}
use Rattle.alb_trace.specs.Origins.{IsOriginBlock}
use Rattle.alb_keys.specs.declared.owned.MonoKey.{MonoKey}
use Rattle.alb_trace.specs.Trace.{most_items, lines_of, same_mono, same_row, IsTrace, Derives, Carries}
use Rattle.alb_trace.specs.declared.row_key.RowKey.{RowKey}
use Rattle.alb_trace.specs.declared.trace.Citation.{Citation}
use Rattle.alb_trace.specs.declared.trace.Citation.TheVariants as citations
use Rattle.alb_trace.specs.declared.trace.Trace.{Trace}
use Rattle.alb_trace.proofs.Adds.{longer-itself, longer-joined, longer-sum, longer-one, adds-nothing, adds-then}

views-more : (old new : List Line) (l : Line) → new ≡ old ++ l ∷ [] → map line new ≡ map line old ++ line l ∷ []
views-more old new l e = ap (map line) e ∙ map-append line old (l ∷ [])

all-more : (P : Line → Type 0) (old new : List Line) (l : Line) → new ≡ old ++ l ∷ [] → All P old → P l → All P new
all-more P old new l e a h = subst (All P) (sym e) (All-append P old (l ∷ []) a (All-cons P l [] h (λ k d x. absurd (omega arith))))

left-each : {X : Type 0} (P : X → Type 0) (xs ys : List X) → Each P (xs ++ ys) → Each P xs
left-each P [] ys a = tt
left-each P (x ∷ xs) ys a = (a.0, left-each P xs ys a.1)

right-each : {X : Type 0} (P : X → Type 0) (xs ys : List X) → Each P (xs ++ ys) → Each P ys
right-each P [] ys a = a
right-each P (x ∷ xs) ys a = right-each P xs ys a.1

-- the two know the same
pub record SameKnown (old new : Trace) : Type 0 where
  pub products : (q : ℕ × ℕ) → get same_pair new.products q ≡ get same_pair old.products q
  pub monomials : (k : MonoKey) → get same_mono new.monomials k ≡ get same_mono old.monomials k
  pub rows : (k : RowKey) → get same_row new.rows k ≡ get same_row old.rows k
  pub blocks : new.blocks.items ≡ old.blocks.items

module _ (fs : List Form) (t : Table) where
  -- what is known stays known after further lines
  pub trace-longer : (old new : Trace) → IsLonger (lines_of old) (lines_of new) → SameKnown old new → AreFine t.p most_items t.target fs (lines_of new) → All (λ l. IsLine t.p (length t.target) l) new.lines.items → IsTrace fs t old → IsTrace fs t new
  trace-longer old new longer e fine printable h = record {
    table = h.table;
    fine = fine;
    printable = printable;
    products = λ q o g. longer-sum t.p fs longer (item_of o) (h.products q o (sym (e.products q) ∙ g));
    monomials = λ k o g. longer-sum t.p fs longer (item_of o) (h.monomials k o (sym (e.monomials k) ∙ g));
    rows = λ k o g. longer-sum t.p fs longer (item_of o) (h.rows k o (sym (e.rows k) ∙ g));
    blocks = subst (Each (λ b. IsOriginBlock fs t b.at b.columns b.reduced)) (sym e.blocks) h.blocks;
  }

  -- a line after the others
  pub line-derives : (old new : Trace) (l : Line) (n : ℕ) (f : Poly) → new.lines.items ≡ old.lines.items ++ l ∷ [] → SameKnown old new →
      n ≡ length new.lines.items → IsTrace fs t old → IsLine t.p (length t.target) l → AreFine t.p most_items t.target fs (lines_of old ++ line l ∷ []) →
      IsLineOf t.p fs (lines_of old ++ line l ∷ []) (length (lines_of old) + 1) f → Derives fs t old new (citations.Line n) f
  line-derives old new l n f e known en h i fine is =
      let v : lines_of new ≡ lines_of old ++ line l ∷ [] = views-more old.lines.items new.lines.items l e in
      let longer : IsLonger (lines_of old) (lines_of new) = longer-one (line l) v in
      let c : length (lines_of old) + 1 ≡ n = omega (arith, length-map old.lines.items line, ap length e, length-append old.lines.items (l ∷ [])) in
      let fine_new : AreFine t.p most_items t.target fs (lines_of new) = subst (AreFine t.p most_items t.target fs) (sym v) fine in
      record {
        trace = trace-longer old new longer known fine_new (all-more (λ k. IsLine t.p (length t.target) k) old.lines.items new.lines.items l e h.printable i) h;
        adds = record {
          longer = longer;
          fine = fine_new;
          sum = sum-one t.p fs (subst (λ k. IsLineOf t.p fs (lines_of new) k f) c
              (subst (λ ls. IsLineOf t.p fs ls (length (lines_of old) + 1) f) (sym v) is));
        };
      }

  module _ (s : Trace) (h : IsTrace fs t s) where
    pub positive : 0 < t.p
    positive = omega (arith, above_one t h.table)

    -- a short sum may be the next line
    pub next-sum : (part : List (ℕ × ℕ)) (f : Poly) → IsSumOf t.p fs (lines_of s) part f → length part ≤ 64 →
        Appends t.p most_items t.target fs (lines_of s) (value.Sum part) f
    next-sum part f a l = append-sum t.p positive most_items t.target fs (lines_of s) part f h.fine a l

    -- no line for zero, and one that there is
    pub derives-none : (f : Poly) → IsSumOf t.p fs (lines_of s) [] f → Derives fs t s s citations.Zero f
    derives-none f a = record { trace = h; adds = adds-nothing t.p most_items t.target fs h.fine a }

    pub derives-known : (o : Citation) (f : Poly) → IsSumOf t.p fs (lines_of s) (item_of o) f → Derives fs t s s o f
    derives-known o f a = record { trace = h; adds = adds-nothing t.p most_items t.target fs h.fine a }

    -- items that stay as they are
    pub carries-itself : (part rest : List (ℕ × ℕ)) (f : Poly) → All (λ c. c.0 < t.p) part → IsSumOf t.p fs (lines_of s) (part ++ rest) f → Carries fs t s s part rest f
    carries-itself part rest f a k = record { trace = h; longer = longer-itself (lines_of s); residues = a; sum = k }

    -- the front of a sum may be the next line
    pub next-part : (part rest : List (ℕ × ℕ)) (f : Poly) → IsSumOf t.p fs (lines_of s) (part ++ rest) f → length part ≤ 64 →
        Appends t.p most_items t.target fs (lines_of s) (value.Sum part) (sum_of fs (lines_of s) part)
    next-part part rest f a l = next-sum part (sum_of fs (lines_of s) part)
        (record { places = left-each (λ c. IsPlace (lines_of s) c.1) part rest a.places; same = poly_alike (itself (sum_of fs (lines_of s) part)) }) l

    -- and then takes its place
    pub carries-line : (new : Trace) (part rest : List (ℕ × ℕ)) (n : ℕ) (f : Poly) → IsSumOf t.p fs (lines_of s) (part ++ rest) f →
        Derives fs t s new (citations.Line n) (sum_of fs (lines_of s) part) → Carries fs t s new ((1, n) ∷ []) rest f
    carries-line new part rest n f a d =
        let e : sum_of fs (lines_of s) (part ++ rest) ≡ sum_of fs (lines_of s) part ++ sum_of fs (lines_of s) rest = sum_of-append fs (lines_of s) part rest in
        let r : IsSumOf t.p fs (lines_of s) rest (sum_of fs (lines_of s) rest) =
        record { places = right-each (λ c. IsPlace (lines_of s) c.1) part rest a.places; same = poly_alike (itself (sum_of fs (lines_of s) rest)) } in
        record {
          trace = d.trace;
          longer = d.adds.longer;
          residues = All-cons (λ c. c.0 < t.p) (1, n) [] (above_one t h.table) (λ k x l. absurd (omega arith));
          sum = sum-alike t.p fs (joined (itself' _ _ (sym e)) (alike_poly a.same)) (sum-append t.p fs d.adds.sum (longer-sum t.p fs d.adds.longer rest r));
        }

  pub derives-joined : (old mid new : Trace) (o : Citation) (f : Poly) → IsLonger (lines_of old) (lines_of mid) → Derives fs t mid new o f → Derives fs t old new o f
  derives-joined old mid new o f a d = record { trace = d.trace; adds = adds-then t.p most_items t.target fs a d.adds }

  -- the next item of a sum
  pub carries-next : (old mid new : Trace) (part items all : List (ℕ × ℕ)) (k : ℕ) (d : ℕ × ℕ) (f : Poly) → k < length all →
      part ≡ items ++ get_or all k d ∷ [] → All (λ c. c.0 < t.p) all → IsLonger (lines_of old) (lines_of mid) → Carries fs t mid new items (drop k all) f →
      Carries fs t old new part (drop (k + 1) all) f
  carries-next old mid new part items all k d f l q a longer c =
      let item : ℕ × ℕ = get_or all k d in
      let e : drop k all ≡ item ∷ drop (k + 1) all = rw add-one (drop-cons all k d l) in
      let r : item.0 < t.p = a k d l in
      record {
        trace = c.trace;
        longer = longer-joined longer c.longer;
        residues = subst (All (λ x. x.0 < t.p)) (sym q) (All-append (λ x. x.0 < t.p) items (item ∷ []) c.residues (All-cons (λ x. x.0 < t.p) item [] r (λ j x m. absurd (omega arith))));
        sum = subst (λ z. IsSumOf t.p fs (lines_of new) (z ++ drop (k + 1) all) f) (sym q)
            (subst (λ z. IsSumOf t.p fs (lines_of new) z f) (sym (append_assoc items (item ∷ []) (drop (k + 1) all)))
            (subst (λ z. IsSumOf t.p fs (lines_of new) (items ++ z) f) e c.sum));
      }

  -- after the last item
  pub carries-end : (old new : Trace) (part all : List (ℕ × ℕ)) (k : ℕ) (f : Poly) → length all ≤ k → Carries fs t old new part (drop k all) f → IsSumOf t.p fs (lines_of new) part f
  carries-end old new part all k f l c =
      let e : drop k all ≡ [] = drop_all k all l in
      subst (λ z. IsSumOf t.p fs (lines_of new) z f) (append-nil part) (subst (λ z. IsSumOf t.p fs (lines_of new) (part ++ z) f) e c.sum)

  module _ (s : Trace) (h : IsTrace fs t s) (side : Side) (m : Tree) (f : Poly) where
    -- a line times a monomial may be the next line
    pub next-times : (k : ℕ) (y : Tree) → y ≡ m → IsSumOf t.p fs (lines_of s) (item_of (citations.Line k)) f → IsTrue (are_below (length t.target) m) → FitsTarget t (reindex (beside (side, m)) f) →
        Appends t.p most_items t.target fs (lines_of s) (value.Times k (side, y)) (reindex (beside (side, m)) f)
    next-times k y q a b e = subst (λ z. Appends t.p most_items t.target fs (lines_of s) (value.Times k (side, z)) (reindex (beside (side, m)) f)) (sym q)
        (append-times t.p (positive s h) most_items t.target fs (lines_of s) k (side, m) f h.fine (one-line t.p fs a) (below_from_test (length t.target) m b) e)

    -- it can be printed
    pub times-printable : (k : ℕ) (y : Mono) → tree y ≡ m → IsTrue (are_below (length t.target) m) → degree m ≤ 64 → IsLine t.p (length t.target) (Times k side y)
    times-printable k y q b d = (subst (λ z. IsTrue (are_below (length t.target) z)) (sym q) b, subst (λ z. degree z ≤ 64) (sym q) d)

    -- no line stays none
    pub none-times : IsSumOf t.p fs (lines_of s) [] f → Derives fs t s s citations.Zero (reindex (beside (side, m)) f)
    none-times a = derives-none s h (reindex (beside (side, m)) f) (none-beside t.p fs (side, m) a)
