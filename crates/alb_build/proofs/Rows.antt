-- The rows and the origins of a type stay the same while the table grows.
use Rattle.std.proofs.Common.{◌≡◌, ℕ, List, [], ◌∷◌, sym, refl, subst}
use Rattle.std.specs.List.{Contains}
use Rattle.gf_sums.specs.Sums.{Comb}
use Rattle.alb_mono.specs.Listing.{Each}
use Rattle.alb_mono.specs.Tree.{Tree}
use Rattle.alb_poly.specs.Poly.{Poly, IsSamePoly}
use Rattle.alb_poly.specs.Instance.{Form}
use Rattle.alb_table.specs.Block.{spread, InNamedSpan, IsTupleAt, tuple_row, IsPivotMonomial, ArePivotsAt, AreOriginsAt}
use Rattle.alb_mono.proofs.ListingLemmas.{each-at}
use Rattle.alb_poly.proofs.Multilinear.{each-from}

-- ---- spans of rows that agree where they are named

spread-agree : {N : Type 0} (Named : N → Type 0) (row row' : N → Poly) (items : Comb N) → ((n : N) → Named n → row n ≡ row' n) → Each (λ t. Named t.1) items →
    spread row items ≡ spread row' items
spread-agree Named row row' [] same a = refl
spread-agree Named row row' (t ∷ items) same a = rw (same t.1 a.0, spread-agree Named row row' items same a.1) refl

span-agree : {N : Type 0} (p : ℕ) (Named : N → Type 0) (row row' : N → Poly) (x : Poly) → ((n : N) → Named n → row n ≡ row' n) → InNamedSpan p Named row x → InNamedSpan p Named row' x
span-agree p Named row row' x same s = record {
  items = s.items;
  named = s.named;
  gives = subst (λ y. IsSamePoly p x y) (spread-agree Named row row' s.items same s.named) s.gives;
}

pivot-agree : {N : Type 0} (p : ℕ) (Named : N → Type 0) (row row' : N → Poly) (m : Tree) → ((n : N) → Named n → row n ≡ row' n) → IsPivotMonomial p Named row m → IsPivotMonomial p Named row' m
pivot-agree p Named row row' m same v = record {
  element = v.element;
  in_span = span-agree p Named row row' v.element same v.in_span;
  nonzero = v.nonzero;
  greatest = v.greatest;
}

-- the named entries, by which the origins of a type are said, may be replaced where the rows agree
module _ (p : ℕ) (fs : List Form) (target : List ℕ) (d : ℕ) (entry entry' : Tree → Tree → Poly) (t : List ℕ)
    (same : (n : ℕ × List Tree) → IsTupleAt p fs target d t n → tuple_row fs entry n ≡ tuple_row fs entry' n) where
  back : (n : ℕ × List Tree) → IsTupleAt p fs target d t n → tuple_row fs entry' n ≡ tuple_row fs entry n
  back n h = sym (same n h)

  pub pivots-agree : (ms : List Tree) → ArePivotsAt p fs target d entry t ms → ArePivotsAt p fs target d entry' t ms
  pivots-agree ms a = record {
    ascends = a.ascends;
    pivots = each-from _ _ ms (λ m v. pivot-agree p (IsTupleAt p fs target d t) (tuple_row fs entry) (tuple_row fs entry') m same v) a.pivots;
    whole = λ m v. a.whole m (pivot-agree p (IsTupleAt p fs target d t) (tuple_row fs entry') (tuple_row fs entry) m back v);
  }

  pub origins-agree : (names : List (ℕ × List Tree)) → AreOriginsAt p fs target d entry t names → AreOriginsAt p fs target d entry' t names
  origins-agree names o = record {
    named = o.named;
    pivots = o.pivots;
    are_pivots = pivots-agree o.pivots o.are_pivots;
    count = o.count;
    spans = λ n h.
        let s : InNamedSpan p (Contains names) (tuple_row fs entry) (tuple_row fs entry' n) = subst (InNamedSpan p (Contains names) (tuple_row fs entry)) (same n h) (o.spans n h) in
        span-agree p (Contains names) (tuple_row fs entry) (tuple_row fs entry') (tuple_row fs entry' n)
        (λ k c. same k (named-in k c)) s;
  }
    where
      named-in : (k : ℕ × List Tree) → Contains names k → IsTupleAt p fs target d t k
      named-in k c = subst (IsTupleAt p fs target d t) c.2 (each-at (IsTupleAt p fs target d t) names c.0 k o.named c.1)
