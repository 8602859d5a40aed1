-- The generators of what is read have letters.
use Rattle.std.proofs.Common.{◌≡◌, ℕ, zero, suc, ◌-◌, IsTrue, Bool, true, false, cond, List, [], ◌∷◌, ◌++◌, length, All, IfOk, Result, Ok, Err, refl, subst}
use Rattle.std.specs.Prelude.{◌==◌, nat_lt}
use Rattle.std.specs.List.{list_any}
use Rattle.std.proofs.lemmas.Bool.{lt-ltb}
use Rattle.std.proofs.lemmas.List.Quantifiers.{position-Some}
use Rattle.std.proofs.lemmas.List.Elements.{All-nil, All-cons}
use Rattle.gf_sums.specs.Sums.{scale}
use Rattle.alb_lex.specs.declared.token.Token.{Token}
use Rattle.alb_mono.specs.Listing.{Each}
use Rattle.alb_mono.specs.Tree.{degree, are_below}
use Rattle.alb_mono.proofs.ListingLemmas.{each-append, each-weaker}
use Rattle.alb_poly.specs.Poly.{Poly, product, normal}
use Rattle.alb_poly.proofs.NormalLemmas.{normal-each}
use Rattle.alb_poly.proofs.Products.{product-each}
use Rattle.alb_syntax.specs.declared.error.SyntaxError.{SyntaxError}
use Rattle.alb_syntax.specs.declared.error.SyntaxError.TheVariants as errors
use Rattle.alb_lex.specs.Results.{◌>>=◌}
use Rattle.alb_syntax.specs.Reading.{limited, sum, difference, times, multiple, associator, commutator, jordan, raised}
use Rattle.alb_syntax.specs.Grammar.{Class, Denotes, Atom, Power, Juxt, Jordan, Term, Sum}
use Rattle.alb_syntax.specs.Grammar as grammar
use Rattle.alb_lex.proofs.Binds.{bind_ok, ok_is}

-- every generator is below `n`
abbrev Knows : ℕ → Poly → Type 0
Knows n f = Each (λ t. are_below n t.1 ≡ true) f

within-is : (place : ℕ) (f h : Poly) → limited place f ≡ Ok h → f ≡ h
unfolding limited
within-is place f h e = tests (list_any (λ t. nat_lt 64 (degree t.1)) f) (nat_lt 65536 (length f)) e
  where
    tests : (b c : Bool) → (cond b (Err (errors.TooHigh place)) (cond c (Err (errors.TooManyTerms place)) (Ok f))) ≡ Ok h → f ≡ h
    tests true c q = absurd cc
    tests false true q = absurd cc
    tests false false q = ok_is f h q

module _ (n p place : ℕ) where
  knows_within : (f h : Poly) → Knows n f → limited place (normal p f) ≡ Ok h → Knows n h
  knows_within f h k e = subst (Knows n) (within-is place (normal p f) h e) (normal-each (λ m. are_below n m ≡ true) p f k)

  knows_scale : (c : ℕ) (f : Poly) → Knows n f → Knows n (scale c f)
  knows_scale c [] k = tt
  knows_scale c (t ∷ f) k = (k.0, knows_scale c f k.1)

  knows_multiple : (c : ℕ) (f : Poly) → Knows n f → Knows n (multiple p c f)
  unfolding multiple
  knows_multiple c f k = normal-each (λ m. are_below n m ≡ true) p (scale c f) (knows_scale c f k)

  knows_times : (f g h : Poly) → Knows n f → Knows n g → times p place f g ≡ Ok h → Knows n h
  unfolding times
  knows_times f g h k l e =
      knows_within (product f g) h
      (product-each (λ m. are_below n m ≡ true) f g (each-weaker (λ s. are_below n s.1 ≡ true) _ f (λ s a. each-weaker (λ t. are_below n t.1 ≡ true) _ g (λ t b. rw (a, b) refl) l) k)) e

  knows_sum : (f g h : Poly) → Knows n f → Knows n g → sum p place f g ≡ Ok h → Knows n h
  unfolding sum
  knows_sum f g h k l e = knows_within (f ++ g) h (each-append (λ t. are_below n t.1 ≡ true) f g k l) e

  knows_difference : (f g h : Poly) → Knows n f → Knows n g → difference p place f g ≡ Ok h → Knows n h
  unfolding difference
  knows_difference f g h k l e = knows_within (f ++ scale (p - 1) g) h (each-append (λ t. are_below n t.1 ≡ true) f (scale (p - 1) g) k (knows_scale (p - 1) g l)) e

  knows_commutator : (x y f : Poly) → Knows n x → Knows n y → commutator p place x y ≡ Ok f → Knows n f
  unfolding commutator
  knows_commutator x y f k l q =
      let u = bind_ok (times p place x y) (λ xy. times p place y x >>= λ yx. difference p place xy yx) f q in
      let v = bind_ok (times p place y x) (λ yx. difference p place u.0 yx) f u.2 in
      knows_difference u.0 v.0 f (knows_times x y u.0 k l u.1) (knows_times y x v.0 l k v.1) v.2

  knows_jordan : (x y f : Poly) → Knows n x → Knows n y → jordan p place x y ≡ Ok f → Knows n f
  unfolding jordan
  knows_jordan x y f k l q =
      let u = bind_ok (times p place x y) (λ xy. times p place y x >>= λ yx. sum p place xy yx) f q in
      let v = bind_ok (times p place y x) (λ yx. sum p place u.0 yx) f u.2 in
      knows_sum u.0 v.0 f (knows_times x y u.0 k l u.1) (knows_times y x v.0 l k v.1) v.2

  knows_associator : (x y z f : Poly) → Knows n x → Knows n y → Knows n z → associator p place x y z ≡ Ok f → Knows n f
  unfolding associator
  knows_associator x y z f k l m q =
      let u = bind_ok (times p place x y) (λ xy. times p place xy z >>= λ l. times p place y z >>= λ yz. times p place x yz >>= λ r. difference p place l r) f q in
      let w = bind_ok (times p place u.0 z) (λ l. times p place y z >>= λ yz. times p place x yz >>= λ r. difference p place l r) f u.2 in
      let v = bind_ok (times p place y z) (λ yz. times p place x yz >>= λ r. difference p place w.0 r) f w.2 in
      let r = bind_ok (times p place x v.0) (λ r. difference p place w.0 r) f v.2 in
      let xy = knows_times x y u.0 k l u.1 in
      let yz = knows_times y z v.0 l m v.1 in
      knows_difference w.0 r.0 f (knows_times u.0 z w.0 xy m w.1) (knows_times x v.0 r.0 k yz r.1) r.2

  knows_raised : (x : Poly) (j : ℕ) (f h : Poly) → Knows n x → Knows n f → raised p place x j f ≡ Ok h → Knows n h
  unfolding raised
  knows_raised x zero f h k l q = subst (Knows n) (ok_is f h q) l
  knows_raised x (suc j) f h k l q =
      let u = bind_ok (times p place f x) (λ g. raised p place x j g) h q in
      knows_raised x j u.0 h k (knows_times f x u.0 l k u.1) u.2

knows : (p : ℕ) (letters : List ℕ) (c : Class) (n : ℕ) (ts : List Token) (f : Poly) → Denotes p letters c n ts f → Knows (length letters) f
knows p ls _ _ _ _ (grammar.a_letter n k b t e q) = (lt-ltb k (length ls) (position-Some (λ x. x == b) ls k 0 q).0, tt)
knows p ls _ _ _ _ (grammar.in_round n o c us f eo d ec) = knows p ls Sum n us f d
knows p ls _ _ _ _ (grammar.an_associator n o a b c us vs ws x y z f eo dx ea dy eb dz ec made) =
    knows_associator (length ls) p 0 x y z f (knows p ls Sum n us x dx) (knows p ls Sum n vs y dy) (knows p ls Sum n ws z dz) (made 0)
knows p ls _ _ _ _ (grammar.a_commutator n o a c us vs x y f eo dx ea dy ec made) = knows_commutator (length ls) p 0 x y f (knows p ls Sum n us x dx) (knows p ls Sum n vs y dy) (made 0)
knows p ls _ _ _ _ (grammar.an_atom n ts f d) = knows p ls Atom n ts f d
knows p ls _ _ _ _ (grammar.a_power n m h k us x f d eh ek lo hi made) = let a = knows p ls Atom n us x d in knows_raised (length ls) p 0 x (m - 1) x f a a (made 0)
knows p ls _ _ _ _ (grammar.one_power n ts f d) = knows p ls Power n ts f d
knows p ls _ _ _ _ (grammar.beside n us vs x y f dx dy made) = knows_times (length ls) p 0 x y f (knows p ls Juxt n us x dx) (knows p ls Power n vs y dy) (made 0)
knows p ls _ _ _ _ (grammar.one_juxt n ts f d) = knows p ls Juxt n ts f d
knows p ls _ _ _ _ (grammar.a_star n t us vs x y f dx e dy made) = knows_jordan (length ls) p 0 x y f (knows p ls Jordan n us x dx) (knows p ls Juxt n vs y dy) (made 0)
knows p ls _ _ _ _ (grammar.a_product n ts f d) = knows p ls Jordan n ts f d
knows p ls _ _ _ _ (grammar.a_multiple n m t ts x e d) = knows_multiple (length ls) p 0 m x (knows p ls Jordan n ts x d)
knows p ls _ _ _ _ (grammar.a_zero n t e) = tt
knows p ls _ _ _ _ (grammar.one_term n ts f d) = knows p ls Term n ts f d
knows p ls _ _ _ _ (grammar.with_plus n t ts f e d) = knows p ls Term n ts f d
knows p ls _ _ _ _ (grammar.with_minus n t ts x e d) = knows_multiple (length ls) p 0 (p - 1) x (knows p ls Term n ts x d)
knows p ls _ _ _ _ (grammar.added n t us vs x y f dx e dy made) = knows_sum (length ls) p 0 x y f (knows p ls Sum n us x dx) (knows p ls Term n vs y dy) (made 0)
knows p ls _ _ _ _ (grammar.subtracted n t us vs x y f dx e dy made) = knows_difference (length ls) p 0 x y f (knows p ls Sum n us x dx) (knows p ls Term n vs y dy) (made 0)

each-all : (n : ℕ) (f : Poly) → Knows n f → All (λ t. IsTrue (are_below n t.1)) f
each-all n [] k = All-nil _
each-all n (t ∷ f) k = All-cons (λ t. IsTrue (are_below n t.1)) t f k.0 (each-all n f k.1)

pub denoted-known : (p : ℕ) (letters : List ℕ) (ts : List Token) (r : Result Poly SyntaxError) → IfOk r (λ f. Denotes p letters Sum 64 ts f)
    → IfOk r (λ f. All (λ t. IsTrue (are_below (length letters) t.1)) f)
denoted-known p ls ts (Ok f) d = each-all (length ls) f (knows p ls Sum 64 ts f d)
denoted-known p ls ts (Err e) d = tt
