-- Monomials by numbers.
use Rattle.std.proofs.Common.{◌≡◌, ℕ, zero, suc, ◌+◌, ◌<◌, ◌≤◌, Bool, true, false, List, [], ◌∷◌, ◌++◌, length, get_or, refl, sym, ap, ◌∙◌, subst, arith, inl, inr, append_assoc, All, map}
use Rattle.std.specs.Prelude.{◌&&◌}
use Rattle.std.proofs.Math.ListN.{get_or-append}
use Rattle.std.proofs.Math.Seq.{get_or-append_seam}
use Rattle.std.proofs.lemmas.List.{length-append, append-nil}
use Rattle.std.proofs.lemmas.Bool.{cases_Bool, cases_eq, ltb-true, false≢true}
use Rattle.alb_mono.proofs.Both.{and_left, and_right}
use Rattle.alb_mono.specs.Tree.{Tree, leaf, node}
use Rattle.alb_poly.specs.Instance.{fill}
use Rattle.alb_nodes.specs.contracts.node.NodePartialEq.TheImpl
use Rattle.alb_nodes.specs.declared.node.Node.{Node}
use Rattle.alb_nodes.specs.declared.node.Node.TheVariants.{Letter, Product}
use Rattle.std.specs.List.{list_any, IsDistinct}
use Rattle.std.specs.Bool.{Decides}
use Rattle.std.specs.Prelude.{slice_get, Some, ◌==◌, Result, Ok, Err, OnOk}
use Rattle.std.proofs.lemmas.Bool.{eqb-true, cases_lt}
use Rattle.std.proofs.lemmas.Bool.Decides.{Decides-eqb}
use Rattle.std.proofs.lemmas.Map.Made.{AllPairs-from_IsDistinct}
use Rattle.std.proofs.lemmas.Option.{get_or_from_slice_get}
use Rattle.indexmap.specs.IndexSet.{insert_key}
use Rattle.alb_nodes.specs.Nodes.{at, made, made_all, is_after, are_after, IsNumber, Extends, AreDifferent}

-- ---- more monomials

pub at-append : (ts more : List Tree) (k : ℕ) → k < length ts → at (ts ++ more) k ≡ at ts k
at-append ts more k l = get_or-append ts more (leaf 0) k l

pub extends-itself : (ts : List Tree) → Extends ts ts
extends-itself ts = record { more = []; is = sym (append-nil ts) }

pub extends-all : (a b c : List Tree) → Extends a b → Extends b c → Extends a c
extends-all a b c h k = record { more = h.more ++ k.more; is = k.is ∙ ap (λ ts. ts ++ k.more) h.is ∙ append_assoc a h.more k.more }

pub extends-at : (a b : List Tree) (k : ℕ) → Extends a b → k < length a → at b k ≡ at a k
extends-at a b k h l = ap (λ ts. at ts k) h.is ∙ at-append a h.more k l

pub extends-length : (a b : List Tree) → Extends a b → length a ≤ length b
extends-length a b h = omega (arith, ap length h.is, length-append a h.more)

-- a node whose factors are there makes the same monomial later
pub made-later : (a b : List Tree) (n : Node) → Extends a b → is_after (length a) n ≡ true → made b n ≡ made a n
made-later a b (Letter g) h l = refl
made-later a b (Product x y) h l =
    let e : at b x ≡ at a x = extends-at a b x h (ltb-true x (length a) (and_left _ _ l)) in
    let f : at b y ≡ at a y = extends-at a b y h (ltb-true y (length a) (and_right _ _ l)) in
    λ i. node (e i) (f i)

-- ---- the monomials of nodes

pub all-extends : (ts : List Tree) (ns : List Node) → Extends ts (made_all ts ns)
all-extends ts [] = extends-itself ts
all-extends ts (n ∷ ns) = extends-all ts (ts ++ made ts n ∷ []) _ (record { more = made ts n ∷ []; is = refl }) (all-extends (ts ++ made ts n ∷ []) ns)

pub length-all : (ts : List Tree) (ns : List Node) → length (made_all ts ns) ≡ length ts + length ns
length-all ts [] = omega arith
length-all ts (n ∷ ns) = omega (arith, length-all (ts ++ made ts n ∷ []) ns, length-append ts (made ts n ∷ []))

pub all-push : (ts : List Tree) (ns : List Node) (n : Node) → made_all ts (ns ++ n ∷ []) ≡ made_all ts ns ++ made (made_all ts ns) n ∷ []
all-push ts [] n = refl
all-push ts (m ∷ ns) n = all-push (ts ++ made ts m ∷ []) ns n

-- a node after others comes after its factors
after-push : (k : ℕ) (ns : List Node) (n : Node) → are_after k ns ≡ true → is_after (k + length ns) n ≡ true → are_after k (ns ++ n ∷ []) ≡ true
after-push k [] n h l = (let e : k + 0 ≡ k = omega arith in let first : is_after k n ≡ true = subst (λ j. is_after j n ≡ true) e l in rw first refl)
after-push k (m ∷ ns) n h l =
    let e : k + length (m ∷ ns) ≡ suc k + length ns = omega arith in
    let first : is_after k m ≡ true = and_left _ _ h in
    rw first (after-push (suc k) ns n (and_right _ _ h) (subst (λ j. is_after j n ≡ true) e l))

pub after-one-more : (ns : List Node) (n : Node) → are_after 0 ns ≡ true → is_after (length (made_all [] ns)) n ≡ true → are_after 0 (ns ++ n ∷ []) ≡ true
after-one-more ns n h l =
    let e : length (made_all [] ns) ≡ 0 + length ns = length-all [] ns in
    after-push 0 ns n h (subst (λ j. is_after j n ≡ true) e l)

-- the monomial of a number is made by its node, and the node's factors come before it
pub all-at : (ts : List Tree) (ns : List Node) (k : ℕ) (d : Node) → are_after (length ts) ns ≡ true → k < length ns → at (made_all ts ns) (length ts + k) ≡ made (made_all ts ns) (get_or ns k d)
all-at ts [] k d h l = absurd (omega arith)
all-at ts (n ∷ ns) zero d h l =
    let more : List Tree = ts ++ made ts n ∷ [] in
    let e : length ts + 0 ≡ length ts = omega arith in
    let long : length ts < length more = omega (arith, length-append ts (made ts n ∷ [])) in
    let ext : Extends ts (made_all more ns) = extends-all ts more _ (record { more = made ts n ∷ []; is = refl }) (all-extends more ns) in
    ap (at (made_all more ns)) e
    ∙ extends-at more (made_all more ns) (length ts) (all-extends more ns) long
    ∙ get_or-append_seam ts (made ts n) [] (leaf 0)
    ∙ sym (made-later ts (made_all more ns) n ext (and_left _ _ h))
all-at ts (n ∷ ns) (suc k) d h l =
    let more : List Tree = ts ++ made ts n ∷ [] in
    let long : length more ≡ suc (length ts) = omega (arith, length-append ts (made ts n ∷ [])) in
    let e : length ts + suc k ≡ length more + k = omega (arith, long) in
    ap (at (made_all more ns)) e ∙ all-at more ns k d (subst (λ j. are_after j ns ≡ true) (sym long) (and_right _ _ h)) (omega arith)

pub node-at : (ns : List Node) (k : ℕ) (d : Node) → are_after 0 ns ≡ true → k < length ns → at (made_all [] ns) k ≡ made (made_all [] ns) (get_or ns k d)
node-at ns k d h l = (let e : 0 + k ≡ k = omega arith in ap (at (made_all [] ns)) (sym e) ∙ all-at [] ns k d h l)

pub after-at : (j : ℕ) (ns : List Node) (k : ℕ) (d : Node) → are_after j ns ≡ true → k < length ns → is_after (j + k) (get_or ns k d) ≡ true
after-at j [] k d h l = absurd (omega arith)
after-at j (n ∷ ns) zero d h l = (let e : j ≡ j + 0 = omega arith in subst (λ i. is_after i n ≡ true) e (and_left _ _ h))
after-at j (n ∷ ns) (suc k) d h l =
    let e : suc j + k ≡ j + suc k = omega arith in
    subst (λ i. is_after i (get_or ns k d) ≡ true) e (after-at (suc j) ns k d (and_right _ _ h) (omega arith))

pub after-zero : (ns : List Node) (k : ℕ) (d : Node) → are_after 0 ns ≡ true → k < length ns → is_after k (get_or ns k d) ≡ true
after-zero ns k d h l = (let e : 0 + k ≡ k = omega arith in subst (λ i. is_after i (get_or ns k d) ≡ true) e (after-at 0 ns k d h l))

-- ---- one number for each monomial

left_of : Tree → Tree
left_of (leaf g) = leaf g
left_of (node l r) = l

right_of : Tree → Tree
right_of (leaf g) = leaf g
right_of (node l r) = r

letter_of : Tree → ℕ
letter_of (leaf g) = g
letter_of (node l r) = 0

is_leaf : Tree → Bool
is_leaf (leaf g) = true
is_leaf (node l r) = false

-- nodes that make one monomial are one, where their factors are
made-tells : (ts : List Tree) (m n : Node) (i j : ℕ) → is_after i m ≡ true → is_after j n ≡ true
    → ((a b : ℕ) → a < i → b < j → at ts a ≡ at ts b → a ≡ b) → made ts m ≡ made ts n → m ≡ n
unfolding letter_of is_leaf left_of right_of
made-tells ts (Letter g) (Letter h) i j p q f e = ap Letter (ap letter_of e)
made-tells ts (Letter g) (Product c d) i j p q f e = absurd (false≢true (sym (ap is_leaf e)))
made-tells ts (Product a b) (Letter h) i j p q f e = absurd (false≢true (ap is_leaf e))
made-tells ts (Product a b) (Product c d) i j p q f e =
    let x : a ≡ c = f a c (ltb-true a i (and_left _ _ p)) (ltb-true c j (and_left _ _ q)) (ap left_of e) in
    let y : b ≡ d = f b d (ltb-true b i (and_right _ _ p)) (ltb-true d j (and_right _ _ q)) (ap right_of e) in
    λ k. Product (x k) (y k)

-- `f` is above `i`
different-below : (ns : List Node) (d : Node) → are_after 0 ns ≡ true
    → ((i j : ℕ) → i < length ns → j < length ns → get_or ns i d ≡ get_or ns j d → i ≡ j)
    → (f i j : ℕ) → i < f → i < length ns → j < length ns → at (made_all [] ns) i ≡ at (made_all [] ns) j → i ≡ j
different-below ns d h unique zero i j low li lj e = absurd (omega arith)
different-below ns d h unique (suc f) i j low li lj e =
    unique i j li lj (made-tells (made_all [] ns) (get_or ns i d) (get_or ns j d) i j (after-zero ns i d h li) (after-zero ns j d h lj)
    (λ a b la lb same. different-below ns d h unique f a b (omega arith) (omega arith) (omega arith) same)
    (sym (node-at ns i d h li) ∙ e ∙ node-at ns j d h lj))

pub all-different : (ns : List Node) (d : Node) → are_after 0 ns ≡ true
    → ((i j : ℕ) → i < length ns → j < length ns → get_or ns i d ≡ get_or ns j d → i ≡ j) → AreDifferent (made_all [] ns)
all-different ns d h unique i j li lj e =
    different-below ns d h unique (suc i) i j (omega arith) (omega (arith, li, length-all [] ns)) (omega (arith, lj, length-all [] ns)) e

-- ---- the test of nodes

-- it tells nodes apart
pub record TellsNodes (eq : Node → Node → Bool) : Type 0 where
  pub letters : (g h : ℕ) → eq (Letter g) (Letter h) ≡ (g == h)
  pub mixed : (g a b : ℕ) → eq (Letter g) (Product a b) ≡ false
  pub other : (g a b : ℕ) → eq (Product a b) (Letter g) ≡ false
  pub products : (a b c d : ℕ) → eq (Product a b) (Product c d) ≡ (a == c && b == d)

-- the test of the code
abbrev pub same_node : Node → Node → Bool
same_node = (Rattle.alb_nodes.specs.contracts.node.NodePartialEq.TheImpl.ghosts).eq

pub same_node-tells : TellsNodes same_node
same_node-tells = record { letters = λ g h. refl; mixed = λ g a b. refl; other = λ g a b. refl; products = λ a b c d. refl }

tells : (eq : Node → Node → Bool) → TellsNodes eq → (m n : Node) → eq m n ≡ true → m ≡ n
tells eq t (Letter g) (Letter h) e = ap Letter (eqb-true g h (sym (t.letters g h) ∙ e))
tells eq t (Letter g) (Product a b) e = absurd (false≢true (sym (t.mixed g a b) ∙ e))
tells eq t (Product a b) (Letter g) e = absurd (false≢true (sym (t.other g a b) ∙ e))
tells eq t (Product a b) (Product c d) e =
    let both : (a == c && b == d) ≡ true = sym (t.products a b c d) ∙ e in
    let x : a ≡ c = eqb-true a c (and_left _ _ both) in
    let y : b ≡ d = eqb-true b d (and_right _ _ both) in
    λ k. Product (x k) (y k)

itself : (eq : Node → Node → Bool) → TellsNodes eq → (n : Node) → eq n n ≡ true
itself eq t (Letter g) = t.letters g g ∙ (Decides-eqb g g).1 refl
itself eq t (Product a b) =
    let x : (a == a) ≡ true = (Decides-eqb a a).1 refl in
    let y : (b == b) ≡ true = (Decides-eqb b b).1 refl in
    t.products a b a b ∙ rw (x, y) refl

decides : (eq : Node → Node → Bool) → TellsNodes eq → (m n : Node) → Decides (eq m n) (m ≡ n)
decides eq t m n = (tells eq t m n, λ e. subst (λ x. eq m x ≡ true) e (itself eq t m))

-- nodes that a set has are different
pub set-different : (eq : Node → Node → Bool) → TellsNodes eq → (ns : List Node) → IsDistinct eq ns → are_after 0 ns ≡ true → AreDifferent (made_all [] ns)
set-different eq t ns h after =
    let pairs = AllPairs-from_IsDistinct (decides eq t) ns h in
    all-different ns (Letter 0) after (λ i j li lj e.
    elim (cases_lt i j) [
      | inl l ↦ absurd (pairs i j (Letter 0) l lj e)
      | inr l ↦ elim (cases_eq i j) [
        | inl same ↦ same
        | inr ne ↦ absurd (pairs j i (Letter 0) (omega arith) li (sym e))
      ]
    ])

-- a node is put into the set: the earlier numbers stay
pub put-extends : (eq : Node → Node → Bool) (ns new : List Node) (n : Node) → new ≡ insert_key eq ns n → Extends (made_all [] ns) (made_all [] new)
put-extends eq ns new n e = elim (cases_Bool (list_any (eq n) ns)) [
  | inl y ↦ (let q : new ≡ ns = rw y at e in subst (λ xs. Extends (made_all [] ns) (made_all [] xs)) (sym q) (extends-itself (made_all [] ns)))
  | inr y ↦ (let q : new ≡ ns ++ n ∷ [] = rw y at e in
      subst (λ xs. Extends (made_all [] ns) (made_all [] xs)) (sym q) (record { more = made (made_all [] ns) n ∷ []; is = all-push [] ns n }))
]

pub put-after : (eq : Node → Node → Bool) (ns new : List Node) (n : Node) → new ≡ insert_key eq ns n → are_after 0 ns ≡ true → is_after (length (made_all [] ns)) n ≡ true → are_after 0 new ≡ true
put-after eq ns new n e h l = elim (cases_Bool (list_any (eq n) ns)) [
  | inl y ↦ (let q : new ≡ ns = rw y at e in subst (λ xs. are_after 0 xs ≡ true) (sym q) h)
  | inr y ↦ (let q : new ≡ ns ++ n ∷ [] = rw y at e in subst (λ xs. are_after 0 xs ≡ true) (sym q) (after-one-more ns n h l))
]

-- and the place of the node is the number of what it makes
pub put-number : (eq : Node → Node → Bool) → TellsNodes eq → (ns new : List Node) (n k : Node) (i : ℕ) → new ≡ insert_key eq ns n → are_after 0 ns ≡ true
    → is_after (length (made_all [] ns)) n ≡ true → i < length new → slice_get new i ≡ Some k → eq n k ≡ true → IsNumber (made_all [] new) i (made (made_all [] ns) n)
put-number eq t ns new n k i e h l b g s =
    let same : get_or new i n ≡ n = get_or_from_slice_get new i k n g ∙ sym (tells eq t n k s) in
    record {
      within = omega (arith, length-all [] new);
      is = node-at new i n (put-after eq ns new n e h l) b ∙ ap (made (made_all [] new)) same ∙ made-later (made_all [] ns) (made_all [] new) n (put-extends eq ns new n e) l;
    }

-- ---- what calls give

pub number-later : (a b : List Tree) (k : ℕ) (m : Tree) → IsNumber a k m → Extends a b → IsNumber b k m
number-later a b k m h e = record { within = omega (arith, h.within, extends-length a b e); is = extends-at a b k e h.within ∙ h.is }

pub map-later : (a b : List Tree) (ks : List ℕ) → Extends a b → All (λ k. k < length a) ks → map (at b) ks ≡ map (at a) ks
map-later a b [] e h = refl
map-later a b (k ∷ ks) e h =
    let first : at b k ≡ at a k = extends-at a b k e (h 0 k (omega arith)) in
    let others : map (at b) ks ≡ map (at a) ks = map-later a b ks e (λ i d l. h (suc i) d (omega arith)) in
    λ j. first j ∷ others j

-- a product of which both factors have numbers
pub both-numbers : (a b : List Tree) (x y : ℕ) (l r : Tree) → IsNumber a x l → Extends a b → IsNumber b y r → node (at b x) (at b y) ≡ node l r
both-numbers a b x y l r h e k =
    let first : at b x ≡ l = extends-at a b x e h.within ∙ h.is in
    let second : at b y ≡ r = k.is in
    λ j. node (first j) (second j)

pub filled-both : (a b c : List Tree) (ks : List ℕ) (x y : ℕ) (l r : Tree) → Extends a b → Extends b c → All (λ k. k < length a) ks
    → IsNumber b x (fill (map (at a) ks) l) → IsNumber c y (fill (map (at b) ks) r) → node (at c x) (at c y) ≡ fill (map (at a) ks) (node l r)
filled-both a b c ks x y l r e f h k q =
    both-numbers b c x y (fill (map (at a) ks) l) (fill (map (at a) ks) r) k f (subst (λ ms. IsNumber c y (fill ms r)) (map-later a b ks e h) q)

pub OnOk-weaker : {X E : Type 0} (r : Result X E) (P Q : Type 0) → (P → Q) → OnOk r P → OnOk r Q
OnOk-weaker (Ok x) P Q f h = f h
OnOk-weaker (Err e) P Q f h = tt
