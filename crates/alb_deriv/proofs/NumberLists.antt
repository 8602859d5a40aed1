-- Lists of numbers and of terms by numbers, while there come more numbers.
use Rattle.std.proofs.Common.{◌≡◌, ℕ, ◌+◌, ◌<◌, List, [], ◌∷◌, ◌++◌, length, map, take, get_or, sym, ap, ◌∙◌, arith, All}
use Rattle.std.proofs.lemmas.List.{take_more, map-append}
use Rattle.std.proofs.lemmas.List.Elements.{All-push, All-map}
use Rattle.gf_sums.specs.Sums.{reindex}
use Rattle.alb_mono.specs.Tree.{Tree, tree}
use Rattle.alb_mono.specs.declared.mono.Mono.{Mono}
use Rattle.alb_poly.proofs.Multilinear.{each_from_all}
use Rattle.alb_poly.specs.Poly.{Poly, AreResidues}
use Rattle.alb_poly.specs.Terms.{term, terms}
use Rattle.alb_poly.specs.declared.term.Term.{Term}
use Rattle.alb_nodes.specs.Nodes.{at, IsNumber, Extends}
use Rattle.alb_nodes.proofs.NodeLemmas.{extends-length, map-later}
use Rattle.alb_deriv.specs.Numbered.{read}
use Rattle.alb_deriv.proofs.NumberedLemmas.{read-later}

-- ---- numbers

pub numbers-later : (a b : List Tree) (ks : List ℕ) → Extends a b → All (λ k. k < length a) ks → All (λ k. k < length b) ks
numbers-later a b ks e h = λ i d l. (let q : get_or ks i d < length a = h i d l in omega (arith, q, extends-length a b e))

pub numbers-push : (a b : List Tree) (ks : List ℕ) (k : ℕ) (m : Tree) → Extends a b → All (λ k. k < length a) ks → IsNumber b k m → All (λ k. k < length b) (ks ++ k ∷ [])
numbers-push a b ks k m e h n = All-push (λ k. k < length b) ks k (numbers-later a b ks e h) n.within

pub trees-push : (a b : List Tree) (ks : List ℕ) (k : ℕ) (m : Tree) (ms : List Tree) → Extends a b → All (λ k. k < length a) ks → IsNumber b k m → map (at a) ks ≡ ms →
    map (at b) (ks ++ k ∷ []) ≡ ms ++ m ∷ []
trees-push a b ks k m ms e h n q = map-append (at b) ks (k ∷ []) ∙ (λ j. (map-later a b ks e h ∙ q) j ++ n.is j ∷ [])

pub trees-more : (ms : List Mono) (i : ℕ) (m : Mono) → i < length ms → m ≡ get_or ms i m → map tree (take (i + 1) ms) ≡ map tree (take i ms) ++ tree m ∷ []
trees-more ms i m l e = ap (map tree) (take_more ms i m l) ∙ map-append tree (take i ms) (get_or ms i m ∷ []) ∙ ap (λ x. map tree (take i ms) ++ tree x ∷ []) (sym e)

-- ---- terms by numbers

pub within-later : (a b : List Tree) (f : List (ℕ × ℕ)) → Extends a b → All (λ t. t.1 < length a) f → All (λ t. t.1 < length b) f
within-later a b f e h = λ i d l. (let q : (get_or f i d).1 < length a = h i d l in omega (arith, q, extends-length a b e))

pub within-push : (a b : List Tree) (f : List (ℕ × ℕ)) (c k : ℕ) → Extends a b → All (λ t. t.1 < length a) f → k < length b → All (λ t. t.1 < length b) (f ++ (c, k) ∷ [])
within-push a b f c k e h n = All-push (λ t. t.1 < length b) f (c, k) (within-later a b f e h) n

pub read-push : (a b : List Tree) (f : List (ℕ × ℕ)) (c k : ℕ) (m : Tree) (g : Poly) → Extends a b → All (λ t. t.1 < length a) f → at b k ≡ m → read a f ≡ g →
    read b (f ++ (c, k) ∷ []) ≡ g ++ (c, m) ∷ []
read-push a b f c k m g e h n q =
    map-append (λ (t : ℕ × ℕ). (t.0, at b t.1)) f ((c, k) ∷ [])
    ∙ (λ j. (read-later a b f e (each_from_all (λ t. t.1 < length a) f h) ∙ q) j ++ (c, n j) ∷ [])

pub read-residues : (p : ℕ) (ts : List Tree) (f : List (ℕ × ℕ)) → All (λ t. t.0 < p) f → AreResidues p (read ts f)
read-residues p ts f r = All-map (λ (t : ℕ × Tree). t.0 < p) (λ (t : ℕ × ℕ). (t.0, at ts t.1)) f r

-- one more term of a list
pub terms-more : (h : Tree → Tree) (ts : List Term) (i : ℕ) (t : Term) → i < length ts → t ≡ get_or ts i t →
    reindex h (terms (take (i + 1) ts)) ≡ reindex h (terms (take i ts)) ++ (t.coef, h (tree t.mono)) ∷ []
terms-more h ts i t l e =
    ap (λ xs. reindex h (terms xs)) (take_more ts i t l)
    ∙ ap (reindex h) (map-append term (take i ts) (get_or ts i t ∷ []))
    ∙ map-append (λ (u : ℕ × Tree). (u.0, h u.1)) (terms (take i ts)) (term (get_or ts i t) ∷ [])
    ∙ ap (λ x. reindex h (terms (take i ts)) ++ (x.coef, h (tree x.mono)) ∷ []) (sym e)

pub reads-more : (h : Tree → Tree) (a : List Tree) (f : List (ℕ × ℕ)) (i : ℕ) (t : ℕ × ℕ) → i < length f → t ≡ get_or f i t →
    reindex h (read a (take (i + 1) f)) ≡ reindex h (read a (take i f)) ++ (t.0, h (at a t.1)) ∷ []
reads-more h a f i t l e =
    ap (λ xs. reindex h (read a xs)) (take_more f i t l)
    ∙ ap (reindex h) (map-append (λ (u : ℕ × ℕ). (u.0, at a u.1)) (take i f) (get_or f i t ∷ []))
    ∙ map-append (λ (u : ℕ × Tree). (u.0, h u.1)) (read a (take i f)) (((get_or f i t).0, at a (get_or f i t).1) ∷ [])
    ∙ ap (λ (x : ℕ × ℕ). reindex h (read a (take i f)) ++ (x.0, h (at a x.1)) ∷ []) (sym e)
