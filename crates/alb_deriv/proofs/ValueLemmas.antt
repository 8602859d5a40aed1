-- The polynomials of single lines, by the numbers of monomials.
use Rattle.std.proofs.Common.{◌≡◌, ℕ, suc, ◌+◌, ◌*◌, ◌<◌, ◌≤◌, Bool, IsTrue, List, [], ◌∷◌, ◌++◌, length, map, take, get_or, refl, sym, ap, ◌∙◌, subst, arith, All, Some, None, Option, sum}
use Rattle.std.specs.Prelude.{if◌then◌else◌, Result, Ok, Err, IfOk}
use Rattle.std.specs.List.{list_any}
use Rattle.std.proofs.lemmas.List.{map-append, length-map, length-append, get_or-map}
use Rattle.std.proofs.Math.Seq.{get_or-append_seam}
use Rattle.std.proofs.lemmas.List.Elements.{All-nil, All-cons}
use Rattle.gf_field.proofs.Mod.{same, ◌⊙◌}
use Rattle.gf_sums.specs.Sums.{scale, reindex}
use Rattle.gf_sums.proofs.Alike.{Alike, joined, turned, append-alike, scale-alike, weigh-reindex}
use Rattle.alb_mono.specs.Listing.{Each}
use Rattle.alb_mono.specs.Tree.{Tree, AreBelow, degree, are_below, tree}
use Rattle.alb_mono.specs.declared.mono.Mono.{Mono}
use Rattle.alb_mono.specs.declared.side.Side.{Side}
use Rattle.alb_poly.specs.Poly.{Poly, AreResidues, IsSamePoly, normal}
use Rattle.alb_poly.specs.Consequence.{beside}
use Rattle.alb_poly.specs.Instance.{Form, IsAtMost, fill}
use Rattle.alb_poly.specs.Terms.{multiples, terms}
use Rattle.alb_poly.specs.declared.term.Term.{Term}
use Rattle.alb_poly.proofs.AtMost.{degree-at_most}
use Rattle.alb_poly.proofs.Types.{test_from_below}
use Rattle.alb_poly.proofs.Consequence.{poly_alike, itself'}
use Rattle.alb_poly.proofs.Multilinear.{each-from, all_from_each, each_from_all}
use Rattle.alb_poly.proofs.NormalLemmas.{normal-alike}
use Rattle.alb_nodes.specs.Nodes.{at, IsNumber, Extends}
use Rattle.alb_nodes.proofs.NodeLemmas.{extends-at, extends-length}
use Rattle.alb_deriv.specs.Derivation.{Times, Sum, DerivationFault, OutOfType, fault, line_value, earlier}
use Rattle.alb_deriv.specs.Answers.{IsPolyAtMost, IsValue}
use Rattle.alb_deriv.specs.Numbered.{read, said, said_by, is_past, AreAlike, AreApart, IsBeside, IsCoefficient, IsFit, IsNumbered}
use Rattle.alb_deriv.specs.declared.values.LineFault.{LineFault}
use Rattle.alb_deriv.specs.declared.values.LineFault.TheVariants as faults
use Rattle.alb_deriv.proofs.Fits.{passes}
use Rattle.alb_deriv.proofs.LineLemmas.{IsPlace, times-judged, sum-more, earlier-value, normal-beside, beside-fit, below-more, multiples-alike}
use Rattle.alb_deriv.proofs.NumberedLemmas.{read-later, passes-said, beside-apart, coefs-reindex}

-- ---- what is read, and what stands

pub fit-read : (target : List ℕ) (ts : List Tree) (f : List (ℕ × ℕ)) → Each (λ t. IsFit target ts t.1) f → IsPolyAtMost target (read ts f)
fit-read target ts [] h = tt
fit-read target ts (t ∷ f) h = (h.0.1, fit-read target ts f h.1)

pub fit-from : (target : List ℕ) (ts : List Tree) (f : List (ℕ × ℕ)) → All (λ t. t.1 < length ts) f → IsPolyAtMost target (read ts f) → Each (λ t. IsFit target ts t.1) f
fit-from target ts [] w h = tt
fit-from target ts (t ∷ f) w h =
    let first : t.1 < length ts = w 0 t (omega arith) in
    ((first, h.0), fit-from target ts f (λ k d l. w (suc k) d (omega arith)) h.1)

pub coefs-from : (p : ℕ) (ts : List Tree) (f : List (ℕ × ℕ)) → Each (IsCoefficient p) (read ts f) → Each (IsCoefficient p) f
coefs-from p ts [] h = tt
coefs-from p ts (t ∷ f) h = (h.0, coefs-from p ts f h.1)

pub residues-from : (p : ℕ) (ts : List Tree) (f : List (ℕ × ℕ)) → AreResidues p (read ts f) → All (λ t. t.0 < p) f
residues-from p ts [] r = All-nil _
residues-from p ts (t ∷ f) r = All-cons (λ t. t.0 < p) t f (r 0 (t.0, at ts t.1) (omega arith)) (residues-from p ts f (λ k d l. r (suc k) d (omega arith)))

pub numbered-residues : (p : ℕ) (target : List ℕ) (ts : List Tree) (f : List (ℕ × ℕ)) → IsNumbered p target ts f → All (λ t. t.0 < p) f
numbered-residues p target ts f h = all_from_each (λ t. t.0 < p) f (each-from (IsCoefficient p) (λ t. t.0 < p) f (λ t q. q.1) h.coefs)

pub numbered-within : (p : ℕ) (target : List ℕ) (ts : List Tree) (f : List (ℕ × ℕ)) → IsNumbered p target ts f → All (λ t. t.1 < length ts) f
numbered-within p target ts f h = all_from_each (λ t. t.1 < length ts) f (each-from (λ t. IsFit target ts t.1) (λ t. t.1 < length ts) f (λ t q. q.0) h.fit)

pub numbered-small : (p : ℕ) (target : List ℕ) (ts : List Tree) (f : List (ℕ × ℕ)) → sum target ≤ 12 → IsNumbered p target ts f → All (λ t. degree (at ts t.1) ≤ 64) f
numbered-small p target ts f low h =
    all_from_each (λ t. degree (at ts t.1) ≤ 64) f
    (each-from (λ t. IsFit target ts t.1) (λ t. degree (at ts t.1) ≤ 64) f (λ t q. omega (arith, degree-at_most target (at ts t.1) q.1)) h.fit)

pub numbered-letters : (p : ℕ) (target : List ℕ) (ts : List Tree) (f : List (ℕ × ℕ)) → length target ≤ 26 → IsNumbered p target ts f → All (λ t. IsTrue (are_below 26 (at ts t.1))) f
numbered-letters p target ts f long h =
    all_from_each (λ t. IsTrue (are_below 26 (at ts t.1))) f
    (each-from (λ t. IsFit target ts t.1) (λ t. IsTrue (are_below 26 (at ts t.1))) f
    (λ t q. below-more (length target) 26 (at ts t.1) long (test_from_below (length target) (at ts t.1) q.1.below)) h.fit)

-- ---- more numbers

fit-later : (target : List ℕ) (a b : List Tree) (f : List (ℕ × ℕ)) → Extends a b → Each (λ t. IsFit target a t.1) f → Each (λ t. IsFit target b t.1) f
fit-later target a b [] e h = tt
fit-later target a b (t ∷ f) e h =
    let here : IsAtMost target (at b t.1) = subst (IsAtMost target) (sym (extends-at a b t.1 e h.0.0)) h.0.1 in
    let l : t.1 < length b = omega (arith, h.0.0, extends-length a b e) in
    ((l, here), fit-later target a b f e h.1)

pub read-same : (p : ℕ) (target : List ℕ) (a b : List Tree) (f : List (ℕ × ℕ)) → Extends a b → IsNumbered p target a f → read b f ≡ read a f
read-same p target a b f e h = read-later a b f e (each-from (λ t. IsFit target a t.1) (λ t. t.1 < length a) f (λ t q. q.0) h.fit)

pub numbered-later : (p : ℕ) (target : List ℕ) (a b : List Tree) (f : List (ℕ × ℕ)) → Extends a b → IsNumbered p target a f → IsNumbered p target b f
numbered-later p target a b f e h = record {
  fit = fit-later target a b f e h.fit;
  coefs = h.coefs;
  apart = subst AreApart (sym (read-same p target a b f e h)) h.apart;
}

pub all-later : (p : ℕ) (target : List ℕ) (a b : List Tree) (vs : List (List (ℕ × ℕ))) → Extends a b → All (λ f. IsNumbered p target a f) vs → All (λ f. IsNumbered p target b f) vs
all-later p target a b vs e h = λ k d l. numbered-later p target a b (get_or vs k d) e (h k d l)

pub said-later : (p : ℕ) (target : List ℕ) (a b : List Tree) (vs : List (List (ℕ × ℕ))) → Extends a b → All (λ f. IsNumbered p target a f) vs → map (said p b) vs ≡ map (said p a) vs
said-later p target a b [] e h = refl
said-later p target a b (f ∷ vs) e h =
    let first : said p b f ≡ said p a f = ap (normal p) (read-same p target a b f e (h 0 f (omega arith))) in
    let others : map (said p b) vs ≡ map (said p a) vs = said-later p target a b vs e (λ k d l. h (suc k) d (omega arith)) in
    λ j. first j ∷ others j

-- what holds of all holds of the last
pub all-last : {X : Type 0} (P : X → Type 0) (xs front : List X) (v : X) → All P xs → xs ≡ front ++ v ∷ [] → P v
all-last P xs front v h e =
    let whole : All P (front ++ v ∷ []) = subst (All P) e h in
    subst P (get_or-append_seam front v [] v) (whole (length front) v (omega (arith, length-append front (v ∷ []))))

-- ---- beside a monomial

answer : (p : ℕ) (target : List ℕ) (ts : List Tree) (g v : Poly) (found : Option DerivationFault) (r : Result (List (ℕ × ℕ)) LineFault) →
    found ≡ (if is_past target g then Some OutOfType else None) → normal p g ≡ v → IsBeside target ts g r → IsValue (said_by p ts r) found v
answer p target ts g v found (Ok f) h e b = (h ∙ rw (b.fits) refl, ap (normal p) b.is ∙ e)
answer p target ts g v found (Err faults.OutOfType) h e b = h ∙ rw b refl
answer p target ts g v found (Err faults.NoMemory) h e b = tt
answer p target ts g v found (Err faults.BadIdentity) h e b = absurd b
answer p target ts g v found (Err faults.WrongCount) h e b = absurd b
answer p target ts g v found (Err faults.LaterLine) h e b = absurd b

pub beside-value : (p : ℕ) (pos : 0 < p) (target : List ℕ) (fs : List Form) (a b : List Tree) (gs : List Poly) (values : List (List (ℕ × ℕ))) (k i : ℕ) (f : List (ℕ × ℕ)) (s : Side × Tree)
    (r : Result (List (ℕ × ℕ)) LineFault) →
    map (said p a) values ≡ map (normal p) gs → IsPlace (length values) k i → f ≡ get_or values i f → IsNumbered p target a f → IsBeside target b (reindex (beside s) (read a f)) r →
    IsValue (said_by p b r) (fault p target fs gs (Times k s)) (normal p (line_value fs gs (Times k s)))
beside-value p pos target fs a b gs values k i f s r e q h n is =
    let g : Poly = reindex (beside s) (read a f) in
    let vs : List Poly = map (said p a) values in
    let place : IsPlace (length vs) k i = subst (λ n. IsPlace n k i) (sym (length-map values (said p a))) q in
    let here : said p a f ≡ get_or vs i (said p a f) = sym (get_or-map (said p a) values i f (said p a f) q.below ∙ ap (said p a) (sym h)) in
    let j = times-judged p pos target fs gs vs k i (said p a f) s e place here in
    let swap : reindex (beside s) (said p a f) ≡ normal p g = normal-beside p s (read a f) pos in
    let past : list_any (λ t. passes target t.1) (reindex (beside s) (said p a f)) ≡ is_past target g =
    ap (list_any (λ (t : ℕ × Tree). passes target t.1)) swap
    ∙ passes-said p target g pos (coefs-reindex p (beside s) (read a f) (coefs-reindex p (at a) f n.coefs)) (beside-apart s (read a f) n.apart) in
    answer p target b g (normal p (line_value fs gs (Times k s))) (fault p target fs gs (Times k s)) r
    (j.0 ∙ ap (λ (z : Bool). if z then Some OutOfType else None) past) (sym swap ∙ j.1) is

pub beside-numbered : (p : ℕ) (target : List ℕ) (a b : List Tree) (f : List (ℕ × ℕ)) (s : Side × Tree) (r : Result (List (ℕ × ℕ)) LineFault) →
    AreBelow (length target) s.1 → IsNumbered p target a f → IsBeside target b (reindex (beside s) (read a f)) r → IfOk r (λ h. IsNumbered p target b h)
beside-numbered p target a b f s (Ok h) below n is = record {
  fit = fit-from target b h is.within (subst (IsPolyAtMost target) (sym is.is) (beside-fit target s (read a f) below (fit-read target a f n.fit) is.fits));
  coefs = coefs-from p b h (subst (Each (IsCoefficient p)) (sym is.is) (coefs-reindex p (beside s) (read a f) (coefs-reindex p (at a) f n.coefs)));
  apart = subst AreApart (sym is.is) (beside-apart s (read a f) n.apart);
}
beside-numbered p target a b f s (Err x) below n is = tt

-- the same with the monomial's number
pub beside-same : (a b : List Tree) (f : List (ℕ × ℕ)) (n : ℕ) (m : Tree) (side : Side) → Extends a b → All (λ t. t.1 < length a) f → IsNumber b n m →
    reindex (beside (side, at b n)) (read b f) ≡ reindex (beside (side, m)) (read a f)
beside-same a b f n m side e h k = λ j. reindex (beside (side, k.is j)) (read-later a b f e (each_from_all (λ t. t.1 < length a) f h) j)

-- ---- instances

pub instance-read : (a b : List Tree) (ns ks : List ℕ) (ms : List Mono) (ts : List Term) (f : Poly) (out : List (ℕ × ℕ)) →
    map (at a) ks ≡ map tree ms → ns ≡ ks → terms ts ≡ f → read b out ≡ reindex (fill (map (at a) ns)) (terms ts) → read b out ≡ reindex (fill (map tree ms)) f
instance-read a b ns ks ms ts f out h q e is = is ∙ (λ j. reindex (fill ((ap (map (at a)) q ∙ h) j)) (e j))

pub same-length : (a : List Tree) (ns ks : List ℕ) (ms : List Mono) → map (at a) ks ≡ map tree ms → ns ≡ ks → length ns ≡ length ms
same-length a ns ks ms h q = ap length q ∙ sym (length-map ks (at a)) ∙ ap length h ∙ length-map ms tree

-- ---- sums

read-scale : (ts : List Tree) (c : ℕ) (f : List (ℕ × ℕ)) → read ts (scale c f) ≡ scale c (read ts f)
read-scale ts c [] = refl
read-scale ts c (t ∷ f) = ap (λ (g : Poly). (c * t.0, at ts t.1) ∷ g) (read-scale ts c f)

read-sum : (ts : List Tree) (f : List (ℕ × ℕ)) (c : ℕ) (g : List (ℕ × ℕ)) → read ts (f ++ scale c g) ≡ read ts f ++ scale c (read ts g)
read-sum ts f c g = map-append (λ (t : ℕ × ℕ). (t.0, at ts t.1)) f (scale c g) ∙ ap (λ (h : Poly). read ts f ++ h) (read-scale ts c g)

pub read-alike : (p : ℕ) (ts : List Tree) (f g : List (ℕ × ℕ)) → AreAlike p f g → Alike p (read ts f) (read ts g)
read-alike p ts f g h = record { at = λ w. same (weigh-reindex w (at ts) f) ⊙ h (λ k. w (at ts k)) ⊙ same (sym (weigh-reindex w (at ts) g)) }

-- one more multiple of a line
pub sum-line : (p : ℕ) (pos : 0 < p) (target : List ℕ) (fs : List Form) (ts : List Tree) (gs : List Poly) (values : List (List (ℕ × ℕ))) (cs : List (ℕ × ℕ)) (i : ℕ) (c : ℕ × ℕ) (k : ℕ)
    (now more f : List (ℕ × ℕ)) →
    map (said p ts) values ≡ map (normal p) gs → IsPlace (length values) c.1 k → f ≡ get_or values k f → i < length cs → c ≡ get_or cs i c →
    IsSamePoly p (read ts now) (line_value fs gs (Sum (take i cs))) → AreAlike p more (now ++ scale c.0 f) → IsSamePoly p (read ts more) (line_value fs gs (Sum (take (i + 1) cs)))
sum-line p pos target fs ts gs values cs i c k now more f e q h l is v new =
    let vs : List Poly = map (said p ts) values in
    let place : IsPlace (length vs) c.1 k = subst (λ n. IsPlace n c.1 k) (sym (length-map values (said p ts))) q in
    let here : said p ts f ≡ get_or vs k (said p ts f) = sym (get_or-map (said p ts) values k f (said p ts f) q.below ∙ ap (said p ts) (sym h)) in
    let own : said p ts f ≡ normal p (earlier gs c.1) = earlier-value p gs vs c.1 k (said p ts f) e place here in
    let multiple : Alike p (multiples p c.0 (said p ts f)) (scale c.0 (read ts f)) = joined (multiples-alike p c.0 (said p ts f)) (scale-alike c.0 (normal-alike p (read ts f))) in
    let grown : Alike p (read ts more) (read ts now ++ multiples p c.0 (said p ts f)) =
    joined (read-alike p ts more (now ++ scale c.0 f) new)
    (joined (itself' _ _ (read-sum ts now c.0 f)) (append-alike (itself' (read ts now) (read ts now) refl) (turned multiple))) in
    sum-more p pos target fs gs cs i c (read ts now) (read ts more) (said p ts f) l is own v (poly_alike grown)
