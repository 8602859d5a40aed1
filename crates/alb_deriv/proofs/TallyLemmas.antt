-- Sums that are collected by the numbers of monomials.
use Rattle.std.proofs.Common.{◌≡◌, ℕ, zero, suc, ◌+◌, ◌*◌, ◌%◌, ◌<◌, true, false, not, List, [], ◌∷◌, ◌++◌, length, take, set, get_or, slice_get, Some, None, refl, sym, ap, ◌∙◌, subst, arith, inl, inr}
use Rattle.std.specs.Prelude.{if◌then◌else◌, ◌==◌}
use Rattle.std.specs.List.{list_any, IsDistinct, AllByRecursion}
use Rattle.std.proofs.lemmas.Bool.{cases_Bool, false≢true, eqb-true}
use Rattle.std.proofs.lemmas.Bool.Decides.{Decides-eqb, nat_tests}
use Rattle.std.proofs.lemmas.List.{map-append, take_more, append_assoc, length-take}
use Rattle.std.proofs.lemmas.List.Elements.{filter-append}
use Rattle.std.proofs.lemmas.Map.Keys.{IsDistinct-tail, IsDistinct-head}
use Rattle.indexmap.specs.IndexSet.{insert_key}
use Rattle.gf_field.specs.Modular.{IsSameMod}
use Rattle.gf_field.proofs.Mod.{same, ◌⊙◌, plus, times, of_mod}
use Rattle.gf_sums.specs.Sums.{weigh, scale}
use Rattle.gf_sums.proofs.Totals.{weigh-append}
use Rattle.alb_mono.specs.Listing.{Each}
use Rattle.alb_poly.proofs.Multilinear.{each-append}
use Rattle.alb_deriv.specs.Numbered.{AreAlike, AreApart, IsCoefficient, before}
use Rattle.alb_deriv.specs.Tally.{paired, nonzero}

-- ---- one more number

pub paired-push : (cs ks : List ℕ) (c k : ℕ) → length cs ≡ length ks → paired (cs ++ c ∷ []) (ks ++ k ∷ []) ≡ paired cs ks ++ (c, k) ∷ []
paired-push [] [] c k l = refl
paired-push [] (n ∷ ks) c k l = absurd (omega arith)
paired-push (d ∷ cs) [] c k l = absurd (omega arith)
paired-push (d ∷ cs) (n ∷ ks) c k l = ap (λ (f : List (ℕ × ℕ)). (d, n) ∷ f) (paired-push cs ks c k (omega arith))

pub key-new : (ks new : List ℕ) (x : ℕ) → new ≡ insert_key (λ a b. a == b) ks x → true ≡ not (list_any (λ k. x == k) ks) → new ≡ ks ++ x ∷ []
key-new ks new x e h = elim (cases_Bool (list_any (λ k. x == k) ks)) [
  | inl y ↦ absurd (let q : true ≡ not (list_any (λ k. x == k) ks) = h in false≢true (sym (rw y at q)))
  | inr y ↦ (let q : new ≡ (if list_any (λ k. x == k) ks then ks else ks ++ x ∷ []) = e in rw y at q)
]

pub key-known : (ks new : List ℕ) (x : ℕ) → new ≡ insert_key (λ a b. a == b) ks x → false ≡ not (list_any (λ k. x == k) ks) → new ≡ ks
key-known ks new x e h = elim (cases_Bool (list_any (λ k. x == k) ks)) [
  | inl y ↦ (let q : new ≡ (if list_any (λ k. x == k) ks then ks else ks ++ x ∷ []) = e in rw y at q)
  | inr y ↦ absurd (let q : false ≡ not (list_any (λ k. x == k) ks) = h in false≢true (rw y at q))
]

-- ---- a number that is there

pub stands-at : (ks : List ℕ) (i x k : ℕ) → slice_get ks i ≡ Some k → (x == k) ≡ true → get_or ks i x ≡ x
stands-at [] i x k h s = absurd (let e : None ≡ Some k = h in cc)
stands-at (y ∷ ks) zero x k h s = (let e : Some y ≡ Some k = h in let q : y ≡ k = cc in q ∙ sym (eqb-true x k s))
stands-at (y ∷ ks) (suc i) x k h s = stands-at ks i x k h s

pub set-weigh : (w : ℕ → ℕ) (p : ℕ) (cs ks : List ℕ) (i c m : ℕ) → length cs ≡ length ks → i < length cs → get_or ks i m ≡ m →
    IsSameMod p (weigh w (paired (set cs i ((get_or cs i 0 + c) % p)) ks)) (weigh w (paired cs ks) + c * w m)
set-weigh w p [] ks i c m l b e = absurd (omega arith)
set-weigh w p (d ∷ cs) [] i c m l b e = absurd (omega arith)
set-weigh w p (d ∷ cs) (n ∷ ks) zero c m l b e =
    plus (times (of_mod (d + c)) (same {a = w n} refl)) (same {a = weigh w (paired cs ks)} refl)
    ⊙ same (omega (arith, ap (λ z. c * w z) e))
set-weigh w p (d ∷ cs) (n ∷ ks) (suc i) c m l b e =
    plus (same {a = d * w n} refl) (set-weigh w p cs ks i c m (omega arith) (omega arith) e) ⊙ same (omega arith)

pub one-weigh : (w : ℕ → ℕ) (c m : ℕ) (f : List (ℕ × ℕ)) → weigh w (f ++ (c, m) ∷ []) ≡ weigh w f + c * w m
one-weigh w c m f = weigh-append w f ((c, m) ∷ []) ∙ omega arith

pub tally-new : (p : ℕ) (cs ks new grown : List ℕ) (x c : ℕ) → length cs ≡ length ks → grown ≡ cs ++ c ∷ [] → new ≡ insert_key (λ a b. a == b) ks x → true ≡ not (list_any (λ k. x == k) ks) →
    AreAlike p (paired grown new) (paired cs ks ++ (c, x) ∷ [])
tally-new p cs ks new grown x c l g e h = λ w. same (ap (weigh w) ((λ j. paired (g j) (key-new ks new x e h j)) ∙ paired-push cs ks c x l))

pub tally-known : (p : ℕ) (cs ks new : List ℕ) (x k i c v : ℕ) → length cs ≡ length ks → new ≡ insert_key (λ a b. a == b) ks x → false ≡ not (list_any (λ k. x == k) ks) →
    i < length cs → slice_get new i ≡ Some k → (x == k) ≡ true → v ≡ (get_or cs i 0 + c) % p → AreAlike p (paired (set cs i v) new) (paired cs ks ++ (c, x) ∷ [])
tally-known p cs ks new x k i c v l e h b g s q = λ w.
    let known : new ≡ ks = key-known ks new x e h in
    let at : get_or ks i x ≡ x = stands-at ks i x k (subst (λ xs. slice_get xs i ≡ Some k) known g) s in
    same (ap (λ (z : ℕ × List ℕ). weigh w (paired (set cs i z.0) z.1)) (λ j. (q j, known j)))
    ⊙ set-weigh w p cs ks i c x l b at
    ⊙ same (sym (one-weigh w c x (paired cs ks)))

-- ---- what holds of each number

pub new-each : (P : ℕ → Type 0) (ks new : List ℕ) (x : ℕ) → new ≡ insert_key (λ a b. a == b) ks x → Each P ks → P x → Each P new
new-each P ks new x e h here = elim (cases_Bool (list_any (λ k. x == k) ks)) [
  | inl y ↦ (let q : new ≡ ks = rw y at e in subst (Each P) (sym q) h)
  | inr y ↦ (let q : new ≡ ks ++ x ∷ [] = rw y at e in subst (Each P) (sym q) (each-append P ks (x ∷ []) h (here, tt)))
]

pub set-each : (P : ℕ → Type 0) (cs : List ℕ) (i v : ℕ) → Each P cs → P v → Each P (set cs i v)
set-each P [] i v h k = tt
set-each P (c ∷ cs) zero v h k = (k, h.1)
set-each P (c ∷ cs) (suc i) v h k = (h.0, set-each P cs i v h.1 k)

-- ---- a multiple of terms, one by one

scale-more : (c : ℕ) (ts : List (ℕ × ℕ)) (i : ℕ) (t : ℕ × ℕ) → i < length ts → t ≡ get_or ts i t → scale c (take (i + 1) ts) ≡ scale c (take i ts) ++ (c * t.0, t.1) ∷ []
scale-more c ts i t l e =
    ap (scale c) (take_more ts i t l)
    ∙ map-append (λ (s : ℕ × ℕ). (c * s.0, s.1)) (take i ts) (get_or ts i t ∷ [])
    ∙ ap (λ (u : ℕ × ℕ). scale c (take i ts) ++ (c * u.0, u.1) ∷ []) (sym e)

pub tally-more : (p c v : ℕ) (old now more : List (ℕ × ℕ)) (ts : List (ℕ × ℕ)) (i : ℕ) (t : ℕ × ℕ) → i < length ts → t ≡ get_or ts i t → v ≡ (c * t.0) % p →
    AreAlike p now (old ++ scale c (take i ts)) → AreAlike p more (now ++ (v, t.1) ∷ []) → AreAlike p more (old ++ scale c (take (i + 1) ts))
tally-more p c v old now more ts i t l e q h k = λ w.
    let is : old ++ scale c (take (i + 1) ts) ≡ (old ++ scale c (take i ts)) ++ (c * t.0, t.1) ∷ [] =
    ap (λ (f : List (ℕ × ℕ)). old ++ f) (scale-more c ts i t l e) ∙ sym (append_assoc old (scale c (take i ts)) ((c * t.0, t.1) ∷ [])) in
    k w ⊙ same (one-weigh w v t.1 now) ⊙ plus (h w) (times (same q ⊙ of_mod (c * t.0)) (same {a = w t.1} refl))
    ⊙ same (sym (ap (weigh w) is ∙ one-weigh w (c * t.0) t.1 (old ++ scale c (take i ts))))

-- ---- the terms that are not 0

one-kept : (c k : ℕ) → nonzero ((c, k) ∷ []) ≡ before c k
one-kept c k = elim (cases_Bool (c == 0)) [
  | inl e ↦ rw e refl
  | inr e ↦ rw e refl
]

pub nonzero-more : (cs ks : List ℕ) (i : ℕ) → length cs ≡ length ks → i < length cs →
    nonzero (paired (take (i + 1) cs) (take (i + 1) ks)) ≡ nonzero (paired (take i cs) (take i ks)) ++ before (get_or cs i 0) (get_or ks i 0)
nonzero-more cs ks i l b =
    let c : ℕ = get_or cs i 0 in
    let k : ℕ = get_or ks i 0 in
    let grown : take (i + 1) cs ≡ take i cs ++ c ∷ [] = take_more cs i 0 b in
    let keys : take (i + 1) ks ≡ take i ks ++ k ∷ [] = take_more ks i 0 (omega arith) in
    let long : length (take i cs) ≡ length (take i ks) = omega (arith, length-take i cs, length-take i ks) in
    (λ j. nonzero (paired (grown j) (keys j)))
    ∙ ap nonzero (paired-push (take i cs) (take i ks) c k long)
    ∙ filter-append (λ t. not (t.0 == 0)) (paired (take i cs) (take i ks)) ((c, k) ∷ [])
    ∙ ap (λ (f : List (ℕ × ℕ)). nonzero (paired (take i cs) (take i ks)) ++ f) (one-kept c k)

-- dropping zeros leaves the sums
pub nonzero-weigh : (w : ℕ → ℕ) (f : List (ℕ × ℕ)) → weigh w (nonzero f) ≡ weigh w f
nonzero-weigh w [] = refl
nonzero-weigh w (t ∷ f) = elim (cases_Bool (t.0 == 0)) [
  | inl e ↦ rw e (let q : t.0 ≡ 0 = eqb-true t.0 0 e in rw q (nonzero-weigh w f ∙ omega arith))
  | inr e ↦ rw e (ap (λ n. t.0 * w t.1 + n) (nonzero-weigh w f))
]

pub nonzero-each : (P : ℕ × ℕ → Type 0) (f : List (ℕ × ℕ)) → Each P f → Each P (nonzero f)
nonzero-each P [] h = tt
nonzero-each P (t ∷ f) h = elim (cases_Bool (t.0 == 0)) [
  | inl e ↦ rw e (nonzero-each P f h.1)
  | inr e ↦ rw e (h.0, nonzero-each P f h.1)
]

pub paired-each : (P : ℕ → Type 0) (cs ks : List ℕ) → Each P ks → Each (λ t. P t.1) (paired cs ks)
paired-each P [] ks h = tt
paired-each P (c ∷ cs) [] h = tt
paired-each P (c ∷ cs) (k ∷ ks) h = (h.0, paired-each P cs ks h.1)

pub paired-coefs : (P : ℕ → Type 0) (cs ks : List ℕ) → Each P cs → Each (λ t. P t.0) (paired cs ks)
paired-coefs P [] ks h = tt
paired-coefs P (c ∷ cs) [] h = tt
paired-coefs P (c ∷ cs) (k ∷ ks) h = (h.0, paired-coefs P cs ks h.1)

pub nonzero-coefs : (p : ℕ) (f : List (ℕ × ℕ)) → Each (λ t. t.0 < p) f → Each (IsCoefficient p) (nonzero f)
nonzero-coefs p [] h = tt
nonzero-coefs p (t ∷ f) h = elim (cases_Bool (t.0 == 0)) [
  | inl e ↦ rw e (nonzero-coefs p f h.1)
  | inr e ↦ (let pos : 0 < t.0 = grind (arith, nat_tests, e) in rw e ((pos, h.0), nonzero-coefs p f h.1))
]

nonzero-apart : (f : List (ℕ × ℕ)) → AreApart f → AreApart (nonzero f)
nonzero-apart [] h = tt
nonzero-apart (t ∷ f) h = elim (cases_Bool (t.0 == 0)) [
  | inl e ↦ rw e (nonzero-apart f h.1)
  | inr e ↦ rw e (nonzero-each (λ u. t.1 ≡ u.1 → ⊥) f h.0, nonzero-apart f h.1)
]

others : (k : ℕ) (cs ks : List ℕ) → AllByRecursion (λ y. (k == y) ≡ false) ks → Each (λ u. k ≡ u.1 → ⊥) (paired cs ks)
others k [] ks h = tt
others k (c ∷ cs) [] h = tt
others k (c ∷ cs) (y ∷ ks) h = (λ e. false≢true (sym h.0 ∙ (Decides-eqb k y).1 e), others k cs ks h.1)

paired-apart : (cs ks : List ℕ) → IsDistinct (λ a b. a == b) ks → AreApart (paired cs ks)
paired-apart [] ks h = tt
paired-apart (c ∷ cs) [] h = tt
paired-apart (c ∷ cs) (k ∷ ks) h = (others k cs ks (IsDistinct-head (λ a b. a == b) k ks h), paired-apart cs ks (IsDistinct-tail (λ a b. a == b) k ks h))

pub closed-apart : (cs ks : List ℕ) → IsDistinct (λ a b. a == b) ks → AreApart (nonzero (paired cs ks))
closed-apart cs ks h = nonzero-apart (paired cs ks) (paired-apart cs ks h)
