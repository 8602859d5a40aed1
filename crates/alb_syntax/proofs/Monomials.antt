-- The monomials that are read are those that the grammar spells.
use Rattle.std.proofs.Common.{◌≡◌, ℕ, zero, suc, ◌+◌, ◌<◌, ◌≤◌, true, List, [], ◌∷◌, ◌++◌, length, position, IsTrue, IfOk, Option, Some, None, Result, Ok, Err, refl, sym, ap, subst, ◌∙◌, append_assoc, arith, inl, inr}
use Rattle.std.specs.Prelude.{nat_lt, ◌==◌}
use Rattle.std.proofs.lemmas.Bool.{le-ltb, lt-ltb, ltb-false, cases_Bool}
use Rattle.std.proofs.lemmas.List.{append-nil}
use Rattle.std.proofs.lemmas.List.Quantifiers.{position-Some}
use Rattle.alb_lex.specs.declared.token.Token.{Token}
use Rattle.alb_lex.specs.declared.token.TokenKind.{TokenKind}
use Rattle.alb_lex.specs.declared.token.TokenKind.TheVariants as kinds
use Rattle.alb_mono.specs.Tree.{tree, Tree, leaf, node, degree, are_below}
use Rattle.alb_mono.specs.declared.mono.Mono.{Mono}
use Rattle.alb_syntax.specs.declared.error.SyntaxError.{SyntaxError}
use Rattle.alb_lex.specs.Results.{◌>>=◌}
use Rattle.alb_syntax.specs.Gives.{Gives}
use Rattle.alb_syntax.specs.Reading.{ReadingOf, ReaderOf, next, after, place_or, must_or, is_close, each, ended, Lettering, begins_part, lettered, part_from, part, joined, next_part, mono, enclosed, nested, mono_denoted, Shape, Part, Product, Spells}
use Rattle.alb_syntax.specs.Reading as grammar
use Rattle.alb_lex.proofs.Binds.{bind_ok, ok_is}
use Rattle.alb_syntax.proofs.Turns.{Shrinks, IsPart, each-less, each-step, each-stops}
use Rattle.alb_syntax.proofs.Shrinks.{after-less, after-shorter, ok_rest, must-less}
use Rattle.alb_syntax.proofs.Found.{turns-found, must-found, close_is, ended_nil}
use Rattle.alb_syntax.proofs.Regroups.{regroup_one}

-- ---- what is read takes a token

named-takes : (s : Lettering) (o : Option ℕ) (ts : List Token) (k : TokenKind) → next ts ≡ Some k → (x : Tree × List Token) → lettered s o ts ≡ Ok x → length x.1 < length ts
named-takes s (Some k) ts t n x e = let q = ok_rest (leaf k) (after ts) (after ts) (omega arith) x e in omega (arith, after-shorter ts t n, q)
named-takes s None ts t n x e = absurd cc

module _ (s : Lettering) (bracket : ReaderOf Tree) (is : Shrinks bracket) where
  part_at-takes : (k : Option TokenKind) (ts : List Token) → next ts ≡ k → (x : Tree × List Token) → part_from s bracket k ts ≡ Ok x → length x.1 < length ts
  part_at-takes (Some (kinds.Letter b)) ts n x e = named-takes s (position (λ x. x == b) s.letters) ts (kinds.Letter b) n x e
  part_at-takes (Some kinds.Open) ts n x e = is.less ts x e
  part_at-takes _ ts n x e = absurd cc

  part-takes : (ts : List Token) (x : Tree × List Token) → part s bracket ts ≡ Ok x → length x.1 < length ts
  unfolding part
  part-takes ts x e = part_at-takes (next ts) ts refl x e

  pub part-is : IsPart begins_part (next_part s bracket)
  unfolding next_part
  part-is = record {
    ends = refl;
    less = λ m ts x e.
        let w = bind_ok (part s bracket ts) (λ y. joined (place_or s.end ts) m y.0 >>= λ g. Ok (g, y.1)) x e in
        let v = bind_ok (joined (place_or s.end ts) m w.0.0) (λ g. Ok (g, w.0.1)) x w.2 in
        omega (arith, part-takes ts w.0 w.1, ok_rest v.0 w.0.1 w.0.1 (omega arith) x v.2);
  }

  mono-takes : (ts : List Token) (x : Tree × List Token) → mono s bracket ts ≡ Ok x → length x.1 < length ts
  unfolding mono
  mono-takes ts x e =
      let w = bind_ok (part s bracket ts) (λ y. each begins_part (next_part s bracket) y.0 y.1) x e in
      omega (arith, part-takes ts w.0 w.1, each-less begins_part (next_part s bracket) part-is w.0.0 w.0.1 x w.2)

pub nested-shrinks : (s : Lettering) (n : ℕ) → Shrinks (nested s n)
unfolding nested enclosed
nested-shrinks s zero = record { less = λ ts x e. absurd cc }
nested-shrinks s (suc n) = record {
  less = λ ts x e.
      let a = bind_ok (mono s (nested s n) (after ts)) (λ y. must_or s.end is_close y.1 >>= λ us. Ok (y.0, us)) x e in
      let m = bind_ok (must_or s.end is_close a.0.1) (λ us. Ok (a.0.0, us)) x a.2 in
      omega (arith, after-less ts, mono-takes s (nested s n) (nested-shrinks s n) (after ts) a.0 a.1, must-less s.end is_close a.0.1 m.0 m.1, ok_rest a.0.0 m.0 m.0 (omega arith) x m.2);
}

-- ---- what the grammar spells is read

joined-low : (at : ℕ) (l r : Tree) → degree l + degree r ≤ 64 → joined at l r ≡ Ok (node l r)
unfolding joined
joined-low at l r h = rw (le-ltb 64 (degree l + degree r) h) refl

module _ (s : Lettering) (b : ReaderOf Tree) where
  part-generator : (k x : ℕ) (t : Token) (rest : List Token) → t.kind ≡ kinds.Letter x → position (λ y. y == x) s.letters ≡ Some k → part s b (t ∷ rest) ≡ Ok (leaf k, rest)
  unfolding part
  part-generator k x t rest e p = ap (λ y. part_from s b (Some y) (t ∷ rest)) e ∙ ap (λ o. lettered s o (t ∷ rest)) p

  part-open : (t : Token) (rest : List Token) → t.kind ≡ kinds.Open → part s b (t ∷ rest) ≡ b (t ∷ rest)
  unfolding part
  part-open t rest e = ap (λ y. part_from s b (Some y) (t ∷ rest)) e

  mono-gives : (ts rest : List Token) (m : Tree) → part s b ts ≡ Ok (m, rest) → mono s b ts ≡ each begins_part (next_part s b) m rest
  unfolding mono
  mono-gives ts rest m e = rw e refl

  next_part-gives : (ts rest : List Token) (l r : Tree) → part s b ts ≡ Ok (r, rest) → degree l + degree r ≤ 64 → next_part s b l ts ≡ Ok (node l r, rest)
  unfolding next_part
  next_part-gives ts rest l r e h = rw (e, joined-low (place_or s.end ts) l r h) refl

nested-open : (s : Lettering) (n : ℕ) (t c : Token) (ts rest : List Token) (m : Tree) → mono s (nested s n) ts ≡ Ok (m, c ∷ rest) → c.kind ≡ kinds.Close → nested s (suc n) (t ∷ ts) ≡ Ok (m, rest)
unfolding nested enclosed
nested-open s n t c ts rest m e k = rw (e, k) refl

-- what reading gives at the tokens and whatever stands after them
abbrev Reads : Lettering → Shape → ℕ → List Token → Tree → Type 0
Reads s Part n ts m = (rest : List Token) → (begins_part (next (ts ++ rest)) ≡ true) × (part s (nested s n) (ts ++ rest) ≡ Ok (m, rest))
Reads s Product n ts m = (rest : List Token) → (begins_part (next (ts ++ rest)) ≡ true) × (mono s (nested s n) (ts ++ rest) ≡ each begins_part (next_part s (nested s n)) m rest)

reads : (s : Lettering) (c : Shape) (n : ℕ) (ts : List Token) (m : Tree) → Spells s.letters c n ts m → Reads s c n ts m
reads s _ _ _ _ (grammar.a_generator n k b t e p) = λ rest. (ap (λ x. begins_part (Some x)) e, part-generator s (nested s n) k b t rest e p)
reads s _ _ _ _ (grammar.in_brackets n o c us m eo d ec) = λ rest.
    let q : (o ∷ us ++ c ∷ []) ++ rest ≡ o ∷ (us ++ (c ∷ rest)) = ap (λ x. o ∷ x) (append_assoc us (c ∷ []) rest) in
    let i : mono s (nested s n) (us ++ (c ∷ rest)) ≡ Ok (m, c ∷ rest) =
    (reads s Product n us m d (c ∷ rest)).1 ∙ each-stops begins_part (next_part s (nested s n)) (part-is s (nested s n) (nested-shrinks s n)) m (c ∷ rest) (ap (λ x. begins_part (Some x)) ec) in (
      ap (λ x. begins_part (Some x)) eo,
      ap (part s (nested s (suc n))) q ∙ part-open s (nested s (suc n)) o (us ++ (c ∷ rest)) eo ∙ nested-open s n o c (us ++ (c ∷ rest)) rest m i ec,
    )
reads s _ _ _ _ (grammar.one_part n ts m d) = λ rest. let a = reads s Part n ts m d rest in (a.0, mono-gives s (nested s n) (ts ++ rest) rest m a.1)
reads s _ _ _ _ (grammar.parts n us vs l r dl dr h) = λ rest.
    let a = reads s Product n us l dl (vs ++ rest) in
    let b = reads s Part n vs r dr rest in
    let q : (us ++ vs) ++ rest ≡ us ++ (vs ++ rest) = append_assoc us vs rest in (
      ap (λ x. begins_part (next x)) q ∙ a.0,
      ap (mono s (nested s n)) q ∙ a.1 ∙ each-step begins_part (next_part s (nested s n)) (part-is s (nested s n) (nested-shrinks s n)) l (vs ++ rest) b.0
          ∙ ap (λ (z : ReadingOf Tree). z >>= λ y. each begins_part (next_part s (nested s n)) y.0 y.1) (next_part-gives s (nested s n) (vs ++ rest) rest l r b.1 h),
    )

pub mono-again : (s : Lettering) (ts : List Token) (m : Tree) → Spells s.letters Product 64 ts m → mono_denoted s ts ≡ Ok m
unfolding mono_denoted
mono-again s ts m d =
    let e : mono s (nested s 64) ts ≡ Ok (m, []) =
    ap (mono s (nested s 64)) (sym (append-nil ts)) ∙ (reads s Product 64 ts m d []).1 ∙ each-stops begins_part (next_part s (nested s 64)) (part-is s (nested s 64) (nested-shrinks s 64)) m [] refl in
    rw e refl

-- ---- what is read is spelled

pub record Spelled (s : Lettering) (c : Shape) (n : ℕ) (ts : List Token) (x : Tree × List Token) : Type 0 where
  pub front : List Token
  pub whole : ts ≡ front ++ x.1
  pub spells : Spells s.letters c n front x.0

abbrev Spelling : Lettering → Shape → ℕ → ReaderOf Tree → Type 0
Spelling s c n read = (ts : List Token) (x : Tree × List Token) → read ts ≡ Ok x → Spelled s c n ts x

abbrev SpellingOpen : Lettering → ℕ → ReaderOf Tree → Type 0
SpellingOpen s n bracket = (t : Token) (ts : List Token) (x : Tree × List Token) → t.kind ≡ kinds.Open → bracket (t ∷ ts) ≡ Ok x → Spelled s Part n (t ∷ ts) x

spelled_at : (s : Lettering) (c : Shape) (n : ℕ) (ts us : List Token) (m : Tree) (front : List Token) → ts ≡ front ++ us → Spells s.letters c n front m → (x : Tree × List Token) → (m, us) ≡ x → Spelled s c n ts x
spelled_at s c n ts us m front w d x e = subst (λ (y : Tree × List Token). Spelled s c n ts y) e (record { front = front; whole = w; spells = d })

spelled_then : (s : Lettering) (c : Shape) (n : ℕ) (ts mid us vs : List Token) (x : Tree × List Token) → ts ≡ us ++ mid → mid ≡ vs ++ x.1 → Spells s.letters c n (us ++ vs) x.0 → Spelled s c n ts x
spelled_then s c n ts mid us vs x p q d = record { front = us ++ vs; whole = p ∙ ap (λ z. us ++ z) q ∙ sym (append_assoc us vs x.1); spells = d }

joined-is : (at : ℕ) (l r m : Tree) → joined at l r ≡ Ok m → (degree l + degree r ≤ 64) × (node l r ≡ m)
unfolding joined
joined-is at l r m e = elim (cases_Bool (nat_lt 64 (degree l + degree r))) [
  | inl h ↦ absurd (let k = rw h at e in cc)
  | inr h ↦ (let k = rw h at e in (ltb-false 64 (degree l + degree r) h, ok_is (node l r) m k))
]

module _ (s : Lettering) (n : ℕ) (bracket : ReaderOf Tree) (opens : SpellingOpen s n bracket) where
  named-spelled : (o : Option ℕ) (b : ℕ) (t : Token) (ts : List Token) (x : Tree × List Token) → t.kind ≡ kinds.Letter b → position (λ y. y == b) s.letters ≡ o → lettered s o (t ∷ ts) ≡ Ok x → Spelled s Part n (t ∷ ts) x
  named-spelled (Some k) b t ts x e p h = spelled_at s Part n (t ∷ ts) ts (leaf k) (t ∷ []) refl (grammar.a_generator n k b t e p) x (ok_is (leaf k, ts) x h)
  named-spelled None b t ts x e p h = absurd cc

  part_at-spelled : (k : TokenKind) (t : Token) (ts : List Token) (x : Tree × List Token) → t.kind ≡ k → part_from s bracket (Some k) (t ∷ ts) ≡ Ok x → Spelled s Part n (t ∷ ts) x
  part_at-spelled (kinds.Letter b) t ts x e h = named-spelled (position (λ y. y == b) s.letters) b t ts x e refl h
  part_at-spelled kinds.Open t ts x e h = opens t ts x e h
  part_at-spelled _ t ts x e h = absurd cc

  part-spelled : Spelling s Part n (part s bracket)
  unfolding part
  part-spelled [] x h = absurd cc
  part-spelled (t ∷ ts) x h = part_at-spelled t.kind t ts x refl h

  next_part-spelled : (us : List Token) (m : Tree) (ts : List Token) (y : Tree × List Token) → Spells s.letters Product n us m → begins_part (next ts) ≡ true → next_part s bracket m ts ≡ Ok y
      → (vs : List Token) × (ts ≡ vs ++ y.1) × Spells s.letters Product n (us ++ vs) y.0
  unfolding next_part
  next_part-spelled us m ts y d more h =
      let u = bind_ok (part s bracket ts) (λ z. joined (place_or s.end ts) m z.0 >>= λ g. Ok (g, z.1)) y h in
      let v = bind_ok (joined (place_or s.end ts) m u.0.0) (λ g. Ok (g, u.0.1)) y u.2 in
      let b = part-spelled ts u.0 u.1 in
      let j = joined-is (place_or s.end ts) m u.0.0 v.0 v.1 in
      let q = ok_is (v.0, u.0.1) y v.2 in
      let here : Spells s.letters Product n (us ++ b.front) v.0 = subst (λ g. Spells s.letters Product n (us ++ b.front) g) j.1 (grammar.parts n us b.front m u.0.0 d b.spells j.0) in
      subst (λ (z : Tree × List Token). (vs : List Token) × (ts ≡ vs ++ z.1) × Spells s.letters Product n (us ++ vs) z.0) q (b.front, b.whole, here)

  mono-spelled : Spelling s Product n (mono s bracket)
  unfolding mono each
  mono-spelled ts x e =
      let w = bind_ok (part s bracket ts) (λ y. each begins_part (next_part s bracket) y.0 y.1) x e in
      let a = part-spelled ts w.0 w.1 in
      let r = turns-found (λ us m. Spells s.letters Product n us m) begins_part (next_part s bracket) next_part-spelled
      (length w.0.1) a.front w.0.0 w.0.1 x (grammar.one_part n a.front w.0.0 a.spells) w.2 in
      spelled_then s Product n ts w.0.1 a.front r.0 x a.whole r.1 r.2

nested-spelled : (s : Lettering) (n : ℕ) → SpellingOpen s n (nested s n)
unfolding nested enclosed
nested-spelled s zero t ts x k e = absurd cc
nested-spelled s (suc n) t ts x k e =
    let a = bind_ok (mono s (nested s n) ts) (λ y. must_or s.end is_close y.1 >>= λ us. Ok (y.0, us)) x e in
    let fa = mono-spelled s n (nested s n) (nested-spelled s n) ts a.0 a.1 in
    let v = bind_ok (must_or s.end is_close a.0.1) (λ us. Ok (a.0.0, us)) x a.2 in
    let cd = must-found s.end is_close a.0.1 v.0 refl v.1 in
    spelled_at s Part (suc n) (t ∷ ts) v.0 a.0.0 (t ∷ fa.front ++ cd.0 ∷ [])
    (ap (λ y. t ∷ y) (fa.whole ∙ ap (λ y. fa.front ++ y) cd.1 ∙ sym (regroup_one fa.front v.0 cd.0)))
    (grammar.in_brackets n t cd.0 fa.front a.0.0 k fa.spells (close_is cd.0.kind cd.2)) x (ok_is (a.0.0, v.0) x v.2)

pub mono_denoted-spelled : (s : Lettering) (ts : List Token) (m : Tree) → mono_denoted s ts ≡ Ok m → Spells s.letters Product 64 ts m
unfolding mono_denoted
mono_denoted-spelled s ts m e =
    let w = bind_ok (mono s (nested s 64) ts) (λ x. ended x.0 x.1) m e in
    let a = mono-spelled s 64 (nested s 64) (nested-spelled s 64) ts w.0 w.1 in
    let n = ended_nil w.0.0 m w.0.1 w.2 in
    let q : ts ≡ a.front = a.whole ∙ ap (λ y. a.front ++ y) n.0 ∙ append-nil a.front in
    subst (λ g. Spells s.letters Product 64 ts g) n.1 (subst (λ y. Spells s.letters Product 64 y w.0.0) (sym q) a.spells)

pub mono-is_spelled : (s : Lettering) (ts : List Token) (r : Result Mono SyntaxError) → Gives tree r (mono_denoted s ts) → IfOk r (λ m. Spells s.letters Product 64 ts (tree m))
mono-is_spelled s ts (Ok m) h = mono_denoted-spelled s ts (tree m) h
mono-is_spelled s ts (Err e) h = tt

-- ---- the generators and the degree of what is spelled

below : (letters : List ℕ) (c : Shape) (n : ℕ) (ts : List Token) (m : Tree) → Spells letters c n ts m → are_below (length letters) m ≡ true
below letters _ _ _ _ (grammar.a_generator n k b t e p) = lt-ltb k (length letters) (position-Some (λ x. x == b) letters k 0 p).0
below letters _ _ _ _ (grammar.in_brackets n o c us m eo d ec) = below letters Product n us m d
below letters _ _ _ _ (grammar.one_part n ts m d) = below letters Part n ts m d
below letters _ _ _ _ (grammar.parts n us vs l r dl dr h) = rw (below letters Product n us l dl, below letters Part n vs r dr) refl

low : (letters : List ℕ) (c : Shape) (n : ℕ) (ts : List Token) (m : Tree) → Spells letters c n ts m → degree m ≤ 64
low letters _ _ _ _ (grammar.a_generator n k b t e p) = omega arith
low letters _ _ _ _ (grammar.in_brackets n o c us m eo d ec) = low letters Product n us m d
low letters _ _ _ _ (grammar.one_part n ts m d) = low letters Part n ts m d
low letters _ _ _ _ (grammar.parts n us vs l r dl dr h) = h

pub spelled-low : (letters : List ℕ) (ts : List Token) (r : Result Mono SyntaxError) → IfOk r (λ m. Spells letters Product 64 ts (tree m)) → IfOk r (λ m. degree (tree m) ≤ 64)
spelled-low letters ts (Ok m) h = low letters Product 64 ts (tree m) h
spelled-low letters ts (Err e) h = tt

pub spelled-known : (letters : List ℕ) (ts : List Token) (r : Result Mono SyntaxError) → IfOk r (λ m. Spells letters Product 64 ts (tree m)) → IfOk r (λ m. IsTrue (are_below (length letters) (tree m)))
spelled-known letters ts (Ok m) h = below letters Product 64 ts (tree m) h
spelled-known letters ts (Err e) h = tt
