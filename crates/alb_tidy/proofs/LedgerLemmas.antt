-- The lines of a ledger.
use Rattle.std.proofs.Common.{◌≡◌, ℕ, zero, suc, ◌+◌, ◌-◌, ◌<◌, ◌≤◌, ◌⊎◌, Bool, true, false, List, [], ◌∷◌, ◌++◌, map, length, reverse, refl, sym, ap, ◌∙◌, subst, arith, inl, inr, Option, Some, None, slice_get, append_assoc}
use Rattle.std.specs.Prelude.{if◌then◌else◌}
use Rattle.std.specs.List.{IsDistinct, AllByRecursion, list_any}
use Rattle.std.proofs.lemmas.Bool.{cases_Bool, false≢true}
use Rattle.std.proofs.lemmas.List.{map-append, length-map, reverse-append}
use Rattle.indexmap.specs.IndexSet.{insert_key}
use Rattle.alb_deriv.specs.Views.{line}
use Rattle.alb_deriv.specs.declared.line.Line.{Line}
use Rattle.alb_tidy.specs.Cites.{IsNumber}
use Rattle.alb_tidy.specs.Numbers.{IsNumbered}
use Rattle.alb_tidy.specs.SameLine.{same_line, same_line-is, line-Decides}
use Rattle.alb_tidy.specs.Tidy.{line_at, AreDifferent}
use Rattle.alb_tidy.specs.declared.key.LineKey.{LineKey}

-- whether two keys are one
abbrev pub same_key : LineKey → LineKey → Bool
same_key x y = same_line (line x.line) (line y.line)

-- the lines of keys
abbrev pub held : List LineKey → List Line
held ks = map (λ (k : LineKey). k.line) ks

at-key : (ks : List LineKey) (n : ℕ) (k : LineKey) → slice_get ks n ≡ Some k → line_at (map line (held ks)) n ≡ line k.line
at-key [] n k h = absurd (let e : None ≡ Some k = h in cc)
at-key (x ∷ ks) zero k h = let e : Some x ≡ Some k = h in let q : x ≡ k = cc in ap (λ (y : LineKey). line y.line) q
at-key (x ∷ ks) (suc n) k h = at-key ks n k h

apart : (x : LineKey) (ks : List LineKey) (n : ℕ) → AllByRecursion (λ y. same_key x y ≡ false) ks → n < length ks → line x.line ≡ line_at (map line (held ks)) n → ⊥
apart x [] n h l e = absurd (omega arith)
apart x (y ∷ ks) zero h l e = false≢true (sym h.0 ∙ (line-Decides (line x.line) (line y.line)).1 e)
apart x (y ∷ ks) (suc n) h l e = apart x ks n h.1 (omega arith) e

length-held : (ks : List LineKey) → length (map line (held ks)) ≡ length ks
length-held ks = length-map (held ks) line ∙ length-map ks (λ (k : LineKey). k.line)

distinct-different : (ks : List LineKey) → IsDistinct same_key ks → AreDifferent (map line (held ks))
unfolding IsDistinct
distinct-different [] d j k a b e = absurd (omega arith)
distinct-different (x ∷ ks) d zero zero a b e = absurd (omega arith)
distinct-different (x ∷ ks) d zero (suc k) a b e = apart x ks k d.0 (omega (arith, length-held ks)) e
distinct-different (x ∷ ks) d (suc j) zero a b e = absurd (omega arith)
distinct-different (x ∷ ks) d (suc j) (suc k) a b e = distinct-different ks d.1 j k (omega arith) (omega arith) e

inserted : (ks new : List LineKey) (x : LineKey) → new ≡ insert_key same_key ks x → (held new ≡ held ks) ⊎ (held new ≡ held ks ++ x.line ∷ [])
inserted ks new x e = elim (cases_Bool (list_any (same_key x) ks)) [
  | inl y ↦ inl (ap held (let q : new ≡ (if list_any (same_key x) ks then ks else ks ++ x ∷ []) = e in rw y at q))
  | inr y ↦ inr (ap held (let q : new ≡ (if list_any (same_key x) ks then ks else ks ++ x ∷ []) = e in rw y at q) ∙ map-append (λ (k : LineKey). k.line) ks (x ∷ []))
]

-- A line that was put among the keys is numbered.
pub key-numbered : (ks new : List LineKey) (x k : LineKey) (place : ℕ) → new ≡ insert_key same_key ks x → IsDistinct same_key new → place < length new → slice_get new place ≡ Some k → same_key x k ≡ true →
    IsNumbered (held ks) (held new) x.line (place + 1)
key-numbered ks new x k place e d l g same =
    let n : length (held new) ≡ length new = length-map new (λ (y : LineKey). y.line) in
    let p : place + 1 - 1 ≡ place = omega arith in
    record {
      lines = inserted ks new x e;
      number = record { above = omega arith; among = omega (arith, n, l) };
      stands = ap (line_at (map line (held new))) p ∙ at-key new place k g ∙ sym (same_line-is (line x.line) (line k.line) same);
      different = distinct-different new d;
    }

-- the last key goes to the lines
pub key-moved : (old new : List LineKey) (k : LineKey) (lines more all : List Line) → old ≡ new ++ k ∷ [] → more ≡ lines ++ k.line ∷ [] → held old ++ reverse lines ≡ all → held new ++ reverse more ≡ all
key-moved old new k lines more all e m h =
    ap (λ xs. held new ++ reverse xs) m
    ∙ ap (λ xs. held new ++ xs) (reverse-append lines (k.line ∷ []))
    ∙ sym (append_assoc (held new) (k.line ∷ []) (reverse lines))
    ∙ ap (λ xs. xs ++ reverse lines) (sym (ap held e ∙ map-append (λ (y : LineKey). y.line) new (k ∷ [])))
    ∙ h
