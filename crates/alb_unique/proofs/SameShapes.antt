-- Lists of parts of the same types, with as many basis elements each: the numbers and the products of a type are the same.
use Rattle.std.proofs.Common.{◌≡◌, ℕ, suc, ◌+◌, true, false, List, [], ◌∷◌, ◌++◌, length, replicate, refl, sym, ap, ◌∙◌, subst, inl, inr}
use Rattle.std.specs.Prelude.{if◌then◌else◌}
use Rattle.std.specs.declared.cmp.Ordering.TheVariants.{Less}
use Rattle.std.proofs.lemmas.Bool.{cases_Bool}
use Rattle.gf_sums.specs.Sums.{total}
use Rattle.alb_mono.specs.Listing.{Each, IsIn, Ascends}
use Rattle.alb_mono.specs.Tree.{cmp_types}
use Rattle.alb_mono.proofs.ListingLemmas.{each-member}
use Rattle.alb_poly.specs.Poly.{list_eq}
use Rattle.alb_table.specs.Table.{products_of, rectangle, PartView, first_of, dim_of, entries_at, elems, types, count_coefficients}
use Rattle.alb_rows.specs.Row.{Cells}
use Rattle.alb_poly.proofs.Types.{list_eq-itself}
use Rattle.alb_table.proofs.PartLemmas.{first_here, first_step, length-types, list_eq-other}
use Rattle.alb_table.proofs.RangeLemmas.{ats}
use Rattle.alb_table.proofs.TypesTo.{apart}

abbrev pub AreShaped : List PartView → List PartView → Type 0
AreShaped [] [] = Unit {0}
AreShaped [] (q ∷ qs) = ⊥
AreShaped (p ∷ ps) [] = ⊥
AreShaped (p ∷ ps) (q ∷ qs) = (p.at ≡ q.at) × (length p.basis ≡ length q.basis) × AreShaped ps qs

-- ---- lists

pub head-same : {X : Type 0} (x y : X) (xs ys : List X) → x ∷ xs ≡ y ∷ ys → x ≡ y
head-same x y xs ys e = cc

pub tail-same : {X : Type 0} (x y : X) (xs ys : List X) → x ∷ xs ≡ y ∷ ys → xs ≡ ys
tail-same x y xs ys e = cc

not-empty : {X : Type 0} (x : X) (xs : List X) → [] ≡ x ∷ xs → ⊥
not-empty x xs e = cc

suc-same : (m n : ℕ) → suc m ≡ suc n → m ≡ n
suc-same m n e = cc

zero_suc : (n : ℕ) → 0 ≡ suc n → ⊥
zero_suc n e = cc

-- two lists, cut at one length
pub cut-same : {X : Type 0} (xs ys a b : List X) → length xs ≡ length ys → xs ++ a ≡ ys ++ b → (xs ≡ ys) × (a ≡ b)
cut-same [] [] a b l e = (refl, e)
cut-same [] (y ∷ ys) a b l e = absurd (zero_suc (length ys) l)
cut-same (x ∷ xs) [] a b l e = absurd (zero_suc (length xs) (sym l))
cut-same (x ∷ xs) (y ∷ ys) a b l e =
    let r = cut-same xs ys a b (suc-same (length xs) (length ys) l) (tail-same x y (xs ++ a) (ys ++ b) e) in
    (ap (λ z. z ∷ xs) (head-same x y (xs ++ a) (ys ++ b) e) ∙ ap (λ zs. y ∷ zs) r.0, r.1)

-- ---- shapes

-- by the dimensions of the types
pub shaped : (ps qs : List PartView) → ats ps ≡ ats qs → Ascends cmp_types (ats ps) → ((w : List ℕ) → IsIn w (ats ps) → dim_of ps w ≡ dim_of qs w) → AreShaped ps qs
shaped [] [] e a h = tt
shaped [] (q ∷ qs) e a h = absurd (not-empty q.at (ats qs) e)
shaped (p ∷ ps) [] e a h = absurd (not-empty p.at (ats ps) (sym e))
shaped (p ∷ ps) (q ∷ qs) e a h =
    let at = head-same p.at q.at (ats ps) (ats qs) e in (
      at,
      sym (first_here p ps p.at refl).1 ∙ h p.at (inl refl) ∙ (first_here q qs p.at (sym at)).1,
      shaped ps qs (tail-same p.at q.at (ats ps) (ats qs) e) a.1 (λ w i.
          let n = apart p.at w (each-member (λ y. cmp_types p.at y ≡ Less) (ats ps) w a.0 i) in
          sym (first_step p ps w n).1 ∙ h w (inr i) ∙ (first_step q qs w (λ s. n (at ∙ s))).1),
    )

pub first-same : (ps qs : List PartView) → AreShaped ps qs → (w : List ℕ) → first_of ps w ≡ first_of qs w
first-same [] [] h w = refl
first-same [] (q ∷ qs) h w = absurd h
first-same (p ∷ ps) [] h w = absurd h
first-same (p ∷ ps) (q ∷ qs) h w =
    ap (λ (a : List ℕ). if list_eq a w then 0 else length p.basis + first_of ps w) h.0
    ∙ ap (λ (n : ℕ). if list_eq q.at w then 0 else n + first_of ps w) h.1
    ∙ ap (λ (m : ℕ). if list_eq q.at w then 0 else length q.basis + m) (first-same ps qs h.2 w)

pub dim-same : (ps qs : List PartView) → AreShaped ps qs → (w : List ℕ) → dim_of ps w ≡ dim_of qs w
dim-same [] [] h w = refl
dim-same [] (q ∷ qs) h w = absurd h
dim-same (p ∷ ps) [] h w = absurd h
dim-same (p ∷ ps) (q ∷ qs) h w =
    ap (λ (a : List ℕ). if list_eq a w then length p.basis else dim_of ps w) h.0
    ∙ ap (λ (n : ℕ). if list_eq q.at w then n else dim_of ps w) h.1
    ∙ ap (λ (m : ℕ). if list_eq q.at w then length q.basis else m) (dim-same ps qs h.2 w)

pub types-same : (ps qs : List PartView) → AreShaped ps qs → types ps ≡ types qs
types-same [] [] h = refl
types-same [] (q ∷ qs) h = absurd h
types-same (p ∷ ps) [] h = absurd h
types-same (p ∷ ps) (q ∷ qs) h =
    ap (λ (a : List ℕ). replicate (length p.basis) a ++ types ps) h.0
    ∙ ap (λ (n : ℕ). replicate n q.at ++ types ps) h.1
    ∙ ap (λ (ts : List (List ℕ)). replicate (length q.basis) q.at ++ ts) (types-same ps qs h.2)

pub elems-long : (ps qs : List PartView) → AreShaped ps qs → length (elems ps) ≡ length (elems qs)
elems-long ps qs h = sym (length-types ps) ∙ ap length (types-same ps qs h) ∙ length-types qs

-- the products of a type, where the types of all its factors have the same numbers
pub products-by : (ps qs : List PartView) (ss : List (List ℕ × List ℕ)) → Each (λ (s : List ℕ × List ℕ). (first_of ps s.0 ≡ first_of qs s.0) × (dim_of ps s.0 ≡ dim_of qs s.0) × (first_of ps s.1 ≡ first_of qs s.1) × (dim_of ps s.1 ≡ dim_of qs s.1)) ss
    → products_of ps ss ≡ products_of qs ss
products-by ps qs [] h = refl
products-by ps qs (s ∷ ss) h = λ i. rectangle (h.0.0 i) (h.0.1 i) (h.0.2 i) (h.0.3 i) ++ products-by ps qs ss h.1 i

-- with the same elements the parts have the same bases
abbrev pub HaveSameBases : List PartView → List PartView → Type 0
HaveSameBases [] [] = Unit {0}
HaveSameBases [] (q ∷ qs) = ⊥
HaveSameBases (p ∷ ps) [] = ⊥
HaveSameBases (p ∷ ps) (q ∷ qs) = (p.basis ≡ q.basis) × HaveSameBases ps qs

pub bases-same : (ps qs : List PartView) → AreShaped ps qs → elems ps ≡ elems qs → HaveSameBases ps qs
bases-same [] [] h e = tt
bases-same [] (q ∷ qs) h e = absurd h
bases-same (p ∷ ps) [] h e = absurd h
bases-same (p ∷ ps) (q ∷ qs) h e =
    let r = cut-same p.basis q.basis (elems ps) (elems qs) h.1 e in (r.0, bases-same ps qs h.2 r.1)

-- ---- further parts

-- what the parts say of their types stays with further parts
pub record IsKept (ps rest : List PartView) (w : List ℕ) : Type 0 where
  pub first : first_of (ps ++ rest) w ≡ first_of ps w
  pub dim : dim_of (ps ++ rest) w ≡ dim_of ps w
  pub entries : entries_at (ps ++ rest) w ≡ entries_at ps w

pub kept : (ps rest : List PartView) (w : List ℕ) → IsIn w (ats ps) → IsKept ps rest w
kept [] rest w i = absurd i
kept (q ∷ ps) rest w i = elim (cases_Bool (list_eq q.at w)) [
  | inl s ↦ record { first = rw s refl; dim = rw s refl; entries = rw s refl }
  | inr s ↦ elim i [
    | inl z ↦ (let y : list_eq q.at w ≡ true = subst (λ u. list_eq q.at u ≡ true) (sym z) (list_eq-itself q.at) in absurd (cc))
    | inr j ↦ (
        let r = kept ps rest w j in
        record { first = rw s (ap (λ n. length q.basis + n) r.first); dim = rw s r.dim; entries = rw s r.entries })
  ]
]

-- parts whose types begin with these ones
pub record HasFront (parts : List PartView) (ws more : List (List ℕ)) : Type 0 where
  pub front : List PartView
  pub rest : List PartView
  pub parts_are : parts ≡ front ++ rest
  pub types : ats front ≡ ws
  pub others : ats rest ≡ more

pub front-of : (parts : List PartView) (ws more : List (List ℕ)) → ats parts ≡ ws ++ more → HasFront parts ws more
front-of parts [] more e = record { front = []; rest = parts; parts_are = refl; types = refl; others = e }
front-of [] (w ∷ ws) more e = absurd (not-empty w (ws ++ more) e)
front-of (q ∷ parts) (w ∷ ws) more e =
    let r = front-of parts ws more (tail-same q.at w (ats parts) (ws ++ more) e) in
    record {
      front = q ∷ r.front;
      rest = r.rest;
      parts_are = ap (λ qs. q ∷ qs) r.parts_are;
      types = ap (λ x. x ∷ ats r.front) (head-same q.at w (ats parts) (ws ++ more) e) ∙ ap (λ xs. w ∷ xs) r.types;
      others = r.others;
    }

-- ---- entries

abbrev pub HaveSameEntries : List PartView → List PartView → Type 0
HaveSameEntries [] [] = Unit {0}
HaveSameEntries [] (q ∷ qs) = ⊥
HaveSameEntries (p ∷ ps) [] = ⊥
HaveSameEntries (p ∷ ps) (q ∷ qs) = (p.entries ≡ q.entries) × HaveSameEntries ps qs

-- the entries of a type are those of its part
entries-here : (q : PartView) (qs : List PartView) (w : List ℕ) → q.at ≡ w → entries_at (q ∷ qs) w ≡ q.entries
entries-here q qs w e = let s : list_eq q.at w ≡ true = subst (λ u. list_eq q.at u ≡ true) e (list_eq-itself q.at) in rw s refl

entries-later : (q : PartView) (qs : List PartView) (w : List ℕ) → (q.at ≡ w → ⊥) → entries_at (q ∷ qs) w ≡ entries_at qs w
entries-later q qs w n = let s : list_eq q.at w ≡ false = list_eq-other q.at w n in rw s refl

pub have-entries : (ps qs : List PartView) → ats ps ≡ ats qs → Ascends cmp_types (ats ps) → ((w : List ℕ) → IsIn w (ats ps) → entries_at ps w ≡ entries_at qs w) → HaveSameEntries ps qs
have-entries [] [] e a h = tt
have-entries [] (q ∷ qs) e a h = absurd (not-empty q.at (ats qs) e)
have-entries (p ∷ ps) [] e a h = absurd (not-empty p.at (ats ps) (sym e))
have-entries (p ∷ ps) (q ∷ qs) e a h =
    let at = head-same p.at q.at (ats ps) (ats qs) e in (
      sym (entries-here p ps p.at refl) ∙ h p.at (inl refl) ∙ entries-here q qs p.at (sym at),
      have-entries ps qs (tail-same p.at q.at (ats ps) (ats qs) e) a.1 (λ w i.
          let n = apart p.at w (each-member (λ y. cmp_types p.at y ≡ Less) (ats ps) w a.0 i) in
          sym (entries-later p ps w n) ∙ h w (inr i) ∙ entries-later q qs w (λ s. n (at ∙ s))),
    )

-- as many coefficients
pub coefficients-same : (ps qs : List PartView) → HaveSameEntries ps qs → count_coefficients ps ≡ count_coefficients qs
coefficients-same [] [] h = refl
coefficients-same [] (q ∷ qs) h = absurd h
coefficients-same (p ∷ ps) [] h = absurd h
coefficients-same (p ∷ ps) (q ∷ qs) h =
    ap (λ (es : List Cells). total (λ (cells : Cells). length cells) es + count_coefficients ps) h.0 ∙ ap (λ n. total (λ (cells : Cells). length cells) q.entries + n) (coefficients-same ps qs h.1)
