-- Steps of the loops that make a sub-table.
use Rattle.std.proofs.Common.{◌≡◌, ℕ, ◌+◌, ◌-◌, ◌<◌, Bool, true, false, List, [], ◌∷◌, ◌++◌, map, length, get_or, take, nat_le, sym, refl, ap, ◌∙◌, subst, arith, add-one, append-nil, append_assoc}
use Rattle.std.specs.Prelude.{Option, None, Some, unwrap_or}
use Rattle.std.specs.List.{All, filter, flat_map}
use Rattle.std.proofs.lemmas.Bool.Decides.{nat_tests}
use Rattle.std.proofs.lemmas.List.{map-append, get_or-map, take_more}
use Rattle.alb_mono.specs.Tree.{rising, type_minus, type_le, type_plus}
use Rattle.alb_mono.specs.Listing.{Each}
use Rattle.alb_mono.proofs.Both.{and_left, and_right}
use Rattle.alb_mono.proofs.ListingLemmas.{each-at}
use Rattle.alb_poly.proofs.Consequence.{flat-append}
use Rattle.alb_linear.proofs.LinearLemmas.{each_from_all}
use Rattle.alb_rows.specs.Row.{Cells}
use Rattle.alb_table.specs.Table.{entry_of, elems, type_at, Table, IsTable}
use Rattle.alb_table.proofs.TableLemmas.{entry_vector}
use Rattle.alb_check.specs.declared.raw.RawEntry.{RawEntry}
use Rattle.alb_check.specs.Raw.{IsRaw}
use Rattle.alb_check.specs.SubTable.{is_kept, kept_elements, number_of, row_entries, product_entries, sub_table}
use Rattle.alb_check.proofs.Passing.{passing, passing-each, passing-more, passing-skip, rising_next, rising-get}
use Rattle.alb_check.proofs.SubShape.{IsKept, length-rising, sub-raw}

-- ---- one more number

pub keep-pass : (q : ℕ → Bool) (old new : List ℕ) (b : ℕ) → q b ≡ true → old ≡ filter q (rising 0 b) → new ≡ old ++ b ∷ [] → new ≡ filter q (rising 0 (b + 1))
keep-pass q old new b h e n = n ∙ ap (λ xs. xs ++ b ∷ []) e ∙ sym (ap (passing q) (add-one b) ∙ passing-more q b h)

pub keep-skip : (q : ℕ → Bool) (old new : List ℕ) (b : ℕ) → q b ≡ false → old ≡ filter q (rising 0 b) → new ≡ old → new ≡ filter q (rising 0 (b + 1))
keep-skip q old new b h e n = n ∙ e ∙ sym (ap (passing q) (add-one b) ∙ passing-skip q b h)

pub map-push : {X : Type 0} (f : ℕ → X) (old new : List X) (b : ℕ) (x : X) → old ≡ map f (rising 0 b) → new ≡ old ++ x ∷ [] → x ≡ f b → new ≡ map f (rising 0 (b + 1))
map-push f old new b x e n k =
    n ∙ ap (λ xs. xs ++ x ∷ []) e ∙ ap (λ y. map f (rising 0 b) ++ y ∷ []) k
    ∙ sym (ap (λ m. map f (rising 0 m)) (add-one b) ∙ ap (map f) (rising_next b) ∙ map-append f (rising 0 b) (b ∷ []))

-- the numbers by their places
pub map-get : (f : ℕ → ℕ) (n b d : ℕ) → b < n → get_or (map f (rising 0 n)) b d ≡ f b
map-get f n b d h = get_or-map f (rising 0 n) b 0 d (omega (arith, length-rising 0 n)) ∙ ap f (rising-get 0 n b 0 h ∙ plus b)
  where
    plus : (b : ℕ) → 0 + b ≡ b
    plus b = omega arith

-- ---- one more piece

pub piece-push : {X Y : Type 0} (g : X → List Y) (xs : List X) (start old new : List Y) (k : ℕ) (d : X) → k < length xs →
    old ≡ start ++ flat_map g (take k xs) → new ≡ old ++ g (get_or xs k d) → new ≡ start ++ flat_map g (take (k + 1) xs)
piece-push g xs start old new k d l e n =
    n ∙ ap (λ ys. ys ++ g (get_or xs k d)) e ∙ append_assoc start (flat_map g (take k xs)) (g (get_or xs k d))
    ∙ ap (λ ys. start ++ ys) (sym (ap (flat_map g) (take_more xs k d l)
    ∙ flat-append g (take k xs) (get_or xs k d ∷ []) ∙ ap (λ ys. flat_map g (take k xs) ++ ys) (append-nil (g (get_or xs k d)))))

pub row-push : {X Y : Type 0} (f : X → Y) (xs : List X) (start old new : List Y) (k : ℕ) (d : X) → k < length xs →
    old ≡ start ++ map f (take k xs) → new ≡ old ++ f (get_or xs k d) ∷ [] → new ≡ start ++ map f (take (k + 1) xs)
row-push f xs start old new k d l e n =
    n ∙ ap (λ ys. ys ++ f (get_or xs k d) ∷ []) e ∙ append_assoc start (map f (take k xs)) (f (get_or xs k d) ∷ [])
    ∙ ap (λ ys. start ++ ys) (sym (ap (map f) (take_more xs k d l) ∙ map-append f (take k xs) (get_or xs k d ∷ [])))

-- ---- what fits into the rest

-- a sum is at most a type where its second part is at most what the first leaves
pub rest-fits : (xs ys top : List ℕ) → length xs ≡ length top → length ys ≡ length top → type_le xs top ≡ true → type_le ys (type_minus top xs) ≡ type_le (type_plus xs ys) top
rest-fits [] [] [] e k h = refl
rest-fits [] ys (z ∷ top) e k h = absurd (omega arith)
rest-fits [] (y ∷ ys) [] e k h = absurd (omega arith)
rest-fits (x ∷ xs) ys [] e k h = absurd (omega arith)
rest-fits (x ∷ xs) [] (z ∷ top) e k h = absurd (omega arith)
rest-fits (x ∷ xs) (y ∷ ys) (z ∷ top) e k h =
    let t : nat_le x z ≡ true = and_left (nat_le x z) _ h in
    rw (one x y z t, rest-fits xs ys top (omega arith) (omega arith) (and_right (nat_le x z) _ h)) refl
  where
    one : (x y z : ℕ) → nat_le x z ≡ true → nat_le y (z - x) ≡ nat_le (x + y) z
    one x y z h = grind (arith, nat_tests)

-- ---- elements that are kept

pub kept-all : (t : Table) (top : List ℕ) → Each (IsKept t top) (kept_elements t top)
kept-all t top = passing-each (is_kept t top) (IsKept t top) (length (elems t.parts)) (λ b l k. record { below = l; passes = k })

pub kept-at : (t : Table) (top xs : List ℕ) (k : ℕ) → xs ≡ kept_elements t top → k < length xs → IsKept t top (get_or xs k 0)
kept-at t top xs k e l = each-at (IsKept t top) xs k 0 (subst (Each (IsKept t top)) (sym e) (kept-all t top)) l

-- ---- entries by the list of the numbers

pub row-equal : (f g : ℕ → ℕ) (b c : ℕ) (e : Cells) → f b ≡ g b → f c ≡ g c → Each (λ cell. f cell.0 ≡ g cell.0) e → row_entries f b c e ≡ row_entries g b c e
row-equal f g b c [] h k a = refl
row-equal f g b c (cell ∷ e) h k a = rw (h, k, a.0) (ap (λ x. record { left = g b; right = g c; to = g cell.0; coef = cell.1 } ∷ x) (row-equal f g b c e h k a.1))

pub entry-equal : (t : Table) (top numbers : List ℕ) (b c : ℕ) → IsTable t → numbers ≡ map (number_of t top) (rising 0 (length (elems t.parts))) →
    b < length (elems t.parts) → c < length (elems t.parts) → type_le (type_plus (type_at t.parts b) (type_at t.parts c)) top ≡ true →
    row_entries (λ i. get_or numbers i 0) b c (unwrap_or (entry_of t.parts b c) []) ≡ product_entries t top b c
entry-equal t top numbers b c tab e h k l = by_entry (entry_of t.parts b c) refl ∙ rw l refl
  where
    at : (i : ℕ) → i < length (elems t.parts) → get_or numbers i 0 ≡ number_of t top i
    at i m = ap (λ (ns : List ℕ). get_or ns i 0) e ∙ map-get (number_of t top) (length (elems t.parts)) i 0 m

    by_entry : (o : Option Cells) → entry_of t.parts b c ≡ o →
        row_entries (λ i. get_or numbers i 0) b c (unwrap_or o []) ≡ row_entries (number_of t top) b c (unwrap_or o [])
    by_entry None q = refl
    by_entry (Some r) q = row-equal (λ i. get_or numbers i 0) (number_of t top) b c r (at b h) (at c k)
        (each_from_all (λ cell. get_or numbers cell.0 0 ≡ number_of t top cell.0) r (λ i d m. at (get_or r i d).0 ((entry_vector t b c r tab q).below i d m)))

-- ---- the whole

pub made-raw : (t : Table) (top own : List ℕ) (elements : List (List ℕ)) (generators : List (Option ℕ)) (entries : List RawEntry) → IsTable t → length top ≡ length t.target →
    own ≡ top → elements ≡ (sub_table t top).elements → generators ≡ (sub_table t top).generators → entries ≡ (sub_table t top).entries →
    IsRaw t.p (length t.target) (record { top = own; elements = elements; generators = generators; entries = entries })
made-raw t top own elements generators entries tab long a b c d =
    let h : IsRaw t.p (length t.target) (sub_table t top) = sub-raw t top tab long in
    record {
      top = ap length a ∙ h.top;
      elements = subst (λ (es : List (List ℕ)). All (λ e. length e ≡ length t.target) es) (sym b) h.elements;
      generators = ap length c ∙ h.generators;
      residues = subst (λ (es : List RawEntry). All (λ e. e.coef < t.p) es) (sym d) h.residues;
    }
