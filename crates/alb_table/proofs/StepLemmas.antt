-- Steps of loops over parts.
use Rattle.std.proofs.Common.{◌≡◌, ℕ, suc, ◌+◌, ◌<◌, ◌≤◌, List, [], ◌∷◌, ◌++◌, map, length, get_or, drop, sym, ap, ◌∙◌, arith, append_assoc}
use Rattle.std.proofs.lemmas.List.{drop_more, map-append, append-nil, drop_all}
use Rattle.std.specs.Arc.{arc_value}
use Rattle.std.specs.declared.sync.Arc.{Arc}
use Rattle.std.specs.declared.alloc.Global.{Global}
use Rattle.gf_sums.specs.Sums.{total}
use Rattle.alb_table.specs.declared.part.Part.{Part}
use Rattle.alb_table.specs.declared.stored.Stored.{Stored}
use Rattle.alb_table.specs.Table.{PartView, part_view, generator_view, first_parts, count_products, count_coefficients}
use Rattle.alb_table.specs.Views.{view_of}

-- one more part of degree 1
pub first_more : (parts next : List Part) (q : Part) (ts : List (List ℕ)) (t : List ℕ) (k : ℕ) (whole : List PartView) → k < length ts → t ≡ get_or ts k t →
    part_view q ≡ generator_view k t → next ≡ parts ++ q ∷ [] → map part_view parts ++ first_parts k (drop k ts) ≡ whole →
    map part_view next ++ first_parts (k + 1) (drop (k + 1) ts) ≡ whole
first_more parts next q ts t k whole l i v n h =
    let d : drop k ts ≡ t ∷ drop (k + 1) ts = drop_more ts k t l ∙ ap (λ (u : List ℕ). u ∷ drop (k + 1) ts) (sym i) in
    let s : k + 1 ≡ suc k = omega arith in
    ap (λ (ps : List Part). map part_view ps ++ first_parts (k + 1) (drop (k + 1) ts)) n
    ∙ ap (λ (xs : List PartView). xs ++ first_parts (k + 1) (drop (k + 1) ts)) (map-append part_view parts (q ∷ []))
    ∙ append_assoc (map part_view parts) (part_view q ∷ []) (first_parts (k + 1) (drop (k + 1) ts))
    ∙ ap (λ (w : PartView). map part_view parts ++ (w ∷ first_parts (k + 1) (drop (k + 1) ts))) v
    ∙ ap (λ m. map part_view parts ++ (generator_view k t ∷ first_parts m (drop (k + 1) ts))) s
    ∙ ap (λ (xs : List (List ℕ)). map part_view parts ++ first_parts k xs) (sym d)
    ∙ h

pub first_all : (xs whole : List PartView) (ts : List (List ℕ)) (k : ℕ) → length ts ≤ k → xs ++ first_parts k (drop k ts) ≡ whole → xs ≡ whole
first_all xs whole ts k l h =
    sym (append-nil xs) ∙ ap (λ (us : List (List ℕ)). xs ++ first_parts k us) (sym (nothing k ts l)) ∙ h
  where
    nothing : (k : ℕ) (ts : List (List ℕ)) → length ts ≤ k → drop k ts ≡ []
    nothing k ts l = drop_all k ts l

-- one more part of a count
pub products_more : (arcs : List (Arc Stored Global)) (k : ℕ) (a : Arc Stored Global) → k < length arcs → a ≡ get_or arcs k a →
    count_products (map view_of (drop k arcs)) ≡ length (arc_value a).part.entries.items + count_products (map view_of (drop (k + 1) arcs))
products_more arcs k a l i =
    ap (λ (xs : List (Arc Stored Global)). count_products (map view_of xs)) (drop_more arcs k a l ∙ ap (λ (u : Arc Stored Global). u ∷ drop (k + 1) arcs) (sym i))

pub coefficients_more : (arcs : List (Arc Stored Global)) (k : ℕ) (a : Arc Stored Global) → k < length arcs → a ≡ get_or arcs k a →
    count_coefficients (map view_of (drop k arcs))
    ≡ total (λ (cells : List (ℕ × ℕ)). length cells) (arc_value a).part.entries.items + count_coefficients (map view_of (drop (k + 1) arcs))
coefficients_more arcs k a l i =
    ap (λ (xs : List (Arc Stored Global)). count_coefficients (map view_of xs)) (drop_more arcs k a l ∙ ap (λ (u : Arc Stored Global). u ∷ drop (k + 1) arcs) (sym i))
