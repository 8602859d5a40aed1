-- Words two by two.
use Rattle.std.proofs.Common.{◌≡◌, ℕ, ◌+◌, ◌<◌, ◌≤◌, true, List, [], ◌∷◌, ◌++◌, length, map, drop, take, get_or, refl, sym, ap, ◌∙◌, append_assoc, arith}
use denote.Ref.{Bor}
use Rattle.std.proofs.lemmas.Bool.Decides.{nat_tests}
use Rattle.std.proofs.lemmas.List.{append-nil, map-append, take_all}
use Rattle.alb_host.specs.Words.{pairs_of, are_pairs, names_view}
use Rattle.alb_host.specs.declared.words.Names.{Names}

-- one pair more
pub pairs-step : (n : Names) (names new : List Names) (all : List (List ℕ × List ℕ)) (rest others : List (List ℕ)) → rest ≡ n.input.now ∷ n.output.now ∷ others → new ≡ names ++ n ∷ []
    → all ≡ map names_view names ++ pairs_of rest → all ≡ map names_view new ++ pairs_of others
unfolding pairs_of
pairs-step n names new all rest others is made so_far =
    so_far ∙ ap (λ ws. map names_view names ++ pairs_of ws) is ∙ sym (append_assoc (map names_view names) (names_view n ∷ []) (pairs_of others))
    ∙ ap (λ l. l ++ pairs_of others) (sym (ap (map names_view) made ∙ map-append names_view names (n ∷ [])))

pairs-short : (ws : List (List ℕ)) → length ws < 2 → pairs_of ws ≡ []
unfolding pairs_of
pairs-short [] h = refl
pairs-short (x ∷ []) h = refl
pairs-short (x ∷ y ∷ ws) h = absurd (omega (arith, h))

-- after the last pair
pub pairs-end : (made all : List (List ℕ × List ℕ)) (rest : List (List ℕ)) → length rest < 2 → all ≡ made ++ pairs_of rest → made ≡ all
pairs-end made all rest h is = sym (is ∙ ap (λ l. made ++ l) (pairs-short rest h) ∙ append-nil made)

-- how many there are
pub pairs-few : (ws : List (List ℕ)) → length (pairs_of ws) + length (pairs_of ws) ≤ length ws
unfolding pairs_of
pairs-few [] = omega arith
pairs-few (x ∷ []) = omega arith
pairs-few (x ∷ y ∷ ws) = omega (arith, pairs-few ws)

-- at most 8
pub pairs-most : (n : ℕ) → are_pairs n ≡ true → n ≤ 16
pairs-most n h = grind (arith, nat_tests, h)

-- two words stand first, and then at most `k` others
pub two-first : (xs : List (Bor (List ℕ))) (d : Bor (List ℕ)) (k : ℕ) → 2 ≤ length xs → length xs ≤ k + 2
    → map (λ s. s.now) xs ≡ (get_or xs 0 d).now ∷ (get_or xs 1 d).now ∷ map (λ s. s.now) (take k (drop 2 xs))
two-first [] d k h few = absurd (omega (arith, h))
two-first (x ∷ []) d k h few = absurd (omega (arith, h))
two-first (x ∷ y ∷ xs) d k h few = ap (λ (zs : List (Bor (List ℕ))). x.now ∷ y.now ∷ map (λ s. s.now) zs) (sym (take_all k xs (omega (arith, few))))
