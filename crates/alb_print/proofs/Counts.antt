-- The counts of a type, joined by commas.
use Rattle.std.proofs.Common.{◌≡◌, ℕ, List, [], ◌∷◌, ◌++◌, ◌<◌, length, drop, get_or, map, arith, ap, ◌∙◌}
use Rattle.std.specs.Fmt.{decimal}
use Rattle.std.specs.List.{flat_map, join_with_byte}
use Rattle.std.proofs.lemmas.List.{append-nil}
use Rattle.std.proofs.lemmas.List.Concat.{flat_map-cons}

-- a count after another one
abbrev pub later_count : ℕ → List ℕ
later_count n = 44 ∷ decimal n

joined : (n : ℕ) (ns : List ℕ) → decimal n ++ flat_map later_count ns ≡ join_with_byte 44 (decimal n ∷ map decimal ns)
joined n [] = append-nil (decimal n)
joined n (m ∷ ns) = ap (λ r. decimal n ++ r) (flat_map-cons later_count m ns ∙ ap (λ r. 44 ∷ r) (joined m ns))

pub counts-cons : (ns : List ℕ) → 0 < length ns → decimal (get_or ns 0 0) ++ flat_map later_count (drop 1 ns) ≡ join_with_byte 44 (map decimal ns)
counts-cons [] h = absurd (omega arith)
counts-cons (n ∷ ns) h = joined n ns
