use Rattle.std.proofs.Common.{◌≡◌, ◌≤◌, true, length, map, sym, ap, arith}
use Rattle.std.proofs.lemmas.List.{length-map}
use denote.Ref.{Bor}
use Rattle.std.proofs.Common.{List, ℕ}
use Rattle.alb_host.specs.Words.{are_pairs, names_view}
use Rattle.alb_host.proofs.WordLemmas.{pairs-few, pairs-most}
use Rattle.alb_host.proofs.words.read_host_words.Goals as goal

pub returns-in-Ok-clause-few : goal.returns-in-Ok-clause-few
returns-in-Ok-clause-few c =
    let rest = c.in-Some.rest.now in
    let some : are_pairs (length rest) ≡ true = sym c.if-not-are_pairs.ensures in
    let few = pairs-few (map (λ (s : Bor (List ℕ)). s.now) rest) in
    let most : length rest ≤ 16 = pairs-most (length rest) some in
    omega (arith, ap length c.in-Ok.ensures, length-map c.in-Ok.sessions.items names_view, length-map rest (λ (s : Bor (List ℕ)). s.now), few, most)
