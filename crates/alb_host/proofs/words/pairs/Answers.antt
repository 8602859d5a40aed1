use Rattle.std.proofs.Common.{ℕ, ◌-◌, List, [], length, get_or, arith}
use Rattle.std.proofs.lemmas.List.{length-map}
use denote.Ref.{Bor}
use Rattle.alb_host.proofs.WordLemmas.{pairs-step, pairs-end, two-first}
use Rattle.alb_host.proofs.words.pairs.Goals as goal

pub pairs-preserved : goal.pairs-preserved
pairs-preserved c =
    let d : Bor (List ℕ) = record { ref_ptr = (0, 0); now = [] } in
    pairs-step (record { input = get_or c.pairs.rest.now 0 d; output = get_or c.pairs.rest.now 1 d }) _ _ _ _ _ (two-first c.pairs.rest.now d (length c.pairs.rest.now - 2) c.in-len2-up.len_at_least (omega arith)) c.in_ok-push.ensures.items
    c.pairs.invariant

pub returns : goal.returns
returns c = pairs-end _ _ _ (omega (arith, c.in_default.len_below, length-map c.pairs.rest.now (λ (s : Bor (List ℕ)). s.now))) c.pairs.invariant
