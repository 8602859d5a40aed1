-- Places without an element.
use Rattle.std.proofs.Common.{◌≡◌, ℕ, suc, ◌+◌, ◌-◌, ◌<◌, List, [], ◌∷◌, ◌++◌, length, Option, None, sym, ap, ◌∙◌, append_assoc, arith}
use Rattle.std.specs.Prelude.{replicate}
use Rattle.std.proofs.lemmas.List.{length-append}

pub pad-step : (list more : List (Option ℕ)) (n : ℕ) → more ≡ list ++ None ∷ [] → length list < n → more ++ replicate (n - length more) None ≡ list ++ replicate (n - length list) None
pad-step list more n e l =
    let long : length more ≡ length list + 1 = ap length e ∙ length-append list (None ∷ []) in
    let less : n - length list ≡ suc (n - length more) = omega (arith, long) in
    (λ i. e i ++ replicate (n - length more) None) ∙ append_assoc list (None ∷ []) (replicate (n - length more) None) ∙ ap (λ k. list ++ replicate k None) (sym less)
