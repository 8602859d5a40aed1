use Rattle.std.proofs.Common.{length, get_or, cond, ltb, false, w16, arith, ◌∙◌, ap}
use lib.Lanes.{zip2, sel_l}
use Rattle.std.proofs.lemmas.Simd.{tops_compared, length-zip2, length-sel_l, get_or-sel_l, get_or-zip2}
use Rattle.gf_lanes.proofs.vectors.lesser.Goals as goal

pub returns-clause-len : goal.returns-clause-len
returns-clause-len c =
    let a = c.args.a in
    let b = c.args.b in
    let long = length-zip2 ltb a b (omega arith) in
    ap (λ ms. length (sel_l ms a b)) (tops_compared w16 ltb a b) ∙ omega (arith, length-sel_l (zip2 ltb a b) a b (omega arith) (omega arith))

pub returns-clause-value : goal.returns-clause-value
returns-clause-value c i l =
    let a = c.args.a in
    let b = c.args.b in
    let long = length-zip2 ltb a b (omega arith) in
    ap (λ ms. get_or (sel_l ms a b) i 0) (tops_compared w16 ltb a b)
    ∙ get_or-sel_l (zip2 ltb a b) a b i 0 (omega arith) (omega arith) (omega arith)
    ∙ ap (λ t. cond t (get_or a i 0) (get_or b i 0)) (get_or-zip2 ltb a b i 0 0 false (omega arith) (omega arith))
