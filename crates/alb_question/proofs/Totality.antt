-- Each accepted problem has a table at which its building ends, and for each question something is found by it.
use Rattle.std.proofs.Common.{◌≡◌, ℕ, ◌<◌, ◌^◌, length, None, Some, refl}
use Rattle.alb_problem.specs.Builder.{Builder, forms_of}
use Rattle.alb_problem.proofs.SoundLemmas.{problem-few}
use Rattle.alb_build.specs.Laws.{HasEnd}
use Rattle.alb_build.proofs.EndLemmas.{each-ends}
use Rattle.alb_query.proofs.LawLemmas.{each-is-answered}
use Rattle.alb_trace.proofs.Shown.{each-is-shown}
use Rattle.alb_question.specs.Question.{Shot, rules_of, IsBuilt}
use Rattle.alb_question.specs.Question as asking
use Rattle.alb_question.specs.Laws.{EachIsBuilt, EachIsFound}
use Rattle.alb_question.proofs.ProblemRules.{problem-target, problem-multilinear, problem-high}

pub each-built : EachIsBuilt
each-built b h =
    let e : HasEnd (rules_of b) = each-ends (rules_of b) h.sound.field (problem-target b h.sound h.accepted) (problem-multilinear b h.sound) (problem-high b h.sound) in
    (record { table = e.table; end = Some e.end }, record { right = e.right; end = e.end; known = refl; ends = e.ends })

pub each-found : EachIsFound
each-found b t (asking.Polynomial g) h right =
    let a = each-is-answered (rules_of b) t g right in (asking.Answered a.0, a.1)
each-found b t (asking.Prove g) h right =
    let few : length (forms_of b) < 10 ^ 18 = problem-few b h.sound in
    let a = each-is-answered (rules_of b) t g right in
    let s = each-is-shown (rules_of b) t g a.0 right few a.1 in
    (asking.Proved a.0 s.0, record { answer = a.1; shows = s.1 })
each-found b t asking.Dimensions h right = (asking.OfDimensions, tt)
each-found b t asking.Products h right = (asking.OfProducts, tt)
