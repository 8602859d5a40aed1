use Rattle.std.proofs.Common.{◌≡◌, ◌+◌, ◌∙◌, ℕ, [], ◌∷◌, ap, ap₂, sym, arith}
use Rattle.gf_sums.specs.Sums.{total}
use Rattle.alb_mono.specs.Tree.{leaf, count}
use Rattle.alb_sample.specs.Choice.{argument}
use Rattle.alb_sample.proofs.ChoiceLemmas.{all_of, chosen-type}
use Rattle.alb_sample.proofs.CodeLemmas.{generator-argument}
use Rattle.alb_sample.proofs.choice.Choice.type_of.Goals as goal

pub returns : goal.returns
returns c =
    let g = ap argument c.from.ensures ∙ generator-argument c.args.self.now.generator c.requires.generator in
    let ga : c.counts_of-generator.result.0 ≡ count 0 (leaf c.args.self.now.generator) = c.counts_of-generator.ensures.a ∙ ap (count 0) g in
    let gb : c.counts_of-generator.result.1 ≡ count 1 (leaf c.args.self.now.generator) = c.counts_of-generator.ensures.b ∙ ap (count 1) g in
    let a : c.counts_of-generator.result.0 + c.counts_of-first.result.0 + c.counts_of-second.result.0 + c.counts_of-third.result.0 ≡ total (count 0) (all_of c.args.self.now) =
    omega (arith, ga, c.counts_of-first.ensures.a, c.counts_of-second.ensures.a, c.counts_of-third.ensures.a) in
    let b : c.counts_of-generator.result.1 + c.counts_of-first.result.1 + c.counts_of-second.result.1 + c.counts_of-third.result.1 ≡ total (count 1) (all_of c.args.self.now) =
    omega (arith, gb, c.counts_of-first.ensures.b, c.counts_of-second.ensures.b, c.counts_of-third.ensures.b) in
    c.of.ensures ∙ ap₂ (λ (m n : ℕ). m ∷ n ∷ []) a b ∙ sym (chosen-type c.args.self.now)
