use Rattle.alb_sample.proofs.ValueLemmas.{both-ok, generator-row, left-consequence, right-consequence}
use Rattle.alb_sample.proofs.values.Values.consequence.Goals as goal

pub multiply-requires-clause-left_row : goal.multiply-requires-clause-left_row
multiply-requires-clause-left_row c =
    (generator-row c.args.tables.now c.args.self.now c.requires.values c.args.choice.now.generator c.from.result c.index-generator.result.now c.requires.choice.generator c.from.ensures c.index-generator.ensures).row

pub returns-in-Left : goal.returns-in-Left
returns-in-Left c =
    let t = c.args.tables.now in
    let x = generator-row t c.args.self.now c.requires.values c.args.choice.now.generator c.from.result c.index-generator.result.now c.requires.choice.generator c.from.ensures c.index-generator.ensures in
    both-ok c.multiply.result _ _ _ c.multiply.ensures.value c.multiply.ensures.row
    (λ z e v. left-consequence t c.args.choice.now c.index-generator.result.now c.in_ok-value.value z c.in-Left.is x c.in_ok-value.ensures v e)

pub multiply-requires-in-Right-clause-right_row : goal.multiply-requires-in-Right-clause-right_row
multiply-requires-in-Right-clause-right_row c =
    (generator-row c.args.tables.now c.args.self.now c.requires.values c.args.choice.now.generator c.from.result c.index-generator.result.now c.requires.choice.generator c.from.ensures c.index-generator.ensures).row

pub returns : goal.returns
returns c =
    let t = c.args.tables.now in
    let x = generator-row t c.args.self.now c.requires.values c.args.choice.now.generator c.from.result c.index-generator.result.now c.requires.choice.generator c.from.ensures c.index-generator.ensures in
    both-ok c.multiply-in-Right.result _ _ _ c.multiply-in-Right.ensures.value c.multiply-in-Right.ensures.row
    (λ z e v. right-consequence t c.args.choice.now c.index-generator.result.now c.in_ok-value.value z c.in-Right.is x c.in_ok-value.ensures v e)
