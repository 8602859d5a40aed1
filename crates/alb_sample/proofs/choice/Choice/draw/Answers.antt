use Rattle.std.proofs.Common.{◌≡◌, ◌∙◌, nat_lt}
use Rattle.std.specs.Prelude.{if◌then◌else◌}
use Rattle.alb_mono.specs.declared.side.Side.TheVariants.{Left, Right}
use Rattle.alb_sample.proofs.CodeLemmas.{choice-drawn, left-side, right-side}
use Rattle.alb_sample.proofs.choice.Choice.draw.Goals as goal
use Rattle.alb_sample.proofs.choice.Choice.draw.Goals.{then-place-lt2, else-place-lt2}

pub returns-clause-value : goal.returns-clause-value
returns-clause-value c =
    let side : c.if-place-lt2.side ≡ (if nat_lt c.draw-place.result 2 then Left else Right) = elim c.if-place-lt2.branch [
      | then-place-lt2 w ↦ w.side-is ∙ left-side c.draw-place.result w.if-place-lt2.true
      | else-place-lt2 w ↦ w.side-is ∙ right-side c.draw-place.result w.if-place-lt2.false
    ] in
    choice-drawn c.args.draws.now c.draw-identity.new.self c.draw-first.new.self c.draw-second.new.self c.draw-third.new.self
    c.draw-identity.result c.draw-first.result c.draw-second.result c.draw-third.result c.draw-place.result c.if-place-lt2.side
    c.draw-identity.ensures.value c.draw-identity.ensures.state c.draw-first.ensures.value c.draw-first.ensures.state
    c.draw-second.ensures.value c.draw-second.ensures.state c.draw-third.ensures.value c.draw-third.ensures.state c.draw-place.ensures.value side
