use Rattle.std.proofs.Common.{List, map, arith, refl}
use Rattle.std.specs.List.{flat_map}
use Rattle.std.proofs.lemmas.List.{at_drop_all}
use Rattle.alb_mono.specs.declared.mono.Mono.{Mono}
use Rattle.alb_mono.specs.Tree.{tree}
use Rattle.alb_evidence.specs.Texts.{spaced_mono}
use Rattle.alb_print.proofs.Pieces.{flat-map-at}
use Rattle.alb_io.proofs.Writers.{Writes-exit, Writing-start, Writing-more, Writing-fails, Writing-all}
use Rattle.alb_evidence.proofs.derivation.write_monos.Goals as goal

pub loop-m-init : goal.loop-m-init
loop-m-init g c = Writing-start _ refl

pub returns-in_err-write_spaced : goal.returns-in_err-write_spaced
returns-in_err-write_spaced g c =
    let here = flat-map-at tree (spaced_mono c.args.letters.now) c.args.ms.now c.loop-m.m-index c.m-item.result c.loop-m-test.true c.m-item.is in
    Writes-exit _ _ c.from_residual.ensures.1 (Writing-fails _ c.loop-m.invariant c.in_err-write_spaced.ensures here)

pub loop-m-preserved : goal.loop-m-preserved
loop-m-preserved g c =
    let here = flat-map-at tree (spaced_mono c.args.letters.now) c.args.ms.now c.loop-m.m-index c.m-item.result c.loop-m-test.true c.m-item.is in
    Writing-more c.loop-m.invariant c.in_ok-write_spaced.ensures here

pub returns : goal.returns
returns g c = Writing-all c.loop-m.invariant (at_drop_all (λ (l : List Mono). flat_map (spaced_mono c.args.letters.now) (map tree l)) c.args.ms.now c.loop-m.m-index (omega arith))
