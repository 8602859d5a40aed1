use Rattle.std.proofs.Common.{◌<◌, length, drop, arith, false-eqb}
use Rattle.std.specs.List.{flat_map}
use Rattle.alb_io.proofs.Writers.{Writes-exit, Writes-more, Writes-then, Writes-text}
use Rattle.alb_print.proofs.Counts.{later_count, counts-cons}
use Rattle.alb_print.proofs.multi.write_counts.Goals as goal

pub returns-in_err-write_count : goal.returns-in_err-write_count
returns-in_err-write_count g c =
    let counts = c.args.counts.now in
    let some : 0 < length counts = omega (arith, false-eqb (length counts) 0 c.if-is_empty.ensures) in
    Writes-exit _ _ c.from_residual.ensures.1
    (Writes-text (counts-cons counts some) (Writes-more (flat_map later_count (drop 1 counts)) (rw c.from.ensures at c.in_err-write_count.ensures)))

pub returns : goal.returns
returns g c =
    let counts = c.args.counts.now in
    let some : 0 < length counts = omega (arith, false-eqb (length counts) 0 c.if-is_empty.ensures) in
    Writes-text (counts-cons counts some)
    (Writes-then (rw c.from.ensures at c.in_ok-write_count.ensures) (rw c.behind.ensures at c.write_later_counts.ensures))
