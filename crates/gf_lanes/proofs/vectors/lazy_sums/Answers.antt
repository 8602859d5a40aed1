use Rattle.std.proofs.Common.{◌≡◌, ◌+◌, ◌-◌, ◌*◌, ◌/◌, get_or, ◌∙◌, arith, subst, sym}
use Rattle.gf_lanes.proofs.LaneLemmas.{estimated, factor_fits, unwrapped, same_less}
use Rattle.gf_field.specs.Modular.{IsSameMod}
use Rattle.gf_lanes.proofs.vectors.lazy_sums.Goals as goal

pub overflow_cast-k-3 : goal.overflow_cast-k-3
overflow_cast-k-3 c = record { fits = factor_fits c.args.p c.args.c c.requires.multiplier }

pub returns-clause-same : goal.returns-clause-same
returns-clause-same c i l =
    let d = get_or c.args.d i 0 in
    let s = get_or c.args.s i 0 in
    let p = c.args.p in
    let q = s * (65536 * c.args.c / p) / 65536 in
    let both = estimated p c.args.c s (omega (arith, c.requires.above_one)) (c.requires.fits i l) in
    let e : get_or c.wrapping_minus.result i 0 ≡ d + (c.args.c * s - q * p) =
    c.wrapping_minus.ensures.value i l
    ∙ rw (c.wrapping_plus-sum.ensures.value i l, c.wrapping_times.ensures.value i l, c.wrapping_times-2.ensures.value i l, c.upper_halves-q.ensures.value i l, c.splat.ensures.value i l, c.splat-2.ensures.value i l, c.splat-3.ensures.value i l)
    (unwrapped d (c.args.c * s) (q * p) both.0 (omega (arith, both.1, both.0, c.requires.room i l))) in
    subst (λ x. IsSameMod p x (d + c.args.c * s)) (sym e) (same_less p d (c.args.c * s) q both.0)

pub returns-clause-below : goal.returns-clause-below
returns-clause-below c i l =
    let d = get_or c.args.d i 0 in
    let s = get_or c.args.s i 0 in
    let p = c.args.p in
    let q = s * (65536 * c.args.c / p) / 65536 in
    let both = estimated p c.args.c s (omega (arith, c.requires.above_one)) (c.requires.fits i l) in
    let e : get_or c.wrapping_minus.result i 0 ≡ d + (c.args.c * s - q * p) =
    c.wrapping_minus.ensures.value i l
    ∙ rw (c.wrapping_plus-sum.ensures.value i l, c.wrapping_times.ensures.value i l, c.wrapping_times-2.ensures.value i l, c.upper_halves-q.ensures.value i l, c.splat.ensures.value i l, c.splat-2.ensures.value i l, c.splat-3.ensures.value i l)
    (unwrapped d (c.args.c * s) (q * p) both.0 (omega (arith, both.1, both.0, c.requires.room i l))) in
    rw e (omega (arith, both.0, both.1))
