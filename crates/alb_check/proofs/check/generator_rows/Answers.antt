use Rattle.std.proofs.Common.{◌≡◌, ◌<◌, ℕ, List, get_or, arith, ap, ◌∙◌, sym, subst, map, length}
use Rattle.std.specs.Prelude.{Option, None, Some}
use Rattle.std.proofs.lemmas.List.{take_all}
use Rattle.alb_check.specs.Raw.{raw}
use Rattle.alb_check.proofs.TableLemmas.{shaped}
use Rattle.alb_check.proofs.CheckLemmas.{generator_row, generator_small, gives_generators}
use Rattle.alb_check.proofs.check.generator_rows.Goals as goal

pub overflow_cast-k : goal.overflow_cast-k
overflow_cast-k c =
    let t = raw c.args.table.now in
    let e : get_or t.generators c.loop-number.number-index None ≡ Some c.in-Some.k =
    subst (λ (os : List (Option ℕ)). get_or os c.loop-number.number-index None ≡ Some c.in-Some.k) c.deref-number-items.ensures.value c.in-Some.is in
    let small : c.in-Some.k < 4294967296 =
    generator_small c.args.rules.now.target c.args.rules.now.field t (shaped c.args.rules.now.target c.args.rules.now.field t c.requires) c.loop-number.number-index c.in-Some.k e in
    omega arith

pub returns : goal.returns
returns c =
    let l : length c.args.table.now.generators.items ≡ length c.deref-number-items.result.now = ap length (sym c.deref-number-items.ensures.value) in
    gives_generators (raw c.args.table.now) c.loop-number.rows.items
    (c.loop-number.invariant ∙ ap (map generator_row) (take_all c.loop-number.number-index c.args.table.now.generators.items (omega arith)))
