use Rattle.std.proofs.Common.{refl, arith}
use Rattle.alb_reduce.proofs.PlaceLemmas.{index_found}
use Rattle.alb_reduce.proofs.places.place_of.Goals as goal

pub returns-else-n-eq0 : goal.returns-else-n-eq0
returns-else-n-eq0 c pivots index = index_found pivots c.args.places.now c.args.column _ _ index refl (omega arith)
