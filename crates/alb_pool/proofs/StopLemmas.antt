-- An end that is no want of memory.
use Rattle.std.proofs.Common.{◌≢◌, List, refl}
use Rattle.alb_poly.specs.Instance.{Form}
use Rattle.alb_table.specs.End.{End, Complete, TooWide, TooManyProducts, TooManyCoefficients, NoMemory, IsEnd}
use Rattle.alb_table.specs.Table.{Table}
use Rattle.alb_pool.specs.Stops.{IsStop}

pub end-of-stop : (fs : List Form) (t : Table) (e : End) → IsStop fs t e → e ≢ NoMemory → IsEnd fs t e
end-of-stop fs t Complete s n = s
end-of-stop fs t (TooWide w m) s n = s
end-of-stop fs t (TooManyProducts m) s n = s
end-of-stop fs t (TooManyCoefficients m) s n = s
end-of-stop fs t NoMemory s n = absurd (n refl)

pub stop-of-end : (fs : List Form) (t : Table) (e : End) → IsEnd fs t e → IsStop fs t e
stop-of-end fs t Complete h = h
stop-of-end fs t (TooWide w n) h = h
stop-of-end fs t (TooManyProducts n) h = h
stop-of-end fs t (TooManyCoefficients n) h = h
stop-of-end fs t NoMemory h = tt
