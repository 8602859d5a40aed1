use Rattle.std.proofs.Common.{rules, ◌≡◌, ◌∙◌, sym, ap, ◌+◌, ◌-◌, ◌<◌, arith, take, length, ◌^◌}
use Rattle.std.proofs.lemmas.List.{take-take}
use Rattle.alb_mono.proofs.TypesListing.{length-minus}
use Rattle.alb_mono.proofs.ListingLemmas.{each-at}
use Rattle.alb_subst.specs.declared.range.Range.{Range}
use Rattle.alb_subst.proofs.NextLemmas.{here_at, round, next_inside, next_later, next_more, last_of, at_place, kept_place}
use Rattle.alb_subst.proofs.tuples.+next_at.Goals as goal

pub returns-then-k-ranges-clause-none : goal.returns-then-k-ranges-clause-none
returns-then-k-ranges-clause-none t c = λ _.
    let h = here_at c.args.ranges.now c.args.r.now c.args.current.now.items c.args.i c.index-b.result.now c.find_range-k.result c.requires.rises c.requires.tuple (omega arith) c.index-b.ensures c.find_range-k.ensures.value in
    absurd (let l = h.0 in omega arith)

pub minus-rest-requires-clause-within : goal.minus-rest-requires-clause-within
minus-rest-requires-clause-within t c =
    let h = here_at c.args.ranges.now c.args.r.now c.args.current.now.items c.args.i c.index-b.result.now c.find_range-k.result c.requires.rises c.requires.tuple (omega arith) c.index-b.ensures c.find_range-k.ensures.value in
    (h.1 c.index-ranges-k.result c.index-ranges-k.is).within

pub next_at-requires : goal.next_at-requires
next_at-requires t c =
    let h = here_at c.args.ranges.now c.args.r.now c.args.current.now.items c.args.i c.index-b.result.now c.find_range-k.result c.requires.rises c.requires.tuple (omega arith) c.index-b.ensures c.find_range-k.ensures.value in
    let y = h.1 c.index-ranges-k.result c.index-ranges-k.is in
    let q : length c.index-ranges-k.result.at ≡ length c.args.r.now = rw c.index-ranges-k.is (each-at (λ (s : Range). length s.at ≡ length c.args.r.now) c.args.ranges.now c.find_range-k.result c.index-ranges-k.result c.requires.long (let l = h.0 in l)) in
    (search rules, (omega arith, (rw (c.minus-rest.ensures, length-minus c.args.r.now c.index-ranges-k.result.at q) c.requires.long, (c.requires.rises, (c.requires.fit, rw c.minus-rest.ensures y.rest)))))

pub returns-then-next_at-clause-kept : goal.returns-then-next_at-clause-kept
returns-then-next_at-clause-kept t c =
    sym (take-take c.args.i (c.args.i + 1) c.next_at.new.current.items (omega arith)) ∙ ap (take c.args.i) c.next_at.ensures.kept
    ∙ take-take c.args.i (c.args.i + 1) c.args.current.now.items (omega arith)

pub returns-then-next_at-clause-found : goal.returns-then-next_at-clause-found
returns-then-next_at-clause-found t c = λ _.
    let h = here_at c.args.ranges.now c.args.r.now c.args.current.now.items c.args.i c.index-b.result.now c.find_range-k.result c.requires.rises c.requires.tuple (omega arith) c.index-b.ensures c.find_range-k.ensures.value in
    let y = h.1 c.index-ranges-k.result c.index-ranges-k.is in
    let e = round c.args.ranges.now (length c.args.current.now.items - (c.args.i + 1)) (length c.args.current.now.items - c.args.i) c.args.r.now c.index-b.result.now c.find_range-k.result _ c.index-ranges-k.result h.0 c.index-ranges-k.is (omega arith) y in
    let o = at_place c.args.current.now.items c.args.i c.index-b.result.now (omega arith) c.index-b.ensures in
    let n = kept_place c.args.current.now.items c.next_at.new.current.items c.args.i c.index-b.result.now (omega arith) c.next_at.ensures.len c.next_at.ensures.kept c.index-b.ensures in
    let x = rw c.minus-rest.ensures at (c.next_at.ensures.found (search rules)) in
    rw (o, n) (next_inside _ _ _ _ c.index-b.result.now _ _ e x)

pub try_later-requires-clause-long : goal.try_later-requires-clause-long
try_later-requires-clause-long t c =
    let h = here_at c.args.ranges.now c.args.r.now c.args.current.now.items c.args.i c.index-b.result.now c.find_range-k.result c.requires.rises c.requires.tuple (omega arith) c.index-b.ensures c.find_range-k.ensures.value in
    let q : length c.index-ranges-k.result.at ≡ length c.args.r.now = rw c.index-ranges-k.is (each-at (λ (s : Range). length s.at ≡ length c.args.r.now) c.args.ranges.now c.find_range-k.result c.index-ranges-k.result c.requires.long (let l = h.0 in l)) in
    rw (c.minus-rest.ensures, length-minus c.args.r.now c.index-ranges-k.result.at q) c.requires.long

pub try_later-requires-clause-number : goal.try_later-requires-clause-number
try_later-requires-clause-number t c =
    let h = here_at c.args.ranges.now c.args.r.now c.args.current.now.items c.args.i c.index-b.result.now c.find_range-k.result c.requires.rises c.requires.tuple (omega arith) c.index-b.ensures c.find_range-k.ensures.value in
    (h.1 c.index-ranges-k.result c.index-ranges-k.is).low

pub try_later-requires-clause-number_below : goal.try_later-requires-clause-number_below
try_later-requires-clause-number_below t c =
    let h = here_at c.args.ranges.now c.args.r.now c.args.current.now.items c.args.i c.index-b.result.now c.find_range-k.result c.requires.rises c.requires.tuple (omega arith) c.index-b.ensures c.find_range-k.ensures.value in
    (h.1 c.index-ranges-k.result c.index-ranges-k.is).high

pub try_later-requires-clause-fits : goal.try_later-requires-clause-fits
try_later-requires-clause-fits t c =
    let h = here_at c.args.ranges.now c.args.r.now c.args.current.now.items c.args.i c.index-b.result.now c.find_range-k.result c.requires.rises c.requires.tuple (omega arith) c.index-b.ensures c.find_range-k.ensures.value in
    rw c.index-ranges-k.is (each-at (λ (s : Range). s.first + s.count < 2 ^ 32) c.args.ranges.now c.find_range-k.result c.index-ranges-k.result c.requires.fit h.0)

pub returns-then-try_later-clause-kept : goal.returns-then-try_later-clause-kept
returns-then-try_later-clause-kept t c =
    c.try_later.ensures.kept ∙ sym (take-take c.args.i (c.args.i + 1) c.next_at.new.current.items (omega arith)) ∙ ap (take c.args.i) c.next_at.ensures.kept
    ∙ take-take c.args.i (c.args.i + 1) c.args.current.now.items (omega arith)

pub returns-then-try_later-clause-found : goal.returns-then-try_later-clause-found
returns-then-try_later-clause-found t c = λ _.
    let h = here_at c.args.ranges.now c.args.r.now c.args.current.now.items c.args.i c.index-b.result.now c.find_range-k.result c.requires.rises c.requires.tuple (omega arith) c.index-b.ensures c.find_range-k.ensures.value in
    let y = h.1 c.index-ranges-k.result c.index-ranges-k.is in
    let e = round c.args.ranges.now (length c.args.current.now.items - (c.args.i + 1)) (length c.args.current.now.items - c.args.i) c.args.r.now c.index-b.result.now c.find_range-k.result _ c.index-ranges-k.result h.0 c.index-ranges-k.is (omega arith) y in
    let o = at_place c.args.current.now.items c.args.i c.index-b.result.now (omega arith) c.index-b.ensures in
    let l = rw c.minus-rest.ensures at (c.next_at.ensures.none c.if-next_at.false) in
    let x = rw (c.next_at.ensures.len, c.minus-rest.ensures) at (c.try_later.ensures.found (search rules)) in
    rw o (next_later _ _ _ _ c.index-b.result.now _ _ e l x)

pub returns-clause-kept : goal.returns-clause-kept
returns-clause-kept t c =
    c.try_from.ensures.kept ∙ c.try_later.ensures.kept ∙ sym (take-take c.args.i (c.args.i + 1) c.next_at.new.current.items (omega arith)) ∙ ap (take c.args.i) c.next_at.ensures.kept
    ∙ take-take c.args.i (c.args.i + 1) c.args.current.now.items (omega arith)

pub returns-clause-found : goal.returns-clause-found
returns-clause-found t c = λ p.
    let h = here_at c.args.ranges.now c.args.r.now c.args.current.now.items c.args.i c.index-b.result.now c.find_range-k.result c.requires.rises c.requires.tuple (omega arith) c.index-b.ensures c.find_range-k.ensures.value in
    let y = h.1 c.index-ranges-k.result c.index-ranges-k.is in
    let e = round c.args.ranges.now (length c.args.current.now.items - (c.args.i + 1)) (length c.args.current.now.items - c.args.i) c.args.r.now c.index-b.result.now c.find_range-k.result _ c.index-ranges-k.result h.0 c.index-ranges-k.is (omega arith) y in
    let o = at_place c.args.current.now.items c.args.i c.index-b.result.now (omega arith) c.index-b.ensures in
    let l = rw c.minus-rest.ensures at (c.next_at.ensures.none c.if-next_at.false) in
    let z = rw (c.next_at.ensures.len, c.minus-rest.ensures) at (c.try_later.ensures.none c.if-try_later.false) in
    let x = rw (c.try_later.ensures.len, c.next_at.ensures.len) at (c.try_from.ensures.found p) in
    rw o (next_more _ _ _ _ c.index-b.result.now _ _ e l z x)

pub returns-clause-none : goal.returns-clause-none
returns-clause-none t c = λ p.
    let h = here_at c.args.ranges.now c.args.r.now c.args.current.now.items c.args.i c.index-b.result.now c.find_range-k.result c.requires.rises c.requires.tuple (omega arith) c.index-b.ensures c.find_range-k.ensures.value in
    let y = h.1 c.index-ranges-k.result c.index-ranges-k.is in
    let e = round c.args.ranges.now (length c.args.current.now.items - (c.args.i + 1)) (length c.args.current.now.items - c.args.i) c.args.r.now c.index-b.result.now c.find_range-k.result _ c.index-ranges-k.result h.0 c.index-ranges-k.is (omega arith) y in
    let o = at_place c.args.current.now.items c.args.i c.index-b.result.now (omega arith) c.index-b.ensures in
    let l = rw c.minus-rest.ensures at (c.next_at.ensures.none c.if-next_at.false) in
    let z = rw (c.next_at.ensures.len, c.minus-rest.ensures) at (c.try_later.ensures.none c.if-try_later.false) in
    let x = rw (c.try_later.ensures.len, c.next_at.ensures.len) at (c.try_from.ensures.none p) in
    rw o (last_of _ _ _ _ c.index-b.result.now _ e l z x)
