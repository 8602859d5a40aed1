use Rattle.std.proofs.Common.{rules, ◌≡◌, ◌∙◌, arith}
use Rattle.std.specs.Prelude.{Some}
use Rattle.alb_table.specs.Grid.{first_cover}
use Rattle.alb_table.proofs.GridLemmas.{cover_covers, place_within, grids_found, grids_none, get_some}
use Rattle.alb_table.proofs.find.entry_in.Goals as goal

pub place-requires-clause-covered : goal.place-requires-clause-covered
place-requires-clause-covered c = cover_covers c.args.b c.args.c c.args.grids.now c.in-Some.g (search rules)

pub place-requires-clause-fits : goal.place-requires-clause-fits
place-requires-clause-fits c =
    let w = place_within c.args.b c.args.c 0 c.args.grids.now c.in-Some.g c.requires.offsets (search rules) in
    omega (arith, w, c.requires.full)

pub offset_bounds-entries-place : goal.offset_bounds-entries-place
offset_bounds-entries-place c =
    let w = place_within c.args.b c.args.c 0 c.args.grids.now c.in-Some.g c.requires.offsets (search rules) in
    omega (arith, w, c.requires.full)

pub bounds-entries-place : goal.bounds-entries-place
bounds-entries-place c =
    let w = place_within c.args.b c.args.c 0 c.args.grids.now c.in-Some.g c.requires.offsets (search rules) in
    omega (arith, w, c.requires.full)

pub returns-in-None-clause-none : goal.returns-in-None-clause-none
returns-in-None-clause-none c = grids_none c.args.b c.args.c c.args.grids.now c.args.entries.now (search rules)

pub returns-in-Some-clause-some : goal.returns-in-Some-clause-some
returns-in-Some-clause-some c =
    let f : first_cover c.args.b c.args.c c.args.grids.now ≡ Some c.in-Some.g = search rules in
    let w = place_within c.args.b c.args.c 0 c.args.grids.now c.in-Some.g c.requires.offsets f in
    grids_found c.args.b c.args.c 0 c.args.grids.now c.in-Some.g c.args.entries.now c.requires.offsets (omega (arith, c.requires.full)) f
    ∙ get_some c.args.entries.now _ c.index-entries-place.result (omega (arith, w, c.requires.full)) (rw c.place.ensures at c.index-entries-place.is)
