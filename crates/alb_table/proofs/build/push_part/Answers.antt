use Rattle.std.proofs.Common.{rules, ◌≡◌, ◌∙◌, ap, ◌++◌, ◌∷◌, [], map, arith, length, replicate, List}
use Rattle.std.specs.List.{flat_map}
use Rattle.std.proofs.lemmas.List.{take_all}
use Rattle.std.specs.declared.sync.Arc.{Arc}
use Rattle.std.specs.declared.alloc.Global.{Global}
use Rattle.alb_mono.specs.Tree.{splits}
use Rattle.alb_table.specs.Grid.{cells_of}
use Rattle.alb_table.specs.declared.part.Elem.{Elem}
use Rattle.alb_table.specs.Table.{part_view}
use Rattle.alb_table.specs.Views.{view_of}
use Rattle.alb_table.proofs.PartLemmas.{pushes, cells-grids, offsets-grids}
use Rattle.alb_table.proofs.build.push_part.Goals as goal

pub returns : goal.returns
returns c =
    let e = c.in_ok-stored.ensures.ok in
    let g = c.in_ok-grids.ensures in
    let k : c.len-k.result ≡ length c.args.store.now.parts.items = search rules in
    let v : length c.deref-elem-items.result.now ≡ length c.args.part.basis.items = ap length c.deref-elem-items.ensures.value in
    let i : c.loop-elem.elem-index ≡ length c.args.part.basis.items = omega arith in
    let n : c.loop-elem.store.part_of.items ≡ c.args.store.now.part_of.items ++ replicate (length c.args.part.basis.items) (length c.args.store.now.parts.items) =
    c.loop-elem.invariant.0 ∙ ap (λ m. c.args.store.now.part_of.items ++ replicate m c.len-k.result) i
    ∙ ap (λ m. c.args.store.now.part_of.items ++ replicate (length c.args.part.basis.items) m) k in
    let l : c.loop-elem.store.elems.items ≡ c.args.store.now.elems.items ++ c.args.part.basis.items =
    c.loop-elem.invariant.1
    ∙ ap (λ (es : List Elem). c.args.store.now.elems.items ++ es) (take_all c.loop-elem.elem-index c.deref-elem-items.result.now (omega arith) ∙ c.deref-elem-items.ensures.value) in
    pushes (map view_of c.args.old.now) c.args.store.now _ c.in_ok-stored.stored (part_view c.args.part)
    (c.in_ok-push-3.ensures.items ∙ ap (λ (xs : List (Arc _ Global)). xs ++ c.in_ok-stored.stored ∷ []) (ap (λ v. v.items) c.loop-elem.invariant.2))
    (ap (λ s. part_view s.part) e) n l
    (record {
      cells = rw e (ap (flat_map cells_of) g ∙ cells-grids (map view_of c.args.old.now) 0 _);
      offsets = rw (e, g) (offsets-grids (map view_of c.args.old.now) 0 (splits c.args.part.at));
      rises = rw (e, g) c.requires.full.rises;
      full = rw e c.requires.full.full;
    })
