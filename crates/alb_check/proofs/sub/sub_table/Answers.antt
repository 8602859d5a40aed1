use Rattle.std.proofs.Common.{◌<◌, ◌∙◌, length, map, ap, sym, subst}
use Rattle.alb_mono.specs.Listing.{Each}
use Rattle.alb_mono.proofs.ListingLemmas.{each-weaker}
use Rattle.alb_table.specs.Table.{elems, type_at}
use Rattle.alb_check.specs.SubTable.{kept_elements}
use Rattle.alb_check.proofs.SubCode.{kept-all, made-raw}
use Rattle.alb_check.proofs.SubShape.{IsKept}
use Rattle.alb_check.proofs.sub.sub_table.Goals as goal

pub element_types-requires : goal.element_types-requires
element_types-requires c =
    let t = c.args.tables.now in
    let top = c.args.top.now in
    subst (Each (λ b. b < length (elems t.parts))) (sym (c.deref.ensures.value ∙ c.in_ok-kept.ensures.elements))
    (each-weaker (IsKept t top) (λ b. b < length (elems t.parts)) (kept_elements t top) (λ b h. h.below) (kept-all t top))

pub returns-clause-raw : goal.returns-clause-raw
returns-clause-raw c =
    made-raw c.args.tables.now c.args.top.now c.of.result c.in_ok-elements.elements.items c.in_ok-generators.generators.items c.in_ok-entries.entries.items
    c.degree.ensures.table c.requires (c.of.ensures ∙ c.counts.ensures.value)
    (c.in_ok-elements.ensures ∙ ap (map (type_at c.args.tables.now.parts)) (c.deref.ensures.value ∙ c.in_ok-kept.ensures.elements)) c.in_ok-generators.ensures c.in_ok-entries.ensures
