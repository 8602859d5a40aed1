use Rattle.std.proofs.Common.{◌≡◌, ◌∙◌, ◌+◌, ◌%◌, ◌<◌, false, true, not, get_or, length, ap, sym, arith}
use Rattle.std.specs.List.{list_any}
use Rattle.std.specs.Prelude.{◌==◌}
use Rattle.std.proofs.lemmas.List.{get_or_default}
use Rattle.alb_deriv.specs.Numbered.{IsFit}
use Rattle.alb_deriv.proofs.TallyLemmas.{key-known, tally-new, tally-known, new-each}
use Rattle.alb_deriv.proofs.tally.Tally.add.Goals as goal

pub returns-then-is_new-clause-value : goal.returns-then-is_new-clause-value
returns-then-is_new-clause-value c =
    let ks = c.args.self.now.numbers.keys in
    let added : true ≡ not (list_any (λ k. c.args.number == k) ks) = sym c.if-is_new.true ∙ c.in_ok-place.ensures.added in
    tally-new c.args.field.now c.args.self.now.coefs.items ks c.insert_full.new.self.keys c.push.new.self.items c.args.number c.args.c c.requires.tally.long c.in_ok-push.ensures.items c.in_ok-place.ensures.keys added

pub returns-then-is_new-clause-fit : goal.returns-then-is_new-clause-fit
returns-then-is_new-clause-fit c = λ target ts old here.
    new-each (IsFit target ts) c.args.self.now.numbers.keys c.insert_full.new.self.keys c.args.number c.in_ok-place.ensures.keys old here

pub returns-clause-value : goal.returns-clause-value
returns-clause-value c =
    let ks = c.args.self.now.numbers.keys in
    let cs = c.args.self.now.coefs.items in
    let i = c.in_ok-place.place in
    let added : false ≡ not (list_any (λ k. c.args.number == k) ks) = sym c.if-is_new.false ∙ c.in_ok-place.ensures.added in
    let s = c.in_ok-place.ensures.stored in
    let b : i < length cs = omega (arith, c.requires.tally.long, ap length (key-known ks c.insert_full.new.self.keys c.args.number c.in_ok-place.ensures.keys added), c.in_ok-place.ensures.within) in
    let q : c.index.result.now ≡ get_or cs i 0 = c.index.ensures ∙ get_or_default cs i c.index.result.now 0 b in
    let v : c.add.result ≡ (get_or cs i 0 + c.args.c) % c.args.field.now = c.add.ensures.value ∙ ap (λ z. (z + c.args.c) % c.args.field.now) q in
    tally-known c.args.field.now cs ks c.insert_full.new.self.keys c.args.number s.0 i c.args.c c.add.result c.requires.tally.long c.in_ok-place.ensures.keys added b s.1 s.2 v

pub returns-clause-fit : goal.returns-clause-fit
returns-clause-fit c = λ target ts old here.
    new-each (IsFit target ts) c.args.self.now.numbers.keys c.insert_full.new.self.keys c.args.number c.in_ok-place.ensures.keys old here
