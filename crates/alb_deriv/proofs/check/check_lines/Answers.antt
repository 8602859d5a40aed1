use Rattle.std.proofs.Common.{◌≡◌, ◌+◌, ◌∙◌, ℕ, List, [], ◌∷◌, ◌++◌, map, take, length, arith, sym, ap, subst, All, not}
use Rattle.std.proofs.lemmas.List.Elements.{All-push}
use Rattle.std.proofs.lemmas.List.{map_push, length-map}
use Rattle.alb_poly.specs.Poly.{Poly}
use Rattle.alb_poly.specs.Consequence.{forms}
use Rattle.alb_deriv.specs.Answers.{TellsFault}
use Rattle.alb_deriv.specs.declared.error.DerivError.{DerivError}
use Rattle.alb_deriv.specs.Derivation.{fault, first_fault, line_values}
use Rattle.alb_deriv.specs.Numbered.{IsNumbered, said}
use Rattle.alb_deriv.specs.Views.{line}
use Rattle.alb_deriv.proofs.ListLemmas.{tells-at, fault-here, found-more, values-more, found-all, last-found, none-found}
use Rattle.alb_deriv.proofs.ValueLemmas.{all-last, all-later, said-later, numbered-within, numbered-small, numbered-letters, numbered-residues}
use Rattle.alb_deriv.proofs.check.check_lines.Goals as goal

pub returns-in-Err-clause-exact : goal.returns-in-Err-clause-exact
returns-in-Err-clause-exact c =
    let p = c.args.rules.now.field in
    let target = c.args.rules.now.target in
    let fs = forms c.args.rules.now in
    let xs = c.args.lines.now in
    let k = c.loop-k.k in
    let gs = line_values fs [] (map line (take k xs)) in
    let here = fault-here p target fs xs k c.index-lines-k.result (first_fault p target fs [] (map line xs)) c.loop-k-test.true c.index-lines-k.is c.loop-k.invariant.found in
    subst (λ (e : DerivError). TellsFault e (first_fault p target fs [] (map line xs))) (sym c.at.ensures)
    (tells-at c.in-Err.fault (fault p target fs gs (line c.index-lines-k.result)) (k + 1) _ _
    (c.in-Err.ensures.value gs (ap (map (said p c.loop-k.numbers)) c.deref.ensures.value ∙ c.loop-k.invariant.value)) here)

pub loop-k-preserved : goal.loop-k-preserved
loop-k-preserved c =
    let p = c.args.rules.now.field in
    let target = c.args.rules.now.target in
    let fs = forms c.args.rules.now in
    let xs = c.args.lines.now in
    let k = c.loop-k.k in
    let x = c.index-lines-k.result in
    let gs = line_values fs [] (map line (take k xs)) in
    let a = c.loop-k.numbers in
    let b = c.value_of.new.numbers in
    let old = c.loop-k.values.items in
    let value : List (ℕ × ℕ) = c.in-Ok.value in
    let pushed : c.push.new.self.items ≡ old ++ value ∷ [] =
    rw (c.is_err.ensures.negation ∙ ap not c.if-is_err.false) at c.push.ensures.items in
    let v = c.in-Ok.ensures.value gs (ap (map (said p a)) c.deref.ensures.value ∙ c.loop-k.invariant.value) in
    let later : map (said p b) old ≡ map (said p a) old = said-later p target a b old c.in-Ok.ensures.kept c.loop-k.invariant.numbered in
    record {
      value = ap (map (said p b)) pushed ∙ map_push (said p b) old value ∙ ap (λ (vs : List Poly). vs ++ said p b value ∷ []) later
          ∙ values-more p target fs xs k x (map (said p a) old) (said p b value) c.loop-k-test.true c.index-lines-k.is c.loop-k.invariant.value v.1;
      found = found-more p target fs xs k x (first_fault p target fs [] (map line xs)) c.loop-k-test.true c.index-lines-k.is c.loop-k.invariant.found v.0;
      numbered = subst (All (λ (f : List (ℕ × ℕ)). IsNumbered p target b f)) (sym pushed)
          (All-push (λ (f : List (ℕ × ℕ)). IsNumbered p target b f) old value (all-later p target a b old c.in-Ok.ensures.kept c.loop-k.invariant.numbered) c.in-Ok.ensures.numbered);
    }

pub poly_of-requires-clause-within : goal.poly_of-requires-clause-within
poly_of-requires-clause-within c =
    let p = c.args.rules.now.field in
    let target = c.args.rules.now.target in
    let ts = c.loop-k.numbers in
    let value : List (ℕ × ℕ) = c.in-Some.value in
    numbered-within p target ts value (all-last (λ (f : List (ℕ × ℕ)). IsNumbered p target ts f) c.loop-k.values.items c.pop.new.self.items value c.loop-k.invariant.numbered c.in-Some.ensures.items)

pub poly_of-requires-clause-small : goal.poly_of-requires-clause-small
poly_of-requires-clause-small c =
    let p = c.args.rules.now.field in
    let target = c.args.rules.now.target in
    let ts = c.loop-k.numbers in
    let value : List (ℕ × ℕ) = c.in-Some.value in
    numbered-small p target ts value c.requires.rules.low (all-last (λ (f : List (ℕ × ℕ)). IsNumbered p target ts f) c.loop-k.values.items c.pop.new.self.items value c.loop-k.invariant.numbered c.in-Some.ensures.items)

pub poly_of-requires-clause-letters : goal.poly_of-requires-clause-letters
poly_of-requires-clause-letters c =
    let p = c.args.rules.now.field in
    let target = c.args.rules.now.target in
    let ts = c.loop-k.numbers in
    let value : List (ℕ × ℕ) = c.in-Some.value in
    numbered-letters p target ts value c.requires.rules.long (all-last (λ (f : List (ℕ × ℕ)). IsNumbered p target ts f) c.loop-k.values.items c.pop.new.self.items value c.loop-k.invariant.numbered c.in-Some.ensures.items)

pub poly_of-requires-clause-residues : goal.poly_of-requires-clause-residues
poly_of-requires-clause-residues c =
    let p = c.args.rules.now.field in
    let target = c.args.rules.now.target in
    let ts = c.loop-k.numbers in
    let value : List (ℕ × ℕ) = c.in-Some.value in
    numbered-residues p target ts value (all-last (λ (f : List (ℕ × ℕ)). IsNumbered p target ts f) c.loop-k.values.items c.pop.new.self.items value c.loop-k.invariant.numbered c.in-Some.ensures.items)

pub returns-in-Ok-poly_of-clause-exact : goal.returns-in-Ok-poly_of-clause-exact
returns-in-Ok-poly_of-clause-exact c =
    let p = c.args.rules.now.field in
    let target = c.args.rules.now.target in
    let fs = forms c.args.rules.now in
    let xs = c.args.lines.now in
    let k = c.loop-k.k in
    let ts = c.loop-k.numbers in
    let values : List (List (ℕ × ℕ)) = c.loop-k.values.items in
    let front : List (List (ℕ × ℕ)) = c.pop.new.self.items in
    let value : List (ℕ × ℕ) = c.in-Some.value in
    let ends : map (said p ts) values ≡ map (said p ts) front ++ said p ts value ∷ [] = ap (map (said p ts)) c.in-Some.ensures.items ∙ map_push (said p ts) front value in (
      found-all p target fs xs k _ c.loop-k-test.false c.loop-k.invariant.found,
      c.in-Ok-poly_of.ensures.value
          ∙ last-found p target fs xs k (map (said p ts) values) (map (said p ts) front) (said p ts value) c.loop-k-test.false c.loop-k.invariant.value ends,
    )

pub returns-in_default-clause-exact : goal.returns-in_default-clause-exact
returns-in_default-clause-exact c =
    let p = c.args.rules.now.field in
    let target = c.args.rules.now.target in
    let fs = forms c.args.rules.now in
    let xs = c.args.lines.now in
    let k = c.loop-k.k in
    let values : List (List (ℕ × ℕ)) = c.loop-k.values.items in
    let said_all : List Poly = map (said p c.loop-k.numbers) values in
    let empty : length said_all ≡ 0 = omega (arith, length-map values (said p c.loop-k.numbers), c.in_default.ensures.cases.0, c.loop-k.values.ok.0) in (
      found-all p target fs xs k _ c.loop-k-test.false c.loop-k.invariant.found,
      c.zero.ensures ∙ none-found p target fs xs k said_all c.loop-k-test.false c.loop-k.invariant.value empty,
    )
