use Rattle.std.proofs.Common.{◌≡◌, ◌++◌, ◌∙◌, [], List, sym, ap, arith, take, drop, length, reverse, subst}
use Rattle.std.proofs.Common.{drop_of_length-le, ℕ}
use Rattle.std.proofs.lemmas.Grind.{common_steps}
use Rattle.std.proofs.lemmas.List.{take_all, append-nil}
use Rattle.alb_poly.specs.declared.term.Term.{Term}
use Rattle.alb_poly.specs.Terms.{terms}
use Rattle.alb_poly.proofs.Collecting.{collects_none, collects_more, collects_all, taken_residue, kept_residues}
use Rattle.alb_poly.proofs.Items.{coefs_below}
use Rattle.alb_poly.specs.Poly.{AreResidues, IsDescending}
use Rattle.alb_poly.proofs.NormalLemmas.{residues-normal, descending-normal}
use Rattle.alb_poly.proofs.normal.collected.Goals as goal

pub loop-t-init : goal.loop-t-init
loop-t-init c = rw c.new-kept.ensures.items (collects_none c.args.field.now c.args.list.items)

pub push_term-requires-clause-residue : goal.push_term-requires-clause-residue
push_term-requires-clause-residue c =
    taken_residue c.args.field.now c.args.list.items c.loop-t.kept.items c.loop-t.left.items c.pop.new.self.items c.in-Some.t
    c.loop-t.invariant c.in-Some.ensures.items (coefs_below c.args.field.now c.args.list.items c.requires.residues)

pub push_term-requires-clause-residues : goal.push_term-requires-clause-residues
push_term-requires-clause-residues c =
    let t = taken_residue c.args.field.now c.args.list.items c.loop-t.kept.items c.loop-t.left.items c.pop.new.self.items c.in-Some.t
    c.loop-t.invariant c.in-Some.ensures.items (coefs_below c.args.field.now c.args.list.items c.requires.residues) in
    kept_residues c.args.field.now c.args.list.items c.loop-t.kept.items c.loop-t.left.items c.loop-t.invariant (omega arith)

pub loop-t-preserved : goal.loop-t-preserved
loop-t-preserved c =
    collects_more c.args.field.now c.args.list.items c.loop-t.kept.items c.push_term.new.kept.items c.loop-t.left.items c.pop.new.self.items c.in-Some.t
    c.loop-t.invariant c.in-Some.ensures.items (coefs_below c.args.field.now c.args.list.items c.requires.residues) c.requires.sorted c.in_ok-push_term.ensures

kept_all : (xs ys : List Term) (n : ℕ) → length ys ≡ length xs → n ≡ length xs → take n (ys ++ drop (length ys) xs) ≡ ys
kept_all xs ys n h k =
    let e : drop (length ys) xs ≡ [] = drop_of_length-le xs (omega arith) in
    let l : take n ys ≡ ys = take_all n ys (omega arith) in
    rw (e, append-nil ys) l

pub returns : goal.returns
returns c =
    let p = c.args.field.now in
    let all = c.args.list.items in
    let e : c.loop-t.left.items ≡ [] = grind (arith, common_steps) in
    let r : c.reverse.new.self ≡ reverse c.loop-t.kept.items = c.reverse.ensures.after ∙ ap reverse c.as_mut_slice.ensures.value in
    let l : length c.reverse.new.self ≡ length c.loop-t.kept.items = c.reverse.ensures.len ∙ ap length c.as_mut_slice.ensures.value in
    let v = ap terms (kept_all c.loop-t.kept.items c.reverse.new.self c.loop-t.kept.len l (omega arith))
    ∙ ap terms r ∙ collects_all p all c.loop-t.kept.items c.loop-t.left.items c.loop-t.invariant e in
    record {
      value = v;
      residues = subst (λ f. AreResidues p f) (sym v) (residues-normal p (terms all) c.requires.residues);
      descending = subst (λ f. IsDescending f) (sym v) (descending-normal p (terms all) c.requires.residues);
    }
