-- How long written lines are.
use Rattle.std.proofs.Common.{ℕ, ◌+◌, ◌*◌, ◌^◌, ◌<◌, ◌≤◌, Bool, true, false, List, [], ◌∷◌, ◌++◌, length, codes, sym, subst, arith, length-append}
use Rattle.std.specs.List.{flat_map}
use Rattle.std.specs.Fmt.{decimal}
use Rattle.alb_mono.specs.Listing.{Each}
use Rattle.alb_mono.specs.Tree.{Tree, leaf, node, degree}
use Rattle.alb_mono.specs.declared.side.Side.{Side}
use Rattle.alb_mono.specs.declared.side.Side.TheVariants.{Left, Right}
use Rattle.alb_print.specs.Text.{mono_text, named}
use Rattle.alb_deriv.specs.Derivation.{Line, Instance, Times, Sum, AreMonos, AreSumItems, IsLimited}
use Rattle.alb_check.specs.Raw.{IsTableFit}
use Rattle.alb_deriv.proofs.Judged.{derivation-no_fault}
use Rattle.alb_evidence.specs.Block.{Zero, NotZero}
use Rattle.alb_evidence.specs.Laws.{LimitedLinesFit, EvidenceIsReadBack}
use Rattle.alb_evidence.specs.Limits.{IsLineFit, AreLinesFit}
use Rattle.alb_evidence.specs.Texts.{spaced_mono, side_text, signed_text, item_text, kind_text, line_text}
use Rattle.alb_evidence.proofs.Written.{decimal-numeral, signed-is}
use Rattle.alb_evidence.proofs.WrittenBlock.{derivations-read_back}
use Rattle.alb_evidence.proofs.WrittenTable.{tables-read_back}

decimal-length : (n : ℕ) → n < 10 ^ 18 → length (decimal n) ≤ 18
decimal-length n h = (decimal-numeral n h).few

-- at most four bytes for each letter
mono-length : (letters : List ℕ) (inner : Bool) (m : Tree) → length (mono_text letters inner m) + 3 ≤ 4 * degree m
mono-length letters inner (leaf k) = omega arith
mono-length letters true (node l r) =
    omega (
      arith,
      length-append (mono_text letters true l ++ mono_text letters true r) (41 ∷ []),
      length-append (mono_text letters true l) (mono_text letters true r),
      mono-length letters true l,
      mono-length letters true r,
    )
mono-length letters false (node l r) =
    omega (arith, length-append (mono_text letters true l) (mono_text letters true r), mono-length letters true l, mono-length letters true r)

monos-length : (letters : List ℕ) (n : ℕ) (ms : List Tree) → AreMonos n ms → length (flat_map (spaced_mono letters) ms) ≤ 256 * length ms
monos-length letters n [] h = omega arith
monos-length letters n (m ∷ ms) h =
    omega (arith, length-append (spaced_mono letters m) (flat_map (spaced_mono letters) ms), mono-length letters false m, h.1, monos-length letters n ms h.2)

item-length : (p : ℕ) (c : ℕ × ℕ) → p < 2 ^ 16 → c.0 < p → c.1 < 10 ^ 18 → length (item_text p c) ≤ 40
item-length p c small h k =
    omega (arith, length-append (signed_text p c.0) (named (codes "*") c.1), (signed-is p c.0 h small).short, decimal-length c.1 k)

items-length : (p : ℕ) (cs : List (ℕ × ℕ)) → p < 2 ^ 16 → AreSumItems p cs → length (flat_map (item_text p) cs) ≤ 40 * length cs
items-length p [] small h = omega arith
items-length p (c ∷ cs) small h =
    omega (arith, length-append (item_text p c) (flat_map (item_text p) cs), item-length p c small h.0 h.1, items-length p cs small h.2)

side-length : (d : Side) → length (side_text d) ≤ 7
side-length Left = omega arith
side-length Right = omega arith

kind-length : (p : ℕ) (letters : List ℕ) (n : ℕ) (l : Line) → p < 2 ^ 16 → IsLimited p n l → length (kind_text p letters l) ≤ 16500
kind-length p letters n (Instance i ms) small h =
    omega (arith, length-append (named (codes " instance ") i) (flat_map (spaced_mono letters) ms), decimal-length i h.0, monos-length letters n ms h.1, h.2)
kind-length p letters n (Times k m) small h =
    omega (
      arith,
      length-append (named (codes " times ") k) (side_text m.0 ++ mono_text letters false m.1),
      length-append (side_text m.0) (mono_text letters false m.1),
      decimal-length k h.0,
      side-length m.0,
      mono-length letters false m.1,
      h.2,
    )
kind-length p letters n (Sum cs) small h = omega (arith, items-length p cs small h.0, h.1)

line-length : (p : ℕ) (letters : List ℕ) (n k : ℕ) (l : Line) → p < 2 ^ 16 → k < 10 ^ 18 → IsLimited p n l → length (line_text p letters k l) ≤ 65537
line-length p letters n k l small b h =
    omega (
      arith,
      length-append (decimal k) (kind_text p letters l ++ codes "\n"),
      length-append (kind_text p letters l) (codes "\n"),
      decimal-length k b,
      kind-length p letters n l small h,
    )

limited-fit : (p n : ℕ) (l : Line) → IsLimited p n l → IsLineFit p n l
limited-fit p n (Instance i ms) h = (h.0, h.1)
limited-fit p n (Times k m) h = h
limited-fit p n (Sum cs) h = h.0

fit-from : (p : ℕ) (letters : List ℕ) (k : ℕ) (ls : List Line) → p < 2 ^ 16 → k + length ls ≤ 10 ^ 18 → Each (IsLimited p (length letters)) ls → AreLinesFit p letters k ls
fit-from p letters k [] small b h = tt
fit-from p letters k (l ∷ ls) small b h =
    let low : k < 10 ^ 18 = omega arith in
    (low, limited-fit p (length letters) l h.0, line-length p letters (length letters) k l small low h.0, fit-from p letters (k + 1) ls small (omega arith) h.1)

pub limited-lines_fit : LimitedLinesFit
limited-lines_fit p letters ls small few h = fit-from p letters 1 ls small (omega arith) h

pub proofs-accepted : EvidenceIsReadBack
proofs-accepted p letters target fs g (Zero ls) above small are some few same h =
    let fit : AreLinesFit p letters 1 ls = limited-lines_fit p letters ls small h.few (subst (λ n. Each (IsLimited p n) ls) (sym same) h.limited) in
    record { limits = fit; back = derivations-read_back p letters ls above small are fit; accepted = derivation-no_fault p target fs g ls (omega arith) h.derives }
proofs-accepted p letters target fs g (NotZero t) above small are some few same h =
    let fit : IsTableFit p (length letters) t = subst (λ n. IsTableFit p n t) (sym same) h.0 in
    record { limits = fit; back = tables-read_back p letters t above small are some few fit; accepted = h.1 }
