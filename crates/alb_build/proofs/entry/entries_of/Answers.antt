use Rattle.std.proofs.Common.{rules, arith, ◌≡◌, [], length, get_or, ℕ, ◌∙◌, ◌<◌, subst}
use Rattle.alb_build.specs.Part.{IsNewEntry}
use Rattle.alb_build.proofs.EntryRows.{numbers-long, entries-more}
use Rattle.alb_build.proofs.entry.entries_of.Goals as goal

pub loop-k-preserved : goal.loop-k-preserved
loop-k-preserved c =
    let r = entries-more (IsNewEntry c.args.block.now.reduced c.args.numbers.now) c.loop-k.out.items c.push.new.self.items c.loop-k.k c.in_ok-entry_at.field-0 c.loop-k.invariant.long
    c.loop-k.invariant.each (search rules) c.in_ok-entry_at.ensures in
    record { long = r.0; each = r.1 }

pub returns : goal.returns
returns c =
    let n : length c.args.numbers.now ≡ length c.args.block.now.columns = numbers-long c.args.block.now.reduced _ c.args.numbers.now c.requires.numbers in
    let e : c.len-k-end.result ≡ length c.args.block.now.columns = c.len-k-end.ensures.value in
    let k : c.loop-k.k ≡ length c.args.numbers.now = omega arith in
    record {
      full = c.loop-k.invariant.long ∙ k;
      each = subst (λ m. (i : ℕ) → i < m → IsNewEntry c.args.block.now.reduced c.args.numbers.now i (get_or c.loop-k.out.items i [])) k c.loop-k.invariant.each;
    }
