use Rattle.alb_tidy.proofs.LedgerLemmas.{key-numbered}
use Rattle.alb_tidy.proofs.ledger.Ledger.number.Goals as goal

pub returns : goal.returns
returns c =
    let s = c.in_ok-place.ensures.stored in
    key-numbered c.args.self.now.set.keys c.insert_full.new.self.keys (record { line = c.args.entry }) s.0 c.in_ok-place.place c.in_ok-place.ensures.keys c.insert_full.ensures.unique c.in_ok-place.ensures.within s.1 s.2
