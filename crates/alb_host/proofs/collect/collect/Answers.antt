use Rattle.std.proofs.Common.{length, ap, arith, rules}
use Rattle.std.proofs.lemmas.Iterator.Adapters.{YieldsList-from_vec}
use Rattle.std.proofs.lemmas.Iterator.Consumers.{YieldsList-so_far, YieldsList-turn}
use Rattle.std.specs.Prelude.{option_map}
use Rattle.alb_host.specs.Steps.{built_pair}
use Rattle.alb_host.proofs.CollectLemmas.{sessions-room, sessions-served, built-served, sessions-built, built-built}
use Rattle.alb_host.proofs.collect.collect.Goals as goal

pub push_reserved-requires : goal.push_reserved-requires
push_reserved-requires g c =
    let all = YieldsList-from_vec {s = c.into_iter-left-iterator.result} c.args.done.items (search rules) (search rules) in
    let turn = YieldsList-turn all c.loop-left.yielded c.loop-left.left-iterator c.loop-left.yielded_by c.next.result c.next.new.self c.in-Some.left c.in-Some.is c.next.ensures.steps in
    let so_far = YieldsList-so_far all c.loop-left.yielded c.loop-left.left-iterator c.loop-left.yielded_by in
    omega (
      arith,
      sessions-room c.args.done.items c.loop-left.yielded c.in-Some.left c.in-Served.report c.in-Served.is so_far turn.0 turn.1,
      c.loop-left.sessions.ok.0,
      ap length c.loop-left.invariant.sessions,
      c.loop-left.invariant.room,
      c.requires.room,
    )

pub loop-left-preserved : goal.loop-left-preserved
loop-left-preserved g c = record {
  sessions = sessions-served c.loop-left.yielded c.in-Some.left c.in-Served.report c.loop-left.sessions.items c.push_reserved.new.self.items c.in-Served.is c.loop-left.invariant.sessions
      c.push_reserved.ensures.items;
  built = built-served c.loop-left.yielded c.in-Some.left c.in-Served.report (option_map built_pair c.loop-left.built) c.in-Served.is c.loop-left.invariant.built;
  room = search rules;
}

pub loop-left-preserved-in-Built : goal.loop-left-preserved-in-Built
loop-left-preserved-in-Built g c = record {
  sessions = sessions-built c.loop-left.yielded c.in-Some.left c.in-Built.pass c.in-Built.end c.loop-left.sessions.items c.in-Built.is c.loop-left.invariant.sessions;
  built = built-built c.loop-left.yielded c.in-Some.left c.in-Built.pass c.in-Built.end c.in-Built.is;
  room = c.loop-left.invariant.room;
}
