use Rattle.std.proofs.Common.{rules}
use Rattle.slot_ring.proofs.Stories.{all_three}
use Rattle.slot_ring.proofs.tests.end.Goals as goal

pub close-requires-clause-all : goal.close-requires-clause-all
close-requires-clause-all g c = all_three _ c.args.opened.one.list c.args.opened.two.list c.args.opened.player.list c.gather-3.new.gather.lists c.requires.shape (search rules)
