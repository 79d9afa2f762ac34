use Rattle.std.proofs.Common.{rules}
use Rattle.slot_ring.proofs.Stories.{all_five}
use Rattle.slot_ring.proofs.threads.end.Goals as goal

pub close-requires-clause-all : goal.close-requires-clause-all
close-requires-clause-all g c = all_five _ c.args.crew.one.list c.args.crew.two.list c.args.crew.three.list c.args.crew.four.list c.args.crew.player.list c.gather-5.new.gather.lists c.requires.shape (search rules)
