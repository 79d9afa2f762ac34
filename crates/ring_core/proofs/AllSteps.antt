-- The laws of the steps, together.
use Rattle.ring_core.specs.Core.{held_in}
use Rattle.ring_core.specs.RingLaws.{AllStepsKeepTheRule, CallersAreFresh, GatheredAreTheCalls, OpeningMeetsTheRule, SlotsAreNear}
use Rattle.ring_core.specs.HeldLaws.{held_is}
use Rattle.ring_core.proofs.Moves.{move_keeps}
use Rattle.ring_core.proofs.Glances.{glance_keeps}
use Rattle.ring_core.proofs.Replied.{load_keeps}
use Rattle.ring_core.proofs.Publish.{publish_keeps}
use Rattle.ring_core.proofs.Enlist.{enlist_keeps}
use Rattle.ring_core.proofs.Leave.{leave_keeps}
use Rattle.ring_core.proofs.Split.{split_keeps}
use Rattle.ring_core.proofs.Notes.{note_keeps, peek_keeps}
use Rattle.ring_core.proofs.Learn.{learn_keeps}
use Rattle.ring_core.proofs.Gather.{gather_keeps}
use Rattle.ring_core.proofs.Source.{source_keeps, source_again}
use Rattle.ring_core.proofs.Base.{base_keeps, base_again}
use Rattle.ring_core.proofs.Opening.{opens}
use Rattle.ring_core.proofs.Closing.{gathered_is}
use Rattle.ring_core.proofs.Fresh.{fresh_move, fresh_glance, fresh_word, fresh_accepted, published_within}

pub all_steps : AllStepsKeepTheRule
all_steps k s rule =
    record {
      enlist = λ seat who cell p at has empty berth. enlist_keeps k s rule seat p who cell at has empty berth;
      load = λ seat n c w f at filer found. load_keeps k s rule seat c w n f at filer found;
      publish = λ seat c f y at filer found holds. publish_keeps k s rule seat c f y at filer found holds;
      move = λ v seat c w y z at below found holds. move_keeps k s rule seat c v w y z at.0 at.1 below found holds;
      glance = λ v seat c w at low found. glance_keeps k s rule seat c v w at low found;
      leave = λ seat c z at. leave_keeps k s rule seat c z at;
      split = λ seat who p at has. split_keeps k s rule seat p who at has;
      note = λ seat c at. note_keeps k s rule seat c at;
      learn = λ seat other c n at apart there. learn_keeps k s rule seat c other n at apart there;
      gather = λ seat other p d at apart there. gather_keeps k s rule seat p other d at apart there;
      source = λ seat x c at filer free. source_keeps k s rule seat c x at filer free;
      source_again = λ seat x held c at filer is. source_again k s rule seat c x at filer held is;
      base = λ seat x c at filer free. base_keeps k s rule seat c x at filer free;
      base_again = λ seat x held c at filer is. base_again k s rule seat c x at filer held is;
      peek = λ seat c at player. peek_keeps k s rule seat c (held_in s.base) at player (held_is _ s.base rule.base);
    }

pub all_opens : OpeningMeetsTheRule
all_opens k = opens k

pub all_fresh : CallersAreFresh
all_fresh k s rule seat c at =
    let known = (rule.role seat _ at).1 in
    record {
      played = λ w held f player below found holds has. fresh_move k s rule seat c w held f (at, player) found holds has;
      found = λ a w f player low found has. fresh_glance k s rule seat c a w f (at, player) found has;
      reached = λ i w found. fresh_word k s rule seat c i w at found;
      accepted = λ n w f found has. fresh_accepted k s rule seat c n w f at found has;
      source = known.source;
      base = known.base;
    }

pub all_near : SlotsAreNear
all_near k s rule i w found = published_within k s rule i w found

pub all_gathered : GatheredAreTheCalls
all_gathered k s rule seat who p l at low has = gathered_is k s rule seat p who l at low has
