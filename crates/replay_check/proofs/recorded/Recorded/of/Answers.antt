use Rattle.replay_check.proofs.Recordings.{calls-step, fits-step}
use Rattle.replay_check.proofs.recorded.Recorded.of.Goals as goal

pub journals-preserved : goal.journals-preserved
journals-preserved c = record {
  places = calls-step c.args.filers.now c.journals.filer-index c.filer-item.result c.journals.places.items c.push.new.self.items c.in_ok-places_of.field-0 c.journals-test.true c.filer-item.is c.journals.invariant.places c.in_ok-places_of.ensures.places c.in_ok-push.ensures.items;
  fits = fits-step c.args.filers.now c.journals.filer-index c.filer-item.result c.journals-test.true c.filer-item.is c.journals.invariant.fits c.places_of.ensures.fits;
}
