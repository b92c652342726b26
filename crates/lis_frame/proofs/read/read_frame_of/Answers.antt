use Rattle.std.proofs.Common.{Ok, Err}
use Rattle.lis_frame.proofs.FrameLaws.{by_places-found, by_places-only}
use Rattle.lis_frame.proofs.read.read_frame_of.Goals as goal

pub returns-in-Ok-clause-found : goal.returns-in-Ok-clause-found
returns-in-Ok-clause-found g c = rw c.from_borrowed.ensures
    (by_places-found g.row.N c.args.body.now (Ok c.in-Ok.frame) c.in-Ok.ensures.places)

pub returns-in-Ok-clause-only : goal.returns-in-Ok-clause-only
returns-in-Ok-clause-only g c = rw c.from_borrowed.ensures
    (by_places-only g.row.N c.args.body.now (Ok c.in-Ok.frame) c.in-Ok.ensures.places)

pub returns-in-Err-clause-only : goal.returns-in-Err-clause-only
returns-in-Err-clause-only g c = by_places-only g.row.N c.args.body.now (Err c.in-Err.fault) c.in-Err.ensures.places
