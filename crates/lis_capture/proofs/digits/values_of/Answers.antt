use Rattle.lis_capture.proofs.LaneLemmas.{values_reported}
use Rattle.lis_capture.proofs.digits.values_of.Goals as goal

pub returns : goal.returns
returns c = values_reported 16 c.args.digits c.fits-digits.0 c.fits-digits.1
