use Rattle.lis_run.proofs.replay.put_difference.Goals as goal

pub returns : goal.returns
returns g c = rw (c.as_slice.ensures, c.or_dash.ensures, c.or_dash-2.ensures) at c.print.ensures
