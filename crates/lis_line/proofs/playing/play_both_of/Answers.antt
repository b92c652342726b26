-- What is played gives the line of the definition, and that is safe.
use Rattle.std.proofs.Common.{All, sym, subst}
use Rattle.lis_world.specs.Safe.{IsSafe, DeliversAll}
use Rattle.lis_line.specs.Events.{line_events}
use Rattle.lis_station.proofs.TwoWayLaw.{safe_both_ways}
use Rattle.lis_line.proofs.LineLaws.{if_ok}
use Rattle.lis_line.proofs.playing.play_both_of.Goals as goal

pub returns-clause-safe : goal.returns-clause-safe
returns-clause-safe g c =
    let safe = safe_both_ways g.row.N c.requires (line_events c.args.events) in
    if_ok c.play_all.result (λ both are.
    (subst (All (IsSafe g.row.N)) (sym are.0) safe.0.0, subst (All (IsSafe g.row.N)) (sym are.1) safe.1.0))
    c.play_all.ensures

pub returns-clause-done : goal.returns-clause-done
returns-clause-done g c =
    let safe = safe_both_ways g.row.N c.requires (line_events c.args.events) in
    if_ok c.play_all.result (λ both are.
    (subst (All DeliversAll) (sym are.0) safe.0.1, subst (All DeliversAll) (sym are.1) safe.1.1))
    c.play_all.ensures
