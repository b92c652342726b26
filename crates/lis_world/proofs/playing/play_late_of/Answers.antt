-- What is played gives the world of the definition, and that is safe.
use Rattle.std.proofs.Common.{ap, All, sym, ◌∙◌, subst}
use Rattle.lis_world.specs.Safe.{IsSafe, DeliversAll}
use Rattle.lis_world.specs.Late.{late_world, is_empty}
use Rattle.lis_world.proofs.LateSafety.{safe_where, empty_starts}
use Rattle.lis_world.proofs.LateCarrying.{runs_quietly_late}
use Rattle.lis_world.proofs.PlayingLaws.{if_ok}
use Rattle.lis_world.proofs.playing.play_late_of.Goals as goal

pub returns-clause-world : goal.returns-clause-world
returns-clause-world g c = c.play_all.ensures

pub returns-clause-safe : goal.returns-clause-safe
returns-clause-safe g c = if_ok c.play_all.result (λ history is.
    subst (All (IsSafe g.row.N)) (sym is)
    (safe_where is_empty g.row.N c.requires (empty_starts g.row.N) c.args.events).0) (returns-clause-world g c)

pub returns-clause-done : goal.returns-clause-done
returns-clause-done g c = if_ok c.play_all.result (λ history is.
    subst (All DeliversAll) (sym is)
    (safe_where is_empty g.row.N c.requires (empty_starts g.row.N) c.args.events).1) (returns-clause-world g c)

pub returns-clause-quiet : goal.returns-clause-quiet
returns-clause-quiet g c = if_ok c.play_all.result (λ history is texts sendable are.
    is ∙ ap (λ events. (late_world is_empty g.row.N events).sessions) are
    ∙ runs_quietly_late g.row.N c.requires texts sendable) (returns-clause-world g c)
