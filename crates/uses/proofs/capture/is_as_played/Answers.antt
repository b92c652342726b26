use Rattle.std.proofs.Common.{rules, None, Some, sym, Option, List, ℕ, subst}
use Rattle.std.specs.Io.KnownBytes.{Consumes}
use Rattle.lis_engine.specs.Runs.{EachGave}
use Rattle.uses.specs.Played.{WasNotPlayed}
use Rattle.uses.proofs.PlayedLaws.{not_played, was_played}
use Rattle.uses.proofs.ReadingLaws.{if_err}
use Rattle.uses.proofs.capture.is_as_played.Goals as goal

pub returns-in_err-report-clause-err : goal.returns-in_err-report-clause-err
returns-in_err-report-clause-err c =
    let ran = c.in_err-report.ensures.ran in
    let stops = c.in_err-report.ensures.stops in
    let source = c.run_replay.new.source in
    let left : Option (List ℕ) = Some source.rest.now in
    let whole = c.new-source.ensures.left in
    let read = subst (λ (l : Option (List ℕ)). Consumes l left ran.given) whole ran.read in
    let gave = subst (λ (l : Option (List ℕ)). EachGave l left source.made) whole stops.each_gave in
    let known =
    not_played _ c.args.capture.now ran.given left None None source.ended source.made c.in_err-report.field-0.0
    read ran.answer stops.stops.stopped stops.stops.all_read gave in
    if_err _ _ c.from_residual.result c.from_residual.ensures.1
    (λ e gives. subst (WasNotPlayed c.args.capture.now) (sym gives) known)
