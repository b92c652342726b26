use Rattle.std.proofs.Common.{sym, ◌∙◌, ap}
use Rattle.lis_capture.specs.Line.{line_of, version_after}
use Rattle.lis_capture.specs.Reader.{Known}
use Rattle.lis_capture.proofs.ReaderLemmas.{known_taken, found_taken}
use Rattle.lis_capture.proofs.reader.Progress.take.Goals as goal

pub returns-clause-after : goal.returns-clause-after
returns-clause-after c =
    let inside = c.self.inside in
    let known : Known = record {
      version = inside.version;
      refused = inside.refused;
      number = inside.number;
      line = inside.last_line;
    } in
    rw (← c.self.view_is)
    (known_taken known (line_of inside.version c.args.text.now) _ _ _
    (sym c.read.ensures.said ∙ c.if-not-read.false) c.read.ensures.line
    (c.version_after-self-inside.ensures
    ∙ ap (version_after inside.version) c.line.ensures) c.saturating_add-self-inside.ensures)

pub returns-clause-found : goal.returns-clause-found
returns-clause-found c =
    rw (← c.self.view_is)
    (found_taken (line_of c.self.inside.version c.args.text.now) (sym c.read.ensures.said ∙ c.if-not-read.false))
