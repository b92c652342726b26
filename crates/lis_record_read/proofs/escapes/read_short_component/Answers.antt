use Rattle.lis_record_read.proofs.Fronts.{fronted-symbols}
use Rattle.lis_record_read.proofs.escapes.read_short_component.Goals as goal

pub returns : goal.returns
returns c =
    fronted-symbols c.args.given.text.now c.args.given.padded.now c.requires.begins c.plain_front-plain.result
    c.plain_front-plain.ensures.within c.args.delimiters c.split_at.result.1.now c.in_ok-component.component
    c.push_symbols.new.component c.plain_front-plain.ensures.plain c.in_ok-component.ensures
    c.split_at.ensures.back c.in_ok-push_symbols.ensures
