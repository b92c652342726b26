use Rattle.std.proofs.Common.{[], ◌++◌, Ok, Some, refl, ap, sym}
use Rattle.lis_engine.proofs.OutputLaws.{nothing_put}
use Rattle.lis_run.specs.Show.{clean, show}
use Rattle.lis_run.proofs.show.ShowMachineRefused.end.Goals as goal

pub returns-clause-ends : goal.returns-clause-ends
returns-clause-ends g c = λ past text represented few.
    record {
      more = [];
      put = nothing_put _ c.requires;
      following = (
        record { text = show g.row.N past; closing = []; halt = Some (Ok clean) },
        refl,
        ap (λ r. Some (Ok r)) (sym c.of.ensures),
        ap (λ l. l ++ []) (sym represented.0),
      );
    }
