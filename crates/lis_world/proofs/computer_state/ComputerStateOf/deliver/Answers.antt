use Rattle.std.proofs.Common.{◌≡◌, ap, sym, ◌∙◌}
use Rattle.lis_world.specs.inside.Loads.{load_of}
use Rattle.lis_world.specs.Unit.{Travelling, enquiry, ending}
use Rattle.lis_world.proofs.PlayingLaws.{enquiry_only, ending_only}
use Rattle.lis_world.proofs.computer_state.ComputerStateOf.deliver.Goals as goal

pub returns-in-Enquiry : goal.returns-in-Enquiry
returns-in-Enquiry g c r is_in =
    let load_is : c.args.unit.now.load ≡ enquiry =
    ap (λ (t : Travelling). t.load) (sym c.unit.view_is) ∙ ap load_of c.in-Enquiry.is in
    let heard = c.hear.ensures r (rw (← c.self.view_is) at is_in) (enquiry_only g.row.N c.args.unit.now.load r.past) in
    rw (← c.self.view_is, load_is) (rw c.clear.ensures.items at heard)

pub returns-in-Ending : goal.returns-in-Ending
returns-in-Ending g c r is_in =
    let load_is : c.args.unit.now.load ≡ ending = ap (λ (t : Travelling). t.load) (sym c.unit.view_is)
    ∙ ap load_of c.in-Ending.is in
    let heard = c.hear-in-Ending.ensures r (rw (← c.self.view_is) at is_in)
    (ending_only g.row.N c.args.unit.now.load r.past) in
    rw (← c.self.view_is, load_is) (rw c.clear.ensures.items at heard)
