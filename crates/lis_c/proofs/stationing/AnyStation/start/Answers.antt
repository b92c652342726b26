-- A station that rejects a start is in its box as before.
use Rattle.std.proofs.Common.{ap, sym, subst, ◌∙◌, ◌≡◌, Some}
use Rattle.std.specs.Box.{with_value}
use Rattle.lis_link.specs.Representation.{IsIn}
use Rattle.lis_station.specs.Representation.{KeptStation, station_at}
use Rattle.lis_station.specs.Station.{station_fault}
use Rattle.lis_c.specs.Borrowed.{session_texts}
use Rattle.lis_c.specs.Stations.{station_kept, station_limit}
use Rattle.lis_c.specs.declared.stationing.AnyStation.{AnyStation}
use Rattle.lis_c.specs.declared.stationing.AnyStation.TheVariants.{Long}
use Rattle.lis_c.proofs.stationing.AnyStation.start.Goals as goal

pub returns-in-Err-start_long : goal.returns-in-Err-start_long
returns-in-Err-start_long c r is =
    let unboxed = c.deref_mut.ensures.value in
    let boxed = subst (λ (s : AnyStation). IsIn (station_limit s) (station_kept s).receiver r) c.in-Long.is is in
    let was = subst (λ (k : KeptStation). IsIn 63993 k.receiver r) (sym unboxed) boxed in
    let rejected = c.in-Err-start_long.ensures r was in
    let kept = unboxed ∙ sym (ap (λ (s : AnyStation). station_kept s) c.in-Long.is) in (
      subst
          (λ (k : KeptStation). station_fault (station_at k r) (session_texts c.args.texts)
          ≡ Some c.in-Err-start_long.refused.fault) kept rejected.0,
      rejected.1,
      ap (λ v. Long (with_value c.in-Long.station v)) (rejected.2 ∙ unboxed) ∙ sym c.in-Long.is,
    )
