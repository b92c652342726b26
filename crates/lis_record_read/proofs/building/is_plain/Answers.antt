use Rattle.std.proofs.Common.{◌≢◌, ℕ, arith, refl}
use Rattle.std.proofs.lemmas.List.{take_all}
use Rattle.std.proofs.lemmas.List.Elements.{All-weaker}
use Rattle.lis_record_read.specs.FrontReading.{IsPlainText}
use Rattle.lis_record_read.proofs.building.is_plain.Goals as goal

pub returns : goal.returns
returns c =
    let d = c.args.delimiters in
    let text = c.args.text.now in
    let Free : ℕ → Type 0 = λ b. (b ≢ c.repeat.result) × ((b ≢ c.component.result) × (b ≢ c.escape.result)) in
    let free = rw (take_all c.loop-byte.byte-index text (omega arith)) at c.loop-byte.invariant in
    let plain : IsPlainText d text = record {
      repeat = rw c.repeat.ensures at (All-weaker Free (λ b. b ≢ c.repeat.result) (λ b all. all.0) text free);
      component =
          rw c.component.ensures at (All-weaker Free (λ b. b ≢ c.component.result) (λ b all. all.1.0) text free);
      escape = rw c.escape.ensures at (All-weaker Free (λ b. b ≢ c.escape.result) (λ b all. all.1.1) text free);
    } in
    (λ _. plain, λ _. refl)
