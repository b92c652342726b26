-- What a sink takes, one write after another.
use Rattle.std.proofs.Math.Seq.{drop-append-add}
use Rattle.std.proofs.Common.{◌≡◌, ℕ, ◌+◌, ◌-◌, ◌^◌, ◌<◌, ◌≤◌, min, List, [], ◌++◌, length, take}
use Rattle.std.proofs.Common.{drop, Option, Some, None, Result, Ok, Err, refl, sym, ap, ◌∙◌}
use Rattle.std.proofs.Common.{length-append, arith}
use Rattle.std.proofs.lemmas.List.{drop_at, take_at, drop_all, take-append-le}
use Rattle.std.specs.Io.KnownBytes.{Appends, Keeps}
use Rattle.lis_record_write.specs.declared.faults.WriteFault.{WriteFault}
use Rattle.lis_record_write.specs.declared.faults.WriteFault.TheVariants as write_faults
use Rattle.lis_port.proofs.Sinks.{Appends-none, Appends-then, take-split}
use Rattle.lis_record_write.specs.inside.Writing.{SentOn}

-- what a count gives in two steps, as far as it goes
pub sum_reported : (passed size count later reported top : ℕ) → later ≡ min (passed + size) top → reported
    ≡ min (later + count) top
    → reported ≡ min (passed + (size + count)) top
sum_reported passed size count later reported top e h = omega arith

-- known bytes stay
pub Keeps-same : (old : Option (List ℕ)) → Keeps old old
Keeps-same None = tt
Keeps-same (Some xs) = refl

pub Appends-keeps : (old mid new : Option (List ℕ)) (xs : List ℕ) → Appends old mid xs → Keeps mid new
    → Appends old new xs
Appends-keeps None mid new xs h g = tt
Appends-keeps (Some a) None new xs h g = absurd h
Appends-keeps (Some a) (Some b) None xs h g = absurd g
Appends-keeps (Some a) (Some b) (Some c) xs h g = g ∙ h

-- ---- chunk after chunk

-- bytes went out whole, and more follow
pub Sent-more : (passed later : ℕ) (bytes rest : List ℕ) (old mid new : Option (List ℕ)) (r : Result Unit WriteFault)
    → later ≡ min (passed + length bytes) (2 ^ 64 - 1)
    → Appends old mid bytes → SentOn later rest mid new r → SentOn passed (bytes ++ rest) old new r
Sent-more passed later bytes rest old mid new (Ok done) e h g = Appends-then old mid new bytes rest h g
Sent-more passed later bytes rest old mid new (Err (write_faults.CharNotText number)) e h g = absurd g
Sent-more passed later bytes rest old mid new (Err write_faults.TooLong) e h g = absurd g
Sent-more passed later bytes rest old mid new (Err (write_faults.Io reported)) e h (count, is_reported, short, more) =
    let size = length-append bytes rest in
    let front : take (length bytes + count) (bytes ++ rest) ≡ bytes ++ take count rest =
    take-split (length bytes) count (bytes ++ rest)
    ∙ rw (take_at bytes rest (length bytes) refl, drop_at bytes rest (length bytes) refl) refl in (
      length bytes + count,
      sum_reported passed (length bytes) count later reported (2 ^ 64 - 1) e is_reported,
      omega (arith, size),
      rw front (Appends-then old mid new bytes (take count rest) h more),
    )

-- the sink failed in these bytes
pub Sent-part : (passed reported count : ℕ) (bytes rest : List ℕ) (old new : Option (List ℕ))
    → reported ≡ min (passed + count) (2 ^ 64 - 1) → count < length bytes
    → Appends old new (take count bytes) → SentOn passed (bytes ++ rest) old new (Err (write_faults.Io reported))
Sent-part passed reported count bytes rest old new is_reported short taken =
    let size = length-append bytes rest in
    (count, is_reported, omega (arith, size), rw (take-append-le count bytes rest (omega arith)) taken)

-- nothing is left
pub Appends-nothing : (old : Option (List ℕ)) (chunk cursor : List ℕ) (left : ℕ) → length chunk ≡ 0 → cursor ≡ []
    → Appends old old (drop left chunk ++ cursor)
Appends-nothing old chunk cursor left none done =
    let e : drop left chunk ++ cursor ≡ [] = rw (drop_all left chunk (omega arith), done) refl in
    rw e (Appends-none old)

-- a chunk is passed over, and the next one filled
pub pass_step : (chunk cursor filled after all : List ℕ) (left : ℕ) → length chunk < left → filled ++ after ≡ cursor
    → drop left (chunk ++ cursor) ≡ all
    → left ≤ length (chunk ++ cursor) → (drop (left - length chunk) (filled ++ after) ≡ all)
    × (left - length chunk ≤ length (filled ++ after))
pass_step chunk cursor filled after all left past same rest within =
    let size = length-append chunk cursor in
    let place : length chunk + (left - length chunk) ≡ left = omega arith in
    let seam : drop left (chunk ++ cursor) ≡ drop (left - length chunk) cursor =
    ap (λ (k : ℕ). drop k (chunk ++ cursor)) (sym place) ∙ drop-append-add chunk cursor (left - length chunk) in
    rw same (sym seam ∙ rest, omega (arith, size))
