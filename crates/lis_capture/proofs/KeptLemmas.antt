-- What is kept of a line's bytes.
use Rattle.std.proofs.Common.{◌≡◌, ℕ, ◌*◌, ◌≤◌, Bool, true, false, List, [], length, Option, None, Some, unwrap_or}
use Rattle.std.proofs.Common.{refl, ap, sym, ◌∙◌, arith}
use Rattle.std.proofs.Common.{◌++◌, subst, take}
use Rattle.std.proofs.Math.Seq.{take-append_seam}
use Rattle.std.specs.Prelude.{if◌then◌else◌}
use Rattle.std.specs.Option.{option_map}
use Rattle.hex.specs.Hex.{encode_lower}
use Rattle.lis_capture.specs.declared.line.Keeping.{Keeping}
use Rattle.lis_capture.specs.declared.line.Keeping.TheVariants.{Bytes, Digits}
use Rattle.lis_capture.specs.Digits.{bytes_of}
use Rattle.lis_capture.specs.Kept.{KeptAs, kept_bytes}
use Rattle.lis_engine.proofs.EncodeLemmas.{length-encode_lower}
use Rattle.lis_capture.proofs.LowerLemmas.{encoded_nothing}
use Rattle.lis_capture.proofs.EncodingLemmas.{IsSent-bytes_of, bytes_of-digits}
use Rattle.std.proofs.lemmas.List.{nil_from_length}

pub nothing_kept : (keeping : Keeping) → KeptAs keeping []
nothing_kept Bytes = omega arith
nothing_kept Digits = (omega arith, encoded_nothing)

pub bytes_kept : (keeping : Keeping) (kept : List ℕ) → keeping ≡ Bytes → length kept ≤ 2047 → KeptAs keeping kept
bytes_kept Bytes kept is short = short
bytes_kept Digits kept is short = cc

pub short_bytes : (keeping : Keeping) (kept : List ℕ) → keeping ≡ Bytes → KeptAs keeping kept → length kept ≤ 2047
short_bytes Bytes kept is short = short
short_bytes Digits kept is short = cc

-- digits are those of bytes
pub digits_kept : (keeping : Keeping) (kept : List ℕ) → keeping ≡ Digits → KeptAs keeping kept
    → (encode_lower (kept_bytes keeping kept) ≡ kept) × (length kept ≡ 2 * length (kept_bytes keeping kept))
    × (length kept ≤ 4094)
digits_kept Bytes kept is all = cc
digits_kept Digits kept is all =
    (all.1, ap length (sym all.1) ∙ length-encode_lower (unwrap_or (bytes_of kept) []), all.0)

-- and are read as these
pub read_kept :
    (keeping : Keeping) (kept bytes : List ℕ) (t : Bool) → keeping ≡ Digits → KeptAs keeping kept
    → length kept ≡ 2 * length bytes → bytes_of kept ≡ (if t then Some bytes else None)
    → bytes ≡ kept_bytes keeping kept
read_kept Bytes kept bytes t is all room reported = cc
read_kept Digits kept bytes true is all room reported = ap (λ (o : Option (List ℕ)). unwrap_or o []) (sym reported)
read_kept Digits kept bytes false is all room reported =
    let nothing : unwrap_or (bytes_of kept) [] ≡ [] = ap (λ (o : Option (List ℕ)). unwrap_or o []) reported in
    let empty : kept ≡ [] = sym all.1 ∙ ap encode_lower nothing ∙ encoded_nothing in
    nil_from_length bytes (omega (arith, room, ap length empty)) ∙ sym nothing

-- digits in lower case are read as those that they were written from
lowered_by :
    (digits lowered : List ℕ) (t : Bool) (o : Option (List ℕ)) → length digits ≤ 4094 → bytes_of digits ≡ o
    → option_map encode_lower o ≡ (if t then Some lowered else None)
    → (o ≡ (if t then Some (unwrap_or (bytes_of lowered) []) else None))
    × (t ≡ true → encode_lower (unwrap_or (bytes_of lowered) []) ≡ lowered)
lowered_by digits lowered true None short is reported = cc
lowered_by digits lowered false None short is reported = (refl, λ e. cc)
lowered_by digits lowered false (Some bytes) short is reported = cc
lowered_by digits lowered true (Some bytes) short is reported =
    let lowered_is : encode_lower bytes ≡ lowered = cc in
    let read : bytes_of lowered ≡ Some bytes =
    ap bytes_of (sym lowered_is) ∙ bytes_of-digits bytes (IsSent-bytes_of digits bytes short is) in
    let bytes_are : unwrap_or (bytes_of lowered) [] ≡ bytes = ap (λ (p : Option (List ℕ)). unwrap_or p []) read in
    (ap (λ (l : List ℕ). Some l) (sym bytes_are), λ e. ap encode_lower bytes_are ∙ lowered_is)

pub lowered_bytes :
    (keeping : Keeping) (digits lowered : List ℕ) (t : Bool) → keeping ≡ Digits → length digits ≤ 4094
    → option_map encode_lower (bytes_of digits) ≡ (if t then Some lowered else None)
    → bytes_of digits ≡ (if t then Some (kept_bytes keeping lowered) else None)
lowered_bytes Bytes digits lowered t is short reported = cc
lowered_bytes Digits digits lowered t is short reported = (lowered_by digits lowered t (bytes_of digits) short refl
    reported).0

pub lowered_kept :
    (keeping : Keeping) (digits lowered : List ℕ) (t : Bool) → keeping ≡ Digits → length digits ≤ 4094
    → length lowered ≤ 4094 → option_map encode_lower (bytes_of digits) ≡ (if t then Some lowered else None) → t ≡ true
    → KeptAs keeping lowered
lowered_kept Bytes digits lowered t is short room reported all = cc
lowered_kept Digits digits lowered t is short room reported all =
    (room, (lowered_by digits lowered t (bytes_of digits) short refl reported).1 all)

-- where it is in front of a buffer
pub kept_front : (keeping : Keeping) (kept rest : List ℕ) (len : ℕ) → length kept ≡ len → KeptAs keeping kept
    → KeptAs keeping (take len (kept ++ rest))
kept_front keeping kept rest len long is =
    subst (λ (l : List ℕ). KeptAs keeping l) (sym (ap (λ (n : ℕ). take n (kept ++ rest)) (sym long)
    ∙ take-append_seam kept rest)) is
