-- Bytes that are put at the end one after another.
use Rattle.std.proofs.Common.{◌≡◌, ℕ, ◌+◌, ◌<◌, List, [], ◌∷◌, ◌++◌, length, get_or, ap, sym, ◌∙◌}
use Rattle.std.proofs.Common.{append_assoc, length-append, arith, Result, Ok, Err}
use Rattle.std.specs.Prelude.{OnOk, is_ok, if◌then◌else◌}
use Rattle.std.specs.declared.alloc.AllocError.{AllocError}
use Rattle.lis_record_values.specs.Delimiters.{DelimiterBytes}
use Rattle.lis_record_values.specs.declared.symbols.Sym.{Sym}
use Rattle.lis_record_write.specs.Encoding.{encoded_symbol}

-- after what was there before are these bytes, so many
pub record Put (old new bytes : List ℕ) (count : ℕ) : Type 0 where
  pub are : new ≡ old ++ bytes
  pub size : length new ≡ length old + count

pub put-first : (old new : List ℕ) (b : ℕ) → new ≡ old ++ b ∷ [] → Put old new (b ∷ []) 1
put-first old new b is = record { are = is; size = ap length is ∙ length-append old (b ∷ []) }

pub put-next : (old mid new bytes : List ℕ) (count b : ℕ) → Put old mid bytes count → new ≡ mid ++ b ∷ []
    → Put old new (bytes ++ b ∷ []) (count + 1)
put-next old mid new bytes count b put is = record {
  are = is ∙ ap (λ (l : List ℕ). l ++ b ∷ []) put.are ∙ append_assoc old bytes (b ∷ []);
  size = omega (arith, put.size, ap length is ∙ length-append mid (b ∷ []));
}

pub put-more : (old new : List ℕ) (b : ℕ) → new ≡ old ++ b ∷ [] → length old < length new
put-more old new b is = omega (arith, (put-first old new b is).size)

pub put-longer : (old new : List ℕ) (b : ℕ) (bytes : List ℕ) → new ≡ old ++ b ∷ bytes → length old < length new
put-longer old new b bytes is = omega (arith, ap length is ∙ length-append old (b ∷ bytes))

-- the encoding of a symbol that is known to be this one
pub symbol_put : (d : DelimiterBytes) (symbol known : Sym) (old new : List ℕ) → symbol ≡ known
    → new ≡ old ++ encoded_symbol d known → new ≡ old ++ encoded_symbol d symbol
symbol_put d symbol known old new same is = rw same is

-- an escape's two digits, put one by one, are its digits
pub digits-whole : (digits same : List ℕ) (escape : ℕ) → length digits ≡ 2 → digits ≡ same
    → escape ∷ 88 ∷ get_or digits 0 0 ∷ get_or digits 1 0 ∷ escape ∷ [] ≡ escape ∷ 88 ∷ same ++ escape ∷ []
digits-whole [] same escape two is = absurd (omega (arith, two))
digits-whole (a ∷ []) same escape two is = absurd (omega (arith, two))
digits-whole (a ∷ b ∷ []) same escape two is = ap (λ (l : List ℕ). escape ∷ 88 ∷ l ++ escape ∷ []) is
digits-whole (a ∷ b ∷ c ∷ digits) same escape two is = absurd (omega (arith, two))

-- what is put before a record's fields, and the fields and the end
pub record_begun : (letter : ℕ) (old first front declared fields end rest : List ℕ) → old ≡ []
    → first ≡ old ++ letter ∷ [] → front ≡ first ++ declared → rest ≡ fields ++ end
    → front ++ rest ≡ letter ∷ (declared ++ fields) ++ end
record_begun letter old first front declared fields end rest none one more others =
    rw (more, one, none, others) (ap (λ (l : List ℕ). letter ∷ l) (sym (append_assoc declared fields end)))

-- what was added to a text, unless memory ran out
pub extended : (r : Result Unit AllocError) (old new bytes text : List ℕ)
    → new ≡ (if is_ok r then old ++ bytes else old) → bytes ≡ text → OnOk r (new ≡ old ++ text)
extended (Ok done) old new bytes text is same = is ∙ ap (λ (l : List ℕ). old ++ l) same
extended (Err error) old new bytes text is same = tt
