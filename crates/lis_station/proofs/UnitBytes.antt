-- The bytes of a unit: none is an ACK, and none but the first an ENQ.
use Rattle.std.proofs.Common.{◌≡◌, ℕ, ◌+◌, ◌/◌, ◌%◌, ◌<◌, Bool, true, false, List, [], ◌∷◌, ◌++◌, None, Some, refl, sym}
use Rattle.std.proofs.Common.{ap, ◌∙◌}
use Rattle.std.proofs.Common.{arith}
use Rattle.std.specs.Prelude.{cond, ◌==◌, ◌||◌}
use Rattle.std.specs.List.{position_from}
use Rattle.std.proofs.lemmas.Bool.{ne_eqb}
use Rattle.std.proofs.lemmas.Bool.Decides.{nat_tests}
use Rattle.lis_text.specs.Control.{ACK, ENQ}
use Rattle.lis_text.specs.Text.{is_forbidden}
use Rattle.lis_frame.specs.Frame.{FrameContent, IsContent, frame_bytes, upper_digit, end_byte, number_byte}
use Rattle.lis_frame.specs.Frame.{checksum}
use Rattle.lis_station.specs.Line.{has_byte}

-- a byte that is forbidden in a text
module _ (c : ℕ) (forbidden : is_forbidden c ≡ true) where
  differs : (b : ℕ) → is_forbidden b ≡ false → (c == b) ≡ false
  differs b allowed = ne_eqb c b (λ same.
      let both : true ≡ false = sym forbidden ∙ ap is_forbidden same ∙ allowed in
      absurd (cc))

  lacks : (b : ℕ) (rest : List ℕ) → is_forbidden b ≡ false → has_byte c rest ≡ false → has_byte c (b ∷ rest) ≡ false
  lacks b rest allowed none = ap (λ t. t || has_byte c rest) (differs b allowed) ∙ none

  lacks_text : (i : ℕ) (text rest : List ℕ) → position_from is_forbidden i text ≡ None → has_byte c rest ≡ false
      → has_byte c (text ++ rest) ≡ false
  lacks_text i [] rest clean none = none
  lacks_text i (b ∷ text) rest clean none = by (is_forbidden b) refl clean
      (λ later. lacks_text (i + 1) text rest later none)
    where
      by :
          (test : Bool) → is_forbidden b ≡ test → cond test (Some i) (position_from is_forbidden (i + 1) text) ≡ None
          → (position_from is_forbidden (i + 1) text ≡ None → has_byte c (text ++ rest) ≡ false)
          → has_byte c (b ∷ (text ++ rest)) ≡ false
      by true e clean later = absurd (cc)
      by false e clean later = lacks b (text ++ rest) e (later clean)

digit_allowed : (n : ℕ) → n < 16 → is_forbidden (upper_digit n) ≡ false
digit_allowed n h = grind (arith, nat_tests)

number_allowed : (n : ℕ) → n < 8 → is_forbidden (number_byte n) ≡ false
number_allowed n h = grind (arith, nat_tests)

-- the digits, CR and LF, which are after the end byte
module _ (limit : ℕ) (f : FrameContent) (content : IsContent limit f) where
  checksum_small : checksum f < 256
  checksum_small = omega arith

  after_end : List ℕ
  after_end = upper_digit (checksum f / 16) ∷ upper_digit (checksum f % 16) ∷ 13 ∷ 10 ∷ []

  digits_lack : (c : ℕ) (forbidden : is_forbidden c ≡ true) → has_byte c (13 ∷ 10 ∷ []) ≡ false
      → has_byte c after_end ≡ false
  unfolding after_end
  digits_lack c forbidden none =
      let small = checksum_small in
      let high = upper_digit (checksum f / 16) in
      let low = upper_digit (checksum f % 16) in
      lacks c forbidden high (low ∷ 13 ∷ 10 ∷ []) (digit_allowed (checksum f / 16) (omega arith))
      (lacks c forbidden low (13 ∷ 10 ∷ []) (digit_allowed (checksum f % 16) (omega arith)) none)

  end_lacks : (c : ℕ) (last : Bool) (rest : List ℕ) → (c == end_byte last) ≡ false → has_byte c rest ≡ false
      → has_byte c (end_byte last ∷ rest) ≡ false
  end_lacks c last rest other none = ap (λ t. t || has_byte c rest) other ∙ none

  no_end : (c : ℕ) (last : Bool) → (c == end_byte true) ≡ false → (c == end_byte false) ≡ false
      → (c == end_byte last) ≡ false
  no_end c true is_etx is_etb = is_etx
  no_end c false is_etx is_etb = is_etb

  frame_lacks :
      (c : ℕ) (forbidden : is_forbidden c ≡ true)
      → (c == end_byte true) ≡ false
      → (c == end_byte false) ≡ false
      → has_byte c (13 ∷ 10 ∷ []) ≡ false
      → has_byte c (number_byte f.number ∷ (f.text ++ (end_byte f.last ∷ after_end))) ≡ false
  frame_lacks c forbidden etx etb none =
      let within = content.number_in_range in
      lacks c forbidden (number_byte f.number) (f.text ++ (end_byte f.last ∷ after_end))
      (number_allowed f.number (omega arith))
      (lacks_text c forbidden 0 f.text (end_byte f.last ∷ after_end) content.is_text.clean
      (end_lacks c f.last after_end (no_end c f.last etx etb) (digits_lack c forbidden none)))

  pub frame_lacks_ack : has_byte ACK (frame_bytes f) ≡ false
  unfolding frame_bytes after_end
  frame_lacks_ack = frame_lacks ACK refl refl refl refl

  pub frame_lacks_enq : has_byte ENQ (frame_bytes f) ≡ false
  unfolding frame_bytes after_end
  frame_lacks_enq = frame_lacks ENQ refl refl refl refl
