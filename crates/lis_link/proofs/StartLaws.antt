-- What a start that is not rejected says about the texts.
use Rattle.std.proofs.Common.{◌≡◌, ℕ, ◌+◌, List, [], ◌∷◌, Option, None, Some, refl, drop, add-one}
use Rattle.std.specs.Prelude.{All, slice_get}
use Rattle.std.specs.Option.{option_map, option_or}
use Rattle.std.proofs.lemmas.List.Elements.{All-nil, All-cons, All-weaker}
use Rattle.lis_text.specs.declared.text.TextFault.{TextFault}
use Rattle.lis_text.specs.LinkText.{longest_text}
use Rattle.lis_text.specs.Text.{IsText, text_fault}
use Rattle.lis_text.proofs.TextLemmas.{text_fault-none}
use Rattle.lis_link.specs.declared.sender.Phase.{Phase}
use Rattle.lis_link.specs.declared.sender.Phase.TheVariants.{Neutral, AwaitLine, Busy, Contention, AwaitReply}
use Rattle.lis_link.specs.declared.sender.StartFault.TheVariants.{BadText}
use Rattle.lis_link.specs.Sender.{bad_text, start_fault_in}
use Rattle.lis_link.proofs.QueueLaws.{drop-at}

abbrev pub Faultless : List ℕ → Type 0
Faultless text = text_fault longest_text text ≡ None

faultless-bad_text : (index : ℕ) (texts : List (List ℕ)) → bad_text index texts ≡ None → All Faultless texts
faultless-bad_text index [] e = All-nil Faultless
faultless-bad_text index (text ∷ texts) e = go (text_fault longest_text text) refl_of e
    (faultless-bad_text (index + 1) texts)
  where
    refl_of : text_fault longest_text text ≡ text_fault longest_text text
    refl_of = refl

    go :
        (fault : Option TextFault)
        → text_fault longest_text text ≡ fault
        → option_or (option_map (BadText index) fault) (bad_text (index + 1) texts) ≡ None
        → (bad_text (index + 1) texts ≡ None → All Faultless texts)
        → All Faultless (text ∷ texts)
    go None is none later = All-cons Faultless text texts is (later none)
    go (Some fault) is none later = absurd (cc)

-- the text at a place is the first bad one from there on, or the search goes on after it
pub bad_text_here :
    (texts : List (List ℕ)) (index : ℕ) (text : List ℕ) (fault : TextFault)
    → slice_get texts index ≡ Some text
    → text_fault longest_text text ≡ Some fault
    → bad_text index (drop index texts) ≡ Some (BadText index fault)
bad_text_here texts index text fault at is = rw (drop-at texts index text at, is) refl

pub bad_text_after :
    (texts : List (List ℕ)) (index : ℕ) (text : List ℕ)
    → slice_get texts index ≡ Some text
    → text_fault longest_text text ≡ None
    → bad_text (index + 1) (drop (index + 1) texts) ≡ bad_text index (drop index texts)
bad_text_after texts index text at none = rw (drop-at texts index text at, none, add-one index) refl

pub faultless-start : (p : Phase) (texts : List (List ℕ)) → start_fault_in p texts ≡ None → All Faultless texts
faultless-start Neutral [] none = absurd (cc)
faultless-start Neutral (text ∷ texts) none = faultless-bad_text 0 (text ∷ texts) none
faultless-start AwaitLine texts none = absurd (cc)
faultless-start Busy texts none = absurd (cc)
faultless-start Contention texts none = absurd (cc)
faultless-start AwaitReply texts none = absurd (cc)

pub texts-faultless : (texts : List (List ℕ)) → All Faultless texts → All (IsText longest_text) texts
texts-faultless texts all = All-weaker Faultless (IsText longest_text)
    (λ text none. text_fault-none longest_text text none) texts all
