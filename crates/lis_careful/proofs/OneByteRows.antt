-- Frames of which one changed byte is not noticed by a receiver as the profile has it.
use Rattle.std.proofs.Common.{◌≡◌, ℕ, true, [], ◌∷◌, ◌++◌, refl, ap, sym, ◌∙◌}
use Rattle.std.proofs.Common.{arith, get_or}
use Rattle.lis_frame.specs.Frame.{FrameContent, IsFrame}
use Rattle.lis_frame.specs.FrameBody.{body_fault}
use Rattle.lis_frame.specs.Stream.{open_body, signal_after}
use Rattle.lis_link.specs.Receiver.{ReceiverState, ReceiverStep, on_byte}
use Rattle.lis_careful.specs.OneByte.{Mistakes, OneByteMayMatter, answers_each_enquiry, takes_each_start}
use Rattle.lis_careful.specs.OneByte.{replies_of, taken_of, opened}

-- 'H', with its CR changed to ENQ
header : FrameContent
header = record { number = 1; last = true; text = 0x48 ∷ [] }

header_is : IsFrame 240 ((0x02 ∷ 0x31 ∷ 0x48 ∷ 0x03 ∷ 0x37 ∷ 0x43 ∷ []) ++ 0x0d ∷ 0x0a ∷ []) header
unfolding header
header_is = record {
  content = record {
    number_in_range = omega arith;
    is_text = record { short = omega arith; clean = refl };
  };
  high = 0x37;
  low = 0x43;
  digits = record { high_value = 7; low_value = 12; is_high = refl; is_low = refl; value_is = refl };
  encoding = refl;
}

-- 'hg1Q', with its 'g' changed to STX: '1', 'h' and 'g' have the sum 256
inside : FrameContent
inside = record { number = 1; last = true; text = 0x68 ∷ 0x67 ∷ 0x31 ∷ 0x51 ∷ [] }

inside_is : IsFrame 240 ((0x02 ∷ 0x31 ∷ 0x68 ∷ []) ++ 0x67 ∷ 0x31 ∷ 0x51 ∷ 0x03 ∷ 0x38 ∷ 0x35 ∷ 0x0d ∷ 0x0a ∷ []) inside
unfolding inside
inside_is = record {
  content = record {
    number_in_range = omega arith;
    is_text = record { short = omega arith; clean = refl };
  };
  high = 0x38;
  low = 0x35;
  digits = record { high_value = 8; low_value = 5; is_high = refl; is_low = refl; value_is = refl };
  encoding = refl;
}

by_enquiry : (hear : ℕ → ReceiverState → ReceiverStep)
    → replies_of hear (0x02 ∷ 0x31 ∷ 0x48 ∷ 0x03 ∷ 0x37 ∷ 0x43 ∷ 0x05 ∷ 0x0a ∷ []) opened ≡ 0x06 ∷ []
    → taken_of hear (0x02 ∷ 0x31 ∷ 0x48 ∷ 0x03 ∷ 0x37 ∷ 0x43 ∷ 0x05 ∷ 0x0a ∷ []) opened ≡ []
    → Mistakes hear
by_enquiry hear replies taken = record {
  frame = header;
  before = 0x02 ∷ 0x31 ∷ 0x48 ∷ 0x03 ∷ 0x37 ∷ 0x43 ∷ [];
  after = 0x0a ∷ [];
  was = 0x0d;
  is = 0x05;
  is_frame = header_is;
  differ = λ e. absurd (omega arith);
  acknowledged = replies;
  not_taken = λ e. let none = sym taken ∙ e in cc;
}

by_start : (hear : ℕ → ReceiverState → ReceiverStep) (other : FrameContent)
    → replies_of hear (0x02 ∷ 0x31 ∷ 0x68 ∷ 0x02 ∷ 0x31 ∷ 0x51 ∷ 0x03 ∷ 0x38 ∷ 0x35 ∷ 0x0d ∷ 0x0a ∷ []) opened
    ≡ 0x06 ∷ []
    → taken_of hear (0x02 ∷ 0x31 ∷ 0x68 ∷ 0x02 ∷ 0x31 ∷ 0x51 ∷ 0x03 ∷ 0x38 ∷ 0x35 ∷ 0x0d ∷ 0x0a ∷ []) opened
    ≡ other ∷ []
    → (other ≡ inside → ⊥)
    → Mistakes hear
by_start hear other replies taken differs = record {
  frame = inside;
  before = 0x02 ∷ 0x31 ∷ 0x68 ∷ [];
  after = 0x31 ∷ 0x51 ∷ 0x03 ∷ 0x38 ∷ 0x35 ∷ 0x0d ∷ 0x0a ∷ [];
  was = 0x67;
  is = 0x02;
  is_frame = inside_is;
  differ = λ e. absurd (omega arith);
  acknowledged = replies;
  not_taken = λ e. let same = sym taken ∙ e in differs cc;
}

-- 'Q' alone
shorter : FrameContent
shorter = record { number = 1; last = true; text = 0x51 ∷ [] }

shorter_differs : shorter ≡ inside → ⊥
unfolding shorter inside
shorter_differs e =
    let bytes : ◌≡◌ {A = ℕ} 0x51 0x68 = ap (λ (f : FrameContent). get_or f.text 0 0) e in
    absurd (omega arith)

enquiry_answered : Mistakes (on_byte 240)
unfolding signal_after open_body body_fault
enquiry_answered = by_enquiry (on_byte 240) refl refl

start_taken : Mistakes (on_byte 240)
unfolding signal_after open_body body_fault shorter
start_taken = by_start (on_byte 240) shorter refl refl shorter_differs

without_enquiry : Mistakes answers_each_enquiry
unfolding signal_after open_body body_fault
without_enquiry = by_enquiry answers_each_enquiry refl refl

without_start : Mistakes takes_each_start
unfolding signal_after open_body body_fault shorter
without_start = by_start takes_each_start shorter refl refl shorter_differs

pub may_matter : OneByteMayMatter
unfolding enquiry_answered start_taken by_enquiry by_start
may_matter = record {
  enquiry = enquiry_answered;
  is_enquiry = refl;
  start = start_taken;
  is_start = refl;
  without_enquiry_rule = without_enquiry;
  without_start_rule = without_start;
}
