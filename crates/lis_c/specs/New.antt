-- What a new block holds, and what its address is a multiple of.
use Rattle.std.specs.Prelude.{◌≡◌, ℕ, false, [], None}
use Rattle.std.specs.Borrow.{full_share}
use Rattle.std.specs.Ptr.{Ptr, lies_at}
use base.Fml.{Fml, fex}
use prog.Memory.{align}
use denote.Memory.{lone}
use denote.RattleType.{RattleType}
use Rattle.lis_link.specs.Sender.{new_sender}
use Rattle.lis_record_values.specs.Delimiters.{usual}
use Rattle.lis_c.specs.Limits.{NewScanner, sender_limit, sender_state}
use Rattle.lis_c.specs.Reading.{new_reader}
use Rattle.lis_c.specs.Stations.{NewStation}
use Rattle.lis_c.specs.Within.{NewReceiverState}
use Rattle.lis_station.specs.declared.station.Role.TheVariants.{Computer}
use Rattle.lis_c.specs.contracts.record_builder.WriterHandleState as writer_handle_state
use Rattle.lis_c.specs.contracts.handle_state.ReaderHandleState as reader_handle_state
use Rattle.lis_c.specs.contracts.handle_state.ScannerHandleState as scanner_handle_state
use Rattle.lis_c.specs.contracts.handle_state.SenderHandleState as sender_handle_state
use Rattle.lis_c.specs.contracts.handle_state.ReceiverHandleState as receiver_handle_state
use Rattle.lis_c.specs.contracts.station_state.StationHandleState as station_handle_state

-- a value in a block, of which this holds
abbrev pub IsNew : (T : RattleType) → (T.Denot → Type 0) → Ptr → Fml
IsNew T P p = fex ((d : T.Denot) × P d) (λ d. lies_at T full_share p d.0)

-- a handle's state with a scanner of the usual limit that has read no byte
abbrev pub IsNewScanner : Ptr → Fml
IsNewScanner = IsNew scanner_handle_state.the_row (λ d. NewScanner 240 d.scanner)

-- a handle's state with a sender of the usual limit that was never started, and no text
abbrev pub IsNewSender : Ptr → Fml
IsNewSender = IsNew sender_handle_state.the_row (λ d. (sender_limit d.sender ≡ 240)
    × (sender_state d.sender ≡ new_sender) × (d.texts ≡ []))

-- a handle's state with a new receiver of the usual limit, which has reserved nothing, and no limit and no text; it
-- doesn't hear carefully
abbrev pub IsNewReceiver : Ptr → Fml
IsNewReceiver = IsNew receiver_handle_state.the_row (λ d. NewReceiverState 240 d × (d.careful ≡ false))

-- a handle's state with a new station of a computer and of the usual limit, and no text, that doesn't hear carefully
abbrev pub IsNewStation : Ptr → Fml
IsNewStation = IsNew station_handle_state.the_row (λ d. NewStation Computer 240 d.station × (d.texts ≡ [])
    × (d.text ≡ []) × (d.reserved ≡ 0) × (d.noise ≡ 0) × (d.careful ≡ false))

-- a handle's state with a reader at the start of a stream
abbrev pub IsNewReader : Ptr → Fml
IsNewReader = IsNew reader_handle_state.the_row (λ d. d.reader ≡ new_reader)

-- a handle's state outside a message with the usual delimiters, and no text
abbrev pub IsNewWriter : Ptr → Fml
IsNewWriter = IsNew writer_handle_state.the_row (λ d. (d.delimiters ≡ usual) × (d.position ≡ None)
    × (d.record_builder ≡ None)
    × (d.texts ≡ []))

abbrev pub type_align : RattleType → ℕ
type_align R = align (lone R.mir)
