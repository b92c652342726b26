-- The handles that C holds.
use Rattle.lis_c.proofs.HandleLaws.{Handle, handle}
use Rattle.lis_c.proofs.handle_state.ScannerHandleState.TheLaws.{the_row_laws as scanner_laws}
use Rattle.lis_c.specs.contracts.scanner.LisScanner.{the_type as scanner_type}
use Rattle.lis_c.proofs.handle_state.SenderHandleState.TheLaws.{the_row_laws as sender_laws}
use Rattle.lis_c.specs.contracts.sender.LisSender.{the_type as sender_type}
use Rattle.lis_c.proofs.handle_state.ReceiverHandleState.TheLaws.{the_row_laws as receiver_laws}
use Rattle.lis_c.specs.contracts.receiver.LisReceiver.{the_type as receiver_type}
use Rattle.lis_c.proofs.station_state.StationHandleState.TheLaws.{the_row_laws as station_laws}
use Rattle.lis_c.specs.contracts.station.LisStation.{the_type as station_type}
use Rattle.lis_c.proofs.handle_state.ReaderHandleState.TheLaws.{the_row_laws as reader_laws}
use Rattle.lis_c.specs.contracts.reader.LisReader.{the_type as reader_type}
use Rattle.lis_c.proofs.record_builder.WriterHandleState.TheLaws.{the_row_laws as writer_laws}
use Rattle.lis_c.specs.contracts.writer.LisWriter.{the_type as writer_type}
use Rattle.std.specs.Prelude.{refl}

abbrev pub scanner : Handle
scanner = handle scanner_type scanner_laws (λ h. (h.at, h.state)) (λ p w. record { at = p; state = w }) (λ p w. refl)

abbrev pub sender : Handle
sender = handle sender_type sender_laws (λ h. (h.at, h.state)) (λ p w. record { at = p; state = w }) (λ p w. refl)

abbrev pub receiver : Handle
receiver = handle receiver_type receiver_laws (λ h. (h.at, h.state)) (λ p w. record { at = p; state = w }) (λ p w. refl)

abbrev pub station : Handle
station = handle station_type station_laws (λ h. (h.at, h.state)) (λ p w. record { at = p; state = w }) (λ p w. refl)

abbrev pub reader : Handle
reader = handle reader_type reader_laws (λ h. (h.at, h.state)) (λ p w. record { at = p; state = w }) (λ p w. refl)

abbrev pub writer : Handle
writer = handle writer_type writer_laws (λ h. (h.at, h.state)) (λ p w. record { at = p; state = w }) (λ p w. refl)
