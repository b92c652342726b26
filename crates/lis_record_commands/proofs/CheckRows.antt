-- The definitions of `check` and `results` at messages whose output is known from outside, by computation.
use Rattle.std.proofs.Common.{◌≡◌, ℕ, List, [], ◌∷◌, ◌++◌, None, Some, refl, codes}
use Rattle.std.specs.Fmt.{digits}
use Rattle.hex.specs.Hex.{decode_pairs, encode_with}
use Rattle.lis_record_values.specs.declared.kinds.Kind.{Kind}
use Rattle.lis_record_values.specs.declared.kinds.Kind.TheVariants as kinds
use Rattle.lis_record_values.specs.Delimiters.{DelimiterBytes, delimiters_of}
use Rattle.lis_record_values.specs.Shape.{RecordContent}
use Rattle.lis_record_values.specs.declared.faults.RecordFault.TheVariants as record_faults
use Rattle.lis_record_values.specs.Escapes.{escape_of}
use Rattle.lis_record_read.specs.FrontReading.{escape_at, fields_of, symbols_after}
use Rattle.lis_record_write.specs.Encoding.{encoded_symbol}
use Rattle.lis_record_values.specs.declared.faults.Reason.TheVariants as reasons
use Rattle.lis_tree.specs.declared.tree.Group.TheVariants as groups
use Rattle.lis_tree.specs.Findings.{findings_of}
use Rattle.lis_tree.specs.Nodes.{Annotated}
use Rattle.lis_tree.specs.Tree.{MessageTree, flatten}
use Rattle.lis_record_commands.specs.Check.{check_message, check_writes, refused_part, sums_line}
use Rattle.lis_record_commands.specs.Messages.{messages_text, report_after}
use Rattle.lis_record_commands.specs.Results.{result_lines, results_writes}

unfoldable usual : DelimiterBytes
usual = delimiters_of 0x7c 0x5c 0x5e 0x26

-- a record of these fields, each after its delimiter
unfoldable entry : Kind → List ℕ → RecordContent
entry kind text = record { kind = kind; fields = fields_of usual text }

-- a message with one patient, this order and these results
unfoldable with_order : List ℕ → List Annotated → MessageTree
with_order order results =
    record {
      delimiters = usual;
      header = entry kinds.H [];
      notes = [];
      groups =
          groups.Patient (record {
            top = record { head = entry kinds.P (codes "|1"); notes = [] };
            below = record { top = record { head = entry kinds.O order; notes = [] }; below = results } ∷ [];
          }) ∷ [];
      closing = entry kinds.L (codes "|1|N");
    }

-- a result of glucose, with a comment
unfoldable panel : List ℕ → MessageTree
panel order =
    with_order order (record {
      head = entry kinds.R (codes "|1|^^^GLU|5.4|mmol/L|3.9 to 6.1|N||F");
      notes = entry kinds.C (codes "|1|I|fasting") ∷ [];
    } ∷ [])

panel_is_fine :
    check_message 0 (panel (codes "|1|S7")) ++ check_writes.last (panel (codes "|1|S7") ∷ []) None
    ≡ codes "message 1\n1 H 0\n2 P 1\n3 O 2\n4 R 8\n5 C 3\n6 L 2\nmessages 1 findings 0\n"
unfolding panel with_order entry usual digits symbols_after escape_at escape_of decode_pairs
panel_is_fine = refl

its_status : report_after check_writes (panel (codes "|1|S7") ∷ []) None ≡ record { status = 0; refused = None }
unfolding panel with_order entry usual symbols_after escape_at escape_of decode_pairs
its_status = refl

order_with_number_two :
    check_message 0 (panel (codes "|2|S7")) ++ check_writes.last (panel (codes "|2|S7") ∷ []) None
    ≡ codes "message 1\n1 H 0\n2 P 1\n3 O 2\n4 R 8\n5 C 3\n6 L 2\nfinding 3 O 1\nmessages 1 findings 1\n"
unfolding panel with_order entry usual digits symbols_after escape_at escape_of decode_pairs
order_with_number_two = refl

status_of_a_finding : report_after check_writes (panel (codes "|2|S7") ∷ []) None
    ≡ record { status = 1; refused = None }
unfolding panel with_order entry usual symbols_after escape_at escape_of decode_pairs
status_of_a_finding = refl

order_with_a_leading_zero : findings_of (panel (codes "|01|S7")) ≡ []
unfolding panel with_order entry usual symbols_after escape_at escape_of decode_pairs
order_with_a_leading_zero = refl

result_of_the_panel : messages_text results_writes 0 (panel (codes "|1|S7") ∷ [])
    ≡ codes "S7|^^^GLU|5.4|mmol/L|3.9 to 6.1|N|F\n"
unfolding panel with_order entry usual symbols_after escape_at escape_of decode_pairs encoded_symbol
result_of_the_panel = refl

-- fields 5 to 9 are absent, and are empty
short_result :
    result_lines usual None (entry kinds.O (codes "|1|S8") ∷ entry kinds.R (codes "|2|^^^K|4.1") ∷ [])
    ≡ codes "S8|^^^K|4.1||||\n"
unfolding entry usual symbols_after escape_at escape_of decode_pairs encoded_symbol
short_result = refl

-- each result is after the sample of its own order
two_orders :
    result_lines usual None
    (entry kinds.O (codes "|1|A") ∷ entry kinds.R (codes "|1|x|1") ∷ entry kinds.O (codes "|2|B")
    ∷ entry kinds.C (codes "|1") ∷ entry kinds.R (codes "|1|y|2") ∷ [])
    ≡ codes "A|x|1||||\nB|y|2||||\n"
unfolding entry usual symbols_after escape_at escape_of decode_pairs encoded_symbol
two_orders = refl

-- escapes are written as such, and a lone escape byte as one
escapes :
    result_lines usual None (entry kinds.O (codes "|1|A&F&1")
    ∷ entry kinds.R (codes "|1|n|S & S|&X0D0a&|&H&hi&N&|a\\b^c||F") ∷ [])
    ≡ codes "A&F&1|n|S &E& S|&X0d&&X0a&|&H&hi&N&|a\\b^c|F\n"
unfolding entry usual symbols_after escape_at escape_of decode_pairs encode_with encoded_symbol
escapes = refl

-- a query has no result
unfoldable query : MessageTree
query =
    record {
      delimiters = usual;
      header = entry kinds.H [];
      notes = [];
      groups = groups.Query (record { head = entry kinds.Q (codes "|1|^S9"); notes = [] }) ∷ [];
      closing = entry kinds.L (codes "|1");
    }

query_is_fine : check_message 4 query ≡ codes "message 5\n1 H 0\n2 Q 2\n3 L 1\n"
unfolding query entry usual digits symbols_after escape_at escape_of decode_pairs
query_is_fine = refl

query_has_no_result : result_lines usual None (flatten query) ≡ []
unfolding query entry usual
query_has_no_result = refl

-- a result without an order, after no message and after one
result_without_order : refused_part 0 (Some (record { place = 3; reason = reasons.NoParent kinds.R }))
    ++ sums_line 0 0 ≡ codes "refused 1 3 G3\nmessages 0 findings 0\n"
unfolding digits
result_without_order = refl

record_outside_a_message :
    check_writes.last (panel (codes "|1|S7") ∷ []) (Some (record { place = 1; reason = reasons.NotHeader }))
    ≡ codes "refused 2 1 G2\nmessages 1 findings 0\n"
unfolding panel with_order entry usual digits symbols_after escape_at escape_of decode_pairs
record_outside_a_message = refl

empty_record : refused_part 0 (Some (record { place = 2; reason = reasons.BadRecord record_faults.Empty }))
    ≡ codes "refused 1 2 G1 C1\n"
unfolding digits
empty_record = refl

report_of_a_refusal :
    (report_after results_writes (query ∷ []) (Some (record { place = 1; reason = reasons.NotHeader })))
    ≡ record {
      status = 1;
      refused =
          Some (record { message = 2; fault = record { place = 1; reason = reasons.NotHeader } });
    }
report_of_a_refusal = refl
