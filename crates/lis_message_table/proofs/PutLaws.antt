-- One more item is put into an array after those before it; what is put where no further record comes.
use Rattle.std.proofs.Common.{◌≡◌, ◌+◌, ◌∷◌, ◌++◌, ℕ, List, [], ap, length, refl, sym, take, ◌∙◌}
use Rattle.std.specs.Prelude.{map, slice_set, suc, zero}
use Rattle.std.proofs.lemmas.List.{length-map, map-append}
use Rattle.lis_bytes.specs.Capped.{capped}
use Rattle.lis_record_values.specs.declared.faults.MessageFault.{MessageFault}
use Rattle.lis_record_values.specs.declared.kinds.Kind.{Kind}
use Rattle.lis_message.specs.Kept.{RecordsState}
use Rattle.lis_message_table.proofs.ParentLaws.{front_parents}
use Rattle.lis_message_table.specs.Parents.{parents_after}
use Rattle.lis_message_table.specs.Put.{PutsFront, over, placed_record}
use Rattle.lis_message_table.specs.Table.{IsTextFault}
use Rattle.lis_message_table.specs.declared.above.Above.{Above}
use Rattle.lis_message_table.specs.inside.Reading.{IsReading}
use Rattle.lis_message_table.specs.declared.places.LisRecordPlace.{LisRecordPlace}
use Rattle.lis_message_table.specs.declared.places.RecordPlace.{RecordPlace}

take_nil : (n : ℕ) → take {A = LisRecordPlace} n [] ≡ []
take_nil zero = refl
take_nil (suc n) = refl

over_more : (before items : List LisRecordPlace) (x : LisRecordPlace)
    → slice_set (over before items) (length items) x ≡ over before (items ++ x ∷ [])
over_more [] [] x = refl
over_more (b ∷ before) [] x = ap (λ (l : List LisRecordPlace). x ∷ (l ++ before)) (sym (take_nil (length before)))
over_more [] (i ∷ items) x = refl
over_more (b ∷ before) (i ∷ items) x = ap (λ (l : List LisRecordPlace). i ∷ l) (over_more before items x)

put_more : (before : List LisRecordPlace) (places : List RecordPlace) (p : RecordPlace)
    → slice_set (over before (map placed_record places)) (length places) (placed_record p)
    ≡ over before (map placed_record (places ++ p ∷ []))
put_more before places p =
    ap (λ (n : ℕ). slice_set (over before (map placed_record places)) n (placed_record p))
    (sym (length-map places placed_record))
    ∙ over_more before (map placed_record places) (placed_record p)
    ∙ ap (over before) (sym (map-append placed_record places (p ∷ [])))

pub put_next : (before out after : List LisRecordPlace) (places : List RecordPlace) (p : RecordPlace) (count : ℕ)
    (x : LisRecordPlace) → out ≡ over before (map placed_record places) → count ≡ length places → x ≡ placed_record p
    → after ≡ slice_set out count x → after ≡ over before (map placed_record (places ++ p ∷ []))
put_next before out after places p count x is counted placed set =
    let so_far = over before (map placed_record places) in
    set ∙ ap (λ (l : List LisRecordPlace). slice_set l count x) is ∙ ap (λ (n : ℕ). slice_set so_far n x) counted
    ∙ ap (slice_set so_far (length places)) placed ∙ put_more before places p

pub puts_front : (reader : RecordsState) (text : List ℕ) (places : List RecordPlace) (above : Above) (rest : List ℕ)
    (fault : MessageFault) (before out : List LisRecordPlace) → IsReading reader text places above rest
    → IsTextFault text fault × (fault.place ≡ capped (length places + 1))
    → out ≡ over before (map placed_record places) → PutsFront text fault before out
puts_front reader text places above rest fault before out r has put = record {
  has = has.0;
  places = places;
  rest = rest;
  left = r.left;
  front = r.whole;
  are = r.are;
  starts = r.starts;
  kinds = r.kinds;
  parents = r.parents ∙ front_parents _ ∙ ap (parents_after []) (sym r.kinds);
  number = has.1;
  put = put;
}
