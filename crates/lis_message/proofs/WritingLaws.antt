-- How the bytes of a message go out, record by record.
use Rattle.std.proofs.Common.{◌≡◌, ℕ, zero, suc, ◌+◌, ◌-◌, ◌<◌, ◌≤◌, Bool, true, false, List, [], ◌∷◌, ◌++◌, length}
use Rattle.std.proofs.Common.{map, take, drop, Option, Some, None, Result, Ok, Err, refl, sym, ◌∙◌, ap, subst}
use Rattle.std.proofs.Common.{append_assoc, arith, length-append, length-drop, length-take}
use Rattle.std.specs.Io.KnownBytes.{Appends, Keeps}
use Rattle.std.specs.Option.{option_or}
use Rattle.lis_tree.specs.Tree.{MessageTree, flatten}
use Rattle.std.specs.Prelude.{IfErr, option_map, nat_lt, if◌then◌else◌}
use Rattle.std.proofs.lemmas.List.{append-nil, drop-drop}
use Rattle.lis_record_write.specs.declared.faults.WriteFault.{WriteFault}
use Rattle.lis_record_write.specs.declared.faults.WriteFault.TheVariants as write_faults
use Rattle.lis_record_values.specs.Delimiters.{DelimiterBytes}
use Rattle.lis_record_write.specs.WriteFaults.{bad_field_number, check_fault}
use Rattle.lis_record_write.specs.declared.writing.TheConstants.{RECORD_LIMIT}
use Rattle.lis_record_values.specs.Shape.{RecordContent}
use Rattle.lis_record_write.specs.Encoding.{encoded, written}
use Rattle.lis_record_write.specs.Writing.{Wrote, is_io}
use Rattle.lis_message.specs.declared.fault.MessageWriteFault.{MessageWriteFault}
use Rattle.lis_bytes.specs.Capped.{capped}
use Rattle.lis_message.specs.Writing.{records_bytes, AreWritable, CanResume, refusal_from, first_bytes, first_length}
use Rattle.lis_message.specs.Writing.{front_of, StoppedIn, WroteMessage, WroteRecords, write_refusal}

-- ---- rejections

pub refusal_here : (d : DelimiterBytes) (n : ℕ) (r : RecordContent) (rs : List RecordContent) (fault : WriteFault)
    → check_fault d r ≡ Some fault → refusal_from d n (r ∷ rs) ≡ Some (record { place = capped n; fault = fault })
refusal_here d n r rs fault e =
    ap (λ f. elim f [ Some x ↦ Some (record { place = capped n; fault = x }) | None ↦ refusal_from d (n + 1) rs ]) e

pub refusal_later : (d : DelimiterBytes) (n : ℕ) (r : RecordContent) (rs : List RecordContent)
    → check_fault d r ≡ None → refusal_from d n (r ∷ rs) ≡ refusal_from d (n + 1) rs
refusal_later d n r rs e =
    ap (λ f. elim f [ Some x ↦ Some (record { place = capped n; fault = x }) | None ↦ refusal_from d (n + 1) rs ]) e

refusal_split : (d : DelimiterBytes) (n : ℕ) (r : RecordContent) (rs : List RecordContent) (f : Option WriteFault)
    → check_fault d r ≡ f → refusal_from d n (r ∷ rs) ≡ None → (check_fault d r ≡ None)
    × (refusal_from d (n + 1) rs ≡ None)
refusal_split d n r rs None e h = (e, sym (refusal_later d n r rs e) ∙ h)
refusal_split d n r rs (Some x) e h = let clash : ◌≡◌ {A = Option MessageWriteFault}
    (Some (record { place = capped n; fault = x })) None = sym (refusal_here d n r rs x e) ∙ h in absurd cc

pub all_writable : (d : DelimiterBytes) (n : ℕ) (rs : List RecordContent) → refusal_from d n rs ≡ None
    → AreWritable d rs
all_writable d n [] h = tt
all_writable d n (r ∷ rs) h = let both = refusal_split d n r rs (check_fault d r) refl h in
    (both.0, all_writable d (n + 1) rs both.1)

pub writable_drop : (d : DelimiterBytes) (n : ℕ) (rs : List RecordContent) → AreWritable d rs
    → AreWritable d (drop n rs)
writable_drop d zero rs w = w
writable_drop d (suc n) [] w = tt
writable_drop d (suc n) (r ∷ rs) w = writable_drop d n rs w.1

-- ---- bytes

appends_then : (a b c : Option (List ℕ)) (xs ys : List ℕ) → Appends a b xs → Appends b c ys → Appends a c (xs ++ ys)
appends_then None b c xs ys p q = tt
appends_then (Some x) None c xs ys p q = absurd p
appends_then (Some x) (Some y) None xs ys p q = absurd q
appends_then (Some x) (Some y) (Some z) xs ys p q = q ∙ ap (λ l. l ++ ys) p ∙ append_assoc x xs ys

pub appends_none : (a : Option (List ℕ)) (n : ℕ) → Appends a a (drop n [])
appends_none None n = tt
appends_none (Some x) zero = sym (append-nil x)
appends_none (Some x) (suc n) = sym (append-nil x)

drop_front : (n : ℕ) (xs ys : List ℕ) → n ≤ length xs → drop n (xs ++ ys) ≡ drop n xs ++ ys
drop_front zero xs ys h = refl
drop_front (suc n) [] ys h = absurd (omega arith)
drop_front (suc n) (x ∷ xs) ys h = drop_front n xs ys (omega arith)

place_after : (place whole : ℕ) → capped (capped (place + 1) + whole) ≡ capped (place + suc whole)
place_after place whole = omega arith

-- ---- one record after another

-- where the first record went out, what is said of the others is said of all
stopped_step : (d : DelimiterBytes) (r : RecordContent) (rs : List RecordContent) (place skip : ℕ)
    (old mid new : Option (List ℕ)) → skip ≤ length (written d r) → Appends old mid (drop skip (written d r))
    → (found : ℕ) (fault : WriteFault) → StoppedIn d rs (capped (place + 1)) 0 mid new found fault
    → StoppedIn d (r ∷ rs) place skip old new found fault
stopped_step d r rs place skip old mid new fits first found (write_faults.Io count) s =
    let front = front_of d rs s.0 count in
    let all : front_of d (r ∷ rs) (suc s.0) count ≡ written d r ++ front =
    append_assoc (written d r) (records_bytes d (take s.0 rs)) (first_bytes d count (drop s.0 rs)) in (
      suc s.0,
      s.1 ∙ place_after place s.0,
      omega arith,
      s.3,
      omega (arith, ap length all, length-append (written d r) front),
      subst (Appends old new) (sym (ap (drop skip) all ∙ drop_front skip (written d r) front fits))
          (appends_then old mid new (drop skip (written d r)) front first s.5),
    )
stopped_step d r rs place skip old mid new fits first found (write_faults.CharNotText n) s = absurd s
stopped_step d r rs place skip old mid new fits first found write_faults.TooLong s = absurd s

pub wrote_step : (d : DelimiterBytes) (r : RecordContent) (rs : List RecordContent) (place skip : ℕ)
    (old mid new : Option (List ℕ)) (result : Result (Unit {0}) MessageWriteFault) → skip ≤ length (written d r)
    → Appends old mid (drop skip (written d r))
    → WroteRecords d rs (capped (place + 1)) 0 mid new result → WroteRecords d (r ∷ rs) place skip old new result
wrote_step d r rs place skip old mid new (Ok done) fits first w =
    subst (Appends old new) (sym (drop_front skip (written d r) (records_bytes d rs) fits))
    (appends_then old mid new (drop skip (written d r)) (records_bytes d rs) first w)
wrote_step d r rs place skip old mid new (Err fault) fits first w =
    stopped_step d r rs place skip old mid new fits first fault.place fault.fault w

-- the sink failed in the first record
pub wrote_stop : (d : DelimiterBytes) (r : RecordContent) (rs : List RecordContent) (place skip : ℕ)
    (old new : Option (List ℕ)) (fault : WriteFault) → place ≤ 18446744073709551615 → check_fault d r ≡ None
    → Wrote (check_fault d r) skip (written d r) old new (Err fault)
    → StoppedIn d (r ∷ rs) place skip old new place fault
wrote_stop d r rs place skip old new (write_faults.Io count) fits none w =
    (0, omega arith, omega arith, w.2, omega (arith, length-take count (written d r)), w.3)
wrote_stop d r rs place skip old new (write_faults.CharNotText n) fits none w =
    let clash : None ≡ Some (write_faults.CharNotText n) = sym none ∙ w.0 in absurd cc
wrote_stop d r rs place skip old new write_faults.TooLong fits none w = let clash : None ≡ Some write_faults.TooLong =
    sym none ∙ w.0 in absurd cc

-- records are being written: what comes of those that are left comes of all
pub record IsUnderWay (d : DelimiterBytes) (failed : Bool) (rest : List RecordContent) (at' passed : ℕ)
    (now : Option (List ℕ)) (records : List RecordContent) (place skip : ℕ) (old : Option (List ℕ)) : Type 0 where
  pub sound : failed ≡ false
  pub fits : at' ≤ 18446744073709551615
  pub writable : AreWritable d rest
  pub room : passed ≤ first_length d rest
  pub goes : (new : Option (List ℕ)) (result : Result (Unit {0}) MessageWriteFault)
      → WroteRecords d rest at' passed now new result → WroteRecords d records place skip old new result

-- no record is rejected for the sink's sake
kind_of_fault : (o : Option ℕ) (long : Bool) (f : WriteFault)
    → option_or (option_map write_faults.CharNotText o) (if long then Some write_faults.TooLong else None) ≡ Some f
    → is_io (Err f) ≡ false
kind_of_fault (Some n) long f e = let h : write_faults.CharNotText n ≡ f = cc in ap (λ x. is_io (Err x)) (sym h)
kind_of_fault None true f e = let h : write_faults.TooLong ≡ f = cc in ap (λ x. is_io (Err x)) (sym h)
kind_of_fault None false f e = absurd cc

check_no_io : (d : DelimiterBytes) (r : RecordContent) (f : WriteFault) → check_fault d r ≡ Some f
    → is_io (Err f) ≡ false
unfolding check_fault
check_no_io d r f e = kind_of_fault (bad_field_number r) (nat_lt RECORD_LIMIT (length (encoded d r))) f e

refusal_kind : (d : DelimiterBytes) (n : ℕ) (r : RecordContent) (rs : List RecordContent) (f : Option WriteFault)
    (fault : MessageWriteFault) → check_fault d r ≡ f → refusal_from d n (r ∷ rs) ≡ Some fault
    → (refusal_from d (n + 1) rs ≡ Some fault → is_io (Err fault.fault) ≡ false) → is_io (Err fault.fault) ≡ false
refusal_kind d n r rs None fault e h later = later (sym (refusal_later d n r rs e) ∙ h)
refusal_kind d n r rs (Some x) fault e h later =
    let same : ◌≡◌ {A = Option MessageWriteFault} (Some (record { place = capped n; fault = x })) (Some fault) =
    sym (refusal_here d n r rs x e) ∙ h in
    let is : ◌≡◌ {A = MessageWriteFault} (record { place = capped n; fault = x }) fault = cc in
    ap (λ (w : MessageWriteFault). is_io (Err w.fault)) (sym is) ∙ check_no_io d r x e

pub refusal_no_io : (d : DelimiterBytes) (n : ℕ) (rs : List RecordContent) (fault : MessageWriteFault)
    → refusal_from d n rs ≡ Some fault → is_io (Err fault.fault) ≡ false
refusal_no_io d n [] fault e = absurd cc
refusal_no_io d n (r ∷ rs) fault e = refusal_kind d n r rs (check_fault d r) fault refl e
    (refusal_no_io d (n + 1) rs fault)

-- by other names
pub writable_as : (d e : DelimiterBytes) (rs ss : List RecordContent) → d ≡ e → rs ≡ ss → AreWritable d rs
    → AreWritable e ss
writable_as d e rs ss same_d same_rs w = subst (λ x. AreWritable x ss) same_d (subst (AreWritable d) same_rs w)

pub written_as : (d e : DelimiterBytes) (rs ss : List RecordContent) (texts : List (List ℕ)) → d ≡ e → rs ≡ ss
    → texts ≡ map (written d) rs → texts ≡ map (written e) ss
written_as d e rs ss texts same_d same_rs w = w ∙ ap (map (written d)) same_rs ∙ ap (λ x. map (written x) ss) same_d

-- ---- going on after a failure

pub stopped_resumes : (m : MessageTree) (place skip : ℕ) (old new : Option (List ℕ)) (found : ℕ) (fault : WriteFault)
    → 1 ≤ place → place ≤ length (flatten m)
    → StoppedIn m.delimiters (drop (place - 1) (flatten m)) place skip old new found fault → CanResume m found fault
stopped_resumes m place skip old new found (write_faults.Io count) low high s = λ small.
    let all = flatten m in
    let exact : found ≡ place + s.0 = omega arith in
    let same : drop s.0 (drop (place - 1) all) ≡ drop (found - 1) all =
    drop-drop s.0 (place - 1) all ∙ ap (λ n. drop n all) (omega arith) in
    let fits : count < first_length m.delimiters (drop (found - 1) all) =
    subst (λ rs. count < first_length m.delimiters rs) same s.3 in
    (omega arith, omega (arith, length-drop (place - 1) all), omega arith)
stopped_resumes m place skip old new found (write_faults.CharNotText n) low high s = tt
stopped_resumes m place skip old new found write_faults.TooLong low high s = tt

pub wrote_resumes : (m : MessageTree) (place skip : ℕ) (old new : Option (List ℕ))
    (result : Result (Unit {0}) MessageWriteFault) → 1 ≤ place → place ≤ length (flatten m)
    → WroteRecords m.delimiters (drop (place - 1) (flatten m)) place skip old new result
    → IfErr result (λ f. CanResume m f.place f.fault)
wrote_resumes m place skip old new (Ok done) low high w = tt
wrote_resumes m place skip old new (Err f) low high w = stopped_resumes m place skip old new f.place f.fault low high w

pub refused_resumes : (m : MessageTree) (place : ℕ) (fault : WriteFault) → is_io (Err fault) ≡ false
    → CanResume m place fault
refused_resumes m place (write_faults.Io n) e = absurd cc
refused_resumes m place (write_faults.CharNotText n) e = tt
refused_resumes m place write_faults.TooLong e = tt

pub wrote_as : (d e : DelimiterBytes) (rs ss : List RecordContent) (place skip : ℕ) (old new : Option (List ℕ))
    (result : Result (Unit {0}) MessageWriteFault) → d ≡ e → rs ≡ ss → WroteRecords d rs place skip old new result
    → WroteRecords e ss place skip old new result
wrote_as d e rs ss place skip old new result same_d same_rs w =
    subst (λ x. WroteRecords x ss place skip old new result) same_d
    (subst (λ x. WroteRecords d x place skip old new result) same_rs w)

-- ---- by what is rejected of the message

keeps : (bytes : Option (List ℕ)) → Keeps bytes bytes
keeps None = tt
keeps (Some xs) = refl

abbrev reported_by : MessageTree → ℕ → ℕ → Option (List ℕ) → Option (List ℕ) → Result (Unit {0}) MessageWriteFault
    → Option MessageWriteFault → Type 0
reported_by m place skip old new result refusal =
    elim refusal [
      | None ↦ WroteRecords m.delimiters (drop (place - 1) (flatten m)) place skip old new result
      | Some fault ↦ (result ≡ Err fault) × Keeps old new
    ]

pub wrote_refused : (m : MessageTree) (place skip : ℕ) (bytes : Option (List ℕ)) (fault : MessageWriteFault)
    → write_refusal m ≡ Some fault → WroteMessage m place skip bytes bytes (Err fault)
wrote_refused m place skip bytes fault is =
    subst (reported_by m place skip bytes bytes (Err fault)) (sym is) (refl, keeps bytes)

pub wrote_rest : (m : MessageTree) (place skip : ℕ) (old new : Option (List ℕ))
    (result : Result (Unit {0}) MessageWriteFault) → write_refusal m ≡ None
    → WroteRecords m.delimiters (drop (place - 1) (flatten m)) place skip old new result
    → WroteMessage m place skip old new result
wrote_rest m place skip old new result is wrote = subst (reported_by m place skip old new result) (sym is) wrote

-- by other names
pub refusal_as : (d e : DelimiterBytes) (rs ss : List RecordContent) (refusal : Option MessageWriteFault) → d ≡ e
    → rs ≡ ss → refusal_from d 1 rs ≡ refusal → refusal_from e 1 ss ≡ refusal
refusal_as d e rs ss refusal same_d same_rs is =
    subst (λ x. refusal_from x 1 ss ≡ refusal) same_d (subst (λ x. refusal_from d 1 x ≡ refusal) same_rs is)
