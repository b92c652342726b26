use Rattle.std.proofs.Common.{[], ◌∷◌}
use Rattle.lis_record_read.proofs.Components.{IsComponent-symbols_of, symbols_of-IsComponent}
use Rattle.lis_record.proofs.RecordTexts.{AreFieldTexts-fields_of, AreFieldTexts-none, IsField-repeats_of}
use Rattle.lis_record.proofs.RecordTexts.{IsRepeat-components_of, components_of-IsRepeat, fields_of-AreFieldTexts}
use Rattle.lis_record.proofs.RecordTexts.{repeats_of-IsField}
use Rattle.lis_record.proofs.laws.front_reading.Goals as goal

pub returns-clause-component : goal.returns-clause-component
returns-clause-component c = λ d text symbols good.
    (symbols_of-IsComponent d good text symbols, λ is. rw is (IsComponent-symbols_of d good text))

pub returns-clause-repeat : goal.returns-clause-repeat
returns-clause-repeat c = λ d text components good.
    (components_of-IsRepeat d good text components, λ is. rw is (IsRepeat-components_of d good text))

pub returns-clause-field : goal.returns-clause-field
returns-clause-field c = λ d text repeats good.
    (repeats_of-IsField d good text repeats, λ is. rw is (IsField-repeats_of d good text))

pub returns-clause-fields : goal.returns-clause-fields
returns-clause-fields c = λ d bytes fields good.
    (fields_of-AreFieldTexts d good (d.field ∷ bytes) fields, λ is. rw is (AreFieldTexts-fields_of d good bytes))

pub returns-clause-no_field : goal.returns-clause-no_field
returns-clause-no_field c = λ d fields good.
    (fields_of-AreFieldTexts d good [] fields, λ is. rw is (AreFieldTexts-none d good))
