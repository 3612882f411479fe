-- The messages of the errors.
use Rattle.std.specs.Prelude.{ℕ, List, codes}
use Rattle.octets_literal.specs.ErrorTexts.{literal_error_text}
use Rattle.octets_lists.specs.declared.header_field.FieldError.{FieldError}
use Rattle.octets_lists.specs.declared.header_field.FieldError.TheVariants as Field
use Rattle.octets_lists.specs.declared.records.RecordsError.{RecordsError}
use Rattle.octets_lists.specs.declared.records.RecordsError.TheVariants as Records

abbrev pub records_error_text : RecordsError → List ℕ
records_error_text Records.Short = codes "the buffer ends within a record"
records_error_text Records.Memory = codes "out of memory"

abbrev pub field_error_text : FieldError → List ℕ
field_error_text Field.NotNew = codes "the first byte begins no field of a new name"
field_error_text (Field.Literal why) = literal_error_text why
