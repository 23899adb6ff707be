-- Laws of one record.
--     RecordRows  the rows of a record, as the code goes down them
pub mod RecordRows
