-- What the contracts cite beside the model's definitions.
--     Tables   a job whose numbers stand in the fronts of tables
pub mod Tables
