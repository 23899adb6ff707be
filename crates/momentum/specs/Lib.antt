-- What the momentum's contracts cite beside the model's definitions.
pub mod Reciprocal
