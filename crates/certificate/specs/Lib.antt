-- Counterexamples to what the certificate (model/specs/Demand.antt) does not say.
pub mod Statements
pub mod Jobs
pub mod Counterexamples
