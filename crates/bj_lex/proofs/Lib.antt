-- Lemmas of the proofs.
pub mod Runs
pub mod Bytes
pub mod Lengths
pub mod Letters
pub mod Complete
pub mod Shapes
pub mod Sound
pub mod Steps
pub mod Cases
pub mod DigitValues
pub mod LongestSigns
pub mod WordRuns
pub mod Faults
pub mod Chain
pub mod Walks
pub mod FaultElements
pub mod Reported
