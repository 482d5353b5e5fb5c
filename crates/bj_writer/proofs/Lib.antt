-- Lemmas of the proofs.
pub mod Behind
pub mod Conditions
pub mod Derived
pub mod Found
pub mod Joining
pub mod Marks
pub mod ReadBack
pub mod Signs
pub mod Whole
pub mod WholeTokens
pub mod Written
