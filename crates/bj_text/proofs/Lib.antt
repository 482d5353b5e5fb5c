-- Lemmas of the proofs.
pub mod Lists
pub mod Numerals
pub mod Sequences
pub mod Wraps
