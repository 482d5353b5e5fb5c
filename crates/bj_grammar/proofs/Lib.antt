pub mod Terminals
pub mod Laws
pub mod LoopLemmas
pub mod TextLemmas
