pub mod Turns
pub mod LexTurns
pub mod Sound
pub mod Complete
pub mod LexSound
pub mod Wholes
pub mod CellTurns
pub mod CellLaws
