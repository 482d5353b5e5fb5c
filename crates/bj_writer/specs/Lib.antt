-- Texts that are written token by token.
pub mod Pieces
pub mod Tokens
