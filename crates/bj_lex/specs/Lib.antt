-- The lexical grammar [JLS 3].
pub mod Characters
pub mod Comments
pub mod Elements
pub mod Grammar
pub mod Literals
pub mod Numerals
pub mod Places
pub mod Signs
pub mod Texts
pub mod Values
pub mod Words
