-- Worked examples of the definitions, which hold by computation.
pub mod Texts
pub mod Words
