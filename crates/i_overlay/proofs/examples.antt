-- Worked examples of the definitions, which hold by computation.
pub mod LineNumbers
