-- Lemmas on what only upstream has in public.
pub mod list
pub mod tree
