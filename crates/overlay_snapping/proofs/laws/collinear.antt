-- Segments that overlap along lines: the pieces between their ends are split as they are, where no crossing is rounded.
pub mod Narrowings
pub mod Resolving
pub mod Walking
pub mod SmallSums
pub mod JoinedPieces
pub mod Settled
pub mod Pieces
pub mod Ends
pub mod SettledSnaps
