-- Heights, columns, chains, and windings along them.
pub mod WeightSums
pub mod BalancedSums
pub mod Heights
pub mod ColumnLines
pub mod ColumnOrder
pub mod Parity
pub mod Chains
pub mod AlongSegments
pub mod Members
pub mod ChainSums
pub mod Tops
