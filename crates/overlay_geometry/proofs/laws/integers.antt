-- Whole numbers: what tests of them say, their order, and their sums and products.
pub mod Tests
pub mod Products
