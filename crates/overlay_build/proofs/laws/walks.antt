-- Walks along the links of a graph, and contours with loops.
pub mod Walks
pub mod WalkSteps
pub mod DirectedSteps
pub mod Flows
pub mod Contours
pub mod ContourLoops
