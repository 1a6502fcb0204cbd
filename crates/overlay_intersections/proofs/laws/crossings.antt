-- Where two segments meet, and how a point is placed.
pub mod Bits
pub mod Offsets
pub mod Rounding
pub mod RoundingMeanings
pub mod Lines
pub mod CollinearEnds
pub mod Crossings
pub mod ExactCrossings
pub mod SnappingPoints
pub mod TurnSigns
pub mod AnswerBranches
pub mod SnappedAnswers
pub mod AnswerMarks
pub mod CrossingLaws
