pub mod Modes
pub mod OnAnswers
pub mod ObjectSets
pub mod Deliveries
pub mod WritingTo
pub mod OneKind
