pub mod SameStates
pub mod CutLaws
pub mod HistoryLaws
pub mod StatesLaws
pub mod WorkedExamples
