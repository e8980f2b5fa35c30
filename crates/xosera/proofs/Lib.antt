-- What is proved of the definitions: the worked examples, and the laws that the layers above cite. A law is named by its subject,
-- what is done to it, and what then holds, as `stepped-in-range` or `launched-left`.
pub mod Branches
pub mod Tables
pub mod FilledLists
pub mod Quotients
pub mod Computing
pub mod ExamplesHold
pub mod MaskLaws
pub mod EngineLaws
pub mod XrLaws
pub mod WordLaws
pub mod StepCases
pub mod RangeLaws
pub mod BeamLaws
pub mod PlanLaws
pub mod StepLaws
pub mod MainRegisters
pub mod Results
