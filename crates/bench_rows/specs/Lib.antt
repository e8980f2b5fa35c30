-- The bench table, and the further examples of whole calls.
pub mod BenchTable
pub mod BenchRows
pub mod Examples
pub mod BeamExamples
