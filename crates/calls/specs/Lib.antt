-- What a call is refused with, leaves, answers and promises; lists of events.
pub mod Refusals
pub mod Calls
pub mod Promises
pub mod Sequences
pub mod RefusalExamples
