-- Laws of lists of events that belong to no one function.
pub mod EventKinds
pub mod Playing
pub mod OrderOfCalls
pub mod StepsOfCalls
pub mod MasksOfCalls
