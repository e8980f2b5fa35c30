-- Laws of calls: what a refusal means, what every event keeps, a blit from its start to its end; the examples of refusals.
pub mod Promised
pub mod RefusalLaws
pub mod AfterLaws
pub mod FitLaws
pub mod BlitEnds
pub mod ComputingCalls
pub mod ExamplesHold
