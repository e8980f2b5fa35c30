-- Laws of a room that is filled part after part, of states at rest, and of what a file is tested for.
mod RoomLaws
mod RestingStates
mod SavedTests
