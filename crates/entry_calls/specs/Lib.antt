-- What is proved of calls of the entry.
pub mod Apart
pub mod Joined
pub mod StarredCalls
