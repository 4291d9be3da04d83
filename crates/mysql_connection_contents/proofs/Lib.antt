pub mod Statements
pub mod Commands
pub mod Replies
pub mod Ids
pub mod Steps
pub mod Connections
pub mod Prepared
pub mod Runs
pub mod Streams
mod Hearing
mod Farewells
mod Putting
mod Events
mod Further
mod Saying
mod Joining
mod Promise
mod Histories
mod Parties
mod Fronts
mod Faults
mod Agreed
mod Speaking
mod Commanding
mod About
mod Counting
mod Going
mod Numbered
mod Knowing
mod Telling
mod Texts
mod Executing
mod PutValues
pub mod Example
mod ExampleCalls
