pub mod Lists
pub mod Routes
pub mod Carried
pub mod Queued
pub mod Pieces
pub mod Repeats
pub mod Kept
pub mod Sizes
mod Calls
mod Bytes
mod Clients
pub mod Pasts
mod Emptying
pub mod Agents
mod Numbers
mod Pairs
mod Shut
mod Waiting
mod Opened
mod Settled
mod Unawaited
mod Steady
mod Ways
mod Talks
mod Fitting
mod Chains
mod Keeping
mod Cutting
mod Steps
mod Places
mod Worlds
mod Reaching
mod Opening
mod Gave
mod Following
mod Playing
pub mod Counted
mod Inboxes
mod Until
mod AddTurns
mod AddsUntil
mod AgentTurns
mod AgentUntil
pub mod TheLaws
