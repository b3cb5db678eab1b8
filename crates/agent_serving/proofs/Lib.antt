mod Queued
mod CallLists
mod Doing
mod GivenOut
mod Rows
mod Made
pub mod ServedSo
mod Boxes
mod Rooms
mod Told
mod Passes
mod Idling
mod Leaving
mod Apart
mod Telling
mod Given
mod Turns
pub mod Opening
pub mod TheLaws
