pub mod EachCommand
pub mod EachEvent
pub mod Found
pub mod TheLaws
