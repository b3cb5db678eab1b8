mod Standing
mod Lining
mod Ending
mod Saying
mod Silence
mod Keeping
pub mod Gathering
mod Asking
mod Heeding
mod Served
mod NothingLeft
mod Running
mod Calling
mod Reporting
pub mod TheLaws
