pub mod Making
pub mod Placing
pub mod Rising
mod Putting
mod Giving
mod Found
mod Changed
pub mod Spared
pub mod Rows
pub mod Flushes
pub mod Forgetting
pub mod Fronts
pub mod RisingPuts
pub mod Standing
pub mod Flushed
pub mod Turns
mod Carrying
mod Carried
mod InPlace
pub mod Leading
pub mod Keeping
pub mod Ordered
pub mod Settled
pub mod Placed
pub mod Landed
pub mod Running
pub mod Apart
pub mod Finishing
pub mod Taking
pub mod Inside
pub mod Ending
pub mod Opening
pub mod Wires
pub mod Coming
pub mod Holding
pub mod Waiting
pub mod Wired
