pub mod Numbers
pub mod Header
pub mod Segments
pub mod Fault
pub mod Image
pub mod Laws
