pub mod Flags
pub mod Numbers
pub mod AllLists
pub mod Contained
pub mod Lists
pub mod Fronts
pub mod Splits
