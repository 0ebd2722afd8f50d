pub mod Forms
pub mod Orders
pub mod Offsets
pub mod Bytes
pub mod Numbers
pub mod ClauseValues
pub mod Calm
pub mod LinesBack
pub mod Back
mod Gathers
mod Stops
mod Totals
mod Together
mod Alls
mod Strips
mod Asks
mod Looks
mod Walks
mod Strays
mod Finds
mod HeaderTable
mod Unread
