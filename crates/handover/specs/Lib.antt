pub mod BeltRule
pub mod Belts
pub mod TicketRule
pub mod Tickets
