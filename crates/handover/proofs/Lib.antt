pub mod BeltLemmas
mod SumLemmas
mod TicketLemmas
