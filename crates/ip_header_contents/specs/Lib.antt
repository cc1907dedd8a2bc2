pub mod Options
pub mod Routing
pub mod RoutingAddresses
