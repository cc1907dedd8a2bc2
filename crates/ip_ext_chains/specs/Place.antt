-- The places of the code.
use Rattle.ip_spec.specs.Places as spec
use Rattle.ip_ext_chains.specs.declared.places.Place.{Place}
use Rattle.ip_ext_chains.specs.declared.places.Place.TheVariants.{HopByHop, Destination, Routing, Fragment, Authentication, FinalDestination}

abbrev pub as_place : Place → spec.Place
as_place HopByHop = spec.hop_by_hop
as_place Destination = spec.destination
as_place Routing = spec.routing
as_place Fragment = spec.fragment
as_place Authentication = spec.authentication
as_place FinalDestination = spec.final_destination
