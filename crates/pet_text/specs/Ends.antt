-- Where datagrams come from or go to, as a word gives it and as a command takes it. This project's own.
use Rattle.outside_routes.specs.declared.route.Route.{Route}
use Rattle.outside_routes.specs.declared.route.Route.TheVariants as route
use Rattle.outside_routes.specs.Way.{Way, OnFile, OnLink}
use Rattle.pet_text.specs.declared.end.End.{End}
use Rattle.pet_text.specs.declared.end.End.TheVariants.{File, Udp}

abbrev pub way_in : End → Way
way_in (File name) = OnFile name
way_in (Udp address) = OnLink address

abbrev pub end_in : Route → End
end_in (route.File name) = File name.now
end_in (route.Udp address) = Udp address.now
