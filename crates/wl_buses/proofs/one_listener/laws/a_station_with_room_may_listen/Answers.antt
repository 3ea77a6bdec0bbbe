use Rattle.wl_buses.proofs.OneListener.Muted.{may_listen, rest_there}
use Rattle.wl_buses.proofs.one_listener.laws.a_station_with_room_may_listen.Goals as goal

pub returns-clause-may : goal.returns-clause-may
returns-clause-may c = λ s far winner chase are room none two wins answer eleven. may_listen s far are room none two winner wins chase answer eleven

pub returns-clause-rest : goal.returns-clause-rest
returns-clause-rest c = λ s far winner chase are room none two wins answer eleven rest. rest_there s far are room none two winner wins chase answer eleven rest
