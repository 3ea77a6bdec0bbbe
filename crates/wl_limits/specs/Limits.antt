-- The limits of plans and their parts (this project's profile): of plan texts of versions 1 to 3, and of version 4.
use Rattle.std.specs.Prelude.{ℕ}
use Rattle.wl_limits.specs.declared.Limits.{Limits}
use Rattle.wl_limits.specs.declared.Limits.TheVariants.{Narrow, Wide}
use Rattle.wl_limits.specs.declared.TheConstants.{MOST_RUN_QUANTA}

-- the most quanta that a node runs, and the last quantum of which a clock gives the tick
abbrev pub most_run_quanta : ℕ
most_run_quanta = MOST_RUN_QUANTA

-- the latest tick at which quantum 0 may begin
abbrev pub offset_limit : Limits → ℕ
offset_limit Narrow = 1048576
offset_limit Wide = 17179869184

-- the last quantum with which a rate may begin
abbrev pub from_limit : Limits → ℕ
from_limit Narrow = 1048576
from_limit Wide = 1073741824

-- the most nodes of a bus
abbrev pub node_limit : Limits → ℕ
node_limit Narrow = 16
node_limit Wide = 64

-- the latest tick at which a plan or a disturbance may end
abbrev pub end_limit : Limits → ℕ
end_limit Narrow = 68719476736
end_limit Wide = 1099511627776

-- the most quanta of a node before the end of a plan
abbrev pub quanta_limit : Limits → ℕ
quanta_limit Narrow = 1048576
quanta_limit Wide = 1073741824

-- the most quanta of a node that may sample every third quantum
abbrev pub short_quanta_limit : Limits → ℕ
short_quanta_limit Narrow = 786432
short_quanta_limit Wide = 805306368

-- the most changes of a node that records name
abbrev pub edge_limit : Limits → ℕ
edge_limit Narrow = 262145
edge_limit Wide = 268435457

-- the most frames that wait at a node
abbrev pub queue_limit : Limits → ℕ
queue_limit Narrow = 4096
queue_limit Wide = 65536

-- the most disturbances of a plan
abbrev pub disturbance_limit : Limits → ℕ
disturbance_limit Narrow = 64
disturbance_limit Wide = 256
