-- A node integrates exactly if it does so by what its machine says.
use Rattle.std.proofs.Common.{◌≡◌, ◌≢◌, true, false, List, refl}
use Rattle.wl_level.specs.declared.Level.{Level}
use Rattle.wl_machine.specs.declared.doing.Doing.TheVariants as doings
use Rattle.wl_machine.specs.declared.state.Role.{Role}
use Rattle.wl_machine.specs.declared.state.Role.TheVariants.{Tx, Rx}
use Rattle.wl_machine.specs.Stretch.{Flag, Sort}
use Rattle.wl_machine.specs.Stretch.Flag.{ActiveFlag, OverloadFlag, PassiveFlag}
use Rattle.wl_machine.specs.Stretch.Sort.{Integration, Idle, Framing, Flagging, Waiting, Delimiting, Intermission, Suspension, OffBus}
use Rattle.wl_machine.specs.Doing.{doing_as, doing_by, flag_doing}
use Rattle.wl_machine.specs.Frames.{frame_role}
use Rattle.wl_node.specs.History.{is_integration}

role_not : (role : Role) → doing_as role ≢ doings.Integrating
role_not Tx e = cc
role_not Rx e = cc

flag_not : (flag : Flag) → flag_doing flag ≢ doings.Integrating
flag_not ActiveFlag e = cc
flag_not OverloadFlag e = cc
flag_not (PassiveFlag unacknowledged) e = cc

pub integrates_then : (sort : Sort) (own : List Level) → doing_by sort own ≡ doings.Integrating → true ≡ is_integration sort
integrates_then Integration own e = refl
integrates_then Idle own e = cc
integrates_then (Framing head) own e = absurd (role_not (frame_role head own) e)
integrates_then (Flagging flag role) own e = absurd (flag_not flag e)
integrates_then (Waiting flag role flagged) own e = cc
integrates_then (Delimiting role) own e = cc
integrates_then (Intermission role) own e = cc
integrates_then Suspension own e = cc
integrates_then OffBus own e = cc

pub integrates_else : (sort : Sort) (own : List Level) → doing_by sort own ≢ doings.Integrating → false ≡ is_integration sort
integrates_else Integration own h = absurd (h refl)
integrates_else Idle own h = refl
integrates_else (Framing head) own h = refl
integrates_else (Flagging flag role) own h = refl
integrates_else (Waiting flag role flagged) own h = refl
integrates_else (Delimiting role) own h = refl
integrates_else (Intermission role) own h = refl
integrates_else Suspension own h = refl
integrates_else OffBus own h = refl
