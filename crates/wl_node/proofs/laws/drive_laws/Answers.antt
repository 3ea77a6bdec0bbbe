use Rattle.wl_node.proofs.LeavingDrives.{few_changes, most, quiet, stays}
use Rattle.wl_node.proofs.laws.drive_laws.Goals as goal

pub returns : goal.returns
returns c = record {
  quiet = quiet c.staying_laws.ensures;
  stays = stays c.staying_laws.ensures;
  most = most;
  few_changes = few_changes c.place_laws.ensures.counted_below c.the_sample_comes_near.ensures;
}
