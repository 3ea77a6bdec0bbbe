use Rattle.wl_sync.proofs.Ways.{way_at_first, way_some, way_few, way_least, way_start, way_sampled, way_sample, way_behind, way_near}
use Rattle.wl_sync.proofs.laws.the_sample_comes_near.Goals as goal

pub returns : goal.returns
returns c = record {
  at_first = way_at_first;
  some = way_some;
  few = way_few;
  least = way_least;
  start = way_start;
  sampled = way_sampled;
  sample = way_sample;
  after = way_behind;
  near = way_near;
}
