use Rattle.wl_sync.specs.SampleLaws.{SampleLaws}
use Rattle.wl_machine.specs.Silence.{SilenceLaws}
use Rattle.wl_node.proofs.Drives.{settled, quiet, floor}
use Rattle.wl_node.proofs.Standing.{stands_at}
use Rattle.wl_node.proofs.laws.staying_laws.Goals as goal

pub returns : goal.returns
returns c =
    let ways : SampleLaws = c.the_sample_comes_near.ensures in
    let silences : SilenceLaws = c.a_silence_is_kept.ensures in
    record {
      settled = settled ways;
      quiet = λ setup. quiet silences ways setup c.a_sent_frame_is_the_head_that_began_its_stretch.ensures;
      stays = stands_at c.a_rest_is_kept.ensures silences ways c.recessive_samples_are_bits_apart.ensures c.a_sent_frame_is_the_head_that_began_its_stretch.ensures;
      floor = floor ways;
    }
