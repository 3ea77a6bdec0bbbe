-- Up to the last sample, and what is left.
use Rattle.wl_node.proofs.Listening.{kept_more, progressed_more, keeps_more}
use Rattle.wl_node.proofs.progress.NodeProgress.through_kept_samples.Goals as goal

pub returns-clause-place : goal.returns-clause-place
returns-clause-place c setup =
    progressed_more setup c.args.level c.to_last_kept_sample-kept.result c.to_most.result c.args.self.now c.to_last_kept_sample-kept.new.self c.to_most.new.self
    (c.to_last_kept_sample-kept.ensures.place setup) (c.to_most.ensures.place setup)

pub returns-clause-drive : goal.returns-clause-drive
returns-clause-drive c setup =
    keeps_more setup c.args.level c.to_last_kept_sample-kept.result c.to_most.result c.args.self.now c.to_last_kept_sample-kept.new.self c.to_most.new.self
    (c.to_last_kept_sample-kept.ensures.place setup) (c.to_last_kept_sample-kept.ensures.drive setup) (c.to_most.ensures.drive setup)

pub returns-clause-keeps : goal.returns-clause-keeps
returns-clause-keeps c = kept_more c.to_last_kept_sample-kept.ensures.keeps c.to_most.ensures.keeps
