use Rattle.wl_hub.proofs.Shapes.{has_edge, has_silence}
use Rattle.wl_hub.proofs.hub.Hub.has_word.Goals as goal

pub returns-in-EdgeAt : goal.returns-in-EdgeAt
returns-in-EdgeAt g c =
    has_edge c.args.self.now.shape.items c.as_slice.result.now c.args.slot c.in-EdgeAt.node c.in-EdgeAt.seq c.words_of.result.0 c.as_slice.ensures.value c.in-EdgeAt.is c.words_of.ensures.edges

pub returns-in-SilenceAt : goal.returns-in-SilenceAt
returns-in-SilenceAt g c =
    has_silence c.args.self.now.shape.items c.as_slice-in-SilenceAt.result.now c.args.slot c.in-SilenceAt.node c.in-SilenceAt.count c.words_of-in-SilenceAt.result.1 c.as_slice-in-SilenceAt.ensures.value c.in-SilenceAt.is c.words_of-in-SilenceAt.ensures.silences
