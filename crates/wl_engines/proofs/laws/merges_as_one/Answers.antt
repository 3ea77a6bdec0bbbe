use Rattle.wl_engines.proofs.MergeLaws.{merging}
use Rattle.wl_engines.proofs.laws.merges_as_one.Goals as goal

pub returns : goal.returns
returns c = λ limits.
    merging limits (c.spelling_law.ensures limits) (c.text_law.ensures limits) c.same_records_same_state.ensures c.merging_is_appending.ensures c.canonical_stays_a_text.ensures
