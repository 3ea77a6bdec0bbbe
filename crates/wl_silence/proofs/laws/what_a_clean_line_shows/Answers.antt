use Rattle.wl_silence.proofs.Shows.{shows}
use Rattle.wl_silence.proofs.laws.what_a_clean_line_shows.Goals as goal

pub returns : goal.returns
returns c = shows
