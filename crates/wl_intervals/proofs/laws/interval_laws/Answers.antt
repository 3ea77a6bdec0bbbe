use Rattle.wl_intervals.proofs.PairLaws.{covers-append, AreFrom-append, AreFrom-front, free_before, free_behind, not_behind}
use Rattle.wl_intervals.proofs.SetLaws.{same_set}
use Rattle.wl_intervals.proofs.laws.interval_laws.Goals as goal

pub returns : goal.returns
returns c = record {
  one_list = same_set 0 0;
  both = covers-append;
  longer = λ ps from to h some behind. AreFrom-append 0 ps _ h (free_before ps from behind, some, tt);
  front = AreFrom-front 0;
  none_behind = λ ps t h behind. not_behind 0 ps t h (free_behind ps t behind);
}
