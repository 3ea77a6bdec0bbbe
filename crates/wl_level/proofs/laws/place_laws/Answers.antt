use Rattle.wl_level.proofs.Places.{at_front, at_new, count_cong, run_front, run_at_front, run_more}
use Rattle.wl_level.proofs.FirstPlace.{first_is, first_found, first_none, none_first, first_cong}
use Rattle.wl_level.proofs.laws.place_laws.Goals as goal

pub returns : goal.returns
returns c = record {
  old_place = at_front;
  new_place = at_new;
  found = λ test n k. (first_is test n k, first_found test n k);
  none_found = λ test n. (first_none test n, none_first test n);
  found_below = first_cong;
  counted_below = count_cong;
  old_run = run_front;
  old_equal_run = run_at_front;
  new_run = run_more;
}
