use Rattle.wl_proved.proofs.Listening.{clean_beside}
use Rattle.wl_proved.proofs.beside.the_others_are_clean_beside_listeners.Goals as goal

pub returns : goal.returns
returns c = record {
  clean = λ plan other at checked is run. clean_beside plan other at (c.a_node_shows_the_same_beside_listeners.ensures plan other at checked is) run;
  proved = λ asked tick bus f text of told said plan other at checked is of_family.
      clean_beside plan other at (c.a_node_shows_the_same_beside_listeners.ensures plan other at checked is)
      (c.proved_means_clean.ensures.any asked tick bus f text of told said other of_family);
}
