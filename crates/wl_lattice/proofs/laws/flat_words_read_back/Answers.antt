use Rattle.std.proofs.Common.{◌≡◌, refl}
use Rattle.wl_lattice.specs.declared.FlatWord.{FlatWord}
use Rattle.wl_lattice.specs.declared.FlatWord.TheVariants.{Nothing, Value, Clash}
use Rattle.wl_lattice.specs.Words.{joined_flat}
use Rattle.wl_lattice.specs.WordLaws.{value_from, clash_from, value_stays, value_kept}
use Rattle.wl_lattice.proofs.laws.flat_words_read_back.Goals as goal

clash_right : (b : FlatWord) → joined_flat b Clash ≡ Clash
clash_right Nothing = refl
clash_right (Value x) = refl
clash_right Clash = refl

pub returns : goal.returns
returns c = record {
  value_from = value_from;
  clash_from = clash_from;
  value_stays = value_stays;
  value_kept = value_kept;
  clash_stays = λ b. (refl, clash_right b);
}
